-- The refusal numbers (R10.1 to R10.8, R10.14), and what a refusal 4 carries where there is no digit number.
use Rattle.std.specs.Prelude.{ℕ}
use Rattle.model.specs.declared.Cause.{Cause}
use Rattle.model.specs.declared.Cause.TheVariants.{BadFile, CutFile, IllegalName, ManyStrings, NoFreeSlot, OlderRun, ShortOutput, StaleTrie, WrongSize}

abbrev pub number : Cause → ℕ
number IllegalName = 1
number BadFile = 2
number CutFile = 3
number (StaleTrie k) = 4
number NoFreeSlot = 5
number ManyStrings = 6
number ShortOutput = 7
number WrongSize = 8
number OlderRun = 12

-- R10.13: the trie is stale, and no bound of a bucket that was read is broken.
abbrev pub stale_trie : Cause
stale_trie = StaleTrie 255
