-- `starts_of` meets its contract: the starts before i are right.
use Rattle.model.proofs.Prelude.{◌≡◌, length}
use Rattle.rebuilding.specs.Starts.{Starts}
use Rattle.rebuilding.proofs.starts_of.Given as goal

abbrev pub invariant-loop-i : goal.invariant-loop-i
invariant-loop-i l = (length l.starts ≡ 256) × Starts l.lens l.starts l.i
