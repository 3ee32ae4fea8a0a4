-- What the calls say in the C interface: for each answer its number and its values.
use Rattle.std.specs.Prelude.{List, [], ◌∷◌, ℕ}
use Rattle.model.specs.declared.Cause.{Cause}
use Rattle.model.specs.declared.Cause.TheVariants.{BadFile, CutFile, IllegalName, ManyStrings, NoFreeSlot, OlderRun, ShortOutput, StaleTrie, WrongSize}
use Rattle.model.specs.Results.{Added, FoundContent, Freed, Given, ListAnswer, ListRefused, Listed, LookUpAnswer, LookUpRefused, NotFound, NotHeld, Nothing, PutAnswer, PutRefused, PutStopped, RecoverAnswer, RecoverRefused, RecoverStopped, RemoveAnswer, RemoveRefused, RemoveStopped, Removed, ReplacedContent, TrieAnswer, TrieRefused}
use Rattle.model.specs.Checks.{Kind, is_bad, is_cut, is_sound}
use Rattle.model.specs.Answers.{number}

-- An answer's number in the C interface, and its values.
abbrev pub Saying : Type 0
Saying = ℕ × List ℕ

-- R10.11 and R10.13: a refusal is its number and nothing else, but 4 carries a digit number or 255.
abbrev pub carried : Cause → List ℕ
carried IllegalName = []
carried BadFile = []
carried CutFile = []
carried (StaleTrie k) = k ∷ []
carried NoFreeSlot = []
carried ManyStrings = []
carried ShortOutput = []
carried WrongSize = []
carried OlderRun = []

abbrev pub refused_with : Cause → Saying
refused_with c = (number c, carried c)

-- R11.11: found with value and run, or absent.
abbrev pub said_by_look_up : LookUpAnswer → Saying
said_by_look_up (FoundContent c) = (100, c.value ∷ c.run ∷ [])
said_by_look_up NotFound = (101, [])
said_by_look_up (LookUpRefused c) = refused_with c

-- R7.2 and R7.8: added; R7.9: replaced, with the old value and run; R7.12: stopped, with the number of stores made.
abbrev pub said_by_put : PutAnswer → Saying
said_by_put Added = (110, [])
said_by_put (ReplacedContent c) = (111, c.value ∷ c.run ∷ [])
said_by_put (PutStopped n) = (112, n ∷ [])
said_by_put (PutRefused c) = refused_with c

-- R7.10: removed, without a value; R7.11: absent.
abbrev pub said_by_remove : RemoveAnswer → Saying
said_by_remove (Removed k) = (120, [])
said_by_remove NotHeld = (101, [])
said_by_remove (RemoveStopped n) = (112, n ∷ [])
said_by_remove (RemoveRefused c) = refused_with c

-- R9.3: recover frees N and names it; on a sound file there is nothing to do.
abbrev pub said_by_recover : RecoverAnswer → Saying
said_by_recover (Freed k) = (130, k ∷ [])
said_by_recover Nothing = (131, [])
said_by_recover (RecoverStopped n) = (112, n ∷ [])
said_by_recover (RecoverRefused c) = refused_with c

-- R9.2: sound, cut or bad.
abbrev pub said_by_check : Kind → Saying
said_by_check is_sound = (140, [])
said_by_check (is_cut N) = (141, [])
said_by_check is_bad = (142, [])

-- Create and rebuild, which give a trie.
abbrev pub said_by_create : TrieAnswer → Saying
said_by_create Given = (150, [])
said_by_create (TrieRefused c) = refused_with c

abbrev pub said_by_rebuild : TrieAnswer → Saying
said_by_rebuild Given = (151, [])
said_by_rebuild (TrieRefused c) = refused_with c

-- R9.8: list answers how many entries it wrote.
abbrev pub said_by_list : ListAnswer → Saying
said_by_list (Listed n) = (152, n ∷ [])
said_by_list (ListRefused c) = refused_with c
