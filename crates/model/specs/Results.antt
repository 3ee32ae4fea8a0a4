-- What the calls answer: a refusal with its cause, or what was done; and a name for each case.
use Rattle.std.specs.Prelude.{Option as Maybe, Some, None, Result, Ok, Err, ℕ}
use Rattle.model.specs.declared.Cause.{Cause}
use Rattle.model.specs.declared.Content.{Content}
use Rattle.model.specs.declared.Put.{Put}
use Rattle.model.specs.declared.Put.TheVariants.{Added as added, Replaced as replaced, Stopped as put_stopped}
use Rattle.model.specs.declared.Removal.{Removal}
use Rattle.model.specs.declared.Removal.TheVariants.{Absent as absent, Removed as removed, Stopped as removal_stopped}
use Rattle.model.specs.declared.Recovery.{Recovery}
use Rattle.model.specs.declared.Recovery.TheVariants.{Freed as freed, Nothing as nothing, Stopped as recovery_stopped}

abbrev pub LookUpAnswer : Type 0
LookUpAnswer = Result (Maybe Content) Cause

abbrev pub PutAnswer : Type 0
PutAnswer = Result Put Cause

abbrev pub RemoveAnswer : Type 0
RemoveAnswer = Result Removal Cause

abbrev pub RecoverAnswer : Type 0
RecoverAnswer = Result Recovery Cause

abbrev pub ListAnswer : Type 0
ListAnswer = Result ℕ Cause

abbrev pub TrieAnswer : Type 0
TrieAnswer = Result (Unit {0}) Cause

-- Found with what is held; by its value and its run.
pattern abbrev pub FoundContent : Content → LookUpAnswer
FoundContent c = Ok (Some c)

abbrev pub Found : ℕ → ℕ → LookUpAnswer
Found v r = FoundContent (record { value = v; run = r })

pattern abbrev pub NotFound : LookUpAnswer
NotFound = Ok None

pattern abbrev pub LookUpRefused : Cause → LookUpAnswer
LookUpRefused c = Err c

pattern abbrev pub Added : PutAnswer
Added = Ok added

-- Replaced with what was held; by its value and its run.
pattern abbrev pub ReplacedContent : Content → PutAnswer
ReplacedContent c = Ok (replaced c)

abbrev pub Replaced : ℕ → ℕ → PutAnswer
Replaced v r = ReplacedContent (record { value = v; run = r })

pattern abbrev pub PutStopped : ℕ → PutAnswer
PutStopped n = Ok (put_stopped n)

pattern abbrev pub PutRefused : Cause → PutAnswer
PutRefused c = Err c

pattern abbrev pub Removed : ℕ → RemoveAnswer
Removed k = Ok (removed k)

pattern abbrev pub NotHeld : RemoveAnswer
NotHeld = Ok absent

pattern abbrev pub RemoveStopped : ℕ → RemoveAnswer
RemoveStopped n = Ok (removal_stopped n)

pattern abbrev pub RemoveRefused : Cause → RemoveAnswer
RemoveRefused c = Err c

pattern abbrev pub Freed : ℕ → RecoverAnswer
Freed k = Ok (freed k)

pattern abbrev pub Nothing : RecoverAnswer
Nothing = Ok nothing

pattern abbrev pub RecoverStopped : ℕ → RecoverAnswer
RecoverStopped n = Ok (recovery_stopped n)

pattern abbrev pub RecoverRefused : Cause → RecoverAnswer
RecoverRefused c = Err c

pattern abbrev pub Listed : ℕ → ListAnswer
Listed n = Ok n

pattern abbrev pub ListRefused : Cause → ListAnswer
ListRefused c = Err c

pattern abbrev pub Given : TrieAnswer
Given = Ok tt

pattern abbrev pub TrieRefused : Cause → TrieAnswer
TrieRefused c = Err c
