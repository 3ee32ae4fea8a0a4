-- What the answers of the crates below say, once it is known which answer was given.
use Rattle.std.specs.Prelude.{Err, IsErrAnd, None, Ok, Option as Maybe, Result, Some, ok_or}
use Rattle.std.specs.Result.{result_ok}
use Rattle.model.proofs.Prelude.{List, ◌≡◌, false, refl, subst, ℕ}
use Rattle.digits.specs.declared.Key.{Key}
use Rattle.digits.specs.Keys.{NamingTold}
use Rattle.checking.specs.declared.Checked.{Checked}
use Rattle.model.specs.declared.Cause.{Cause}
use Rattle.checking.specs.Ready.{Passed}
use Rattle.model.specs.declared.Trie.{Trie}
use Rattle.model.specs.Tests.{is_legal_name}
use Rattle.model.specs.Calls.{looked_of, refusing}

-- what was asked for by `ok_or` and `?` is there, or lacks and is refused
pub there : {T E : Type 0} {h : Maybe T} {r : Result T E} {x : T} → h ≡ result_ok r → r ≡ Ok x → h ≡ Some x
there e f = rw f at e

pub lacking : {T E : Type 0} (h : Maybe T) {r : Result T E} {cause e : E} → r ≡ ok_or h cause → r ≡ Err e → (h ≡ None) × (cause ≡ e)
lacking {T} {E} None p q = (refl, cc)
lacking {T} {E} (Some s) {r} {cause} {e} p q = let f : ◌≡◌ {A = Result T E} (Ok s) (Err e) = cc in cc

-- the error that `?` hands on
pub error_is : {T E : Type 0} (r : Result T E) {e : E} → IsErrAnd r (λ f. f ≡ e) → r ≡ Err e
error_is (Ok x) a = absurd a
error_is (Err f) a = rw a

-- a refusal that was handed on
pub handed_on : (r : Result Checked Cause) {cause : Cause} (xs : List ℕ) (t : Trie) → IsErrAnd r (λ e. e ≡ cause) → looked_of xs t ≡ refusing cause → Passed r xs t
handed_on (Ok c) xs t a h = absurd a
handed_on (Err e) xs t a h = rw a h

-- which way the test of a name went
module _ (r : Maybe Key) (n x : List ℕ) (h : NamingTold r n x) where
  pub naming_legal : {k : Key} → r ≡ Some k → NamingTold (Some k) n x
  naming_legal e = subst (λ (z : Maybe Key). NamingTold z n x) e h

  pub naming_illegal : r ≡ None → is_legal_name n ≡ false
  naming_illegal e = subst (λ (z : Maybe Key). NamingTold z n x) e h
