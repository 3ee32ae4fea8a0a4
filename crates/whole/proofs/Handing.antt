-- What `ok_or` and `?` hand on.
use Rattle.std.specs.Prelude.{Err, IsErrAnd, None, Ok, Option as Maybe, Result, Some, ok_or}
use Rattle.std.specs.Result.{result_ok}
use Rattle.model.proofs.Prelude.{◌≡◌, refl}

-- what was asked for is there, or lacks and is refused
pub there : {T E : Type 0} {h : Maybe T} {r : Result T E} {x : T} → h ≡ result_ok r → r ≡ Ok x → h ≡ Some x
there e f = rw f at e

pub lacking : {T E : Type 0} (h : Maybe T) {r : Result T E} {cause e : E} → r ≡ ok_or h cause → r ≡ Err e → (h ≡ None) × (cause ≡ e)
lacking {T} {E} None p q = (refl, cc)
lacking {T} {E} (Some s) {r} {cause} {e} p q = let f : ◌≡◌ {A = Result T E} (Ok s) (Err e) = cc in cc

-- the error that is handed on
pub error_is : {T E : Type 0} (r : Result T E) {e : E} → IsErrAnd r (λ f. f ≡ e) → r ≡ Err e
error_is (Ok x) a = absurd a
error_is (Err f) a = rw a
