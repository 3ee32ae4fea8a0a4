-- `pal_check` says what check finds.
use Rattle.model.proofs.Prelude.{refl}
use Rattle.capi.proofs.Doors.{check_said}
use Rattle.capi.proofs.pal_check.Goals as goal

pub returns-in-Ok : goal.returns-in-Ok
returns-in-Ok c = check_said _ c.in-Ok.is c.check.ensures refl

pub returns-in-Err-Cut : goal.returns-in-Err-Cut
returns-in-Err-Cut c = check_said _ (rw c.in-Err-Cut.field-0-is at c.in-Err-Cut.is) c.check.ensures refl

pub returns-in-Err-Bad : goal.returns-in-Err-Bad
returns-in-Err-Bad c = check_said _ (rw c.in-Err-Bad.field-0-is at c.in-Err-Bad.is) c.check.ensures refl
