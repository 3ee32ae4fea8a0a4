-- `pal_recover` meets its contract.
use Rattle.model.proofs.Prelude.{refl}
use Rattle.capi.proofs.Doors.{done, recover_said}
use Rattle.capi.proofs.pal_recover.Goals as goal

pub returns-in-Ok-Freed : goal.returns-in-Ok-Freed
returns-in-Ok-Freed c =
    recover_said _ _ _ (done c.in-Ok-Freed.is c.in-Ok-Freed.field-0-is) c.recover.ensures refl refl

pub returns-in-Ok-Nothing : goal.returns-in-Ok-Nothing
returns-in-Ok-Nothing c =
    recover_said _ _ _ (done c.in-Ok-Nothing.is c.in-Ok-Nothing.field-0-is) c.recover.ensures refl refl

pub returns-in-Ok-Stopped : goal.returns-in-Ok-Stopped
returns-in-Ok-Stopped c =
    recover_said _ _ _ (done c.in-Ok-Stopped.is c.in-Ok-Stopped.field-0-is) c.recover.ensures refl refl

pub returns-in-Err : goal.returns-in-Err
returns-in-Err c =
    recover_said _ _ _ c.in-Err.is c.recover.ensures c.refused.ensures.0 c.refused.ensures.1
