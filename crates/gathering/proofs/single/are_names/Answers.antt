-- `are_names` meets its contract.
use Rattle.model.proofs.Prelude.{eqb-true}
use Rattle.gathering.proofs.single.are_names.Goals as goal

pub returns : goal.returns
returns c t = (c.with_names.ensures.0 (c.faults.ensures.0 (eqb-true _ 0 t))).1
