-- `is_placed` meets its contract.
use Rattle.model.proofs.Prelude.{arith, clash, eqb-true}
use Rattle.surveying.proofs.row.is_placed.Goals as goal

pub returns-then-count-place : goal.returns-then-count-place
returns-then-count-place c t = clash cc

pub returns : goal.returns
returns c t = (_, omega arith, eqb-true _ _ t)
