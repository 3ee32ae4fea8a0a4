-- `is_filled` meets its contract.
use Rattle.model.proofs.Prelude.{◌^◌, arith, eqb-true}
use Rattle.gathering.proofs.Legal.{clean_name}
use Rattle.gathering.proofs.single.is_filled.Goals as goal

pub returns : goal.returns
returns c t = clean_name c.args.name.now (2 ^ 63) c.requires (c.byte_faults.ensures.0 (eqb-true _ 0 t) (2 ^ 63) (omega arith))
