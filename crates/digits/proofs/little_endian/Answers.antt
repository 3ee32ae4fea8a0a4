-- `digits::little_endian` meets its contract.
use Rattle.model.proofs.Prelude.{◌∙◌, arith}
use Rattle.digits.proofs.Bytes.{value_of_eight}
use Rattle.digits.proofs.little_endian.Goals as goal

pub returns : goal.returns
returns c = c.from_le_bytes.ensures ∙ value_of_eight c.args.s.now c.args.at (omega arith)
