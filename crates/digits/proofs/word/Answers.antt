-- `digits::word` meets its contract.
use Rattle.model.proofs.Prelude.{◌∙◌, arith}
use Rattle.digits.proofs.Bytes.{value_eight}
use Rattle.digits.proofs.word.Goals as goal

pub returns : goal.returns
returns c = c.from_be_bytes.ensures ∙ value_eight c.args.s.now c.args.at (omega arith)
