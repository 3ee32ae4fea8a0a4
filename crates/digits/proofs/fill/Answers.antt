-- `digits::fill` meets its contract.
use Rattle.model.proofs.Prelude.{arith}
use Rattle.digits.proofs.Bytes.{fill_is}
use Rattle.digits.proofs.fill.Goals as goal

pub returns : goal.returns
returns c = fill_is c.args.n (omega arith)
