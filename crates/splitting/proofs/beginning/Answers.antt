-- `beginning` meets its contract.
use Rattle.model.proofs.Prelude.{arith}
use Rattle.splitting.proofs.Halving.{string_copied}
use Rattle.splitting.proofs.beginning.Goals as goal

pub returns : goal.returns
returns c = string_copied c.args.len c.args.name.now _ c.requires (omega arith) c.copy_from_slice.ensures.after
