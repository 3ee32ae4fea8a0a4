-- `under` meets its contract.
use Rattle.file.proofs.Laws.{some_slot}
use Rattle.surveying.proofs.row.under.Goals as goal

pub loop-spot-init : goal.loop-spot-init
loop-spot-init c = tt

pub returns-then-size-k : goal.returns-then-size-k
returns-then-size-k c = (some_slot _ c.args.size c.requires).0

pub loop-spot-preserved : goal.loop-spot-preserved
loop-spot-preserved c = tt

pub returns : goal.returns
returns c = (some_slot _ c.args.size c.requires).0
