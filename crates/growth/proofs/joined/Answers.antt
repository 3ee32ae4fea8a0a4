-- `joined` meets its contract.
use Rattle.growth.specs.Parts.{side_joined}
use Rattle.growth.proofs.joined.Goals as goal

pub returns-in-Left : goal.returns-in-Left
unfolding side_joined
returns-in-Left c = rw c.in-Left.is

pub returns-in-Right : goal.returns-in-Right
unfolding side_joined
returns-in-Right c = rw c.in-Right.is
