-- `shared_with` meets its contract.
use Rattle.growth.proofs.shared_with.Goals as goal

pub returns : goal.returns
returns c = (c.shared.ensures.0, c.shared.ensures.2)
