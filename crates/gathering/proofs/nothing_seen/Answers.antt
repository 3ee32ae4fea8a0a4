-- `gathering::nothing_seen` meets its contract.
use Rattle.gathering.proofs.Names.{clean_start, replicate_most}
use Rattle.gathering.proofs.nothing_seen.Goals as goal

pub returns : goal.returns
returns c = (clean_start, replicate_most 32 0x7D)
