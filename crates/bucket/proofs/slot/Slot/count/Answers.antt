-- `Slot::count` meets its contract.
use Rattle.model.proofs.Prelude.{arith}
use Rattle.std.proofs.lemmas.Bool.Decides.{nat_tests}
use Rattle.bucket.specs.Slots.{count_at}
use Rattle.bucket.proofs.slot.Slot.count.Goals as goal

pub returns : goal.returns
unfolding count_at
returns c = (grind (arith, nat_tests), omega arith)
