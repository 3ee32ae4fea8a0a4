-- `Slot::first` meets its contract.
use Rattle.model.proofs.Prelude.{refl}
use Rattle.model.proofs.Lists.{rest}
use Rattle.bucket.proofs.slot.Slot.first.Goals as goal

pub returns : goal.returns
returns c = (rest 64 c.args.self.now.bytes.now, c.entry_size.ensures.0, refl, c.entry_size.ensures.1)
