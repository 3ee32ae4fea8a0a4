-- `slots::spot::Spot::replaced` meets its contract.
use Rattle.model.proofs.Format.{bytes_each}
use Rattle.slots.proofs.Spots.{entry_replaced}
use Rattle.slots.proofs.spot.Spot.replaced.Goals as goal

pub returns : goal.returns
returns c l u es r g S o f h =
    let n = c.row.ensures in let a = c.args in let s = a.self.now.slot in
    c.rewritten.ensures l u es _ r (rw (c.with_entry-row.ensures, n.0, n.1, n.2)
    (entry_replaced s.layout s.bytes.now s.of_size (bytes_each s.bytes.now s.each) r a.self.now a.name.now S _ o g h f))
