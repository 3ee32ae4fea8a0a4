-- `slots::spot::Spot::overfull` meets its contract.
use Rattle.model.proofs.Format.{bytes_each}
use Rattle.slots.proofs.Spots.{entry_added, row_of}
use Rattle.slots.proofs.spot.Spot.overfull.Goals as goal

pub returns : goal.returns
returns c l u es r g S f h =
    let n = c.row.ensures in let a = c.args in let s = a.self.now.slot in
    row_of s.layout _ _ (rw (c.with_entry.ensures, n.0, n.1, n.2)
    (entry_added s.layout s.bytes.now s.of_size (bytes_each s.bytes.now s.each) r a.self.now a.name.now S _ g h f))
