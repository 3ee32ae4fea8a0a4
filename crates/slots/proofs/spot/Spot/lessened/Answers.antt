-- `slots::spot::Spot::lessened` meets its contract.
use Rattle.model.proofs.Format.{bytes_each}
use Rattle.slots.proofs.Spots.{entry_gone}
use Rattle.slots.proofs.spot.Spot.lessened.Goals as goal

pub returns : goal.returns
returns c l u es r n g S o f =
    let m = c.row.ensures in let a = c.args in let s = a.self.now.slot in
    c.rewritten.ensures l u es _ r (rw (c.without_entry-row.ensures, m.0, m.1, m.2)
    (entry_gone s.layout s.bytes.now s.of_size (bytes_each s.bytes.now s.each) r a.self.now n S o f))
