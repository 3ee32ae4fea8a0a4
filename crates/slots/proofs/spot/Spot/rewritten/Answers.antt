-- `slots::spot::Spot::rewritten` meets its contract.
use Rattle.model.proofs.Prelude.{◌∙◌, arith}
use Rattle.model.proofs.Format.{bytes_each}
use Rattle.slots.proofs.Slots.{lower_is, slot_cut, upper_is}
use Rattle.slots.proofs.Spots.{slot_reads}
use Rattle.slots.proofs.spot.Spot.rewritten.Goals as goal

pub returns : goal.returns
returns c l u es ws r f =
    let v = c.written.ensures in let i = c.entry_at-end in let a = c.args in let s = a.self.now.slot in
    let R = slot_reads s.layout s.bytes.now s.of_size (bytes_each s.bytes.now s.each) r in
    slot_cut s.layout l u ws _ _ a.row.now a.count i.result c.written.result s.of_size.1
    (c.lower.ensures.0 ∙ lower_is s.layout s.bytes.now R) (c.upper.ensures.0 ∙ upper_is s.layout s.bytes.now R)
    (i.ensures.is ∙ rw c.entry_size.ensures.0) (omega arith) v.1 f v.0
