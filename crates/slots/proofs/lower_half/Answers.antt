-- `slots::lower_half` meets its contract.
use Rattle.model.proofs.Prelude.{◌-◌, ◌∙◌, ◌≡◌, arith, refl}
use Rattle.model.proofs.Format.{bytes_each}
use Rattle.slots.proofs.Halves.{lower_row}
use Rattle.slots.proofs.Slots.{lower_is, slot_written}
use Rattle.slots.proofs.Spots.{slot_reads}
use Rattle.slots.proofs.lower_half.Goals as goal

pub returns : goal.returns
returns c l u es ws r m n =
    let v = c.written.ensures in let q = c.part-part in let w = c.whole in let a = c.args in let s = a.slot.now in
    let z : a.stay - 0 ≡ a.stay = omega arith in
    slot_written s.layout l a.string.now _ _ _ q.result.bytes.now a.stay c.written.result s.of_size.1
    (c.lower.ensures.0 ∙ lower_is s.layout s.bytes.now (slot_reads s.layout s.bytes.now s.of_size (bytes_each s.bytes.now s.each) r))
    refl (q.ensures.3 ∙ rw (w.ensures.1, z)) v.1
    (rw (q.ensures.0, w.ensures.0, w.ensures.1) (lower_row s.layout a.row.now ws m n a.stay c.requires.2 (rw (w.ensures.0, w.ensures.1, w.ensures.2) at w.result.fits))) v.0
