-- `slots::upper_half` meets its contract.
use Rattle.model.proofs.Prelude.{◌+◌, ◌-◌, ◌∙◌, refl}
use Rattle.model.proofs.Format.{bytes_each}
use Rattle.model.specs.Order.{at}
use Rattle.model.specs.Format.{digits_of_low}
use Rattle.slots.proofs.Halves.{upper_row}
use Rattle.slots.proofs.Slots.{slot_written, upper_is}
use Rattle.slots.proofs.Spots.{slot_reads}
use Rattle.slots.proofs.upper_half.Goals as goal

pub returns : goal.returns
unfolding digits_of_low
returns c l u es ws r m n =
    let v = c.written.ensures in let q = c.part-part in let w = c.whole-all in let a = c.args in let s = a.slot.now in let b = s.layout.b in
    slot_written s.layout (at a.string.now) u _ _ _ q.result.bytes.now (b + 1 - a.stay) c.written.result s.of_size.1 refl
    (c.upper.ensures.0 ∙ upper_is s.layout s.bytes.now (slot_reads s.layout s.bytes.now s.of_size (bytes_each s.bytes.now s.each) r))
    (q.ensures.3 ∙ rw (w.ensures.1, w.ensures.2)) v.1
    (rw (q.ensures.0, w.ensures.0, w.ensures.1, w.ensures.2) (upper_row s.layout a.row.now ws m n a.stay c.requires.2 (rw (w.ensures.0, w.ensures.1, w.ensures.2) at w.result.fits)))
    (rw (q.ensures.2, w.ensures.2) at v.0)
