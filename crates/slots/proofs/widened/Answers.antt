-- `slots::widened` meets its contract.
use Rattle.model.proofs.Prelude.{◌+◌, ◌-◌, ◌∙◌, arith}
use Rattle.model.proofs.Format.{bytes_each}
use Rattle.slots.proofs.Slots.{lower_is, slot_cut, upper_is}
use Rattle.slots.proofs.Spots.{both_without, slot_reads}
use Rattle.slots.proofs.widened.Goals as goal

pub returns : goal.returns
returns c l s u es gs r q h k x w f g =
    let v = c.written.ensures in let i = c.entry_at-end in let row = c.without_entry-row in
    let first = c.first-first.ensures in let second = c.first.ensures in
    let a = c.args in let p = c.requires in let L = a.left.now in let R = a.right.now in
    let size = rw p.0 at R.of_size in
    let bytes_l = bytes_each L.bytes.now L.each in
    let bytes_r = bytes_each R.bytes.now R.each in
    slot_cut L.layout l u _ _ _ row.result (a.m + a.n - 1) i.result c.written.result L.of_size.1
    (c.lower.ensures.0 ∙ lower_is L.layout L.bytes.now (slot_reads L.layout L.bytes.now L.of_size bytes_l r))
    (c.upper.ensures.0 ∙ upper_is L.layout R.bytes.now (slot_reads L.layout R.bytes.now size bytes_r q))
    (i.ensures.is ∙ rw first.1) (omega arith) v.1
    (rw (row.ensures, c.joined-both.ensures, first.0, first.1, first.2, second.0, second.2)
    (both_without L.layout L.bytes.now R.bytes.now L.of_size size bytes_l bytes_r r q a.m a.n h k p.3 a.i x w f g))
    v.0
