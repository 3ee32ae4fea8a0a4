-- `Slot::is_copy_of` meets its contract: each test that it makes is one that a copy passes.
use Rattle.model.proofs.Prelude.{◌∙◌, sym}
use Rattle.digits.specs.Keys.{key_value}
use Rattle.model.proofs.Format.{bytes_each}
use Rattle.bucket.proofs.Copies.{not_below, tested}
use Rattle.bucket.proofs.slot.Slot.is_copy_of.Goals as goal

pub returns-then-not-is_below : goal.returns-then-not-is_below
returns-then-not-is_below c =
    let a = c.args in let n = c.low-low in let m = c.low in let r = c.is_below in
    not_below a.self.now.layout a.self.now.bytes.now a.a.now.bytes.now (key_value n.result) (key_value m.result) n.ensures m.ensures (sym r.ensures ∙ c.if-not-is_below.true)

pub returns : goal.returns
returns c =
    let a = c.args in let p = c.first.ensures in let q = c.first-2.ensures in let k = c.count.ensures in let i = c.count-2.ensures in
    let r = c.is_below in let m = c.low in let n = c.low-low in
    tested a.self.now.layout a.self.now.bytes.now a.a.now.bytes.now (key_value n.result) (key_value m.result) n.ensures m.ensures a.self.now.of_size.0 (rw c.requires at a.a.now.of_size.0)
    (bytes_each a.self.now.bytes.now a.self.now.each) (bytes_each a.a.now.bytes.now a.a.now.each)
    (sym r.ensures ∙ c.if-not-is_below.false)
    c.is_upper_part.result (c.is_upper_part.ensures ∙ rw (p.0, p.1, p.2, q.0, q.2, k.0, i.0, c.requires))
