-- `is_before` meets its contract: the high ends decide, and where they are equal the low ends.
use Rattle.model.proofs.Prelude.{arith, refl}
use Rattle.model.specs.Files.{head, lower_of}
use Rattle.digits.specs.Keys.{key_value, low_value}
use Rattle.digits.proofs.Laws.{other_keys, same_keys}
use Rattle.file.proofs.Comparing.{ahead_first, ahead_last, ahead_not, slot_high, slot_low, stands_by}
use Rattle.file.proofs.order.is_before.Goals as goal

pub returns-then-is_below : goal.returns-then-is_below
returns-then-is_below c b s k r w =
    let a = c.args in let o = c.high-other in
    let t = ahead_first (key_value a.high) (key_value a.low) (key_value o.result) (low_value (lower_of (head s))) c.is_below.result c.is_below.ensures c.if-is_below.true in
    stands_by _ (key_value a.high) (key_value a.low) (key_value o.result) (low_value (lower_of (head s))) s t (slot_high b a.slot.now.bytes.now s k r w (key_value o.result) o.ensures) refl

pub returns-then-ne : goal.returns-then-ne
returns-then-ne c b s k r w =
    let a = c.args in let o = c.high-other in
    let n = other_keys a.high o.result (omega arith) (omega arith) (omega arith) (omega arith) c.ne.result c.ne.ensures c.if-ne.true in
    let t = ahead_not (key_value a.high) (key_value a.low) (key_value o.result) (low_value (lower_of (head s))) c.is_below.result _ c.is_below.ensures c.if-is_below.false refl n in
    stands_by _ (key_value a.high) (key_value a.low) (key_value o.result) (low_value (lower_of (head s))) s t (slot_high b a.slot.now.bytes.now s k r w (key_value o.result) o.ensures) refl

pub returns : goal.returns
returns c b s k r w =
    let a = c.args in
    let o = c.high-other in let l = c.low in
    let n = same_keys a.high o.result (omega arith) (omega arith) (omega arith) (omega arith) c.ne.result c.ne.ensures c.if-ne.false in
    let t = ahead_last (key_value a.high) (key_value a.low) (key_value o.result) (key_value l.result) c.is_below.result _ c.is_below-2.result c.is_below.ensures c.if-is_below.false refl n c.is_below-2.ensures in
    stands_by _ (key_value a.high) (key_value a.low) (key_value o.result) (key_value l.result) s t
    (slot_high b a.slot.now.bytes.now s k r w (key_value o.result) o.ensures) (slot_low b a.slot.now.bytes.now s k r w (key_value l.result) l.ensures)
