-- `Slot::low` meets its contract.
use Rattle.model.proofs.Prelude.{◌∙◌, arith, drop, get_or, length-drop, sym}
use Rattle.digits.proofs.Bounds.{low_none, low_some}
use Rattle.bucket.proofs.slot.Slot.low.Goals as goal

pub returns-then-lower-eq0 : goal.returns-then-lower-eq0
returns-then-lower-eq0 c =
    let s = c.args.self.now.bytes.now in
    λ f z. c.lowest.ensures ∙ sym (low_none (get_or s 2 0) (drop 8 s) (omega arith))

pub returns : goal.returns
returns c =
    let s = c.args.self.now.bytes.now in
    let k = c.of_bound.ensures in
    λ f z. k f z ∙ sym (low_some (get_or s 2 0) (drop 8 s) (omega arith) (omega (arith, length-drop 8 s)))
