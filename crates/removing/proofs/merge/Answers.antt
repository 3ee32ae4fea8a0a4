-- `merge` meets its contract: the widened slot, then the freed one.
use Rattle.model.proofs.Prelude.{refl}
use Rattle.checking.proofs.Plans.{fits_two}
use Rattle.removing.proofs.Neighbours.{merge_told}
use Rattle.removing.proofs.merge.Goals as goal

pub returns : goal.returns
returns c =
    let a = c.args in let q = c.two_stores in let l = c.slot_at_place-l in let k = c.slot_at_place-r in let told = rw c.slot_at.ensures.1 at c.widened-wide.ensures in (
      fits_two q.result q.result l.result k.result _ _ a.checked.now.size refl q.ensures l.ensures.1 k.ensures.1,
      merge_told c.requires.0 q.result a.right a.m a.n a.i l.result k.result c.widened-wide.result _ _ _ c.requires.2 l.ensures.0 k.ensures.0 c.slot_at.ensures.0 c.slot_at-2.ensures.0 told q.ensures refl,
    )
