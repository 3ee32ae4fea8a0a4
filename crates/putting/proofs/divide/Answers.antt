-- `divide` meets its contract: two stores, the new slot first.
use Rattle.model.proofs.Prelude.{refl}
use Rattle.checking.proofs.Plans.{fits_two}
use Rattle.putting.proofs.Dividing.{divide_told}
use Rattle.putting.proofs.divide.Goals as goal

pub returns : goal.returns
returns c =
    let p = c.two_stores in (
      fits_two p.result p.result c.args.n c.args.a _ _ c.args.size refl p.ensures c.requires.2 c.requires.1,
      divide_told c.args.file.now c.args.size c.requires.0 c.args.a c.args.row.now c.slot_at-slot.ensures.0 (rw c.slot_at-slot.ensures.1 at c.new_slot-new.ensures) (rw c.slot_at-slot.ensures.1 at c.old_slot-old.ensures) p.ensures,
    )
