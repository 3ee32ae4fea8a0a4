-- `are_named` meets its contract: where what was gathered is fine, the names of the slots passed rise.
use Rattle.model.proofs.Prelude.{arith, eqb-true, ℕ_discrete}
use Rattle.surveying.proofs.row.are_named.Goals as goal

pub loop-place-init : goal.loop-place-init
loop-place-init c f i h = absurd (omega arith)

pub slot_at-slot-requires : goal.slot_at-slot-requires
slot_at-slot-requires c =
    (c.requires.0, c.requires.1 c.loop-place.place)

pub loop-place-preserved : goal.loop-place-preserved
loop-place-preserved c =
    let l = c.loop-place in
    λ f. let r = c.with_names-seen.ensures f in
    λ i h. elim (ℕ_discrete i l.place) [
      | yes e ↦ rw e (rw (c.slot_at-slot.ensures.0, c.slot_at-slot.ensures.1) at r.1)
      | no n ↦ l.invariant r.0 i (omega arith)
    ]

pub returns : goal.returns
returns c t j h = c.loop-place.invariant (c.faults.ensures.0 (eqb-true _ 0 t)) j (omega arith)
