-- `slot_at` meets its contract: slot k lies within the file.
use Rattle.model.proofs.Prelude.{◌*◌, ◌+◌, ◌∙◌, arith, refl}
use Rattle.model.specs.Format.{bytes_at_slot, slot_size}
use Rattle.file.proofs.Laws.{each_in, part_is, part_length, room}
use Rattle.file.proofs.slot_at.Goals as goal

pub overflow_mul-at : goal.overflow_mul-at
overflow_mul-at c =
    let h = room _ c.args.k c.slot_size-n.result c.args.size c.requires.0 c.requires.1 c.slot_size-n.ensures in
    omega arith

pub overflow_add-at : goal.overflow_add-at
overflow_add-at c =
    let h = room _ c.args.k c.slot_size-n.result c.args.size c.requires.0 c.requires.1 c.slot_size-n.ensures in
    omega arith

pub overflow_add-end : goal.overflow_add-end
overflow_add-end c =
    let h = room _ c.args.k c.slot_size-n.result c.args.size c.requires.0 c.requires.1 c.slot_size-n.ensures in
    omega arith

pub slice_bounds-result-end : goal.slice_bounds-result-end
slice_bounds-result-end c =
    let h = room _ c.args.k c.slot_size-n.result c.args.size c.requires.0 c.requires.1 c.slot_size-n.ensures in
    omega arith

pub invariant_of-result-clause-of_size : goal.invariant_of-result-clause-of_size
unfolding slot_size
invariant_of-result-clause-of_size c =
    let n = c.slot_size-n.result in let e = c.slot_size-n.ensures in
    let h = room _ c.args.k n c.args.size c.requires.0 c.requires.1 e in
    (part_length c.args.file.now (16 + c.args.k * n) n h.slot_end ∙ e.0, c.requires.0.legal.b_most)

pub invariant_of-result-clause-each : goal.invariant_of-result-clause-each
invariant_of-result-clause-each c = each_in _ _ c.args.file.now (λ i. omega (arith, c.type_inv.file i))

pub returns : goal.returns
unfolding bytes_at_slot slot_size
returns c = (part_is c.args.file.now c.args.k c.slot_size-n.result _ c.slot_size-n.ensures.0, refl)
