-- `store` meets its contract: slot k is pasted over, and nothing else changes.
use Rattle.model.proofs.Prelude.{◌∙◌, arith, rules}
use Rattle.model.specs.Format.{slot_size}
use Rattle.file.proofs.Laws.{first_length, first_pasted, room}
use Rattle.file.proofs.store.Goals as goal

pub overflow_mul-at : goal.overflow_mul-at
overflow_mul-at c =
    let h = room _ c.args.k c.slot_size-n.result c.args.size c.requires.0 c.requires.1 c.slot_size-n.ensures in
    omega arith

pub overflow_add-at : goal.overflow_add-at
overflow_add-at c =
    let h = room _ c.args.k c.slot_size-n.result c.args.size c.requires.0 c.requires.1 c.slot_size-n.ensures in
    omega arith

pub copy-requires : goal.copy-requires
copy-requires c =
    let n = c.slot_size-n.result in
    let h = room _ c.args.k n c.args.size c.requires.0 c.requires.1 c.slot_size-n.ensures in
    let l = first_length c.args.slot.now n (search rules) in
    omega (arith, h.slot_end, l)

pub returns : goal.returns
returns c =
    (search rules, c.copy.ensures ∙ first_pasted c.args.file.now c.args.slot.now c.args.k c.slot_size-n.result (slot_size c.args.size.layout) c.slot_size-n.ensures.0 (search rules))
