-- `slots::part_between` meets its contract.
use Rattle.model.proofs.Prelude.{◌∙◌, arith}
use Rattle.entries.proofs.Products.{room_most}
use Rattle.slots.specs.Parts.{part_of}
use Rattle.slots.proofs.part_between.Goals as goal

pub returns : goal.returns
unfolding part_of
returns c =
    let p = c.part_between in let r = c.row.result in let n = c.row.ensures in (
      omega (arith, p.ensures.0, room_most r.e r.count r.sized.1 (omega (arith, n.3, c.args.slot.now.of_size.1))),
      p.ensures.1 ∙ rw (n.0, n.1, n.2),
    )
