-- `slots::all_of` meets its contract.
use Rattle.model.proofs.Prelude.{◌∙◌, arith}
use Rattle.entries.proofs.Products.{room_most}
use Rattle.slots.specs.Parts.{all_of}
use Rattle.slots.proofs.all_of.Goals as goal

pub returns : goal.returns
unfolding all_of
returns c =
    let p = c.part.ensures in let r = c.row-row.result in let n = c.row-row.ensures in (
      omega (arith, p.4, room_most r.e r.count r.sized.1 (omega (arith, n.3, c.args.slot.now.of_size.1))),
      p.0 ∙ rw (n.0, n.1, n.2),
    )
