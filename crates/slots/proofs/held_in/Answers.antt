-- `slots::held_in` meets its contract.
use Rattle.model.proofs.Prelude.{◌∙◌}
use Rattle.model.proofs.Format.{bytes_each}
use Rattle.slots.proofs.Spots.{held_found}
use Rattle.slots.proofs.held_in.Goals as goal

pub returns : goal.returns
returns c =
    let h = c.held_under in let n = c.row.ensures in let s = c.args.slot.now in (
      (λ l u es r m g q. h.ensures.0 ∙ rw (n.0, n.1, n.2)
          (held_found s.layout s.bytes.now s.of_size (bytes_each s.bytes.now s.each) r m g _ q)),
      h.ensures.1,
    )
