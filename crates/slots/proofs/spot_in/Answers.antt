-- `slots::spot_in` meets its contract.
use Rattle.model.proofs.Prelude.{◌∙◌, refl, sym}
use Rattle.model.proofs.Format.{bytes_each}
use Rattle.slots.proofs.Spots.{held_inside, spot_is}
use Rattle.slots.proofs.spot_in.Goals as goal

pub invariant_of-result-clause-held_there : goal.invariant_of-result-clause-held_there
invariant_of-result-clause-held_there c =
    let r = c.row-row.result in λ t. held_inside r.e r.bytes.now r.count c.rank-place.result _ (sym c.is_at.ensures ∙ t)

pub returns : goal.returns
returns c =
    let n = c.row-row.ensures in let s = c.args.slot.now in (
      refl,
      λ l u es r m g q.
          spot_is s.layout s.bytes.now s.of_size (bytes_each s.bytes.now s.each) r m g _ q _
          n.2 (c.rank-place.ensures.1 ∙ rw (n.0, n.1, n.2)) (c.is_at.ensures ∙ rw (n.0, n.1, n.2)),
    )
