-- `is_upper_part` meets its contract.
use Rattle.model.proofs.Prelude.{◌∙◌}
use Rattle.bucket.specs.Copies.{is_upper_part}
use Rattle.bucket.proofs.slot.is_upper_part.Goals as goal

pub returns : goal.returns
unfolding is_upper_part
returns c =
    let n = c.not_above-stay.ensures in let p = c.part.ensures in
    c.is_copied.ensures ∙ rw (p.0, p.1, p.2, n.1, c.requires)
