-- `write_cleared` writes four bytes, and all others are zero.
use Rattle.model.proofs.Prelude.{◌∙◌, ap, List, sets, ℕ}
use Rattle.image.specs.Images.{pair_bytes}
use Rattle.image.proofs.Storing.{cleared_written}
use Rattle.image.proofs.write_cleared.Goals as goal

pub returns : goal.returns
returns c =
    let a = c.args in
    cleared_written a.count a.first a.image.now _ c.fill.new.self c.told-image
    (c.write_pair-2.ensures ∙ ap (λ (xs : List ℕ). sets xs 2 (pair_bytes a.first)) c.write_pair.ensures) (c.fill.ensures.after (λ x e. e))
