-- `create` meets its contract: the image is written before the sizes are looked at.
use Rattle.model.proofs.Prelude.{◌∙◌}
use Rattle.whole.proofs.Creating.{create_given, fitting_right, fitting_wrong, sizes_refused}
use Rattle.whole.proofs.Handing.{error_is, lacking, there}
use Rattle.whole.proofs.Rebuilding.{cleared_new}
use Rattle.whole.proofs.create.Goals as goal

pub returns-in_err-size : goal.returns-in_err-size
returns-in_err-size c =
    let h = lacking c.sizes.result c.ok_or.ensures.value c.in_err-size.was in
    rw (error_is c.from_residual.result c.from_residual.ensures.1, ← h.1)
    (sizes_refused _ _ _ _ c.small.ensures c.small-2.ensures c.small-3.ensures (c.write_cleared.ensures ∙ cleared_new) (fitting_wrong _ _ _ h.0 c.sizes.ensures))

pub returns : goal.returns
returns c =
    let f = fitting_right (there c.ok_or.ensures.ok_part c.in_ok-size.was) c.sizes.ensures in
    create_given _ _ _ _ c.small.ensures c.small-2.ensures c.small-3.ensures _
    (c.write_cleared.ensures ∙ cleared_new) f.0 f.1 f.2 c.create.ensures
