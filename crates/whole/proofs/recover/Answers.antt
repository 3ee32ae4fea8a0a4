-- `recover` meets its contract: the slot that it frees is one of the file's.
use Rattle.std.specs.Prelude.{Err}
use Rattle.model.proofs.Prelude.{◌∙◌, ap, arith}
use Rattle.file.specs.Sizes.{Saying}
use Rattle.file.proofs.Surveying.{no_header_bad, right_said, surveyed_is, wrong_said}
use Rattle.whole.proofs.Handing.{error_is, lacking, there}
use Rattle.whole.proofs.Recovering.{recover_bad, recover_freed, recover_limit, recover_sound, recover_stopped}
use Rattle.whole.proofs.recover.Goals.{After-survey_of}
use Rattle.whole.proofs.recover.Goals as goal

-- The sizes that the survey is of.
said : (c : After-survey_of) → Saying c.in_ok-size.size c.args.file.now
said c = right_said (there c.ok_or.ensures.ok_part c.in_ok-size.was) c.header_of.ensures

pub returns-then-limit-gt2 : goal.returns-then-limit-gt2
returns-then-limit-gt2 c = recover_limit _ _ c.if-limit-gt2.true

pub returns-in_err-size : goal.returns-in_err-size
returns-in_err-size c =
    let h = lacking c.header_of.result c.ok_or.ensures.value c.in_err-size.was in
    rw (error_is c.from_residual.result c.from_residual.ensures.1, ← h.1) (recover_bad _ _ (omega (arith, c.if-limit-gt2.false)) (no_header_bad _ (wrong_said _ h.0 c.header_of.ensures)))

pub returns-in-Ok : goal.returns-in-Ok
returns-in-Ok c =
    let h = said (goal.at.returns-in-Ok c).After-survey_of in
    recover_sound _ _ (omega (arith, c.if-limit-gt2.false)) (surveyed_is c.survey_of.result h c.survey_of.ensures c.in-Ok.is)

pub returns-in-Err-Bad : goal.returns-in-Err-Bad
returns-in-Err-Bad c =
    let h = said (goal.at.returns-in-Err-Bad c).After-survey_of in
    recover_bad _ _ (omega (arith, c.if-limit-gt2.false)) (surveyed_is c.survey_of.result h c.survey_of.ensures (c.in-Err-Bad.is ∙ ap Err c.in-Err-Bad.field-0-is))

pub returns-then-commit : goal.returns-then-commit
returns-then-commit c =
    let h = said (goal.at.returns-then-commit c).After-survey_of in
    recover_stopped _ _ _ (surveyed_is c.survey_of.result h c.survey_of.ensures (c.in-Err-Cut.is ∙ ap Err c.in-Err-Cut.field-0-is)) h c.freeing.result c.freeing.ensures _ c.commit.result c.commit.ensures c.if-commit.true

pub returns-else-commit : goal.returns-else-commit
returns-else-commit c =
    let h = said (goal.at.returns-else-commit c).After-survey_of in
    recover_freed _ _ _ (surveyed_is c.survey_of.result h c.survey_of.ensures (c.in-Err-Cut.is ∙ ap Err c.in-Err-Cut.field-0-is)) h c.freeing.result c.freeing.ensures _ c.commit.result c.commit.ensures (omega (arith, c.if-limit-gt2.false)) c.if-commit.false
