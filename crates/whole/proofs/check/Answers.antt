-- `check` meets its contract: the survey is of a file whose sizes are right.
use Rattle.std.specs.Prelude.{Err}
use Rattle.model.proofs.Prelude.{◌∙◌, ap, sym}
use Rattle.file.proofs.Surveying.{right_said, surveyed_is, wrong_said}
use Rattle.whole.proofs.Handing.{error_is, lacking, there}
use Rattle.whole.proofs.Recovering.{bad_found, fault_found, sound_found}
use Rattle.whole.proofs.check.Goals as goal

pub returns-in_err-size : goal.returns-in_err-size
returns-in_err-size c =
    let h = lacking c.header_of.result c.ok_or.ensures.value c.in_err-size.was in
    error_is c.from_residual.result c.from_residual.ensures.1 ∙ ap Err (sym h.1) ∙ bad_found _ (wrong_said _ h.0 c.header_of.ensures)

pub returns-in_err-survey_of : goal.returns-in_err-survey_of
returns-in_err-survey_of c =
    let h = right_said (there c.ok_or.ensures.ok_part c.in_ok-size.was) c.header_of.ensures in
    error_is c.from_residual-in_err-survey_of.result c.from_residual-in_err-survey_of.ensures.1 ∙ fault_found _ _ (surveyed_is c.survey_of.result h c.survey_of.ensures c.in_err-survey_of.was)

pub returns : goal.returns
returns c =
    let h = right_said (there c.ok_or.ensures.ok_part c.in_ok-size.was) c.header_of.ensures in
    sound_found _ (surveyed_is c.survey_of.result h c.survey_of.ensures c.in_ok-survey_of.was)
