-- `checks_of` meets its contract, refusal by refusal.
use Rattle.file.specs.Sizes.{Saying}
use Rattle.file.proofs.Surveying.{no_header_bad, right_said, surveyed_is, surveyed_sound, wrong_said}
use Rattle.checking.proofs.Laws.{handed_on, lacking, there}
use Rattle.checking.proofs.Checking.{agreed_all, agreed_not, looked_bad, looked_faulty}
use Rattle.checking.proofs.checks_of.Goals as goal
use Rattle.checking.proofs.checks_of.Goals.{After-survey_of}

said : (c : After-survey_of) → Saying c.in_ok-size.size c.args.file.now
said c = right_said (there c.ok_or.ensures.ok_part c.in_ok-size.was) c.header_of.ensures

pub returns-in_err-size : goal.returns-in_err-size
returns-in_err-size c =
    let h = lacking c.header_of.result c.ok_or.ensures.value c.in_err-size.was in
    handed_on c.from_residual.result _ _ c.from_residual.ensures.1 (rw (← h.1) (looked_bad _ _ (no_header_bad _ (wrong_said _ h.0 c.header_of.ensures))))

pub survey_of-requires : goal.survey_of-requires
survey_of-requires c = (right_said (there c.ok_or.ensures.ok_part c.in_ok-size.was) c.header_of.ensures).sized

pub returns-in_err-survey : goal.returns-in_err-survey
returns-in_err-survey c =
    let s = said (goal.at.returns-in_err-survey c).After-survey_of in
    let e = surveyed_is c.survey_of.result s c.survey_of.ensures c.in_err-survey.was in
    handed_on c.from_residual-in_err-survey.result _ _ c.from_residual-in_err-survey.ensures.1 (looked_faulty _ _ _ e)

pub is_agreeing-requires : goal.is_agreeing-requires
is_agreeing-requires c =
    let z = surveyed_sound c.args.file.now c.in_ok-size.size c.survey_of.result c.survey_of.ensures c.in_ok-survey.was in
    ((said (goal.at.is_agreeing-requires c).After-survey_of).sized, z.slots_inside, z.count_most)

pub returns-then-not-is_agreeing : goal.returns-then-not-is_agreeing
returns-then-not-is_agreeing c =
    let h = said (goal.at.returns-then-not-is_agreeing c).After-survey_of in
    let z = surveyed_sound c.args.file.now c.in_ok-size.size c.survey_of.result c.survey_of.ensures c.in_ok-survey.was in
    agreed_not _ _ _ c.in_ok-survey.survey c.is_agreeing.result h (surveyed_is c.survey_of.result h c.survey_of.ensures c.in_ok-survey.was) z c.is_agreeing.ensures c.if-not-is_agreeing.true

pub returns : goal.returns
returns c =
    let h = said (goal.at.returns c).After-survey_of in
    let z = surveyed_sound c.args.file.now c.in_ok-size.size c.survey_of.result c.survey_of.ensures c.in_ok-survey.was in
    agreed_all _ _ _ c.in_ok-survey.survey c.is_agreeing.result h (surveyed_is c.survey_of.result h c.survey_of.ensures c.in_ok-survey.was) z c.is_agreeing.ensures c.if-not-is_agreeing.false
