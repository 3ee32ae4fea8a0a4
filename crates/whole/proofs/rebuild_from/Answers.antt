-- `rebuild_from` meets its contract, refusal by refusal.
use Rattle.std.specs.Prelude.{ok_or}
use Rattle.model.specs.declared.Cause.TheVariants.{ManyStrings}
use Rattle.file.proofs.Surveying.{no_header_bad, right_said, surveyed_is, surveyed_sound, wrong_said}
use Rattle.whole.proofs.Handing.{lacking, there}
use Rattle.whole.proofs.Rebuilding.{Gathered, gathered, gathered_bad, gathered_faulty, rebuilt, refused, too_many}
use Rattle.whole.proofs.rebuild_from.Goals.{After-strings_of}
use Rattle.whole.proofs.rebuild_from.Goals as goal

pub returns-in_err-size : goal.returns-in_err-size
returns-in_err-size c =
    let h = lacking c.header_of.result c.ok_or.ensures.value c.in_err-size.was in
    refused c.from_residual.result _ _ c.from_residual.ensures.1 (rw (← h.1) (gathered_bad _ (no_header_bad _ (wrong_said _ h.0 c.header_of.ensures))))

pub returns-in_err-survey : goal.returns-in_err-survey
returns-in_err-survey c =
    let h = right_said (there c.ok_or.ensures.ok_part c.in_ok-size.was) c.header_of.ensures in
    refused c.from_residual-in_err-survey.result _ _ c.from_residual-in_err-survey.ensures.1 (gathered_faulty _ _ (surveyed_is c.survey_of.result h c.survey_of.ensures c.in_err-survey.was))

-- The strings that are found, or that there are too many.
told : (c : After-strings_of) → Gathered (ok_or c.strings_of.result ManyStrings) c.args.file.now
told c =
    let h = right_said (there c.ok_or.ensures.ok_part c.in_ok-size.was) c.header_of.ensures in
    let z = surveyed_sound c.args.file.now c.in_ok-size.size c.survey_of.result c.survey_of.ensures c.in_ok-survey.was in
    gathered _ _ c.in_ok-survey.survey c.strings_of.result h (surveyed_is c.survey_of.result h c.survey_of.ensures c.in_ok-survey.was) z c.strings_of.ensures

pub returns-in_default : goal.returns-in_default
returns-in_default c = too_many _ c.in_default.is (told (goal.at.returns-in_default c).After-strings_of)

pub returns : goal.returns
returns c = rebuilt _ _ c.in-Some.is (told (goal.at.returns c).After-strings_of) c.rebuild.ensures
