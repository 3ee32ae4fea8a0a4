-- `survey_of` meets its contract: with k slots left to see, the count and k together are not above the slots.
use Rattle.model.proofs.Prelude.{◌+◌, ◌≤◌}
use Rattle.file.specs.Sizes.{Below}
use Rattle.file.specs.Orders.{Laid}
use Rattle.file.proofs.survey.survey_of.Given as goal

abbrev pub invariant-loop-k : goal.invariant-loop-k
invariant-loop-k l =
    (l.survey.count + l.k ≤ l.size.slots) × Below l.survey.order l.size.slots × Laid l.file l.size l.k l.survey.order l.survey.count l.survey.used
