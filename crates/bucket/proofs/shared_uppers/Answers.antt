-- `shared_uppers` meets its contract: by the first word, or digit after digit.
use Rattle.model.proofs.Prelude.{◌∙◌, ap₂, arith}
use Rattle.model.specs.Order.{diff}
use Rattle.bucket.proofs.Shared.{shared_by_digits, shared_by_word}
use Rattle.bucket.proofs.shared_uppers.Goals as goal

pub returns-then-shared-lt8 : goal.returns-then-shared-lt8
returns-then-shared-lt8 c = λ u v U W. let w = c.shared_word-shared.ensures in w ∙ shared_by_word U W (omega (arith, w, c.if-shared-lt8.true))

pub returns : goal.returns
returns c = λ u v U W. c.shared.ensures.2 ∙ ap₂ diff c.bound_at.ensures.0 c.bound_at-2.ensures.0 ∙ shared_by_digits U W
