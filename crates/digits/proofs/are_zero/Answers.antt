-- `digits::are_zero` meets its contract.
use Rattle.model.proofs.Prelude.{◌∙◌, rules}
use Rattle.std.proofs.Common.{tests}
use Rattle.std.proofs.lemmas.Iterator.{YieldsList-from_slice}
use Rattle.std.proofs.lemmas.Iterator.Search.{all_from_yields_List}
use Rattle.std.specs.Prelude.{◌==◌}
use Rattle.digits.proofs.Laws.{all_zero}
use Rattle.digits.proofs.are_zero.Goals as goal

pub returns : goal.returns
returns c =
    let s = c.args.s.now in
    all_from_yields_List (λ x. x == 0) _ _ _ c.all.ensures.ran (YieldsList-from_slice s cc) (λ x b q k. search (rules, tests)) ∙ all_zero s
