-- `digits::are_digits` meets its contract.
use Rattle.model.proofs.Prelude.{◌&&◌, ◌∙◌, leb, rules}
use Rattle.std.proofs.Common.{tests}
use Rattle.std.proofs.lemmas.Iterator.{YieldsList-from_slice}
use Rattle.std.proofs.lemmas.Iterator.Search.{all_from_yields_List}
use Rattle.digits.proofs.Laws.{all_digits}
use Rattle.digits.proofs.are_digits.Goals as goal

pub returns : goal.returns
returns c =
    let s = c.args.s.now in
    all_from_yields_List (λ x. leb 0x20 x && leb x 0x7D) _ _ _ c.all.ensures.ran (YieldsList-from_slice s cc) (λ x b q k. search (rules, tests)) ∙ all_digits s
