-- `goes_left` is the model's `is_at_most` on the string's first digits, which are no more than the name's.
use Rattle.model.proofs.Prelude.{◌∙◌, ◌≡◌, arith, length, length-take, rules, sub-zero, take}
use Rattle.model.proofs.Names.{within_is_at_most}
use Rattle.trie.proofs.goes_left.Goals as goal

pub returns : goal.returns
returns c = let a = c.args in
    let named : length a.name.now ≡ 24 = search rules in
    simp sub-zero at c.compared.ensures.0
    ∙ within_is_at_most a.name.now (take a.len a.string.now) (omega (arith, named, length-take a.len a.string.now))
