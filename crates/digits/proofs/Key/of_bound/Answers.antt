-- `Key::of_bound` meets its contract.
use Rattle.model.proofs.Prelude.{◌+◌, arith, drop, take}
use Rattle.digits.specs.Keys.{key_value}
use Rattle.digits.proofs.Keys.{bound_key, word_behind}
use Rattle.digits.proofs.Key.of_bound.Goals as goal

pub returns-then-len-le8 : goal.returns-then-len-le8
unfolding key_value
returns-then-len-le8 c =
    let g = c.args in let s = g.s.now in
    λ f z. bound_key s g.at g.len c.continued.result 0xFFFFFFFFFFFFFFFF 0xFFFFFFFFFFFFFFFF (omega arith) f z c.continued.ensures
    (word_behind (take 8 (drop (g.at + 8) s)) _ (omega arith)) (word_behind (take 8 (drop (g.at + 16) s)) _ (omega arith))

pub returns : goal.returns
unfolding key_value
returns c =
    let g = c.args in
    λ f z. bound_key g.s.now g.at g.len c.continued-2.result c.continued-3.result c.continued-4.result (omega arith) f z c.continued-2.ensures c.continued-3.ensures c.continued-4.ensures
