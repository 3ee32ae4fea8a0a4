-- `step` meets its contract: the path with the digit written into it is the cell's string.
use Rattle.model.proofs.Prelude.{◌∙◌, arith, refl, sym}
use Rattle.trie.proofs.Laws.{goes_left, goes_right, last_strays, number_strays, strays}
use Rattle.trie.proofs.Walk.step.Goals as goal

pub returns-then-self-at : goal.returns-then-self-at
returns-then-self-at c =
    let a = c.args in let S = c.strayed.ensures in
    (omega (arith, S.more), λ o cs e f u. strays cs a.name.now S (number_strays a.name.now a.self a.i a.cell o cs e f u (omega arith)))

pub returns-then-at-gt23 : goal.returns-then-at-gt23
returns-then-at-gt23 c =
    let a = c.args in let S = c.strayed-then-at-gt23.ensures in
    (omega (arith, S.more), λ o cs e f u. strays cs a.name.now S (last_strays a.name.now a.self a.i a.cell o cs e f u (omega arith) (omega arith)))

pub returns-then-goes_left : goal.returns-then-goes_left
returns-then-goes_left c =
    let a = c.args in
    let w = sym c.goes_left.ensures ∙ c.if-goes_left.true in
    (omega arith, λ o cs e f u. goes_left a.name.now a.self a.i a.cell o cs e f u refl (omega arith) (omega arith) w c.place_of.ensures)

pub returns : goal.returns
returns c =
    let a = c.args in
    let w = sym c.goes_left.ensures ∙ c.if-goes_left.false in
    (omega arith, λ o cs e f u. goes_right a.name.now a.self a.i a.cell o cs e f u refl (omega arith) (omega arith) w c.place_of-2.ensures)
