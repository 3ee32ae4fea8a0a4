-- `place_of` is its definition, case by case.
use Rattle.model.proofs.Prelude.{arith}
use Rattle.trie.proofs.Laws.{place_cell, place_none, place_past, place_slot}
use Rattle.trie.proofs.place_of.Goals as goal

pub returns-then-more-eq0 : goal.returns-then-more-eq0
returns-then-more-eq0 c =
    let a = c.args in
    place_none a.count a.more c.in-Cell.is c.if-more-eq0.true

pub returns-then-count-i : goal.returns-then-count-i
returns-then-count-i c =
    let a = c.args in
    place_past a.count a.more c.in-Cell.is c.if-more-eq0.false (omega (arith, c.if-count-i.true))

pub returns-in-Slot : goal.returns-in-Slot
returns-in-Slot c =
    let a = c.args in
    place_slot a.count a.more c.in-Slot.is

pub returns-else-count-i : goal.returns-else-count-i
returns-else-count-i c =
    let a = c.args in
    place_cell a.count a.more c.in-Cell.is c.if-more-eq0.false (omega arith)
