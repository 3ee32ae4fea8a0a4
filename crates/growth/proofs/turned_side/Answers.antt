-- `turned_side` meets its contract, by the tests that led to each answer.
use Rattle.model.proofs.Prelude.{arith, sym}
use Rattle.growth.proofs.Laws.{turned_further, turned_goes, turned_other, turned_stays}
use Rattle.growth.proofs.turned_side.Goals as goal

pub returns-then-s-a : goal.returns-then-s-a
returns-then-s-a c = let x = c.args in sym (turned_other x.place x.last x.a x.n c.in-Slot.is c.if-s-a.true)

pub returns-then-place-last : goal.returns-then-place-last
returns-then-place-last c = let x = c.args in sym (turned_stays x.place x.last x.a x.n c.in-Slot.is c.if-s-a.false (omega (arith, c.if-place-last.true)))

pub returns-else-place-last : goal.returns-else-place-last
returns-else-place-last c = let x = c.args in sym (turned_goes x.place x.last x.a x.n c.in-Slot.is c.if-s-a.false (omega (arith, c.if-place-last.false)))

pub returns-in-Cell : goal.returns-in-Cell
returns-in-Cell c = let x = c.args in sym (turned_further x.place x.last x.a x.n c.in-Cell.is)
