-- `entered` meets its contract: at each turn one more cell is marked and stands on the stack.
use Rattle.model.proofs.Prelude.{◌-◌, ◌<◌, arith, rules, refl}
use Rattle.agreeing.specs.Ways.{goes, strays}
use Rattle.agreeing.proofs.Ways.{entered_on, entered_room, marks_less, marks_room, onward_none}
use Rattle.agreeing.proofs.entered.Goals.{Else-number_at-spot}
use Rattle.agreeing.proofs.entered.Goals as goal

-- The stack has a place for one cell more.
room : (c : Else-number_at-spot) → c.loop-side.top < 256
room c =
    let a = c.args in let R = c.loop-side.invariant.0 in
    omega (arith, R.room, marks_room c.loop-side.marks c.loop-side.stack a.cells c.loop-side.side c.loop-side.top a.spot.least (65536 - c.loop-side.side) R (search rules) (search rules) (search rules))

pub loop-side-init : goal.loop-side-init
loop-side-init c =
    let R = c.requires.1 in
    (record { marks_whole = R.marks_whole; cells_whole = R.cells_whole; room = R.room; inside = R.inside }, onward_none 0 refl)

pub returns-then-cells-k : goal.returns-then-cells-k
returns-then-cells-k c = strays

pub returns-then-marks-k-ne0 : goal.returns-then-marks-k-ne0
returns-then-marks-k-ne0 c = strays

pub returns-then-number_at-spot : goal.returns-then-number_at-spot
returns-then-number_at-spot c = strays

pub bounds-stack-top : goal.bounds-stack-top
bounds-stack-top c = search (rules, room (goal.at.bounds-stack-top c).Else-number_at-spot)

pub overflow_add-top : goal.overflow_add-top
overflow_add-top c = search (rules, room (goal.at.overflow_add-top c).Else-number_at-spot)

pub loop-side-smaller : goal.loop-side-smaller
loop-side-smaller c =
    let a = c.args in
    marks_less c.loop-side.marks c.loop-side.stack a.cells c.loop-side.side c.loop-side.top a.spot.least (65536 - c.loop-side.side) c.loop-side.invariant.0 (search rules) (search rules) (search rules)

pub loop-side-preserved : goal.loop-side-preserved
loop-side-preserved c =
    let a = c.args in let R = c.loop-side.invariant.0 in let n = c.number_at in let left = c.side_at-side in (
      entered_room c.loop-side.marks c.loop-side.stack a.cells c.loop-side.side c.loop-side.top a.spot.least (65536 - c.loop-side.side) R (search rules) (search rules) (search rules) (65536 - c.loop-side.side) left.result (search rules),
      entered_on c.loop-side.marks c.loop-side.stack a.cells c.loop-side.side c.loop-side.top a.spot.least (65536 - c.loop-side.side) R (search rules) (search rules) (search rules) (65536 - c.loop-side.side) left.result
          c.loop-side-test.true refl refl (omega (arith, n.ensures.0, c.if-number_at-spot.false)) left.ensures c.loop-side.invariant.1,
    )

pub returns : goal.returns
returns c = goes c.loop-side.invariant.0 c.loop-side.invariant.1
