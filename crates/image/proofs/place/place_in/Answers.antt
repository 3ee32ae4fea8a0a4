-- `place_in` meets its contract: at each turn of its loop the walk is on its way.
use Rattle.model.proofs.Prelude.{◌+◌, ◌-◌, ◌≡◌, arith, refl, unary_clauses}
use Rattle.image.specs.Images.{trie_from}
use Rattle.image.proofs.Coding.{side_cell, side_slot}
use Rattle.image.proofs.Courses.{begins, course_cell, course_none, course_past, course_slot, course_stray, no_cells, step_on, step_strays, too_many}
use Rattle.image.proofs.place.place_in.Goals as goal

pub returns-then-count-gt256 : goal.returns-then-count-gt256
returns-then-count-gt256 c =
    let a = c.args in
    too_many (trie_from a.image.now) a.name.now c.count_of-count.ensures c.if-count-gt256.true

pub returns-then-count-eq0 : goal.returns-then-count-eq0
returns-then-count-eq0 c =
    let a = c.args in
    no_cells (trie_from a.image.now) a.name.now c.count_of-count.ensures c.if-count-eq0.true c.pair_at.ensures

pub loop-init : goal.loop-init
loop-init c =
    let a = c.args in
    (omega arith, simp unary_clauses (begins (trie_from a.image.now) a.name.now c.count_of-count.ensures (omega arith) c.if-count-eq0.false))

pub returns-then-count-i : goal.returns-then-count-i
returns-then-count-i c = course_past c.loop.invariant.1 c.if-count-i.true

pub returns-in_default : goal.returns-in_default
returns-in_default c =
    course_stray (step_strays c.stepped.result c.stepped.ensures (omega arith) (omega arith) refl c.loop.invariant.1 c.in_default.is)

pub returns-then-turn-lt32768 : goal.returns-then-turn-lt32768
returns-then-turn-lt32768 c =
    course_slot _ (step_on c.stepped.result c.stepped.ensures (omega arith) (omega arith) refl c.loop.invariant.1 c.in-Some.is)
    (side_slot _ c.if-turn-lt32768.true)

pub loop-preserved : goal.loop-preserved
loop-preserved c =
    let n = c.count_of-count.result in
    let w = step_on c.stepped.result c.stepped.ensures (omega arith) (omega arith) refl c.loop.invariant.1 c.in-Some.is in
    let e : n - (c.loop.counter + 1) ≡ n - c.loop.counter - 1 = omega arith in
    (c.loop.invariant.0, rw e (course_cell (side_cell _ _ (omega arith) (omega (arith, c.wrapping_neg-i.ensures))) w))

pub returns : goal.returns
returns c = course_none c.loop.invariant.1 (omega arith)
