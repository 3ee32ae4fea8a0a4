-- `root_of` meets its contract: it goes back from the last of the shortest strings, half as many as there are (proofs/Finding.antt).
use Rattle.model.proofs.Prelude.{◌+◌, ◌-◌, ◌/◌, ◌<◌, ◌≡◌, arith, get_or, rules, sub-zero}
use Rattle.rebuilding.proofs.Finding.{Back, back_inside, back_last, back_next, back_root}
use Rattle.rebuilding.proofs.root_of.Goals.{In-loop}
use Rattle.rebuilding.proofs.root_of.Goals as goal

-- The shortest string before the one reached.
next : (c : In-loop) → let s = get_or c.args.starts.now c.loop.root 0 in
    (c.args.from < s) × Back c.args.lens.now c.args.from c.args.to (s - 1) (c.shortest_of-shortest.result.count / 2 - c.loop.counter - 1)
next c =
    let l = c.loop in
    back_next c.args.lens.now l.invariant (omega arith) (c.requires.2 l.root (back_inside c.args.lens.now l.invariant).1)

pub loop-init : goal.loop-init
loop-init c = rw sub-zero (back_last c.args.lens.now c.shortest_of-shortest.ensures)

pub bounds-starts-root : goal.bounds-starts-root
bounds-starts-root c = let i = back_inside c.args.lens.now c.loop.invariant in search rules

pub overflow_sub-root : goal.overflow_sub-root
overflow_sub-root c = let n = (next (goal.at.overflow_sub-root c).In-loop).0 in omega arith

pub loop-preserved : goal.loop-preserved
loop-preserved c =
    let k = c.shortest_of-shortest.result.count / 2 in
    let e : k - (c.loop.counter + 1) ≡ k - c.loop.counter - 1 = omega arith in
    rw e (next (goal.at.loop-preserved c).In-loop).1

pub returns : goal.returns
returns c =
    let B = c.loop.invariant in
    ((back_inside c.args.lens.now B).0, (back_inside c.args.lens.now B).1, back_root c.args.lens.now B (omega arith))
