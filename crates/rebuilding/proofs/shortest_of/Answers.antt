-- `shortest_of` meets its contract: at each turn the shortest of the strings from `first` on are known (proofs/Finding.antt).
use Rattle.model.proofs.Prelude.{◌-◌, arith, get_or, refl, rules}
use Rattle.rebuilding.specs.Starts.{Start}
use Rattle.rebuilding.proofs.Finding.{seen_all, seen_one, seen_same, seen_shorter}
use Rattle.rebuilding.proofs.shortest_of.Goals.{At-loop-from}
use Rattle.rebuilding.proofs.shortest_of.Goals as goal

-- The start of the first one.
start : (c : At-loop-from) → Start c.args.lens.now c.loop-from.first (get_or c.args.starts.now c.loop-from.first 0)
start c =
    let l = c.loop-from in
    c.requires.2 l.first (omega (arith, l.invariant.2.before, l.invariant.2.inside))

pub loop-from-init : goal.loop-from-init
loop-from-init c =
    let a = c.args in
    (omega arith, refl, seen_one a.lens.now a.to (a.to - 1) (omega arith) (omega arith) (λ j h l. absurd (omega arith)))

pub bounds-starts-first : goal.bounds-starts-first
bounds-starts-first c = let S = c.loop-from.invariant.2 in search rules

pub returns-then-start-from : goal.returns-then-start-from
returns-then-start-from c = seen_all _ _ c.loop-from.invariant.2 (start (goal.at.returns-then-start-from c).At-loop-from) c.loop-from.invariant.0 c.if-start-from.true

pub bounds-lens-first-in-loop-from : goal.bounds-lens-first-in-loop-from
bounds-lens-first-in-loop-from c = let S = c.loop-from.invariant.2 in let R = start (goal.at.bounds-lens-first-in-loop-from c).At-loop-from in search rules

pub overflow_add-count : goal.overflow_add-count
overflow_add-count c = let S = c.loop-from.invariant.2 in search rules

pub loop-from-smaller-then-next-len : goal.loop-from-smaller-then-next-len
loop-from-smaller-then-next-len c = let R = start (goal.at.loop-from-smaller-then-next-len c).At-loop-from in search rules

pub loop-from-preserved-then-next-len : goal.loop-from-preserved-then-next-len
loop-from-preserved-then-next-len c =
    let R = start (goal.at.loop-from-preserved-then-next-len c).At-loop-from in
    (omega arith, refl, seen_shorter c.args.lens.now c.loop-from.invariant.2 R (omega arith) (omega (arith, c.if-next-len.true, c.loop-from.invariant.1)))

pub loop-from-smaller : goal.loop-from-smaller
loop-from-smaller c = let R = start (goal.at.loop-from-smaller c).At-loop-from in search rules

pub loop-from-preserved : goal.loop-from-preserved
loop-from-preserved c =
    let R = start (goal.at.loop-from-preserved c).At-loop-from in
    (omega arith, refl, seen_same c.args.lens.now c.loop-from.invariant.2 R (omega arith) (omega (arith, c.if-next-len.false, c.loop-from.invariant.1)))
