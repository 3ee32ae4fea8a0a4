-- `start_of` meets its contract: from the start so far on, all strings before the one at i are longer.
use Rattle.model.proofs.Prelude.{◌-◌, arith, refl}
use Rattle.rebuilding.proofs.Finding.{start_farther}
use Rattle.rebuilding.proofs.start_of.Goals as goal

pub loop-start-init : goal.loop-start-init
loop-start-init c = (omega arith, λ j h l. absurd (omega arith))

pub returns-then-lens-before : goal.returns-then-lens-before
returns-then-lens-before c = record { inside = c.loop-start.invariant.0; longer = c.loop-start.invariant.1; stops = λ h. c.if-lens-before.true }

pub loop-start-smaller : goal.loop-start-smaller
loop-start-smaller c = omega (arith, (c.requires.1 (c.loop-start.start - 1) (omega arith)).inside)

pub loop-start-preserved : goal.loop-start-preserved
loop-start-preserved c =
    let l = c.loop-start in let R = c.requires.1 (l.start - 1) (omega arith) in
    (omega (arith, R.inside), start_farther c.args.lens.now c.args.i _ l.start (l.start - 1) _ refl (omega arith) (omega (arith, c.if-lens-before.false)) l.invariant.1 R)

pub returns : goal.returns
returns c = record { inside = c.loop-start.invariant.0; longer = c.loop-start.invariant.1; stops = λ h. absurd (omega arith) }
