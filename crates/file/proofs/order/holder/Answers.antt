-- `holder` meets its contract: the halves close in on the name's place.
use Rattle.model.proofs.Prelude.{◌+◌, ◌-◌, ◌/◌, arith, refl}
use Rattle.file.proofs.Holding.{closing_down, closing_end, closing_start, closing_up, ordered_some, probe_below, probe_upto}
use Rattle.file.proofs.order.holder.Goals as goal

pub returns-then-count-eq0 : goal.returns-then-count-eq0
returns-then-count-eq0 c = record { small = omega arith; found = λ fs O g. absurd (ordered_some O c.if-count-eq0.true) }

pub loop-least-init : goal.loop-least-init
loop-least-init c = (omega arith, omega arith, λ fs O g. closing_start O _ _ (omega arith))

pub slot_at-slot-requires : goal.slot_at-slot-requires
slot_at-slot-requires c =
    let l = c.loop-least in
    (c.requires.0, omega (arith, c.requires.1 (l.least + (l.most - l.least) / 2)))

pub loop-least-preserved-then-compared : goal.loop-least-preserved-then-compared
loop-least-preserved-then-compared c =
    let l = c.loop-least in
    let middle = l.least + (l.most - l.least) / 2 in
    (omega arith, omega arith, λ fs O g. closing_down O _ middle (probe_upto O _ g middle _ _ (omega arith) refl c.slot_at-slot.ensures.0 (rw (← c.upper.ensures.0) c.compared-compared.ensures.0) c.if-compared.true) (l.invariant.2 fs O g))

pub loop-least-preserved : goal.loop-least-preserved
loop-least-preserved c =
    let l = c.loop-least in
    let middle = l.least + (l.most - l.least) / 2 in
    (omega arith, omega arith, λ fs O g. closing_up O _ middle (omega arith) (probe_below O _ g middle _ _ (omega arith) refl c.slot_at-slot.ensures.0 (rw (← c.upper.ensures.0) c.compared-compared.ensures.0) c.if-compared.false) (l.invariant.2 fs O g))

pub returns : goal.returns
returns c =
    let l = c.loop-least in
    record { small = omega arith; found = λ fs O g. closing_end O _ (omega arith) (omega arith) (l.invariant.2 fs O g) }
