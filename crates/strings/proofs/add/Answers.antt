-- `add` meets its contract: at each turn the strings have the beginnings that are longer than `len` digits (proofs/Adding.antt).
use Rattle.model.proofs.Prelude.{◌≡◌, arith, refl}
use Rattle.strings.proofs.Adding.{added_start, added_step, left_start, left_step}
use Rattle.strings.proofs.add.Goals as goal

pub loop-len-init : goal.loop-len-init
loop-len-init c =
    let a = c.args in
    (c.requires.1, refl, left_start a.x.now a.slot a.next, added_start a.x.now a.slot a.next a.strings.now c.requires.3)

pub loop-len-preserved : goal.loop-len-preserved
loop-len-preserved c =
    let a = c.args in
    let l = c.loop-len in (
      omega arith,
      omega (arith, l.invariant.1),
      left_step a.x.now a.slot a.next l.len (omega arith) (omega arith),
      added_step a.x.now a.slot a.next l.len _ l.left _ l.strings _ (omega arith) (omega arith) (omega arith) (omega (arith, l.invariant.1, c.requires.0)) l.invariant.2 l.invariant.3 (refl, refl, refl, refl),
    )

pub returns : goal.returns
returns c =
    let l = c.loop-len in
    let e : l.len ≡ c.args.shared = omega (arith, l.invariant.0) in
    rw e at l.invariant.3
