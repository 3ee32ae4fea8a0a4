-- `starts_of` meets its contract: the starts before i are right.
use Rattle.model.proofs.Prelude.{arith, length-set, refl}
use Rattle.rebuilding.proofs.Finding.{starts_more}
use Rattle.rebuilding.proofs.starts_of.Goals as goal

pub loop-i-init : goal.loop-i-init
loop-i-init c = (refl, λ i h. absurd (omega arith))

pub start_of-requires : goal.start_of-requires
start_of-requires c = (omega arith, c.loop-i.invariant.1)

pub loop-i-preserved : goal.loop-i-preserved
loop-i-preserved c =
    let l = c.loop-i in
    (simp length-set l.invariant.0, starts_more c.args.lens.now l.starts l.i c.start_of.result (omega arith) l.invariant.1 c.start_of.ensures)

pub returns : goal.returns
returns c = λ i h. c.loop-i.invariant.1 i (omega arith)
