-- `look_in` meets its contract: a bucket that is seen to serve answers by what it holds.
use Rattle.model.proofs.Prelude.{arith}
use Rattle.reading.proofs.LookingUp.{answer_held, by_keys}
use Rattle.reading.proofs.look_in.Goals as goal

pub returns : goal.returns
returns c g =
    let y = c.args.slot.now.layout in let xs = c.args.slot.now.bytes.now in let n = c.args.name.now in let e = c.requires in
    let S = c.serves.ensures (c.if-not-serves.false) in
    answer_held y xs n S.read g (by_keys y xs n S.read g (omega (arith, S.over, e)) (omega (arith, S.under, e))) _ e c.held_in.ensures.0 c.held_in.ensures.1
