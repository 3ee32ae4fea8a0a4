-- `digits::shared` meets its contract.
use Rattle.model.proofs.Prelude.{arith, dec_le, length}
use Rattle.digits.proofs.Laws.{diff_end, diff_short}
use Rattle.digits.proofs.shared.Goals as goal

pub returns : goal.returns
returns c =
    let x = c.args.x.now in let y = c.args.y.now in let i = c.loop-i.i in
    (omega arith, omega arith, elim (dec_le (length x) i) [ yes h ↦ omega (arith, diff_end x y i h) | no h ↦ omega (arith, diff_short x y i (omega arith)) ])
