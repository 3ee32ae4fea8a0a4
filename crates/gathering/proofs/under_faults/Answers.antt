-- `gathering::under_faults` meets its contract.
use Rattle.model.proofs.Prelude.{arith}
use Rattle.gathering.proofs.Bits.{none_under, under_none}
use Rattle.gathering.proofs.Signs.{less, less_lt, less_more}
use Rattle.gathering.proofs.under_faults.Goals as goal

pub returns : goal.returns
returns c y low full e =
    let g = c.args in let w = c.little_endian in let r = less w.result g.from in (
      none_under g.s.now g.at (omega arith) (λ i. omega (arith, c.type_inv.s i)) w.result w.ensures (omega arith) y low full g.from e (omega arith) r (less_more w.result g.from (omega arith) (omega arith)) (less_lt w.result g.from),
      under_none g.s.now g.at (omega arith) (λ i. omega (arith, c.type_inv.s i)) w.result w.ensures (omega arith) y low full g.from e (omega arith) r (less_more w.result g.from (omega arith) (omega arith)) (less_lt w.result g.from),
    )
