-- `is_long` meets its contract.
use Rattle.model.proofs.Prelude.{arith, eqb-true}
use Rattle.digits.proofs.Bytes.{or_zero}
use Rattle.gathering.proofs.Bounds.{long_bound}
use Rattle.gathering.proofs.is_long.Goals as goal

pub returns : goal.returns
returns c t =
    let g = c.args in
    let a = or_zero _ c.part_faults-3.result (eqb-true _ 0 t) in let d = or_zero c.part_faults.result c.part_faults-2.result a.0 in
    long_bound g.s.now g.len (omega arith) (omega arith) (c.part_faults.ensures d.0) (c.part_faults-2.ensures d.1) (c.part_faults-3.ensures a.1)
