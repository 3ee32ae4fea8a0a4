-- `is_middle` meets its contract.
use Rattle.model.proofs.Prelude.{◌∙◌, arith, drop, eqb-true, sym, take}
use Rattle.digits.proofs.Bytes.{or_zero}
use Rattle.gathering.proofs.Parts.{value_zero}
use Rattle.gathering.proofs.Bounds.{middle_bound}
use Rattle.gathering.proofs.is_middle.Goals as goal

pub returns : goal.returns
returns c t =
    let g = c.args in let s = g.s.now in
    let a = or_zero _ c.little_endian.result (eqb-true _ 0 t) in let d = or_zero c.part_faults.result c.part_faults-2.result a.0 in
    middle_bound s g.len (omega arith) (omega arith) (c.part_faults.ensures d.0) (c.part_faults-2.ensures d.1)
    (value_zero (take 8 (drop 16 s)) (sym c.little_endian.ensures ∙ a.1))
