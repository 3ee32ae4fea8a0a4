-- `is_row` meets its contract.
use Rattle.model.proofs.Prelude.{arith, clash}
use Rattle.surveying.proofs.Rows.{row_of}
use Rattle.surveying.proofs.row.is_row.Goals as goal

pub returns-then-count-eq0 : goal.returns-then-count-eq0
returns-then-count-eq0 c t = clash cc

pub returns-then-not-are_framed : goal.returns-then-not-are_framed
returns-then-not-are_framed c t = clash cc

pub returns : goal.returns
returns c t =
    let a = c.args in
    row_of a.file.now a.size a.order.now a.count (omega arith) (c.are_framed.ensures (c.if-not-are_framed.false)) (c.are_named.ensures t)
