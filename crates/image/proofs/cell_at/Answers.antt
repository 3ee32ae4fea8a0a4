-- `cell_at` is the reader's cell, and its sides are such as 16 bits hold.
use Rattle.model.proofs.Prelude.{◌*◌, ◌+◌, ◌≡◌, arith}
use Rattle.image.proofs.Imaging.{side_held}
use Rattle.image.proofs.cell_at.Goals as goal

pub returns-clause-value : goal.returns-clause-value
returns-clause-value c =
    let a = c.args in
    let e : 4 + 6 * a.i + 2 + 1 ≡ 4 + 6 * a.i + 3 = omega arith in
    let f : 4 + 6 * a.i + 4 + 1 ≡ 4 + 6 * a.i + 5 = omega arith in
    rw (c.side_of-2.ensures, c.pair_at-2.ensures, c.side_of.ensures, c.pair_at.ensures, c.cell_begins-at.ensures, e, f)

pub returns-clause-held : goal.returns-clause-held
returns-clause-held c = (rw c.side_of.ensures (side_held _ (omega arith)), rw c.side_of-2.ensures (side_held _ (omega arith)))
