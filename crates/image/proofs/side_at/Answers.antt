-- `side_at` is the number of the cell's side on the hand.
use Rattle.model.proofs.Prelude.{◌*◌, ◌+◌, ◌≡◌, arith}
use Rattle.image.proofs.Images.{cell_of}
use Rattle.image.proofs.side_at.Goals as goal

pub returns-in-Left : goal.returns-in-Left
returns-in-Left c =
    let a = c.args in
    let e : 4 + 6 * a.i + 2 + 1 ≡ 4 + 6 * a.i + 3 = omega arith in
    rw (c.in-Left.is, cell_of a.image.now a.i c.requires, c.pair_at.ensures, c.cell_begins-at.ensures, e)

pub returns-in-Right : goal.returns-in-Right
returns-in-Right c =
    let a = c.args in
    let e : 4 + 6 * a.i + 4 + 1 ≡ 4 + 6 * a.i + 5 = omega arith in
    rw (c.in-Right.is, cell_of a.image.now a.i c.requires, c.pair_at-in-Right.ensures, c.cell_begins-at.ensures, e)
