-- `is_clear_past` finds of bytes what is told of cells.
use Rattle.model.proofs.Prelude.{◌*◌, ◌+◌, ◌-◌, ◌∙◌, ap, arith, drop, length-drop, take_all}
use Rattle.digits.specs.Keys.{is_all_zero}
use Rattle.image.proofs.Clear.{clear_past}
use Rattle.image.proofs.is_clear_past.Goals as goal

pub returns : goal.returns
returns c =
    let a = c.args in let xs = a.image.now in let n = 4 + 6 * a.count in
    (rw c.cell_begins-from.ensures at c.is_zero.ensures) ∙ ap is_all_zero (take_all (1540 - n) (drop n xs) (omega (arith, length-drop n xs)))
    ∙ clear_past xs (omega arith) (256 - a.count) a.count (omega arith)
