-- `number_at` is the cell's number.
use Rattle.model.proofs.Prelude.{ap, arith, rules, sym}
use Rattle.model.specs.declared.Cell.{Cell}
use Rattle.image.proofs.Images.{cell_of}
use Rattle.image.proofs.number_at.Goals as goal

pub returns : goal.returns
returns c =
    let a = c.args in
    (rw c.cell_begins.ensures (sym (ap (λ (x : Cell). x.number) (cell_of a.image.now a.i (omega arith)))), search rules)
