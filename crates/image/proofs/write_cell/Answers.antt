-- `write_cell` makes the stores of a cell: its digit, its number, and its two sides.
use Rattle.model.proofs.Prelude.{◌+◌, ◌∙◌, ap, List, sets, ℕ}
use Rattle.image.specs.Images.{pair_bytes, trie_from}
use Rattle.image.proofs.Coding.{cell_written}
use Rattle.image.proofs.Imaging.{cell_put}
use Rattle.image.proofs.write_cell.Goals as goal

pub returns : goal.returns
returns c =
    let a = c.args in let at = c.cell_begins-at.result in
    let made =
    c.write_pair-2.ensures
    ∙ ap (λ (xs : List ℕ). sets xs (at + 4) (pair_bytes c.number_of-2.result)) c.write_pair.ensures
    ∙ cell_written a.image.now at a.cell c.number_of.ensures c.number_of-2.ensures in
    let stored = rw c.cell_begins-at.ensures at made in
    record { bytes = stored; cells = λ l r. ap trie_from stored ∙ cell_put a.image.now c.told-image c.fits-image a.i a.cell c.requires l r }
