-- `turned_cell` meets its contract.
use Rattle.growth.specs.Parts.{cell_turned}
use Rattle.growth.proofs.turned_cell.Goals as goal

pub returns : goal.returns
unfolding cell_turned
returns c = rw (c.turned_side-2.ensures, c.turned_side.ensures)
