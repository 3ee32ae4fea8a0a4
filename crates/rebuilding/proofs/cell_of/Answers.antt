-- `cell_of` meets its contract: it puts together what its parts ensure.
use Rattle.rebuilding.specs.Runs.{cell_at}
use Rattle.rebuilding.proofs.cell_of.Goals as goal

pub returns : goal.returns
unfolding cell_at
returns c = rw (c.saturating_sub.ensures, c.side_of-2.ensures, c.side_of.ensures)
