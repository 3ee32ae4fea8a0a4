-- `graft` meets its contract.
use Rattle.model.proofs.Prelude.{arith, le-leb, refl}
use Rattle.growth.specs.Parts.{walk_joined}
use Rattle.growth.proofs.Laws.{graft_stored}
use Rattle.growth.proofs.graft.Goals as goal

pub returns-then-count-k : goal.returns-then-count-k
unfolding walk_joined
returns-then-count-k c = rw (le-leb _ _ c.if-count-k.true)

pub returns : goal.returns
returns c =
    graft_stored _ _ c.args.walk.cell (omega arith) c.write_cell.ensures.cells c.args.walk (omega arith) refl (omega arith) c.cell_at-cell.ensures.value c.cell_at-cell.ensures.held c.joined.ensures
