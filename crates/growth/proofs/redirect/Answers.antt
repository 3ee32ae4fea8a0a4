-- `redirect` meets its contract: cells are turned one by one.
use Rattle.model.proofs.Prelude.{◌≡◌, arith}
use Rattle.growth.proofs.Laws.{redirect_none, redirect_stored}
use Rattle.growth.proofs.redirect.Goals as goal

pub loop-i-init : goal.loop-i-init
loop-i-init c = redirect_none _ _ _ _ _

pub loop-i-preserved : goal.loop-i-preserved
loop-i-preserved c =
    redirect_stored _ _ c.loop-i.i (omega arith) c.write_cell.ensures.cells c.loop-i.invariant (omega arith) c.cell_at-cell.ensures.value c.cell_at-cell.ensures.held c.turned_cell.ensures

pub returns : goal.returns
returns c =
    let e : c.loop-i.i ≡ c.args.count = omega arith in
    rw e at c.loop-i.invariant
