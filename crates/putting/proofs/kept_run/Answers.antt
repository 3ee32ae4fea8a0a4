-- `kept_run` meets its contract.
use Rattle.model.proofs.Prelude.{sym}
use Rattle.model.specs.Format.{kept_run}
use Rattle.putting.proofs.kept_run.Goals as goal

pub returns-then-keeps_runs : goal.returns-then-keeps_runs
unfolding kept_run
returns-then-keeps_runs c = rw (sym c.if-keeps_runs.ensures)

pub returns-else-keeps_runs : goal.returns-else-keeps_runs
unfolding kept_run
returns-else-keeps_runs c = rw (sym c.if-keeps_runs.ensures)
