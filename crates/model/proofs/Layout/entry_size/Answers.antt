-- `Layout::entry_size` meets its contract.
use Rattle.model.proofs.Prelude.{◌∙◌, arith, refl, sym}
use Rattle.model.specs.Format.{entry_length}
use Rattle.model.proofs.Layout.entry_size.Goals as goal

pub returns-then-keeps_runs : goal.returns-then-keeps_runs
unfolding entry_length
returns-then-keeps_runs c = (rw (sym c.keeps_runs.ensures ∙ c.if-keeps_runs.true), record { least = omega arith; most = omega arith; eights = refl })

pub returns-else-keeps_runs : goal.returns-else-keeps_runs
unfolding entry_length
returns-else-keeps_runs c = (rw (sym c.keeps_runs.ensures ∙ c.if-keeps_runs.false), record { least = omega arith; most = omega arith; eights = refl })
