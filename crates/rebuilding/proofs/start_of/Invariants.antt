-- `start_of` meets its contract: from the start so far on, all strings before the one at i are longer.
use Rattle.model.proofs.Prelude.{◌≤◌}
use Rattle.rebuilding.specs.Starts.{Longer}
use Rattle.rebuilding.proofs.start_of.Given as goal

abbrev pub invariant-loop-start : goal.invariant-loop-start
invariant-loop-start l = (l.start ≤ l.i) × Longer l.lens l.len l.start l.i

abbrev pub decreases-loop-start : goal.decreases-loop-start
decreases-loop-start l = l.start
