-- `by_upper` meets its contract.
use Rattle.model.proofs.Prelude.{◌≤◌}
use Rattle.surveying.proofs.row.by_upper.Given as goal

abbrev pub invariant-loop-k : goal.invariant-loop-k
invariant-loop-k l = l.count ≤ l.k
