-- `highest` meets its contract.
use Rattle.surveying.proofs.row.highest.Given as goal

abbrev pub invariant-loop-spot : goal.invariant-loop-spot
invariant-loop-spot l = Unit {0}
