-- `under` meets its contract.
use Rattle.surveying.proofs.row.under.Given as goal

abbrev pub invariant-loop-spot : goal.invariant-loop-spot
invariant-loop-spot l = Unit {0}
