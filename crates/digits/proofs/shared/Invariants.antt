-- `digits::shared` meets its contract.
use Rattle.model.proofs.Prelude.{◌+◌, ◌≡◌, drop}
use Rattle.model.specs.Order.{diff}
use Rattle.digits.proofs.shared.Given as goal

abbrev pub invariant-loop-i : goal.invariant-loop-i
invariant-loop-i l = diff l.x l.y ≡ l.i + diff (drop l.i l.x) (drop l.i l.y)
