-- `repeated_upper` meets its contract: the neighbours passed have different upper bounds.
use Rattle.model.proofs.Prelude.{List, ◌<◌, ◌≡◌, ◌≤◌, suc, ℕ}
use Rattle.model.specs.Files.{Slot, head, upper_of}
use Rattle.file.specs.Orders.{Known, Listed, placed}
use Rattle.file.proofs.survey.repeated_upper.Given as goal

abbrev pub invariant-loop-j : goal.invariant-loop-j
invariant-loop-j l = (1 ≤ l.j) × ((fs : List Slot) → Known l.size.layout l.file fs → Listed fs l.order l.count
    → (i : ℕ) → suc i < l.j → suc i < l.count → upper_of (head (placed fs l.order i)) ≡ upper_of (head (placed fs l.order (suc i))) → ⊥)
