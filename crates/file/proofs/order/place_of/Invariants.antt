-- `place_of` meets its contract: the halves close in on a place not above the count.
use Rattle.model.proofs.Prelude.{List, ◌-◌, ◌<◌, ◌≡◌, ◌≤◌, false, suc, true, ℕ}
use Rattle.model.specs.Files.{Slot}
use Rattle.digits.specs.Keys.{key_value}
use Rattle.file.specs.Orders.{Known, Listed, placed, stands}
use Rattle.file.proofs.order.place_of.Given as goal

abbrev pub invariant-loop-least : goal.invariant-loop-least
invariant-loop-least l = (l.least ≤ l.most) × (l.most ≤ l.count)
    × ((fs : List Slot) → Known l.size.layout l.file fs → Listed fs l.order l.count
    → ((j : ℕ) → suc j ≡ l.least → stands (key_value l.high) (key_value l.low) (placed fs l.order j) ≡ false)
    × (l.most < l.count → stands (key_value l.high) (key_value l.low) (placed fs l.order l.most) ≡ true))

abbrev pub decreases-loop-least : goal.decreases-loop-least
decreases-loop-least l = l.most - l.least
