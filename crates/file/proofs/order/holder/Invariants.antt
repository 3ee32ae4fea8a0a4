-- `holder` meets its contract: the halves close in on the name's place.
use Rattle.model.proofs.Prelude.{List, ◌-◌, ◌<◌, ◌≤◌}
use Rattle.model.specs.Names.{Legal}
use Rattle.model.specs.Files.{Slot}
use Rattle.file.specs.Holders.{Ordered}
use Rattle.file.proofs.Holding.{Closing}
use Rattle.file.proofs.order.holder.Given as goal

abbrev pub invariant-loop-least : goal.invariant-loop-least
invariant-loop-least l = (l.least ≤ l.most) × (l.most < l.count)
    × ((fs : List Slot) → Ordered l.file l.size l.order l.count fs → Legal l.name → Closing fs l.name l.least l.most)

abbrev pub decreases-loop-least : goal.decreases-loop-least
decreases-loop-least l = l.most - l.least
