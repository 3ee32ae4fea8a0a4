-- `shortest_of` meets its contract: at each turn the shortest of the strings from `first` on are known (proofs/Finding.antt).
use Rattle.model.proofs.Prelude.{◌≡◌, ◌≤◌, get_or}
use Rattle.rebuilding.proofs.Finding.{Seen}
use Rattle.rebuilding.proofs.shortest_of.Given as goal

abbrev pub invariant-loop-from : goal.invariant-loop-from
invariant-loop-from l = (l.from ≤ l.first) × (l.len ≡ get_or l.lens l.first 0) × Seen l.lens l.to l.first l.last l.count

abbrev pub decreases-loop-from : goal.decreases-loop-from
decreases-loop-from l = l.first
