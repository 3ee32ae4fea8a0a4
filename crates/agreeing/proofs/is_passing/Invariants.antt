-- `is_passing` meets its contract: at each turn the strings before a bucket's upper are met.
use Rattle.model.proofs.Prelude.{◌*◌, ◌-◌, ◌≡◌, ◌≤◌, get_or}
use Rattle.image.specs.Images.{side_from, trie_from}
use Rattle.agreeing.specs.Ways.{Roomy, standing}
use Rattle.agreeing.proofs.Bounds.{Reaches}
use Rattle.agreeing.proofs.is_passing.Given as goal

abbrev pub invariant-loop-j : goal.invariant-loop-j
invariant-loop-j l = (1 ≤ l.j) × (l.met ≤ 24 * l.j) × (l.slot ≡ get_or l.order (l.j - 1) 0) × Roomy l.marks l.stack l.spot
    × Reaches l.file l.order l.size l.count (trie_from l.image).cells l.cells (side_from l.side) (standing l.marks l.stack l.spot) l.met l.j
