-- `bound_met` meets its contract: at each turn the beginnings longer than `len` digits are met.
use Rattle.model.proofs.Prelude.{◌-◌, ◌<◌, ◌≡◌, ◌≤◌, cond, eqb, length}
use Rattle.image.specs.Images.{trie_from}
use Rattle.agreeing.specs.Ways.{BoundAt, Onward, Roomy, standing}
use Rattle.agreeing.proofs.bound_met.Given as goal

abbrev pub invariant-loop-len : goal.invariant-loop-len
invariant-loop-len l = (l.shared ≤ l.len) × (l.left ≡ cond (eqb l.len (length l.x)) l.slot l.next) × (l.left < 256) × Roomy l.marks l.stack l.here
    × Onward (trie_from l.image).cells l.cells (BoundAt l.x l.len l.slot l.next) (length l.x - l.len) (standing l.initial.marks l.initial.stack l.initial.here) (standing l.marks l.stack l.here)
