-- `entered` meets its contract: at each turn one more cell is marked and stands on the stack.
use Rattle.model.proofs.Prelude.{◌-◌}
use Rattle.image.specs.Images.{trie_from}
use Rattle.agreeing.specs.Ways.{Onward, Roomy, Whatever, marked, standing}
use Rattle.agreeing.proofs.entered.Given as goal

abbrev pub invariant-loop-side : goal.invariant-loop-side
invariant-loop-side l = Roomy l.marks l.stack (record { side = l.side; top = l.top; least = l.spot.least })
    × Onward (trie_from l.image).cells l.cells Whatever 0 (standing l.initial.marks l.initial.stack l.spot) (standing l.marks l.stack (record { side = l.side; top = l.top; least = l.spot.least }))

abbrev pub decreases-loop-side : goal.decreases-loop-side
decreases-loop-side l = 256 - marked l.marks
