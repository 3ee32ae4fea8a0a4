-- `pass` meets its contract: at each turn the pass from there on ends as the whole does (proofs/States.antt).
use Rattle.model.proofs.Prelude.{◌*◌, ◌+◌, ◌-◌}
use Rattle.model.specs.declared.Side.TheVariants.{Cell as further}
use Rattle.image.specs.Images.{trie_from}
use Rattle.agreement.proofs.States.{State}
use Rattle.agreement.proofs.pass.Given as goal

abbrev pub invariant-loop-place : goal.invariant-loop-place
invariant-loop-place l = State (trie_from l.image).cells l.strings (further 0) l.places l.stack l.top l.entered l.done l.least l.place

abbrev pub decreases-loop-place : goal.decreases-loop-place
decreases-loop-place l = 2 * (l.strings.count - l.entered) + l.top
