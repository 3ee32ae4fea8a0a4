-- `guessed` meets its contract: its numbers are slots.
use Rattle.model.proofs.Prelude.{◌<◌, ◌≡◌, length}
use Rattle.file.specs.Sizes.{Below}
use Rattle.surveying.proofs.row.guessed.Given as goal

abbrev pub invariant-loop-place : goal.invariant-loop-place
invariant-loop-place l = (l.k < l.size.slots) × Below l.order l.size.slots × (length l.order ≡ 64)
