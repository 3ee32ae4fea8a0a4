-- `are_named` meets its contract: where what was gathered is fine, the names of the slots passed rise.
use Rattle.model.proofs.Prelude.{◌<◌, ℕ}
use Rattle.gathering.specs.Names.{Fine}
use Rattle.surveying.specs.Rows.{NamedAt}
use Rattle.surveying.proofs.row.are_named.Given as goal

abbrev pub invariant-loop-place : goal.invariant-loop-place
invariant-loop-place l = Fine l.seen → (i : ℕ) → i < l.place → NamedAt l.file l.size l.order i
