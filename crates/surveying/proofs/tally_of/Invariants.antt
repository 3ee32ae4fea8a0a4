-- `tally_of` meets its contract: the slots passed are read, and are free or in the order.
use Rattle.model.proofs.Prelude.{◌<◌, ℕ}
use Rattle.bucket.specs.Forms.{Standing}
use Rattle.surveying.specs.Rows.{Tallied, placed}
use Rattle.surveying.proofs.tally_of.Given as goal

abbrev pub invariant-loop-k : goal.invariant-loop-k
invariant-loop-k l = ((j : ℕ) → j < l.count → Standing l.size.layout (placed l.file l.size l.order j)) → Tallied l.file l.size l.order l.count l.k l.used
