-- `Slot::vacancy` meets its contract.
use Rattle.model.proofs.Prelude.{◌∙◌, eqb-true, get_or, sym}
use Rattle.bucket.proofs.Slots.{zero-not}
use Rattle.bucket.proofs.slot.Slot.vacancy.Goals as goal

pub returns-then-is_used : goal.returns-then-is_used
returns-then-is_used c = let xs = c.args.self.now.bytes.now in rw (zero-not xs (eqb-true (get_or xs 0 0) 1 (sym c.is_used.ensures ∙ c.if-is_used.true)))
