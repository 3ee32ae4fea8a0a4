-- `Slot::with_names` meets its contract.
use Rattle.bucket.proofs.slot.Slot.with_names.Goals as goal

pub returns : goal.returns
returns c f =
    let r = c.with_names.ensures.0 f in
    let w = c.row-row.ensures in
    (r.0, rw (← w.0, ← w.1, ← w.2) r.1)
