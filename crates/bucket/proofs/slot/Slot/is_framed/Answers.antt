-- `Slot::is_framed` meets its contract.
use Rattle.model.proofs.Prelude.{◌∙◌, ltb-true, sym}
use Rattle.bucket.proofs.slot.Slot.is_framed.Goals as goal

pub returns : goal.returns
returns c t =
    record {
      follows = c.follows.ensures (c.if-not-follows.false);
      upper = c.is_upper.ensures (c.if-not-is_upper.false);
      ranged = ltb-true _ _ (sym c.is_below.ensures ∙ t);
      stocked = c.is_stocked.ensures (c.if-not-is_stocked.false);
    }
