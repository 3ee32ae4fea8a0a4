-- `slots::spot::Spot::added` meets its contract.
use Rattle.slots.proofs.spot.Spot.added.Goals as goal

pub returns : goal.returns
returns c l u es r g S f h =
    let o = c.overfull-row.ensures l u es r g S f h in
    c.rewritten.ensures l u es _ r (rw (← o.1) o.0)
