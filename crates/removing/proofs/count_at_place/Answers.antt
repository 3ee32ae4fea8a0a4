-- `count_at_place` meets its contract.
use Rattle.removing.proofs.Neighbours.{count_told}
use Rattle.removing.proofs.count_at_place.Goals as goal

pub returns : goal.returns
returns c =
    let k = c.slot_at_place-k in let slot = c.slot_at in
    (rw (← slot.ensures.1) c.count.ensures.1, count_told c.requires.0 c.args.place k.result c.count.result _ c.requires.1 k.ensures.0 slot.ensures.0 (rw (← slot.ensures.1) c.count.ensures.0))
