-- `home_of` meets its contract: the slot is the one whose range holds the name.
use Rattle.model.proofs.Prelude.{arith}
use Rattle.checking.proofs.Ready.{holder_slot, home_right, ready_ordered, ready_sound}
use Rattle.putting.proofs.home_of.Goals as goal

pub slot_at_place-requires : goal.slot_at_place-requires
slot_at_place-requires c =
    let R = c.requires.0 in
    (R.slots_inside, R.count_most, omega (arith, R.count_is, (c.holder.ensures.found R.slots (ready_ordered R R.is) c.requires.1).inside))

pub returns : goal.returns
returns c =
    let h = c.holder in let R = c.requires.0 in
    record {
      inside = c.slot_at_place.ensures.1;
      right = λ fs e.
          home_right (ready_sound R e) _ _ (holder_slot R e h.result _ (h.ensures.found fs (ready_ordered R e) c.requires.1) c.slot_at_place.ensures.0);
    }
