-- `remove_plan` meets its contract: none where the name is absent, else the stores of its removal.
use Rattle.model.proofs.Prelude.{get_or}
use Rattle.model.specs.Searches.{order_of}
use Rattle.checking.proofs.Ready.{home_right, ready_ordered, ready_sound}
use Rattle.bucket.specs.Forms.{ReadAs}
use Rattle.slots.proofs.Spots.{spot_held, spot_lost}
use Rattle.removing.proofs.Neighbours.{place_read}
use Rattle.removing.proofs.Removing.{home_place, remove_absent, remove_held}
use Rattle.removing.proofs.remove_plan.Goals as goal

pub slot_at_place-k-requires : goal.slot_at_place-k-requires
slot_at_place-k-requires c = let R = c.requires.0 in (R.slots_inside, R.count_most, home_place R c.requires.1 c.holder-place.ensures)

pub returns-then-not-spot : goal.returns-then-not-spot
returns-then-not-spot c =
    let a = c.args in let R = c.requires.0 in let g = c.requires.1 in let n = a.name.now in let y = a.checked.now.size.layout in let spot = c.spot_in-spot in let k = c.slot_at_place-k in let place = c.holder-place in (
      tt,
      (λ fs e.
          let H = home_right (ready_sound R e) (get_or (order_of fs) place.result 0) n (place.ensures.found fs (ready_ordered R e) g).range in
          let read : ReadAs c.slot_at.result.layout c.slot_at.result.bytes.now H.0 H.1 H.2 =
          rw c.slot_at.ensures.1 (place_read R e place.result k.result _ (home_place R g place.ensures) k.ensures.0 c.slot_at.ensures.0 H.3.is) in
          let P = spot.ensures.1 H.0 H.1 H.2 read n g c.requires.2 in
          remove_absent y H.3 (spot_lost P c.if-not-spot.true)),
    )

pub removal-requires : goal.removal-requires
removal-requires c =
    let spot = c.spot_in-spot in let slot = c.slot_at in let k = c.slot_at_place-k in (
      c.requires.0,
      home_place c.requires.0 c.requires.1 c.holder-place.ensures,
      (rw spot.ensures.0 slot.ensures.1, rw (spot.ensures.0, ← k.ensures.0) slot.ensures.0),
      spot.result.held_there c.if-not-spot.false,
    )

pub returns : goal.returns
returns c =
    let a = c.args in let R = c.requires.0 in let g = c.requires.1 in let n = a.name.now in let y = a.checked.now.size.layout in let r = c.removal in let spot = c.spot_in-spot in let k = c.slot_at_place-k in let place = c.holder-place in (
      r.ensures.0,
      (λ fs e.
          let H = home_right (ready_sound R e) (get_or (order_of fs) place.result 0) n (place.ensures.found fs (ready_ordered R e) g).range in
          let read : ReadAs c.slot_at.result.layout c.slot_at.result.bytes.now H.0 H.1 H.2 =
          rw c.slot_at.ensures.1 (place_read R e place.result k.result _ (home_place R g place.ensures) k.ensures.0 c.slot_at.ensures.0 H.3.is) in
          let P = spot.ensures.1 H.0 H.1 H.2 read n g c.requires.2 in
          let f = spot_held P c.if-not-spot.false in
          remove_held y H.3 r.result f.0 f.1 (r.ensures.1 fs e n g H.0 H.1 H.2 H.3.is H.3.above H.3.within P f.0 f.1)),
    )
