-- `lowest_free` meets its contract: where fewer slots are used than there are, the map's complement begins with the used ones.
use Rattle.model.proofs.Prelude.{ap, arith, refl}
use lib.Count.{ones}
use Rattle.file.proofs.Maps.{all_used, lowest_of, room_none, room_some}
use Rattle.file.proofs.lowest_free.Goals as goal

pub returns-then-slots-used : goal.returns-then-slots-used
returns-then-slots-used c = record { inside = tt; lowest = λ fs e h m. room_none fs (all_used fs (omega (arith, ap ones m))) }

pub returns-then-slots-lowest : goal.returns-then-slots-lowest
returns-then-slots-lowest c = record { inside = tt; lowest = λ fs e h m. room_none fs (omega (arith, c.if-slots-lowest.true, lowest_of c.args.used _ fs refl m (omega arith))) }

pub returns : goal.returns
returns c = record {
  inside = c.if-slots-lowest.false;
  lowest = λ fs e h m. room_some fs _ (lowest_of c.args.used _ fs refl m (omega arith)) (omega (arith, c.if-slots-lowest.false));
}
