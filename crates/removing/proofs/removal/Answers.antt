-- `removal` meets its contract: to the right, to the left, alone.
use Rattle.model.proofs.Prelude.{arith, get_or, refl}
use Rattle.model.specs.Searches.{order_of}
use Rattle.model.proofs.Merging.{ToLeft, ToRight}
use Rattle.checking.proofs.Plans.{fits_one}
use Rattle.removing.proofs.Neighbours.{first_apart, last_apart, left_apart, place_read, removal_left, removal_one, removal_right, right_apart}
use Rattle.removing.proofs.removal.Goals.{else-place-checked, else-place-gt0, then-place-checked+else-count-n, then-place-gt0+else-m-count}
use Rattle.removing.proofs.removal.Goals as goal

pub merge-requires : goal.merge-requires
merge-requires c =
    let p = c.requires in let most = p.0.said.sized.legal.b_most in let n = c.count_at_place-n in
    (p.0, omega arith, omega arith, rw (← p.2.0) c.args.spot.now.count_most, n.ensures.0, omega (arith, c.if-count-n.true), omega (arith, p.3))

pub returns-then-count-n : goal.returns-then-count-n
returns-then-count-n c =
    let a = c.args in let n = c.count_at_place-n in (
      c.merge.ensures.0,
      (λ fs e k g l u es is lo up I w f.
          removal_right c.requires.0 e a.place c.requires.1 is k lo up a.spot.now I w f c.merge.result n.result c.if-place-checked.true n.ensures.1 (omega (arith, c.if-count-n.true)) c.merge.ensures.1),
    )

pub merge-requires-then-m-count : goal.merge-requires-then-m-count
merge-requires-then-m-count c =
    let p = c.requires in let most = p.0.said.sized.legal.b_most in let m = c.count_at_place-m in
    (p.0, omega arith, p.1, m.ensures.0, rw (← p.2.0) c.args.spot.now.count_most, omega (arith, c.if-m-count.true), omega (arith, p.3))

pub returns-then-m-count : goal.returns-then-m-count
returns-then-m-count c =
    let a = c.args in let m = c.count_at_place-m in let y = a.checked.now.size.layout in (
      c.merge-then-m-count.ensures.0,
      (λ fs e k g l u es is lo up I w f.
          let apart : ¬ ToRight y.b fs k (get_or (order_of fs) a.place 0) l u es = elim c.if-place-checked.branch [
            | then-place-checked+else-count-n p ↦
                right_apart c.requires.0 e a.place c.requires.1 is k lo up a.spot.now I w f p.count_at_place-n.result p.if-place-checked.true p.count_at_place-n.ensures.1 (omega (arith, p.if-count-n.false))
            | else-place-checked p ↦ last_apart c.requires.0 e a.place c.requires.1 is k lo up a.spot.now I w f p.if-place-checked.false
          ] in
          removal_left c.requires.0 e a.place c.requires.1 is k lo up a.spot.now I w f c.merge-then-m-count.result m.result apart c.if-place-gt0.true m.ensures.1 (omega (arith, c.if-m-count.true)) c.merge-then-m-count.ensures.1),
    )

pub returns : goal.returns
returns c =
    let a = c.args in let R = c.requires.0 in let o = c.one_store in let new = c.lessened-new in let at = c.slot_at_place-k in let y = a.checked.now.size.layout in let same = c.requires.2.0 in (
      fits_one o.result o.result at.result _ a.checked.now.size refl o.ensures at.ensures.1 R.said.sized.legal,
      (λ fs e k g l u es is lo up I w f.
          let right : ¬ ToRight y.b fs k (get_or (order_of fs) a.place 0) l u es = elim c.if-place-checked.branch [
            | then-place-checked+else-count-n p ↦
                right_apart R e a.place c.requires.1 is k lo up a.spot.now I w f p.count_at_place-n.result p.if-place-checked.true p.count_at_place-n.ensures.1 (omega (arith, p.if-count-n.false))
            | else-place-checked p ↦ last_apart R e a.place c.requires.1 is k lo up a.spot.now I w f p.if-place-checked.false
          ] in
          let left : ¬ ToLeft y.b fs k (get_or (order_of fs) a.place 0) l u es = elim c.if-place-gt0.branch [
            | then-place-gt0+else-m-count p ↦
                left_apart R e a.place c.requires.1 is k lo up a.spot.now I w f p.count_at_place-m.result p.if-place-gt0.true p.count_at_place-m.ensures.1 (omega (arith, p.if-m-count.false))
            | else-place-gt0 p ↦ first_apart R e a.place c.requires.1 is k lo up a.spot.now I w f p.if-place-gt0.false
          ] in
          removal_one R e a.place c.requires.1 is k lo up a.spot.now I w f o.result new.result at.result right left at.ensures.0
          (rw (← same) (new.ensures l u es (rw same (place_read R e a.place _ _ c.requires.1 refl c.requires.2.1 is)) k g I w f)) o.ensures),
    )
