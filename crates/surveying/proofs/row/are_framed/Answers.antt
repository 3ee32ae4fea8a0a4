-- `are_framed` meets its contract: the slots passed are framed, and low is where the range of the last of them ends.
use Rattle.model.proofs.Prelude.{◌+◌, ◌-◌, ◌∙◌, ◌≡◌, ap, arith, clash, eqb-true, get_or, refl, subst, suc, sym, ℕ, ℕ_discrete}
use Rattle.model.specs.Format.{bytes_at_slot}
use Rattle.digits.specs.Keys.{key_value}
use Rattle.surveying.specs.Rows.{edge, place_before}
use Rattle.surveying.proofs.Rows.{framed_at}
use Rattle.surveying.proofs.row.are_framed.Goals as goal

pub slot_at-requires : goal.slot_at-requires
slot_at-requires c =
    (c.requires.0, c.requires.1 (c.args.count - 1))

pub returns-then-not-is_highest : goal.returns-then-not-is_highest
returns-then-not-is_highest c t = clash cc

pub loop-j-init : goal.loop-j-init
loop-j-init c =
    (refl, c.requires.1 (c.args.count - 1), c.lowest-low.ensures, λ i h. absurd (omega arith))

pub slot_at-slot-requires : goal.slot_at-slot-requires
slot_at-slot-requires c =
    (c.requires.0, c.requires.1 c.loop-j.j)

pub slot_at-requires-in-loop-j : goal.slot_at-requires-in-loop-j
slot_at-requires-in-loop-j c = (c.requires.0, omega (arith, c.loop-j.invariant.1, c.requires.1 c.loop-j.j))

pub returns-then-not-is_framed : goal.returns-then-not-is_framed
returns-then-not-is_framed c t = clash cc

pub loop-j-preserved : goal.loop-j-preserved
loop-j-preserved c =
    let l = c.loop-j in
    let xs = c.args.file.now in let size = c.args.size in let order = c.args.order.now in
    let k = get_or order l.j 0 in
    let is = c.slot_at-slot.ensures.0 in
    let before_is = c.slot_at-in-loop-j.ensures.0 ∙ ap (λ (B : ℕ). bytes_at_slot size.layout B xs) l.invariant.0 in
    let F = framed_at xs size order c.args.count l.j _ _ _ _ is before_is (rw c.slot_at-slot.ensures.1 at c.slot_at-slot.result.of_size) l.invariant.2 c.high-high.ensures
    (rw c.slot_at-slot.ensures.1 at c.is_framed.ensures (c.if-not-is_framed.false)) in
    let next : suc l.j ≡ l.j + 1 = omega arith in (
      subst (λ (m : ℕ). k ≡ get_or order (place_before c.args.count m) 0) next refl,
      c.requires.1 l.j,
      subst (λ (m : ℕ). key_value c.high-high.result ≡ edge xs size order m) next F.1,
      λ i h. elim (ℕ_discrete i l.j) [
        | yes e ↦ rw e F.0
        | no n ↦ l.invariant.3 i (omega arith)
      ],
    )

pub returns : goal.returns
returns c t =
    let l = c.loop-j in
    let is = c.slot_at.ensures.0 in (
      rw (← is) (eqb-true _ 0 (sym c.is_highest.ensures ∙ c.if-not-is_highest.false)),
      λ j h. l.invariant.3 j (omega arith),
    )
