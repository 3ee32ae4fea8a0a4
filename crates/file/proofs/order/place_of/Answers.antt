-- `place_of` meets its contract: the halves close in on a place not above the count.
use Rattle.model.proofs.Prelude.{List, ◌+◌, ◌-◌, ◌/◌, ◌<◌, ◌∙◌, ◌≡◌, arith, false, get_or, refl, subst, sym, true, ℕ}
use Rattle.model.specs.Files.{Slot}
use Rattle.digits.specs.Keys.{key_value}
use Rattle.file.specs.Orders.{Known, Listed, placed, stands}
use Rattle.file.proofs.Comparing.{place_read}
use Rattle.file.proofs.order.place_of.Goals as goal

pub loop-least-init : goal.loop-least-init
loop-least-init c = (omega arith, omega arith, λ fs. λ K. λ L. (λ j. λ e. absurd (omega arith), λ h. absurd (omega arith)))

pub slot_at-slot-requires : goal.slot_at-slot-requires
slot_at-slot-requires c =
    let l = c.loop-least in
    (c.requires.0, omega (arith, c.requires.1 (l.least + (l.most - l.least) / 2)))

pub loop-least-preserved-then-is_before : goal.loop-least-preserved-then-is_before
loop-least-preserved-then-is_before c =
    let l = c.loop-least in
    let m = l.least + (l.most - l.least) / 2 in
    let told : (fs : List Slot) → Known c.args.size.layout c.args.file.now fs → Listed fs c.args.order.now c.args.count
    → stands (key_value c.args.high) (key_value c.args.low) (placed fs c.args.order.now m) ≡ true =
    λ fs. λ K. λ L.
    let y = place_read K c.args.order.now c.args.count L m (omega arith) _ refl _ c.slot_at-slot.ensures.0 in
    sym (c.is_before.ensures c.args.size.layout (placed fs c.args.order.now m) (L m (omega arith)) y (K.well (get_or c.args.order.now m 0))) ∙ c.if-is_before.true in
    (omega arith, omega arith, λ fs. λ K. λ L. ((l.invariant.2 fs K L).0, λ h. told fs K L))

pub loop-least-preserved : goal.loop-least-preserved
loop-least-preserved c =
    let l = c.loop-least in
    let m = l.least + (l.most - l.least) / 2 in
    let told : (fs : List Slot) → Known c.args.size.layout c.args.file.now fs → Listed fs c.args.order.now c.args.count
    → stands (key_value c.args.high) (key_value c.args.low) (placed fs c.args.order.now m) ≡ false =
    λ fs. λ K. λ L.
    let y = place_read K c.args.order.now c.args.count L m (omega arith) _ refl _ c.slot_at-slot.ensures.0 in
    sym (c.is_before.ensures c.args.size.layout (placed fs c.args.order.now m) (L m (omega arith)) y (K.well (get_or c.args.order.now m 0))) ∙ c.if-is_before.false in
    (omega arith, omega arith, λ fs. λ K. λ L. (λ j. λ e. subst (λ (n : ℕ). stands (key_value c.args.high) (key_value c.args.low) (placed fs c.args.order.now n) ≡ false) (omega arith) (told fs K L), (l.invariant.2 fs K L).1))

pub returns : goal.returns
returns c =
    let l = c.loop-least in (
      omega arith,
      λ fs. λ K. λ L. record {
        left = (l.invariant.2 fs K L).0;
        right = subst (λ (n : ℕ). n < c.args.count → stands (key_value c.args.high) (key_value c.args.low) (placed fs c.args.order.now n) ≡ true) (omega arith) (l.invariant.2 fs K L).1;
      },
    )
