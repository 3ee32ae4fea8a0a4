-- `sizes` meets its contract: the product of legal sizes fits, and a length that it tells of is whole.
use Rattle.model.proofs.Prelude.{◌*◌, ◌+◌, ◌∙◌, ap, arith, refl, sym, ℕ}
use Rattle.model.proofs.Tests.{never_both}
use Rattle.file.proofs.Laws.{slots_fit}
use Rattle.file.proofs.Headers.{illegal}
use Rattle.file.proofs.sizes.Goals as goal

pub returns-then-not-is_offered : goal.returns-then-not-is_offered
returns-then-not-is_offered c =
    illegal _ _ _ (λ g e. never_both c.is_offered.result (c.is_offered.ensures ∙ g.offered) (c.if-not-is_offered.true))

pub returns-then-layout-lt2 : goal.returns-then-layout-lt2
returns-then-layout-lt2 c = illegal _ _ _ (λ g e. absurd (omega (arith, g.b_least)))

pub returns-then-layout-gt16 : goal.returns-then-layout-gt16
returns-then-layout-gt16 c = illegal _ _ _ (λ g e. absurd (omega (arith, g.b_most)))

pub returns-then-slots-lt1 : goal.returns-then-slots-lt1
returns-then-slots-lt1 c = illegal _ _ _ (λ g e. absurd (omega (arith, g.slots_least)))

pub returns-then-slots-gt64 : goal.returns-then-slots-gt64
returns-then-slots-gt64 c = illegal _ _ _ (λ g e. absurd (omega (arith, g.slots_most)))

pub overflow_mul-slots : goal.overflow_mul-slots
overflow_mul-slots c =
    let a = c.args in
    let h = slots_fit a.slots c.slot_size.result (omega arith) c.slot_size.ensures.2 in
    omega arith

pub overflow_add-slots : goal.overflow_add-slots
overflow_add-slots c =
    let a = c.args in
    let h = slots_fit a.slots c.slot_size.result (omega arith) c.slot_size.ensures.2 in
    omega arith

pub returns-then-length-slots : goal.returns-then-length-slots
returns-then-length-slots c =
    let a = c.args in
    illegal _ _ _ (λ g e. c.if-length-slots.true (e ∙ ap (λ (n : ℕ). 16 + a.slots * n) (sym c.slot_size.ensures.0)))

pub returns : goal.returns
returns c =
    let a = c.args in (
      record {
        legal = record {
          offered = sym c.is_offered.ensures ∙ c.if-not-is_offered.false;
          b_least = omega arith;
          b_most = omega arith;
          slots_least = omega arith;
          slots_most = omega arith;
        };
        whole = c.if-length-slots.false ∙ ap (λ (n : ℕ). 16 + a.slots * n) c.slot_size.ensures.0;
      },
      refl,
      refl,
    )
