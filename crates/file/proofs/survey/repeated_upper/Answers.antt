-- `repeated_upper` meets its contract: the neighbours passed have different upper bounds.
use Rattle.model.proofs.Prelude.{List, ◌-◌, ◌∙◌, ◌≡◌, arith, refl, rules, subst, suc, ℕ, ℕ_discrete}
use Rattle.model.specs.Files.{Slot, head, upper_of}
use Rattle.digits.specs.Keys.{key_value}
use Rattle.digits.proofs.Laws.{same_words}
use Rattle.file.specs.Orders.{Known, Listed, placed}
use Rattle.file.proofs.Comparing.{place_high}
use Rattle.file.proofs.Chains.{other_upper, same_upper}
use Rattle.file.proofs.survey.repeated_upper.Goals as goal

pub loop-j-init : goal.loop-j-init
loop-j-init c = (omega arith, λ fs. λ K. λ L. λ i. λ h. absurd (omega arith))

pub slot_at-before-requires : goal.slot_at-before-requires
slot_at-before-requires c =
    let l = c.loop-j in
    (c.requires.0, omega (arith, c.requires.1 (l.j - 1)))

pub slot_at-slot-requires : goal.slot_at-slot-requires
slot_at-slot-requires c =
    let l = c.loop-j in
    (c.requires.0, omega (arith, c.requires.1 l.j))

pub returns-then-eq : goal.returns-then-eq
returns-then-eq c =
    let l = c.loop-j in
    let o = c.args.order.now in
    let n = c.args.count in (
      search rules,
      l.invariant.0,
      λ fs. λ K. λ L. record {
        apart = l.invariant.1 fs K L;
        same = λ i e h. subst (λ (k : ℕ). upper_of (head (placed fs o k)) ≡ upper_of (head (placed fs o l.j))) (omega arith)
            (same_upper K o n (omega (arith, c.requires.3)) L (l.j - 1) l.j (omega arith) (omega arith)
            (key_value c.high.result) (key_value c.high-in-loop-j.result)
            (place_high K o n L (l.j - 1) (omega arith) _ refl _ c.slot_at-before.ensures.0 _ c.high.ensures)
            (place_high K o n L l.j (omega arith) _ refl _ c.slot_at-slot.ensures.0 _ c.high-in-loop-j.ensures)
            c.eq.result (c.eq.ensures ∙ same_words c.high.result c.high-in-loop-j.result (omega arith) (omega arith) (omega arith) (omega arith)) c.if-eq.true);
      },
    )

pub loop-j-preserved : goal.loop-j-preserved
loop-j-preserved c =
    let l = c.loop-j in
    let o = c.args.order.now in let n = c.args.count in
    let now : (fs : List Slot) → Known c.args.size.layout c.args.file.now fs → Listed fs o n
    → upper_of (head (placed fs o (l.j - 1))) ≡ upper_of (head (placed fs o l.j)) → ⊥ =
    λ fs. λ K. λ L. other_upper K o n (omega (arith, c.requires.3)) L (l.j - 1) l.j (omega arith) (omega arith)
    (key_value c.high.result) (key_value c.high-in-loop-j.result)
    (place_high K o n L (l.j - 1) (omega arith) _ refl _ c.slot_at-before.ensures.0 _ c.high.ensures)
    (place_high K o n L l.j (omega arith) _ refl _ c.slot_at-slot.ensures.0 _ c.high-in-loop-j.ensures)
    c.eq.result (c.eq.ensures ∙ same_words c.high.result c.high-in-loop-j.result (omega arith) (omega arith) (omega arith) (omega arith)) c.if-eq.false in (
      omega arith,
      λ fs. λ K. λ L. λ i. λ h. λ g. elim (ℕ_discrete (suc i) l.j) [
        | yes e ↦ subst (λ (k : ℕ). upper_of (head (placed fs o i)) ≡ upper_of (head (placed fs o k)) → ⊥) (omega arith)
            (subst (λ (k : ℕ). upper_of (head (placed fs o k)) ≡ upper_of (head (placed fs o l.j)) → ⊥) (omega arith) (now fs K L))
        | no d ↦ l.invariant.1 fs K L i (omega arith) g
      ],
    )

pub returns : goal.returns
returns c =
    let l = c.loop-j in
    λ fs. λ K. λ L. record { apart = λ i h g. l.invariant.1 fs K L i (omega arith) g; same = λ i e h. absurd (omega arith) }
