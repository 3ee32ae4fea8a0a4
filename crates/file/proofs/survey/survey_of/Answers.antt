-- `survey_of` meets its contract: with k slots left to see, the count and k together are not above the slots.
use Rattle.std.specs.Prelude.{Option as Maybe}
use Rattle.model.proofs.Prelude.{◌-◌, ◌<◌, ◌∙◌, arith, refl, subst, suc, sym, ℕ}
use Rattle.bucket.specs.declared.Bucket.{Bucket}
use Rattle.bucket.specs.Forms.{Formed}
use Rattle.bucket.proofs.Slots.{vacant_free, vacant_taken}
use Rattle.file.specs.Orders.{Laid}
use Rattle.file.proofs.Laws.{below_zeros, some_slot}
use Rattle.file.proofs.Laying.{ill_said, laid_free, laid_start, laid_used}
use Rattle.file.proofs.survey.survey_of.Goals as goal

pub loop-k-init : goal.loop-k-init
loop-k-init c =
    (omega arith, below_zeros 64 _ (some_slot _ c.args.size c.requires).0, laid_start _ c.args.size)

pub loop-k-preserved-in-Free : goal.loop-k-preserved-in-Free
loop-k-preserved-in-Free c =
    let l = c.loop-k in let s = l.survey in
    let xs = c.args.file.now in let size = c.args.size in
    let L : Laid xs size (suc (l.k - 1)) s.order s.count s.used = subst (λ (n : ℕ). Laid xs size n s.order s.count s.used) (omega arith) l.invariant.2 in
    let y = c.slot_at-slot.ensures in
    let z = vacant_free _ (sym c.in-Free.is ∙ c.vacancy.ensures) in
    (omega arith, l.invariant.1, laid_free L (omega arith) c.requires.legal.slots_most _ y.0 (rw y.1 at c.slot_at-slot.result.of_size) z _ c.with_next.ensures)

pub returns-in_default : goal.returns-in_default
returns-in_default c =
    let l = c.loop-k in let s = l.survey in let xs = c.args.file.now in let size = c.args.size in
    let L : Laid xs size (suc (l.k - 1)) s.order s.count s.used = subst (λ (n : ℕ). Laid xs size n s.order s.count s.used) (omega arith) l.invariant.2 in
    let y = c.slot_at-slot.ensures in
    let z = vacant_taken _ (sym c.in-Taken.is ∙ c.vacancy.ensures) in
    let ill = subst (λ (r : Maybe Bucket). Formed size.layout c.slot_at-slot.result.bytes.now r) c.in_default.is (rw y.1 at c.form.ensures) in
    ill_said L (omega arith) c.requires.legal.slots_most _ y.0 (rw y.1 at c.slot_at-slot.result.of_size) z ill

pub loop-k-preserved : goal.loop-k-preserved
loop-k-preserved c =
    let l = c.loop-k in let s = l.survey in let xs = c.args.file.now in
    let t : 0 < l.k = omega arith in
    let most = c.requires.legal.slots_most in let size = c.args.size in
    let L : Laid xs size (suc (l.k - 1)) s.order s.count s.used = subst (λ (n : ℕ). Laid xs size n s.order s.count s.used) (omega arith) l.invariant.2 in
    let y = c.slot_at-slot.ensures in
    let z = vacant_taken _ (sym c.in-Taken.is ∙ c.vacancy.ensures) in
    let W = subst (λ (r : Maybe Bucket). Formed size.layout c.slot_at-slot.result.bytes.now r) c.in-Some.is (rw y.1 at c.form.ensures) in
    let n = c.insert.ensures in
    let p = c.place_of-place in (
      omega (arith, t, l.invariant.0),
      n.0 size.slots l.invariant.1 (omega (arith, t)),
      laid_used L (omega (arith, t)) most _ y.0 (rw y.1 at c.slot_at-slot.result.of_size) (omega (arith, t, l.invariant.0, most)) z W.is W.well _ _ W.high_is W.low_is p.result p.ensures.0 p.ensures.1
          _ refl _ n.1 n.2 _ c.with_next-in-Taken.ensures,
    )

pub judged-requires : goal.judged-requires
judged-requires c =
    let l = c.loop-k in let s = l.survey in
    (c.requires, l.invariant.1, omega arith, subst (λ (n : ℕ). Laid c.args.file.now c.args.size n s.order s.count s.used) (omega arith) l.invariant.2)
