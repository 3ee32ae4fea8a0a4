-- `tally_of` meets its contract: the slots passed are read, and are free or in the order.
use Rattle.model.proofs.Prelude.{◌-◌, ◌∙◌, ap, arith, subst, suc, sym, ℕ}
use Rattle.model.specs.Files.{free, well_free}
use Rattle.model.specs.Format.{bytes_at_slot, read_slot}
use Rattle.digits.specs.Keys.{is_all_zero}
use Rattle.bucket.proofs.Slots.{vacant_free}
use Rattle.surveying.specs.Rows.{Tallied}
use Rattle.surveying.proofs.Rows.{free_read, placed_mem, tallied_next, tallied_start}
use Rattle.surveying.proofs.tally_of.Goals as goal

pub loop-k-init : goal.loop-k-init
loop-k-init c W = tallied_start _ _ _ _

pub loop-k-preserved-in-Free : goal.loop-k-preserved-in-Free
loop-k-preserved-in-Free c =
    let l = c.loop-k in
    let xs = c.args.file.now in let size = c.args.size in let order = c.args.order.now in let ys = c.slot_at.ensures in
    let z = vacant_free (is_all_zero c.slot_at.result.bytes.now) (sym c.in-Free.is ∙ c.vacancy.ensures) in
    λ W.
    let T : Tallied xs size order c.args.count (suc (l.k - 1)) l.used = subst (λ (n : ℕ). Tallied xs size order c.args.count n l.used) (omega arith) (l.invariant W) in
    tallied_next T c.requires.0.legal.slots_most free (ap (read_slot size.layout) (sym ys.0) ∙ free_read size _ (rw ys.1 at c.slot_at.result.of_size) z) well_free (λ u. absurd u) _ c.with_next-used.ensures

pub returns-then-not-is_placed : goal.returns-then-not-is_placed
returns-then-not-is_placed c = tt

pub loop-k-preserved : goal.loop-k-preserved
loop-k-preserved c =
    let l = c.loop-k in
    let xs = c.args.file.now in let size = c.args.size in let order = c.args.order.now in
    let p = c.is_placed.ensures (c.if-not-is_placed.false) in
    λ W.
    let T : Tallied xs size order c.args.count (suc (l.k - 1)) l.used = subst (λ (n : ℕ). Tallied xs size order c.args.count n l.used) (omega arith) (l.invariant W) in
    let S = W p.0 p.1 in
    tallied_next T c.requires.0.legal.slots_most _ (ap (λ (B : ℕ). read_slot size.layout (bytes_at_slot size.layout B xs)) (sym p.2) ∙ S.read) S.well
    (λ u. placed_mem order c.args.count p.0 (l.k - 1) p.1 (omega (arith, c.requires.2)) p.2) _ c.with_next-used-in-Taken.ensures

pub returns : goal.returns
returns c W =
    let l = c.loop-k in
    subst (λ (n : ℕ). Tallied c.args.file.now c.args.size c.args.order.now c.args.count n l.used) (omega arith) (l.invariant W)
