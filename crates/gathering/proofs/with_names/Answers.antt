-- `gathering::with_names` meets its contract.
use Rattle.model.proofs.Prelude.{◌*◌, ◌+◌, ◌-◌, ◌∙◌, ◌≡◌, ap, arith, length, length-set, refl, rules, sym, ℕ}
use Rattle.std.proofs.Common.{mul-zero}
use Rattle.gathering.proofs.Names.{entry_in, grown_next, grown_none, held_all, held_next, held_none, next_entry, words_at}
use Rattle.gathering.proofs.with_names.Goals as goal

pub loop-k-init : goal.loop-k-init
loop-k-init c =
    let g = c.args in
    let most-full : length g.seen.most ≡ 32 = search rules in
    let least-full : length g.seen.least ≡ 32 = search rules in
    (sym (mul-zero g.e), most-full, least-full, held_none g.s.now g.e g.count 0 (g.count - 0) g.seen.most g.seen.least g.seen.ascents c.lowest-last.result refl (omega arith) c.lowest-last.ensures)

pub loop-i-init : goal.loop-i-init
loop-i-init c =
    let l = c.loop-k in let g = c.args in
    (omega (arith, l.invariant.0, entry_in g.e l.k g.count (omega arith)), l.invariant.1, l.invariant.2, grown_none g.s.now l.at l.most l.least)

pub loop-i-preserved : goal.loop-i-preserved
loop-i-preserved c =
    let i = c.loop-i in let l = c.loop-k in let g = c.args in
    let p = c.max in let q = c.min in (
      i.invariant.0,
      length-set i.most i.i p.result ∙ i.invariant.1,
      length-set i.least i.i q.result ∙ i.invariant.2,
      grown_next g.s.now l.at i.i l.most l.least i.most i.least p.result q.result i.invariant.3 (omega arith) (omega arith) p.ensures q.ensures,
    )

pub overflow_add-at-in-loop-k : goal.overflow_add-at-in-loop-k
overflow_add-at-in-loop-k c =
    omega (arith, c.loop-k.invariant.0, entry_in c.args.e c.loop-k.k c.args.count (omega arith))

pub loop-k-preserved : goal.loop-k-preserved
loop-k-preserved c =
    let i = c.loop-i in let l = c.loop-k in let g = c.args in
    let n = c.at-name in let a = c.ascent-ascents in
    let next : l.at + g.e ≡ g.e * (l.k + 1) = ap (λ (m : ℕ). m + g.e) l.invariant.0 ∙ sym (next_entry g.e l.k) in (
      next,
      i.invariant.1,
      i.invariant.2,
      held_next g.s.now g.e g.count g.seen.most g.seen.least g.seen.ascents l.most l.least l.ascents l.last l.at (g.count - l.k) i.i i.most i.least n.result a.result
          l.invariant.3
          (omega arith)
          (omega (arith, i.invariant.0))
          (λ k. omega (arith, c.type_inv.s k))
          (omega arith)
          (omega arith)
          i.invariant.3
          (omega arith)
          (words_at n.result g.s.now l.at (omega (arith, i.invariant.0)) (λ k. omega (arith, c.type_inv.s k)) (omega arith) (omega arith) n.ensures)
          a.ensures
          (l.at + g.e)
          (g.count - (l.k + 1))
          refl
          (omega arith),
    )

pub returns : goal.returns
returns c =
    let l = c.loop-k in let g = c.args in
    held_all g.s.now g.e g.count g.seen.most g.seen.least g.seen.ascents l.most l.least l.ascents l.last l.at (g.count - l.k) (omega arith) l.invariant.3
