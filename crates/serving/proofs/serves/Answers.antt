-- `serves` meets its contract: what it tested is what a bucket that is well formed passes.
use Rattle.model.proofs.Prelude.{◌*◌, ◌+◌, ◌-◌, ◌∙◌, ◌≡◌, ap, arith, eqb-true, get_or, refl, subst, sym, ℕ}
use Rattle.model.specs.Format.{entry_length}
use Rattle.digits.specs.Keys.{key_value}
use Rattle.serving.specs.Serving.{HighSeen}
use Rattle.serving.proofs.Served.{served}
use Rattle.serving.proofs.serves.Goals as goal

pub returns : goal.returns
returns c t =
    let s = c.args.slot.now in let xs = s.bytes.now in let row = c.in-Some.ensures in let e = entry_length s.layout in
    let l : 64 + c.entry_at-last.result ≡ 64 + e * (get_or xs 1 0 - 1) = ap (λ (m : ℕ). 64 + m) (rw (row.1, row.2) at c.entry_at-last.ensures.is) in
    let low = c.low-low in let high = c.high-high in
    served e s.layout.b xs s.of_size.0 s.each (record { low = low.result; high = high.result }) (key_value c.args.name)
    (eqb-true (get_or xs 0 0) 1 (sym c.is_used.ensures ∙ t)) (omega arith) row.3 row.4
    (rw (row.0, row.1, row.2) at (c.are_names.ensures c.if-not-are_names.false))
    (c.is_over.ensures (c.if-not-is_over.false))
    (subst (λ (m : ℕ). HighSeen xs (key_value high.result) (key_value c.args.name) m) l (c.is_under.ensures (c.if-not-is_under.false)))
    low.ensures high.ensures s.layout refl refl
