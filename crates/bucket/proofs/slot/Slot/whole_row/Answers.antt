-- `Slot::whole_row` meets its contract.
use Rattle.model.proofs.Prelude.{◌*◌, ◌+◌, ◌∙◌, ◌≡◌, ap, arith, get_or, sym, ℕ}
use Rattle.model.specs.Format.{entry_length}
use Rattle.bucket.specs.Forms.{is_all_clear}
use Rattle.bucket.proofs.slot.Slot.whole_row.Goals as goal

pub returns-then-self-count : goal.returns-then-self-count
returns-then-self-count c = λ h. absurd (omega (arith, h))

pub returns-then-not-is_clear : goal.returns-then-not-is_clear
returns-then-not-is_clear c =
    let s = c.args.self.now in let xs = s.bytes.now in let o = c.entry_at-end in
    let d : 64 + entry_length s.layout * get_or xs 1 0 ≡ 64 + o.result = ap (λ (e : ℕ). 64 + e * get_or xs 1 0) (sym c.first-row.ensures.1) ∙ ap (λ (m : ℕ). 64 + m) (sym o.ensures.is) in
    λ h. ap (is_all_clear xs) d ∙ sym c.is_clear.ensures ∙ c.if-not-is_clear.true

pub returns : goal.returns
returns c =
    let s = c.args.self.now in let xs = s.bytes.now in let o = c.entry_at-end in let row = c.first-row.ensures in
    let d : 64 + entry_length s.layout * get_or xs 1 0 ≡ 64 + o.result = ap (λ (e : ℕ). 64 + e * get_or xs 1 0) (sym row.1) ∙ ap (λ (m : ℕ). 64 + m) (sym o.ensures.is) in
    (row.0, row.1, row.2, c.if-self-count.false, ap (is_all_clear xs) d ∙ sym c.is_clear.ensures ∙ c.if-not-is_clear.false, row.3)
