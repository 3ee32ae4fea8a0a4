-- `Row::are_between` meets its contract.
use Rattle.model.proofs.Prelude.{◌-◌, ◌∙◌, ap, arith, ltb, not, sym, ℕ}
use Rattle.digits.specs.Keys.{key_value}
use Rattle.entries.proofs.Searches.{between_high, between_low, between_none, first_name}
use Rattle.entries.proofs.row.Row.are_between.Goals as goal

pub returns-then-self-eq0 : goal.returns-then-self-eq0
returns-then-self-eq0 c =
    let a = c.args in let r = a.self.now in
    ap not c.is_below.ensures ∙ between_none r.e r.count r.bytes.now (key_value a.low) (key_value a.high) c.if-self-eq0.true

pub returns-then-not-is_below : goal.returns-then-not-is_below
returns-then-not-is_below c =
    let a = c.args in let r = a.self.now in let low = key_value a.low in
    between_low r.e r.count r.bytes.now low (key_value a.high) (r.count - 1) (omega (arith, c.if-self-eq0.false))
    (ap (λ (w : ℕ). ltb low w) (sym (first_name r.e r.bytes.now) ∙ sym c.name_at.ensures) ∙ sym c.is_below-2.ensures ∙ c.if-not-is_below.true)

pub returns : goal.returns
returns c =
    let a = c.args in let r = a.self.now in let low = key_value a.low in
    ap not (c.is_below-3.ensures ∙ ap (λ (v : ℕ). ltb (key_value a.high) v) c.name_at-2.ensures)
    ∙ between_high r.e r.count r.bytes.now low (key_value a.high) (r.count - 1) (omega (arith, c.if-self-eq0.false))
    (ap (λ (w : ℕ). ltb low w) (sym (first_name r.e r.bytes.now) ∙ sym c.name_at.ensures) ∙ sym c.is_below-2.ensures ∙ c.if-not-is_below.false)
