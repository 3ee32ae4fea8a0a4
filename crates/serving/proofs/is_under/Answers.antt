-- `is_under` meets its contract.
use Rattle.model.proofs.Prelude.{◌∙◌, ap, ltb, ltb-false, not-true, sym, ℕ}
use Rattle.digits.specs.Keys.{key_value}
use Rattle.serving.proofs.is_under.Goals as goal

pub returns : goal.returns
returns c t =
    let a = c.args in
    record {
      bound = c.is_plain.ensures c.if-not-is_plain.false;
      under = ltb-false _ _ (sym c.is_below.ensures ∙ c.if-is_below.false);
      last_under = ltb-false _ _ (sym (ap (λ (m : ℕ). ltb (key_value a.high) m) c.at.ensures) ∙ sym c.is_below-2.ensures ∙ not-true c.is_below-2.result t);
    }
