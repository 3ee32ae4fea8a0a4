-- `digits::naming_of` meets its contract.
use Rattle.model.proofs.Prelude.{◌∙◌, ap, arith, eqb-false, eqb-true, sym, take_all}
use Rattle.digits.specs.Keys.{value}
use Rattle.digits.proofs.Laws.{blank_first, blank_last, legal_name, long_name, no_name}
use Rattle.digits.proofs.naming_of.Goals as goal

pub returns-then-is_empty : goal.returns-then-is_empty
returns-then-is_empty c = no_name c.args.name.now (omega (arith, eqb-true _ _ (sym c.is_empty.ensures ∙ c.if-is_empty.true)))

pub returns-then-name-gt24 : goal.returns-then-name-gt24
returns-then-name-gt24 c = long_name c.args.name.now c.if-name-gt24.true

pub returns-then-name-eq32 : goal.returns-then-name-eq32
returns-then-name-eq32 c = blank_first c.args.name.now (omega (arith, c.if-name-eq32.true))

pub returns-then-name-eq32-2 : goal.returns-then-name-eq32-2
returns-then-name-eq32-2 c = blank_last c.args.name.now (omega (arith, c.if-name-eq32-2.true))

pub returns-then-not-are_digits : goal.returns-then-not-are_digits
returns-then-not-are_digits c =
    let n = c.args.name.now in
    legal_name n (omega (arith, eqb-false _ _ (sym c.is_empty.ensures ∙ c.if-is_empty.false))) (omega arith) (λ q. c.if-name-eq32.false (omega (arith, q))) (λ q. c.if-name-eq32-2.false (omega (arith, q))) ∙ sym c.are_digits.ensures ∙ c.if-not-are_digits.true

pub returns : goal.returns
returns c =
    let a = c.args in let n = a.name.now in (
      legal_name n (omega (arith, eqb-false _ _ (sym c.is_empty.ensures ∙ c.if-is_empty.false))) (omega arith) (λ q. c.if-name-eq32.false (omega (arith, q))) (λ q. c.if-name-eq32-2.false (omega (arith, q))) ∙ sym c.are_digits.ensures ∙ c.if-not-are_digits.false,
      c.at.ensures ∙ ap value (take_all 24 a.filled.now (omega arith)),
    )
