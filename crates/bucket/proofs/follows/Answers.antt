-- `bucket::follows` meets its contract.
use Rattle.model.proofs.Prelude.{◌<◌, ◌∙◌, arith, eqb-true, get_or, sym, ℕ}
use Rattle.digits.proofs.Laws.{same_words}
use Rattle.bucket.proofs.Parts.{parts_same}
use Rattle.bucket.proofs.follows.Goals as goal

pub returns : goal.returns
returns c t =
    let a = c.args in
    let xs = a.slot.now in let ys = a.before.now in
    let f : (i : ℕ) → get_or xs i 0 < 256 = (λ i. omega (arith, c.type_inv.slot i)) in
    let g : (i : ℕ) → get_or ys i 0 < 256 = λ i. omega (arith, c.type_inv.before i) in (
      c.if-slot-before.false,
      parts_same 8 32 xs ys (omega arith) (omega arith) f g
          (sym c.at.ensures ∙ eqb-true _ _ (sym (same_words c.at.result c.at-2.result (omega arith) (omega arith) (omega arith) (omega arith)) ∙ sym c.eq.ensures ∙ t) ∙ c.at-2.ensures),
    )
