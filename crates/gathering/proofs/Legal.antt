-- One filled name by its words, and a name that is legal by the name filled.
use Rattle.model.proofs.Prelude.{List, [], ◌&&◌, ◌++◌, ◌-◌, ◌<◌, ◌∙◌, ◌∷◌, ◌≡◌, ◌≤◌, ap, arith, eqb, length, not, refl, replicate, sym, take_all, true, zero-add, ℕ}
use Rattle.model.specs.Names.{filled}
use Rattle.model.specs.Order.{Str, first_digit, last_digit}
use Rattle.model.specs.Tests.{are_digits, is_blank_digit, is_legal_filled, is_legal_name}
use Rattle.model.proofs.Tests.{both_true}
use Rattle.model.proofs.Names.{are_digits_digits, blank_no, digits_are_digits, digits_front, filled_short}
use Rattle.digits.proofs.Laws as digits
use Rattle.gathering.specs.Names.{Clean}
use Rattle.gathering.proofs.Names.{NameAt, name_legal}

pub clean_name : (s : List ℕ) (m : ℕ) → length s ≡ 24 → Clean s s m → is_legal_filled s ≡ true
clean_name s m e C =
    let N : NameAt s 0 = record { above = λ j h. rw (zero-add j) (C.above j h); under = λ j h. rw (zero-add j) (C.under j h); begun = C.begun } in
    sym (ap is_legal_filled (take_all 24 s (omega arith))) ∙ name_legal s 0 (omega arith) N

first_filled : (n y : Str) → 0 < length n → first_digit (n ++ y) ≡ first_digit n
first_filled [] y h = absurd (omega arith)
first_filled (d ∷ n) y h = refl

pub filled_legal : (n : List ℕ) → 0 < length n → length n ≤ 24 → (last_digit n ≡ 0x20 → ⊥) → is_legal_filled (filled n) ≡ true → is_legal_name n ≡ true
unfolding is_legal_filled
filled_legal n some fits last e =
    let y : Str = replicate (24 - length n) 0x20 in
    let i = filled_short n fits in
    let p = both_true (eqb (length (filled n)) 24 && are_digits 0x20 (filled n)) (not (is_blank_digit (first_digit (filled n)))) e in
    let q = both_true (eqb (length (filled n)) 24) (are_digits 0x20 (filled n)) p.0 in
    let d : are_digits 0x20 (n ++ y) ≡ true = rw (← i) q.1 in
    digits.legal_name n (omega arith) fits (λ b. blank_no (first_digit (filled n)) p.1 (rw (i, first_filled n y some) b)) last
    ∙ digits_are_digits 0x20 n (digits_front n y (are_digits_digits 0x20 (n ++ y) d))
