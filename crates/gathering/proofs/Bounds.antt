-- A bound in three words: its digits and the zeros behind them, word by word.
use Rattle.std.proofs.Common.{◌≡◌, ℕ, ◌+◌, ◌-◌, ◌≤◌, true, ◌&&◌, leb, List, [], ◌∷◌, ◌++◌, length, take, drop, sym, refl, ap, ◌∙◌, arith, length-drop, take_all, drop-drop, take-add, le-leb}
use Rattle.model.proofs.Prelude.{and_assoc}
use Rattle.model.specs.Tests.{are_digits, is_legal_bound}
use Rattle.model.specs.Names.{Digits}
use Rattle.model.proofs.Names.{digits_are_digits}
use Rattle.digits.specs.Keys.{is_all_zero}
use Rattle.digits.proofs.Keys.{zero_append}
use Rattle.digits.proofs.Laws.{legal_part}
use Rattle.gathering.specs.Names.{BoundIn}

digits_append : (x y : List ℕ) → are_digits 0x20 (x ++ y) ≡ (are_digits 0x20 x && are_digits 0x20 y)
unfolding are_digits
digits_append [] y = refl
digits_append (d ∷ x) y = rw (digits_append x y) (sym (and_assoc (leb 0x20 d && leb d 0x7D) (are_digits 0x20 x) (are_digits 0x20 y)))

module _ (s : List ℕ) (at m n : ℕ) where
  parts : take (m + n) (drop at s) ≡ take m (drop at s) ++ take n (drop (at + m) s)
  parts = take-add m n (drop at s) ∙ ap (λ (y : List ℕ). take m (drop at s) ++ take n y) (drop-drop m at s)

  zeros : (to k : ℕ) → to ≡ at + m → k ≡ m + n → is_all_zero (take m (drop at s)) ≡ true → is_all_zero (take n (drop to s)) ≡ true → is_all_zero (take k (drop at s)) ≡ true
  zeros to k e f h g = rw (f, parts, zero_append (take m (drop at s)) (take n (drop (at + m) s)), h) (rw e at g)

  digits : (to k : ℕ) → to ≡ at + m → k ≡ m + n → are_digits 0x20 (take m (drop at s)) ≡ true → are_digits 0x20 (take n (drop to s)) ≡ true → are_digits 0x20 (take k (drop at s)) ≡ true
  digits to k e f h g = rw (f, parts, digits_append (take m (drop at s)) (take n (drop (at + m) s)), h) (rw e at g)

-- What a part of a bound tells.
abbrev Part : List ℕ → ℕ → ℕ → Type 0
Part s at k = Digits 0x20 (take k (drop at s)) × (is_all_zero (take (8 - k) (drop (at + k) s)) ≡ true)

module _ (s : List ℕ) (len : ℕ) where
  pub short_bound : len ≤ 8 → Part s 0 len → is_all_zero (take 8 (drop 8 s)) ≡ true → is_all_zero (take 8 (drop 16 s)) ≡ true → BoundIn len s
  short_bound h p q r =
      let e : 0 + len ≡ len = omega arith in (
        digits_are_digits 0x20 (take len s) p.0,
        zeros s len (8 - len) 16 8 (24 - len) (omega arith) (omega arith) (rw e at p.1) (zeros s 8 8 8 16 16 refl refl q r),
      )

  pub middle_bound : 8 ≤ len → len ≤ 16 → Part s 0 8 → Part s 8 (len - 8) → is_all_zero (take 8 (drop 16 s)) ≡ true → BoundIn len s
  middle_bound l h p q r =
      let e : 8 + (len - 8) ≡ len = omega arith in (
        digits s 0 8 (len - 8) 8 len refl (sym e) (digits_are_digits 0x20 (take 8 s) p.0) (digits_are_digits 0x20 (take (len - 8) (drop 8 s)) q.0),
        zeros s len (8 - (len - 8)) 8 16 (24 - len) (omega arith) (omega arith) (rw e at q.1) r,
      )

  pub long_bound : 16 ≤ len → len ≤ 24 → Part s 0 8 → Part s 8 8 → Part s 16 (len - 16) → BoundIn len s
  long_bound l h p q r =
      let e : 16 + (len - 16) ≡ len = omega arith in
      let f : 8 - (len - 16) ≡ 24 - len = omega arith in (
        digits s 0 16 (len - 16) 16 len refl (sym e) (digits s 0 8 8 8 16 refl refl (digits_are_digits 0x20 (take 8 s) p.0) (digits_are_digits 0x20 (take 8 (drop 8 s)) q.0)) (digits_are_digits 0x20 (take (len - 16) (drop 16 s)) r.0),
        rw (e, f) at r.1,
      )

  pub bound_in : length s ≡ 24 → len ≤ 24 → BoundIn len s → (leb len 24 && is_legal_bound (take len s) && is_all_zero (drop len s)) ≡ true
  bound_in n h b =
      let z : is_all_zero (drop len s) ≡ true = ap is_all_zero (sym (take_all (24 - len) (drop len s) (omega (arith, length-drop len s)))) ∙ b.1 in
      rw (le-leb len 24 h, legal_part len s h, b.0, z)
