-- Bytes as one number, the first lowest or highest.
use Rattle.model.proofs.Prelude.{List, [], ◌&&◌, ◌*◌, ◌++◌, ◌+◌, ◌-◌, ◌/◌, ◌<◌, ◌^◌, ◌∙◌, ◌∷◌, ◌≡◌, ◌≤◌, ap, arith, drop, drop-cons, drop-drop, eq-eqb, eqb, get_or, length, length-take, mul_assoc, ne_eqb, pow-suc, pow-succ', refl, suc, sym, take, take-add, take-append-drop, zero, ℕ, ℕ_discrete}
use Rattle.std.specs.Int.{w64, from_be_bytes, from_le_bytes}
use lib.Bits.{and_le_l, and_le_r, bit_or, or_add_and}
use Rattle.model.specs.Format.{AreBytes, value_of}
use Rattle.model.proofs.Format.{bytes_take}
use Rattle.digits.specs.Keys.{is_all_zero, value}
use Rattle.digits.proofs.Keys.{bytes_part, length_part, zero_append}

-- The bytes of one word.
pub record Word (x : List ℕ) : Type 0 where
  pub bytes : AreBytes x
  pub eight : length x ≡ 8

-- The eight bytes from `at` on are a word.
pub word_part : (s : List ℕ) (at : ℕ) → at + 8 ≤ length s → ((i : ℕ) → get_or s i 0 < 256) → Word (take 8 (drop at s))
word_part s at h f = record { bytes = bytes_part s 8 at f; eight = length_part s at 8 h }

-- `a | b` is zero where both are.
pub or_zero : (a b : ℕ) → bit_or a b ≡ 0 → (a ≡ 0) × (b ≡ 0)
or_zero a b e = (omega (arith, or_add_and a b, and_le_l a b, and_le_r a b), omega (arith, or_add_and a b, and_le_l a b, and_le_r a b))

pub or_eqb : (a b : ℕ) → eqb (bit_or a b) 0 ≡ (eqb a 0 && eqb b 0)
or_eqb a b = elim (ℕ_discrete a 0) [
  | no n ↦ rw (ne_eqb a 0 n, ne_eqb (bit_or a b) 0 (λ z. n (or_zero a b z).0))
  | yes e ↦ elim (ℕ_discrete b 0) [
    | no n ↦ rw (eq-eqb a 0 e, ne_eqb b 0 n, ne_eqb (bit_or a b) 0 (λ z. n (or_zero a b z).1))
    | yes f ↦ rw (e, f)
  ]
]

-- Numbers whose first byte is lowest.
value_of_step : (n k m : ℕ) (xs : List ℕ) → k < length xs → m ≡ suc k → value_of (take (suc n) (drop k xs)) ≡ get_or xs k 0 + 256 * value_of (take n (drop m xs))
unfolding value_of
value_of_step n k m xs h e = rw (drop-cons xs k 0 h, e)

pub value_of_append : (x y : List ℕ) → value_of (x ++ y) ≡ value_of x + 256 ^ length x * value_of y
unfolding value_of
value_of_append [] y = omega arith
value_of_append (d ∷ x) y = rw (value_of_append x y, pow-succ' 256 (length x)) (omega (arith, mul_assoc 256 (256 ^ length x) (value_of y)))

pub value_of_split : (at k n : ℕ) (xs : List ℕ) → at + k + n ≤ length xs
    → value_of (take (k + n) (drop at xs)) ≡ value_of (take k (drop at xs)) + 256 ^ k * value_of (take n (drop (at + k) xs))
value_of_split at k n xs h =
    rw (take-add k n (drop at xs), drop-drop k at xs, value_of_append, length_part xs at k (omega arith))

value_of_lt : (x : List ℕ) → AreBytes x → value_of x < 256 ^ length x
unfolding value_of
value_of_lt [] h = omega arith
value_of_lt (d ∷ x) h = omega (arith, h.0, value_of_lt x h.1, pow-suc 256 (length x))

-- Eight bytes, the first one lowest or highest.
pub value_of_eight : (xs : List ℕ) (k : ℕ) → k + 8 ≤ length xs
    → from_le_bytes w64 (get_or xs k 0 ∷ get_or xs (k + 1) 0 ∷ get_or xs (k + 2) 0 ∷ get_or xs (k + 3) 0 ∷ get_or xs (k + 4) 0 ∷ get_or xs (k + 5) 0 ∷ get_or xs (k + 6) 0 ∷ get_or xs (k + 7) 0 ∷ [])
    ≡ value_of (take 8 (drop k xs))
unfolding value_of
value_of_eight xs k h =
    omega (arith, value_of_step 7 k (k + 1) xs (omega arith) (omega arith), value_of_step 6 (k + 1) (k + 2) xs (omega arith) (omega arith), value_of_step 5 (k + 2) (k + 3) xs (omega arith) (omega arith), value_of_step 4 (k + 3) (k + 4) xs (omega arith) (omega arith), value_of_step 3 (k + 4) (k + 5) xs (omega arith) (omega arith), value_of_step 2 (k + 5) (k + 6) xs (omega arith) (omega arith), value_of_step 1 (k + 6) (k + 7) xs (omega arith) (omega arith), value_of_step 0 (k + 7) (k + 8) xs (omega arith) (omega arith))

value_step : (n k m : ℕ) (xs : List ℕ) → k + suc n ≤ length xs → m ≡ suc k → value (take (suc n) (drop k xs)) ≡ get_or xs k 0 * 256 ^ n + value (take n (drop m xs))
unfolding value
value_step n k m xs h e = rw (drop-cons xs k 0 (omega arith), e, length_part xs (suc k) n (omega arith))

pub value_eight : (xs : List ℕ) (k : ℕ) → k + 8 ≤ length xs
    → from_be_bytes w64 (get_or xs k 0 ∷ get_or xs (k + 1) 0 ∷ get_or xs (k + 2) 0 ∷ get_or xs (k + 3) 0 ∷ get_or xs (k + 4) 0 ∷ get_or xs (k + 5) 0 ∷ get_or xs (k + 6) 0 ∷ get_or xs (k + 7) 0 ∷ [])
    ≡ value (take 8 (drop k xs))
unfolding value
value_eight xs k h =
    omega (arith, value_step 7 k (k + 1) xs (omega arith) (omega arith), value_step 6 (k + 1) (k + 2) xs (omega arith) (omega arith), value_step 5 (k + 2) (k + 3) xs (omega arith) (omega arith), value_step 4 (k + 3) (k + 4) xs (omega arith) (omega arith), value_step 3 (k + 4) (k + 5) xs (omega arith) (omega arith), value_step 2 (k + 5) (k + 6) xs (omega arith) (omega arith), value_step 1 (k + 6) (k + 7) xs (omega arith) (omega arith), value_step 0 (k + 7) (k + 8) xs (omega arith) (omega arith))

-- A number's halves are those of the string.
module _ (n : ℕ) (x : List ℕ) (f : AreBytes x) (e : length x ≡ n + n) where
  pub length_lower : length (take n x) ≡ n
  length_lower = omega (arith, length-take n x)

  pub bytes_lower : AreBytes (take n x)
  bytes_lower = bytes_take n x f

  pub halves : value_of x ≡ value_of (take n x) + 256 ^ n * value_of (drop n x)
  halves = ap value_of (sym (take-append-drop n x)) ∙ value_of_append (take n x) (drop n x) ∙ ap (λ (m : ℕ). value_of (take n x) + 256 ^ m * value_of (drop n x)) length_lower

  pub lower_lt : value_of (take n x) < 256 ^ n
  lower_lt = rw length_lower at (value_of_lt (take n x) bytes_lower)

-- 0xFF behind the first n bytes of a word.
pub fill_is : (n : ℕ) → n ≤ 8 → 18446744073709551615 / 2 ^ (4 * n) / 2 ^ (4 * n) + 1 ≡ 256 ^ (8 - n)
fill_is zero h = refl
fill_is (suc zero) h = refl
fill_is (suc (suc zero)) h = refl
fill_is (suc (suc (suc zero))) h = refl
fill_is (suc (suc (suc (suc zero)))) h = refl
fill_is (suc (suc (suc (suc (suc zero))))) h = refl
fill_is (suc (suc (suc (suc (suc (suc zero)))))) h = refl
fill_is (suc (suc (suc (suc (suc (suc (suc zero))))))) h = refl
fill_is (suc (suc (suc (suc (suc (suc (suc (suc zero)))))))) h = refl
fill_is (suc (suc (suc (suc (suc (suc (suc (suc (suc n))))))))) h = absurd (omega arith)

-- A word is zero where its bytes are.
word_zero : (x : List ℕ) → eqb (value_of x) 0 ≡ is_all_zero x
unfolding value_of is_all_zero
word_zero [] = refl
word_zero (d ∷ x) = elim (ℕ_discrete d 0) [
  | no n ↦ rw (ne_eqb d 0 n, ne_eqb (d + 256 * value_of x) 0 (λ z. n (omega arith)))
  | yes e ↦ rw (eq-eqb d 0 e) (elim (ℕ_discrete (value_of x) 0) [
    | yes z ↦ eq-eqb (d + 256 * value_of x) 0 (omega arith) ∙ sym (eq-eqb (value_of x) 0 z) ∙ word_zero x
    | no n ↦ ne_eqb (d + 256 * value_of x) 0 (λ z. n (omega arith)) ∙ sym (ne_eqb (value_of x) 0 n) ∙ word_zero x
  ])
]

pub zero_word : (s : List ℕ) (at : ℕ) → is_all_zero (drop at s) ≡ (eqb (value_of (take 8 (drop at s))) 0 && is_all_zero (drop (at + 8) s))
zero_word s at =
    ap is_all_zero (sym (take-append-drop 8 (drop at s))) ∙ zero_append (take 8 (drop at s)) (drop 8 (drop at s))
    ∙ rw (drop-drop 8 at s, word_zero (take 8 (drop at s)))
