-- The parts of a slot as the code reads them.
use Rattle.model.proofs.Prelude.{Bool, List, [], ◌*◌, ◌+◌, ◌-◌, ◌/◌, ◌<◌, ◌^◌, ◌∙◌, ◌∷◌, ◌≡◌, ◌≤◌, ap, arith, drop, eqb, eqb-true, false, get_or, le-ltb, length, length-take, lt-ltb, refl, sym, take, true, ℕ}
use Rattle.model.specs.Format.{value_of}
use Rattle.model.proofs.Tests.{both_true}
use Rattle.model.proofs.Lists.{drop-take}
use Rattle.digits.specs.Keys.{is_all_zero, value}
use Rattle.digits.proofs.Bytes.{halves, lower_lt}
use Rattle.digits.proofs.Keys.{bytes_part, length_part, value_same}
use Rattle.gathering.proofs.Parts.{value_zero}
use Rattle.bucket.specs.Slots.{bound_bytes_at, count_at}

-- The parts of a slot as the code reads them; r is the byte that says how long.
pub bound_none : (k at r : ℕ) (xs : List ℕ) → r ≡ get_or xs k 0 → 24 < r
    → (take (at - at) (drop at xs) ≡ bound_bytes_at k at xs) × (length (take (at - at) (drop at xs)) ≤ 24)
unfolding bound_bytes_at
bound_none k at r xs e h =
    let i : at - at ≡ 0 = omega arith in
    rw (i, ← e, lt-ltb 24 r h) (refl, omega arith)

pub bound_read : (k at r : ℕ) (xs : List ℕ) → r ≡ get_or xs k 0 → r ≤ 24
    → (take (at + r - at) (drop at xs) ≡ bound_bytes_at k at xs) × (length (take (at + r - at) (drop at xs)) ≤ 24)
unfolding bound_bytes_at
bound_read k at r xs e h =
    let i : at + r - at ≡ r = omega arith in
    rw (i, ← e, le-ltb 24 r h) (refl, omega (arith, length-take r (drop at xs)))

pub count_most : (b r : ℕ) (xs : List ℕ) → r ≡ get_or xs 1 0 → b < r → b ≡ count_at b xs
unfolding count_at
count_most b r xs e h = rw (← e, lt-ltb b r h)

pub count_read : (b r : ℕ) (xs : List ℕ) → r ≡ get_or xs 1 0 → r ≤ b → r ≡ count_at b xs
unfolding count_at
count_read b r xs e h = rw (← e, le-ltb b r h)

-- Two parts of 24 bytes that are the same as numbers.
pub parts_same : (at to : ℕ) (xs ys : List ℕ) → at + 24 ≤ length xs → to + 24 ≤ length ys → ((i : ℕ) → get_or xs i 0 < 256) → ((i : ℕ) → get_or ys i 0 < 256)
    → value (take 24 (drop at xs)) ≡ value (take 24 (drop to ys)) → take 24 (drop at xs) ≡ take 24 (drop to ys)
parts_same at to xs ys h g b d v =
    value_same (take 24 (drop at xs)) (take 24 (drop to ys)) (bytes_part xs 24 at b) (bytes_part ys 24 to d) (length_part xs at 24 h ∙ sym (length_part ys to 24 g)) v

-- Bytes that are zero, by their number.
value_none : (x : List ℕ) → is_all_zero x ≡ true → value_of x ≡ 0
unfolding value_of is_all_zero
value_none [] e = refl
value_none (d ∷ x) e = let p = both_true (eqb d 0) (is_all_zero x) e in omega (arith, eqb-true d 0 p.0, value_none x p.1)

pub zero_not_value : (x : List ℕ) → (value_of x ≡ 0 → ⊥) → is_all_zero x ≡ false
zero_not_value x f = go (is_all_zero x) refl
  where
    go : (t : Bool) → is_all_zero x ≡ t → t ≡ false
    go true e = absurd (f (value_none x e))
    go false e = refl

-- The upper half of the first word.
module _ (xs : List ℕ) (w : ℕ) (room : 8 ≤ length xs) (bytes : (i : ℕ) → get_or xs i 0 < 256) (e : w ≡ value_of (take 8 xs)) where
  abbrev x : List ℕ
  x = take 8 xs

  upper_is : drop 4 x ≡ take 4 (drop 4 xs)
  upper_is = drop-take 4 8 xs

  parts : w ≡ value_of (take 4 x) + 4294967296 * value_of (take 4 (drop 4 xs))
  parts = e ∙ halves 4 x (bytes_part xs 8 0 bytes) (length_part xs 0 8 room) ∙ ap (λ (y : List ℕ). value_of (take 4 x) + 4294967296 * value_of y) upper_is

  low_lt : value_of (take 4 x) < 4294967296
  low_lt = lower_lt 4 x (bytes_part xs 8 0 bytes) (length_part xs 0 8 room)

  pub upper_zero : w / 2 ^ 32 ≡ 0 → is_all_zero (take 4 (drop 4 xs)) ≡ true
  upper_zero z = value_zero (take 4 (drop 4 xs)) (omega (arith, parts, low_lt))

  pub upper_some : (w / 2 ^ 32 ≡ 0 → ⊥) → is_all_zero (take 4 (drop 4 xs)) ≡ false
  upper_some n = zero_not_value (take 4 (drop 4 xs)) (λ z. n (omega (arith, parts, low_lt, z)))
