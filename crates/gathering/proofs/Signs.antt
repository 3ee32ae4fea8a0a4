-- The order of two keys by the sign of their difference.
use Rattle.model.proofs.Prelude.{◌%◌, ◌*◌, ◌+◌, ◌-◌, ◌<◌, ◌^◌, ◌≡◌, ◌≤◌, add-zero, arith, ℕ}

-- One borrow: t is that of c - z.
carry : (p q c z t : ℕ) → z ≤ c + t * 2 ^ 64 → c + t * 2 ^ 64 < z + 2 ^ 64 → (p < q + t → p * 2 ^ 64 + c < q * 2 ^ 64 + z) × (p * 2 ^ 64 + c < q * 2 ^ 64 + z → p < q + t)
carry p q c z t h k = (λ l. omega arith, λ l. omega arith)

apart : (m n k l : ℕ) → m < n + (k + l) → m < n + k + l
apart m n k l h = omega arith

together : (m n k l : ℕ) → m < n + k + l → m < n + (k + l)
together m n k l h = omega arith

-- Two borrows: the first words decide, with the borrow of the others.
module _ (a b c x y z t u : ℕ) (p : (z + 0 ≤ c + t * 2 ^ 64) × (c + t * 2 ^ 64 < z + 0 + 2 ^ 64)) (q : (y + t ≤ b + u * 2 ^ 64) × (b + u * 2 ^ 64 < y + t + 2 ^ 64)) where
  last : (a * 2 ^ 64 + b < x * 2 ^ 64 + y + t → (a * 2 ^ 64 + b) * 2 ^ 64 + c < (x * 2 ^ 64 + y) * 2 ^ 64 + z)
      × ((a * 2 ^ 64 + b) * 2 ^ 64 + c < (x * 2 ^ 64 + y) * 2 ^ 64 + z → a * 2 ^ 64 + b < x * 2 ^ 64 + y + t)
  last = carry (a * 2 ^ 64 + b) (x * 2 ^ 64 + y) c z t (rw add-zero at p.0) (rw add-zero at p.1)

  pub first_below : a < x + u → (a * 2 ^ 64 + b) * 2 ^ 64 + c < (x * 2 ^ 64 + y) * 2 ^ 64 + z
  first_below h = last.0 (apart (a * 2 ^ 64 + b) (x * 2 ^ 64) y t ((carry a x b (y + t) u q.0 q.1).0 h))

  pub below_first : (a * 2 ^ 64 + b) * 2 ^ 64 + c < (x * 2 ^ 64 + y) * 2 ^ 64 + z → a < x + u
  below_first h = (carry a x b (y + t) u q.0 q.1).1 (together (a * 2 ^ 64 + b) (x * 2 ^ 64) y t (last.1 h))

-- The highest bit of a - x - u.
module _ (a x u d r : ℕ) (ha : a < 2 ^ 63) (hx : x < 2 ^ 63) (hu : u ≤ 1) (e : (d + x) % 2 ^ 64 ≡ a) (f : (r + u) % 2 ^ 64 ≡ d) (l : r < 2 ^ 64) where
  pub sign_below : 2 ^ 63 ≤ r → a < x + u
  sign_below h = omega arith

  pub below_sign : a < x + u → 2 ^ 63 ≤ r
  below_sign h = omega arith

-- `x.wrapping_sub(y)`, to which y is added again.
abbrev pub less : ℕ → ℕ → ℕ
less x y = (x + (2 ^ 64 - y)) % 2 ^ 64

pub less_more : (x y : ℕ) → x < 2 ^ 64 → y < 2 ^ 64 → (less x y + y) % 2 ^ 64 ≡ x
less_more x y h k = omega arith

pub less_lt : (x y : ℕ) → less x y < 2 ^ 64
less_lt x y = omega arith
