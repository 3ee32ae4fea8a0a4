-- The size of a slot, and its parts as they are read.
use Rattle.std.specs.Prelude.{Bool, ◌&&◌, cond, true, List, [], ◌≡◌, ◌*◌, ◌+◌, ◌-◌, ◌≤◌, ℕ, leb, ltb, drop, get_or, length, take}
use Rattle.model.specs.declared.Layout.{Layout}
use Rattle.model.specs.Entries.{Entry}
use Rattle.model.specs.Files.{used}
use Rattle.model.specs.Format.{bytes_of_slot, entry_length, low_of}
use Rattle.model.specs.Names.{Bound}
use Rattle.model.specs.Order.{Low, Str, diff}
use Rattle.model.specs.Tests.{is_legal_bound}
use Rattle.digits.specs.Keys.{continued, is_all_zero, low_value, value}

-- Bytes as many as a slot of this layout has.
abbrev pub OfSize : List ℕ → Layout → Type 0
OfSize xs y = (length xs ≡ 64 + entry_length y * y.b) × (y.b ≤ 16)

-- A bound from `at` on, its length in byte k. A length above 24 is none that a bound has, and reads as empty.
unfoldable pub bound_bytes_at : ℕ → ℕ → List ℕ → List ℕ
bound_bytes_at k at xs = cond (ltb 24 (get_or xs k 0)) [] (take (get_or xs k 0) (drop at xs))

-- The same without that limit, as a slot is read.
abbrev pub low_in : List ℕ → Low
low_in xs = low_of (take (get_or xs 2 0) (drop 8 xs))

abbrev pub high_in : List ℕ → Str
high_in xs = take (get_or xs 3 0) (drop 32 xs)

-- A bound of `len` digits in its 24 bytes.
unfoldable pub is_a_bound : ℕ → List ℕ → Bool
is_a_bound len s = leb len 24 && is_legal_bound (take len s) && is_all_zero (drop len s)

-- The ends of a slot's range, as they are told where its bounds stand there: zeros behind them, and not above 24 digits.
abbrev pub LowTold : List ℕ → ℕ → Type 0
LowTold xs v =
    get_or xs 2 0 ≤ 24 → is_all_zero (take (24 - get_or xs 2 0) (drop (8 + get_or xs 2 0) xs)) ≡ true → v ≡ low_value (low_of (take (get_or xs 2 0) (drop 8 xs)))

abbrev pub HighTold : List ℕ → ℕ → Type 0
HighTold xs v =
    get_or xs 3 0 ≤ 24 → is_all_zero (take (24 - get_or xs 3 0) (drop (32 + get_or xs 3 0) xs)) ≡ true → v ≡ value (continued (take (get_or xs 3 0) (drop 32 xs)))

-- R3.4 and R3.7: the lower bound; R3.5 and R3.9: the upper.
abbrev pub lower_bytes : List ℕ → List ℕ
lower_bytes xs = bound_bytes_at 2 8 xs

abbrev pub upper_bytes : List ℕ → List ℕ
upper_bytes xs = bound_bytes_at 3 32 xs

-- The lower bound is the upper bound of the slot before, in its length and in all 24 bytes.
abbrev pub Following : List ℕ → List ℕ → Type 0
Following xs before = (get_or xs 2 0 ≡ get_or before 3 0) × (take 24 (drop 8 xs) ≡ take 24 (drop 32 before))

-- The bytes of a used slot with this upper bound.
pub record Uppered (xs : List ℕ) (u : Str) : Type 0 where
  pub layout : Layout
  pub low : Low
  pub entries : List Entry
  pub bound : Bound u
  pub is : xs ≡ bytes_of_slot layout (used low u entries)

-- How many digits the upper bounds of two used slots share.
abbrev pub SharedTold : ℕ → List ℕ → List ℕ → Type 0
SharedTold r xs ys = (u v : Str) → Uppered xs u → Uppered ys v → r ≡ diff u v

-- R3.3: the number of entries.
unfoldable pub count_at : ℕ → List ℕ → ℕ
count_at b xs = cond (ltb b (get_or xs 1 0)) b (get_or xs 1 0)
