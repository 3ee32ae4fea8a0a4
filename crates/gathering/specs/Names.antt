-- The names of a row, and what gathering tells of them.
use Rattle.std.specs.Prelude.{◌≡◌, ℕ, zero, suc, ◌^◌, ◌<◌, ◌≤◌, true, List, [], ◌∷◌, take, drop, slice_index, slice_range}
use Rattle.model.specs.Order.{Str}
use Rattle.model.specs.Tests.{are_digits, is_legal_filled}
use Rattle.digits.specs.declared.Key.{Key}
use Rattle.digits.specs.Keys.{is_all_zero, value}
use Rattle.gathering.specs.declared.Seen.{Seen}

-- The names of n entries, each of e bytes.
unfoldable pub names : ℕ → ℕ → List ℕ → List Str
names e zero xs = []
names e (suc n) xs = take 24 xs ∷ names e n (drop e xs)

-- Legal names, each above the one before; the first is above the number low.
abbrev pub Rising : ℕ → List Str → Type 0
Rising low [] = Unit {0}
Rising low (x ∷ xs) = (is_legal_filled x ≡ true) × (low < value x) × Rising (value x) xs

-- A key with the highest bit of no word set.
pub record Small (k : Key) : Type 0 where
  pub first : k.a < 2 ^ 63
  pub second : k.b < 2 ^ 63
  pub third : k.c < 2 ^ 63

-- Nothing is wrong with what was gathered: no byte is above 0x7D, none below 0x20, no name begins with a blank, and all ascend.
pub record Clean (most least : List ℕ) (ascents : ℕ) : Type 0 where
  pub above : (j : ℕ) → j < 24 → slice_index most j ≤ 0x7D
  pub under : (j : ℕ) → j < 24 → 0x20 ≤ slice_index least j
  pub begun : 0x21 ≤ slice_index least 0
  pub rising : 2 ^ 63 ≤ ascents

abbrev pub Fine : Seen → Type 0
Fine s = Clean s.most s.least s.ascents

-- No smallest byte is above the largest digit, from which the gathering begins.
abbrev pub Lowest : Seen → Type 0
Lowest s = (j : ℕ) → slice_index s.least j ≤ 0x7D

-- Bytes with the highest bit clear.
abbrev pub AreLow : List ℕ → Type 0
AreLow [] = Unit {0}
AreLow (d ∷ x) = (d < 0x80) × AreLow x

-- A bound of `len` digits in 24 bytes, and zeros behind it.
abbrev pub BoundIn : ℕ → List ℕ → Type 0
BoundIn len s = (are_digits 0x20 (take len s) ≡ true) × (is_all_zero (slice_range s len 24) ≡ true)
