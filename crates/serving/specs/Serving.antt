-- What the look at one bucket tells that look up begins with.
use Rattle.std.specs.Prelude.{◌&&◌, true, List, ◌≡◌, ◌<◌, ◌≤◌, ℕ, leb, drop, get_or, take}
use Rattle.model.specs.declared.Layout.{Layout}
use Rattle.model.specs.Tests.{is_legal_bound}
use Rattle.digits.specs.Keys.{is_all_zero, key_value, value}
use Rattle.bucket.specs.declared.Bucket.{Bucket}
use Rattle.bucket.specs.Forms.{WellRead}

-- The lower bound is one, and its number v is below a name's and below the first entry's.
pub record LowSeen (xs : List ℕ) (v name : ℕ) : Type 0 where
  pub bound : (leb (get_or xs 2 0) 24 && is_legal_bound (take (get_or xs 2 0) (take 24 (drop 8 xs))) && is_all_zero (drop (get_or xs 2 0) (take 24 (drop 8 xs)))) ≡ true
  pub over : v < name
  pub first : v < value (take 24 (drop 64 xs))

-- The upper bound is one, and its number v is below neither a name's nor that of the entry at `last`.
pub record HighSeen (xs : List ℕ) (v name last : ℕ) : Type 0 where
  pub bound : (leb (get_or xs 3 0) 24 && is_legal_bound (take (get_or xs 3 0) (take 24 (drop 32 xs))) && is_all_zero (drop (get_or xs 3 0) (take 24 (drop 32 xs)))) ≡ true
  pub under : name ≤ v
  pub last_under : value (take 24 (drop last xs)) ≤ v

-- Bytes of a bucket that is well formed and has the name with this number in its range.
pub record Serves (y : Layout) (xs : List ℕ) (name : ℕ) : Type 0 where
  pub bucket : Bucket
  pub read : WellRead y xs bucket
  pub over : key_value bucket.low < name
  pub under : name ≤ key_value bucket.high
