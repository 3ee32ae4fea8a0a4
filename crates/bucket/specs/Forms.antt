-- What the code tests in a slot's bytes, and a slot of any layout as it is read: free, or used and well formed.
use Rattle.std.specs.Prelude.{Option, Some, None, Result, Ok, Err, Bool, ◌&&◌, cond, false, true, List, ◌≡◌, ◌*◌, ◌+◌, ◌<◌, ◌≤◌, ℕ, ltb, drop, get_or, length, take}
use Rattle.std.proofs.Math.Option.{some}
use Rattle.model.specs.Checks.{is_well_formed}
use Rattle.model.specs.Entries.{Entry}
use Rattle.model.specs.Files.{Slot, Well as WellFormed, used}
use Rattle.model.specs.Format.{EntrySize, entry_length, read_slot, read_used_slot}
use Rattle.model.specs.Names.{within}
use Rattle.model.specs.Order.{Low, Str, diff}
use Rattle.model.specs.declared.Layout.{Layout}
use Rattle.digits.specs.Keys.{continued, is_all_zero, key_value, low_value, value}
use Rattle.entries.specs.Rows.{are_between}
use Rattle.entries.specs.declared.row.Row.{Row}
use Rattle.bucket.specs.Slots.{Following, high_in, is_a_bound, low_in}
use Rattle.bucket.specs.declared.Bucket.{Bucket}
use Rattle.bucket.specs.declared.Vacancy.{Vacancy}
use Rattle.bucket.specs.declared.Vacancy.TheVariants.{Free, Taken}

abbrev pub vacant : Bool → Vacancy
vacant true = Free
vacant false = Taken

-- The range test of a name, by the digits of the lower and of the upper bound: the first digit number where the name differs from the one
-- that it breaks.
abbrev pub ranged : List ℕ → List ℕ → List ℕ → Result Unit ℕ
ranged lower upper n =
    cond (ltb 0 (length lower) && within n lower) (Err (diff n lower)) (cond (within n upper) (Ok tt) (Err (diff n upper)))

-- R3.6, R3.11 and R3.17: what is always zero; the entries reach to `end`.
unfoldable pub is_all_clear : List ℕ → ℕ → Bool
is_all_clear xs end = is_all_zero (take 4 (drop 4 xs)) && is_all_zero (take 8 (drop 56 xs)) && is_all_zero (drop end xs)

-- The entries, so many as byte 1 says: none, where they do not fit or a byte that is always zero is not.
abbrev pub RowTold : Layout → List ℕ → Option Row → Type 0
RowTold y xs (Some r) =
    (r.bytes.now ≡ drop 64 xs) × (r.e ≡ entry_length y) × (r.count ≡ get_or xs 1 0) × (get_or xs 1 0 ≤ y.b) × (is_all_clear xs (64 + entry_length y * get_or xs 1 0) ≡ true)
    × EntrySize r.e
RowTold y xs None = get_or xs 1 0 ≤ y.b → is_all_clear xs (64 + entry_length y * get_or xs 1 0) ≡ false

-- Bytes that read as a used slot with these bounds and entries, well formed.
abbrev pub ReadAs : Layout → List ℕ → Low → Str → List Entry → Type 0
ReadAs y xs l u es = (read_used_slot y xs ≡ some (used l u es)) × WellFormed y.b (used l u es)

-- A used slot that is well formed, as it is read.
pub record WellRead (y : Layout) (xs : List ℕ) (k : Bucket) : Type 0 where
  pub lower : Low
  pub upper : Str
  pub entries : List Entry
  pub is : read_used_slot y xs ≡ some (used lower upper entries)
  pub well : is_well_formed y.b (used lower upper entries) ≡ true
  pub low_is : key_value k.low ≡ low_value lower
  pub high_is : key_value k.high ≡ value (continued upper)

-- The same by its bytes, without keys.
pub record Standing (y : Layout) (xs : List ℕ) : Type 0 where
  pub entries : List Entry
  pub read : read_slot y xs ≡ some (used (low_in xs) (high_in xs) entries)
  pub well : WellFormed y.b (used (low_in xs) (high_in xs) entries)

abbrev pub Formed : Layout → List ℕ → Option Bucket → Type 0
Formed y xs (Some k) = WellRead y xs k
Formed y xs None = (s : Slot) → read_used_slot y xs ≡ some s → is_well_formed y.b s ≡ false

-- A used slot of b entries of e bytes between two limits, but for what stands in its bounds, and for its names other than the first and
-- the last.
pub record Stocked (e b : ℕ) (xs : List ℕ) (low high : ℕ) : Type 0 where
  pub bytes : (i : ℕ) → get_or xs i 0 < 256
  pub first : get_or xs 0 0 ≡ 1
  pub fits : get_or xs 1 0 ≤ b
  pub clear : is_all_clear xs (64 + e * get_or xs 1 0) ≡ true
  pub between : are_between e (get_or xs 1 0) (drop 64 xs) low high ≡ true

-- Such a slot behind another in range order: its lower bound is the upper bound of the other, and its own upper bound is one.
pub record Framed (e b : ℕ) (xs before : List ℕ) (low high : ℕ) : Type 0 where
  pub follows : Following xs before
  pub upper : is_a_bound (get_or xs 3 0) (take 24 (drop 32 xs)) ≡ true
  pub ranged : low < high
  pub stocked : Stocked e b xs low high
