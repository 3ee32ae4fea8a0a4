-- What the look at two slots with one upper bound tells: whether N is a copy, not yet cut out, of the upper part of A.
use Rattle.std.specs.Prelude.{◌≡◌, Bool, ◌&&◌, false, true, List, ◌+◌, ◌-◌, ℕ, leb}
use Rattle.model.specs.declared.Layout.{Layout}
use Rattle.model.specs.Order.{Low, Str, ◌◁◌, at}
use Rattle.model.specs.Entries.{Entry, move}
use Rattle.model.specs.Files.{Copied}
use Rattle.entries.specs.Rows.{are_among, entries_from, is_not_above, pieces, values}
use Rattle.bucket.specs.Forms.{ReadAs}

-- The n new entries are those of the m old ones whose names are above v, or these and one more.
unfoldable pub is_upper_part : ℕ → List ℕ → ℕ → List ℕ → ℕ → ℕ → Bool
is_upper_part e new n old m v =
    let k = is_not_above v (values e m old) in
    are_among (pieces e n new) (pieces e (m - k) (entries_from e k m old)) && leb n (m - k + 1)

-- R4.9 to R4.13, of A and N: n and a are the bytes of two slots that are used and well formed.
pub record CopyTold (y : Layout) (n a : List ℕ) (r : Bool) : Type 0 where
  pub copied : r ≡ true → {ln la : Low} {un ua : Str} {en ea : List Entry} → ReadAs y n ln un en → ReadAs y a la ua ea
      → (low : Str) × (ln ≡ at low) × (la ◁ low) × Copied (move low ea) en
  pub refused : r ≡ false → {ln la : Low} {un ua : Str} {en ea : List Entry} → ReadAs y n ln un en → ReadAs y a la ua ea
      → (low : Str) → ln ≡ at low → la ◁ low → Copied (move low ea) en → ⊥
