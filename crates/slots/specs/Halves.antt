-- The two halves of a row of b + 1 entries, at any place.
use Rattle.std.specs.Prelude.{List, ◌≡◌, ◌+◌, ◌≤◌, ℕ, drop, length, take}
use Rattle.model.specs.declared.Layout.{Layout}
use Rattle.model.specs.Order.{Low, Str, ◌≺◌, ◌⊑◌, at}
use Rattle.model.specs.Names.{Bound}
use Rattle.model.specs.Entries.{Entry, Row, name_at, stay}
use Rattle.model.specs.Files.{used}
use Rattle.digits.specs.declared.Key.{Key}
use Rattle.digits.specs.Keys.{continued, key_value, value}
use Rattle.bucket.specs.Forms.{ReadAs}
use Rattle.slots.specs.Spots.{Begins, RowOf}

abbrev pub NameTold : List ℕ → Layout → List ℕ → ℕ → Type 0
NameTold r y row i = (ws : List Entry) → RowOf y row ws → length ws ≡ y.b + 1 → r ≡ name_at ws i

-- How many stay: at least one and at most b, and of a row where the string parts the first from the last, those within it.
pub record StayTold (r : ℕ) (y : Layout) (row : List ℕ) (string : Key) : Type 0 where
  pub least : 1 ≤ r
  pub most : r ≤ y.b
  pub is : (l : Low) (u : Str) (ws : List Entry) → RowOf y row ws → length ws ≡ y.b + 1 → Row l ws u
      → (s : Str) → Bound s → key_value string ≡ value (continued s) → name_at ws 0 ⊑ s → s ≺ name_at ws y.b → r ≡ length (stay s ws)

abbrev pub UpperTold : List ℕ → Layout → List ℕ → List ℕ → Str → ℕ → Type 0
UpperTold r y xs row s k =
    (l : Low) (u : Str) (es ws : List Entry) → ReadAs y xs l u es → RowOf y row ws → length ws ≡ y.b + 1
    → Begins r y (used (at s) u (drop k ws))

abbrev pub LowerTold : List ℕ → Layout → List ℕ → List ℕ → Str → ℕ → Type 0
LowerTold r y xs row s k =
    (l : Low) (u : Str) (es ws : List Entry) → ReadAs y xs l u es → RowOf y row ws → length ws ≡ y.b + 1
    → Begins r y (used l s (take k ws))
