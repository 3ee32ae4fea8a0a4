-- The split of a full bucket: what is found of its b + 1 entries.
use Rattle.model.specs.Places.{place_of}
use Rattle.std.specs.Prelude.{◌≡◌, List, ◌+◌, ◌<◌, ◌≤◌, ℕ, length, take}
use Rattle.model.specs.declared.Layout.{Layout}
use Rattle.model.specs.declared.Trie.{Trie}
use Rattle.model.specs.Order.{Low, Str, diff}
use Rattle.model.specs.Entries.{Entry, Row, name_at, stay}
use Rattle.model.specs.Changes.{split_of, split_string}
use Rattle.model.specs.Format.{padded}
use Rattle.model.specs.Tries.{walk_of}
use Rattle.slots.specs.Spots.{RowOf}
use Rattle.trie.specs.Walks.{Walks}
use Rattle.splitting.specs.declared.Split.{Split}

-- What holds of b + 1 entries whose bytes these are, in ascending order.
abbrev pub OfRow : Layout → List ℕ → (List Entry → Type 0) → Type 0
OfRow y row P = (l : Low) (u : Str) (ws : List Entry) → Row l ws u → length ws ≡ y.b + 1 → RowOf y row ws → P ws

-- How many digits the split string has of the key at a place, against the last name.
pub record LengthTold (r : ℕ) (y : Layout) (row : List ℕ) (i : ℕ) : Type 0 where
  pub least : 1 ≤ r
  pub most : r ≤ 24
  pub is : OfRow y row (λ ws. r ≡ length (split_string i y.b ws))

-- The place of the split key among b + 1 entries, never the last.
pub record PlaceTold (r : ℕ) (y : Layout) (row : List ℕ) : Type 0 where
  pub inside : r < y.b
  pub is : OfRow y row (λ ws. r ≡ place_of y ws)

-- The split of b + 1 entries: its string, how many entries stay, the walk of the split key, and how many digits of the
-- string are shared with the walk's path.
pub record Divides (s : Split) (y : Layout) (t : Trie) (ws : List Entry) : Type 0 where
  pub string_is : s.string ≡ padded 24 (split_of y.b (place_of y) ws)
  pub len_is : s.len ≡ length (split_of y.b (place_of y) ws)
  pub stay_is : s.stay ≡ length (stay (split_of y.b (place_of y) ws) ws)
  pub walked : Walks s.walk (walk_of t (name_at ws (place_of y ws)))
  pub shares : s.shared ≡ diff (split_of y.b (place_of y) ws) (take s.walk.len s.walk.path)

-- It is the split of the entries whose bytes these are.
abbrev pub Found : Split → Layout → Trie → List ℕ → Type 0
Found s y t row = OfRow y row (Divides s y t)
