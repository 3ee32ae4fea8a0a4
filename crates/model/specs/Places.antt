-- Which entry of a full bucket's b + 1 is the split key: the rule of each version.
use Rattle.std.specs.Prelude.{◌&&◌, cond, ◌+◌, ◌-◌, ◌/◌, ◌<◌, ◌≤◌, ℕ, eqb, leb, length}
use mathlib.Core.List.{List, Memᴰ, [], ◌∷◌}
use Rattle.model.specs.declared.Layout.{Layout}
use Rattle.model.specs.Entries.{Entry}
use Rattle.model.specs.Searches.{winner}
use Rattle.model.specs.Changes.{split_string}

-- Of some positions those from one to another only.
unfoldable pub only_from : ℕ → ℕ → List ℕ → List ℕ
only_from low high [] = []
only_from low high (p ∷ ps) =
    let r = only_from low high ps in
    cond (leb low p && leb p high) (p ∷ r) r

-- R7.3: the positions, counted from 1, that versions 2 and 3 choose from: m, m − 1 and m + 1, those from 1 to b only.
unfoldable pub positions : ℕ → List ℕ
positions b = let m = b / 2 + 1 in only_from 1 b (m ∷ (m - 1) ∷ (m + 1) ∷ [])

-- How many digits the split string has whose key is at a position. Each key is held against the last name.
abbrev pub digits_at : ℕ → List Entry → ℕ → ℕ
digits_at b ws p = length (split_string (p - 1) b ws)

-- The shortest wins, ties in their order: those before it are longer, those behind it no shorter.
pub data Wins (f : ℕ → ℕ) (p : ℕ) : List ℕ → Type 0 where
  here : {ps : List ℕ} → ((q : ℕ) → Memᴰ q ps → f p ≤ f q) → Wins f p (p ∷ ps)
  behind : {q : ℕ} {ps : List ℕ} → f p < f q → Wins f p ps → Wins f p (q ∷ ps)

-- R7.3: the place of the split key, counted from 0, is its position less one. Version 1 has it at m = b/2 + 1, versions 2
-- and 3 at the position that wins.
unfoldable pub place_of : Layout → List Entry → ℕ
place_of y ws = cond (eqb y.version 1) (y.b / 2) (winner (digits_at y.b ws) (positions y.b) - 1)
