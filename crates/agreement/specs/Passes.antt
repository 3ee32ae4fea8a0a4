-- The pass of a trie's cells against strings, rule by rule.
use Rattle.std.specs.Prelude.{◌≡◌, List, Option, Some, None, [], ◌++◌, ◌∷◌, ◌<◌, ◌≤◌, suc, zero, ℕ, get_or, length}
use Rattle.model.specs.declared.Cell.{Cell}
use Rattle.model.specs.declared.Side.{Side}
use Rattle.model.specs.declared.Side.TheVariants.{Cell as further, Slot as slot}
use Rattle.model.specs.Tries.{at_cell, occ}
use Rattle.trie.specs.declared.Strings.{Strings}

-- The first t numbers of the list, the last one on top.
unfoldable pub stack : ℕ → List ℕ → List ℕ
stack zero ks = []
stack (suc t) ks = get_or ks t 0 ∷ stack t ks

-- With these cells on the stack, whose left parts are under way, the pass stands at this side, where no number may be smaller
-- than this; the cells of the first list have met their strings, and when all have, it is the last list.
module _ (cs : List Cell) (s : Strings) where
  pub data Passes : List ℕ → Side → ℕ → List ℕ → List ℕ → Type 0 where
    -- The last leaf: all strings are met.
    ends : {x least : ℕ} {seen : List ℕ} → x ≡ get_or s.slots (length seen) 0 → length seen ≡ s.count
        → Passes [] (slot x) least seen seen
    -- A leaf, and then the cell on top of the stack meets its string. It was not met before.
    leaves : {k : ℕ} {ks : List ℕ} {x least : ℕ} {seen last : List ℕ} → x ≡ get_or s.slots (length seen) 0
        → suc (at_cell cs k).number ≡ get_or s.lens (length seen) 0
        → (at_cell cs k).digit ≡ get_or s.digits (length seen) 0
        → occ k seen ≡ 0
        → Passes ks (at_cell cs k).right (at_cell cs k).number (seen ++ (k ∷ [])) last
        → Passes (k ∷ ks) (slot x) least seen last
    -- A cell: its left part comes first.
    enters : {k least : ℕ} {ks : List ℕ} {seen last : List ℕ} → k < s.count → least ≤ (at_cell cs k).number
        → Passes (k ∷ ks) (at_cell cs k).left least seen last
        → Passes ks (further k) least seen last

  -- From this side on the pass meets all strings, with these cells in order, whose places are listed.
  pub record Met (a : Side) (places : List ℕ) : Type 0 where
    pub order : List ℕ
    pub passes : Passes [] a 0 [] order
    pub place_is : (j : ℕ) → j < length order → get_or places (get_or order j 0) 0 ≡ j

  -- The answer has the places where it does, and is nothing where it does not.
  abbrev pub Passed : Side → Option (List ℕ) → Type 0
  Passed a (Some places) = Met a places
  Passed a None = (order : List ℕ) → Passes [] a 0 [] order → ⊥
