-- Where each cell of a trie stands among the strings, left to right.
use Rattle.std.specs.Prelude.{◌≡◌, List, [], ◌++◌, ◌∷◌, ◌<◌, ℕ, get_or, length, take}
use Rattle.model.specs.declared.Cell.{Cell}
use Rattle.model.specs.declared.Side.{Side}
use Rattle.model.specs.declared.Side.TheVariants.{Cell as further, Slot as slot}
use Rattle.model.specs.declared.Trie.{Trie}
use Rattle.model.specs.Tries.{at_cell, root_side}

-- The cells that a side leads to, in the order of their strings: the left part, the cell, the right part.
pub data InOrder (cs : List Cell) : Side → List ℕ → Type 0 where
  no_cells : {s : ℕ} → InOrder cs (slot s) []
  cells : {m : ℕ} {vs ws : List ℕ} → m < length cs → InOrder cs (at_cell cs m).left vs → InOrder cs (at_cell cs m).right ws
      → InOrder cs (further m) (vs ++ (m ∷ ws))

-- The list has, under each cell's number, its place in that order.
pub record Placed (t : Trie) (places : List ℕ) : Type 0 where
  pub order : List ℕ
  pub in_order : InOrder (take t.count t.cells) (root_side t.count t.first) order
  pub place_is : (j : ℕ) → j < length order → get_or places (get_or order j 0) 0 ≡ j
