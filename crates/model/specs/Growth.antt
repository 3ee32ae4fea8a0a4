-- Growth: what a split makes of the trie, as a tree and in its cells.
use Rattle.std.specs.Prelude.{◌&&◌, cond, not, List, [], ◌++◌, ◌∷◌, suc, zero, ℕ, eqb, drop, length, set, take}
use Rattle.std.proofs.Math.Option.{Option, none as nothing, some}
use Rattle.model.specs.declared.Cell.{Cell}
use Rattle.model.specs.declared.Side.{Side}
use Rattle.model.specs.declared.Side.TheVariants.{Cell as further, Slot as slot}
use Rattle.model.specs.declared.Trie.{Trie}
use Rattle.model.specs.Order.{Str, diff}
use Rattle.model.specs.Tests.{is_at_most}
use Rattle.model.specs.Tries.{Spot, Tree, at_cell, cell, leaf, left, node, right, root, root_side, trie_of, walk_of}
use Rattle.model.specs.Rebuilding.{lay, side_of}

-- R8.3 and R8.4: one cell for each later digit of s, from digit number i on, each the left side of the one before.
-- Every new leaf leads to A until leaves are redirected.
abbrev pub chain_of : ℕ → Str → ℕ → Tree
chain_of i [] A = leaf A
chain_of i (d ∷ ds) A = node d i (chain_of (suc i) ds A) (leaf A)

-- R8.3: what stands at the leaf, whose path is p and slot A, for the digits of s past those shared with p.
abbrev pub grown : Str → Str → ℕ → Tree
grown s p A = chain_of (diff s p) (drop (diff s p) s) A

-- R8.2: where s shares all its digits with the leaf's path, it is the string of a cell already, and no cell is added.
abbrev pub at_leaf : Str → Str → ℕ → Tree
at_leaf s p A = cond (eqb (diff s p) (length s)) (leaf A) (grown s p A)

-- R8.5: A's leaves whose paths are above s, the right sides of the new cells among them, lead to the new slot.
abbrev pub turn : Str → ℕ → ℕ → Str → ℕ → ℕ
turn s A N p B = cond (eqb B A && not (is_at_most p s)) N B

-- In the cells. The side by which the walk came leads to the new cells, which are appended;
abbrev pub cell_of : Spot → ℕ
cell_of root = 0
cell_of (left m) = m
cell_of (right m) = m

abbrev pub changed : Cell → Spot → Side → Cell
changed c root x = c
changed c (left m) x = record { digit = c.digit; number = c.number; left = x; right = c.right }
changed c (right m) x = record { digit = c.digit; number = c.number; left = c.left; right = x }

abbrev pub grow_cells : List Cell → Spot → Tree → List Cell
grow_cells cs sp X =
    set cs (cell_of sp) (changed (at_cell cs (cell_of sp)) sp (side_of (length cs) X)) ++ lay (length cs) X

-- of a trie with count 0 it is the root;
abbrev pub placed : Side → Side → Side
placed (slot s) x = x
placed (further m) x = further m

-- and leaves are redirected, cell by cell: the cell, its left part, its right part.
module _ (f : Str → ℕ → ℕ) where
  abbrev pub turn_side : Str → Side → Side
  turn_side p (slot s) = slot (f p s)
  turn_side p (further m) = further m

  abbrev pub turn_cell : Str → Cell → Cell
  turn_cell p c =
      record {
        digit = c.digit;
        number = c.number;
        left = turn_side (cell c.digit c.number p) c.left;
        right = turn_side p c.right;
      }

  abbrev pub turn_cells : ℕ → Str → Side → List Cell → List Cell
  turn_cells zero p a cs = cs
  turn_cells (suc fuel) p (slot s) cs = cs
  turn_cells (suc fuel) p (further m) cs =
      turn_cells fuel p (at_cell cs m).right
      (turn_cells fuel (cell (at_cell cs m).digit (at_cell cs m).number p) (at_cell cs m).left
      (set cs m (turn_cell p (at_cell cs m))))

-- All of it, where the split key's walk came by the side k to a leaf with the path p and the slot B.
abbrev pub grown_by : Trie → Str → ℕ → ℕ → Option (Str × Spot × ℕ) → Trie
grown_by t s A N nothing = t
grown_by t s A N (some (p, k, B)) =
    let cs = take t.count t.cells in
    let ds = grow_cells cs k (at_leaf s p B) in
    let a = placed (root_side t.count t.first) (side_of (length cs) (at_leaf s p B)) in
    trie_of (turn_cells (turn s A N) (suc (length ds)) [] a ds) (turn_side (turn s A N) [] a)

-- The trie after A was split at s, the split key being c, and N took the names above s.
abbrev pub grown_trie : Trie → Str → Str → ℕ → ℕ → Trie
grown_trie t c s A N = grown_by t s A N (walk_of t c)
