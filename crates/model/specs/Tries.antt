-- The trie: its tree and its strings; how it lies in cells; the walk; when it agrees with a file.
use Rattle.std.specs.Prelude.{◌≡◌, ◌&&◌, cond, ◌+◌, ◌-◌, ◌<◌, ◌≤◌, suc, zero, ℕ, eqb, leb, ltb, get_or, length, replicate, take}
use Rattle.std.proofs.Math.Option
use Rattle.std.proofs.Math.Option.{Option, map, none as nothing, some}
use mathlib.Core.List.{List, Memᴰ, [], ◌++◌, ◌∷◌}
use Rattle.model.specs.declared.Cell.{Cell}
use Rattle.model.specs.declared.Side.{Side}
use Rattle.model.specs.declared.Side.TheVariants.{Cell as further, Slot as slot}
use Rattle.model.specs.declared.Trie.{Trie}
use Rattle.model.specs.Order.{Low, Str, ◌≺◌, ◌⊑◌, ◌⊴◌, ◌◁◌, at, none}
use Rattle.model.specs.Tests.{is_at_most}
use Rattle.model.specs.Files.{IsString, RangeTable, Slot, ranges}

-- A side, unfolded: a leaf that leads to a slot, or a cell with a digit, a digit number and two sides.
pub data Tree : Type 0 where
  leaf : ℕ → Tree
  node : (digit number : ℕ) → Tree → Tree → Tree

-- R5.4: the string of a cell with digit d and number i, where the path is p.
abbrev pub cell : ℕ → ℕ → Str → Str
cell d i p = take i p ++ (d ∷ [])

-- The cells' strings, from left to right, below a path.
abbrev pub strings : Str → Tree → List Str
strings p (leaf s) = []
strings p (node d i l r) = strings (cell d i p) l ++ (cell d i p ∷ strings p r)

-- The slots that the leaves lead to, left to right.
abbrev pub leaves : Tree → List ℕ
leaves (leaf s) = s ∷ []
leaves (node d i L R) = leaves L ++ leaves R

abbrev pub size : Tree → ℕ
size (leaf s) = 0
size (node d i L R) = suc (size L + size R)

-- R5.10: no number is greater than the length of its path.
abbrev pub NumbersFit : Str → Tree → Type 0
NumbersFit p (leaf s) = Unit {0}
NumbersFit p (node d i L R) = (i ≤ length p) × NumbersFit (cell d i p) L × NumbersFit p R

module _ (P : Low → Str → ℕ → Type 0) where
  -- Strings strictly ascending between l and u, and leaves between them: P holds at each leaf, of the string just left of
  -- it and the string just right of it.
  pub data LeafIntervals : Low → List Str → Str → List ℕ → Type 0 where
    leaf_last : {l : Low} {u : Str} {B : ℕ} → P l u B → LeafIntervals l [] u (B ∷ [])
    leaf_next : {l : Low} {u x : Str} {xs : List Str} {B : ℕ} {Bs : List ℕ} → l ◁ x → x ≺ u → P l x B
        → LeafIntervals (at x) xs u Bs → LeafIntervals l (x ∷ xs) u (B ∷ Bs)

-- R5.12: the one bucket that a leaf may lead to, between the string just left of it and the string just right of it.
pub record Leads (F : RangeTable) (l : Low) (u : Str) (B : ℕ) : Type 0 where
  pub used : F.Used B
  pub under : F.lower B ⊴ l
  pub within : u ⊑ F.upper B

-- R5.3: a cell past the count.
abbrev pub zero_cell : Cell
zero_cell = record { digit = 0; number = 0; left = slot 0; right = slot 0 }

abbrev pub at_cell : List Cell → ℕ → Cell
at_cell cs n = get_or cs n zero_cell

-- The side, read from these cells, is this tree, and these cell numbers are met on the way.
pub data Reads (cs : List Cell) : Side → Tree → List ℕ → Type 0 where
  here : {s : ℕ} → Reads cs (slot s) (leaf s) []
  there : {n : ℕ} {L R : Tree} {vs ws : List ℕ} → n < length cs
      → Reads cs (at_cell cs n).left L vs → Reads cs (at_cell cs n).right R ws
      → Reads cs (further n) (node (at_cell cs n).digit (at_cell cs n).number L R) (n ∷ (vs ++ ws))

-- How often a number stands in a list.
abbrev pub occ : ℕ → List ℕ → ℕ
occ m [] = 0
occ m (n ∷ ns) = cond (eqb m n) 1 0 + occ m ns

-- R5.1: cell 0 is the root; R5.6: with count 0 the walk ends at the first leaf.
abbrev pub root_side : ℕ → ℕ → Side
root_side zero f = slot f
root_side (suc n) f = further 0

abbrev pub first_leaf_of : Side → ℕ
first_leaf_of (slot s) = s
first_leaf_of (further m) = 0

-- Cells from the root on, as the trie that holds them.
abbrev pub trie_of : List Cell → Side → Trie
trie_of cs a = record { cells = cs ++ replicate (256 - length cs) zero_cell; count = length cs; first = first_leaf_of a }

-- How a walk came to a leaf: it is the root, or the left or the right side of a cell.
pub data Spot : Type 0 where
  root : Spot
  left right : ℕ → Spot

-- R5.5: the walk over any cells. A name within the cell's string, so not above it, goes left, with that string as its path;
-- any other goes right. It ends with the leaf's path, the side by which it came there, and the slot. Nothing where R11.4,
-- R11.5 or R11.6 refuses it. The first number is how many cells may still be met.
unfoldable pub walk_run : ℕ → ℕ → List Cell → Str → Str → Spot → Side → Option (Str × Spot × ℕ)
walk_run zero count cs n p k (slot s) = some (p, k, s)
walk_run zero count cs n p k (further m) = nothing
walk_run (suc f) count cs n p k (slot s) = some (p, k, s)
walk_run (suc f) count cs n p k (further m) =
    let c = at_cell cs m in
    let q = cell c.digit c.number p in
    let l = walk_run f count cs n q (left m) c.left in
    let r = walk_run f count cs n p (right m) c.right in
    let w = cond (is_at_most n q) l r in
    cond (ltb m count && leb c.number (length p) && leb c.number 23) w nothing

-- From the root on, over a trie with at most 256 cells (R11.3).
unfoldable pub walk_of : Trie → Str → Option (Str × Spot × ℕ)
walk_of t n =
    let w = walk_run t.count t.count t.cells n [] root (root_side t.count t.first) in
    cond (leb t.count 256) w nothing

-- The slot that a name leads to.
abbrev pub walk_trie : Trie → Str → ℕ
walk_trie t n = Option.get_or (map (λ (w : Str × Spot × ℕ). w.2) (walk_of t n)) 0

-- Section 5 of the rules: a trie agrees with a sound file.
pub record Agrees (fs : List Slot) (t : Trie) : Type 0 where
  -- R5.8, R5.3 and R5.2: the count, what lies past it, and the first leaf.
  pub whole : length t.cells ≡ 256
  pub few : t.count ≤ 256
  pub past : (i : ℕ) → t.count ≤ i → at_cell t.cells i ≡ zero_cell
  pub first_leaf : 0 < t.count → t.first ≡ 0
  -- R5.9: each cell below the count is reached exactly once.
  pub tree : Tree
  pub visits : List ℕ
  pub reads : Reads (take t.count t.cells) (root_side t.count t.first) tree visits
  pub once : (i : ℕ) → i < t.count → occ i visits ≡ 1
  -- R5.10: no number is greater than the length of its path.
  pub numbers : NumbersFit [] tree
  -- R5.11: the cells' strings are the strings of the file, in ascending order.
  pub only : (x : Str) → Memᴰ x (strings [] tree) → IsString fs x
  pub every : (x : Str) → IsString fs x → Memᴰ x (strings [] tree)
  -- R5.12: where each leaf leads. (The order of R5.11 is here, too.)
  pub leading : LeafIntervals (Leads (ranges fs)) none (strings [] tree) [] (leaves tree)
