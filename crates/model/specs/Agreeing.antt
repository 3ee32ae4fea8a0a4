-- Agreement as a test that computes: the tree is read from the cells, and each part of `Agrees` is tested of it.
use Rattle.std.specs.Prelude.{Bool, ◌&&◌, ◌||◌, cond, false, true, List, [], ◌++◌, ◌∷◌, suc, zero, ℕ, eqb, leb, ltb, drop, length, take}
use Rattle.std.proofs.Math.Option.{Option, none as nothing, some}
use Rattle.model.specs.declared.Cell.{Cell}
use Rattle.model.specs.declared.Side.{Side}
use Rattle.model.specs.declared.Side.TheVariants.{Cell as further, Slot as slot}
use Rattle.model.specs.declared.Trie.{Trie}
use Rattle.model.specs.Order.{Low, Str, at, none}
use Rattle.model.specs.Tests.{same_str}
use Rattle.model.specs.Files.{Slot, ranges}
use Rattle.model.specs.Searches.{order_of, strings_of}
use Rattle.model.specs.Tries.{Tree, at_cell, cell, leaf, leaves, node, occ, root_side, strings}
use Rattle.model.specs.Rebuilding.{label}

-- Two parts of a tree and the cells met in them, below the cell m.
unfoldable pub join_trees : ℕ → ℕ → ℕ → Option (Tree × List ℕ) → Option (Tree × List ℕ) → Option (Tree × List ℕ)
join_trees m d i nothing r = nothing
join_trees m d i (some l) nothing = nothing
join_trees m d i (some l) (some r) = some (node d i l.0 r.0, m ∷ (l.1 ++ r.1))

-- The tree that a side leads to and the cells met, through fewer cells on any way than the fuel says.
unfoldable pub read_tree : ℕ → List Cell → Side → Option (Tree × List ℕ)
read_tree zero cs a = nothing
read_tree (suc f) cs (slot s) = some (leaf s, [])
read_tree (suc f) cs (further m) =
    let c = at_cell cs m in
    let r = join_trees m c.digit c.number (read_tree f cs c.left) (read_tree f cs c.right) in
    cond (ltb m (length cs)) r nothing

unfoldable pub same_side : Side → Side → Bool
same_side (slot s) (slot r) = eqb s r
same_side (slot s) (further n) = false
same_side (further m) (slot r) = false
same_side (further m) (further n) = eqb m n

-- R5.3: a cell past the count.
unfoldable pub are_zero_cells : List Cell → Bool
are_zero_cells [] = true
are_zero_cells (c ∷ cs) =
    eqb c.digit 0 && eqb c.number 0 && same_side c.left (slot 0) && same_side c.right (slot 0) && are_zero_cells cs

-- R5.9: each cell below the count is reached exactly once.
unfoldable pub is_each_once : ℕ → List ℕ → Bool
is_each_once zero vs = true
is_each_once (suc n) vs = eqb (occ n vs) 1 && is_each_once n vs

-- R5.10: no number is greater than the length of its path.
unfoldable pub are_numbers : Str → Tree → Bool
are_numbers p (leaf s) = true
are_numbers p (node d i l r) = leb i (length p) && are_numbers (cell d i p) l && are_numbers p r

unfoldable pub same_strs : List Str → List Str → Bool
same_strs [] [] = true
same_strs [] (y ∷ ys) = false
same_strs (x ∷ xs) [] = false
same_strs (x ∷ xs) (y ∷ ys) = same_str x y && same_strs xs ys

-- The slots of the leaves between these strings, from a lower limit on.
unfoldable pub slots_between : List Slot → Low → List Str → List ℕ
slots_between fs l [] = label (ranges fs) (order_of fs) l ∷ []
slots_between fs l (x ∷ xs) = label (ranges fs) (order_of fs) l ∷ slots_between fs (at x) xs

unfoldable pub is_trie_of : List Slot → ℕ → Option (Tree × List ℕ) → Bool
is_trie_of fs count nothing = false
is_trie_of fs count (some t) =
    is_each_once count t.1 && are_numbers [] t.0 && same_strs (strings [] t.0) (strings_of fs)
    && same_str (leaves t.0) (slots_between fs none (strings_of fs))

-- Whether a trie agrees with a sound file (section 5 of the rules).
unfoldable pub is_agreeing : List Slot → Trie → Bool
is_agreeing fs t =
    let cs = take t.count t.cells in
    leb t.count 256 && eqb (length t.cells) 256 && are_zero_cells (drop t.count t.cells)
    && (eqb t.count 0 || eqb t.first 0)
    && is_trie_of fs t.count (read_tree (suc t.count) cs (root_side t.count t.first))
