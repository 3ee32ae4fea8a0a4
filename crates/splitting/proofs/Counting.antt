-- How many strings a file has after a split: one more for each digit of the split string past those that the path of the
-- split key's leaf shares with it, however many they are then.
use Rattle.model.proofs.Prelude.{List, [], ◌+◌, ◌-◌, ◌<◌, ◌∙◌, ◌≡◌, ap, arith, drop, length, length-append, length-drop, length-set, length-take-le, refl, set, suc, sym, take, zero, ℕ}
use Rattle.model.specs.declared.Cell.{Cell}
use Rattle.model.specs.declared.Side.{Side}
use Rattle.model.specs.declared.Side.TheVariants.{Cell as further, Slot as slot}
use Rattle.model.specs.declared.Trie.{Trie}
use Rattle.model.specs.Order.{Low, Str, ◌⊑◌, ◌◁◌, diff}
use Rattle.model.specs.Names.{Legal}
use Rattle.model.specs.Entries.{Entry, insert, name_at}
use Rattle.model.specs.Files.{RangeTable, Slot, Sound, slot_at, used}
use Rattle.model.specs.Searches.{all, bounds, string_count}
use Rattle.model.specs.Tries.{Agrees, at_cell, cell, root, root_side}
use Rattle.model.specs.Rebuilding.{lay, side_of}
use Rattle.model.specs.Growth.{cell_of, changed, turn, turn_cell, turn_cells}
use Rattle.model.specs.Changes.{Lowest, split_string}
use Rattle.model.proofs.Tries.{cells_count}
use Rattle.model.proofs.Cells.{length_lay, reads_size, visits_count}
use Rattle.model.proofs.Files.{count_right}
use Rattle.model.proofs.Agreement.{CellsAgree, agrees_cells}
use Rattle.model.proofs.Changes.{after_second, second_sound}
use Rattle.model.proofs.GrownTries.{grown_agree}
use Rattle.model.proofs.Walks.{path_cells, spot_cells, walk_cells}
use Rattle.model.proofs.GrownCells.{cells_grown, cells_turned, new_cells, root_grown}
use Rattle.growth.proofs.Chains.{chain_size}

turned_length : (f : Str → ℕ → ℕ) (fuel : ℕ) (p : Str) (a : Side) (cs : List Cell) → length (turn_cells f fuel p a cs) ≡ length cs
turned_length f zero p a cs = refl
turned_length f (suc fuel) p (slot s) cs = refl
turned_length f (suc fuel) p (further m) cs =
    let c : Cell = at_cell cs m in
    let ds : List Cell = set cs m (turn_cell f p c) in
    let q : Str = cell c.digit c.number p in
    turned_length f fuel p c.right (turn_cells f fuel q c.left ds) ∙ turned_length f fuel q c.left ds ∙ length-set cs m (turn_cell f p c)

cells_length : {F : RangeTable} {Bs : List ℕ} {cs : List Cell} {a : Side} → CellsAgree F Bs cs a → length (all (bounds F Bs)) ≡ length cs
cells_length A = sym (cells_count A.trie) ∙ sym (reads_size A.reads) ∙ visits_count A.reads A.each

module _ (cs : List Cell) (a : Side) (c s : Str) (A N : ℕ) where
  abbrev path : Str
  path = path_cells cs c (suc (length cs)) [] a

  grown_length : length (cells_turned cs a c s A N) ≡ length cs + (length s - diff s path)
  grown_length =
      let X = new_cells cs a c s A N in
      let k = spot_cells cs c (suc (length cs)) [] root a in
      let x = changed (at_cell cs (cell_of k)) k (side_of (length cs) X) in
      turned_length (turn s A N) (suc (length (cells_grown cs a c s A N))) [] (root_grown cs a c s A N) (cells_grown cs a c s A N)
      ∙ length-append (set cs (cell_of k) x) (lay (length cs) X)
      ∙ omega (arith, length-set cs (cell_of k) x, length_lay (length cs) X, chain_size (diff s path) (drop (diff s path) s) (walk_cells cs c (suc (length cs)) [] a), length-drop (diff s path) s)

module _ (b : ℕ) (fs : List Slot) (S : Sound b fs) {t : Trie} (G : Agrees fs t) where
  abbrev live : List Cell
  live = take t.count t.cells

  abbrev top : Side
  top = root_side t.count t.first

  pub split_count : (A : ℕ) (l : Low) (u : Str) (es : List Entry) (is : slot_at fs A ≡ used l u es) (n : Str) (v : ℕ) (legal : Legal n) (lo : l ◁ n) (up : n ⊑ u)
      (big : b < length (insert n v es)) (i : ℕ) (i_lt : i < b) (N : ℕ) (lowest : Lowest fs N)
      → string_count (after_second b fs S A l u es is n v legal lo up big i i_lt N lowest)
      ≡ t.count + (length (split_string i b (insert n v es)) - diff (split_string i b (insert n v es)) (path_cells live (name_at (insert n v es) i) (suc (length live)) [] top))
  split_count A l u es is n v legal lo up big i i_lt N lowest =
      let c = name_at (insert n v es) i in
      let s = split_string i b (insert n v es) in
      let m = length s - diff s (path_cells live c (suc (length live)) [] top) in
      count_right b (second_sound b fs S A l u es is n v legal lo up big i i_lt N lowest)
      ∙ cells_length (grown_agree b fs S A l u es is n v legal lo up big i i_lt N lowest live top (agrees_cells b S G))
      ∙ grown_length live top c s A N
      ∙ ap (λ (k : ℕ). k + m) (length-take-le t.count t.cells (omega (arith, G.few, G.whole)))
