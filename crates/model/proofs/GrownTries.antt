-- A made change keeps the trie's agreement: as it is where the ranges stay, grown where a bucket was split.
use Rattle.model.proofs.Prelude.{List, [], ◌++◌, ◌<◌, ◌∙◌, ◌∷◌, ◌≡◌, ◌≤◌, ap, arith, fun_ext, length, length-take, not, refl, set, some, subst, suc, sym, take, zero, ℕ}
use Rattle.model.specs.declared.Cell.{Cell}
use Rattle.model.specs.declared.Side.{Side}
use Rattle.model.specs.declared.Side.TheVariants.{Cell as further, Slot as slot}
use Rattle.model.specs.declared.Trie.{Trie}
use Rattle.model.specs.Order.{Low, Str, ◌⊑◌, ◌◁◌, at, diff}
use Rattle.model.specs.Tests.{same_str}
use Rattle.model.specs.Names.{Legal}
use Rattle.model.specs.Entries.{Entry, Row, insert, name_at, without}
use Rattle.model.specs.Files.{RangeTable, Slot, Sound, by_heads, ranges, slot_at, used}
use Rattle.model.specs.Searches.{string_count}
use Rattle.model.specs.Tries.{Agrees, Reads, Tree, first_leaf_of, here, leaf, node, root, root_side, there, trie_of, walk_of, walk_trie}
use Rattle.model.specs.Rebuilding.{side_of}
use Rattle.model.specs.Growth.{grown_trie, placed, turn, turn_side}
use Rattle.model.specs.Changes.{Lowest, Request, Store, split_string, stored, trie_removed}
use Rattle.model.proofs.Deciding.{over}
use Rattle.model.proofs.Lists.{mem_parts}
use Rattle.model.proofs.Order.{le_trans, low_at, low_lower, lt_le}
use Rattle.model.proofs.Entries.{length_keep, row_at, row_insert, row_keep, row_lt, split_take}
use Rattle.model.proofs.Cells.{visits_count}
use Rattle.model.proofs.Agreement.{CellsAgree, agrees_cells, agrees_few, cells_agree, live_count, rebuilt_trie_agrees, trie_of_agrees, visit_count, whole_run}
use Rattle.model.proofs.Splitting.{SplitAt}
use Rattle.model.proofs.GrownCells.{cells_turned, grows, new_cells, root_turned}
use Rattle.model.proofs.Merging.{Removal, alone, leftward, merge_few, merge_sound, removal_is, rightward}
use Rattle.model.proofs.Changes.{Change, absent, after_second, fits, is_split, length_all, one_sound, removes, row_all, same_heads, second_sound, splits, trie_after, well_a}
use Rattle.model.proofs.Walks.{live_cells, path_cells, path_reads, spot_cells, spot_reads, string_fits, top_side, walk_cells, walk_reads}
use Rattle.model.proofs.Growth.{at_leaf_grown}

-- The walk over a trie that agrees, by its parts, and growth by them.
module _ {b : ℕ} {fs : List Slot} (S : Sound b fs) {t : Trie} (A : Agrees fs t) (n : Str) where
  abbrev live : List Cell
  live = live_cells t

  abbrev top : Side
  top = top_side t

  parts : walk_of t n ≡ some (path_cells live n (suc (length live)) [] top, spot_cells live n (suc (length live)) [] root top, walk_cells live n (suc (length live)) [] top)
  parts =
      let h : length A.visits < suc (length live) = omega (arith, visit_count A, live_count A) in
      rw (path_reads n (suc (length live)) [] A.reads h, spot_reads n (suc (length live)) [] root A.reads h, walk_reads n (suc (length live)) [] A.reads h)
      (whole_run A (string_fits b S) n)

  -- The slot is the walk's.
  pub walk_live : walk_trie t n ≡ walk_cells live n (suc (length live)) [] top
  walk_live = rw parts

  pub agreed_walk : walk_of t n ≡ some (path_cells live n (suc (length live)) [] top, spot_cells live n (suc (length live)) [] root top, walk_trie t n)
  agreed_walk = rw parts

  pub grown_trie_is : (s : Str) (B N : ℕ) → grown_trie t n s B N ≡ trie_of (cells_turned live top n s B N) (root_turned live top n s B N)
  grown_trie_is s B N = rw (parts, at_leaf_grown s (path_cells live n (suc (length live)) [] top) (walk_cells live n (suc (length live)) [] top))

-- A root that is a cell is cell 0, and stays so.
pub root_further : (count first : ℕ) → (count ≡ 0 → ⊥) → further 0 ≡ root_side count first
root_further zero first h = absurd (h refl)
root_further (suc count) first h = refl

root_right : {F : RangeTable} {Bs : List ℕ} {cs : List Cell} {a : Side} → CellsAgree F Bs cs a → ((m : ℕ) → a ≡ further m → m ≡ 0) → a ≡ root_side (length cs) (first_leaf_of a)
root_right {cs = cs} {a = a} A zero_root = go a A.reads (visits_count A.reads A.each) zero_root
  where
    go : (a : Side) {t : Tree} {vs : List ℕ} → Reads cs a t vs → length vs ≡ length cs → ((m : ℕ) → a ≡ further m → m ≡ 0) → a ≡ root_side (length cs) (first_leaf_of a)
    go (slot s) here e f = rw (← e)
    go (further m) (there h l r) e f = rw (f m refl) (root_further (length cs) 0 (λ z. omega arith))

root_zero : (f : Str → ℕ → ℕ) (n first k : ℕ) (X : Tree) → (n ≡ 0 → k ≡ 0) → (m : ℕ) → turn_side f [] (placed (root_side n first) (side_of k X)) ≡ further m → m ≡ 0
root_zero f zero first k (leaf s) h m e = cc
root_zero f zero first k (node d i L R) h m e = let q : k ≡ 0 = h refl in cc
root_zero f (suc n) first k X h m e = cc

module _ (b : ℕ) where
  module _ (fs : List Slot) (S : Sound b fs) (A : ℕ) (l : Low) (u : Str) (es : List Entry) (is : slot_at fs A ≡ used l u es) where
    pub kept_agrees : (es' : List Entry) (r : Row l es' u) (k : length es' ≤ b) {t : Trie} → Agrees fs t → Agrees (set fs A (used l u es')) t
    unfolding one_sound
    kept_agrees es' r k {t} G = cells_agree b (one_sound b fs S A l u es is es' r k) {t = t} G.whole G.few G.past G.first_leaf
        (subst (λ h. CellsAgree (by_heads h) S.order (take t.count t.cells) (root_side t.count t.first))
        (sym (fun_ext (same_heads b fs S A l u es is es'))) (agrees_cells b S G))

    module _ (n : Str) (v : ℕ) (legal : Legal n) (lo : l ◁ n) (up : n ⊑ u) (big : b < length (insert n v es)) (i : ℕ) (i_lt : i < b) (N : ℕ) (lowest : Lowest fs N)
        (cs : List Cell) (a : Side) where
      abbrev gs : List Slot
      gs = after_second b fs S A l u es is n v legal lo up big i i_lt N lowest

      abbrev c : Str
      c = name_at (insert n v es) i

      abbrev z : Str
      z = name_at (insert n v es) b

      abbrev s : Str
      s = split_string i b (insert n v es)

      pub grown_agree : CellsAgree (ranges fs) S.order cs a
          → CellsAgree (ranges gs) (second_sound b fs S A l u es is n v legal lo up big i i_lt N lowest).order (cells_turned cs a c s A N) (root_turned cs a c s A N)
      unfolding second_sound
      grown_agree = go (mem_parts S.order (S.listed A (rw is tt)))
        where
          row : Row l (insert n v es) u
          row = row_all b fs S A l u es is n v legal lo up big i i_lt N lowest

          size : length (insert n v es) ≡ suc b
          size = length_all b fs S A l u es is n v legal lo up big i i_lt N lowest

          s_is : s ≡ take (suc (diff c z)) c
          s_is = split_take row i b i_lt (omega (arith, size))

          Grows : List ℕ → List ℕ → Str → Type 0
          Grows Bs Cs s = CellsAgree (ranges fs) Bs cs a → CellsAgree (ranges gs) Cs (cells_turned cs a c s A N) (root_turned cs a c s A N)

          go : (p : (Xs : List ℕ) × (Ys : List ℕ) × (S.order ≡ Xs ++ (A ∷ Ys))) → Grows S.order (p.0 ++ (A ∷ N ∷ p.1)) s
          go (Xs, Ys, e) = subst (λ Bs. Grows Bs (Xs ++ (A ∷ N ∷ Ys)) s) (sym e)
              (subst (λ x. Grows (Xs ++ (A ∷ Ys)) (Xs ++ (A ∷ N ∷ Ys)) x) (sym s_is)
              (λ T. grows (ranges fs) (ranges gs) A N Xs Ys c z
              (rw e at S.chain) (rw is (row_at row i (omega (arith, size))).1) (row_lt row i b i_lt (omega (arith, size))) (rw is (row_at row b (omega (arith, size))).2)
              (subst (λ x. SplitAt (ranges fs) (ranges gs) x A N) s_is (is_split b fs S A l u es is n v legal lo up big i i_lt N lowest)) cs a T))

      pub grown_agrees : {t : Trie} → cs ≡ take t.count t.cells → a ≡ root_side t.count t.first → Agrees fs t → string_count gs ≤ 256 → Agrees gs (grown_trie t c s A N)
      grown_agrees {t} ec ea G few =
          rw (grown_trie_is S G c s A N, ← ec, ← ea) (trie_of_agrees b (second_sound b fs S A l u es is n v legal lo up big i i_lt N lowest) (cells_turned cs a c s A N) (root_turned cs a c s A N) C
          (root_right C (rw ea (root_zero (turn s A N) t.count t.first (length cs) (new_cells cs (root_side t.count t.first) c s A N) (λ e. omega (arith, e, ap length ec, length-take t.count t.cells))))) few)
        where
          C : CellsAgree (ranges gs) (second_sound b fs S A l u es is n v legal lo up big i i_lt N lowest).order (cells_turned cs a c s A N) (root_turned cs a c s A N)
          C = grown_agree (rw (ec, ea) (agrees_cells b S G))

  -- The trie after a removal: as it was, or the rebuilt one after a merge.
  pub removal_agrees : {fs : List Slot} (S : Sound b fs) (A : ℕ) (l : Low) (u : Str) (es : List Entry) (n : Str) → slot_at fs A ≡ used l u es → l ◁ n → n ⊑ u
      → {ss : List Store} → Removal b fs n A l u es ss → {t : Trie} → Agrees fs t → Agrees (stored ss fs) (trie_removed fs ss t)
  unfolding trie_removed
  removal_agrees {fs} S A l u es n is lo up (alone c d) G =
      let w = well_a b fs S A l u es is in
      kept_agrees fs S A l u es is (without n es) (row_keep (λ k. not (same_str k n)) l u w.3 (λ k p c d. (c, d))) (omega (arith, length_keep (λ k. not (same_str k n)) es, w.4)) G
  removal_agrees {fs} S A l u es n is lo up (rightward {R = R} {v = v} {gs = gs} r_is k) G =
      let up' : n ⊑ v = le_trans up (lt_le (over (well_a b fs S R (at u) v gs r_is).2)) in
      rebuilt_trie_agrees b (merge_sound b fs S A R l u v es gs is r_is n lo up' k) (omega (arith, merge_few b fs S A R l u v es gs is r_is n lo up' k, agrees_few b S G))
  removal_agrees {fs} S A l u es n is lo up (leftward {L = L} {k = k} {s = s} {ds = ds} c q l_is f) G =
      let r_is : slot_at fs A ≡ used (at s) u es = is ∙ ap (λ x. used x u es) q in
      let lo' : k ◁ n = low_lower (low_at (well_a b fs S L k s ds l_is).2) (rw q at lo) in
      rebuilt_trie_agrees b (merge_sound b fs S L A k s u ds es l_is r_is n lo' up f) (omega (arith, merge_few b fs S L A k s u ds es l_is r_is n lo' up f, agrees_few b S G))

  pub change_agrees : (place : List Entry → ℕ) → ((ws : List Entry) → place ws < b) → {fs : List Slot} {q : Request} {ss : List Store} (S : Sound b fs) (c : Change b place fs q ss) {t : Trie} → Agrees fs t → Agrees (stored ss fs) (trie_after b place c t)
  unfolding trie_after
  change_agrees place place_lt {fs} S (fits {A = A} {l = l} {u = u} {es = es} {n = n} {v = v} is g lo up k) G =
      kept_agrees fs S A l u es is (insert n v es) (row_insert n v g lo up (well_a b fs S A l u es is).3) k G
  change_agrees place place_lt {fs} S (splits {A = A} {N = N} {l = l} {u = u} {es = es} {n = n} {v = v} is g lo up big low few) {t} G =
      grown_agrees fs S A l u es is n v g lo up big (place (insert n v es)) (place_lt (insert n v es)) N low (take t.count t.cells) (root_side t.count t.first) refl refl G few
  change_agrees place place_lt {fs} S (removes A {l = l} {u = u} {es = es} {n = n} is lo up e) G = removal_agrees S A l u es n is lo up (removal_is b fs n A l u es) G
  change_agrees place place_lt S (absent A is lo up e) G = G
