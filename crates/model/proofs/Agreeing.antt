-- The test of agreement is exact: of a sound file it says yes of the tries that agree, and of no other.
use Rattle.model.proofs.Prelude.{Bool, List, Option, [], ◌&&◌, ◌++◌, ◌+◌, ◌-◌, ◌<◌, ◌||◌, ◌∙◌, ◌∷◌, ◌≡◌, ◌≤◌, ap, ap₂, arith, clash, cond, drop, eq-eqb, eqb, eqb-true, false, get_or-drop, inl, inr, le-leb, leb, leb-true, length, length-take, lt-ltb, ltb, ltb-true, nothing, refl, some, subst, suc, sym, take, true, zero, ℕ, ℕ_discrete}
use Rattle.model.specs.declared.Cell.{Cell}
use Rattle.model.specs.declared.Side.{Side}
use Rattle.model.specs.declared.Side.TheVariants.{Cell as further, Slot as slot}
use Rattle.model.specs.declared.Trie.{Trie}
use Rattle.model.specs.Order.{Low, Str, none}
use Rattle.model.specs.Tests.{same_str}
use Rattle.model.specs.Files.{Slot, Sound, ranges}
use Rattle.model.specs.Searches.{all, bounds, order_of, strings_of}
use Rattle.model.specs.Tries.{Agrees, Leads, LeafIntervals, NumbersFit, Reads, Tree, at_cell, cell, here, leaf, leaf_last, leaf_next, leaves, node, occ, root_side, strings, there, zero_cell}
use Rattle.model.specs.Rebuilding.{label}
use Rattle.model.specs.Agreeing.{are_numbers, are_zero_cells, is_agreeing, is_each_once, is_trie_of, join_trees, read_tree, same_side, same_strs, slots_between}
use Rattle.model.proofs.Tries.{Spans, cast, flat_trie, strings_are, trie_flat}
use Rattle.model.proofs.Cells.{height, reads_height, visits_count}
use Rattle.model.proofs.Files.{order_right, strings_asc, strings_right}
use Rattle.model.proofs.Agreement.{CellsAgree, agrees_cells, cells_agree, labelled, leading}
use Rattle.model.proofs.Order.{Asc, end, step}
use Rattle.model.proofs.Tests.{both_join, both_true, either_true, same_str_equal, same_str_self, true_left, true_right}

-- What is read is what the relation says, and enough fuel reads it.
module _ (cs : List Cell) where
  pub read_tree_reads : (f : ℕ) (a : Side) (t : Tree × List ℕ) → read_tree f cs a ≡ some t → Reads cs a t.0 t.1
  unfolding read_tree join_trees
  read_tree_reads zero a t e = clash cc
  read_tree_reads (suc f) (slot s) t e =
      let q : (leaf s, []) ≡ t = cc in
      subst (λ (t : Tree × List ℕ). Reads cs (slot s) t.0 t.1) q here
  read_tree_reads (suc f) (further m) t e =
      go (ltb m (length cs)) (read_tree f cs c.left) (read_tree f cs c.right) refl (read_tree_reads f c.left) (read_tree_reads f c.right) e
    where
      c : Cell
      c = at_cell cs m

      go : (b : Bool) (o r : Option (Tree × List ℕ)) → ltb m (length cs) ≡ b → ((t : Tree × List ℕ) → o ≡ some t → Reads cs c.left t.0 t.1)
          → ((t : Tree × List ℕ) → r ≡ some t → Reads cs c.right t.0 t.1) → cond b (join_trees m c.digit c.number o r) nothing ≡ some t
          → Reads cs (further m) t.0 t.1
      go false o r h L R e = clash cc
      go true nothing r h L R e = clash cc
      go true (some x) nothing h L R e = clash cc
      go true (some x) (some y) h L R e =
          let q : (node c.digit c.number x.0 y.0, m ∷ (x.1 ++ y.1)) ≡ t = cc in
          subst (λ (t : Tree × List ℕ). Reads cs (further m) t.0 t.1) q (there (ltb-true m (length cs) h) (L x refl) (R y refl))

  pub reads_read_tree : (f : ℕ) {a : Side} {t : Tree} {vs : List ℕ} → Reads cs a t vs → height t ≤ f → read_tree f cs a ≡ some (t, vs)
  unfolding read_tree join_trees
  reads_read_tree zero here h = absurd (omega arith)
  reads_read_tree zero (there i l r) h = absurd (omega arith)
  reads_read_tree (suc f) here h = refl
  reads_read_tree (suc f) (there {n = m} i l r) h =
      rw (lt-ltb m (length cs) i, reads_read_tree f l (omega arith), reads_read_tree f r (omega arith))

is_each_once_once : (n : ℕ) (vs : List ℕ) → is_each_once n vs ≡ true → (i : ℕ) → i < n → occ i vs ≡ 1
unfolding is_each_once
is_each_once_once zero vs e i h = absurd (omega arith)
is_each_once_once (suc n) vs e i h =
    let p = both_true (eqb (occ n vs) 1) (is_each_once n vs) e in
    elim (ℕ_discrete i n) [
      | yes q ↦ rw q (eqb-true (occ n vs) 1 p.0)
      | no q ↦ is_each_once_once n vs p.1 i (omega arith)
    ]

once_is_each_once : (n : ℕ) (vs : List ℕ) → ((i : ℕ) → i < n → occ i vs ≡ 1) → is_each_once n vs ≡ true
unfolding is_each_once
once_is_each_once zero vs f = refl
once_is_each_once (suc n) vs f =
    both_join (eqb (occ n vs) 1) (is_each_once n vs) (eq-eqb (occ n vs) 1 (f n (omega arith)))
    (once_is_each_once n vs (λ i h. f i (omega arith)))

are_numbers_numbers : (p : Str) (t : Tree) → are_numbers p t ≡ true → NumbersFit p t
unfolding are_numbers
are_numbers_numbers p (leaf s) e = tt
are_numbers_numbers p (node d i l r) e =
    let x = both_true (leb i (length p) && are_numbers (cell d i p) l) (are_numbers p r) e in
    let y = both_true (leb i (length p)) (are_numbers (cell d i p) l) x.0 in
    (leb-true i (length p) y.0, are_numbers_numbers (cell d i p) l y.1, are_numbers_numbers p r x.1)

numbers_are_numbers : (p : Str) (t : Tree) → NumbersFit p t → are_numbers p t ≡ true
unfolding are_numbers
numbers_are_numbers p (leaf s) n = refl
numbers_are_numbers p (node d i l r) n =
    rw (le-leb i (length p) n.0, numbers_are_numbers (cell d i p) l n.1) (numbers_are_numbers p r n.2)

same_strs_equal : (xs ys : List Str) → same_strs xs ys ≡ true → xs ≡ ys
unfolding same_strs
same_strs_equal [] [] e = refl
same_strs_equal [] (y ∷ ys) e = cc
same_strs_equal (x ∷ xs) [] e = cc
same_strs_equal (x ∷ xs) (y ∷ ys) e =
    let p = both_true (same_str x y) (same_strs xs ys) e in
    ap₂ (λ (z : Str) (zs : List Str). z ∷ zs) (same_str_equal x y p.0) (same_strs_equal xs ys p.1)

same_strs_self : (xs : List Str) → same_strs xs xs ≡ true
unfolding same_strs
same_strs_self [] = refl
same_strs_self (x ∷ xs) = rw (same_str_self x) (same_strs_self xs)

same_side_equal : (a c : Side) → same_side a c ≡ true → a ≡ c
unfolding same_side
same_side_equal (slot s) (slot r) e = ap slot (eqb-true s r e)
same_side_equal (slot s) (further n) e = cc
same_side_equal (further m) (slot r) e = cc
same_side_equal (further m) (further n) e = ap further (eqb-true m n e)

are_zero_cells-zero : (cs : List Cell) → are_zero_cells cs ≡ true → (i : ℕ) → at_cell cs i ≡ zero_cell
unfolding are_zero_cells
are_zero_cells-zero [] e i = refl
are_zero_cells-zero (c ∷ cs) e i =
    let p = both_true (eqb c.digit 0 && eqb c.number 0 && same_side c.left (slot 0) && same_side c.right (slot 0)) (are_zero_cells cs) e in
    let q = both_true (eqb c.digit 0 && eqb c.number 0 && same_side c.left (slot 0)) (same_side c.right (slot 0)) p.0 in
    let r = both_true (eqb c.digit 0 && eqb c.number 0) (same_side c.left (slot 0)) q.0 in
    let s = both_true (eqb c.digit 0) (eqb c.number 0) r.0 in
    go i (eqb-true c.digit 0 s.0) (eqb-true c.number 0 s.1) (same_side_equal c.left (slot 0) r.1) (same_side_equal c.right (slot 0) q.1) (are_zero_cells-zero cs p.1)
  where
    go : (i : ℕ) → c.digit ≡ 0 → c.number ≡ 0 → c.left ≡ slot 0 → c.right ≡ slot 0 → ((i : ℕ) → at_cell cs i ≡ zero_cell) → at_cell (c ∷ cs) i ≡ zero_cell
    go zero d n l r f =
        let q : record { digit = c.digit; number = c.number; left = c.left; right = c.right } ≡ zero_cell = rw (d, n, l, r) in
        q
    go (suc i) d n l r f = f i

zero-are_zero_cells : (cs : List Cell) → ((i : ℕ) → at_cell cs i ≡ zero_cell) → are_zero_cells cs ≡ true
unfolding are_zero_cells same_side
zero-are_zero_cells [] f = refl
zero-are_zero_cells (c ∷ cs) f = rw (f 0) (zero-are_zero_cells cs (λ i. f (suc i)))

module _ (n : ℕ) (cs : List Cell) where
  pub zeros_past : are_zero_cells (drop n cs) ≡ true → (i : ℕ) → n ≤ i → at_cell cs i ≡ zero_cell
  zeros_past e i h =
      let q : n + (i - n) ≡ i = omega arith in
      rw (get_or-drop, q) at (are_zero_cells-zero (drop n cs) e (i - n))

  pub past_zeros : ((i : ℕ) → n ≤ i → at_cell cs i ≡ zero_cell) → are_zero_cells (drop n cs) ≡ true
  past_zeros f = zero-are_zero_cells (drop n cs) (λ i. get_or-drop n cs i zero_cell ∙ f (n + i) (omega arith))

-- The slots between the strings are the labels of the leaves.
abbrev Labelled : List Slot → List ℕ → Low → Str → ℕ → Type 0
Labelled fs Bs l u B = B ≡ label (ranges fs) Bs l

module _ (fs : List Slot) (Bs : List ℕ) (right : order_of fs ≡ Bs) where
  label_right : (l : Low) → label (ranges fs) (order_of fs) l ≡ label (ranges fs) Bs l
  label_right l = ap (λ (Cs : List ℕ). label (ranges fs) Cs l) right

  between_leaves : {l : Low} {ss : List Str} {u : Str} → Asc l ss u → LeafIntervals (Labelled fs Bs) l ss u (slots_between fs l ss)
  unfolding slots_between
  between_leaves {l} end = leaf_last (label_right l)
  between_leaves {l} (step a b s) = leaf_next a b (label_right l) (between_leaves s)

  leaves_between : {l : Low} {ss : List Str} {u : Str} {Cs : List ℕ} → LeafIntervals (Labelled fs Bs) l ss u Cs → Cs ≡ slots_between fs l ss
  unfolding slots_between
  leaves_between {l} (leaf_last e) = ap (λ (C : ℕ). C ∷ []) (e ∙ sym (label_right l))
  leaves_between {l} (leaf_next a b e r) = ap₂ (λ (C : ℕ) (Cs : List ℕ). C ∷ Cs) (e ∙ sym (label_right l)) (leaves_between r)

-- Both directions, of a sound file.
module _ (b : ℕ) {fs : List Slot} (S : Sound b fs) where
  -- The leaves of a trie of the file's strings lead to the slots between them.
  pub trie_slots : (x : Tree) → Spans (Leads (ranges fs)) none [] x (all (bounds (ranges fs) S.order)) → leaves x ≡ slots_between fs none (strings_of fs)
  trie_slots x T =
      let L = labelled (ranges fs) S.order S.chain S.listed x T in
      rw (strings_right b S) (leaves_between fs S.order (order_right b S) (trie_flat (Labelled fs S.order) L).1)

  pub is_agreeing_agrees : (t : Trie) → is_agreeing fs t ≡ true → Agrees fs t
  unfolding is_agreeing is_trie_of
  is_agreeing_agrees t e =
      let p = both_true (leb t.count 256 && eqb (length t.cells) 256 && zeros && (eqb t.count 0 || eqb t.first 0)) (is_trie_of fs t.count (read_tree (suc t.count) cs a)) e in
      let q = both_true (leb t.count 256 && eqb (length t.cells) 256 && zeros) (eqb t.count 0 || eqb t.first 0) p.0 in
      let r = both_true (leb t.count 256 && eqb (length t.cells) 256) zeros q.0 in
      let s = both_true (leb t.count 256) (eqb (length t.cells) 256) r.0 in
      let few : t.count ≤ 256 = leb-true t.count 256 s.0 in
      let whole : length t.cells ≡ 256 = eqb-true (length t.cells) 256 s.1 in
      cells_agree b S {t = t} whole few (zeros_past t.count t.cells r.1) (first q.1) (tree (read_tree (suc t.count) cs a) refl p.1)
    where
      cs : List Cell
      cs = take t.count t.cells

      a : Side
      a = root_side t.count t.first

      zeros : Bool
      zeros = are_zero_cells (drop t.count t.cells)

      first : (eqb t.count 0 || eqb t.first 0) ≡ true → 0 < t.count → t.first ≡ 0
      first e h = elim (either_true (eqb t.count 0) (eqb t.first 0) e)
          [ inl q ↦ absurd (omega (arith, eqb-true t.count 0 q)) | inr q ↦ eqb-true t.first 0 q ]

      trie : (x : Tree) → NumbersFit [] x → strings [] x ≡ strings_of fs → leaves x ≡ slots_between fs none (strings_of fs)
          → Spans (Leads (ranges fs)) none [] x (all (bounds (ranges fs) S.order))
      trie x n es el =
          let flat : LeafIntervals (Labelled fs S.order) none (strings [] x) [] (leaves x) =
          rw (es, el) (between_leaves fs S.order (order_right b S) (strings_asc b S)) in
          leading (ranges fs) S.order S.chain S.listed x (cast (Labelled fs S.order) (es ∙ strings_right b S) (flat_trie (Labelled fs S.order) x n flat))

      tree : (o : Option (Tree × List ℕ)) → read_tree (suc t.count) cs a ≡ o → is_trie_of fs t.count o ≡ true → CellsAgree (ranges fs) S.order cs a
      tree nothing r e = clash cc
      tree (some (x, vs)) r e =
          let p = both_true (is_each_once t.count vs && are_numbers [] x && same_strs (strings [] x) (strings_of fs)) (same_str (leaves x) (slots_between fs none (strings_of fs))) e in
          let q = both_true (is_each_once t.count vs && are_numbers [] x) (same_strs (strings [] x) (strings_of fs)) p.0 in
          let s = both_true (is_each_once t.count vs) (are_numbers [] x) q.0 in
          record {
            tree = x;
            visits = vs;
            reads = read_tree_reads cs (suc t.count) a (x, vs) r;
            each = λ i h. is_each_once_once t.count vs s.0 i (omega (arith, h, length-take t.count t.cells));
            trie = trie x (are_numbers_numbers [] x s.1) (same_strs_equal (strings [] x) (strings_of fs) q.1) (same_str_equal (leaves x) (slots_between fs none (strings_of fs)) p.1);
          }

  pub agrees_is_agreeing : {t : Trie} → Agrees fs t → is_agreeing fs t ≡ true
  unfolding is_agreeing is_trie_of
  agrees_is_agreeing {t} A =
      rw (le-leb t.count 256 A.few, eq-eqb (length t.cells) 256 A.whole, zeros, first, reading, once, numbers, same, same_strs_self (strings_of fs), slots)
      (same_str_self (slots_between fs none (strings_of fs)))
    where
      cs : List Cell
      cs = take t.count t.cells

      C : CellsAgree (ranges fs) S.order cs (root_side t.count t.first)
      C = agrees_cells b S A

      zeros : are_zero_cells (drop t.count t.cells) ≡ true
      zeros = past_zeros t.count t.cells A.past

      first : (eqb t.count 0 || eqb t.first 0) ≡ true
      first = elim (ℕ_discrete t.count 0) [
        | yes q ↦ true_left (eqb t.count 0) (eqb t.first 0) (eq-eqb t.count 0 q)
        | no q ↦ true_right (eqb t.count 0) (eqb t.first 0) (eq-eqb t.first 0 (A.first_leaf (omega arith)))
      ]

      reading : read_tree (suc t.count) cs (root_side t.count t.first) ≡ some (C.tree, C.visits)
      reading = reads_read_tree cs (suc t.count) C.reads (omega (arith, reads_height C.reads, visits_count C.reads C.each, length-take t.count t.cells))

      once : is_each_once t.count C.visits ≡ true
      once = once_is_each_once t.count C.visits (λ i h. C.each i (omega (arith, h, A.few, A.whole, length-take t.count t.cells)))

      numbers : are_numbers [] C.tree ≡ true
      numbers = numbers_are_numbers [] C.tree (trie_flat (Leads (ranges fs)) C.trie).0

      same : strings [] C.tree ≡ strings_of fs
      same = strings_are (Leads (ranges fs)) C.trie ∙ sym (strings_right b S)

      slots : leaves C.tree ≡ slots_between fs none (strings_of fs)
      slots = trie_slots C.tree C.trie
