-- Cells that agree with ranges in order; the strings and slots expected, as a cursor gives them.
use Rattle.model.proofs.Prelude.{List, Memᴰ, mem_head, mem_tail, [], ◌++◌, ◌+◌, ◌-◌, ◌<◌, ◌∙◌, ◌∷◌, ◌≡◌, ◌≤◌, ap, append-nil, ap₂, arith, dec_lt, get_or-append-add, le-leb, length, length-append, length-replicate, length-take, refl, replicate, some, take, take-append_seam, ℕ}
use Rattle.model.specs.declared.Cell.{Cell}
use Rattle.model.specs.declared.Side.{Side}
use Rattle.model.specs.declared.Side.TheVariants.{Cell as further, Slot as slot}
use Rattle.model.specs.declared.Trie.{Trie}
use Rattle.model.specs.Order.{Low, Str, ◌≺◌, ◌⊑◌, above, at, least, none, top}
use Rattle.model.specs.Tests.{is_above}
use Rattle.model.specs.Files.{Chain, In, IsString, RangeTable, Slot, Sound, head, last, next, ranges, slot_at}
use Rattle.model.specs.Searches.{all, bounds, fresh, string_count, strings_of}
use Rattle.model.specs.Tries.{Agrees, Leads, LeafIntervals, NumbersFit, Reads, Tree, at_cell, first_leaf_of, leaf, leaves, node, occ, root as no_side, root_side, size, strings, trie_of, walk_of, walk_trie, zero_cell}
use Rattle.model.specs.Rebuilding.{label, laid, lay, rebuilt, rebuilt_trie, side_of}
use Rattle.model.proofs.Deciding.{over}
use Rattle.model.proofs.Lists.{at_replicate}
use Rattle.model.proofs.Order.{le_take, le_trans, lt_le, lt_le_trans}
use Rattle.model.proofs.Tests.{above_is_above, not-is_above}
use Rattle.model.proofs.Tries.{Spans, cast, cells_count, flat_trie, relabel_same, relabel_trie, strings_are, trie_flat, walk}
use Rattle.model.proofs.Strings.{asc_mem, asc_unique, fresh_asc, fresh_begins, trie_asc}
use Rattle.model.proofs.Ranges.{bounds_all, chain_some, label_leads, leads_unique}
use Rattle.model.proofs.Cells.{laid_each, laid_reads, reads_below, reads_size, upto, visits_count}
use Rattle.model.proofs.Rebuilding.{rebuilt_agrees, walk_right}
use Rattle.model.proofs.Files.{count_right, order_right, strings_asc, strings_every, strings_only, strings_right}
use Rattle.model.proofs.Walks.{path_at, run_live, run_walk, spot, string_fits}

-- The cells, from this side on, are a trie of these slots' bounds and their beginnings, each leaf leading to its bucket.
pub record CellsAgree (F : RangeTable) (Bs : List ℕ) (cs : List Cell) (a : Side) : Type 0 where
  pub tree : Tree
  pub visits : List ℕ
  pub reads : Reads cs a tree visits
  pub each : (i : ℕ) → i < length cs → occ i visits ≡ 1
  pub trie : Spans (Leads F) none [] tree (all (bounds F Bs))

-- What stands in a row: a leaf by the slot that it leads to, or a string.
pub data Token : Type 0 where
  leads : ℕ → Token
  string : Str → Token

-- What is expected in order: the strings, and the slot of each gap by its label.
module _ (lab : Low → ℕ) where
  abbrev pub expect : Low → List Str → List Token
  expect l [] = leads (lab l) ∷ []
  expect l (x ∷ xs) = leads (lab l) ∷ string x ∷ expect (at x) xs

  abbrev pub labels : Low → List Str → List ℕ
  labels l [] = lab l ∷ []
  labels l (x ∷ xs) = lab l ∷ labels (at x) xs

  abbrev pub to_slots : List Token → List ℕ
  to_slots [] = []
  to_slots (leads B ∷ es) = B ∷ to_slots es
  to_slots (string q ∷ es) = to_slots es

  pub to_slots_append : (xs ys : List Token) → to_slots (xs ++ ys) ≡ to_slots xs ++ to_slots ys
  to_slots_append [] ys = refl
  to_slots_append (leads B ∷ xs) ys = ap (λ (r : List ℕ). B ∷ r) (to_slots_append xs ys)
  to_slots_append (string q ∷ xs) ys = to_slots_append xs ys

  pub expect_slots : (l : Low) (ss : List Str) → to_slots (expect l ss) ≡ labels l ss
  expect_slots l [] = refl
  expect_slots l (x ∷ xs) = ap (λ (r : List ℕ). lab l ∷ r) (expect_slots (at x) xs)

module _ (F : RangeTable) (Bs : List ℕ) (chain : Chain F none Bs) (listed : (B : ℕ) → F.Used B → Memᴰ B Bs) where
  pub labelled : (t : Tree) → Spans (Leads F) none [] t (all (bounds F Bs)) → Spans (λ l u B. B ≡ label F Bs l) none [] t (all (bounds F Bs))
  labelled t T = rw (relabel_same) at (relabel_trie (Leads F) (λ l u B. B ≡ label F Bs l) (λ u B. B) T least λ l u B x y mv gap h.
      let k : Leads F l u (label F Bs l) = label_leads F Bs none chain l u least (λ x m. gap x (bounds_all F Bs none chain x m)) in
      leads_unique F chain mv (listed B h.used) (listed (label F Bs l) k.used) h k)

  pub leading : (t : Tree) → Spans (λ l u B. B ≡ label F Bs l) none [] t (all (bounds F Bs)) → Spans (Leads F) none [] t (all (bounds F Bs))
  leading t T = rw (relabel_same) at (relabel_trie (λ l u B. B ≡ label F Bs l) (Leads F) (λ u B. B) T least λ l u B x y mv gap e.
      rw e (label_leads F Bs none chain l u least (λ x m. gap x (bounds_all F Bs none chain x m))))

-- The expected strings and slots as a cursor gives them: after each string the slot of the leaf right of it.
abbrev pub follow : ℕ → List Str → List Token
follow C [] = []
follow C (q ∷ qs) = string q ∷ leads C ∷ follow C qs

module _ (lab : Low → ℕ) where
  abbrev tokens : List Str → List Token
  tokens [] = []
  tokens (x ∷ xs) = string x ∷ leads (lab (at x)) ∷ tokens xs

  expect_tokens : (l : Low) (ss : List Str) → expect lab l ss ≡ leads (lab l) ∷ tokens ss
  expect_tokens l [] = refl
  expect_tokens l (x ∷ xs) = ap (λ (es : List Token). leads (lab l) ∷ string x ∷ es) (expect_tokens (at x) xs)

  tokens_append : (xs ys : List Str) → tokens (xs ++ ys) ≡ tokens xs ++ tokens ys
  tokens_append [] ys = refl
  tokens_append (x ∷ xs) ys = ap (λ (es : List Token). string x ∷ leads (lab (at x)) ∷ es) (tokens_append xs ys)

  tokens_follow : (C : ℕ) (xs : List Str) → ((x : Str) → Memᴰ x xs → lab (at x) ≡ C) → tokens xs ≡ follow C xs
  tokens_follow C [] f = refl
  tokens_follow C (x ∷ xs) f =
      ap₂ (λ (B : ℕ) (es : List Token). string x ∷ leads B ∷ es) (f x (mem_head refl)) (tokens_follow C xs (λ y m. f y (mem_tail m)))

module _ (F : RangeTable) where
  -- After the slot B's leaf: the strings that its upper brings, each followed by a leaf of the next slot.
  abbrev pub coming : ℕ → List ℕ → List Token
  coming B [] = []
  coming B (C ∷ Bs) = follow C (fresh (F.upper B) (F.upper C)) ++ coming C Bs

  label_skip : (B C : ℕ) (Bs : List ℕ) (x : Str) → F.upper B ⊑ x → label F (B ∷ C ∷ Bs) (at x) ≡ label F (C ∷ Bs) (at x)
  label_skip B C Bs x h = rw (not-is_above (at x) (F.upper B) (λ k. over k h))

  label_here : (C : ℕ) (Bs : List ℕ) (x : Str) → x ≺ F.upper C → label F (C ∷ Bs) (at x) ≡ C
  label_here C [] x h = refl
  label_here C (D ∷ Bs) x h = rw (above_is_above (above h))

  bring : (lab : Low → ℕ) (C : ℕ) (x y : Str) → x ≺ y → ((q : Str) → x ⊑ q → q ≺ y → lab (at q) ≡ C) → tokens lab (fresh x y) ≡ follow C (fresh x y)
  bring lab C x y h f = tokens_follow lab C (fresh x y) (λ q m. let b = fresh_begins x y q m in
      f q (rw b.is (le_take b.count x)) (asc_mem (fresh_asc x y none least h) m).1)

  tokens_after : (lab : Low → ℕ) (Bs : List ℕ) (B : ℕ) (l : Low) → Chain F l (B ∷ Bs) → ((x : Str) → F.upper B ⊑ x → x ≺ [] → lab (at x) ≡ label F Bs (at x))
      → tokens lab (all (bounds F (B ∷ Bs))) ≡ coming B Bs
  tokens_after lab [] B l c f = refl
  tokens_after lab (C ∷ []) B l (next u e a b (last u' e' f')) f =
      rw (append-nil, f') (bring lab C (F.upper B) [] b (λ x h k. f x h k))
  tokens_after lab (C ∷ []) B l (next u e a b (next u' e' a' b' c)) f = absurd (chain_some F c)
  tokens_after lab (C ∷ D ∷ Bs) B l (next u e a b (next u' e' a' b' c)) f =
      let up : F.upper B ≺ F.upper C = over a' in
      tokens_append lab (fresh (F.upper B) (F.upper C)) (all (bounds F (C ∷ D ∷ Bs)))
      ∙ ap₂ (λ (xs ys : List Token). xs ++ ys)
      (bring lab C (F.upper B) (F.upper C) up (λ x h k. f x h (lt_le_trans k top) ∙ label_here C (D ∷ Bs) x k))
      (tokens_after lab (D ∷ Bs) C (at (F.upper B)) (next u' e' a' b' c) (λ x h k. f x (le_trans (lt_le up) h) k ∙ label_skip C D Bs x h))

  -- What is expected is what the cursor gives.
  pub expect_cursor : (B : ℕ) (Bs : List ℕ) → Chain F none (B ∷ Bs) → expect (label F (B ∷ Bs)) none (all (bounds F (B ∷ Bs))) ≡ leads B ∷ coming B Bs
  unfolding is_above
  expect_cursor B [] c = refl
  expect_cursor B (C ∷ Bs) c =
      expect_tokens (label F (B ∷ C ∷ Bs)) none (all (bounds F (B ∷ C ∷ Bs)))
      ∙ ap (λ (es : List Token). leads B ∷ es) (tokens_after (label F (B ∷ C ∷ Bs)) (C ∷ Bs) B none c (λ x h k. label_skip B C Bs x h))

-- A trie that agrees: its cells below the count are read, each once, and the walk is the tree's.
module _ {fs : List Slot} {t : Trie} (A : Agrees fs t) where
  pub live_count : length (take t.count t.cells) ≡ t.count
  live_count = omega (arith, length-take t.count t.cells, A.whole, A.few)

  pub visit_count : length A.visits ≡ t.count
  visit_count = visits_count A.reads (λ i h. A.once i (omega (arith, h, live_count))) ∙ live_count

  -- No string of a sound file has more than 24 digits (`string_fits`).
  module _ (short : (x : Str) → IsString fs x → length x ≤ 24) (n : Str) where
    pub whole_run : walk_of t n ≡ some (path_at n [] A.tree, spot n [] no_side A.reads, walk n [] A.tree)
    unfolding walk_of
    whole_run =
        rw (le-leb t.count 256 A.few)
        (run_live t.count t.count t.cells n [] no_side (root_side t.count t.first)
        ∙ run_walk t.count n t.count [] no_side A.reads (omega (arith, visit_count)) below A.numbers (λ x m. short x (A.only x m)))
      where
        below : (m : ℕ) → 0 < occ m A.visits → m < t.count
        below m o = elim (dec_lt m t.count) [ yes h ↦ h | no h ↦ absurd (omega (arith, o, reads_below m (omega (arith, live_count)) A.reads)) ]

    pub whole_walk : walk_trie t n ≡ walk n [] A.tree
    whole_walk = rw whole_run

-- Agreement of a trie with a sound file (section 5 of the rules) is the cells' agreement with its ranges.
module _ (b : ℕ) {fs : List Slot} (S : Sound b fs) where
  pub agrees_cells : {t : Trie} → Agrees fs t → CellsAgree (ranges fs) S.order (take t.count t.cells) (root_side t.count t.first)
  agrees_cells {t} A = record {
    tree = A.tree;
    visits = A.visits;
    reads = A.reads;
    each = λ i h. A.once i (omega (arith, h, length-take t.count t.cells));
    trie = cast (Leads (ranges fs)) (strings_same ∙ strings_right b S) flat;
  }
    where
      flat : Spans (Leads (ranges fs)) none [] A.tree (strings [] A.tree)
      flat = flat_trie (Leads (ranges fs)) A.tree A.numbers A.leading

      strings_same : strings [] A.tree ≡ strings_of fs
      strings_same = asc_unique (trie_asc flat) (strings_asc b S) (λ x m. strings_every b S x (A.only x m)) (λ x m. A.every x (strings_only b S x m))

  -- A file that some trie agrees with has few enough strings.
  pub agrees_few : {t : Trie} → Agrees fs t → string_count fs ≤ 256
  agrees_few {t} A = let C = agrees_cells A in
      omega (arith, A.few, count_right b S, cells_count C.trie, reads_size C.reads, visits_count C.reads C.each, length-take t.count t.cells)

  pub cells_agree : {t : Trie} → length t.cells ≡ 256 → t.count ≤ 256
      → ((i : ℕ) → t.count ≤ i → at_cell t.cells i ≡ zero_cell) → (0 < t.count → t.first ≡ 0)
      → CellsAgree (ranges fs) S.order (take t.count t.cells) (root_side t.count t.first) → Agrees fs t
  cells_agree {t} whole few past first A = record {
    whole = whole;
    few = few;
    past = past;
    first_leaf = first;
    tree = A.tree;
    visits = A.visits;
    reads = A.reads;
    once = λ i h. A.each i (omega (arith, h, whole, few, length-take t.count t.cells));
    numbers = flat.0;
    only = λ x m. strings_only b S x (rw (same, ← strings_right b S) at m);
    every = λ x k. rw (same, ← strings_right b S) (strings_every b S x k);
    leading = rw same flat.1;
  }
    where
      same : strings [] A.tree ≡ all (bounds (ranges fs) S.order)
      same = strings_are (Leads (ranges fs)) A.trie

      flat : NumbersFit [] A.tree × LeafIntervals (Leads (ranges fs)) none (all (bounds (ranges fs) S.order)) [] (leaves A.tree)
      flat = trie_flat (Leads (ranges fs)) A.trie

  -- Cells that agree, held as a trie.
  pub trie_of_agrees : (cs : List Cell) (a : Side) → CellsAgree (ranges fs) S.order cs a → (a ≡ root_side (length cs) (first_leaf_of a)) → string_count fs ≤ 256
      → Agrees fs (trie_of cs a)
  trie_of_agrees cs a A root few =
      cells_agree {t = trie_of cs a} whole small (λ i h. past i h) (first a root) (rw (front, ← root) A)
    where
      small : length cs ≤ 256
      small = omega (arith, few, count_right b S, cells_count A.trie, reads_size A.reads, visits_count A.reads A.each)

      front : take (length cs) (cs ++ replicate (256 - length cs) zero_cell) ≡ cs
      front = take-append_seam cs (replicate (256 - length cs) zero_cell)

      whole : length (cs ++ replicate (256 - length cs) zero_cell) ≡ 256
      whole = omega (arith, small, length-append cs (replicate (256 - length cs) zero_cell), length-replicate (256 - length cs) zero_cell)

      past : (i : ℕ) → length cs ≤ i → at_cell (cs ++ replicate (256 - length cs) zero_cell) i ≡ zero_cell
      past i h =
          let e : i ≡ length cs + (i - length cs) = omega arith in
          ap (λ (k : ℕ). at_cell (cs ++ replicate (256 - length cs) zero_cell) k) e ∙ get_or-append-add cs (replicate (256 - length cs) zero_cell) (i - length cs) zero_cell ∙ at_replicate zero_cell (256 - length cs) (i - length cs)

      first : (a : Side) → a ≡ root_side (length cs) (first_leaf_of a) → 0 < length cs → first_leaf_of a ≡ 0
      first (further m) e h = refl
      first (slot s) e h = go cs e h
        where
          go : (cs : List Cell) → slot s ≡ root_side (length cs) s → 0 < length cs → s ≡ 0
          go [] e h = absurd (omega arith)
          go (x ∷ xs) e h = cc

  -- A tree of the file's strings, laid out in cells, agrees.
  pub laid_agrees : (t : Tree) → string_count fs ≤ 256 → Spans (Leads (ranges fs)) none [] t (all (bounds (ranges fs) S.order)) → Agrees fs (laid t)
  laid_agrees t few T = trie_of_agrees (lay 0 t) (side_of 0 t) (record { tree = t; visits = upto 0 (size t); reads = laid_reads t; each = laid_each t; trie = T }) (root t) few
    where
      root : (t : Tree) → side_of 0 t ≡ root_side (length (lay 0 t)) (first_leaf_of (side_of 0 t))
      root (leaf s) = refl
      root (node d i L R) = refl

  -- The rebuilt trie agrees where its strings are few enough.
  pub rebuilt_trie_agrees : string_count fs ≤ 256 → Agrees fs (rebuilt_trie fs)
  rebuilt_trie_agrees few = rw (order_right b S) (laid_agrees (rebuilt (ranges fs) S.order) few T)
    where
      T : Spans (Leads (ranges fs)) none [] (rebuilt (ranges fs) S.order) (all (bounds (ranges fs) S.order))
      T = rebuilt_agrees (ranges fs) S.order S.chain

  -- R5.13: each name arrives at the bucket whose range holds it.
  pub agrees_walk : {t : Trie} → Agrees fs t → (n : Str) → In (head (slot_at fs (walk_trie t n))) n
  unfolding agrees_cells
  agrees_walk A n = rw (whole_walk A (string_fits b S) n) (walk_right (ranges fs) (agrees_cells A).trie n)
