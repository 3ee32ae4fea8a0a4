-- The pass and trees: a pass reads each side as a tree that fits the strings, and over such a tree there is a pass.
use Rattle.model.proofs.Prelude.{List, [], ◌++◌, ◌+◌, ◌<◌, ◌∙◌, ◌∷◌, ◌≡◌, ◌≤◌, add-one, append_assoc, append-nil, arith, get_or, length, length-append, refl, suc, ℕ}
use Rattle.model.specs.declared.Cell.{Cell}
use Rattle.model.specs.declared.Side.{Side}
use Rattle.model.specs.declared.Side.TheVariants.{Cell as further, Slot as slot}
use Rattle.model.specs.Tries.{Reads, Tree, at_cell, here, leaf, node, occ, size, there}
use Rattle.model.proofs.Cells.{occ_append, occ_snoc, one_if_equal, there_at}
use Rattle.model.proofs.Shapes.{Floors}
use Rattle.trie.specs.declared.Strings.{Strings}
use Rattle.trie.specs.Places.{InOrder, cells, no_cells}
use Rattle.trie.proofs.Strung.{order_size}
use Rattle.agreement.specs.Passes.{Passes, ends, enters, leaves}

-- The same, where the cell is known by an equation.
cells_at : {cs : List Cell} {m : ℕ} {c : Cell} {vs ws : List ℕ} → m < length cs → at_cell cs m ≡ c → InOrder cs c.left vs → InOrder cs c.right ws
    → InOrder cs (further m) (vs ++ (m ∷ ws))
cells_at h e l r = cells h (rw (← e) at l) (rw (← e) at r)

-- The cells that a side leads to, in order, are those met in reading it.
pub record Ordered (cs : List Cell) (a : Side) : Type 0 where
  pub order : List ℕ
  pub in_order : InOrder cs a order

pub ordered : {cs : List Cell} {a : Side} {t : Tree} {vs : List ℕ} → Reads cs a t vs → Ordered cs a
ordered here = record { order = []; in_order = no_cells }
ordered (there {n = m} h l r) =
    let x = ordered l in
    let y = ordered r in
    record { order = x.order ++ (m ∷ y.order); in_order = cells h x.in_order y.in_order }

pub same_cells : {cs : List Cell} {a : Side} {t : Tree} {vs os : List ℕ} → Reads cs a t vs → InOrder cs a os → (i : ℕ) → occ i os ≡ occ i vs
same_cells here no_cells i = refl
same_cells (there {n = m} {vs = vs} {ws = ws} h l r) (cells {vs = xs} {ws = ys} h' x y) i =
    omega (arith, same_cells l x i, same_cells r y i, occ_append i vs ws, occ_append i xs (m ∷ ys))

-- In order, the tree's cells have the numbers and digits of the strings from the place on, and its leaves the slots.
abbrev pub Fits : Strings → ℕ → Tree → Type 0
Fits s at (leaf x) = x ≡ get_or s.slots at 0
Fits s at (node d i L R) =
    Fits s at L × (suc i ≡ get_or s.lens (at + size L) 0) × (d ≡ get_or s.digits (at + size L) 0) × Fits s (suc (at + size L)) R

module _ (cs : List Cell) (s : Strings) (live : List Cell) (live_is : length live ≡ s.count) (same : (k : ℕ) → k < s.count → at_cell live k ≡ at_cell cs k) where
  -- A side read, whose cells in order come after those seen.
  pub record Part (a : Side) (least : ℕ) (seen order : List ℕ) : Type 0 where
    pub tree : Tree
    pub visits : List ℕ
    pub reads : Reads live a tree visits
    pub in_order : InOrder live a order
    pub fits : Fits s (length seen) tree
    pub floors : Floors least tree
    pub once : ((i : ℕ) → occ i seen ≤ 1) → (i : ℕ) → occ i (seen ++ order) ≤ 1

  -- The right parts of the cells on the stack, read.
  pub data Rest : List ℕ → List ℕ → List ℕ → Type 0 where
    all : {seen : List ℕ} → length seen ≡ s.count → Rest [] seen seen
    next : {k : ℕ} {ks seen order last : List ℕ}
        → suc (at_cell cs k).number ≡ get_or s.lens (length seen) 0
        → (at_cell cs k).digit ≡ get_or s.digits (length seen) 0
        → occ k seen ≡ 0
        → Part (at_cell cs k).right (at_cell cs k).number (seen ++ (k ∷ [])) order
        → Rest ks ((seen ++ (k ∷ [])) ++ order) last
        → Rest (k ∷ ks) seen last

  pub record Whole (ks : List ℕ) (a : Side) (least : ℕ) (seen last : List ℕ) : Type 0 where
    pub order : List ℕ
    pub part : Part a least seen order
    pub rest : Rest ks (seen ++ order) last

  leaf_part : (x least : ℕ) (seen : List ℕ) → x ≡ get_or s.slots (length seen) 0 → Part (slot x) least seen []
  leaf_part x least seen e = record {
    tree = leaf x;
    visits = [];
    reads = here;
    in_order = no_cells;
    fits = e;
    floors = tt;
    once = λ h i. rw append-nil (h i);
  }

  join : (k least : ℕ) (ks seen vs last : List ℕ) → k < s.count → least ≤ (at_cell cs k).number
      → Part (at_cell cs k).left least seen vs
      → Rest (k ∷ ks) (seen ++ vs) last
      → Whole ks (further k) least seen last
  join k least ks seen vs last h l L (next {order = ws} en ed eo R rest) =
      let c : Cell = at_cell cs k in
      let here_is : length (seen ++ vs) ≡ length seen + size L.tree = length-append seen vs ∙ rw (order_size L.reads L.in_order) in
      let after_is : length ((seen ++ vs) ++ (k ∷ [])) ≡ suc (length seen + size L.tree) = length-append (seen ++ vs) (k ∷ []) ∙ rw (here_is, add-one) in
      let all_is : ((seen ++ vs) ++ (k ∷ [])) ++ ws ≡ seen ++ (vs ++ (k ∷ ws)) = simp append_assoc in
      record {
        order = vs ++ (k ∷ ws);
        part = record {
          tree = node c.digit c.number L.tree R.tree;
          visits = k ∷ (L.visits ++ R.visits);
          reads = there_at (omega (arith, live_is)) (same k h) L.reads R.reads;
          in_order = cells_at (omega (arith, live_is)) (same k h) L.in_order R.in_order;
          fits = (L.fits, rw here_is at en, rw here_is at ed, rw after_is at R.fits);
          floors = (l, L.floors, R.floors);
          once = λ q i. rw (← all_is) (R.once (occ_snoc k (seen ++ vs) eo (L.once q)) i);
        };
        rest = rw all_is at rest;
      }

  pub whole : {ks : List ℕ} {a : Side} {least : ℕ} {seen last : List ℕ} → Passes cs s ks a least seen last → Whole ks a least seen last
  whole (ends {x = x} {least = least} {seen = seen} e h) =
      record { order = []; part = leaf_part x least seen e; rest = rw append-nil (all h) }
  whole (leaves {x = x} {least = least} {seen = seen} e n d o p) =
      let W = whole p in
      record { order = []; part = leaf_part x least seen e; rest = rw append-nil (next n d o W.part W.rest) }
  whole (enters {k = k} {least = least} {ks = ks} {seen = seen} {last = last} h l p) =
      let W = whole p in
      join k least ks seen W.order last h l W.part W.rest

  -- What comes after a side is passed.
  abbrev pub After : List ℕ → List ℕ → List ℕ → Type 0
  After [] seen last = (length seen ≡ s.count) × (seen ≡ last)
  After (k ∷ ks) seen last =
      (suc (at_cell cs k).number ≡ get_or s.lens (length seen) 0) × ((at_cell cs k).digit ≡ get_or s.digits (length seen) 0) × (occ k seen ≡ 0)
      × Passes cs s ks (at_cell cs k).right (at_cell cs k).number (seen ++ (k ∷ [])) last

  pass_leaf : (ks : List ℕ) (x least : ℕ) (seen last : List ℕ) → x ≡ get_or s.slots (length seen) 0 → After ks seen last → Passes cs s ks (slot x) least seen last
  pass_leaf [] x least seen last e r = rw (← r.1) (ends e r.0)
  pass_leaf (k ∷ ks) x least seen last e r = leaves e r.0 r.1 r.2 r.3

  pub pass_tree : {a : Side} {t : Tree} {visits order : List ℕ} (ks : List ℕ) (least : ℕ) (seen last : List ℕ) → Reads live a t visits → InOrder live a order
      → Fits s (length seen) t → Floors least t → ((i : ℕ) → occ i (seen ++ order) ≤ 1)
      → After ks (seen ++ order) last → Passes cs s ks a least seen last
  pass_tree ks least seen last (here {s = x}) no_cells e l o r = pass_leaf ks x least seen last e (rw append-nil at r)
  pass_tree ks least seen last (there {n = k} {L = L} {R = R} h x y) (cells {vs = vs} {ws = ws} h' v w) e l o r =
      let c : Cell = at_cell cs k in
      let below : k < s.count = omega (arith, live_is) in
      let q : at_cell live k ≡ c = same k below in
      let here_is : length (seen ++ vs) ≡ length seen + size L = length-append seen vs ∙ rw (order_size x v) in
      let after_is : length ((seen ++ vs) ++ (k ∷ [])) ≡ suc (length seen + size L) = length-append (seen ++ vs) (k ∷ []) ∙ rw (here_is, add-one) in
      let all_is : seen ++ (vs ++ (k ∷ ws)) ≡ ((seen ++ vs) ++ (k ∷ [])) ++ ws = simp append_assoc in
      let o' : (i : ℕ) → occ i (((seen ++ vs) ++ (k ∷ [])) ++ ws) ≤ 1 = rw all_is at o in
      let once : (i : ℕ) → occ i (seen ++ vs) ≤ 1 = λ i. omega (arith, o' i, occ_append i ((seen ++ vs) ++ (k ∷ [])) ws, occ_append i (seen ++ vs) (k ∷ [])) in
      let new : occ k (seen ++ vs) ≡ 0 = omega (arith, o' k, occ_append k ((seen ++ vs) ++ (k ∷ [])) ws, occ_append k (seen ++ vs) (k ∷ []), one_if_equal k k refl) in
      let l₀ : least ≤ c.number = rw q at l.0 in
      let l₂ : Floors c.number R = rw q at l.2 in
      let e₁ : suc c.number ≡ get_or s.lens (length (seen ++ vs)) 0 = rw (here_is, ← q) e.1 in
      let e₂ : c.digit ≡ get_or s.digits (length (seen ++ vs)) 0 = rw (here_is, ← q) e.2 in
      let e₃ : Fits s (length ((seen ++ vs) ++ (k ∷ []))) R = rw after_is e.3 in
      let right = rw q at (pass_tree ks c.number ((seen ++ vs) ++ (k ∷ [])) last y w e₃ l₂ o' (rw all_is at r)) in
      let left = rw q at (pass_tree (k ∷ ks) least seen last x v e.0 l.1 once (e₁, e₂, new, right)) in
      enters below l₀ left
