-- The walk ends at the leaf whose interval holds the name; all strings lie inside; the flat wording and the tree's are the same.
use Rattle.model.proofs.Prelude.{List, Memᴰ, mem_append_cases, mem_cases_cons, mem_not_nil, [], ◌++◌, ◌∙◌, ◌∷◌, ◌≡◌, ◌≤◌, ◌⊎◌, add-one, ap, arith, inl, inr, length, length-append, length-take-le, refl, subst, suc, take, ℕ}
use Rattle.model.specs.Order.{Low, Str, ◌≺◌, ◌⊑◌, ◌⊴◌, ◌◁◌, above, at}
use Rattle.model.specs.Tries.{LeafIntervals, NumbersFit, Tree, cell, leaf, leaf_last, leaf_next, leaves, node, size, strings}
use Rattle.model.proofs.Deciding.{le?, over}
use Rattle.model.proofs.Order.{le_refl, le_trans, low_at, low_lower, low_refl, low_trans, lt_le, lt_le_trans, lt_trans}

-- The walk over a tree: a name within the cell's string goes left, with that string as its path; any other goes right.
abbrev pub walk : Str → Str → Tree → ℕ
walk n p (leaf s) = s
walk n p (node d i l r) = elim (le? n (cell d i p)) [ yes h ↦ walk n (cell d i p) l | no h ↦ walk n p r ]

-- Leaves lead to other slots, by their path and the slot that they led to.
abbrev pub relabel : (Str → ℕ → ℕ) → Str → Tree → Tree
relabel f p (leaf B) = leaf (f p B)
relabel f p (node d i L R) = node d i (relabel f (cell d i p) L) (relabel f p R)

module _ (P : Low → Str → ℕ → Type 0) where
  -- `LeafIntervals` of a tree, its path u being the upper end: the tree is a trie of the interval (l, u] with these strings.
  pub data Spans : Low → Str → Tree → List Str → Type 0 where
    tip : {l : Low} {u : Str} {s : ℕ} → P l u s → Spans l u (leaf s) []
    cut : {l : Low} {u : Str} {d i : ℕ} {L R : Tree} {xs ys : List Str} → i ≤ length u → l ◁ cell d i u → cell d i u ≺ u
        → Spans l (cell d i u) L xs → Spans (at (cell d i u)) u R ys → Spans l u (node d i L R) (xs ++ (cell d i u ∷ ys))

module _ (P : Low → Str → ℕ → Type 0) where
  -- The same, where the cell's string is known by an equation.
  pub cut_at : {l : Low} {u q : Str} (d i : ℕ) {L R : Tree} {xs ys : List Str} → i ≤ length u → cell d i u ≡ q → l ◁ q → q ≺ u
      → Spans P l q L xs → Spans P (at q) u R ys → Spans P l u (node d i L R) (xs ++ (q ∷ ys))
  cut_at {l} {u} {q} d i {L} {R} {xs} {ys} hi e lo up x y =
      rw (← e) (cut hi (rw (← e) at lo) (rw (← e) at up) (rw (← e) at x) (rw (← e) at y))

  pub cast : {l : Low} {u : Str} {t : Tree} {xs ys : List Str} → xs ≡ ys → Spans P l u t xs → Spans P l u t ys
  cast {l} {u} {t} e x = subst (λ (zs : List Str). Spans P l u t zs) e x

  pub record Ends (n : Str) (s : ℕ) : Type 0 where
    pub low : Low
    pub up : Str
    pub over : low ◁ n
    pub within : n ⊑ up
    pub holds : P low up s

  pub walk_ends : {l : Low} {u : Str} {t : Tree} {ss : List Str} → Spans P l u t ss → (n : Str) → l ◁ n → n ⊑ u → Ends n (walk n u t)
  walk_ends (tip h) n a b = record { low = _; up = _; over = a; within = b; holds = h }
  walk_ends (cut {u = u} {d = d} {i = i} {L = L} {R = R} hi lo up x y) n a b =
      go (le? n (cell d i u)) (λ h. walk_ends x n a h) (λ h. walk_ends y n h b)
    where
      go : (t : Dec (n ⊑ cell d i u)) → (n ⊑ cell d i u → Ends n (walk n (cell d i u) L)) → (at (cell d i u) ◁ n → Ends n (walk n u R))
          → Ends n (elim t [ yes h ↦ walk n (cell d i u) L | no h ↦ walk n u R ])
      go (yes h) f g = f h
      go (no h) f g = g (above h)

  pub strings_are : {l : Low} {u : Str} {t : Tree} {ss : List Str} → Spans P l u t ss → strings u t ≡ ss
  strings_are (tip h) = refl
  strings_are (cut hi lo up x y) = rw (strings_are x, strings_are y)

-- All strings of a trie lie strictly inside its interval.
pub inside : {P : Low → Str → ℕ → Type 0} {l : Low} {u : Str} {t : Tree} {ss : List Str} → Spans P l u t ss → (x : Str) → Memᴰ x ss → (l ◁ x) × (x ≺ u)
inside (tip h) x m = absurd (mem_not_nil m)
inside {P} {l} {u} (cut {d = d} {i = i} {xs = xs} {ys = ys} hi a b L R) x m =
    by (mem_append_cases xs m) (λ m. inside L x m) (λ m. inside R x m)
  where
    q : Str
    q = cell d i u

    by : Memᴰ x xs ⊎ Memᴰ x (q ∷ ys) → (Memᴰ x xs → (l ◁ x) × (x ≺ q)) → (Memᴰ x ys → (at q ◁ x) × (x ≺ u)) → (l ◁ x) × (x ≺ u)
    by (inl m) f g = ((f m).0, lt_trans (f m).1 b)
    by (inr m) f g = elim (mem_cases_cons m) [ inl e ↦ rw e (a, b) | inr m ↦ (low_lower (low_at a) (g m).0, (g m).1) ]

-- No string strictly between.
abbrev pub Gap : List Str → Low → Str → Type 0
Gap ss l u = (x : Str) → Memᴰ x ss → l ◁ x → x ≺ u → ⊥

module _ (P P' : Low → Str → ℕ → Type 0) (f : Str → ℕ → ℕ) where
  abbrev Turns : Low → Str → List Str → Type 0
  Turns l u ss = (m : Low) (v : Str) (B : ℕ) → l ⊴ m → v ⊑ u → m ◁ v → Gap ss m v → P m v B → P' m v (f v B)

  pub relabel_trie : {l : Low} {u : Str} {t : Tree} {ss : List Str} → Spans P l u t ss → l ◁ u → Turns l u ss → Spans P' l u (relabel f u t) ss
  relabel_trie {l} {u} (tip {s = B} h) lu w = tip (w l u B (low_refl l) (le_refl u) lu (λ x m a b. mem_not_nil m) h)
  relabel_trie {l} {u} (cut {d = d} {i = i} {xs = xs} {ys = ys} hi a b L R) lu w =
      cut hi a b (relabel_trie L a left) (relabel_trie R (above b) right)
    where
      q : Str
      q = cell d i u

      left : Turns l q xs
      left m v B lm vq mv gap = w m v B lm (le_trans vq (lt_le b)) mv λ x mx ax bx.
          elim (mem_append_cases xs mx) [
            | inl n ↦ gap x n ax bx
            | inr n ↦ lt_le_trans bx vq (elim (mem_cases_cons n) [ inl e ↦ rw e (le_refl q) | inr n ↦ lt_le (over (inside R x n).0) ])
          ]

      right : Turns (at q) u ys
      right m v B lm vu mv gap = w m v B (low_trans (low_at a) lm) vu mv λ x mx ax bx.
          let qx : q ≺ x = over (low_lower lm ax) in
          elim (mem_append_cases xs mx) [
            | inl n ↦ (inside L x n).1 (lt_le qx)
            | inr n ↦ elim (mem_cases_cons n) [ inl e ↦ qx (rw e (le_refl q)) | inr n ↦ gap x n ax bx ]
          ]

pub relabel_same : (p : Str) (t : Tree) → relabel (λ u B. B) p t ≡ t
relabel_same p (leaf s) = refl
relabel_same p (node d i L R) = rw (relabel_same (cell d i p) L, relabel_same p R)

module _ (P : Low → Str → ℕ → Type 0) where
  leaves_join : {l : Low} {u q : Str} {xs ys : List Str} {As Bs : List ℕ} → l ◁ q → q ≺ u → LeafIntervals P l xs q As → LeafIntervals P (at q) ys u Bs → LeafIntervals P l (xs ++ (q ∷ ys)) u (As ++ Bs)
  leaves_join a b (leaf_last h) r = leaf_next a b h r
  leaves_join a b (leaf_next c d h s) r = leaf_next c (lt_trans d b) h (leaves_join (above d) b s r)

  pub trie_flat : {l : Low} {u : Str} {t : Tree} {ss : List Str} → Spans P l u t ss → (NumbersFit u t) × (LeafIntervals P l ss u (leaves t))
  trie_flat (tip h) = (tt, leaf_last h)
  trie_flat (cut hi a b L R) = ((hi, (trie_flat L).0, (trie_flat R).0), leaves_join a b (trie_flat L).1 (trie_flat R).1)

  leaves_split : (xs : List Str) (As : List ℕ) {l : Low} {u q : Str} {ys : List Str} {Bs : List ℕ} → length As ≡ suc (length xs)
      → LeafIntervals P l (xs ++ (q ∷ ys)) u (As ++ Bs) → (LeafIntervals P l xs q As) × (l ◁ q) × (q ≺ u) × (LeafIntervals P (at q) ys u Bs)
  leaves_split [] [] e r = absurd (omega arith)
  leaves_split (x ∷ xs) [] e r = absurd (omega arith)
  leaves_split [] (A ∷ A' ∷ As) e r = absurd (omega arith)
  leaves_split [] (A ∷ []) e (leaf_next a b h r) = (leaf_last h, a, b, r)
  leaves_split (x ∷ xs) (A ∷ As) e (leaf_next c d h s) =
      let r = leaves_split xs As (omega arith) s in
      (leaf_next c (over r.1) h r.0, low_lower (low_at c) r.1, r.2, r.3)

  leaves_length : (p : Str) (t : Tree) → length (leaves t) ≡ suc (length (strings p t))
  leaves_length p (leaf s) = refl
  leaves_length p (node d i L R) = simp (length-append, leaves_length (cell d i p) L, leaves_length p R) (omega arith)

  pub flat_trie : (t : Tree) {l : Low} {u : Str} → NumbersFit u t → LeafIntervals P l (strings u t) u (leaves t) → Spans P l u t (strings u t)
  flat_trie (leaf s) n (leaf_last h) = tip h
  flat_trie (node d i L R) {l} {u} n r =
      let s = leaves_split (strings (cell d i u) L) (leaves L) (leaves_length (cell d i u) L) r in
      cut n.0 s.1 s.2 (flat_trie L n.1 s.0) (flat_trie R n.2 s.3)

-- As many cells as strings.
pub cells_count : {P : Low → Str → ℕ → Type 0} {l : Low} {u : Str} {t : Tree} {ss : List Str} → Spans P l u t ss → size t ≡ length ss
cells_count (tip h) = refl
cells_count {u = u} (cut {d = d} {i = i} {xs = xs} {ys = ys} h a c L M) = omega (arith, cells_count L, cells_count M, length-append xs (cell d i u ∷ ys))

-- A number is one less than its cell's string has digits.
pub cell_length : (d i : ℕ) (u : Str) → i ≤ length u → length (cell d i u) ≡ suc i
cell_length d i u h = length-append (take i u) (d ∷ []) ∙ add-one (length (take i u)) ∙ ap suc (length-take-le i u h)
