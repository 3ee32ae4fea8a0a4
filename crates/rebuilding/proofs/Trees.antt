-- The tree of a run: its root lies in the run, it is the same for any fuel that is enough, and it has a cell for each string.
use Rattle.model.proofs.Prelude.{Bool, List, ◌+◌, ◌-◌, ◌/◌, ◌<◌, ◌∙◌, ◌≡◌, ◌≤◌, arith, cond, dec_lt, eqb, false, get_or, le-ltb, lt-ltb, ltb, refl, suc, sym, true, zero, ℕ}
use Rattle.model.specs.declared.Side.TheVariants.{Cell as further, Slot as slot}
use Rattle.model.specs.Tries.{Tree, leaf, node, size}
use Rattle.model.specs.Rebuilding.{side_of}
use Rattle.rebuilding.specs.Roots.{least, many, middle, part, place, run}
use Rattle.rebuilding.specs.Runs.{run_tree}

abbrev Within : ℕ → ℕ → ℕ → Type 0
Within lo hi x = (lo ≤ x) × (x < hi)

cond_within : (lo hi : ℕ) (t : Bool) (a b : ℕ) → Within lo hi a → Within lo hi b → Within lo hi (cond t a b)
cond_within lo hi true a b p q = p
cond_within lo hi false a b p q = q

place_within : (lo hi n z i d m from : ℕ) (xs : List ℕ) → Within lo hi z → lo ≤ i → i + n ≤ hi
    → Within lo hi (place z i d m (part n from xs))
unfolding place part
place_within lo hi zero z i d m from xs w h k = w
place_within lo hi (suc n) z i d m from xs w h k =
    let e = eqb (get_or xs from 0) d in
    let later = place_within lo hi n z (suc i) d (m - 1) (suc from) xs w (omega arith) (omega arith) in
    let other = place_within lo hi n z (suc i) d m (suc from) xs w (omega arith) (omega arith) in
    cond_within lo hi e _ _ (cond_within lo hi (eqb m 0) i _ (h, omega arith) later) other

pub middle_within : (from to : ℕ) (xs : List ℕ) → from < to → Within from to (middle from (run from to xs))
unfolding middle
middle_within from to xs h =
    let ys = run from to xs in
    let d = least 255 ys in
    place_within from to (to - from) from from d ((many 0 d ys - 1) / 2) from xs (omega arith, h) (omega arith) (omega arith)

module _ (lens digits slots : List ℕ) where
  abbrev Root : ℕ → ℕ → ℕ
  Root from to = middle from (run from to lens)

  pub node_of : (n from to : ℕ) → from < to
      → run_tree (suc n) lens digits slots from to
      ≡ node (get_or digits (Root from to) 0) (get_or lens (Root from to) 0 - 1)
      (run_tree n lens digits slots from (Root from to))
      (run_tree n lens digits slots (suc (Root from to)) to)
  unfolding run_tree
  node_of n from to h = rw (lt-ltb from to h)

  pub leaf_of : (n from to : ℕ) → to ≤ from → run_tree n lens digits slots from to ≡ leaf (get_or slots from 0)
  unfolding run_tree
  leaf_of zero from to h = refl
  leaf_of (suc n) from to h = rw (le-ltb from to h)

  fuel : (n k from to : ℕ) → to - from ≤ n → to - from ≤ k
      → run_tree n lens digits slots from to ≡ run_tree k lens digits slots from to
  fuel zero k from to h g = leaf_of zero from to (omega arith) ∙ sym (leaf_of k from to (omega arith))
  fuel (suc n) zero from to h g = leaf_of (suc n) from to (omega arith) ∙ sym (leaf_of zero from to (omega arith))
  fuel (suc n) (suc k) from to h g = go (dec_lt from to) (λ from to h g. fuel n k from to h g)
    where
      go : Dec (from < to)
          → ((from to : ℕ) → to - from ≤ n → to - from ≤ k → run_tree n lens digits slots from to ≡ run_tree k lens digits slots from to)
          → run_tree (suc n) lens digits slots from to ≡ run_tree (suc k) lens digits slots from to
      go (yes l) f =
          let w = middle_within from to lens l in
          let m = Root from to in
          node_of n from to l ∙ rw (f from m (omega arith) (omega arith), f (suc m) to (omega arith) (omega arith)) (sym (node_of k from to l))
      go (no l) f = leaf_of (suc n) from to (omega arith) ∙ sym (leaf_of (suc k) from to (omega arith))

  abbrev pub tree : ℕ → ℕ → Tree
  tree from to = run_tree (to - from) lens digits slots from to

  pub tree_node : (from to : ℕ) → from < to
      → tree from to
      ≡ node (get_or digits (Root from to) 0) (get_or lens (Root from to) 0 - 1) (tree from (Root from to)) (tree (suc (Root from to)) to)
  tree_node from to h =
      let w = middle_within from to lens h in
      let m = Root from to in
      let n = to - from in
      fuel n (suc n) from to (omega arith) (omega arith) ∙ node_of n from to h
      ∙ rw (fuel n (m - from) from m (omega arith) (omega arith), fuel n (to - suc m) (suc m) to (omega arith) (omega arith))

  pub tree_leaf : (from to : ℕ) → to ≤ from → tree from to ≡ leaf (get_or slots from 0)
  tree_leaf from to h = leaf_of (to - from) from to h

  size_of : (n from to : ℕ) → to - from ≤ n → size (run_tree n lens digits slots from to) ≡ to - from
  size_of zero from to h = rw (leaf_of zero from to (omega arith)) (omega arith)
  size_of (suc n) from to h = go (dec_lt from to) (λ from to h. size_of n from to h)
    where
      go : Dec (from < to) → ((from to : ℕ) → to - from ≤ n → size (run_tree n lens digits slots from to) ≡ to - from)
          → size (run_tree (suc n) lens digits slots from to) ≡ to - from
      go (yes l) f =
          let w = middle_within from to lens l in
          let m = Root from to in
          rw (node_of n from to l, f from m (omega arith), f (suc m) to (omega arith)) (omega arith)
      go (no l) f = rw (leaf_of (suc n) from to (omega arith)) (omega arith)

  pub size_tree : (from to : ℕ) → size (tree from to) ≡ to - from
  size_tree from to = size_of (to - from) from to (omega arith)

  pub side_tree : (k from to : ℕ) → cond (ltb from to) (further k) (slot (get_or slots from 0)) ≡ side_of k (tree from to)
  side_tree k from to = go (dec_lt from to)
    where
      go : Dec (from < to) → cond (ltb from to) (further k) (slot (get_or slots from 0)) ≡ side_of k (tree from to)
      go (yes l) = rw (lt-ltb from to l, tree_node from to l)
      go (no l) = let g : to ≤ from = omega arith in rw (le-ltb from to g, tree_leaf from to g)
