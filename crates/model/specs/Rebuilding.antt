-- Rebuild: the trie of a file's strings, balanced, and its cells.
use Rattle.std.specs.Prelude.{cond, List, [], ◌++◌, ◌∷◌, ◌+◌, ◌-◌, ◌/◌, min, suc, zero, ℕ, eqb, drop, get_or, length, take}
use Rattle.model.specs.declared.Cell.{Cell}
use Rattle.model.specs.declared.Side.{Side}
use Rattle.model.specs.declared.Side.TheVariants.{Cell as further, Slot as slot}
use Rattle.model.specs.declared.Trie.{Trie}
use Rattle.model.specs.Order.{Low, Str, at, last_digit, none}
use Rattle.model.specs.Tests.{is_above}
use Rattle.model.specs.Files.{RangeTable, Slot, ranges}
use Rattle.model.specs.Searches.{all, bounds, order_of}
use Rattle.model.specs.Tries.{Tree, leaf, node, size, trie_of}

-- R6.2: how many digits the strings with fewest digits have,
abbrev pub fewest : Str → List Str → ℕ
fewest x [] = length x
fewest x (y ∷ ys) = min (length x) (fewest y ys)

-- and their places in the run, counted from i.
abbrev pub places : ℕ → ℕ → List Str → List ℕ
places n i [] = []
places n i (x ∷ xs) = let r = places n (suc i) xs in cond (eqb (length x) n) (i ∷ r) r

-- R6.2: the middle one, or the lower of two middle ones.
abbrev pub middle : List ℕ → ℕ
middle ps = get_or ps ((length ps - 1) / 2) 0

-- R6.2: the root of a run.
abbrev pub pick : List Str → ℕ
pick [] = 0
pick (x ∷ xs) = middle (places (fewest x xs) 0 (x ∷ xs))

-- R6.3: the runs left and right of the root. The run lies between l and u; label gives the slot of a leaf with these
-- neighbours; n is at least the number of strings.
abbrev pub build : (List Str → ℕ) → (Low → Str → ℕ) → ℕ → Low → Str → List Str → Tree
build pick label zero l u ss = leaf (label l u)
build pick label (suc n) l u [] = leaf (label l u)
build pick label (suc n) l u (x ∷ xs) =
    let m = pick (x ∷ xs) in
    let r = get_or (x ∷ xs) m [] in
    node (last_digit r) (length r - 1) (build pick label n l r (take m (x ∷ xs)))
    (build pick label n (at r) u (drop (suc m) (x ∷ xs)))

module _ (F : RangeTable) where
  -- The slot of a leaf: in range order, the first whose upper is above the string just left of the leaf.
  abbrev pub label : List ℕ → Low → ℕ
  label [] l = 0
  label (B ∷ []) l = B
  label (B ∷ C ∷ Bs) l = cond (is_above l (F.upper B)) B (label (C ∷ Bs) l)

  -- R6.1: the first run is all strings.
  abbrev pub rebuilt : List ℕ → Tree
  rebuilt Bs = build pick (λ l u. label Bs l) (length (all (bounds F Bs))) none [] (all (bounds F Bs))

-- R6.5: the root's number, then those of the left part, then those of the right; here from k on.
abbrev pub side_of : ℕ → Tree → Side
side_of k (leaf s) = slot s
side_of k (node d i L R) = further k

abbrev pub lay : ℕ → Tree → List Cell
lay k (leaf s) = []
lay k (node d i L R) =
    record { digit = d; number = i; left = side_of (suc k) L; right = side_of (suc k + size L) R }
    ∷ (lay (suc k) L ++ lay (suc k + size L) R)

abbrev pub laid : Tree → Trie
laid t = trie_of (lay 0 t) (side_of 0 t)

-- The trie that rebuild gives.
abbrev pub rebuilt_trie : List Slot → Trie
rebuilt_trie fs = laid (rebuilt (ranges fs) (order_of fs))
