-- A trie that agrees with a file has an image of its own: its sides lead to the file's slots and to cells that are not the root.
use Rattle.model.proofs.Prelude.{Bool, List, Memᴰ, mem_cases_cons, mem_head, mem_not_nil, mem_append_left, mem_append_right, [], ◌++◌, ◌+◌, ◌<◌, ◌∷◌, ◌≡◌, ◌≤◌, arith, cond, dec_lt, eqb, eqb-true, false, get_or-take, length, length-take, refl, suc, take, true, zero, ℕ, ⊎_elim}
use Rattle.model.specs.declared.Cell.{Cell}
use Rattle.model.specs.declared.Side.{Side}
use Rattle.model.specs.declared.Side.TheVariants.{Cell as further, Slot as slot}
use Rattle.model.specs.declared.Trie.{Trie}
use Rattle.model.specs.Order.{Low, Str}
use Rattle.model.specs.Files.{RangeTable, Slot}
use Rattle.model.specs.Tries.{Agrees, Leads, LeafIntervals, Reads, Tree, at_cell, here, leaf_last, leaf_next, leaves, occ, root_side, there, zero_cell}
use Rattle.model.proofs.Cells.{occ_append, one_if_equal}
use Rattle.model.proofs.Files.{used_inside}
use Rattle.image.specs.Images.{Held}
use Rattle.image.proofs.Images.{Imaged}

-- The cells met behind the first.
abbrev behind : List ℕ → List ℕ
behind [] = []
behind (v ∷ vs) = vs

behind_least : (m : ℕ) (vs : List ℕ) → occ m (behind vs) ≤ occ m vs
behind_least m [] = omega arith
behind_least m (v ∷ vs) = omega arith

module _ (cs : List Cell) where
  -- A side leads to one of these leaves, or to one of these cells.
  abbrev In : List ℕ → List ℕ → Side → Type 0
  In Bs vs (slot s) = Memᴰ s Bs
  In Bs vs (further m) = (m < length cs) × (0 < occ m vs)

  in_left : (Bs vs Cs ws : List ℕ) (a : Side) → In Bs vs a → In (Bs ++ Cs) (vs ++ ws) a
  in_left Bs vs Cs ws (slot s) h = mem_append_left Cs h
  in_left Bs vs Cs ws (further m) h = (h.0, omega (arith, h.1, occ_append m vs ws))

  in_right : (Bs vs Cs ws : List ℕ) (a : Side) → In Bs vs a → In (Cs ++ Bs) (ws ++ vs) a
  in_right Bs vs Cs ws (slot s) h = mem_append_right Cs h
  in_right Bs vs Cs ws (further m) h = (h.0, omega (arith, h.1, occ_append m ws vs))

  in_more : (Bs vs : List ℕ) (a : Side) → In Bs (behind vs) a → In Bs vs a
  in_more Bs vs (slot s) h = h
  in_more Bs vs (further m) h = (h.0, omega (arith, h.1, behind_least m vs))

  in_side : {a : Side} {T : Tree} {vs : List ℕ} → Reads cs a T vs → In (leaves T) vs a
  in_side here = mem_head refl
  in_side (there {n = n} h l r) = (h, omega (arith, one_if_equal n n refl))

  -- The sides of a cell that is met.

  in_sides : {a : Side} {T : Tree} {vs : List ℕ} → Reads cs a T vs → (i : ℕ) → 0 < occ i vs → In (leaves T) (behind vs) (at_cell cs i).left × In (leaves T) (behind vs) (at_cell cs i).right
  in_sides here i o = absurd (omega arith)
  in_sides (there {n = n} {L = L} {R = R} {vs = vs} {ws = ws} h l r) i o =
      go (eqb i n) refl (dec_lt 0 (occ i vs)) (in_side l) (in_side r) (λ k. in_sides l i k) (λ k. in_sides r i k) o
    where
      go : (t : Bool) → eqb i n ≡ t → Dec (0 < occ i vs) → In (leaves L) vs (at_cell cs n).left → In (leaves R) ws (at_cell cs n).right
          → (0 < occ i vs → In (leaves L) (behind vs) (at_cell cs i).left × In (leaves L) (behind vs) (at_cell cs i).right)
          → (0 < occ i ws → In (leaves R) (behind ws) (at_cell cs i).left × In (leaves R) (behind ws) (at_cell cs i).right)
          → 0 < cond t 1 0 + occ i (vs ++ ws)
          → In (leaves L ++ leaves R) (vs ++ ws) (at_cell cs i).left × In (leaves L ++ leaves R) (vs ++ ws) (at_cell cs i).right
      go true e d x y f g k = rw (eqb-true i n e) (in_left (leaves L) vs (leaves R) ws (at_cell cs n).left x, in_right (leaves R) ws (leaves L) vs (at_cell cs n).right y)
      go false e (yes j) x y f g k =
          let s = f j in
          (in_left (leaves L) vs (leaves R) ws (at_cell cs i).left (in_more (leaves L) vs (at_cell cs i).left s.0), in_left (leaves L) vs (leaves R) ws (at_cell cs i).right (in_more (leaves L) vs (at_cell cs i).right s.1))
      go false e (no j) x y f g k =
          let s = g (omega (arith, occ_append i vs ws)) in
          (in_right (leaves R) ws (leaves L) vs (at_cell cs i).left (in_more (leaves R) ws (at_cell cs i).left s.0), in_right (leaves R) ws (leaves L) vs (at_cell cs i).right (in_more (leaves R) ws (at_cell cs i).right s.1))

  -- The root is met once, and so no side leads to it.
  root_once : (k f : ℕ) {T : Tree} {vs : List ℕ} → 0 < k → Reads cs (root_side k f) T vs → occ 0 vs ≡ 1 → occ 0 (behind vs) ≡ 0
  root_once zero f h r o = absurd (omega arith)
  root_once (suc k) f h (there l r₁ r₂) o = omega (arith, one_if_equal 0 0 refl)

leaf_led : {F : RangeTable} {l : Low} {xs : List Str} {u : Str} {Bs : List ℕ} → LeafIntervals (Leads F) l xs u Bs → (B : ℕ) → Memᴰ B Bs → F.Used B
leaf_led {F} (leaf_last {B = C} h) B m = ⊎_elim (λ e. rw e h.used) (λ n. absurd (mem_not_nil n)) (mem_cases_cons m)
leaf_led {F} (leaf_next {B = C} a b h r) B m = ⊎_elim (λ e. rw e h.used) (λ n. leaf_led r B n) (mem_cases_cons m)

module _ {fs : List Slot} (few : length fs ≤ 64) {t : Trie} (A : Agrees fs t) where
  held : (a : Side) → In (take t.count t.cells) (leaves A.tree) (behind A.visits) a → 0 < t.count → Held a
  held (slot s) h c = omega (arith, few, used_inside fs s (leaf_led A.leading s h))
  held (further m) h c =
      let z = root_once (take t.count t.cells) t.count t.first c A.reads (A.once 0 c) in
      (positive m h.1 z, omega (arith, h.0, length-take t.count t.cells, A.few))
    where
      positive : (m : ℕ) → 0 < occ m (behind A.visits) → occ 0 (behind A.visits) ≡ 0 → 1 ≤ m
      positive zero o z = absurd (omega arith)
      positive (suc m) o z = omega arith

  both : (i : ℕ) → Held (at_cell t.cells i).left × Held (at_cell t.cells i).right
  both i = go (dec_lt i t.count)
    where
      go : Dec (i < t.count) → Held (at_cell t.cells i).left × Held (at_cell t.cells i).right
      go (yes h) =
          let s = in_sides (take t.count t.cells) A.reads i (omega (arith, A.once i h)) in
          let e = get_or-take t.count t.cells i zero_cell h in
          rw (← e) (held (at_cell (take t.count t.cells) i).left s.0 (omega arith), held (at_cell (take t.count t.cells) i).right s.1 (omega arith))
      go (no h) = rw (A.past i (omega arith)) (omega arith, omega arith)

  pub agreeing_imaged : Imaged t
  agreeing_imaged = record { whole = A.whole; left_held = λ i h. (both i).0; right_held = λ i h. (both i).1 }
