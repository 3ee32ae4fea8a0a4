-- The new cells in a row, and the paths that lead to them.
use Rattle.model.proofs.Prelude.{List, [], ◌+◌, ◌-◌, ◌<◌, ◌∙◌, ◌∷◌, ◌≡◌, ◌≤◌, add-one, ap, append-nil, arith, clash, drop, get_or, get_or-drop, le-ltb, length, length-drop, lt-ltb, refl, set, set-get_or, suc, sym, take, take-suc, take-take, zero, ℕ}
use Rattle.model.specs.declared.Cell.{Cell}
use Rattle.model.specs.declared.Side.{Side}
use Rattle.model.specs.declared.Side.TheVariants.{Cell as further, Slot as slot}
use Rattle.model.specs.Order.{Str, ◌⊑◌, diff}
use Rattle.model.specs.Tries.{Reads, Spot, Tree, at_cell, cell, left, right, root, size, there, zero_cell}
use Rattle.model.specs.Rebuilding.{lay, side_of}
use Rattle.model.specs.Growth.{cell_of, chain_of, changed, grown, placed}
use Rattle.model.proofs.Deciding.{nil_not_le, tail_le}
use Rattle.model.proofs.Order.{take_diff}
use Rattle.growth.specs.Parts.{new_cell, next_side}
use Rattle.growth.proofs.Meeting.{Comes, Kept, Met, at_once, by_left, by_none, by_right, met_kept, met_left, met_right, on_left, on_right}

pub chain_size : (k : ℕ) (ds : Str) (A : ℕ) → size (chain_of k ds A) ≡ length ds
chain_size k [] A = refl
chain_size k (d ∷ ds) A = omega (arith, chain_size (suc k) ds A)

pub chain_side : (k n : ℕ) (ds : Str) (A : ℕ) → 0 < length ds → side_of n (chain_of k ds A) ≡ further n
chain_side k n [] A h = absurd (omega arith)
chain_side k n (d ∷ ds) A h = refl

pub next_further : (i e a : ℕ) → suc i < e → next_side i e a ≡ further (suc i)
unfolding next_side
next_further i e a h = rw (add-one i, lt-ltb (suc i) e h)

pub next_slot : (i e a : ℕ) → e ≤ suc i → next_side i e a ≡ slot a
unfolding next_side
next_slot i e a h = rw (add-one i, le-ltb (suc i) e h)

chain_next : (k n : ℕ) (ds : Str) (A : ℕ) → side_of (suc n) (chain_of k ds A) ≡ next_side (n + 0) (n + suc (length ds)) A
chain_next k n [] A = sym (next_slot (n + 0) (n + 1) A (omega arith))
chain_next k n (d ∷ ds) A =
    let e : suc n ≡ suc (n + 0) = omega arith in
    ap (λ (j : ℕ). further j) e ∙ sym (next_further (n + 0) (n + suc (suc (length ds))) A (omega arith))

abbrev row_cell : ℕ → ℕ → Str → ℕ → ℕ → Cell
row_cell n k ds A i = record { digit = get_or ds i 0; number = k + i; left = next_side (n + i) (n + length ds) A; right = slot A }

row_at : (n k : ℕ) (ds : Str) (A i : ℕ) → i < length ds → at_cell (lay n (chain_of k ds A)) i ≡ row_cell n k ds A i
row_at n k [] A i h = absurd (omega arith)
row_at n k (d ∷ ds) A zero h =
    let e : k ≡ k + 0 = omega arith in
    rw (← e, chain_next (suc k) n ds A)
row_at n k (d ∷ ds) A (suc i) h =
    let e : suc k + i ≡ k + suc i = omega arith in
    let g : suc n + i ≡ n + suc i = omega arith in
    let j : suc n + length ds ≡ n + suc (length ds) = omega arith in
    rw (append-nil, row_at (suc n) (suc k) ds A i (omega arith), e, g, j)

-- The cells that stand for the digits of s past those shared with p.
pub grown_at : (n : ℕ) (s p : Str) (A i : ℕ) → diff s p + i < length s
    → at_cell (lay n (grown s p A)) i ≡ new_cell s (diff s p + i) (n + i) (n + (length s - diff s p)) A A
unfolding new_cell
grown_at n s p A i h =
    let l : length (drop (diff s p) s) ≡ length s - diff s p = length-drop (diff s p) s in
    row_at n (diff s p) (drop (diff s p) s) A i (omega (arith, l)) ∙ rw (get_or-drop (diff s p) s i 0, l)

-- The path with which the new cell i is met.
abbrev pub path_to : Str → Str → ℕ → Str
path_to s p zero = p
path_to s p (suc i) = take (suc (diff s p + i)) s

pub path_on : (s p : Str) (i : ℕ) → diff s p + i < length s → cell (get_or s (diff s p + i) 0) (diff s p + i) (path_to s p i) ≡ take (suc (diff s p + i)) s
path_on s p zero h =
    let e : diff s p + 0 ≡ diff s p = omega arith in
    rw (e, ← take_diff s p) (sym (take-suc s (diff s p) 0 (omega arith)))
path_on s p (suc i) h =
    let e : diff s p + suc i ≡ suc (diff s p + i) = omega arith in
    rw (e, take-take (suc (diff s p + i)) (suc (diff s p + i)) s (omega arith)) (sym (take-suc s (suc (diff s p + i)) 0 (omega arith)))

pub proper_above : (j : ℕ) (s : Str) → j < length s → ¬ (take j s ⊑ s)
proper_above j [] h k = omega arith
proper_above zero (d ∷ s) h k = nil_not_le k
proper_above (suc j) (d ∷ s) h k = proper_above j s (omega arith) (tail_le k refl)

-- Nothing is grafted: the side leads where it led.
pub graft_none : {cs : List Cell} {a : Side} {A : ℕ} {sp : Spot} {p : Str} → Comes cs a [] root A sp p
    → set cs (cell_of sp) (changed (at_cell cs (cell_of sp)) sp (slot A)) ≡ cs
graft_none {cs} (by_none e) = set-get_or cs 0 zero_cell
graft_none {cs} (by_left {m = m} x e) = rw (← e) (set-get_or cs m zero_cell)
graft_none {cs} (by_right {m = m} x e) = rw (← e) (set-get_or cs m zero_cell)

-- A graft keeps the cells, but for the leaf.
pub graft_kept : {cs : List Cell} {a : Side} {A : ℕ} {sp : Spot} {p : Str} (x : Side) → Comes cs a [] root A sp p
    → Kept (at_cell cs (cell_of sp)) (changed (at_cell cs (cell_of sp)) sp x)
graft_kept x (by_none e) = record { digit = refl; number = refl; left = λ j q. q; right = λ j q. q }
graft_kept x (by_left y e) = record { digit = refl; number = refl; left = λ j q. (clash cc); right = λ j q. q }
graft_kept x (by_right y e) = record { digit = refl; number = refl; left = λ j q. q; right = λ j q. (clash cc) }

pub met_below : {cs : List Cell} {a : Side} {t : Tree} {vs : List ℕ} {p r : Str} {k : ℕ} → Reads cs a t vs → Met cs p a k r → k < length cs
met_below (there h l x) at_once = h
met_below (there h l x) (on_left y) = met_below l y
met_below (there h l x) (on_right y) = met_below x y
met_below {cs = cs} {p = p} {r = r} {k = k} (Rattle.model.specs.Tries.here {s = s}) x5 = elim x5 [ ]

met_placed : {cs : List Cell} {a : Side} {p r : Str} {k : ℕ} (x : Side) → Met cs p a k r → a ≡ placed a x
met_placed x at_once = refl
met_placed x (on_left y) = refl
met_placed x (on_right y) = refl

-- The first new cell is met with the leaf's path.
module _ {cs : List Cell} {a : Side} {t : Tree} {vs : List ℕ} (reads : Reads cs a t vs) (cs' : List Cell) (n : ℕ)
    (keep : (m : ℕ) → m < length cs → Kept (at_cell cs m) (at_cell cs' m)) where
  pub met_old : {k : ℕ} {r : Str} (x : Side) → Met cs [] a k r → Met cs' [] (placed a x) k r
  met_old {k} {r} x y = rw (← met_placed x y) (met_kept keep reads y)

  pub met_first : {A : ℕ} {sp : Spot} {p : Str} → Comes cs a [] root A sp p
      → (cell_of sp < length cs → at_cell cs' (cell_of sp) ≡ changed (at_cell cs (cell_of sp)) sp (further n)) → Met cs' [] (placed a (further n)) n p
  met_first (by_none e) there' = rw e at_once
  met_first (by_left {m = m} {r = r} y e) there' =
      let h : m < length cs = met_below reads y in
      let g = there' h in
      rw g at (met_left {k = n} (met_old (further n) y) (rw g))
  met_first (by_right {m = m} {r = r} y e) there' =
      let h : m < length cs = met_below reads y in
      let g = there' h in
      met_right (met_old (further n) y) (rw g)
