-- The cells met below a side, each with the path that a walk has there. Redirection turns each cell by its own path.
use Rattle.model.proofs.Prelude.{Bool, List, [], ◌++◌, ◌+◌, ◌<◌, ◌∙◌, ◌∷◌, ◌≡◌, ◌≤◌, ap, arith, cond, dec_lt, eqb, eqb-true, false, get_or-set_other, get_or-set_same, length, ne_eqb, refl, set, suc, sym, true, zero, ℕ, ℕ_discrete}
use Rattle.model.specs.declared.Cell.{Cell}
use Rattle.model.specs.declared.Side.{Side}
use Rattle.model.specs.declared.Side.TheVariants.{Cell as further, Slot as slot}
use Rattle.model.specs.Order.{Str, ◌⊑◌}
use Rattle.model.specs.Tries.{Reads, Spot, Tree, at_cell, cell, here, leaf, left, node, occ, right, there, zero_cell}
use Rattle.model.specs.Growth.{turn_cell, turn_cells}
use Rattle.model.proofs.Deciding.{le?}
use Rattle.model.proofs.Cells.{height, occ_append, one_if_equal, reads_agree, reads_set}
use Rattle.model.proofs.GrownCells.{Turned, turn_reads}
use Rattle.model.proofs.Tries.{walk}
use Rattle.model.proofs.Walks.{path_at, spot}

abbrev pub string_of : Cell → Str → Str
string_of c p = cell c.digit c.number p

pub data Met (cs : List Cell) : Str → Side → ℕ → Str → Type 0 where
  at_once : {p : Str} {m : ℕ} → Met cs p (further m) m p
  on_left : {p r : Str} {m k : ℕ} → Met cs (string_of (at_cell cs m) p) (at_cell cs m).left k r → Met cs p (further m) k r
  on_right : {p r : Str} {m k : ℕ} → Met cs p (at_cell cs m).right k r → Met cs p (further m) k r

-- The same, where the cell is known by an equation.
left_at : {cs : List Cell} {p r : Str} {m k : ℕ} {c : Cell} → at_cell cs m ≡ c → Met cs (string_of c p) c.left k r → Met cs p (further m) k r
left_at e x = on_left (rw (← e) at x)

right_at : {cs : List Cell} {p r : Str} {m k : ℕ} {c : Cell} → at_cell cs m ≡ c → Met cs p c.right k r → Met cs p (further m) k r
right_at e x = on_right (rw (← e) at x)

-- A cell is met where it is visited.
pub met_visited : {cs : List Cell} {a : Side} {t : Tree} {vs : List ℕ} {p r : Str} {k : ℕ} → Reads cs a t vs → Met cs p a k r → 0 < occ k vs
met_visited (there {n = m} {vs = vs} {ws = ws} h l x) at_once = omega (arith, one_if_equal m m refl)
met_visited (there {n = m} {vs = vs} {ws = ws} h l x) (on_left {k = k} y) = omega (arith, met_visited l y, occ_append k vs ws)
met_visited (there {n = m} {vs = vs} {ws = ws} h l x) (on_right {k = k} y) = omega (arith, met_visited x y, occ_append k vs ws)
met_visited {cs = cs} {p = p} {r = r} {k = k} (here {s = s}) x5 = elim x5 [ ]

pub visited_met : {cs : List Cell} {a : Side} {t : Tree} {vs : List ℕ} → Reads cs a t vs → (p : Str) (k : ℕ) → 0 < occ k vs → (r : Str) × Met cs p a k r
visited_met here p k h = absurd (omega arith)
visited_met {cs} (there {n = m} {vs = vs} {ws = ws} i l x) p k h =
    go (eqb k m) refl (dec_lt 0 (occ k vs)) (λ v. visited_met l (string_of (at_cell cs m) p) k v) (λ v. visited_met x p k v) h
  where
    go : (t : Bool) → eqb k m ≡ t → Dec (0 < occ k vs) → (0 < occ k vs → (r : Str) × Met cs (string_of (at_cell cs m) p) (at_cell cs m).left k r)
        → (0 < occ k ws → (r : Str) × Met cs p (at_cell cs m).right k r) → 0 < cond t 1 0 + occ k (vs ++ ws) → (r : Str) × Met cs p (further m) k r
    go true e d f g h = (p, rw (eqb-true k m e) at_once)
    go false n (yes v) f g h = let r = f v in (r.0, on_left r.1)
    go false n (no v) f g h = let r = g (omega (arith, occ_append k vs ws)) in (r.0, on_right r.1)

-- It depends on the visited cells alone.
pub met_agree : {cs cs' : List Cell} {a : Side} {t : Tree} {vs : List ℕ} {p r : Str} {k : ℕ}
    → ((m : ℕ) → 0 < occ m vs → at_cell cs' m ≡ at_cell cs m) → Reads cs a t vs → Met cs p a k r → Met cs' p a k r
met_agree f (there h l x) at_once = at_once
met_agree f (there {n = m} {vs = vs} {ws = ws} h l x) (on_left y) =
    left_at (f m (omega (arith, one_if_equal m m refl))) (met_agree (λ i o. f i (omega (arith, o, occ_append i vs ws))) l y)
met_agree f (there {n = m} {vs = vs} {ws = ws} h l x) (on_right y) =
    right_at (f m (omega (arith, one_if_equal m m refl))) (met_agree (λ i o. f i (omega (arith, o, occ_append i vs ws))) x y)
met_agree {cs = cs} {p = p} {r = r} {k = k} f (here {s = s}) x9 = elim x9 [ ]

-- What a met cell's side leads to is met.
pub met_left : {cs : List Cell} {a : Side} {p r : Str} {m k : ℕ} → Met cs p a m r → (at_cell cs m).left ≡ further k → Met cs p a k (string_of (at_cell cs m) r)
met_left {cs} {k = k} (at_once {p = p} {m = m}) e = on_left {p = p} {r = string_of (at_cell cs m) p} {m = m} {k = k} (rw e at_once)
met_left (on_left x) e = on_left (met_left x e)
met_left (on_right x) e = on_right (met_left x e)

pub met_right : {cs : List Cell} {a : Side} {p r : Str} {m k : ℕ} → Met cs p a m r → (at_cell cs m).right ≡ further k → Met cs p a k r
met_right {k = k} (at_once {p = p} {m = m}) e = on_right {p = p} {r = p} {m = m} {k = k} (rw e at_once)
met_right (on_left x) e = on_left (met_right x e)
met_right (on_right x) e = on_right (met_right x e)

-- A cell with the same string whose further sides stay.
pub record Kept (c c' : Cell) : Type 0 where
  pub digit : c'.digit ≡ c.digit
  pub number : c'.number ≡ c.number
  pub left : (j : ℕ) → c.left ≡ further j → c'.left ≡ further j
  pub right : (j : ℕ) → c.right ≡ further j → c'.right ≡ further j

met_side : {cs : List Cell} {a a' : Side} {p r : Str} {k : ℕ} → Met cs p a k r → ((j : ℕ) → a ≡ further j → a' ≡ further j) → a' ≡ a
met_side (at_once {m = m}) f = f m refl
met_side (on_left {m = m} x) f = f m refl
met_side (on_right {m = m} x) f = f m refl

pub met_kept : {cs cs' : List Cell} {a : Side} {t : Tree} {vs : List ℕ} {p r : Str} {k : ℕ}
    → ((m : ℕ) → m < length cs → Kept (at_cell cs m) (at_cell cs' m)) → Reads cs a t vs → Met cs p a k r → Met cs' p a k r
met_kept f (there h l x) at_once = at_once
met_kept f (there {n = m} h l x) (on_left {p = p} {r = r} {k = k} y) =
    let K = f m h in on_left {p = p} {r = r} {m = m} {k = k} (rw (K.digit, K.number, met_side y K.left) (met_kept f l y))
met_kept f (there {n = m} h l x) (on_right {p = p} {r = r} {k = k} y) =
    let K = f m h in on_right {p = p} {r = r} {m = m} {k = k} (rw (met_side y K.right) (met_kept f x y))
met_kept {cs = cs} {p = p} {r = r} {k = k} f (here {s = s}) x9 = elim x9 [ ]

-- The walk comes to its leaf by a side of a cell that was met, or meets none.
pub data Comes (cs : List Cell) (a : Side) (p : Str) (k : Spot) (s : ℕ) : Spot → Str → Type 0 where
  by_none : a ≡ slot s → Comes cs a p k s k p
  by_left : {m : ℕ} {r : Str} → Met cs p a m r → (at_cell cs m).left ≡ slot s → Comes cs a p k s (left m) (string_of (at_cell cs m) r)
  by_right : {m : ℕ} {r : Str} → Met cs p a m r → (at_cell cs m).right ≡ slot s → Comes cs a p k s (right m) r

comes_left : {cs : List Cell} {p r : Str} {m s : ℕ} {k sp : Spot} → Comes cs (at_cell cs m).left (string_of (at_cell cs m) p) (left m) s sp r → Comes cs (further m) p k s sp r
comes_left (by_none e) = by_left at_once e
comes_left (by_left x e) = by_left (on_left x) e
comes_left (by_right x e) = by_right (on_left x) e

comes_right : {cs : List Cell} {p r : Str} {m s : ℕ} {k sp : Spot} → Comes cs (at_cell cs m).right p (right m) s sp r → Comes cs (further m) p k s sp r
comes_right (by_none e) = by_right at_once e
comes_right (by_left x e) = by_left (on_right x) e
comes_right (by_right x e) = by_right (on_right x) e

pub walk_comes : {cs : List Cell} {a : Side} {t : Tree} {vs : List ℕ} (n p : Str) (k : Spot) (x : Reads cs a t vs)
    → Comes cs a p k (walk n p t) (spot n p k x) (path_at n p t)
walk_comes n p k here = by_none refl
walk_comes {cs} n p k (there {n = m} {L = L} {R = R} h l x) = go (le? n q) (walk_comes n q (left m) l) (walk_comes n p (right m) x)
  where
    q : Str
    q = string_of (at_cell cs m) p

    go : (d : Dec (n ⊑ q)) → Comes cs (at_cell cs m).left q (left m) (walk n q L) (spot n q (left m) l) (path_at n q L)
        → Comes cs (at_cell cs m).right p (right m) (walk n p R) (spot n p (right m) x) (path_at n p R)
        → Comes cs (further m) p k (elim d [ yes h ↦ walk n q L | no h ↦ walk n p R ]) (elim d [ yes h ↦ spot n q (left m) l | no h ↦ spot n p (right m) x ])
        (elim d [ yes h ↦ path_at n q L | no h ↦ path_at n p R ])
    go (yes h) f g = comes_left f
    go (no h) f g = comes_right g

-- Each cell that is met is turned by its own path.
module _ (f : Str → ℕ → ℕ) where
  pub turn_met : (fuel : ℕ) (t : Tree) {cs : List Cell} {a : Side} {vs : List ℕ} (p : Str) → Reads cs a t vs → ((m : ℕ) → occ m vs ≤ 1) → height t ≤ fuel
      → (k : ℕ) (r : Str) → Met cs p a k r → at_cell (turn_cells f fuel p a cs) k ≡ turn_cell f r (at_cell cs k)
  turn_met zero (leaf s) p here once g k r z = absurd (omega arith)
  turn_met zero (node d i L R) p (there h l x) once g k r z = absurd (omega arith)
  turn_met (suc fuel) (leaf s) p here once g k r z = elim z [ ]
  turn_met (suc fuel) (node d i L R) {cs} p (there {n = m} {vs = vs} {ws = ws} h l x) once g k r z =
      go (turn_met fuel L q l₁ (λ i. omega (arith, one i)) (omega arith)) (turn_met fuel R p r₂ (λ i. omega (arith, one i)) (omega arith)) k r z
    where
      c : Cell
      c = at_cell cs m

      q : Str
      q = string_of c p

      cs₁ : List Cell
      cs₁ = set cs m (turn_cell f p c)

      one : (i : ℕ) → cond (eqb i m) 1 0 + occ i vs + occ i ws ≤ 1
      one i = omega (arith, once i, occ_append i vs ws)

      self : ◌≡◌ {A = ℕ} (cond (eqb m m) 1 0) 1
      self = one_if_equal m m refl

      out : (occ m vs ≡ 0) × (occ m ws ≡ 0)
      out = omega (arith, one m, self)

      cs₂ : List Cell
      cs₂ = turn_cells f fuel q c.left cs₁

      cs₃ : List Cell
      cs₃ = turn_cells f fuel p c.right cs₂

      l₁ : Reads cs₁ c.left L vs
      l₁ = reads_set m (turn_cell f p c) out.0 l

      X : Turned f cs₁ cs₂ q c.left L vs
      X = turn_reads f fuel L q l₁ (λ i. omega (arith, one i)) (omega arith)

      r₂ : Reads cs₂ c.right R ws
      r₂ = reads_agree (omega (arith, X.size)) (λ i o. X.rest i (omega (arith, one i, o))) (reads_set m (turn_cell f p c) out.1 x)

      Y : Turned f cs₂ cs₃ p c.right R ws
      Y = turn_reads f fuel R p r₂ (λ i. omega (arith, one i)) (omega arith)

      other : (i : ℕ) → occ m (i ∷ []) ≡ 0 → at_cell cs₁ i ≡ at_cell cs i
      other i o = get_or-set_other cs m i (turn_cell f p c) zero_cell (λ e. omega (arith, o, one_if_equal m i (sym e)))

      apart : (i : ℕ) → 0 < occ i vs + occ i ws → occ m (i ∷ []) ≡ 0
      apart i o = elim (ℕ_discrete i m) [ yes e ↦ absurd (omega (arith, out, rw e at o)) | no n ↦ differ i n ]
        where
          differ : (i : ℕ) → (i ≡ m → ⊥) → occ m (i ∷ []) ≡ 0
          differ i n = rw (ne_eqb m i (λ e. n (sym e)))

      go : ((k : ℕ) (r : Str) → Met cs₁ q c.left k r → at_cell cs₂ k ≡ turn_cell f r (at_cell cs₁ k))
          → ((k : ℕ) (r : Str) → Met cs₂ p c.right k r → at_cell cs₃ k ≡ turn_cell f r (at_cell cs₂ k))
          → (k : ℕ) (r : Str) → Met cs p (further m) k r → at_cell cs₃ k ≡ turn_cell f r (at_cell cs k)
      go F G k r at_once = Y.rest m out.1 ∙ X.rest m out.0 ∙ get_or-set_same cs m (turn_cell f p c) zero_cell h
      go F G k r (on_left z) =
          let v : 0 < occ k vs = met_visited l z in
          let e : at_cell cs₁ k ≡ at_cell cs k = other k (apart k (omega arith)) in
          Y.rest k (omega (arith, v, one k)) ∙ F k r (met_agree (λ i o. other i (apart i (omega arith))) l z) ∙ ap (turn_cell f r) e
      go F G k r (on_right z) =
          let v : 0 < occ k ws = met_visited x z in
          let s : (i : ℕ) → 0 < occ i ws → at_cell cs₂ i ≡ at_cell cs i = λ i o. X.rest i (omega (arith, o, one i)) ∙ other i (apart i (omega arith)) in
          G k r (met_agree s x z) ∙ ap (turn_cell f r) (s k v)
