-- The walk cell by cell: the definition, the code's walk of it, and where it arrives.
use Rattle.model.proofs.Prelude.{List, Option, ◌+◌, ◌-◌, ◌<◌, ◌∙◌, ◌≡◌, ◌≤◌, ◌⊎◌, add-one, ap, arith, cond, dec_le, eq-eqb, eqb, false, inl, inr, le-leb, le-ltb, leb, length, length-set, length-take-le, lt-leb, lt-ltb, ne_eqb, nothing, refl, set, some, subst, suc, sym, take, take-suc-set, take-take, true, zero, ℕ, ℕ_discrete}
use Rattle.model.specs.declared.Cell.{Cell}
use Rattle.model.specs.declared.Side.{Side}
use Rattle.model.specs.declared.Side.TheVariants.{Cell as further, Slot as slot}
use Rattle.model.specs.declared.Trie.{Trie}
use Rattle.model.specs.Order.{Str}
use Rattle.model.specs.Tests.{is_at_most}
use Rattle.model.specs.Tries.{Spot, at_cell, cell, left, right, root, root_side, walk_of, walk_run}
use Rattle.model.proofs.GrownTries.{root_further}
use Rattle.trie.specs.declared.Walk.{Walk}
use Rattle.trie.specs.declared.Hand.TheVariants.{Left, Right}
use Rattle.trie.specs.declared.Place.{Place}
use Rattle.trie.specs.declared.Place.TheVariants.{Cell as before_cell, Slot as at_slot, Stale as stale}
use Rattle.trie.specs.Walks.{Ahead, Strayed, Underway, Walks, place_ahead}

module _ (count : ℕ) (cs : List Cell) (n p : Str) (k : Spot) where
  pub run_slot : (f s : ℕ) → walk_run f count cs n p k (slot s) ≡ some (p, k, s)
  unfolding walk_run
  run_slot zero s = refl
  run_slot (suc f) s = refl

  pub run_none : (f m : ℕ) → f ≡ 0 → walk_run f count cs n p k (further m) ≡ nothing
  unfolding walk_run
  run_none f m e = rw e

  pub run_count : (f m : ℕ) → count ≤ m → walk_run f count cs n p k (further m) ≡ nothing
  unfolding walk_run
  run_count zero m h = refl
  run_count (suc f) m h = rw (le-ltb m count h)

  pub run_number : (f m : ℕ) → m < count → length p < (at_cell cs m).number → walk_run f count cs n p k (further m) ≡ nothing
  unfolding walk_run
  run_number zero m h j = refl
  run_number (suc f) m h j = rw (lt-ltb m count h, lt-leb _ _ j)

  pub run_last : (f m : ℕ) → m < count → (at_cell cs m).number ≤ length p → 23 < (at_cell cs m).number → walk_run f count cs n p k (further m) ≡ nothing
  unfolding walk_run
  run_last zero m h j l = refl
  run_last (suc f) m h j l = rw (lt-ltb m count h, le-leb _ _ j, lt-leb _ _ l)

  -- A cell that is not refused is passed, to the one side or the other.
  module _ (f m : ℕ) (h : m < count) (j : (at_cell cs m).number ≤ length p) (l : (at_cell cs m).number ≤ 23) where
    pub run_left : is_at_most n (cell (at_cell cs m).digit (at_cell cs m).number p) ≡ true
        → walk_run (suc f) count cs n p k (further m) ≡ walk_run f count cs n (cell (at_cell cs m).digit (at_cell cs m).number p) (left m) (at_cell cs m).left
    unfolding walk_run
    run_left e = rw (lt-ltb m count h, le-leb _ _ j, le-leb _ _ l, e)

    pub run_right : is_at_most n (cell (at_cell cs m).digit (at_cell cs m).number p) ≡ false
        → walk_run (suc f) count cs n p k (further m) ≡ walk_run f count cs n p (right m) (at_cell cs m).right
    unfolding walk_run
    run_right e = rw (lt-ltb m count h, le-leb _ _ j, le-leb _ _ l, e)

-- A walk goes on from the place that a side leads to.
onward : {o : Option (Str × Spot × ℕ)} (cs : List Cell) (n : Str) (w : Walk) (k : Spot) (a : Side) → w.count ≤ 256
    → o ≡ walk_run w.more w.count cs n (take w.len w.path) k a → Ahead (place_ahead a w.count w.more) o cs n w k
unfolding place_ahead
onward {o} cs n w k (slot s) h e = e ∙ run_slot w.count cs n (take w.len w.path) k w.more s
onward {o} cs n w k (further i) h e = go (ℕ_discrete w.more 0) (dec_le w.count i)
  where
    p : Str
    p = take w.len w.path

    go : Dec (w.more ≡ 0) → Dec (w.count ≤ i) → Ahead (cond (eqb w.more 0) stale (cond (leb w.count i) stale (before_cell i))) o cs n w k
    go (yes z) d = rw (eq-eqb w.more 0 z) (e ∙ run_none w.count cs n p k w.more i z)
    go (no z) (yes l) = rw (ne_eqb w.more 0 z, le-leb w.count i l) (e ∙ run_count w.count cs n p k w.more i l)
    go (no z) (no l) = rw (ne_eqb w.more 0 z, lt-leb w.count i (omega arith)) (omega arith, omega arith, h, e)

-- The places, side by side.
module _ {a : Side} (count more : ℕ) where
  pub place_slot : {s : ℕ} → a ≡ slot s → at_slot s ≡ place_ahead a count more
  unfolding place_ahead
  place_slot e = rw e

  pub place_none : {i : ℕ} → a ≡ further i → more ≡ 0 → stale ≡ place_ahead a count more
  unfolding place_ahead
  place_none e z = rw (e, eq-eqb more 0 z)

  pub place_past : {i : ℕ} → a ≡ further i → (more ≡ 0 → ⊥) → count ≤ i → stale ≡ place_ahead a count more
  unfolding place_ahead
  place_past {i} e z h = rw (e, ne_eqb more 0 z, le-leb count i h)

  pub place_cell : {i : ℕ} → a ≡ further i → (more ≡ 0 → ⊥) → i < count → before_cell i ≡ place_ahead a count more
  unfolding place_ahead
  place_cell {i} e z h = rw (e, ne_eqb more 0 z, lt-leb count i h)

-- The walk begins at the root, with the empty path.
pub root_begins : (count first : ℕ) → count ≤ 256 → (count ≡ 0 → ⊥) → before_cell 0 ≡ cond (leb count 256) (place_ahead (root_side count first) count count) stale
root_begins count first h z = rw (le-leb count 256 h) (place_cell count count (sym (root_further count first z)) z (omega (arith, z)))

module _ (t : Trie) (n : Str) (w : Walk) (count_is : t.count ≡ w.count) where
  first_run : w.count ≤ 256 → w.len ≡ 0 → w.more ≡ w.count
      → walk_of t n ≡ walk_run w.more w.count t.cells n (take w.len w.path) root (root_side w.count t.first)
  unfolding walk_of
  first_run h z m = rw (count_is, le-leb w.count 256 h, m, z)

  too_many : 256 < w.count → walk_of t n ≡ nothing
  unfolding walk_of
  too_many h = rw (count_is, lt-leb w.count 256 h)

  pub begins : w.len ≡ 0 → length w.path ≡ 24 → w.more ≡ w.count
      → w.place ≡ cond (leb w.count 256) (place_ahead (root_side w.count t.first) w.count w.more) stale → Underway (walk_of t n) t.cells n w
  begins z full m at = record { short = omega arith; full = full; spot = root; by = tt; ahead = subst (λ (x : Place). Ahead x (walk_of t n) t.cells n w root) (sym at) (go (dec_le w.count 256)) }
    where
      a : Side
      a = root_side w.count t.first

      go : Dec (w.count ≤ 256) → Ahead (cond (leb w.count 256) (place_ahead a w.count w.more) stale) (walk_of t n) t.cells n w root
      go (yes h) = rw (le-leb w.count 256 h) (onward {o = walk_of t n} t.cells n w root a h (first_run h z m))
      go (no h) = rw (lt-leb w.count 256 (omega arith)) (too_many (omega arith))

-- A walk that strayed will end as nothing.
pub strays : {o : Option (Str × Spot × ℕ)} (cs : List Cell) (n : Str) {r : Walk} → Strayed r → o ≡ nothing → Underway o cs n r
strays cs n {r} S e = record { short = omega (arith, S.len); full = S.full; spot = root; by = tt; ahead = rw S.place e }

-- One step, over a cell that the walk stands before.
module _ (n : Str) (w : Walk) (i : ℕ) (c : Cell) (o : Option (Str × Spot × ℕ)) (cs : List Cell) (e : w.place ≡ before_cell i) (f : at_cell cs i ≡ c)
    (u : Underway o cs n w) where
  abbrev p : Str
  p = take w.len w.path

  path_length : length p ≡ w.len
  path_length = length-take-le w.len w.path (omega (arith, u.short, u.full))

  here : Ahead (before_cell i) o cs n w u.spot
  here = rw e at u.ahead

  pub number_strays : w.len < c.number → o ≡ nothing
  number_strays h = here.3 ∙ run_number w.count cs n p u.spot w.more i here.1 (rw (path_length, f) h)

  pub last_strays : c.number ≤ w.len → 23 < c.number → o ≡ nothing
  last_strays h l = here.3 ∙ run_last w.count cs n p u.spot w.more i here.1 (rw (path_length, f) h) (rw f l)

  -- The code writes the cell's digit into the path, and has the cell's string.
  module _ {k : ℕ} (number_is : k ≡ c.number) (b : k ≤ w.len) (s : k ≤ 23) where
    abbrev string : Str
    string = cell (at_cell cs i).digit (at_cell cs i).number p

    string_is : take (k + 1) (set w.path k c.digit) ≡ string
    string_is = rw (add-one, take-suc-set w.path k c.digit (omega (arith, u.full)), ← take-take k w.len w.path b, number_is, f)

    fuel : w.more ≡ suc (w.more - 1)
    fuel = omega (arith, here.0)

    run_is : o ≡ walk_run (suc (w.more - 1)) w.count cs n p u.spot (further i)
    run_is = here.3 ∙ ap (λ (x : ℕ). walk_run x w.count cs n p u.spot (further i)) fuel

    fits : (at_cell cs i).number ≤ length p
    fits = rw (path_length, f, ← number_is) b

    last : (at_cell cs i).number ≤ 23
    last = rw (f, ← number_is) s

    pub goes_left : {a : Place} → is_at_most n (take (k + 1) (set w.path k c.digit)) ≡ true → a ≡ place_ahead c.left w.count (w.more - 1)
        → Underway o cs n (record { path = set w.path k c.digit; len = k + 1; place = a; cell = i; hand = Left; count = w.count; more = w.more - 1 })
    goes_left {a} g at =
        record {
          short = omega arith;
          full = simp length-set u.full;
          spot = left i;
          by = (refl, refl);
          ahead = subst (λ (x : Place). Ahead x o cs n r (left i)) (sym at) (onward cs n r (left i) c.left here.2 rest);
        }
      where
        r : Walk
        r = record { path = set w.path k c.digit; len = k + 1; place = a; cell = i; hand = Left; count = w.count; more = w.more - 1 }

        v : is_at_most n string ≡ true
        v = rw string_is at g

        rest : o ≡ walk_run (w.more - 1) w.count cs n (take (k + 1) (set w.path k c.digit)) (left i) c.left
        rest = rw (string_is, ← f) (run_is ∙ run_left w.count cs n p u.spot (w.more - 1) i here.1 fits last v)

    pub goes_right : {a : Place} → is_at_most n (take (k + 1) (set w.path k c.digit)) ≡ false → a ≡ place_ahead c.right w.count (w.more - 1)
        → Underway o cs n (record { path = w.path; len = w.len; place = a; cell = i; hand = Right; count = w.count; more = w.more - 1 })
    goes_right {a} g at =
        record {
          short = u.short;
          full = u.full;
          spot = right i;
          by = (refl, refl);
          ahead = subst (λ (x : Place). Ahead x o cs n r (right i)) (sym at) (onward cs n r (right i) c.right here.2 rest);
        }
      where
        r : Walk
        r = record { path = w.path; len = w.len; place = a; cell = i; hand = Right; count = w.count; more = w.more - 1 }

        v : is_at_most n string ≡ false
        v = rw string_is at g

        rest : o ≡ walk_run (w.more - 1) w.count cs n p (right i) c.right
        rest = rw (← f) (run_is ∙ run_right w.count cs n p u.spot (w.more - 1) i here.1 fits last v)

-- The first of a place's cases is neither of the others.
pub no_cell : ◌≡◌ {A = ℕ} 0 1 ⊎ ◌≡◌ {A = ℕ} 0 2 → ⊥
no_cell (inl e) = absurd (omega arith)
no_cell (inr e) = absurd (omega arith)

-- A walk that stands before no cell has ended.
module _ {o : Option (Str × Spot × ℕ)} {cs : List Cell} {n : Str} {w : Walk} (u : Underway o cs n w) where
  pub ends : ((i : ℕ) → w.place ≡ before_cell i → ⊥) → (w.len ≤ 24) × Walks w o
  ends apart = (u.short, go w.place refl u.ahead)
    where
      go : (a : Place) → w.place ≡ a → Ahead a o cs n w u.spot → Walks w o
      go (before_cell i) e h = absurd (apart i e)
      go (at_slot s) e h = subst (λ (x : Option (Str × Spot × ℕ)). Walks w x) (sym h)
          (record { len = sym (length-take-le w.len w.path (omega (arith, u.short, u.full))); path = refl; by = u.by; place = e })
      go stale e h = subst (λ (x : Option (Str × Spot × ℕ)). Walks w x) (sym h) e

  pub before : {i : ℕ} → w.place ≡ before_cell i → (0 < w.more) × (i < 256)
  before e = let h = rw e at u.ahead in (h.0, omega (arith, h.1, h.2))
