-- The walk over an image, step by step: what is known of the path is enough.
use Rattle.std.specs.Prelude.{Option as Maybe, Some, None}
use Rattle.model.proofs.Prelude.{List, Option, [], ◌+◌, ◌-◌, ◌<◌, ◌∙◌, ◌∷◌, ◌≡◌, ◌≤◌, arith, dec_le, get_or, le-leb, length, length-append, length-take-le, lt-leb, nothing, refl, some, subst, suc, sym, true, ℕ}
use Rattle.model.specs.declared.Cell.{Cell}
use Rattle.model.specs.declared.Side.{Side}
use Rattle.model.specs.declared.Side.TheVariants.{Cell as further, Slot as slot}
use Rattle.model.specs.declared.Trie.{Trie}
use Rattle.model.specs.Order.{Str, diff}
use Rattle.model.specs.Tests.{is_at_most}
use Rattle.model.specs.Tries.{Spot, at_cell, cell, left, right, root, walk_of, walk_run}
use Rattle.model.proofs.Order.{diff_le_right}
use Rattle.model.proofs.GrownTries.{root_further}
use Rattle.trie.specs.declared.Place.TheVariants.{Slot as at_slot, Stale as stale}
use Rattle.trie.specs.Walks.{place_reached}
use Rattle.trie.proofs.Laws.{run_count, run_last, run_left, run_none, run_number, run_right, run_slot}
use Rattle.image.specs.declared.place.Turn.{Turn}
use Rattle.image.specs.Courses.{After, Course, Steps}
use Rattle.image.specs.Images.{side_from}
use Rattle.image.proofs.Sharing.{before_digit, below_digit, goes_right, on_digit}

-- A number among the digits shared is not above the path's length.
pub within_same : {o : Option (Str × Spot × ℕ)} {cs : List Cell} {n : Str} {count more len same k m : ℕ} {a : Side} → Course o cs n count more a len same → k ≤ same → m ≡ k → m ≤ len
within_same {n = n} w h e = omega (arith, h, e, w.len_is, w.same_is, diff_le_right n w.path)

-- One step over a cell.
module _ (n : Str) (c : Cell) (len same : ℕ) (o : Option (Str × Spot × ℕ)) (cs : List Cell) (count more i : ℕ) (h : i < count) (f : at_cell cs i ≡ c)
    (w : Course o cs n count (suc more) (further i) len same) where
  abbrev p : Str
  p = w.path

  abbrev string : Str
  string = cell c.digit c.number p

  pub number_strays : len < c.number → o ≡ nothing
  number_strays l = w.ahead ∙ run_number count cs n p w.spot (suc more) i h (rw (w.len_is, f) l)

  pub last_strays : 23 < c.number → o ≡ nothing
  last_strays l = go (dec_le c.number len)
    where
      go : Dec (c.number ≤ len) → o ≡ nothing
      go (yes j) = w.ahead ∙ run_last count cs n p w.spot (suc more) i h (rw (w.len_is, f) j) (rw f l)
      go (no j) = number_strays (omega arith)

  module _ (b : c.number ≤ len) (s : c.number ≤ 23) (t : Turn) where
    fits : (at_cell cs i).number ≤ length p
    fits = rw (w.len_is, f) b

    last : (at_cell cs i).number ≤ 23
    last = rw f s

    string_length : length string ≡ c.number + 1
    string_length = rw (length-append, length-take-le c.number p (rw w.len_is b))

    leaves_left : {m : ℕ} → (is_at_most n string ≡ true) × (diff n string ≡ m) → t.len ≡ c.number + 1 → t.same ≡ m → side_from t.side ≡ c.left
        → Course o cs n count more (side_from t.side) t.len t.same
    leaves_left {m} g l e a =
        record {
          path = string;
          spot = left i;
          len_is = string_length ∙ sym l;
          within = g.0;
          same_is = g.1 ∙ sym e;
          ahead = rw (a, ← f) (w.ahead ∙ run_left count cs n p w.spot more i h fits last (rw f g.0));
        }

    -- The name differs from the path before the cell's digit.
    pub apart_goes : same < c.number → t.len ≡ c.number + 1 → t.same ≡ same → side_from t.side ≡ c.left → Course o cs n count more (side_from t.side) t.len t.same
    apart_goes k l e a =
        let g = before_digit c.number c.digit n p w.within (rw w.same_is k) (rw w.len_is b) in
        leaves_left (g.0, g.1 ∙ w.same_is) l e a

    module _ (full : length n ≡ 24) {own : ℕ} (q : own ≡ get_or n c.number 0) (k : c.number ≤ same) where
      shared : c.number ≤ diff n p
      shared = rw w.same_is k

      inside : c.number < length n
      inside = omega (arith, full, s)

      pub above_goes : c.digit < own → t.len ≡ len → t.same ≡ same → side_from t.side ≡ c.right → Course o cs n count more (side_from t.side) t.len t.same
      above_goes d l e a =
          let v = goes_right c.number c.digit n p shared inside (rw (← q) d) in
          record {
            path = p;
            spot = right i;
            len_is = w.len_is ∙ sym l;
            within = w.within;
            same_is = w.same_is ∙ sym e;
            ahead = rw (a, ← f) (w.ahead ∙ run_right count cs n p w.spot more i h fits last (rw f v));
          }

      pub below_goes : own < c.digit → t.len ≡ c.number + 1 → t.same ≡ c.number → side_from t.side ≡ c.left → Course o cs n count more (side_from t.side) t.len t.same
      below_goes d l e a = leaves_left (below_digit c.number c.digit n p shared inside (rw (← q) d)) l e a

      pub on_goes : own ≡ c.digit → t.len ≡ c.number + 1 → t.same ≡ c.number + 1 → side_from t.side ≡ c.left → Course o cs n count more (side_from t.side) t.len t.same
      on_goes d l e a = leaves_left (on_digit c.number c.digit n p shared inside (sym q ∙ d)) l e a

-- Where it ends.
module _ {o : Option (Str × Spot × ℕ)} {cs : List Cell} {n : Str} {count len same : ℕ} where
  pub course_slot : {more s : ℕ} (x : ℕ) → Course o cs n count more (side_from x) len same → slot s ≡ side_from x → at_slot s ≡ place_reached o
  course_slot {more} {s} x w e =
      let a : o ≡ some (w.path, w.spot, s) = rw (← e) at w.ahead ∙ run_slot count cs n w.path w.spot more s in
      rw a

  pub course_cell : {more : ℕ} {a b : Side} → a ≡ b → Course o cs n count more b len same → Course o cs n count more a len same
  course_cell {more} e w = subst (λ (x : Side). Course o cs n count more x len same) (sym e) w

  pub course_none : {more i : ℕ} → Course o cs n count more (further i) len same → more ≡ 0 → stale ≡ place_reached o
  course_none {more} {i} w e = let a : o ≡ nothing = w.ahead ∙ run_none count cs n w.path w.spot more i e in rw a

  pub course_past : {more i : ℕ} → Course o cs n count more (further i) len same → count ≤ i → stale ≡ place_reached o
  course_past {more} {i} w h = let a : o ≡ nothing = w.ahead ∙ run_count count cs n w.path w.spot more i h in rw a

pub course_stray : {o : Option (Str × Spot × ℕ)} → o ≡ nothing → stale ≡ place_reached o
course_stray a = rw a

-- A step over a cell that the walk is before.
module _ (r : Maybe Turn) {n : Str} {c : Cell} {o : Option (Str × Spot × ℕ)} {cs : List Cell} {count more i len same : ℕ} (S : Steps r n c len same) (k : 0 < more)
    (h : i < count) (f : at_cell cs i ≡ c) (w : Course o cs n count more (further i) len same) where
  after : After r o cs n count (more - 1)
  after =
      let e : more ≡ suc (more - 1) = omega arith in
      S o cs count (more - 1) i h f (subst (λ (x : ℕ). Course o cs n count x (further i) len same) e w)

  pub step_strays : r ≡ None → o ≡ nothing
  step_strays e = rw e at after

  pub step_on : {t : Turn} → r ≡ Some t → Course o cs n count (more - 1) (side_from t.side) t.len t.same
  step_on {t} e = rw e at after

-- Where it begins.
module _ (t : Trie) (n : Str) where
  pub too_many : {count : ℕ} → count ≡ t.count → 256 < count → stale ≡ place_reached (walk_of t n)
  unfolding walk_of
  too_many {count} e h = rw (← e, lt-leb count 256 h)

  pub no_cells : {count s : ℕ} → count ≡ t.count → count ≡ 0 → s ≡ t.first → at_slot s ≡ place_reached (walk_of t n)
  unfolding walk_of walk_run
  no_cells {count} {s} e z f = rw (← e, z, f)

  pub begins : {count : ℕ} → count ≡ t.count → count ≤ 256 → (count ≡ 0 → ⊥) → Course (walk_of t n) t.cells n count count (further 0) 0 0
  unfolding walk_of is_at_most
  begins {count} e h z =
      record { path = []; spot = root; len_is = refl; within = refl; same_is = empty n; ahead = rw (← e, le-leb count 256 h, root_further count t.first z) }
    where
      empty : (x : Str) → diff x [] ≡ 0
      empty [] = refl
      empty (a ∷ x) = refl
