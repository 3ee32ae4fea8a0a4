-- The walk of a lookup strays where R11.4 to R11.7 say that it does, and arrives elsewhere.
use Rattle.model.proofs.Prelude.{Bool, Option, ◌&&◌, ◌<◌, ◌∙◌, ◌≡◌, ◌≤◌, arith, cond, dec_le, dec_lt, false, le-leb, le-ltb, leb, leb-true, length, lt-ltb, ltb, ltb-true, nothing, refl, some, suc, sym, true, zero, ℕ}
use Rattle.model.specs.declared.Cell.{Cell}
use Rattle.model.specs.declared.Side.{Side}
use Rattle.model.specs.declared.Side.TheVariants.{Cell as further, Slot as slot}
use Rattle.model.specs.declared.Trie.{Trie}
use Rattle.model.specs.Order.{Str}
use Rattle.model.specs.Tests.{is_at_most}
use Rattle.model.specs.Names.{within}
use Rattle.model.specs.Tries.{Spot, at_cell, cell, left, right, walk_run}
use Rattle.model.specs.Calls.{landed}
use Rattle.model.proofs.Tests.{both_true, never_both}
use Rattle.model.proofs.Names.{within_is_at_most}
use Rattle.model.proofs.Tries.{cell_length}
use Rattle.promises.specs.Demand1.{Arrives, Strays}
use Rattle.promises.specs.Demand1 as D

module _ (slots : ℕ) (t : Trie) (n : Str) (whole : length n ≡ 24) where
  abbrev the_cell : ℕ → Cell
  the_cell m = at_cell t.cells m

  abbrev string : ℕ → Str → Str
  string m p = cell (the_cell m).digit (the_cell m).number p

  -- The three tests of a cell.
  abbrev test : ℕ → Str → Bool
  test m p = ltb m t.count && leb (the_cell m).number (length p) && leb (the_cell m).number 23

  tested : (m : ℕ) (p : Str) → test m p ≡ true → (m < t.count) × ((the_cell m).number ≤ length p) × ((the_cell m).number ≤ 23)
  tested m p e =
      let x = both_true (ltb m t.count && leb (the_cell m).number (length p)) (leb (the_cell m).number 23) e in
      let y = both_true (ltb m t.count) (leb (the_cell m).number (length p)) x.0 in
      (ltb-true m t.count y.0, leb-true (the_cell m).number (length p) y.1, leb-true (the_cell m).number 23 x.1)

  -- A cell's string has at most 24 digits, so a name is within it exactly where it is not above it.
  not_above : (m : ℕ) (p : Str) (b : Bool) → (the_cell m).number ≤ length p → (the_cell m).number ≤ 23 → within n (string m p) ≡ b → is_at_most n (string m p) ≡ b
  not_above m p b i j e = sym (within_is_at_most n (string m p) (omega (arith, whole, j, cell_length (the_cell m).digit (the_cell m).number p i))) ∙ e

  abbrev pub walked : ℕ → Str → Spot → Side → Option ℕ
  walked f p k a = landed slots (walk_run f t.count t.cells n p k a)

  -- Arriving,
  pub arrives_walked : {f k : ℕ} {p : Str} {a : Side} → Arrives slots t n f p a k → (by : Spot) → walked f p by a ≡ some k
  unfolding walk_run
  arrives_walked (D.here {f = zero} {s = s} h) by = rw (lt-ltb s slots h)
  arrives_walked (D.here {f = suc f} {s = s} h) by = rw (lt-ltb s slots h)
  arrives_walked (Arrives.left_of {m = m} {p = p} h i j w r) by =
      rw (lt-ltb m t.count h, le-leb (the_cell m).number (length p) i, le-leb (the_cell m).number 23 j, not_above m p true i j w) (arrives_walked r (left m))
  arrives_walked (Arrives.right_of {m = m} {p = p} h i j w r) by =
      rw (lt-ltb m t.count h, le-leb (the_cell m).number (length p) i, le-leb (the_cell m).number 23 j, not_above m p false i j w) (arrives_walked r (right m))

  -- straying,
  untested : (f m : ℕ) (p : Str) (by : Spot) → ((m < t.count) × ((the_cell m).number ≤ length p) × ((the_cell m).number ≤ 23) → ⊥) → walked f p by (further m) ≡ nothing
  unfolding walk_run
  untested zero m p by never = refl
  untested (suc f) m p by never = go (test m p) refl _
    where
      go : (c : Bool) → test m p ≡ c → (w : Option (Str × Spot × ℕ)) → landed slots (cond c w nothing) ≡ nothing
      go true e w = absurd (never (tested m p e))
      go false e w = refl

  tried : (m : ℕ) (p : Str) (b : Bool) → within n (string m p) ≡ b → (l r : Option (Str × Spot × ℕ)) → landed slots (cond b l r) ≡ nothing
      → landed slots (cond (test m p) (cond (is_at_most n (string m p)) l r) nothing) ≡ nothing
  tried m p b w l r e = go (test m p) refl
    where
      go : (c : Bool) → test m p ≡ c → landed slots (cond c (cond (is_at_most n (string m p)) l r) nothing) ≡ nothing
      go true x = let g = tested m p x in rw (not_above m p b g.1 g.2 w) e
      go false x = refl

  pub strays_walked : {f : ℕ} {p : Str} {a : Side} → Strays slots t n f p a → (by : Spot) → walked f p by a ≡ nothing
  unfolding walk_run
  strays_walked (D.no_cell {f = f} {m = m} {p = p} h) by = untested f m p by (λ g. absurd (omega (arith, g.0, h)))
  strays_walked D.more_cells by = refl
  strays_walked (D.past_path {f = f} {m = m} {p = p} h) by = untested f m p by (λ g. absurd (omega (arith, g.1, h)))
  strays_walked (D.past_23 {f = f} {m = m} {p = p} h) by = untested f m p by (λ g. absurd (omega (arith, g.2, h)))
  strays_walked (D.no_slot {f = zero} {s = s} h) by = rw (le-ltb s slots h)
  strays_walked (D.no_slot {f = suc f} {s = s} h) by = rw (le-ltb s slots h)
  strays_walked (Strays.left_of {m = m} {p = p} w r) by = tried m p true w _ _ (strays_walked r (left m))
  strays_walked (Strays.right_of {m = m} {p = p} w r) by = tried m p false w _ _ (strays_walked r (right m))

  -- and one of the two.
  abbrev pub Walked : ℕ → Str → Side → Option ℕ → Type 0
  Walked f p a nothing = Strays slots t n f p a
  Walked f p a (some k) = Arrives slots t n f p a k

  by_slot : (f s : ℕ) (p : Str) → Walked f p (slot s) (cond (ltb s slots) (some s) nothing)
  by_slot f s p = elim (dec_lt s slots) [
    | yes h ↦ rw (lt-ltb s slots h) (D.here h)
    | no h ↦ let k : slots ≤ s = omega arith in rw (le-ltb s slots k) (D.no_slot k)
  ]

  pub walked_right : (f : ℕ) (p : Str) (by : Spot) (a : Side) → Walked f p a (walked f p by a)
  unfolding walk_run
  walked_right zero p by (slot s) = by_slot zero s p
  walked_right zero p by (further m) = D.more_cells
  walked_right (suc f) p by (slot s) = by_slot (suc f) s p
  walked_right (suc f) p by (further m) =
      go (test m p) (within n (string m p)) refl refl (walk_run f t.count t.cells n (string m p) (left m) (the_cell m).left) (walk_run f t.count t.cells n p (right m) (the_cell m).right)
      (walked_right f (string m p) (left m) (the_cell m).left) (walked_right f p (right m) (the_cell m).right)
    where
      lost : Dec (m < t.count) → Dec ((the_cell m).number ≤ length p) → Dec ((the_cell m).number ≤ 23) → test m p ≡ false → Strays slots t n (suc f) p (further m)
      lost (no h) j k e = D.no_cell {m = m} (omega arith)
      lost (yes h) (no j) k e = D.past_path {m = m} {p = p} (omega arith)
      lost (yes h) (yes j) (no k) e = D.past_23 {m = m} (omega arith)
      lost (yes h) (yes j) (yes k) e =
          let one : test m p ≡ true = rw (lt-ltb m t.count h, le-leb (the_cell m).number (length p) j, le-leb (the_cell m).number 23 k) in
          absurd (never_both (test m p) one e)

      to_left : test m p ≡ true → within n (string m p) ≡ true → (o : Option ℕ) → Walked f (string m p) (the_cell m).left o → Walked (suc f) p (further m) o
      to_left e d nothing x = Strays.left_of d x
      to_left e d (some k) x = let g = tested m p e in Arrives.left_of g.0 g.1 g.2 d x

      to_right : test m p ≡ true → within n (string m p) ≡ false → (o : Option ℕ) → Walked f p (the_cell m).right o → Walked (suc f) p (further m) o
      to_right e d nothing x = Strays.right_of d x
      to_right e d (some k) x = let g = tested m p e in Arrives.right_of g.0 g.1 g.2 d x

      go : (c w : Bool) → test m p ≡ c → within n (string m p) ≡ w → (l r : Option (Str × Spot × ℕ)) → Walked f (string m p) (the_cell m).left (landed slots l)
          → Walked f p (the_cell m).right (landed slots r) → Walked (suc f) p (further m) (landed slots (cond c (cond (is_at_most n (string m p)) l r) nothing))
      go true true e d l r x y = let g = tested m p e in rw (not_above m p true g.1 g.2 d) (to_left e d (landed slots l) x)
      go true false e d l r x y = let g = tested m p e in rw (not_above m p false g.1 g.2 d) (to_right e d (landed slots r) y)
      go false w e d l r x y =
          lost (dec_lt m t.count) (dec_le (the_cell m).number (length p)) (dec_le (the_cell m).number 23) e
