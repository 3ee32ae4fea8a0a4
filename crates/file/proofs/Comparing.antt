-- Ranges compared as numbers are ranges in order.
use Rattle.model.proofs.Prelude.{Bool, List, ◌&&◌, ◌<◌, ◌||◌, ◌∙◌, ◌≡◌, ◌≤◌, ◌⊎◌, ap, arith, clash, eqb, eqb-false, eqb-true, false, get_or, inl, inr, le-leb, lt-ltb, ltb, ltb-false, ltb-true, not, not-true, refl, some, sym, true, ℕ}
use Rattle.model.specs.declared.Layout.{Layout}
use Rattle.model.specs.Order.{Low, Str, ◌≺◌, ◌⊑◌, ◌⊴◌, at, below, least, none}
use Rattle.model.specs.Tests.{is_above, is_at_most, is_legal_low}
use Rattle.model.specs.Names.{Bound, BoundLow, limit, unlimited}
use Rattle.model.specs.Entries.{Entry}
use Rattle.model.specs.Files.{IsUsed, Slot, Well, entries_of, head, lower_of, slot_at, upper_of, used}
use Rattle.model.specs.Format.{bytes_at_slot, read_slot}
use Rattle.model.proofs.Tests.{is_at_most_le, is_at_most_lt}
use Rattle.model.proofs.Names.{bound_is_legal_bound}
use Rattle.model.proofs.Files.{well_parts}
use Rattle.digits.specs.Keys.{continued, low_value, value}
use Rattle.digits.proofs.Keys.{bound_below, bound_is_at_most, bound_same, digits_under}
use Rattle.digits.proofs.Bounds.{low_above}
use Rattle.bucket.specs.Slots.{HighTold, LowTold}
use Rattle.bucket.proofs.Slots.{Reads, read_high, read_low, used_reads}
use Rattle.file.specs.Orders.{Known, Listed, Sorts, ahead, placed, stands}
use Rattle.file.proofs.Readings.{used_read}

-- Bounds.
module _ {p q : Str} (f : Bound p) (g : Bound q) where
  high_less : value (continued p) < value (continued q) → p ≺ q
  high_less h =
      let e : not (is_at_most q p) ≡ true =
      sym (bound_below p q (digits_under 0x20 p f.digits) (digits_under 0x20 q g.digits) f.fits g.fits) ∙ lt-ltb (value (continued p)) (value (continued q)) h in
      is_at_most_lt q p (not-true (is_at_most q p) e)

  pub high_same : value (continued p) ≡ value (continued q) → p ≡ q
  high_same e = bound_same p q (digits_under 0x20 p f.digits) (digits_under 0x20 q g.digits) f.fits g.fits e

  high_le : value (continued p) ≤ value (continued q) → p ⊑ q
  high_le h = is_at_most_le p q (sym (bound_is_at_most p q (digits_under 0x20 p f.digits) (digits_under 0x20 q g.digits) f.fits g.fits) ∙ le-leb (value (continued p)) (value (continued q)) h)

some_value : {u : Str} → Bound u → 0 < value (continued u)
unfolding low_value is_legal_low is_above
some_value {u} f = ltb-true 0 (value (continued u)) (low_above none u refl (bound_is_legal_bound f))

low_le : {l m : Low} → BoundLow l → BoundLow m → low_value l ≤ low_value m → l ⊴ m
unfolding low_value
low_le unlimited c h = least
low_le (limit f) unlimited h = absurd (omega (arith, some_value f))
low_le (limit f) (limit g) h = below (high_le f g h)

pub low_same : {l m : Low} → BoundLow l → BoundLow m → low_value l ≡ low_value m → l ≡ m
unfolding low_value
low_same unlimited unlimited h = refl
low_same unlimited (limit g) h = absurd (omega (arith, some_value g))
low_same (limit f) unlimited h = absurd (omega (arith, some_value f))
low_same (limit f) (limit g) h = ap at (high_same f g h)

-- A range that stands before another, and one that does not.
ahead_true : (h l p q : ℕ) → ahead h l p q ≡ true → (h < p) ⊎ ((h ≡ p) × (l < q))
unfolding ahead
ahead_true h l p q e = go (ltb h p) (eqb h p) (ltb l q) refl refl refl e
  where
    go : (a b c : Bool) → ltb h p ≡ a → eqb h p ≡ b → ltb l q ≡ c → (a || (b && c)) ≡ true → (h < p) ⊎ ((h ≡ p) × (l < q))
    go true b c x y z e = inl (ltb-true h p x)
    go false true true x y z e = inr (eqb-true h p y, ltb-true l q z)
    go false true false x y z e = clash cc
    go false false c x y z e = clash cc

ahead_false : (h l p q : ℕ) → ahead h l p q ≡ false → (p < h) ⊎ ((p ≡ h) × (q ≤ l))
unfolding ahead
ahead_false h l p q e = go (ltb h p) (eqb h p) (ltb l q) refl refl refl e
  where
    go : (a b c : Bool) → ltb h p ≡ a → eqb h p ≡ b → ltb l q ≡ c → (a || (b && c)) ≡ false → (p < h) ⊎ ((p ≡ h) × (q ≤ l))
    go true b c x y z e = clash cc
    go false true true x y z e = clash cc
    go false true false x y z e = inr (sym (eqb-true h p y), ltb-false l q z)
    go false false c x y z e = let g : h ≡ p → ⊥ = eqb-false h p y in let k : p ≤ h = ltb-false h p x in inl (omega arith)

module _ (b : ℕ) {l m : Low} {u v : Str} {es ns : List Entry} (w : Well b (used l u es)) (x : Well b (used m v ns)) where
  pub stands_sorts : stands (value (continued u)) (low_value l) (used m v ns) ≡ true → Sorts (used l u es) (used m v ns)
  unfolding stands
  stands_sorts e = elim (ahead_true (value (continued u)) (low_value l) (value (continued v)) (low_value m) e) [
    | inl h ↦ inl (high_less (well_parts b w).1 (well_parts b x).1 h)
    | inr h ↦ inr (high_same (well_parts b w).1 (well_parts b x).1 h.0, low_le (well_parts b w).0 (well_parts b x).0 (omega (arith, h.1)))
  ]

  pub not_stands_sorts : stands (value (continued u)) (low_value l) (used m v ns) ≡ false → Sorts (used m v ns) (used l u es)
  unfolding stands
  not_stands_sorts e = elim (ahead_false (value (continued u)) (low_value l) (value (continued v)) (low_value m) e) [
    | inl h ↦ inl (high_less (well_parts b x).1 (well_parts b w).1 h)
    | inr h ↦ inr (high_same (well_parts b x).1 (well_parts b w).1 h.0, low_le (well_parts b x).0 (well_parts b w).0 h.1)
  ]

-- The ends of a used slot's range.
module _ (y : Layout) (ys : List ℕ) (s : Slot) (k : IsUsed (head s)) (r : read_slot y ys ≡ some s) (w : Well y.b s) (v : ℕ) where
  slot_reads : Reads y ys (lower_of (head s)) (upper_of (head s)) (entries_of s)
  slot_reads = used_reads y ys s k (used_read y ys s k r) w

  pub slot_high : HighTold ys v → v ≡ value (continued (upper_of (head s)))
  slot_high f = read_high y ys v slot_reads f

  pub slot_low : LowTold ys v → v ≡ low_value (lower_of (head s))
  slot_low f = read_low y ys v slot_reads f

module _ {y : Layout} {xs : List ℕ} {fs : List Slot} (K : Known y xs fs) (B : ℕ) (ys : List ℕ) (e : ys ≡ bytes_at_slot y B xs) where
  known_read : IsUsed (head (slot_at fs B)) → read_slot y ys ≡ some (slot_at fs B)
  known_read k = ap (read_slot y) e ∙ K.read B k

  pub known_high : (v : ℕ) → IsUsed (head (slot_at fs B)) → HighTold ys v → v ≡ value (continued (upper_of (head (slot_at fs B))))
  known_high v k f = slot_high y ys (slot_at fs B) k (known_read k) (K.well B) v f

  pub known_low : (v : ℕ) → IsUsed (head (slot_at fs B)) → LowTold ys v → v ≡ low_value (lower_of (head (slot_at fs B)))
  known_low v k f = slot_low y ys (slot_at fs B) k (known_read k) (K.well B) v f

pub stands_by : (r : Bool) (h l p q : ℕ) (s : Slot) → r ≡ ahead h l p q → p ≡ value (continued (upper_of (head s))) → q ≡ low_value (lower_of (head s)) → r ≡ stands h l s
unfolding stands
stands_by r h l p q s e f g = rw (← f, ← g) e

module _ {y : Layout} {xs : List ℕ} {fs : List Slot} (K : Known y xs fs) (order : List ℕ) (count : ℕ) (L : Listed fs order count)
    (j : ℕ) (i : j < count) (k : ℕ) (e : k ≡ get_or order j 0) (ys : List ℕ) (f : ys ≡ bytes_at_slot y k xs) where
  -- What the slot at a place of the order reads as, and the ends of its range.
  pub place_read : read_slot y ys ≡ some (placed fs order j)
  place_read = known_read K (get_or order j 0) ys (f ∙ ap (λ B. bytes_at_slot y B xs) e) (L j i)

  pub place_high : (v : ℕ) → HighTold ys v → v ≡ value (continued (upper_of (head (placed fs order j))))
  place_high v g = known_high K (get_or order j 0) ys (f ∙ ap (λ B. bytes_at_slot y B xs) e) v (L j i) g

  pub place_low : (v : ℕ) → LowTold ys v → v ≡ low_value (lower_of (head (placed fs order j)))
  place_low v g = known_low K (get_or order j 0) ys (f ∙ ap (λ B. bytes_at_slot y B xs) e) v (L j i) g

-- What the code's comparisons say together.
module _ (h l p q : ℕ) where
  pub ahead_first : (r : Bool) → r ≡ ltb h p → r ≡ true → true ≡ ahead h l p q
  unfolding ahead
  ahead_first r e f = rw (sym e ∙ f)

  pub ahead_not : (r s : Bool) → r ≡ ltb h p → r ≡ false → s ≡ eqb h p → s ≡ false → false ≡ ahead h l p q
  unfolding ahead
  ahead_not r s e f g i = rw (sym e ∙ f, sym g ∙ i)

  pub ahead_last : (r s t : Bool) → r ≡ ltb h p → r ≡ false → s ≡ eqb h p → s ≡ true → t ≡ ltb l q → t ≡ ahead h l p q
  unfolding ahead
  ahead_last r s t e f g i k = rw (sym e ∙ f, sym g ∙ i) k
