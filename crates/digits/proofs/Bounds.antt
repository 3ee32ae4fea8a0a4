-- Limits and names as numbers, in the order of the model.
use Rattle.model.proofs.Prelude.{List, [], ◌<◌, ◌∙◌, ◌∷◌, ◌≡◌, ap, arith, clash, false, get_or, le-ltb, leb, length, lt-ltb, ltb, not, refl, suc, sym, take, take_all, true, zero, ℕ}
use Rattle.model.specs.Format.{digits_of_low, low_of}
use Rattle.model.specs.Names.{Digits, Legal}
use Rattle.model.specs.Order.{Low, Str, ◌◁◌, at, none}
use Rattle.model.specs.Tests.{are_digits, is_above, is_at_most, is_legal_bound, is_legal_filled, is_legal_low}
use Rattle.model.proofs.Tests.{above_is_above, is_above_above}
use Rattle.model.proofs.Names.{bound_is_legal_bound, is_legal_bound_bound, is_legal_filled_legal, legal_bound, legal_is_legal_filled, legal_length}
use Rattle.digits.proofs.Keys.{Under, bound_below, continued_whole, digits_under, name_is_at_most, under_bytes, value_same, value_some}
use Rattle.digits.specs.Keys.{continued, low_value, value}

-- A lower limit as it is read.
pub low_none : (k : ℕ) (xs : List ℕ) → k ≡ 0 → low_value (low_of (take k xs)) ≡ 0
unfolding low_of low_value
low_none k xs e = rw e

pub low_some : (k : ℕ) (xs : List ℕ) → 0 < k → 0 < length xs → low_value (low_of (take k xs)) ≡ value (continued (take k xs))
unfolding low_of low_value
low_some zero xs h g = absurd (omega arith)
low_some (suc k) [] h g = absurd (omega arith)
low_some (suc k) (x ∷ xs) h g = refl

-- Limits and names as numbers.
pub under_bound : (x : Str) → is_legal_bound x ≡ true → Under x
under_bound x e = digits_under 0x20 x (is_legal_bound_bound x e).digits

pub low_above : (l : Low) (u : Str) → is_legal_low l ≡ true → is_legal_bound u ≡ true → ltb (low_value l) (value (continued u)) ≡ is_above l u
unfolding low_value is_above is_legal_low continued
low_above none u g h = lt-ltb 0 (value (continued u)) (value_some (continued u) (some_first u (is_legal_bound_bound u h).digits))
  where
    some_first : (u : Str) → Digits 0x20 u → 0 < get_or (continued u) 0 0
    some_first [] d = omega arith
    some_first (x ∷ u) d = omega (arith, d.0)
low_above (at x) u g h =
    bound_below x u (under_bound x g) (under_bound u h) (is_legal_bound_bound x g).fits (is_legal_bound_bound u h).fits

pub name_legal : (n : Str) → is_legal_filled n ≡ true → is_legal_bound n ≡ true
name_legal n e =
    let g = is_legal_filled_legal n e in
    let t : take 24 n ≡ n = take_all 24 n (omega (arith, legal_length g)) in
    sym (ap is_legal_bound t) ∙ bound_is_legal_bound (legal_bound g 24)

pub name_value : (n : Str) → is_legal_filled n ≡ true → value (continued n) ≡ value n
name_value n e = ap value (continued_whole n (legal_length (is_legal_filled_legal n e)))

pub name_low : (l : Low) (n : Str) → is_legal_low l ≡ true → is_legal_filled n ≡ true → ltb (low_value l) (value n) ≡ is_above l n
name_low l n g e = ap (ltb (low_value l)) (sym (name_value n e)) ∙ low_above l n g (name_legal n e)

pub name_high : (n u : Str) → is_legal_filled n ≡ true → is_legal_bound u ≡ true → leb (value n) (value (continued u)) ≡ is_at_most n u
name_high n u e h = name_is_at_most n u (under_bound n (name_legal n e)) (under_bound u h) (legal_length (is_legal_filled_legal n e)) (is_legal_bound_bound u h).fits

-- A slot that was written, and is well formed, passes.
pub low_legal : (l : Low) → is_legal_low l ≡ true → is_legal_bound (digits_of_low l) ≡ true
unfolding is_legal_low digits_of_low is_legal_bound are_digits
low_legal none e = refl
low_legal (at x) e = e

-- A name is above a bound where its number is above that of the bound continued.
pub name_over : (p n : Str) → is_legal_bound p ≡ true → Legal n → ltb (value (continued p)) (value n) ≡ not (is_at_most n p)
unfolding low_value is_above is_legal_low
name_over p n h g = name_low (at p) n h (legal_is_legal_filled g)

-- The lower limits of two slots, compared as numbers.
pub lower_some : (l k : Low) → is_legal_low l ≡ true → is_legal_low k ≡ true → ltb (low_value l) (low_value k) ≡ true → (low : Str) × (k ≡ at low) × (l ◁ low)
unfolding low_value is_legal_low
lower_some l none g h t = let z : false ≡ true = sym (le-ltb (low_value l) 0 (omega arith)) ∙ t in clash cc
lower_some l (at x) g h t = (x, refl, is_above_above l x (sym (low_above l x g h) ∙ t))

pub lower_below : (l k : Low) (low : Str) → is_legal_low l ≡ true → is_legal_low k ≡ true → k ≡ at low → l ◁ low → ltb (low_value l) (low_value k) ≡ true
unfolding low_value is_legal_low
lower_below l none low g h e a = clash cc
lower_below l (at x) low g h e a = let i : x ≡ low = cc in low_above l x g h ∙ above_is_above (rw i a)

-- Two names as numbers.
module _ (m n : Str) (f : Legal m) (g : Legal n) where
  pub names_over : ltb (value m) (value n) ≡ not (is_at_most n m)
  names_over =
      ap (λ (k : ℕ). ltb k (value n)) (sym (name_value m (legal_is_legal_filled f))) ∙ name_over m n (name_legal m (legal_is_legal_filled f)) g

  pub names_same : value m ≡ value n → m ≡ n
  names_same e =
      value_same m n (under_bytes m (under_bound m (name_legal m (legal_is_legal_filled f)))) (under_bytes n (under_bound n (name_legal n (legal_is_legal_filled g))))
      (legal_length f ∙ sym (legal_length g)) e
