-- Bounds in their 24 bytes, and zeros.
use Rattle.model.proofs.Prelude.{List, [], ◌&&◌, ◌++◌, ◌+◌, ◌-◌, ◌∙◌, ◌∷◌, ◌≡◌, ◌≤◌, ap, ap₂, arith, drop, drop_at, drop-drop, eqb, eqb-true, get_or, le-leb, leb, leb-true, length, length-drop, length-take-le, refl, replicate, suc, sym, take, take-append-drop, take_at, take-take, true, zero, ℕ}
use Rattle.model.specs.Format.{digits_of_low, low_of, padded}
use Rattle.model.specs.Order.{Str}
use Rattle.model.specs.Tests.{is_legal_bound}
use Rattle.model.proofs.Tests.{both_true}
use Rattle.model.proofs.Format.{padded_short}
use Rattle.model.proofs.Lists.{drop-take}
use Rattle.model.proofs.Names.{is_legal_bound_bound}
use Rattle.digits.specs.Keys.{is_all_zero}
use Rattle.bucket.specs.Slots.{is_a_bound}

-- A bound in its 24 bytes.
pub record Bounded (len : ℕ) (s : List ℕ) : Type 0 where
  pub short : len ≤ 24
  pub legal : is_legal_bound (take len s) ≡ true
  pub zeros : is_all_zero (drop len s) ≡ true

pub bounded : (len : ℕ) (s : List ℕ) → is_a_bound len s ≡ true → Bounded len s
unfolding is_a_bound
bounded len s e =
    let p = both_true (leb len 24 && is_legal_bound (take len s)) (is_all_zero (drop len s)) e in
    let q = both_true (leb len 24) (is_legal_bound (take len s)) p.0 in
    record { short = leb-true len 24 q.0; legal = q.1; zeros = p.1 }

module _ (from len : ℕ) (xs : List ℕ) (e : is_a_bound len (take 24 (drop from xs)) ≡ true) where
  pub bound_short : len ≤ 24
  bound_short = (bounded len (take 24 (drop from xs)) e).short

  pub bound_zeros : is_all_zero (take (24 - len) (drop (from + len) xs)) ≡ true
  bound_zeros =
      let q : drop len (take 24 (drop from xs)) ≡ take (24 - len) (drop (from + len) xs) = drop-take len 24 (drop from xs) ∙ ap (take (24 - len)) (drop-drop len from xs) in
      sym (ap is_all_zero q) ∙ (bounded len (take 24 (drop from xs)) e).zeros

  pub take_bound : take len (take 24 (drop from xs)) ≡ take len (drop from xs)
  take_bound = take-take len 24 (drop from xs) bound_short

  pub bound_legal : is_legal_bound (take len (drop from xs)) ≡ true
  bound_legal = sym (ap is_legal_bound take_bound) ∙ (bounded len (take 24 (drop from xs)) e).legal

-- Zeros behind a string.
pub zeros_are : (z : List ℕ) → is_all_zero z ≡ true → z ≡ replicate (length z) 0
unfolding is_all_zero
zeros_are [] e = refl
zeros_are (d ∷ z) e =
    let p = both_true (eqb d 0) (is_all_zero z) e in
    ap₂ (λ (a : ℕ) (x : List ℕ). a ∷ x) (eqb-true d 0 p.0) (zeros_are z p.1)

pub are_zeros : (k : ℕ) → is_all_zero (replicate k 0) ≡ true
unfolding is_all_zero
are_zeros zero = refl
are_zeros (suc k) = are_zeros k

pub padded_part : (len k : ℕ) (s : List ℕ) → length s ≡ k → len ≤ k → is_all_zero (drop len s) ≡ true → s ≡ padded k (take len s)
padded_part len k s e h z =
    let t : length (take len s) ≡ len = length-take-le len s (omega arith) in
    let d : length (drop len s) ≡ k - length (take len s) = omega (arith, length-drop len s) in
    sym (take-append-drop len s) ∙ ap (λ (r : List ℕ). take len s ++ r) (zeros_are (drop len s) z ∙ ap (λ (n : ℕ). replicate n 0) d)
    ∙ sym (padded_short k (take len s) (omega arith))

pub low_digits : (x : Str) → digits_of_low (low_of x) ≡ x
unfolding digits_of_low low_of
low_digits [] = refl
low_digits (d ∷ x) = refl

pub first_four : (xs : List ℕ) → 4 ≤ length xs → take 4 xs ≡ get_or xs 0 0 ∷ get_or xs 1 0 ∷ get_or xs 2 0 ∷ get_or xs 3 0 ∷ []
first_four [] h = absurd (omega arith)
first_four (a ∷ []) h = absurd (omega arith)
first_four (a ∷ b ∷ []) h = absurd (omega arith)
first_four (a ∷ b ∷ c ∷ []) h = absurd (omega arith)
first_four (a ∷ b ∷ c ∷ d ∷ xs) h = refl

pub padded_bound : (x : Str) → is_legal_bound x ≡ true → is_a_bound (length x) (padded 24 x) ≡ true
unfolding is_a_bound
padded_bound x e =
    let f : length x ≤ 24 = (is_legal_bound_bound x e).fits in
    let z : List ℕ = replicate (24 - length x) 0 in
    rw (le-leb (length x) 24 f, padded_short 24 x f, take_at x z (length x) refl, drop_at x z (length x) refl, e) (are_zeros (24 - length x))

-- What holds where the bytes behind a bound are zero.
pub by_bound : {A : Type 0} (from len : ℕ) (xs : List ℕ) → is_a_bound len (take 24 (drop from xs)) ≡ true
    → (len ≤ 24 → is_all_zero (take (24 - len) (drop (from + len) xs)) ≡ true → A) → A
by_bound from len xs e f = f (bound_short from len xs e) (bound_zeros from len xs e)
