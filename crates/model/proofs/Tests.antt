-- The tests of strings are what they test.
use Rattle.model.proofs.Prelude.{Bool, [], ◌&&◌, ◌<◌, ◌||◌, ◌∙◌, ◌∷◌, ◌≡◌, ◌≤◌, ◌⊎◌, ap, ap₂, arith, clash, cond, dec_lt, eq-eqb, eqb, eqb-true, false, inl, inr, le-ltb, lt-ltb, ltb, ne_eqb, not-true, refl, sym, true, true≢false, ℕ, ℕ_discrete}
use Rattle.model.specs.Order.{Low, Str, ◌≺◌, ◌⊑◌, ◌◁◌, above, at, digit, least, none, top}
use Rattle.model.specs.Tests.{is_above, is_at_most, same_low, same_str}
use Rattle.model.proofs.Deciding.{head_le, nil_not_le, tail_le}

pub true_or_false : (t : Bool) → (t ≡ true) ⊎ (t ≡ false)
true_or_false true = inl refl
true_or_false false = inr refl

pub both_true : (a b : Bool) → (a && b) ≡ true → (a ≡ true) × (b ≡ true)
both_true true b e = (refl, e)
both_true false b e = clash cc

-- No test is both true and false.
pub never_both : (t : Bool) → t ≡ true → t ≡ false → ⊥
never_both t e f = true≢false (sym e ∙ f)

pub either_true : (a b : Bool) → (a || b) ≡ true → (a ≡ true) ⊎ (b ≡ true)
either_true true b e = inl refl
either_true false b e = inr e

pub true_left : (a b : Bool) → a ≡ true → (a || b) ≡ true
true_left a b e = rw e

pub true_right : (a b : Bool) → b ≡ true → (a || b) ≡ true
true_right true b e = refl
true_right false b e = e

pub both_join : (a b : Bool) → a ≡ true → b ≡ true → (a && b) ≡ true
both_join a b e f = rw (e, f)

-- How two digits stand.
data Stand (a b : ℕ) : Type 0 where
  less : a < b → Stand a b
  equal : a ≡ b → Stand a b
  more : b < a → Stand a b

stand : (a b : ℕ) → Stand a b
stand a b = elim (dec_lt a b) [ yes h ↦ less h | no h ↦ elim (ℕ_discrete a b) [ yes e ↦ equal e | no n ↦ let k : b < a = omega arith in more k ] ]

pub le_is_at_most : (x y : Str) → x ⊑ y → is_at_most x y ≡ true
unfolding is_at_most
le_is_at_most [] [] p = refl
le_is_at_most (a ∷ x) [] p = refl
le_is_at_most [] (b ∷ y) p = absurd (nil_not_le p)
le_is_at_most (a ∷ x) (b ∷ y) p = go (stand a b) (le_is_at_most x y)
  where
    go : Stand a b → (x ⊑ y → is_at_most x y ≡ true) → cond (ltb a b) true (cond (eqb a b) (is_at_most x y) false) ≡ true
    go (less h) f = rw (lt-ltb a b h)
    go (equal e) f = rw (le-ltb a b (omega arith), eq-eqb a b e) (f (tail_le p e))
    go (more h) f = absurd (omega (arith, head_le p))

pub is_at_most_le : (x y : Str) → is_at_most x y ≡ true → x ⊑ y
unfolding is_at_most
is_at_most_le [] [] e = top
is_at_most_le (a ∷ x) [] e = top
is_at_most_le [] (b ∷ y) e = clash cc
is_at_most_le (a ∷ x) (b ∷ y) e = go (stand a b) e (is_at_most_le x y)
  where
    go : Stand a b → cond (ltb a b) true (cond (eqb a b) (is_at_most x y) false) ≡ true → (is_at_most x y ≡ true → x ⊑ y) → (a ∷ x) ⊑ (b ∷ y)
    go (less h) e f = let k : a ≤ b = omega arith in digit k (λ q. absurd (omega arith))
    go (equal q) e f = let k : a ≤ b = omega arith in digit k (λ r. f (rw (le-ltb a b (omega arith), eq-eqb a b q) at e))
    go (more h) e f =
        let n : false ≡ true = rw (le-ltb a b (omega arith), ne_eqb a b (λ q. absurd (omega arith))) at e in
        clash cc

pub is_at_most_lt : (x y : Str) → is_at_most x y ≡ false → y ≺ x
is_at_most_lt x y e p = never_both (is_at_most x y) (le_is_at_most x y p) e

pub lt_is_at_most : (x y : Str) → y ≺ x → is_at_most x y ≡ false
lt_is_at_most x y p = go (is_at_most x y) refl
  where
    go : (t : Bool) → is_at_most x y ≡ t → t ≡ false
    go true e = absurd (p (is_at_most_le x y e))
    go false e = refl

pub is_above_above : (l : Low) (x : Str) → is_above l x ≡ true → l ◁ x
unfolding is_above
is_above_above none x e = least
is_above_above (at l) x e = above (is_at_most_lt x l (not-true (is_at_most x l) e))

pub above_is_above : {l : Low} {x : Str} → l ◁ x → is_above l x ≡ true
unfolding is_above
above_is_above least = refl
above_is_above (above {l = l} {x = x} p) = rw (lt_is_at_most x l p)

pub not-is_above : (l : Low) (x : Str) → ¬ (l ◁ x) → is_above l x ≡ false
not-is_above l x n = elim (true_or_false (is_above l x)) [ inl e ↦ absurd (n (is_above_above l x e)) | inr e ↦ e ]

pub same_str_equal : (x y : Str) → same_str x y ≡ true → x ≡ y
unfolding same_str
same_str_equal [] [] e = refl
same_str_equal [] (b ∷ y) e = cc
same_str_equal (a ∷ x) [] e = cc
same_str_equal (a ∷ x) (b ∷ y) e =
    let p = both_true (eqb a b) (same_str x y) e in
    ap₂ (λ (c : ℕ) (z : Str). c ∷ z) (eqb-true a b p.0) (same_str_equal x y p.1)

pub same_str_self : (x : Str) → same_str x x ≡ true
unfolding same_str
same_str_self [] = refl
same_str_self (a ∷ x) = rw (eq-eqb a a refl) (same_str_self x)

pub equal_same_str : (x y : Str) → x ≡ y → same_str x y ≡ true
equal_same_str x y e = rw e (same_str_self y)

pub same_str_other : (x y : Str) → ¬ (x ≡ y) → same_str x y ≡ false
same_str_other x y n = go (same_str x y) refl
  where
    go : (t : Bool) → same_str x y ≡ t → t ≡ false
    go true e = absurd (n (same_str_equal x y e))
    go false e = refl

pub same_low_equal : (l m : Low) → same_low l m ≡ true → l ≡ m
unfolding same_low
same_low_equal none none e = refl
same_low_equal none (at y) e = cc
same_low_equal (at x) none e = cc
same_low_equal (at x) (at y) e = ap at (same_str_equal x y e)

pub same_low_self : (l : Low) → same_low l l ≡ true
unfolding same_low
same_low_self none = refl
same_low_self (at x) = same_str_self x
