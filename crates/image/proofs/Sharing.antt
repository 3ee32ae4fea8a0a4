-- How many digits a name shares with a cell's string, where it is known how many it shares with the path.
use Rattle.model.proofs.Prelude.{[], ◌+◌, ◌<◌, ◌∙◌, ◌∷◌, ◌≡◌, ◌≤◌, ap, arith, clash, dec_lt, drop, drop-cons, eq-eqb, false, get_or, le-ltb, length, lt-ltb, ne_eqb, refl, suc, sym, true, zero, zero-add, ℕ, ℕ_discrete}
use Rattle.model.specs.Order.{Str, diff}
use Rattle.model.specs.Tests.{is_at_most}
use Rattle.model.specs.Tries.{cell}

-- The first digits decide, unless they are equal.
same_first : (a b : ℕ) (n p : Str) → a ≡ b → is_at_most (a ∷ n) (b ∷ p) ≡ is_at_most n p
unfolding is_at_most
same_first a b n p e = rw (le-ltb a b (omega arith), eq-eqb a b e)

less_first : (a b : ℕ) (n p : Str) → a < b → is_at_most (a ∷ n) (b ∷ p) ≡ true
unfolding is_at_most
less_first a b n p h = rw (lt-ltb a b h)

more_first : (a b : ℕ) (n p : Str) → b < a → is_at_most (a ∷ n) (b ∷ p) ≡ false
unfolding is_at_most
more_first a b n p h = rw (le-ltb a b (omega arith), ne_eqb a b (λ e. omega arith))

diff_nil : (n : Str) → diff n [] ≡ 0
diff_nil [] = refl
diff_nil (a ∷ n) = refl

diff_first : (a b : ℕ) (n p : Str) → a ≡ b → diff (a ∷ n) (b ∷ p) ≡ suc (diff n p)
diff_first a b n p e = rw (eq-eqb a b e)

diff_other : (a b : ℕ) (n p : Str) → (a ≡ b → ⊥) → diff (a ∷ n) (b ∷ p) ≡ 0
diff_other a b n p e = rw (ne_eqb a b e)

none : {X : Type 0} (b : ℕ) (p : Str) → is_at_most [] (b ∷ p) ≡ true → X
unfolding is_at_most
none b p e = clash cc

all : (n : Str) → is_at_most n [] ≡ true
unfolding is_at_most
all n = refl

-- Where the name differs from the path before the cell's digit, it is below the cell's string, too, and shares no more with it.
pub before_digit : (k d : ℕ) (n p : Str) → is_at_most n p ≡ true → diff n p < k → k ≤ length p
    → (is_at_most n (cell d k p) ≡ true) × (diff n (cell d k p) ≡ diff n p)
before_digit zero d n p w h l = absurd (omega arith)
before_digit (suc k) d n [] w h l = absurd (omega arith)
before_digit (suc k) d [] (b ∷ p) w h l = none b p w
before_digit (suc k) d (a ∷ n) (b ∷ p) w h l = go (ℕ_discrete a b) (dec_lt a b) (before_digit k d n p)
  where
    go : Dec (a ≡ b) → Dec (a < b) → (is_at_most n p ≡ true → diff n p < k → k ≤ length p → (is_at_most n (cell d k p) ≡ true) × (diff n (cell d k p) ≡ diff n p))
        → (is_at_most (a ∷ n) (b ∷ cell d k p) ≡ true) × (diff (a ∷ n) (b ∷ cell d k p) ≡ diff (a ∷ n) (b ∷ p))
    go (yes e) q rest =
        let r = rest (sym (same_first a b n p e) ∙ w) (omega (arith, h, diff_first a b n p e)) (omega arith) in
        (same_first a b n (cell d k p) e ∙ r.0, diff_first a b n (cell d k p) e ∙ ap suc r.1 ∙ sym (diff_first a b n p e))
    go (no e) (yes q) rest = (less_first a b n (cell d k p) q, diff_other a b n (cell d k p) e ∙ sym (diff_other a b n p e))
    go (no e) (no q) rest =
        let m : b < a = omega (arith, e) in
        let z : true ≡ false = sym w ∙ more_first a b n p m in
        clash cc

-- Where it shares all digits before the cell's, its own digit there and the cell's decide.
at_digit : (k d : ℕ) (n p : Str) → k ≤ diff n p
    → (is_at_most n (cell d k p) ≡ is_at_most (drop k n) (d ∷ [])) × (diff n (cell d k p) ≡ k + diff (drop k n) (d ∷ []))
at_digit zero d n p h = (refl, sym (zero-add (diff n (d ∷ []))))
at_digit (suc k) d [] p h = absurd (omega arith)
at_digit (suc k) d (a ∷ n) [] h = absurd (omega arith)
at_digit (suc k) d (a ∷ n) (b ∷ p) h = go (ℕ_discrete a b) (at_digit k d n p)
  where
    go : Dec (a ≡ b) → (k ≤ diff n p → (is_at_most n (cell d k p) ≡ is_at_most (drop k n) (d ∷ [])) × (diff n (cell d k p) ≡ k + diff (drop k n) (d ∷ [])))
        → (is_at_most (a ∷ n) (b ∷ cell d k p) ≡ is_at_most (drop k n) (d ∷ [])) × (diff (a ∷ n) (b ∷ cell d k p) ≡ suc k + diff (drop k n) (d ∷ []))
    go (yes e) rest =
        let r = rest (omega (arith, h, diff_first a b n p e)) in
        (same_first a b n (cell d k p) e ∙ r.0, omega (arith, diff_first a b n (cell d k p) e, r.1))
    go (no e) rest = absurd (omega (arith, h, diff_other a b n p e))

module _ (k d : ℕ) (n p : Str) (h : k ≤ diff n p) (l : k < length n) where
  abbrev own : ℕ
  own = get_or n k 0

  abbrev rest : Str
  rest = drop (suc k) n

  there : drop k n ≡ own ∷ rest
  there = drop-cons n k 0 l

  pub goes_right : d < own → is_at_most n (cell d k p) ≡ false
  goes_right m = (at_digit k d n p h).0 ∙ rw there (more_first own d rest [] m)

  pub below_digit : own < d → (is_at_most n (cell d k p) ≡ true) × (diff n (cell d k p) ≡ k)
  below_digit m =
      let e : k + diff (own ∷ rest) (d ∷ []) ≡ k = omega (arith, diff_other own d rest [] (λ q. omega arith)) in
      ((at_digit k d n p h).0 ∙ rw there (less_first own d rest [] m), (at_digit k d n p h).1 ∙ rw there e)

  pub on_digit : own ≡ d → (is_at_most n (cell d k p) ≡ true) × (diff n (cell d k p) ≡ k + 1)
  on_digit m =
      let e : k + diff (own ∷ rest) (d ∷ []) ≡ k + 1 = omega (arith, diff_first own d rest [] m, diff_nil rest) in
      ((at_digit k d n p h).0 ∙ rw there (same_first own d rest [] m ∙ all rest), (at_digit k d n p h).1 ∙ rw there e)
