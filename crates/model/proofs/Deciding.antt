-- Order and equality of strings, decided: for proofs by cases.
use mathlib.Core.Path.{◌≡◌, refl}
use mathlib.Core.List.{[], ◌∷◌}
use Prim.Native.Nat.{◌≤◌, ℕ}
use native.Mathlib.Decide.{dec_le, ℕ_discrete}
use native.Mathlib.Omega.{arith}
use Rattle.model.specs.Order.{Low, Str, ◌≺◌, ◌⊑◌, ◌◁◌, above, at, digit, least, none, top}

pub head_le : {a b : ℕ} {x y : Str} → (a ∷ x) ⊑ (b ∷ y) → a ≤ b
head_le (digit h f) = h

pub tail_le : {a b : ℕ} {x y : Str} → (a ∷ x) ⊑ (b ∷ y) → a ≡ b → x ⊑ y
tail_le (digit h f) = f

pub nil_not_le : {b : ℕ} {y : Str} → ¬ ([] ⊑ (b ∷ y))
nil_not_le p = elim p [ ]

unfoldable pub le? : (x y : Str) → Dec (x ⊑ y)
le? x [] = yes top
le? [] (b ∷ y) = no nil_not_le
le? (a ∷ x) (b ∷ y) = go (dec_le a b) (ℕ_discrete a b) (le? x y)
  where
    go : Dec (a ≤ b) → Dec (a ≡ b) → Dec (x ⊑ y) → Dec ((a ∷ x) ⊑ (b ∷ y))
    go (no h) d r = no (λ p. h (head_le p))
    go (yes h) (no n) r = yes (digit h (λ e. absurd (n e)))
    go (yes h) (yes e) (yes r) = yes (digit h (λ e'. r))
    go (yes h) (yes e) (no r) = no (λ p. r (tail_le p e))

unfoldable pub str? : (x y : Str) → Dec (x ≡ y)
str? [] [] = yes refl
str? [] (b ∷ y) = no (λ e. let z : ◌≡◌ {A = ℕ} 0 1 = cc in absurd (omega arith))
str? (a ∷ x) [] = no (λ e. let z : ◌≡◌ {A = ℕ} 0 1 = cc in absurd (omega arith))
str? (a ∷ x) (b ∷ y) = go (ℕ_discrete a b) (str? x y)
  where
    go : Dec (a ≡ b) → Dec (x ≡ y) → Dec (a ∷ x ≡ b ∷ y)
    go (yes e) (yes f) = yes cc
    go (yes e) (no n) = no (λ f. n cc)
    go (no n) d = no (λ f. n cc)

pub over : {l x : Str} → at l ◁ x → l ≺ x
over (above p) = p

unfoldable pub low? : (l : Low) (x : Str) → Dec (l ◁ x)
low? none x = yes least
low? (at l) x = elim (le? x l) [ yes p ↦ no (λ h. over h p) | no p ↦ yes (above p) ]
