-- Names and bounds: section 1 of the rules.
use Rattle.std.specs.Prelude.{◌≡◌, Bool, cond, false, true, List, [], ◌++◌, ◌∷◌, ◌<◌, ◌≤◌, suc, zero, ℕ, eqb, ltb, length, replicate, take}
use Rattle.model.specs.Order.{Low, Str, at, diff, first_digit, last_digit, none}
use Rattle.model.specs.Tests.{is_at_most}

-- R1.3 and R1.5: digits from the lowest one given on.
abbrev pub Digits : ℕ → Str → Type 0
Digits lo [] = Unit {0}
Digits lo (d ∷ x) = (lo ≤ d) × (d ≤ 0x7D) × Digits lo x

-- R1.4: filled with blanks to 24 digits.
unfoldable pub filled : List ℕ → List ℕ
filled n = take 24 (n ++ replicate 24 0x20)

-- R1.2 and R1.3: a legal name, filled.
pub record Legal (n : Str) : Type 0 where
  pub name : Str
  pub some : 0 < length name
  pub fits : length name ≤ 24
  pub digits : Digits 0x20 name
  pub first : ¬ (first_digit name ≡ 0x20)
  pub last : ¬ (last_digit name ≡ 0x20)
  pub is : n ≡ filled name

-- R1.5: a bound.
pub record Bound (x : Str) : Type 0 where
  pub fits : length x ≤ 24
  pub digits : Digits 0x20 x

-- A lower bound, where the empty one is no limit.
pub data BoundLow : Low → Type 0 where
  unlimited : BoundLow none
  limit : {x : Str} → Bound x → BoundLow (at x)

-- Of two strings, the first with no more digits: it is not greater, digit by digit.
unfoldable pub not_greater : List ℕ → List ℕ → Bool
not_greater [] y = true
not_greater (a ∷ x) [] = true
not_greater (a ∷ x) (b ∷ y) = cond (ltb a b) true (cond (eqb a b) (not_greater x y) false)

-- R1.6: a name within a bound p.
unfoldable pub within : List ℕ → List ℕ → Bool
within n p = not_greater (take (length p) n) p

-- R1.9: the bound of a range that a name outside the range breaks is the lower one where the name is within it, else the upper. The
-- digit number is that of the first difference, or the bound's length if there is none.
unfoldable pub broken : Low → List ℕ → List ℕ → ℕ
broken none u n = diff n u
broken (at l) u n = cond (is_at_most n l) (diff n l) (diff n u)

-- R7.4: of the split key c and the last name z, both filled: the first beginning of c, from i digits on, below as many digits of z.
unfoldable pub split_tried : ℕ → ℕ → List ℕ → List ℕ → List ℕ
split_tried zero i c z = take i c
split_tried (suc f) i c z =
    let r = split_tried f (suc i) c z in
    cond (is_at_most (take i z) (take i c)) r (take i c)

unfoldable pub split_beginning : List ℕ → List ℕ → List ℕ
split_beginning c z = split_tried (length c) 0 c z
