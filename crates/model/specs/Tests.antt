-- The tests of strings and names. `Tests` in the promises says what each of them tests, so you need not read how.
use Rattle.std.specs.Prelude.{Bool, ◌&&◌, cond, false, not, true, List, [], ◌∷◌, ℕ, eqb, leb, ltb, length}
use Rattle.model.specs.Order.{Low, Str, at, first_digit, last_digit, none}

unfoldable pub same_str : Str → Str → Bool
same_str [] [] = true
same_str [] (b ∷ y) = false
same_str (a ∷ x) [] = false
same_str (a ∷ x) (b ∷ y) = eqb a b && same_str x y

unfoldable pub same_low : Low → Low → Bool
same_low none none = true
same_low none (at y) = false
same_low (at x) none = false
same_low (at x) (at y) = same_str x y

-- The order ⊑.
unfoldable pub is_at_most : List ℕ → List ℕ → Bool
is_at_most x [] = true
is_at_most [] (b ∷ y) = false
is_at_most (a ∷ x) (b ∷ y) = cond (ltb a b) true (cond (eqb a b) (is_at_most x y) false)

-- Above a lower limit.
unfoldable pub is_above : Low → Str → Bool
is_above none x = true
is_above (at l) x = not (is_at_most x l)

unfoldable pub are_digits : ℕ → List ℕ → Bool
are_digits lo [] = true
are_digits lo (d ∷ x) = leb lo d && leb d 0x7D && are_digits lo x

abbrev pub is_blank_digit : ℕ → Bool
is_blank_digit d = eqb d 0x20

-- R1.2 and R1.3: a legal name.
unfoldable pub is_legal_name : List ℕ → Bool
is_legal_name n =
    leb 1 (length n) && leb (length n) 24 && are_digits 0x20 n && not (is_blank_digit (first_digit n)) && not (is_blank_digit (last_digit n))

-- The same, filled: 24 digits, the first no blank.
unfoldable pub is_legal_filled : List ℕ → Bool
is_legal_filled n = eqb (length n) 24 && are_digits 0x20 n && not (is_blank_digit (first_digit n))

-- R1.5: a bound; the second is a lower one, where the empty one is no limit.
unfoldable pub is_legal_bound : List ℕ → Bool
is_legal_bound p = leb (length p) 24 && are_digits 0x20 p

unfoldable pub is_legal_low : Low → Bool
is_legal_low none = true
is_legal_low (at x) = is_legal_bound x
