-- The root of a run, from its strings' lengths alone: the middle one of those with fewest digits.
use Rattle.std.specs.Prelude.{cond, List, [], ◌∷◌, ◌-◌, ◌/◌, suc, zero, ℕ, eqb, ltb, get_or}

-- n numbers from a place on,
unfoldable pub part : ℕ → ℕ → List ℕ → List ℕ
part zero from xs = []
part (suc n) from xs = get_or xs from 0 ∷ part n (suc from) xs

-- and the numbers from one place on and below another.
abbrev pub run : ℕ → ℕ → List ℕ → List ℕ
run from to xs = part (to - from) from xs

-- The least of these and n.
unfoldable pub least : ℕ → List ℕ → ℕ
least n [] = n
least n (x ∷ xs) = least (cond (ltb x n) x n) xs

-- How many of these are d, counted from n.
unfoldable pub many : ℕ → ℕ → List ℕ → ℕ
many n d [] = n
many n d (x ∷ xs) = many (cond (eqb x d) (suc n) n) d xs

-- The place, counted from i, of the one that is d and has m such before it; z where there is none.
unfoldable pub place : ℕ → ℕ → ℕ → ℕ → List ℕ → ℕ
place z i d m [] = z
place z i d m (x ∷ xs) =
    let later = place z (suc i) d (m - 1) xs in
    let other = place z (suc i) d m xs in
    cond (eqb x d) (cond (eqb m 0) i later) other

-- R6.2: the place of a run's root, of strings that have less than 255 digits, counted from i
unfoldable pub middle : ℕ → List ℕ → ℕ
middle i xs = let d = least 255 xs in place i i d ((many 0 d xs - 1) / 2) xs
