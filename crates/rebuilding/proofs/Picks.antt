-- The model's root of a run is the middle one of its strings' lengths, from wherever places are counted.
use Rattle.model.proofs.Prelude.{Bool, List, [], ◌+◌, ◌-◌, ◌/◌, ◌∙◌, ◌∷◌, ◌≡◌, ◌≤◌, add-suc, add-zero, arith, cond, eq-eqb, eqb, false, get_or, length, ltb, map, min, ne_eqb, refl, suc, sym, true, zero, ℕ, ℕ_discrete}
use Rattle.model.specs.Order.{Str}
use Rattle.model.specs.Rebuilding.{fewest, pick, places}
use Rattle.rebuilding.specs.Roots.{least, many, middle, place}
use Rattle.rebuilding.proofs.Laws.{lesser_is, middle_is}

least_fewest : (n : ℕ) (x : Str) (xs : List Str) → least n (map length (x ∷ xs)) ≡ min n (fewest x xs)
unfolding least
least_fewest n x [] = rw lesser_is (omega arith)
least_fewest n x (y ∷ ys) = least_fewest (cond (ltb (length x) n) (length x) n) y ys ∙ rw lesser_is (omega arith)

many_places : (n d i : ℕ) (ss : List Str) → many n d (map length ss) ≡ n + length (places d i ss)
unfolding many
many_places n d i [] = omega arith
many_places n d i (x ∷ xs) = go (ℕ_discrete (length x) d) (λ n. many_places n d (suc i) xs)
  where
    go : Dec (length x ≡ d) → ((n : ℕ) → many n d (map length xs) ≡ n + length (places d (suc i) xs))
        → many (cond (eqb (length x) d) (suc n) n) d (map length xs) ≡ n + length (places d i (x ∷ xs))
    go (yes e) f = rw (eq-eqb _ _ e, f (suc n)) (omega arith)
    go (no e) f = rw (ne_eqb _ _ e) (f n)

place_places : (z i d m : ℕ) (ss : List Str) → place z i d m (map length ss) ≡ get_or (places d i ss) m z
unfolding place
place_places z i d m [] = refl
place_places z i d m (x ∷ xs) = go (ℕ_discrete (length x) d) m (λ m. place_places z (suc i) d m xs)
  where
    go : Dec (length x ≡ d) → (m : ℕ) → ((m : ℕ) → place z (suc i) d m (map length xs) ≡ get_or (places d (suc i) xs) m z)
        → cond (eqb (length x) d) (cond (eqb m 0) i (place z (suc i) d (m - 1) (map length xs))) (place z (suc i) d m (map length xs))
        ≡ get_or (places d i (x ∷ xs)) m z
    go (yes e) zero f = rw (eq-eqb _ _ e)
    go (yes e) (suc m) f = let k : suc m - 1 ≡ m = omega arith in rw (eq-eqb _ _ e, ne_eqb (suc m) 0 (λ k. omega arith), k) (f m)
    go (no e) m f = rw (ne_eqb _ _ e) (f m)

fewest_first : (x : Str) (xs : List Str) → fewest x xs ≤ length x
fewest_first x [] = omega arith
fewest_first x (y ∷ ys) = omega arith

-- The first string's length bounds the fewest digits: one below 256 will do.
pub pick_middle : (x : Str) (xs : List Str) → length x ≤ 255 → pick (x ∷ xs) ≡ middle 0 (map length (x ∷ xs))
pick_middle x xs h =
    let d : ℕ = fewest x xs in
    let n : ℕ = length (places d 0 (x ∷ xs)) in
    let e : d ≡ least 255 (map length (x ∷ xs)) = omega (arith, least_fewest 255 x xs, fewest_first x xs) in
    let f : n ≡ many 0 d (map length (x ∷ xs)) = omega (arith, many_places 0 d 0 (x ∷ xs)) in
    sym (middle_is 0 d n (map length (x ∷ xs)) e f ∙ place_places 0 0 d ((n - 1) / 2) (x ∷ xs))

cond_add : (t : Bool) (k a b : ℕ) → cond t (k + a) (k + b) ≡ k + cond t a b
cond_add true k a b = refl
cond_add false k a b = refl

place_add : (k z i d m : ℕ) (xs : List ℕ) → place (k + z) (k + i) d m xs ≡ k + place z i d m xs
unfolding place
place_add k z i d m [] = refl
place_add k z i d m (x ∷ xs) =
    rw (← add-suc k i, place_add k z (suc i) d (m - 1) xs, place_add k z (suc i) d m xs, cond_add, cond_add)

pub middle_add : (i : ℕ) (xs : List ℕ) → middle i xs ≡ i + middle 0 xs
unfolding middle
middle_add i xs = let d = least 255 xs in rw (add-zero i) at (place_add i 0 0 d ((many 0 d xs - 1) / 2) xs)
