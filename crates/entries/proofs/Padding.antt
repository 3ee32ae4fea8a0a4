-- Bytes put one behind another into zeros. Nothing here knows the size of an entry.
use Rattle.model.proofs.Prelude.{List, [], ◌++◌, ◌+◌, ◌-◌, ◌∙◌, ◌∷◌, ◌≡◌, ◌≤◌, ap, append_assoc, arith, drop, length, length-append, paste, refl, replicate, replicate-append-replicate, suc, sym, take, take-append-add, take_at, take-length, take-take, zero, ℕ}
use Rattle.model.specs.Format.{padded}
use Rattle.model.proofs.Format.{padded_short}
use Rattle.model.proofs.Lists.{drop_past, drop-replicate}

-- As many zeros behind a list as wanted.
take_zeros_behind : (j k m : ℕ) (xs : List ℕ) → j ≤ k → j ≤ m → take j (xs ++ replicate k 0) ≡ take j (xs ++ replicate m 0)
take_zeros_behind zero k m xs h i = refl
take_zeros_behind (suc j) zero m [] h i = absurd (omega arith)
take_zeros_behind (suc j) (suc k) zero [] h i = absurd (omega arith)
take_zeros_behind (suc j) (suc k) (suc m) [] h i = ap (λ (r : List ℕ). 0 ∷ r) (take_zeros_behind j k m [] (omega arith) (omega arith))
take_zeros_behind (suc j) k m (x ∷ xs) h i = ap (λ (r : List ℕ). x ∷ r) (take_zeros_behind j k m xs (omega arith) (omega arith))

pub zeros_padded : (k : ℕ) → ◌≡◌ {A = List ℕ} (replicate k 0) (padded k [])
zeros_padded k = let e : k - 0 ≡ k = omega arith in sym (padded_short k [] (omega arith) ∙ ap (λ (n : ℕ). replicate n 0) e)

pub take_padded : (j k : ℕ) (xs : List ℕ) → j ≤ k → take j (padded k xs) ≡ padded j xs
unfolding padded
take_padded j k xs h = take-take j k (xs ++ replicate k 0) h ∙ take_zeros_behind j k j xs h (omega arith)

-- What is taken of padded bytes, where no padding is taken.
pub take_padded_whole : (j k : ℕ) (xs : List ℕ) → length xs ≡ j → j ≤ k → take j (padded k xs) ≡ xs
unfolding padded
take_padded_whole j k xs h i = take_padded j k xs i ∙ take_at xs (replicate j 0) j h

pub padded_append : (k m : ℕ) (p xs : List ℕ) → length p + m ≡ k → padded k (p ++ xs) ≡ p ++ padded m xs
unfolding padded
padded_append k m p xs h =
    rw (← h, append_assoc) (take-append-add p (xs ++ replicate (length p + m) 0) m ∙ ap (λ (r : List ℕ). p ++ r) (take_zeros_behind m (length p + m) m xs (omega arith) (omega arith)))

-- Zeros behind, and bytes padded behind, are padding.
pub padded_zeros : (k j : ℕ) (xs : List ℕ) → padded k (xs ++ replicate j 0) ≡ padded k xs
unfolding padded
padded_zeros k j xs = rw (append_assoc, replicate-append-replicate) (take_zeros_behind k (j + k) k xs (omega arith) (omega arith))

pub padded_padded : (k j : ℕ) (p xs : List ℕ) → length xs ≤ j → padded k (p ++ padded j xs) ≡ padded k (p ++ xs)
padded_padded k j p xs h = rw (padded_short j xs h, ← append_assoc) (padded_zeros k (j - length xs) (p ++ xs))

paste_into_zeros : (k n : ℕ) (p s : List ℕ) → length p ≡ n → n + length s ≤ k → paste (padded k p) n s (length s) ≡ padded k (p ++ s)
paste_into_zeros k n p s e h =
    let z : List ℕ = replicate (k - length p) 0 in
    let i : padded k p ≡ p ++ z = padded_short k p (omega arith) in
    let d : drop (n + length s) (p ++ z) ≡ replicate (k - length p - length s) 0 = drop_past p z (n + length s) (length s) (omega arith) ∙ drop-replicate {A = ℕ} (length s) (k - length p) 0 in
    let j : k - length p - length s ≡ k - length (p ++ s) = omega (arith, length-append p s) in
    rw (i, take_at p z n e, take-length s, d, j) (sym (padded_short k (p ++ s) (omega (arith, length-append p s))))

-- A copy, given by an equation, of s that is t: behind the bytes p that stand before zeros.
pub copied : {k : ℕ} {d e : List ℕ} (n : ℕ) (p s t : List ℕ) → d ≡ padded k p → length p ≡ n → s ≡ t → n + length t ≤ k
    → e ≡ paste d n s (length s) → e ≡ padded k (p ++ t)
copied {k} n p s t i h j f q = q ∙ rw (j, i) (paste_into_zeros k n p t h f)
