-- Runs taken apart: how the definitions over them go on behind their first numbers, and what they are where these are known.
use Rattle.model.proofs.Prelude.{Bool, List, [], ◌+◌, ◌-◌, ◌/◌, ◌<◌, ◌∙◌, ◌∷◌, ◌≡◌, ◌≤◌, ◌⊎◌, add-zero, ap, arith, cond, eq-eqb, eqb, false, get_or, inl, inr, ltb, ltb-false, ltb-true, min, ne_eqb, refl, suc, sym, true, zero, ℕ, ℕ_discrete}
use Rattle.rebuilding.specs.Roots.{least, many, middle, part, place, run}
use Rattle.rebuilding.specs.Starts.{Longer}

pub middle_is : (i d n : ℕ) (xs : List ℕ) → d ≡ least 255 xs → n ≡ many 0 d xs → middle i xs ≡ place i i d ((n - 1) / 2) xs
unfolding middle
middle_is i d n xs e f = rw (f, e)

-- One of two numbers by a test, as the lesser.
pub lesser_is : (x n : ℕ) → cond (ltb x n) x n ≡ min x n
lesser_is x n = go (ltb x n) refl
  where
    go : (t : Bool) → ltb x n ≡ t → cond t x n ≡ min x n
    go true e = omega (arith, ltb-true x n e)
    go false e = omega (arith, ltb-false x n e)

run_cons : (from to : ℕ) (xs : List ℕ) → from < to → run from to xs ≡ get_or xs from 0 ∷ run (suc from) to xs
unfolding part
run_cons from to xs h = let e : to - from ≡ suc (to - suc from) = omega arith in rw e

many_add : (n d : ℕ) (xs : List ℕ) → many n d xs ≡ n + many 0 d xs
unfolding many
many_add n d [] = omega arith
many_add n d (x ∷ xs) = go (eqb x d) (λ n. many_add n d xs)
  where
    go : (t : Bool) → ((n : ℕ) → many n d xs ≡ n + many 0 d xs) → many (cond t (suc n) n) d xs ≡ n + many (cond t 1 0) d xs
    go true f = omega (arith, f (suc n), f 1)
    go false f = f n

module _ (d : ℕ) (xs : List ℕ) where
  many_part : (k l n from : ℕ) → many n d (part (k + l) from xs) ≡ many (many n d (part k from xs)) d (part l (from + k) xs)
  unfolding many part
  many_part zero l n from = let e : zero + l ≡ l = omega arith in rw (e, add-zero from)
  many_part (suc k) l n from =
      let e : suc k + l ≡ suc (k + l) = omega arith in
      let f : from + suc k ≡ suc from + k = omega arith in
      rw (e, f) (many_part k l (cond (eqb (get_or xs from 0) d) (suc n) n) (suc from))

  many_split : (n from e to : ℕ) → from ≤ e → e ≤ to → many n d (run from to xs) ≡ many (many n d (run from e xs)) d (run e to xs)
  many_split n from e to h l =
      let k : to - from ≡ (e - from) + (to - e) = omega arith in
      let m : from + (e - from) ≡ e = omega arith in
      ap (λ (i : ℕ). many n d (part i from xs)) k ∙ many_part (e - from) (to - e) n from
      ∙ ap (λ (i : ℕ). many (many n d (part (e - from) from xs)) d (part (to - e) i xs)) m

  many_here : (n from to : ℕ) → from < to → get_or xs from 0 ≡ d → many n d (run from to xs) ≡ many (suc n) d (run (suc from) to xs)
  unfolding many
  many_here n from to h e =
      ap (many n d) (run_cons from to xs h) ∙ ap (λ (t : Bool). many (cond t (suc n) n) d (run (suc from) to xs)) (eq-eqb (get_or xs from 0) d e)

  many_other : (n from to : ℕ) → from < to → ¬ (get_or xs from 0 ≡ d) → many n d (run from to xs) ≡ many n d (run (suc from) to xs)
  unfolding many
  many_other n from to h e =
      ap (many n d) (run_cons from to xs h) ∙ ap (λ (t : Bool). many (cond t (suc n) n) d (run (suc from) to xs)) (ne_eqb (get_or xs from 0) d e)

  many_longer : (k n from : ℕ) → Longer xs d from (from + k) → many n d (part k from xs) ≡ n
  unfolding many part
  many_longer zero n from f = refl
  many_longer (suc k) n from f =
      ap (λ (t : Bool). many (cond t (suc n) n) d (part k (suc from) xs)) (ne_eqb (get_or xs from 0) d (λ q. omega (arith, f from (omega arith) (omega arith))))
      ∙ many_longer k n (suc from) (λ j h l. f j (omega arith) (omega arith))

  -- None in a run of longer ones.
  pub none_longer : (n from to : ℕ) → Longer xs d from to → many n d (run from to xs) ≡ n
  none_longer n from to f = many_longer (to - from) n from (λ j h l. f j h (omega arith))

  -- Behind longer ones there are as many.
  pub behind_longer : (from e to : ℕ) → from ≤ e → e ≤ to → Longer xs d from e → many 0 d (run from to xs) ≡ many 0 d (run e to xs)
  behind_longer from e to h l f = many_split 0 from e to h l ∙ ap (λ (n : ℕ). many n d (run e to xs)) (none_longer 0 from e f)

  -- One more, behind which all are longer.
  pub one_last : (from p to : ℕ) → from ≤ p → p < to → get_or xs p 0 ≡ d → Longer xs d (suc p) to
      → many 0 d (run from to xs) ≡ suc (many 0 d (run from p xs))
  one_last from p to h l e f =
      many_split 0 from p to h (omega arith) ∙ many_here (many 0 d (run from p xs)) p to l e ∙ none_longer (suc (many 0 d (run from p xs))) (suc p) to f

  -- One more, before longer ones.
  pub one_first : (p q to : ℕ) → p < q → q ≤ to → get_or xs p 0 ≡ d → Longer xs d (suc p) q → many 0 d (run p to xs) ≡ suc (many 0 d (run q to xs))
  one_first p q to h l e f =
      many_here 0 p to (omega arith) e ∙ many_split 1 (suc p) q to h l
      ∙ ap (λ (n : ℕ). many n d (run q to xs)) (none_longer 1 (suc p) q f)
      ∙ many_add 1 d (run q to xs)
      ∙ omega arith

  place_from : (k z i m from to : ℕ) → from + k < to → get_or xs (from + k) 0 ≡ d → many 0 d (run from (from + k) xs) ≡ m
      → place z i d m (run from to xs) ≡ i + k
  unfolding place
  place_from zero z i m from to h e f =
      let g : m ≡ 0 = sym f ∙ none_longer 0 from (from + zero) (λ j a b. absurd (omega arith)) in
      ap (place z i d m) (run_cons from to xs (omega arith)) ∙ rw (eq-eqb (get_or xs from 0) d (rw (add-zero from) at e), eq-eqb m 0 g) (omega arith)
  place_from (suc k) z i m from to h e f = go (ℕ_discrete (get_or xs from 0) d) (λ m g. place_from k z (suc i) m (suc from) to (omega arith) (rw end at e) g)
    where
      end : from + suc k ≡ suc from + k
      end = omega arith

      n : ℕ
      n = many 0 d (run (suc from) (suc from + k) xs)

      go : Dec (get_or xs from 0 ≡ d) → ((m : ℕ) → n ≡ m → place z (suc i) d m (run (suc from) to xs) ≡ suc i + k)
          → place z i d m (run from to xs) ≡ i + suc k
      go (yes q) g =
          let one : m ≡ suc n = sym f ∙ many_here 0 from (from + suc k) (omega arith) q ∙ ap (λ (j : ℕ). many 1 d (run (suc from) j xs)) end ∙ many_add 1 d (run (suc from) (suc from + k) xs) ∙ omega arith in
          let less : m - 1 ≡ n = omega arith in
          rw (run_cons from to xs (omega arith), eq-eqb (get_or xs from 0) d q, ne_eqb m 0 (λ w. omega arith), less) (g n refl ∙ omega arith)
      go (no q) g =
          let same : n ≡ m = sym (ap (λ (j : ℕ). many 0 d (run (suc from) j xs)) end) ∙ sym (many_other 0 from (from + suc k) (omega arith) q) ∙ f in
          rw (run_cons from to xs (omega arith), ne_eqb (get_or xs from 0) d q) (g m same ∙ omega arith)

  -- The place of the one that has m before it.
  pub place_is : (z m from p to : ℕ) → from ≤ p → p < to → get_or xs p 0 ≡ d → many 0 d (run from p xs) ≡ m → place z from d m (run from to xs) ≡ p
  place_is z m from p to h l e f =
      let k : from + (p - from) ≡ p = omega arith in
      place_from (p - from) z from m from to (omega arith) (rw k e) (rw k f) ∙ k

  least_part : (k n from : ℕ) → d ≤ n → ((j : ℕ) → from ≤ j → j < from + k → d ≤ get_or xs j 0)
      → (n ≡ d) ⊎ ((p : ℕ) × (from ≤ p) × (p < from + k) × (get_or xs p 0 ≡ d)) → least n (part k from xs) ≡ d
  unfolding least part
  least_part zero n from h f (inl e) = e
  least_part zero n from h f (inr w) = absurd (omega arith)
  least_part (suc k) n from h f w = least_part k (cond (ltb x n) x n) (suc from) (rw lesser_is (omega (arith, low))) (λ j a b. f j (omega arith) (omega arith)) (go w)
    where
      x : ℕ
      x = get_or xs from 0

      low : d ≤ x
      low = f from (omega arith) (omega arith)

      go : (n ≡ d) ⊎ ((p : ℕ) × (from ≤ p) × (p < from + suc k) × (get_or xs p 0 ≡ d))
          → (cond (ltb x n) x n ≡ d) ⊎ ((p : ℕ) × (suc from ≤ p) × (p < suc from + k) × (get_or xs p 0 ≡ d))
      go (inl e) = inl (lesser_is x n ∙ omega (arith, low))
      go (inr (p, a, b, q)) = elim (ℕ_discrete p from) [
        | yes e ↦ inl (lesser_is x n ∙ let r : x ≡ d = rw e at q in omega arith)
        | no e ↦ inr (p, omega arith, omega arith, q)
      ]

  -- The least of a run, by where it stands.
  pub least_is : (from p to : ℕ) → d ≤ 255 → from ≤ p → p < to → get_or xs p 0 ≡ d → ((j : ℕ) → from ≤ j → j < to → d ≤ get_or xs j 0)
      → least 255 (run from to xs) ≡ d
  least_is from p to b h l e f = least_part (to - from) 255 from b (λ j a q. f j a (omega arith)) (inr (p, h, omega arith, e))
