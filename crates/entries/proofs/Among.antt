-- One step of the walk over two rows of entries of e bytes.
use Rattle.model.proofs.Prelude.{Bool, List, [], ◌&&◌, ◌*◌, ◌+◌, ◌-◌, ◌<◌, ◌∙◌, ◌∷◌, ◌≡◌, ◌≤◌, ap, arith, cond, dec_lt, drop, drop-drop, eq-eqb, eqb, false, le-ltb, lt-ltb, ltb, ne_eqb, refl, sub-zero, suc, sym, take, true, ℕ, ℕ_discrete}
use Rattle.model.specs.Tests.{same_str}
use native.Mathlib.Nat.{mul-zero}
use Rattle.entries.specs.Rows.{are_among, pieces}

pub pieces_start : (e : ℕ) (xs : List ℕ) (count : ℕ) → pieces e count xs ≡ pieces e (count - 0) (drop (e * 0) xs)
pieces_start e xs count = rw (sub-zero, mul-zero e)

pieces_end : (e : ℕ) (xs : List ℕ) (count i : ℕ) → count ≤ i → pieces e (count - i) xs ≡ []
unfolding pieces
pieces_end e xs count i h = let z : count - i ≡ 0 = omega arith in rw z

pieces_next : (e : ℕ) (xs : List ℕ) (count i : ℕ) → i < count
    → pieces e (count - i) (drop (e * i) xs) ≡ take e (drop (e * i) xs) ∷ pieces e (count - (i + 1)) (drop (e * (i + 1)) xs)
unfolding pieces
pieces_next e xs count i h =
    let o : count - i ≡ suc (count - (i + 1)) = omega arith in
    let n : e * i + e ≡ e * (i + 1) = omega arith in
    ap (λ (n : ℕ). pieces e n (drop (e * i) xs)) o
    ∙ ap (λ (ys : List ℕ). take e (drop (e * i) xs) ∷ pieces e (count - (i + 1)) ys) (drop-drop e (e * i) xs ∙ ap (λ (n : ℕ). drop n xs) n)

among_none : (ns : List (List ℕ)) → are_among ns [] ≡ true
unfolding are_among
among_none [] = refl
among_none (n ∷ ns) = refl

module _ (e : ℕ) (xs ys : List ℕ) (m n i j : ℕ) (hi : i ≤ m) (hj : j < n) where
  abbrev same : Bool
  same = same_str (take e (drop (e * i) xs)) (take e (drop (e * j) ys))

  abbrev left : ℕ → ℕ → Bool
  left k l = are_among (pieces e (n - k) (drop (e * k) ys)) (pieces e (m - l) (drop (e * l) xs))

  pub among_step : (r : ℕ) → r ≡ cond (ltb i m && same) 1 0 → (i + r ≤ m) × (left j i ≡ left (j + 1) (i + r))
  unfolding are_among
  among_step r q = elim (dec_lt i m) [
    | no h ↦ let k : m ≤ i = omega arith in
        let z : r ≡ 0 = q ∙ rw (le-ltb i m k) in
        let o : i + r ≡ i = omega arith in
        rw o (
          hi,
          ap (λ (es : List (List ℕ)). are_among (pieces e (n - j) (drop (e * j) ys)) es) (pieces_end e (drop (e * i) xs) m i k)
              ∙ among_none (pieces e (n - j) (drop (e * j) ys))
              ∙ sym (ap (λ (es : List (List ℕ)). are_among (pieces e (n - (j + 1)) (drop (e * (j + 1)) ys)) es) (pieces_end e (drop (e * i) xs) m i k)
              ∙ among_none (pieces e (n - (j + 1)) (drop (e * (j + 1)) ys))),
        )
    | yes h ↦ go same refl h (q ∙ rw (lt-ltb i m h))
  ]
    where
      go : (t : Bool) → same ≡ t → i < m → r ≡ cond same 1 0 → (i + r ≤ m) × (left j i ≡ left (j + 1) (i + r))
      go true s h q =
          let z : r ≡ 1 = q ∙ rw s in
          rw z (omega arith, rw (pieces_next e ys n j hj, pieces_next e xs m i h, s))
      go false s h q =
          let z : r ≡ 0 = q ∙ rw s in
          let o : i + r ≡ i = omega arith in
          rw o (hi, rw (pieces_next e ys n j hj, pieces_next e xs m i h, s))

pub among_end : (e : ℕ) (xs ys : List ℕ) (m n i j : ℕ) → i ≤ m → n ≤ j → are_among (pieces e (n - j) ys) (pieces e (m - i) (drop (e * i) xs)) ≡ eqb i m
unfolding are_among
among_end e xs ys m n i j h k = elim (ℕ_discrete i m) [
  | yes q ↦ rw (pieces_end e ys n j k, pieces_end e (drop (e * i) xs) m i (omega arith), eq-eqb i m q)
  | no q ↦ rw (pieces_end e ys n j k, pieces_next e xs m i (omega arith), ne_eqb i m q)
]
