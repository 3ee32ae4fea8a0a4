-- Two parts of bytes, each an entry of its row, compared as slices and by the numbers of their words: words that are the same number are
-- the same bytes.
use Rattle.model.proofs.Prelude.{Bool, List, [], ◌&&◌, ◌*◌, ◌++◌, ◌+◌, ◌-◌, ◌<◌, ◌∙◌, ◌∷◌, ◌≡◌, ◌≤◌, and_assoc, ap, ap₂, arith, drop, drop-drop, eq-eqb, eqb, false, get_or, length, ne_eqb, refl, sym, take, take-add, true, ℕ, ℕ_discrete}
use Rattle.std.proofs.Math.Nat.{mul-one}
use Rattle.std.specs.Cmp.Lexicographic.{pointwise}
use Rattle.model.specs.Tests.{same_str}
use Rattle.entries.specs.Rows.{entries_from}
use Rattle.model.proofs.Tests.{same_str_other, same_str_self}
use Rattle.model.specs.Format.{AreBytes, EntrySize}
use Rattle.digits.proofs.Keys.{bytes_part, length_part, value_same}
use Rattle.digits.specs.Keys.{value}

pub same_slices : (x y : List ℕ) → pointwise eqb x y ≡ same_str x y
unfolding same_str
same_slices [] [] = refl
same_slices [] (b ∷ y) = refl
same_slices (a ∷ x) [] = refl
same_slices (a ∷ x) (b ∷ y) = rw (same_slices x y)

pub one_entry : (e i : ℕ) (xs : List ℕ) → entries_from e i (i + 1) xs ≡ take e (drop (e * i) xs)
unfolding entries_from
one_entry e i xs = let k : i + 1 - i ≡ 1 = omega arith in rw (k, mul-one e)

same_append : (a b c d : List ℕ) → length a ≡ length c → same_str (a ++ b) (c ++ d) ≡ (same_str a c && same_str b d)
unfolding same_str
same_append [] b [] d e = refl
same_append [] b (y ∷ c) d e = absurd (omega arith)
same_append (x ∷ a) b [] d e = absurd (omega arith)
same_append (x ∷ a) b (y ∷ c) d e = rw (same_append a b c d (omega arith)) (sym (and_assoc (eqb x y) (same_str a c) (same_str b d)))

same_value : (x y : List ℕ) → AreBytes x → AreBytes y → length x ≡ length y → same_str x y ≡ eqb (value x) (value y)
same_value x y f g e = elim (ℕ_discrete (value x) (value y)) [
  | yes q ↦ rw (eq-eqb (value x) (value y) q, value_same x y f g e q) (same_str_self y)
  | no q ↦ rw (ne_eqb (value x) (value y) q) (same_str_other x y (λ s. q (ap value s)))
]

module _ (x y : List ℕ) (f : (i : ℕ) → get_or x i 0 < 256) (g : (i : ℕ) → get_or y i 0 < 256) where
  abbrev part : ℕ → ℕ → ℕ → Bool
  part n at to = same_str (take n (drop at x)) (take n (drop to y))

  abbrev number : ℕ → ℕ → ℕ → Bool
  number n at to = eqb (value (take n (drop at x))) (value (take n (drop to y)))

  same_part : (n at to : ℕ) → at + n ≤ length x → to + n ≤ length y → part n at to ≡ number n at to
  same_part n at to h k =
      same_value (take n (drop at x)) (take n (drop to y)) (bytes_part x n at f) (bytes_part y n to g) (length_part x at n h ∙ sym (length_part y to n k))

  -- The first n bytes as a number, and the others.
  same_split : (n m at to : ℕ) → at + n ≤ length x → to + n ≤ length y → part (n + m) at to ≡ (number n at to && part m (at + n) (to + n))
  same_split n m at to h k =
      let p : take (n + m) (drop at x) ≡ take n (drop at x) ++ take m (drop (at + n) x) = take-add n m (drop at x) ∙ ap (λ (l : List ℕ). take n (drop at x) ++ take m l) (drop-drop n at x) in
      let q : take (n + m) (drop to y) ≡ take n (drop to y) ++ take m (drop (to + n) y) = take-add n m (drop to y) ∙ ap (λ (l : List ℕ). take n (drop to y) ++ take m l) (drop-drop n to y) in
      ap₂ same_str p q
      ∙ same_append (take n (drop at x)) (take m (drop (at + n) x)) (take n (drop to y)) (take m (drop (to + n) y)) (length_part x at n h ∙ sym (length_part y to n k))
      ∙ ap (λ (t : Bool). t && part m (at + n) (to + n)) (same_part n at to h k)

  module _ (e at to : ℕ) (s : EntrySize e) (h : at + e ≤ length x) (k : to + e ≤ length y) where
    pub same_name : part e at to ≡ (number 24 at to && part (e - 24) (at + 24) (to + 24))
    same_name =
        let d : 24 + (e - 24) ≡ e = omega arith in
        ap (λ (n : ℕ). part n at to) (sym d) ∙ same_split 24 (e - 24) at to (omega arith) (omega arith)

    pub same_short : e < 40 → part e at to ≡ (number 24 at to && number 8 (at + 24) (to + 24))
    same_short l =
        let d : e - 24 ≡ 8 = omega arith in
        same_name ∙ rw d (ap (λ (t : Bool). number 24 at to && t) (same_part 8 (at + 24) (to + 24) (omega arith) (omega arith)))

    pub same_long : 40 ≤ e → part e at to ≡ (number 24 at to && (number 8 (at + 24) (to + 24) && number 8 (at + 32) (to + 32)))
    same_long l =
        let d : e - 24 ≡ 16 = omega arith in
        let a : at + 24 + 8 ≡ at + 32 = omega arith in
        let b : to + 24 + 8 ≡ to + 32 = omega arith in
        same_name
        ∙ rw d (ap (λ (t : Bool). number 24 at to && t) (same_split 8 8 (at + 24) (to + 24) (omega arith) (omega arith)
        ∙ rw (a, b) (ap (λ (t : Bool). number 8 (at + 24) (to + 24) && t) (same_part 8 (at + 32) (to + 32) (omega arith) (omega arith)))))

    -- The names differ; or the names are the same, and the values differ.
    pub other_name : number 24 at to ≡ false → part e at to ≡ false
    other_name q = same_name ∙ rw q

    pub other_value : number 24 at to ≡ true → number 8 (at + 24) (to + 24) ≡ false → part e at to ≡ false
    other_value p q =
        let d : e - 24 ≡ 8 + (e - 32) = omega arith in
        let c : part (e - 24) (at + 24) (to + 24) ≡ (number 8 (at + 24) (to + 24) && part (e - 32) (at + 24 + 8) (to + 24 + 8)) =
        ap (λ (n : ℕ). part n (at + 24) (to + 24)) d ∙ same_split 8 (e - 32) (at + 24) (to + 24) (omega arith) (omega arith) in
        same_name ∙ rw (p, c, q)
