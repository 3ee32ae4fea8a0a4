-- The tests of names and bounds are what they test; a filled name has one name; within and not above are one; the split
-- string is the first difference's.
use Rattle.model.proofs.Prelude.{get_or_append, [], ◌&&◌, ◌++◌, ◌+◌, ◌-◌, ◌<◌, ◌∙◌, ◌∷◌, ◌≡◌, ◌≤◌, ap, ap₂, arith, clash, dec_le, eq-eqb, eqb, eqb-true, false, get_or, get_or-append-add, get_or-replicate, le-leb, leb, leb-true, length, length-append, length-replicate, length-take, ne_eqb, not, refl, replicate, suc, sym, take, take-append_seam, true, zero, ℕ, ℕ_discrete}
use Rattle.model.specs.Order.{Str, ◌≺◌, diff, first_digit, last_digit}
use Rattle.model.specs.Tests.{are_digits, is_at_most, is_blank_digit, is_legal_bound, is_legal_filled, is_legal_name}
use Rattle.model.specs.Names.{Bound, Digits, Legal, filled, not_greater, split_beginning, split_tried, within}
use Rattle.model.proofs.Lists.{length_made, made_short}
use Rattle.model.proofs.Order.{diff_lt_left, le_refl, le_take, lt_le_trans, split_lt, split_shortest}
use Rattle.model.proofs.Tests.{both_true, le_is_at_most, lt_is_at_most}

-- A name is within a bound exactly where it is not above it.
pub within_is_at_most : (n p : Str) → length p ≤ length n → within n p ≡ is_at_most n p
unfolding within not_greater is_at_most
within_is_at_most n p h = go n p h
  where
    go : (n p : Str) → length p ≤ length n → not_greater (take (length p) n) p ≡ is_at_most n p
    go [] [] h = refl
    go (a ∷ n) [] h = refl
    go [] (b ∷ p) h = absurd (omega arith)
    go (a ∷ n) (b ∷ p) h = rw (go n p (omega arith))

-- Names, filled.
pub length_filled : (n : Str) → length (filled n) ≡ 24
unfolding filled
length_filled n = length_made 24 0x20 n

pub filled_short : (n : Str) → length n ≤ 24 → filled n ≡ n ++ replicate (24 - length n) 0x20
unfolding filled
filled_short n h = made_short 24 0x20 n h

pub legal_length : {n : Str} → Legal n → length n ≡ 24
legal_length g = ap length g.is ∙ length_filled g.name

digits_fill : (x : Str) (k : ℕ) → Digits 0x20 x → Digits 0x20 (x ++ replicate k 0x20)
digits_fill [] zero h = tt
digits_fill [] (suc k) h = (omega arith, omega arith, digits_fill [] k tt)
digits_fill (d ∷ x) k h = (h.0, h.1, digits_fill x k h.2)

pub digits_front : (x y : Str) → Digits 0x20 (x ++ y) → Digits 0x20 x
digits_front [] y h = tt
digits_front (d ∷ x) y h = (h.0, h.1, digits_front x y h.2)

digits_take : (k : ℕ) (x : Str) → Digits 0x20 x → Digits 0x20 (take k x)
digits_take zero x h = tt
digits_take (suc k) [] h = tt
digits_take (suc k) (d ∷ x) h = (h.0, h.1, digits_take k x h.2)

pub legal_digits : {n : Str} → Legal n → Digits 0x20 n
unfolding filled
legal_digits g = rw g.is (digits_take 24 (g.name ++ replicate 24 0x20) (digits_fill g.name 24 g.digits))

-- A beginning of a name is a bound.
pub legal_bound : {n : Str} → Legal n → (k : ℕ) → Bound (take k n)
legal_bound {n} g k = record {
  fits = omega (arith, length-take k n, legal_length g);
  digits = digits_take k n (legal_digits g);
}

pub are_digits_digits : (lo : ℕ) (x : Str) → are_digits lo x ≡ true → Digits lo x
unfolding are_digits
are_digits_digits lo [] e = tt
are_digits_digits lo (d ∷ x) e =
    let p = both_true (leb lo d && leb d 0x7D) (are_digits lo x) e in
    let q = both_true (leb lo d) (leb d 0x7D) p.0 in
    (leb-true lo d q.0, leb-true d 0x7D q.1, are_digits_digits lo x p.1)

pub digits_are_digits : (lo : ℕ) (x : Str) → Digits lo x → are_digits lo x ≡ true
unfolding are_digits
digits_are_digits lo [] h = refl
digits_are_digits lo (d ∷ x) h = rw (le-leb lo d h.0, le-leb d 0x7D h.1, digits_are_digits lo x h.2)

-- Digits that are no blanks.
pub no_blank : (d : ℕ) → ¬ (d ≡ 0x20) → not (is_blank_digit d) ≡ true
no_blank d n = rw (ne_eqb d 0x20 n)

pub blank_no : (d : ℕ) → not (is_blank_digit d) ≡ true → ¬ (d ≡ 0x20)
blank_no d e q = let z : not true ≡ true = rw (eq-eqb d 0x20 q) at e in clash cc

pub is_legal_name_legal : (n : Str) → is_legal_name n ≡ true → Legal (filled n)
unfolding is_legal_name
is_legal_name_legal n e =
    let p = both_true (leb 1 (length n) && leb (length n) 24 && are_digits 0x20 n && not (is_blank_digit (first_digit n))) (not (is_blank_digit (last_digit n))) e in
    let q = both_true (leb 1 (length n) && leb (length n) 24 && are_digits 0x20 n) (not (is_blank_digit (first_digit n))) p.0 in
    let r = both_true (leb 1 (length n) && leb (length n) 24) (are_digits 0x20 n) q.0 in
    let s = both_true (leb 1 (length n)) (leb (length n) 24) r.0 in
    record {
      name = n;
      some = leb-true 1 (length n) s.0;
      fits = leb-true (length n) 24 s.1;
      digits = are_digits_digits 0x20 n r.1;
      first = blank_no (first_digit n) q.1;
      last = blank_no (last_digit n) p.1;
      is = refl;
    }

pub is_legal_bound_bound : (p : Str) → is_legal_bound p ≡ true → Bound p
unfolding is_legal_bound
is_legal_bound_bound p e =
    let q = both_true (leb (length p) 24) (are_digits 0x20 p) e in
    record { fits = leb-true (length p) 24 q.0; digits = are_digits_digits 0x20 p q.1 }

pub bound_is_legal_bound : {p : Str} → Bound p → is_legal_bound p ≡ true
unfolding is_legal_bound
bound_is_legal_bound {p} g = rw (le-leb (length p) 24 g.fits, digits_are_digits 0x20 p g.digits)

-- Of a string, what stands before the blanks at its end.
record Ended (n : Str) : Type 0 where
  name : Str
  behind : ℕ
  is : n ≡ name ++ replicate behind 0x20
  last : 0 < length name → ¬ (last_digit name ≡ 0x20)

pub last_later : (d a : ℕ) (x : Str) → last_digit (d ∷ a ∷ x) ≡ last_digit (a ∷ x)
last_later d a x = let e : suc (suc (length x)) - 1 ≡ suc (suc (length x) - 1) = omega arith in rw e

ended : (n : Str) → Ended n
ended [] = record { name = []; behind = 0; is = refl; last = λ h. absurd (omega arith) }
ended (d ∷ n) = let r = ended n in go r.name r.behind r.is r.last
  where
    go : (name : Str) (k : ℕ) → n ≡ name ++ replicate k 0x20 → (0 < length name → ¬ (last_digit name ≡ 0x20)) → Ended (d ∷ n)
    go [] k i l = elim (ℕ_discrete d 0x20) [
      | yes e ↦ record { name = []; behind = suc k; is = ap₂ (λ (a : ℕ) (x : Str). a ∷ x) e i; last = λ h. absurd (omega arith) }
      | no e ↦ record { name = d ∷ []; behind = k; is = ap (λ (x : Str). d ∷ x) i; last = λ h. e }
    ]
    go (a ∷ x) k i l = record { name = d ∷ a ∷ x; behind = k; is = ap (λ (x : Str). d ∷ x) i; last = λ h q. l (omega arith) (sym (last_later d a x) ∙ q) }

-- 24 digits of which the first is no blank are a legal name, filled.
pub is_legal_filled_legal : (n : Str) → is_legal_filled n ≡ true → Legal n
unfolding is_legal_filled
is_legal_filled_legal n e =
    let p = both_true (eqb (length n) 24 && are_digits 0x20 n) (not (is_blank_digit (first_digit n))) e in
    let q = both_true (eqb (length n) 24) (are_digits 0x20 n) p.0 in
    let r = ended n in
    go r.name r.behind r.is r.last (eqb-true (length n) 24 q.0) (are_digits_digits 0x20 n q.1) (blank_no (first_digit n) p.1)
  where
    go : (name : Str) (k : ℕ) → n ≡ name ++ replicate k 0x20 → (0 < length name → ¬ (last_digit name ≡ 0x20)) → length n ≡ 24 → Digits 0x20 n → ¬ (first_digit n ≡ 0x20) → Legal n
    go [] zero i l len d f = let z : length n ≡ 0 = ap length i in absurd (omega arith)
    go [] (suc k) i l len d f = absurd (f (ap first_digit i))
    go (a ∷ x) k i l len d f =
        let sum : suc (length x) + k ≡ 24 =
        sym (length-append (a ∷ x) (replicate k 0x20) ∙ ap (λ (j : ℕ). suc (length x) + j) (length-replicate {A = ℕ} k 0x20)) ∙ sym (ap length i) ∙ len in
        let b : 24 - suc (length x) ≡ k = omega arith in
        record {
          name = a ∷ x;
          some = omega arith;
          fits = omega arith;
          digits = digits_front (a ∷ x) (replicate k 0x20) (rw i at d);
          first = λ q. f (ap first_digit i ∙ q);
          last = l (omega arith);
          is = i ∙ sym (filled_short (a ∷ x) (omega arith) ∙ ap (λ (j : ℕ). a ∷ (x ++ replicate j 0x20)) b);
        }

-- Filling leaves the digits of a name where they are, and puts blanks behind them.
pub filled_at : (n : Str) (i : ℕ) → length n ≤ 24 → i < length n → get_or (filled n) i 0 ≡ get_or n i 0
filled_at n i h k = rw (filled_short n h) (get_or_append n (replicate (24 - length n) 0x20) 0 i k)

pub filled_behind : (n : Str) (i : ℕ) → length n ≤ i → i < 24 → get_or (filled n) i 0 ≡ 0x20
filled_behind n i h k =
    let e : length n + (i - length n) ≡ i = omega arith in
    rw (filled_short n (omega arith), ← e) (get_or-append-add n (replicate (24 - length n) 0x20) (i - length n) 0 ∙ get_or-replicate (24 - length n) (i - length n) 0x20 0 (omega arith))

pub legal_is_legal_filled : {n : Str} → Legal n → is_legal_filled n ≡ true
unfolding is_legal_filled
legal_is_legal_filled {n} g =
    let f : first_digit n ≡ first_digit g.name = ap first_digit g.is ∙ filled_at g.name 0 g.fits g.some in
    rw (eq-eqb (length n) 24 (legal_length g), digits_are_digits 0x20 n (legal_digits g), no_blank (first_digit n) (λ e. g.first (sym f ∙ e)))

-- A filled name has one name: what stands before the blanks at its end.
no_longer : (m n : Str) → length m ≤ 24 → length n ≤ 24 → 0 < length n → ¬ (last_digit n ≡ 0x20) → filled m ≡ filled n → length n ≤ length m
no_longer m n h k s l e = elim (dec_le (length n) (length m)) [
  | yes j ↦ j
  | no j ↦ absurd (l (sym (filled_at n (length n - 1) k (omega arith)) ∙ ap (λ (x : Str). get_or x (length n - 1) 0) (sym e) ∙ filled_behind m (length n - 1) (omega arith) (omega arith)))
]

pub one_name : (m n : Str) → length m ≤ 24 → length n ≤ 24 → 0 < length m → 0 < length n → ¬ (last_digit m ≡ 0x20) → ¬ (last_digit n ≡ 0x20) → filled m ≡ filled n → m ≡ n
one_name m n h k s r f l e =
    let a = no_longer m n h k r l e in
    let b = no_longer n m k h s f (sym e) in
    let c : length n ≡ length m = omega arith in
    let front : (w : Str) → length w ≤ 24 → take (length w) (filled w) ≡ w = λ w j. ap (take (length w)) (filled_short w j) ∙ take-append_seam w (replicate (24 - length w) 0x20) in
    sym (front m h) ∙ ap (take (length m)) e ∙ ap (λ (j : ℕ). take j (filled n)) (sym c) ∙ front n k

-- The split string.
is_below : (c z : Str) → c ≺ z → is_at_most (take (suc (diff c z)) z) (take (suc (diff c z)) c) ≡ false
is_below c z p = let k : ℕ = suc (diff c z) in lt_is_at_most (take k z) (take k c) (lt_le_trans (split_lt c z p) (le_take k z))

split_from : (f i : ℕ) (c z : Str) → c ≺ z → i ≤ suc (diff c z) → suc (diff c z) ≤ i + f
    → split_tried f i c z ≡ take (suc (diff c z)) c
unfolding split_tried
split_from zero i c z p lo up = let e : i ≡ suc (diff c z) = omega arith in rw e
split_from (suc f) i c z p lo up = elim (dec_le i (diff c z)) [
  | yes k ↦ rw (split_shortest c z i k, le_is_at_most (take i z) (take i z) (le_refl (take i z))) (split_from f (suc i) c z p (omega arith) (omega arith))
  | no k ↦ let e : i ≡ suc (diff c z) = omega arith in rw (e, is_below c z p)
]

pub split_is : (c z : Str) → c ≺ z → split_beginning c z ≡ take (suc (diff c z)) c
unfolding split_beginning
split_is c z p = split_from (length c) 0 c z p (omega arith) (omega (arith, diff_lt_left c z p))
