-- What one turn of each loop does to the definition that its function meets.
use Rattle.model.proofs.Prelude.{Bool, List, [], ◌&&◌, ◌*◌, ◌++◌, ◌+◌, ◌<◌, ◌^◌, ◌∙◌, ◌∷◌, ◌≡◌, ◌≤◌, and-false, and-true, append-nil, arith, cond, dec_lt, drop, drop-cons, drop_of_length-le, eq-eqb, eqb, eqb-true, false, get_or, le-leb, le-ltb, leb, length, length-take, lt-leb, lt-ltb, ltb, mul-le-mul_right, ne_eqb, not, not-false, not-true, refl, replicate, suc, suc-mul, sym, take, take_all, take-append-le, take-nil, true, ℕ, ℕ_discrete}
use Rattle.std.specs.List.{list_all}
use Rattle.std.specs.Prelude.{◌==◌}
use Rattle.model.specs.Names.{filled, not_greater, within}
use Rattle.model.specs.Order.{diff, first_digit, last_digit}
use Rattle.model.specs.Tests.{are_digits, is_blank_digit, is_legal_bound, is_legal_filled, is_legal_name}
use Rattle.model.proofs.Lists.{drop-replicate}
use Rattle.model.proofs.Order.{diff_apart}
use Rattle.model.proofs.Names.{filled_short, no_blank}
use Rattle.digits.specs.declared.Key.{Key}
use Rattle.digits.specs.Keys.{is_all_zero, key_value}

-- A check that gathers: w of the whole is a so far and b of what is left.
pub gathers : (w a b c d r : Bool) → w ≡ (a && b) → b ≡ (c && d) → r ≡ (a && c) → w ≡ (r && d)
gathers w true b c d r p q s = p ∙ q ∙ rw s
gathers w false b c d r p q s = p ∙ rw s

pub gathered : (w a b : Bool) → w ≡ (a && b) → b ≡ true → a ≡ w
gathered w true b p q = sym (p ∙ q)
gathered w false b p q = sym p

pub all_zero : (s : List ℕ) → list_all (λ x. x == 0) s ≡ is_all_zero s
unfolding is_all_zero
all_zero [] = refl
all_zero (x ∷ s) = rw (all_zero s)

pub all_digits : (s : List ℕ) → list_all (λ x. leb 0x20 x && leb x 0x7D) s ≡ are_digits 0x20 s
unfolding are_digits
all_digits [] = refl
all_digits (x ∷ s) = rw (all_digits s)

-- A name within a bound, decided by the digits at i.
module _ (n p : List ℕ) (i : ℕ) where
  within_less : i < length n → i < length p → get_or n i 0 < get_or p i 0 → within (drop i n) (drop i p) ≡ true
  unfolding within not_greater
  within_less hn hp h = rw (drop-cons n i 0 hn, drop-cons p i 0 hp, lt-ltb (get_or n i 0) (get_or p i 0) h)

  within_more : i < length n → i < length p → get_or p i 0 < get_or n i 0 → within (drop i n) (drop i p) ≡ false
  unfolding within not_greater
  within_more hn hp h = rw (drop-cons n i 0 hn, drop-cons p i 0 hp, le-ltb (get_or n i 0) (get_or p i 0) (omega arith), ne_eqb (get_or n i 0) (get_or p i 0) (λ e. omega arith))

  within_short : length n ≤ i → within (drop i n) (drop i p) ≡ true
  unfolding within not_greater
  within_short h = rw (drop_of_length-le n h, take-nil)

  within_end : length p ≤ i → within (drop i n) (drop i p) ≡ true
  unfolding within not_greater
  within_end h = rw (drop_of_length-le p h)

-- The digits that a name and a bound share decide nothing.
within_shared : (n p : List ℕ) → within n p ≡ within (drop (diff n p) n) (drop (diff n p) p)
unfolding within not_greater
within_shared [] p = refl
within_shared (a ∷ n) [] = refl
within_shared (a ∷ n) (b ∷ p) = go (eqb a b) refl (within_shared n p)
  where
    go : (t : Bool) → eqb a b ≡ t → within n p ≡ within (drop (diff n p) n) (drop (diff n p) p)
        → within (a ∷ n) (b ∷ p) ≡ within (drop (cond t (suc (diff n p)) 0) (a ∷ n)) (drop (cond t (suc (diff n p)) 0) (b ∷ p))
    go true e r = rw (le-ltb a b (omega (arith, eqb-true a b e)), e) r
    go false m r = refl

-- So the first difference decides.
module _ (n p : List ℕ) (i : ℕ) (e : i ≡ diff n p) where
  first_drops : within n p ≡ within (drop i n) (drop i p)
  first_drops = rw e (within_shared n p)

  pub within_all : length p ≤ i → true ≡ within n p
  within_all h = sym (first_drops ∙ within_end n p i h)

  pub within_none : length n ≤ i → true ≡ within n p
  within_none h = sym (first_drops ∙ within_short n p i h)

  pub within_there : i < length n → i < length p → ltb (get_or n i 0) (get_or p i 0) ≡ within n p
  within_there h k = elim (dec_lt (get_or n i 0) (get_or p i 0)) [
    | yes l ↦ lt-ltb (get_or n i 0) (get_or p i 0) l ∙ sym (first_drops ∙ within_less n p i h k l)
    | no l ↦ le-ltb (get_or n i 0) (get_or p i 0) (omega arith) ∙ sym (first_drops ∙ within_more n p i h k (omega (arith, l, apart)))
  ]
    where
      apart : ¬ (get_or n i 0 ≡ get_or p i 0)
      apart = rw e (diff_apart n p (omega arith) (omega arith))

-- What two strings share, from i on.
module _ (x y : List ℕ) (i : ℕ) where
  pub diff_short : length y ≤ i → diff (drop i x) (drop i y) ≡ 0
  diff_short h = rw (drop_of_length-le y h) (go (drop i x))
    where
      go : (z : List ℕ) → diff z [] ≡ 0
      go [] = refl
      go (a ∷ z) = refl

  pub diff_end : length x ≤ i → diff (drop i x) (drop i y) ≡ 0
  diff_end h = rw (drop_of_length-le x h)

-- The first i digits of a name, filled.
unfoldable pub filled_to : List ℕ → ℕ → List ℕ
filled_to n i = take i n ++ drop i (replicate 24 0x20)

pub filled_full : (n : List ℕ) (i : ℕ) → i ≡ 24 → 24 ≤ length n → filled_to n i ≡ filled n
unfolding filled_to filled
filled_full n i e h = rw (e, append-nil, take-append-le 24 n (replicate 24 0x20) h)

pub filled_all : (n : List ℕ) (i : ℕ) → i ≡ length n → i ≤ 24 → filled_to n i ≡ filled n
unfolding filled_to
filled_all n i e h = rw (e, take_all (length n) n (omega arith), drop-replicate) (sym (filled_short n (omega arith)))

-- All digits, or the first 24.
pub filled_most : (n : List ℕ) (i : ℕ) → i ≤ 24 → i ≤ length n → (i < 24 → i ≡ length n) → filled_to n i ≡ filled n
filled_most n i h k f = go (dec_lt i 24)
  where
    go : Dec (i < 24) → filled_to n i ≡ filled n
    go (yes l) = filled_all n i (f l) h
    go (no l) = filled_full n i (omega arith) (omega arith)

-- Two numbers as one, in a base m.
pub pair_lt : (m a b a' b' : ℕ) → a < a' → b < m → a * m + b < a' * m + b'
pair_lt m a b a' b' h k = let p : suc a * m ≤ a' * m = mul-le-mul_right m h in omega (arith, suc-mul a m)

pair_last : (m a b a' b' : ℕ) → a ≡ a' → b < b' → a * m + b < a' * m + b'
pair_last m a b a' b' e h = rw e (omega arith)

-- Keys stand by their first word that differs.
module _ (x y : Key) where
  pub lt_first : x.a < y.a → x.b < 2 ^ 64 → x.c < 2 ^ 64 → key_value x < key_value y
  unfolding key_value
  lt_first h b c = pair_lt (2 ^ 64) (x.a * 2 ^ 64 + x.b) x.c (y.a * 2 ^ 64 + y.b) y.c (pair_lt (2 ^ 64) x.a x.b y.a y.b h b) c

  pub lt_second : x.a ≡ y.a → x.b < y.b → x.c < 2 ^ 64 → key_value x < key_value y
  unfolding key_value
  lt_second e h c = pair_lt (2 ^ 64) (x.a * 2 ^ 64 + x.b) x.c (y.a * 2 ^ 64 + y.b) y.c (pair_last (2 ^ 64) x.a x.b y.a y.b e h) c

  pub lt_third : x.a ≡ y.a → x.b ≡ y.b → x.c < y.c → key_value x < key_value y
  unfolding key_value
  lt_third e f h = pair_last (2 ^ 64) (x.a * 2 ^ 64 + x.b) x.c (y.a * 2 ^ 64 + y.b) y.c (rw (e, f)) h

  pub same_key : x.a ≡ y.a → x.b ≡ y.b → x.c ≡ y.c → key_value x ≡ key_value y
  unfolding key_value
  same_key e f g = rw (e, f, g)

module _ (x y : Key) (a : x.a ≡ y.a) (b : x.b ≡ y.b) where
  pub below_last : ltb x.c y.c ≡ ltb (key_value x) (key_value y)
  below_last = elim (dec_lt x.c y.c) [
    | yes h ↦ lt-ltb x.c y.c h ∙ sym (lt-ltb (key_value x) (key_value y) (lt_third x y a b h))
    | no h ↦ le-ltb x.c y.c (omega arith) ∙ sym (le-ltb (key_value x) (key_value y) (le (ℕ_discrete x.c y.c) h))
  ]
    where
      le : Dec (x.c ≡ y.c) → (x.c < y.c → ⊥) → key_value y ≤ key_value x
      le (yes e) h = omega (arith, same_key x y a b e)
      le (no n) h = omega (arith, lt_third y x (sym a) (sym b) (omega arith))

  pub same_last : eqb x.c y.c ≡ eqb (key_value x) (key_value y)
  same_last = elim (ℕ_discrete x.c y.c) [
    | yes e ↦ eq-eqb x.c y.c e ∙ sym (eq-eqb (key_value x) (key_value y) (same_key x y a b e))
    | no n ↦ ne_eqb x.c y.c n ∙ sym (ne_eqb (key_value x) (key_value y) (λ e. differ (dec_lt x.c y.c) n e))
  ]
    where
      differ : Dec (x.c < y.c) → (x.c ≡ y.c → ⊥) → key_value x ≡ key_value y → ⊥
      differ (yes h) n e = omega (arith, lt_third x y a b h)
      differ (no h) n e = omega (arith, lt_third y x (sym a) (sym b) (omega arith))

module _ (x y : Key) (xc : x.c < 2 ^ 64) (yc : y.c < 2 ^ 64) (e : key_value x ≡ key_value y) where
  pub same_first : x.b < 2 ^ 64 → y.b < 2 ^ 64 → x.a ≡ y.a
  same_first xb yb = elim (dec_lt x.a y.a) [
    | yes h ↦ absurd (omega (arith, lt_first x y h xb xc))
    | no h ↦ elim (dec_lt y.a x.a) [ yes k ↦ absurd (omega (arith, lt_first y x k yb yc)) | no k ↦ omega arith ]
  ]

  pub same_second : x.a ≡ y.a → x.b ≡ y.b
  same_second a = elim (dec_lt x.b y.b) [
    | yes h ↦ absurd (omega (arith, lt_second x y a h xc))
    | no h ↦ elim (dec_lt y.b x.b) [ yes k ↦ absurd (omega (arith, lt_second y x (sym a) k yc)) | no k ↦ omega arith ]
  ]

-- Two keys are the same where their words are.
pub same_words : (x y : Key) → x.b < 2 ^ 64 → x.c < 2 ^ 64 → y.b < 2 ^ 64 → y.c < 2 ^ 64
    → (eqb x.a y.a && (eqb x.b y.b && eqb x.c y.c)) ≡ eqb (key_value x) (key_value y)
same_words x y xb xc yb yc = elim (ℕ_discrete x.a y.a) [
  | no n ↦ rw (ne_eqb x.a y.a n) (sym (ne_eqb (key_value x) (key_value y) (λ e. n (same_first x y xc yc e xb yb))))
  | yes a ↦ elim (ℕ_discrete x.b y.b) [
    | no n ↦ rw (eq-eqb x.a y.a a, ne_eqb x.b y.b n) (sym (ne_eqb (key_value x) (key_value y) (λ e. n (same_second x y xc yc e a))))
    | yes b ↦ rw (eq-eqb x.a y.a a, eq-eqb x.b y.b b) (same_last x y a b)
  ]
]

-- What `x != y` says of two keys, answered yes and no.
module _ (x y : Key) (xb : x.b < 2 ^ 64) (xc : x.c < 2 ^ 64) (yb : y.b < 2 ^ 64) (yc : y.c < 2 ^ 64) (r : Bool) (e : r ≡ not (eqb x.a y.a && (eqb x.b y.b && eqb x.c y.c))) where
  pub other_keys : r ≡ true → eqb (key_value x) (key_value y) ≡ false
  other_keys t = sym (same_words x y xb xc yb yc) ∙ not-true _ (sym e ∙ t)

  pub same_keys : r ≡ false → eqb (key_value x) (key_value y) ≡ true
  same_keys t = sym (same_words x y xb xc yb yc) ∙ not-false _ (sym e ∙ t)

-- A name is legal where neither its first nor its last digit is a blank and all are digits.
pub no_name : (n : List ℕ) → length n < 1 → is_legal_name n ≡ false
unfolding is_legal_name
no_name n h = rw (lt-leb 1 (length n) h)

pub long_name : (n : List ℕ) → 24 < length n → is_legal_name n ≡ false
unfolding is_legal_name
long_name n h = rw (lt-leb (length n) 24 h, and-false (leb 1 (length n)))

pub blank_first : (n : List ℕ) → first_digit n ≡ 0x20 → is_legal_name n ≡ false
unfolding is_legal_name
blank_first n e = rw (eq-eqb (first_digit n) 0x20 e, and-false (leb 1 (length n) && leb (length n) 24 && are_digits 0x20 n))

pub blank_last : (n : List ℕ) → last_digit n ≡ 0x20 → is_legal_name n ≡ false
unfolding is_legal_name
blank_last n e = rw (eq-eqb (last_digit n) 0x20 e) (and-false (leb 1 (length n) && leb (length n) 24 && are_digits 0x20 n && not (is_blank_digit (first_digit n))))

pub legal_name : (n : List ℕ) → 1 ≤ length n → length n ≤ 24 → (first_digit n ≡ 0x20 → ⊥) → (last_digit n ≡ 0x20 → ⊥) → is_legal_name n ≡ are_digits 0x20 n
unfolding is_legal_name
legal_name n h k f l =
    rw (le-leb 1 (length n) h, le-leb (length n) 24 k, no_blank (first_digit n) f, no_blank (last_digit n) l, and-true (are_digits 0x20 n)) (and-true (are_digits 0x20 n))

-- 24 bytes are a filled name where the first is no blank and all are digits.
pub filled_name : (s : List ℕ) → (first_digit s ≡ 0x20 → ⊥) → length s ≡ 24 → is_legal_filled s ≡ are_digits 0x20 s
unfolding is_legal_filled
filled_name s e h = rw (eq-eqb (length s) 24 h, no_blank (first_digit s) e) (and-true (are_digits 0x20 s))

-- A bound's beginning fits.
pub legal_part : (len : ℕ) (s : List ℕ) → len ≤ 24 → is_legal_bound (take len s) ≡ are_digits 0x20 (take len s)
unfolding is_legal_bound
legal_part len s h = rw (le-leb (length (take len s)) 24 (omega (arith, length-take len s)))
