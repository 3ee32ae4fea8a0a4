-- Strings as numbers: a number's parts, and the one order.
use Rattle.model.proofs.Prelude.{List, [], ◌%◌, ◌&&◌, ◌*◌, ◌++◌, ◌+◌, ◌-◌, ◌<◌, ◌^◌, ◌∙◌, ◌∷◌, ◌≡◌, ◌≤◌, add-mul, and_assoc, ap, arith, cond, dec_le, dec_lt, drop, drop-drop, eq-eqb, eqb, eqb-true, false, get_or, le-leb, le-ltb, leb, length, length-append, length-drop, length-take, lt-leb, lt-ltb, ltb, mul_assoc, mul-le-mul_right, ne_eqb, not, one-le-pow, pow-suc, refl, replicate, sub-zero, suc, suc-mul, sym, take, take-add, take_at, take-take, true, unary_clauses, zero, zero-add, zero-mul, ℕ, ℕ_discrete}
use Rattle.model.specs.Tests.{is_at_most}
use Rattle.std.proofs.Common.{pow-add}
use Rattle.model.specs.Names.{Digits}
use Rattle.model.specs.Format.{AreBytes}
use Rattle.model.proofs.Lists.{drop-take, length_made}
use Rattle.model.proofs.Order.{le_antisym, le_refl}
use Rattle.model.proofs.Tests.{both_true, is_at_most_le, le_is_at_most}
use Rattle.model.proofs.Format.{bytes_drop, bytes_each, bytes_made, bytes_take}
use Rattle.digits.proofs.Laws.{pair_lt}
use Rattle.digits.specs.Keys.{continued, is_all_zero, value}

pub value_lt : (x : List ℕ) → AreBytes x → value x < 256 ^ length x
unfolding value
value_lt [] h = omega arith
value_lt (d ∷ x) h =
    let r = value_lt x h.1 in
    let p : suc d * 256 ^ length x ≤ 256 * 256 ^ length x = mul-le-mul_right (256 ^ length x) h.0 in
    omega (arith, suc-mul d (256 ^ length x), pow-suc 256 (length x))

pub value_append : (x y : List ℕ) → value (x ++ y) ≡ value x * 256 ^ length y + value y
unfolding value
value_append [] y = omega arith
value_append (d ∷ x) y =
    rw (value_append x y, length-append x y, pow-add 256 (length x) (length y))
    (omega (arith, add-mul (d * 256 ^ length x) (value x) (256 ^ length y), mul_assoc d (256 ^ length x) (256 ^ length y)))

-- A part of a string, taken apart.
module _ (s : List ℕ) (at : ℕ) where
  pub length_part : (n : ℕ) → at + n ≤ length s → length (take n (drop at s)) ≡ n
  length_part n h = omega (arith, length-take n (drop at s), length-drop at s)

  pub value_split : (k n : ℕ) → at + k + n ≤ length s
      → value (take (k + n) (drop at s)) ≡ value (take k (drop at s)) * 256 ^ n + value (take n (drop (at + k) s))
  value_split k n h =
      rw (take-add k n (drop at s), drop-drop k at s, value_append)
      (ap (λ (m : ℕ). value (take k (drop at s)) * 256 ^ m + value (take n (drop (at + k) s))) (omega (arith, length-take n (drop (at + k) s), length-drop (at + k) s)))

  -- Three words.
  pub value_words : at + 24 ≤ length s
      → value (take 24 (drop at s)) ≡ (value (take 8 (drop at s)) * 2 ^ 64 + value (take 8 (drop (at + 8) s))) * 2 ^ 64 + value (take 8 (drop (at + 16) s))
  value_words h = value_split 16 8 (omega arith) ∙ ap (λ (v : ℕ). v * 2 ^ 64 + value (take 8 (drop (at + 16) s))) (value_split 8 8 (omega arith))

-- The bytes from k on, as 0xFF.
unfoldable pub cover : ℕ → List ℕ → List ℕ
cover zero [] = []
cover zero (d ∷ x) = 0xFF ∷ cover zero x
cover (suc k) [] = []
cover (suc k) (d ∷ x) = d ∷ cover k x

length_cover : (k : ℕ) (x : List ℕ) → length (cover k x) ≡ length x
unfolding cover
length_cover zero [] = refl
length_cover zero (d ∷ x) = ap suc (length_cover zero x)
length_cover (suc k) [] = refl
length_cover (suc k) (d ∷ x) = ap suc (length_cover k x)

cover_append : (k : ℕ) (x y : List ℕ) → cover k (x ++ y) ≡ cover k x ++ cover (k - length x) y
unfolding cover
cover_append zero [] y = refl
cover_append zero (d ∷ x) y = let e : 0 - suc (length x) ≡ 0 - length x = omega arith in rw e (ap (λ (r : List ℕ). 0xFF ∷ r) (cover_append zero x y))
cover_append (suc k) [] y = simp unary_clauses
cover_append (suc k) (d ∷ x) y = simp unary_clauses (ap (λ (r : List ℕ). d ∷ r) (cover_append k x y))

bytes_cover : (k : ℕ) (x : List ℕ) → AreBytes x → AreBytes (cover k x)
unfolding cover
bytes_cover zero [] h = tt
bytes_cover zero (d ∷ x) h = (omega arith, bytes_cover zero x h.1)
bytes_cover (suc k) [] h = tt
bytes_cover (suc k) (d ∷ x) h = (h.0, bytes_cover k x h.1)

-- Where the bytes from k on are zero, one sum makes them 0xFF.
pub value_cover : (k : ℕ) (x : List ℕ) → is_all_zero (drop k x) ≡ true → value (cover k x) + 1 ≡ value x + 256 ^ (length x - k)
unfolding value cover is_all_zero
value_cover zero [] h = refl
value_cover zero (d ∷ x) h =
    let p = both_true (eqb d 0) (is_all_zero x) h in
    let e : d ≡ 0 = eqb-true d 0 p.0 in
    let r = value_cover zero x p.1 in
    rw (e, length_cover zero x, sub-zero) (omega (arith, simp sub-zero at r, pow-suc 256 (length x)))
value_cover (suc k) [] h = let e : 0 - suc k ≡ 0 = omega arith in rw e
value_cover (suc k) (d ∷ x) h =
    let r = value_cover k x h in
    let e : suc (length x) - suc k ≡ length x - k = omega arith in
    rw (length_cover k x, e) (omega arith)

cover_is : (k : ℕ) (x : List ℕ) (m : ℕ) → length x ≤ m → cover k x ≡ take (length x) (take k x ++ replicate m 0xFF)
unfolding cover
cover_is zero [] m h = refl
cover_is zero (d ∷ x) zero h = absurd (omega arith)
cover_is zero (d ∷ x) (suc m) h = ap (λ (r : List ℕ). 0xFF ∷ r) (cover_is zero x m (omega arith))
cover_is (suc k) [] m h = refl
cover_is (suc k) (d ∷ x) m h = ap (λ (r : List ℕ). d ∷ r) (cover_is k x m (omega arith))

-- A string in 24 bytes, continued.
pub cover_continued : (k : ℕ) (x : List ℕ) → length x ≡ 24 → cover k x ≡ continued (take k x)
unfolding continued
cover_continued k x h = cover_is k x 24 (omega arith) ∙ ap (λ (n : ℕ). take n (take k x ++ replicate 24 0xFF)) h

pub zero_append : (x y : List ℕ) → is_all_zero (x ++ y) ≡ (is_all_zero x && is_all_zero y)
unfolding is_all_zero
zero_append [] y = refl
zero_append (d ∷ x) y = rw (zero_append x y) (sym (and_assoc (eqb d 0) (is_all_zero x) (is_all_zero y)))

drop_append : (k : ℕ) (x y : List ℕ) → drop k (x ++ y) ≡ drop k x ++ drop (k - length x) y
drop_append zero [] y = refl
drop_append zero (d ∷ x) y = let e : 0 - suc (length x) ≡ 0 = omega arith in rw e
drop_append (suc k) [] y = simp unary_clauses
drop_append (suc k) (d ∷ x) y = simp unary_clauses (drop_append k x y)

zero_split : (k n : ℕ) (x y : List ℕ) → length x ≡ n → is_all_zero (drop k (x ++ y)) ≡ true → (is_all_zero (drop k x) ≡ true) × (is_all_zero (drop (k - n) y) ≡ true)
zero_split k n x y e h = both_true (is_all_zero (drop k x)) (is_all_zero (drop (k - n) y)) (rw (drop_append k x y, zero_append, e) at h)

cover_split : (k n : ℕ) (x y : List ℕ) → length x ≡ n → length y ≡ 8 → value (cover k (x ++ y)) ≡ value (cover k x) * 2 ^ 64 + value (cover (k - n) y)
cover_split k n x y e f = rw (cover_append k x y, value_append, e, length_cover (k - n) y, f)

pub bytes_part : (s : List ℕ) (n at : ℕ) → ((i : ℕ) → get_or s i 0 < 256) → AreBytes (take n (drop at s))
bytes_part s n at h = bytes_take n (drop at s) (bytes_drop at s (bytes_each s h))

-- A word and the fill of what lies behind the string's end: nothing wraps.
pub word_filled : (x : List ℕ) (k w g r : ℕ) → AreBytes x → length x ≡ 8 → is_all_zero (drop k x) ≡ true → w ≡ value x → g + 1 ≡ 256 ^ (8 - k) → r ≡ (w + g) % 2 ^ 64
    → r + 1 ≡ value x + 256 ^ (8 - k)
word_filled x k w g r b e z f h q =
    let c : value (cover k x) + 1 ≡ value x + 256 ^ (8 - k) = rw e at (value_cover k x z) in
    let l : value (cover k x) < 256 ^ 8 = rw (length_cover k x, e) at (value_lt (cover k x) (bytes_cover k x b)) in
    omega arith

word_covered : (x : List ℕ) (k r : ℕ) → length x ≡ 8 → is_all_zero (drop k x) ≡ true → r + 1 ≡ value x + 256 ^ (8 - k) → r ≡ value (cover k x)
word_covered x k r e z h = let c : value (cover k x) + 1 ≡ value x + 256 ^ (8 - k) = rw e at (value_cover k x z) in omega arith

-- Three such words are the bound's key.
module _ (s : List ℕ) (at len a b c : ℕ) (room : at + 24 ≤ length s) (fits : len ≤ 24) (behind : is_all_zero (take (24 - len) (drop (at + len) s)) ≡ true) where
  abbrev x : List ℕ
  x = take 8 (drop at s)

  abbrev y : List ℕ
  y = take 8 (drop (at + 8) s)

  abbrev z : List ℕ
  z = take 8 (drop (at + 16) s)

  whole : take 24 (drop at s) ≡ (x ++ y) ++ z
  whole = take-add 16 8 (drop at s) ∙ rw (take-add 8 8 (drop at s), drop-drop 8 at s, drop-drop 16 at s)

  length_both : length (x ++ y) ≡ 16
  length_both = omega (arith, length-append x y, length_part s at 8 (omega arith), length_part s (at + 8) 8 (omega arith))

  zeros : is_all_zero (drop len ((x ++ y) ++ z)) ≡ true
  zeros = rw (← whole, drop-take len 24 (drop at s), drop-drop len at s) behind

  pub bound_key : (is_all_zero (drop (len - 0) x) ≡ true → a + 1 ≡ value x + 256 ^ (8 - (len - 0)))
      → (is_all_zero (drop (len - 8) y) ≡ true → b + 1 ≡ value y + 256 ^ (8 - (len - 8)))
      → (is_all_zero (drop (len - 16) z) ≡ true → c + 1 ≡ value z + 256 ^ (8 - (len - 16)))
      → (a * 2 ^ 64 + b) * 2 ^ 64 + c ≡ value (continued (take len (drop at s)))
  bound_key f g h =
      let p = zero_split len 16 (x ++ y) z length_both zeros in
      let q = zero_split len 8 x y (length_part s at 8 (omega arith)) p.0 in
      let f' : is_all_zero (drop len x) ≡ true → a + 1 ≡ value x + 256 ^ (8 - len) = simp sub-zero at f in
      let ea : a ≡ value (cover len x) = word_covered x len a (length_part s at 8 (omega arith)) q.0 (f' q.0) in
      let eb : b ≡ value (cover (len - 8) y) = word_covered y (len - 8) b (length_part s (at + 8) 8 (omega arith)) q.1 (g q.1) in
      let ec : c ≡ value (cover (len - 16) z) = word_covered z (len - 16) c (length_part s (at + 16) 8 (omega arith)) p.1 (h p.1) in
      let e : take len (drop at s) ≡ take len (take 24 (drop at s)) = sym (take-take len 24 (drop at s) fits) in
      sym (
      ap (λ (r : List ℕ). value (continued r)) e ∙ ap value (sym (cover_continued len (take 24 (drop at s)) (length_part s at 24 (omega arith))))
      ∙ ap (λ (r : List ℕ). value (cover len r)) whole
      ∙ cover_split len 16 (x ++ y) z length_both (length_part s (at + 16) 8 (omega arith))
      ∙ ap (λ (v : ℕ). v * 2 ^ 64 + value (cover (len - 16) z)) (cover_split len 8 x y (length_part s at 8 (omega arith)) (length_part s (at + 8) 8 (omega arith)))
      ∙ rw (ea, eb, ec)
      )

-- A word behind the bound's end.
zero_value : (x : List ℕ) → is_all_zero x ≡ true → value x ≡ 0
unfolding value is_all_zero
zero_value [] e = refl
zero_value (d ∷ x) e =
    let p = both_true (eqb d 0) (is_all_zero x) e in
    rw (eqb-true d 0 p.0, zero-mul, zero-add) (zero_value x p.1)

pub word_behind : (x : List ℕ) (k : ℕ) → k ≡ 0 → is_all_zero (drop k x) ≡ true → 0xFFFFFFFFFFFFFFFF + 1 ≡ value x + 256 ^ (8 - k)
word_behind x k e z = rw (e, zero_value x (rw e at z))

-- Numbers order as strings do.
leb_add : (k a b : ℕ) → leb (k + a) (k + b) ≡ leb a b
leb_add k a b = elim (dec_le a b) [
  | yes h ↦ le-leb (k + a) (k + b) (omega arith) ∙ sym (le-leb a b h)
  | no h ↦ lt-leb (k + a) (k + b) (omega arith) ∙ sym (lt-leb a b (omega arith))
]

ltb-leb : (a b : ℕ) → ltb a b ≡ not (leb b a)
ltb-leb a b = elim (dec_le b a) [
  | yes h ↦ rw (le-ltb a b h, le-leb b a h)
  | no h ↦ rw (lt-ltb a b (omega arith), lt-leb b a (omega arith))
]

-- Two strings with as many bytes.
pub value_is_at_most : (x y : List ℕ) → AreBytes x → AreBytes y → length x ≡ length y → leb (value x) (value y) ≡ is_at_most x y
unfolding is_at_most value
value_is_at_most [] [] f g e = refl
value_is_at_most [] (b ∷ y) f g e = absurd (omega arith)
value_is_at_most (a ∷ x) [] f g e = absurd (omega arith)
value_is_at_most (a ∷ x) (b ∷ y) f g e =
    let l : length x ≡ length y = omega arith in
    rw l (go (dec_lt a b) (ℕ_discrete a b) l (value_is_at_most x y f.1 g.1 l))
  where
    go : Dec (a < b) → Dec (a ≡ b) → length x ≡ length y → leb (value x) (value y) ≡ is_at_most x y
        → leb (a * 256 ^ length y + value x) (b * 256 ^ length y + value y) ≡ cond (ltb a b) true (cond (eqb a b) (is_at_most x y) false)
    go (yes h) d l r =
        let v : value x < 256 ^ length y = rw l at (value_lt x f.1) in
        let p = pair_lt (256 ^ length y) a (value x) b (value y) h v in
        rw (le-leb (a * 256 ^ length y + value x) (b * 256 ^ length y + value y) (omega arith), lt-ltb a b h)
    go (no h) (yes q) l r = rw (le-ltb a b (omega arith), eq-eqb a b q, q, leb_add) r
    go (no h) (no q) l r =
        let k : b < a = omega arith in
        let p = pair_lt (256 ^ length y) b (value y) a (value x) k (value_lt y g.1) in
        rw (lt-leb (a * 256 ^ length y + value x) (b * 256 ^ length y + value y) p, le-ltb a b (omega arith), ne_eqb a b q)

pub value_same : (x y : List ℕ) → AreBytes x → AreBytes y → length x ≡ length y → value x ≡ value y → x ≡ y
value_same x y f g e v =
    le_antisym
    (is_at_most_le x y (sym (value_is_at_most x y f g e) ∙ le-leb (value x) (value y) (omega arith)))
    (is_at_most_le y x (sym (value_is_at_most y x g f (sym e)) ∙ le-leb (value y) (value x) (omega arith)))

-- Each digit is below the one that continues a bound.
abbrev pub Under : List ℕ → Type 0
Under [] = Unit {0}
Under (d ∷ x) = (d < 0xFF) × Under x

pub digits_under : (lo : ℕ) (x : List ℕ) → Digits lo x → Under x
digits_under lo [] h = tt
digits_under lo (d ∷ x) h = (omega (arith, h.1), digits_under lo x h.2)

pub under_bytes : (x : List ℕ) → Under x → AreBytes x
under_bytes [] h = tt
under_bytes (d ∷ x) h = (omega (arith, h.0), under_bytes x h.1)

pub length_continued : (p : List ℕ) → length (continued p) ≡ 24
unfolding continued
length_continued p = length_made 24 0xFF p

pub bytes_continued : (p : List ℕ) → AreBytes p → AreBytes (continued p)
unfolding continued
bytes_continued p h = bytes_made 24 0xFF p (omega arith) h

pub continued_whole : (n : List ℕ) → length n ≡ 24 → continued n ≡ n
unfolding continued
continued_whole n e = take_at n (replicate 24 0xFF) 24 e

continued_is_at_most : (p q : List ℕ) → Under p → Under q → length p ≤ 24 → length q ≤ 24 → is_at_most (continued p) (continued q) ≡ is_at_most p q
unfolding is_at_most continued
continued_is_at_most p q f g = go 24 24 p q f g (omega arith)
  where
    go : (k m : ℕ) (p q : List ℕ) → Under p → Under q → k ≤ m → length p ≤ k → length q ≤ k
        → is_at_most (take k (p ++ replicate m 0xFF)) (take k (q ++ replicate m 0xFF)) ≡ is_at_most p q
    go k m [] [] f g h u v = le_is_at_most (take k (replicate m 0xFF)) (take k (replicate m 0xFF)) (le_refl (take k (replicate m 0xFF)))
    go zero m [] (b ∷ q) f g h u v = absurd (omega arith)
    go (suc k) zero [] (b ∷ q) f g h u v = absurd (omega arith)
    go (suc k) (suc m) [] (b ∷ q) f g h u v = rw (le-ltb 0xFF b (omega (arith, g.0)), ne_eqb 0xFF b (λ e. omega (arith, g.0)))
    go zero m (a ∷ p) q f g h u v = absurd (omega arith)
    go (suc k) zero (a ∷ p) [] f g h u v = absurd (omega arith)
    go (suc k) (suc m) (a ∷ p) [] f g h u v = rw (lt-ltb a 0xFF f.0)
    go (suc k) m (a ∷ p) (b ∷ q) f g h u v = rw (go k m p q f.1 g.1 (omega arith) (omega arith) (omega arith))

-- Two bounds, continued.
module _ (p q : List ℕ) (f : Under p) (g : Under q) (u : length p ≤ 24) (v : length q ≤ 24) where
  pub bound_is_at_most : leb (value (continued p)) (value (continued q)) ≡ is_at_most p q
  bound_is_at_most =
      value_is_at_most (continued p) (continued q) (bytes_continued p (under_bytes p f)) (bytes_continued q (under_bytes q g)) (length_continued p ∙ sym (length_continued q))
      ∙ continued_is_at_most p q f g u v

pub bound_below : (p q : List ℕ) → Under p → Under q → length p ≤ 24 → length q ≤ 24 → ltb (value (continued p)) (value (continued q)) ≡ not (is_at_most q p)
bound_below p q f g u v = ltb-leb (value (continued p)) (value (continued q)) ∙ ap not (bound_is_at_most q p g f v u)

pub bound_same : (p q : List ℕ) → Under p → Under q → length p ≤ 24 → length q ≤ 24 → value (continued p) ≡ value (continued q) → p ≡ q
bound_same p q f g u v e =
    le_antisym
    (is_at_most_le p q (sym (bound_is_at_most p q f g u v) ∙ le-leb (value (continued p)) (value (continued q)) (omega arith)))
    (is_at_most_le q p (sym (bound_is_at_most q p g f v u) ∙ le-leb (value (continued q)) (value (continued p)) (omega arith)))

-- A filled name and a bound.
module _ (n p : List ℕ) (f : Under n) (g : Under p) (e : length n ≡ 24) (v : length p ≤ 24) where
  pub name_is_at_most : leb (value n) (value (continued p)) ≡ is_at_most n p
  name_is_at_most = ap (λ (x : List ℕ). leb (value x) (value (continued p))) (sym (continued_whole n e)) ∙ bound_is_at_most n p f g (omega arith) v

-- No limit is below every string that begins with more than a zero.
pub value_some : (x : List ℕ) → 0 < get_or x 0 0 → 0 < value x
unfolding value
value_some [] h = absurd (omega arith)
value_some (d ∷ x) h =
    let p : 1 * 256 ^ length x ≤ d * 256 ^ length x = mul-le-mul_right (256 ^ length x) h in
    omega (arith, one-le-pow (length x) 256 (omega arith))
