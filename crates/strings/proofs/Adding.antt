-- The beginnings of a bound are added one after the other, each one digit shorter.
use Rattle.model.proofs.Prelude.{List, [], ◌++◌, ◌+◌, ◌-◌, ◌<◌, ◌∙◌, ◌∷◌, ◌≡◌, ◌≤◌, add-one, ap, append_assoc, append-nil, arith, drop, drop-cons, drop-length, get_or, get_or-take, length, length-append, length-drop, length-set, length-take-le, refl, set, suc, sym, take, take-suc, take-suc-set, zero, ℕ}
use Rattle.model.specs.Order.{Str, last_digit}
use Rattle.model.specs.Searches.{longer}
use Rattle.trie.specs.declared.Strings.{Strings}
use Rattle.trie.specs.Strung.{last_digits, lengths}
use Rattle.strings.specs.Arrays.{Added, Whole, beyond, lefts}

pub length_longer : (ds p : Str) → length (longer p ds) ≡ length ds
length_longer [] p = refl
length_longer (d ∷ ds) p =
    let q : Str = p ++ (d ∷ []) in
    omega (arith, length-append (longer q ds) (q ∷ []), length_longer ds q)

pub length_beyond : (k : ℕ) (x : Str) → length (beyond k x) ≡ length x - k
length_beyond k x = length_longer (drop k x) (take k x) ∙ length-drop k x

pub lengths_append : (xs ys : List Str) → lengths (xs ++ ys) ≡ lengths xs ++ lengths ys
lengths_append [] ys = refl
lengths_append (x ∷ xs) ys = ap (λ (ns : List ℕ). length x ∷ ns) (lengths_append xs ys)

pub last_digits_append : (xs ys : List Str) → last_digits (xs ++ ys) ≡ last_digits xs ++ last_digits ys
last_digits_append [] ys = refl
last_digits_append (x ∷ xs) ys = ap (λ (ns : List ℕ). last_digit x ∷ ns) (last_digits_append xs ys)

-- The slot left of the string that comes after these.
abbrev pub left_after : ℕ → ℕ → List Str → ℕ
left_after slot next [] = slot
left_after slot next (x ∷ xs) = next

left_same : (next : ℕ) (ss : List Str) → left_after next next ss ≡ next
left_same next [] = refl
left_same next (x ∷ xs) = refl

left_snoc : (slot next : ℕ) (ss : List Str) (s : Str) → left_after slot next (ss ++ (s ∷ [])) ≡ next
left_snoc slot next [] s = refl
left_snoc slot next (x ∷ xs) s = refl

lefts_snoc : (slot next : ℕ) (ss : List Str) (s : Str) → lefts slot next (ss ++ (s ∷ [])) ≡ lefts slot next ss ++ (left_after slot next ss ∷ [])
lefts_snoc slot next [] s = refl
lefts_snoc slot next (x ∷ xs) s = rw (lefts_snoc next next xs s, left_same next xs)

module _ (x : Str) where
  beyond_next : (k : ℕ) → k < length x → beyond k x ≡ beyond (suc k) x ++ (take (suc k) x ∷ [])
  beyond_next k h = rw (drop-cons x k 0 h, take-suc x k 0 h)

  beyond_less : (len : ℕ) → 0 < len → len ≤ length x → beyond (len - 1) x ≡ beyond len x ++ (take len x ∷ [])
  beyond_less zero h k = absurd (omega arith)
  beyond_less (suc n) h k = let e : suc n - 1 ≡ n = omega arith in rw e (beyond_next n (omega arith))

  beyond_all : beyond (length x) x ≡ []
  beyond_all = rw (drop-length x)

  pub last_taken : (len : ℕ) → 0 < len → len ≤ length x → last_digit (take len x) ≡ get_or x (len - 1) 0
  last_taken len h k = rw (length-take-le len x k) (get_or-take len x (len - 1) 0 (omega arith))

  -- One list, one string longer.
  more : (xs ys : List ℕ) (n count a : ℕ) (ns : List ℕ) → n < length xs → take n xs ≡ take count ys ++ ns
      → take (n + 1) (set xs n a) ≡ take count ys ++ (ns ++ (a ∷ []))
  more xs ys n count a ns h e = rw (add-one n, take-suc-set xs n a h, e) (append_assoc (take count ys) ns (a ∷ []))

  module _ (slot next : ℕ) where
    pub added_start : (o : Strings) → Whole o → Added (beyond (length x) x) slot next o o
    added_start o W = rw beyond_all record {
      count_is = omega arith;
      lens_are = sym (append-nil (take o.count o.lens));
      digits_are = sym (append-nil (take o.count o.digits));
      slots_are = sym (append-nil (take o.count o.slots));
      whole = W;
    }

    pub left_start : slot ≡ left_after slot next (beyond (length x) x)
    left_start = rw beyond_all

    pub left_step : (len : ℕ) → 0 < len → len ≤ length x → next ≡ left_after slot next (beyond (len - 1) x)
    left_step len h k = rw (beyond_less len h k) (sym (left_snoc slot next (beyond len x) (take len x)))

    pub added_step : (len m left : ℕ) (o s t : Strings) → m ≡ len → 0 < len → len ≤ length x → s.count < 256
        → left ≡ left_after slot next (beyond len x) → Added (beyond len x) slot next o s
        → (t.count ≡ s.count + 1) × (t.lens ≡ set s.lens s.count m) × (t.digits ≡ set s.digits s.count (get_or x (len - 1) 0)) × (t.slots ≡ set s.slots s.count left)
        → Added (beyond (len - 1) x) slot next o t
    added_step len m left o s t i h k j l A e = rw (beyond_less len h k) record {
      count_is = omega (arith, e.0, A.count_is, length-append ss (z ∷ []));
      lens_are = rw (e.0, e.1, lengths_append ss (z ∷ []), length-take-le len x k, i) (more s.lens o.lens s.count o.count len (lengths ss) (omega (arith, W.lens_whole)) A.lens_are);
      digits_are = rw (e.0, e.2, last_digits_append ss (z ∷ []), last_taken len h k) (more s.digits o.digits s.count o.count (get_or x (len - 1) 0) (last_digits ss) (omega (arith, W.digits_whole)) A.digits_are);
      slots_are = rw (e.0, e.3, lefts_snoc slot next ss z, l) (more s.slots o.slots s.count o.count (left_after slot next ss) (lefts slot next ss) (omega (arith, W.slots_whole)) A.slots_are);
      whole = record {
        lens_whole = ap length e.1 ∙ length-set s.lens s.count m ∙ W.lens_whole;
        digits_whole = ap length e.2 ∙ length-set s.digits s.count (get_or x (len - 1) 0) ∙ W.digits_whole;
        slots_whole = ap length e.3 ∙ length-set s.slots s.count left ∙ W.slots_whole;
      };
    }
      where
        W : Whole s
        W = A.whole

        ss : List Str
        ss = beyond len x

        z : Str
        z = take len x
