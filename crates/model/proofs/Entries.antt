-- What is found after an insertion and in a part that was kept; parts and their lengths; rows of a range.
use Rattle.model.proofs.Prelude.{Bool, List, [], ◌+◌, ◌<◌, ◌∙◌, ◌∷◌, ◌≡◌, ◌≢◌, ◌≤◌, ap, arith, clash, false, inl, inr, length, not, nothing, refl, some, suc, sym, take, true, zero, ℕ}
use Rattle.model.specs.Order.{Low, Str, ◌≺◌, ◌⊑◌, ◌◁◌, above, at, diff}
use Rattle.model.specs.Tests.{same_str}
use Rattle.model.specs.Names.{Bound, Legal}
use Rattle.model.specs.Entries.{Entry, Row, entry, find, insert, keep, name_at, no_entries, without}
use Rattle.model.specs.Changes.{split_string}
use Rattle.model.proofs.Deciding.{le?, over, str?}
use Rattle.model.proofs.Order.{le_antisym, le_refl, le_take, low_at, low_le, low_lower, lt_le_trans, split_lt}
use Rattle.model.proofs.Tests.{equal_same_str, le_is_at_most, lt_is_at_most, never_both, same_str_other, same_str_self, true_or_false}
use Rattle.model.proofs.Names.{legal_bound, split_is}

pub find_insert_same : (n : Str) (v : ℕ) (es : List Entry) → find n (insert n v es) ≡ some v
unfolding find insert
find_insert_same n v [] = rw (same_str_self n)
find_insert_same n v (e ∷ es) = elim (le? n e.0) [
  | no h ↦ rw (lt_is_at_most n e.0 h, same_str_other n e.0 (λ q. h (rw (← q) (le_refl n)))) (find_insert_same n v es)
  | yes h ↦ elim (str? n e.0) [
    | yes q ↦ rw (le_is_at_most n e.0 h, equal_same_str n e.0 q) (rw (same_str_self n))
    | no q ↦ rw (le_is_at_most n e.0 h, same_str_other n e.0 q) (rw (same_str_self n))
  ]
]

pub find_insert_other : (m n : Str) (v : ℕ) (es : List Entry) → m ≢ n → find m (insert n v es) ≡ find m es
unfolding find insert
find_insert_other m n v [] d = rw (same_str_other m n d)
find_insert_other m n v (e ∷ es) d = elim (le? n e.0) [
  | no h ↦ rw (lt_is_at_most n e.0 h, find_insert_other m n v es d)
  | yes h ↦ elim (str? n e.0) [
    | yes q ↦ rw (le_is_at_most n e.0 h, equal_same_str n e.0 q, same_str_other m n d) (sym (rw (same_str_other m e.0 (λ r. d (r ∙ sym q)))))
    | no q ↦ rw (le_is_at_most n e.0 h, same_str_other n e.0 q) (rw (same_str_other m n d))
  ]
]

module _ (t : Str → Bool) where
  pub find_keep : (n : Str) (es : List Entry) → t n ≡ true → find n (keep t es) ≡ find n es
  unfolding find keep
  find_keep n [] p = refl
  find_keep n (e ∷ es) p = elim (true_or_false (t e.0)) [
    | inl h ↦ rw (h, find_keep n es p)
    | inr h ↦ rw (h, find_keep n es p, same_str_other n e.0 (λ q. never_both (t n) p (ap t q ∙ h)))
  ]

  pub find_drop : (n : Str) (es : List Entry) → t n ≡ false → find n (keep t es) ≡ nothing
  unfolding find keep
  find_drop n [] p = refl
  find_drop n (e ∷ es) p = elim (true_or_false (t e.0)) [
    | inl h ↦ rw (h, same_str_other n e.0 (λ q. never_both (t n) (ap t q ∙ h) p)) (find_drop n es p)
    | inr h ↦ rw h (find_drop n es p)
  ]

  pub keep_insert_out : (n : Str) (v : ℕ) (es : List Entry) → t n ≡ false → keep t (insert n v es) ≡ keep t es
  unfolding insert keep
  keep_insert_out n v [] p = rw p
  keep_insert_out n v (e ∷ es) p = elim (le? n e.0) [
    | no h ↦ rw (lt_is_at_most n e.0 h, keep_insert_out n v es p)
    | yes h ↦ elim (str? n e.0) [
      | yes q ↦ rw (le_is_at_most n e.0 h, equal_same_str n e.0 q, p, sym (ap t q) ∙ p)
      | no q ↦ rw (le_is_at_most n e.0 h, same_str_other n e.0 q, p)
    ]
  ]

  pub length_keep : (es : List Entry) → length (keep t es) ≤ length es
  unfolding keep
  length_keep [] = omega arith
  length_keep (e ∷ es) = elim (true_or_false (t e.0)) [
    | inl h ↦ rw h (omega (arith, length_keep es))
    | inr h ↦ rw h (omega (arith, length_keep es))
  ]

  pub keep_parts : (es : List Entry) → length (keep t es) + length (keep (λ n. not (t n)) es) ≡ length es
  unfolding keep
  keep_parts [] = omega arith
  keep_parts (e ∷ es) = elim (true_or_false (t e.0)) [
    | inl h ↦ rw h (omega (arith, keep_parts es))
    | inr h ↦ rw h (omega (arith, keep_parts es))
  ]

  -- One that passes is kept.
  pub keep_some : (es : List Entry) (i : ℕ) → i < length es → t (name_at es i) ≡ true → 0 < length (keep t es)
  unfolding keep
  keep_some [] i h p = absurd (omega arith)
  keep_some (e ∷ es) zero h p = rw p (omega arith)
  keep_some (e ∷ es) (suc i) h p = elim (true_or_false (t e.0)) [
    | inl q ↦ rw q (omega arith)
    | inr q ↦ rw q (keep_some es i (omega arith) p)
  ]

module _ (t r : Str → Bool) where
  pub keep_comm : (es : List Entry) → keep t (keep r es) ≡ keep r (keep t es)
  unfolding keep
  keep_comm [] = refl
  keep_comm (e ∷ es) = elim (true_or_false (t e.0)) [
    | inl p ↦ elim (true_or_false (r e.0)) [ inl q ↦ rw (p, q, p, keep_comm es) | inr q ↦ rw (p, q, keep_comm es) ]
    | inr p ↦ elim (true_or_false (r e.0)) [ inl q ↦ rw (p, q, p, keep_comm es) | inr q ↦ rw (p, q, keep_comm es) ]
  ]

pub length_insert : (n : Str) (v : ℕ) (es : List Entry) → length (insert n v es) ≤ suc (length es)
unfolding insert
length_insert n v [] = omega arith
length_insert n v (e ∷ es) = elim (le? n e.0) [
  | no h ↦ rw (lt_is_at_most n e.0 h) (omega (arith, length_insert n v es))
  | yes h ↦ elim (str? n e.0) [
    | yes q ↦ rw (le_is_at_most n e.0 h, equal_same_str n e.0 q) (omega arith)
    | no q ↦ rw (le_is_at_most n e.0 h, same_str_other n e.0 q) (omega arith)
  ]
]

pub row_insert : {l : Low} {u : Str} {es : List Entry} (n : Str) (v : ℕ) → Legal n → l ◁ n → n ⊑ u → Row l es u → Row l (insert n v es) u
unfolding insert
row_insert n v g a b no_entries = entry g a b no_entries
row_insert {l} {u} n v g a b (entry {e = e} {es = es} g' c d r) = elim (le? n e.0) [
  | no h ↦ rw (lt_is_at_most n e.0 h) (entry g' c d (row_insert n v g (above h) b r))
  | yes h ↦ elim (str? n e.0) [
    | yes q ↦ rw (le_is_at_most n e.0 h, equal_same_str n e.0 q) (entry g a b (rw (← q) at r))
    | no q ↦ rw (le_is_at_most n e.0 h, same_str_other n e.0 q) (entry g a b (entry g' (above (λ p. q (le_antisym h p))) d r))
  ]
]

pub row_keep : (t : Str → Bool) {l : Low} (l' : Low) {u : Str} (u' : Str) {es : List Entry} → Row l es u
    → ((n : Str) → t n ≡ true → l ◁ n → n ⊑ u → (l' ◁ n) × (n ⊑ u')) → Row l' (keep t es) u'
unfolding keep
row_keep t l' u' no_entries f = no_entries
row_keep t l' u' (entry {e = e} g a b r) f = elim (true_or_false (t e.0)) [
  | inl h ↦ rw h (entry g (f e.0 h a b).0 (f e.0 h a b).1
      (row_keep t (at e.0) u' r (λ n p c d. (c, (f n p (low_lower (low_at a) c) d).1))))
  | inr h ↦ rw h (row_keep t l' u' r (λ n p c d. f n p (low_lower (low_at a) c) d))
]

pub row_at : {l : Low} {u : Str} {es : List Entry} → Row l es u → (i : ℕ) → i < length es → Legal (name_at es i) × (l ◁ name_at es i) × (name_at es i ⊑ u)
row_at no_entries i h = absurd (omega arith)
row_at (entry g a b r) zero h = (g, a, b)
row_at (entry g a b r) (suc i) h = let k = row_at r i (omega arith) in (k.0, low_lower (low_at a) k.1, k.2)

pub row_lt : {l : Low} {u : Str} {es : List Entry} → Row l es u → (i j : ℕ) → i < j → j < length es → name_at es i ≺ name_at es j
row_lt no_entries i j h k = absurd (omega arith)
row_lt (entry g a b r) i zero h k = absurd (omega arith)
row_lt (entry g a b r) zero (suc j) h k = over (row_at r j (omega arith)).1
row_lt (entry g a b r) (suc i) (suc j) h k = row_lt r i j (omega arith) (omega arith)

pub keep_all : (t : Str → Bool) {l : Low} {u : Str} {es : List Entry} → Row l es u → ((k : Str) → l ◁ k → t k ≡ true) → keep t es ≡ es
unfolding keep
keep_all t no_entries f = refl
keep_all t (entry {e = e} g a b r) f = rw ((f e.0 a), keep_all t r (λ k h. f k (low_lower (low_at a) h)))

-- Where an insertion adds an entry, the name was not there.
pub insert_new : {l : Low} {u : Str} {es : List Entry} (n : Str) (v : ℕ) → Row l es u → length es < length (insert n v es) → without n es ≡ es
unfolding insert keep
insert_new n v no_entries h = refl
insert_new n v (entry {e = e} {es = es} g a b r) h = elim (le? n e.0) [
  | no p ↦ rw (same_str_other e.0 n (λ q. p (rw (← q) (le_refl e.0))), insert_new n v r (shorter (rw (lt_is_at_most n e.0 p) at h)))
  | yes p ↦ elim (str? n e.0) [
    | yes q ↦ absurd (no_longer (rw (le_is_at_most n e.0 p, equal_same_str n e.0 q) at h))
    | no q ↦ rw (same_str_other e.0 n (λ e. q (sym e)), keep_all (λ k. not (same_str k n)) r (λ k c. ap not (same_str_other k n (λ d. over c (rw d p)))))
  ]
]
  where
    shorter : suc (length es) < suc (length (insert n v es)) → length es < length (insert n v es)
    shorter h = omega arith

    no_longer : suc (length es) < suc (length es) → ⊥
    no_longer h = omega arith

pub find_at : (n : Str) (es : List Entry) (v : ℕ) → find n es ≡ some v → (i : ℕ) × (i < length es) × (name_at es i ≡ n)
unfolding find
find_at n [] v h = clash cc
find_at n (e ∷ es) v h = elim (str? n e.0) [
  | yes q ↦ (0, omega arith, sym q)
  | no q ↦ next (find_at n es v (rw (same_str_other n e.0 q) at h))
]
  where
    next : (i : ℕ) × (i < length es) × (name_at es i ≡ n) → (i : ℕ) × (i < suc (length es)) × (name_at (e ∷ es) i ≡ n)
    next (i, h, p) = (suc i, omega arith, p)

pub at_find : (es : List Entry) (i : ℕ) → i < length es → (v : ℕ) × (find (name_at es i) es ≡ some v)
unfolding find
at_find [] i h = absurd (omega arith)
at_find (e ∷ es) zero h = (e.1, rw (same_str_self e.0))
at_find (e ∷ es) (suc i) h = elim (str? (name_at es i) e.0) [
  | yes q ↦ (e.1, rw (equal_same_str (name_at es i) e.0 q))
  | no q ↦ let r = at_find es i (omega arith) in (r.0, rw (same_str_other (name_at es i) e.0 q) r.1)
]

-- The split string of two entries lies strictly inside the range, from the first of them on and below the second: for a
-- split key at any place before the last name.
module _ {l : Low} {u : Str} {ws : List Entry} (R : Row l ws u) (i j : ℕ) (i_lt : i < j) (j_lt : j < length ws) where
  i_in : i < length ws
  i_in = omega arith

  pub split_take : split_string i j ws ≡ take (suc (diff (name_at ws i) (name_at ws j))) (name_at ws i)
  split_take = split_is (name_at ws i) (name_at ws j) (row_lt R i j i_lt j_lt)

  pub split_key : name_at ws i ⊑ split_string i j ws
  split_key = rw split_take (le_take (suc (diff (name_at ws i) (name_at ws j))) (name_at ws i))

  pub split_last : split_string i j ws ≺ name_at ws j
  split_last = rw split_take (split_lt (name_at ws i) (name_at ws j) (row_lt R i j i_lt j_lt))

  pub split_over : l ◁ split_string i j ws
  split_over = low_le (row_at R i i_in).1 split_key

  pub split_under : split_string i j ws ≺ u
  split_under = lt_le_trans split_last (row_at R j j_lt).2

  pub split_bound : Bound (split_string i j ws)
  split_bound = rw split_take (legal_bound (row_at R i i_in).0 (suc (diff (name_at ws i) (name_at ws j))))
