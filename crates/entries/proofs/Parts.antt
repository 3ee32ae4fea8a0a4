-- The place of a name in a row, going down, and what an insertion and a removal do there. No law here knows bytes.
use Rattle.model.proofs.Prelude.{List, Option, [], ◌++◌, ◌+◌, ◌∙◌, ◌∷◌, ◌≡◌, ap, arith, clash, drop, false, length, ltb, not, nothing, refl, some, suc, sym, take, true, ℕ}
use mathlib.Core.Bool.{or-true}
use Rattle.model.specs.Entries.{Entry, Row, entry, find, insert, keep, no_entries, without}
use Rattle.model.specs.Names.{Legal}
use Rattle.model.specs.Order.{Low, Str}
use Rattle.model.specs.Tests.{same_str}
use Rattle.model.proofs.Deciding.{le?, over, str?}
use Rattle.model.proofs.Entries.{keep_all}
use Rattle.model.proofs.Order.{le_refl}
use Rattle.model.proofs.Tests.{equal_same_str, le_is_at_most, lt_is_at_most, same_str_other}
use Rattle.digits.proofs.Bounds.{names_over}
use Rattle.digits.specs.Keys.{value}
use Rattle.entries.specs.Rows.{below, place, last_of}
use Rattle.entries.proofs.Places.{find_behind, find_first, numbers, place_first}

-- On a row, going down from the last entry comes to the same place as going up from the first.
pub below_row : {l : Low} {u : Str} {es : List Entry} (n : Str) → Row l es u → Legal n → below (value n) (numbers es) ≡ place n es
unfolding last_of place
below_row n no_entries g = refl
below_row n (entry {e = e} {es = es} f a c r) g = elim (le? n e.0) [
  | yes p ↦ let t : ltb (value e.0) (value n) ≡ false = names_over e.0 n f g ∙ ap not (le_is_at_most n e.0 p) in
      rw (below_row n r g, place_first n r p, t, le_is_at_most n e.0 p)
  | no p ↦ let t : ltb (value e.0) (value n) ≡ true = names_over e.0 n f g ∙ ap not (lt_is_at_most n e.0 p) in
      rw (below_row n r g, t, lt_is_at_most n e.0 p, or-true (ltb 0 (place n es)))
]

-- A row in which the k entries from a place on are replaced by others.
abbrev pub parted : List Entry → ℕ → ℕ → List Entry → List Entry
parted es i k fs = take i es ++ (fs ++ drop (i + k) es)

parted_behind : (e : Entry) (es : List Entry) (i k : ℕ) (fs : List Entry) → parted (e ∷ es) (suc i) k fs ≡ e ∷ parted es i k fs
parted_behind e es i k fs = let s : suc i + k ≡ suc (i + k) = omega arith in ap (λ (n : ℕ). e ∷ (take i es ++ (fs ++ drop n (e ∷ es)))) s

pub insert_new : {l : Low} {u : Str} {es : List Entry} (n : Str) (c : ℕ) → Row l es u → find n es ≡ nothing
    → insert n c es ≡ parted es (place n es) 0 ((n, c) ∷ [])
unfolding place insert find
insert_new n c no_entries h = refl
insert_new n c (entry {e = e} {es = es} g a b r) h = elim (le? n e.0) [
  | no q ↦ rw (lt_is_at_most n e.0 q)
      (ap (λ (x : List Entry). e ∷ x) (insert_new n c r (find_behind n e es q ∙ h)) ∙ sym (parted_behind e es (place n es) 0 ((n, c) ∷ [])))
  | yes q ↦ elim (str? n e.0) [
    | yes p ↦ let z : ◌≡◌ {A = Option ℕ} nothing (some e.1) = sym (rw (equal_same_str n e.0 p) at h) in
        clash cc
    | no p ↦ rw (le_is_at_most n e.0 q, same_str_other n e.0 p)
  ]
]

pub insert_held : {l : Low} {u : Str} {es : List Entry} (n : Str) (c o : ℕ) → Row l es u → find n es ≡ some o
    → insert n c es ≡ parted es (place n es) 1 ((n, c) ∷ [])
unfolding place insert find
insert_held n c o no_entries h = clash cc
insert_held n c o (entry {e = e} {es = es} g a b r) h = elim (le? n e.0) [
  | no q ↦ rw (lt_is_at_most n e.0 q)
      (ap (λ (x : List Entry). e ∷ x) (insert_held n c o r (find_behind n e es q ∙ h)) ∙ sym (parted_behind e es (place n es) 1 ((n, c) ∷ [])))
  | yes q ↦ rw (le_is_at_most n e.0 q, equal_same_str n e.0 (find_first n e r q h))
]

pub without_held : {l : Low} {u : Str} {es : List Entry} (n : Str) (o : ℕ) → Row l es u → find n es ≡ some o
    → without n es ≡ parted es (place n es) 1 []
unfolding place keep find
without_held n o no_entries h = clash cc
without_held n o (entry {e = e} {es = es} g a b r) h = elim (le? n e.0) [
  | no q ↦ rw (lt_is_at_most n e.0 q, same_str_other e.0 n (λ p. q (rw p (le_refl n))))
      (ap (λ (x : List Entry). e ∷ x) (without_held n o r (find_behind n e es q ∙ h)) ∙ sym (parted_behind e es (place n es) 1 []))
  | yes q ↦ rw (le_is_at_most n e.0 q, equal_same_str e.0 n (sym (find_first n e r q h)), keep_all (λ k. not (same_str k n)) r (λ k c. ap not (same_str_other k n (λ d. over c (rw d q)))))
]

-- How many entries there are after an insertion.
pub length_new : (n : Str) (v : ℕ) (es : List Entry) → find n es ≡ nothing → length (insert n v es) ≡ suc (length es)
unfolding insert find
length_new n v [] h = refl
length_new n v (e ∷ es) h = elim (str? n e.0) [
  | yes p ↦ let z : ◌≡◌ {A = Option ℕ} nothing (some e.1) = sym (rw (equal_same_str n e.0 p) at h) in
      clash cc
  | no p ↦ elim (le? n e.0) [
    | yes q ↦ rw (le_is_at_most n e.0 q, same_str_other n e.0 p)
    | no q ↦ rw (lt_is_at_most n e.0 q) (ap suc (length_new n v es (rw (same_str_other n e.0 p) at h)))
  ]
]

pub length_held : {l : Low} {u : Str} {es : List Entry} (n : Str) (v w : ℕ) → Row l es u → find n es ≡ some w → length (insert n v es) ≡ length es
unfolding insert find
length_held n v w no_entries h = clash cc
length_held n v w (entry {e = e} {es = es} g a c r) h = elim (le? n e.0) [
  | no q ↦ rw (lt_is_at_most n e.0 q) (ap suc (length_held n v w r (find_behind n e es q ∙ h)))
  | yes q ↦ rw (le_is_at_most n e.0 q, equal_same_str n e.0 (find_first n e r q h))
]
