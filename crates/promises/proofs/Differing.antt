-- The first difference of a name and a bound, and the one bound of a range that a name breaks.
use Rattle.model.proofs.Prelude.{Bool, List, ◌<◌, ◌∙◌, ◌≡◌, ◌≤◌, ap, arith, cond, dec_lt, false, get_or, get_or-take, length, refl, sym, true, ℕ}
use Rattle.model.specs.Order.{Low, Str, ◌⊑◌, above, at, diff, least, none}
use Rattle.model.specs.Tests.{is_at_most}
use Rattle.model.specs.Names.{BoundLow, broken, limit}
use Rattle.model.specs.Entries.{Entry}
use Rattle.model.specs.Files.{In, Well, range, used}
use Rattle.model.proofs.Deciding.{over}
use Rattle.model.proofs.Order.{diff_apart, diff_le_right, le_trans, lt_le, take_diff}
use Rattle.model.proofs.Tests.{is_at_most_le, is_at_most_lt}
use Rattle.model.proofs.Files.{well_parts}
use Rattle.promises.specs.Demand1.{Breaks, Differs, above_upper, within_lower}

-- It is the number of the digits that the two share.
pub differs : (n p : Str) → length p ≤ length n → Differs n p (diff n p)
differs n p h = record {
  inside = diff_le_right n p;
  before = λ i k. sym (get_or-take (diff n p) n i 0 k) ∙ ap (λ (x : Str). get_or x i 0) (take_diff n p) ∙ get_or-take (diff n p) p i 0 k;
  there = λ k. diff_apart n p (omega arith) k;
}

not_before : {n p : Str} {j k : ℕ} → Differs n p j → Differs n p k → j < k → ⊥
not_before {j = j} D E h = D.there (omega (arith, E.inside)) (E.before j h)

pub one_number : (n p : Str) (j k : ℕ) → Differs n p j → Differs n p k → j ≡ k
one_number n p j k D E = elim (dec_lt j k) [
  | yes h ↦ absurd (not_before D E h)
  | no h ↦ elim (dec_lt k j) [ yes i ↦ absurd (not_before E D i) | no i ↦ omega arith ]
]

pub one_bound : (b : ℕ) (l u : Str) (es : List Entry) → Well b (used (at l) u es) → (n : Str) → n ⊑ l → n ⊑ u
one_bound b l u es w n p = le_trans p (lt_le (over (well_parts b w).2))

low_fits : {l : Str} → BoundLow (at l) → length l ≤ 24
low_fits (limit B) = B.fits

pub breaks_fits : (b : ℕ) {l : Low} {u : Str} {es : List Entry} {n : Str} {k : ℕ} → Well b (used l u es) → Breaks n l u k → k ≤ 24
breaks_fits b w (within_lower p D) = omega (arith, D.inside, low_fits (well_parts b w).0)
breaks_fits b w (above_upper p D) = omega (arith, D.inside, (well_parts b w).1.fits)

pub breaks_one : (b : ℕ) {l : Low} {u : Str} {es : List Entry} {n : Str} {j k : ℕ} → Well b (used l u es) → Breaks n l u j → Breaks n l u k → j ≡ k
breaks_one b w (within_lower p D) (within_lower q E) = one_number _ _ _ _ D E
breaks_one b {es = es} w (within_lower p D) (above_upper q E) = absurd (q (one_bound b _ _ es w _ p))
breaks_one b {es = es} w (above_upper p D) (within_lower q E) = absurd (p (one_bound b _ _ es w _ q))
breaks_one b w (above_upper p D) (above_upper q E) = one_number _ _ _ _ D E

pub breaks_out : {l : Low} {u n : Str} {k : ℕ} → Breaks n l u k → In (range l u) n → ⊥
breaks_out (within_lower p D) i = over i.1 p
breaks_out (above_upper p D) i = p i.2

-- A name that is not in the range breaks a bound, with the number that the definitions give.
pub out_breaks : (b : ℕ) (l : Low) (u : Str) (es : List Entry) → Well b (used l u es) → (n : Str) → length n ≡ 24 → ¬ In (range l u) n → Breaks n l u (broken l u n)
unfolding broken
out_breaks b none u es w n h out = above_upper (λ p. out (tt, least, p)) (differs n u (omega (arith, (well_parts b w).1.fits)))
out_breaks b (at l) u es w n h out = go (is_at_most n l) refl
  where
    go : (c : Bool) → is_at_most n l ≡ c → Breaks n (at l) u (cond c (diff n l) (diff n u))
    go true e = within_lower (is_at_most_le n l e) (differs n l (omega (arith, low_fits (well_parts b w).0)))
    go false e = above_upper (λ p. out (tt, above (is_at_most_lt n l e), p)) (differs n u (omega (arith, (well_parts b w).1.fits)))
