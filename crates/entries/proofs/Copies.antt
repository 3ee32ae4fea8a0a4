-- Entries that are the upper part of others, or those and one more: the code's test of it.
use Rattle.model.proofs.Prelude.{List, [], ◌+◌, ◌<◌, ◌∙◌, ◌∷◌, ◌≡◌, ap, arith, drop, false, length, ltb, not, refl, suc, true, zero, ℕ}
use mathlib.Core.Bool.{or-true}
use Rattle.model.specs.Entries.{Entry, Row, entry, keep, move, name_at, no_entries, without}
use Rattle.model.specs.Order.{Low, Str, at}
use Rattle.model.specs.Tests.{is_at_most, is_legal_bound, same_str}
use Rattle.model.proofs.Deciding.{le?, over}
use Rattle.model.proofs.Entries.{keep_all, row_at}
use Rattle.model.proofs.Order.{le_refl, le_trans, lt_le}
use Rattle.model.proofs.Tests.{le_is_at_most, lt_is_at_most, same_str_other, same_str_self}
use Rattle.model.proofs.Format.{Contents}
use Rattle.digits.proofs.Bounds.{name_over}
use Rattle.digits.specs.Keys.{continued, value}
use Rattle.entries.proofs.Places.{numbers}
use Rattle.entries.specs.Rows.{are_among, is_not_above, last_of}

-- The entries behind those that are not above a bound are those that move.
pub moved : {l : Low} {u : Str} {es : List Entry} (low : Str) → is_legal_bound low ≡ true → Row l es u
    → (drop (is_not_above (value (continued low)) (numbers es)) es ≡ move low es) × (is_not_above (value (continued low)) (numbers es) + length (move low es) ≡ length es)
unfolding last_of keep
moved low h no_entries = (refl, refl)
moved low h (entry {e = e} {es = es} g a c r) = elim (le? e.0 low) [
  | yes p ↦ let t : ltb (value (continued low)) (value e.0) ≡ false = name_over low e.0 h g ∙ ap not (le_is_at_most e.0 low p) in
      let i = moved low h r in
      rw (t, or-true (ltb 0 (is_not_above (value (continued low)) (numbers es))), le_is_at_most e.0 low p) (i.0, omega (arith, i.1))
  | no p ↦ let t : ltb (value (continued low)) (value e.0) ≡ true = name_over low e.0 h g ∙ ap not (lt_is_at_most e.0 low p) in
      let k : move low es ≡ es = keep_all (λ n. not (is_at_most n low)) r (λ n d. ap not (lt_is_at_most n low (λ q. p (le_trans (lt_le (over d)) q)))) in
      let z : is_not_above (value (continued low)) (numbers es) ≡ 0 = omega (arith, (moved low h r).1, ap length k) in
      rw (t, z, lt_is_at_most e.0 low p, k) (refl, omega arith)
]

pub contents_drop : (e k : ℕ) (es : List Entry) → Contents e es → Contents e (drop k es)
contents_drop e zero es v = v
contents_drop e (suc k) [] v = tt
contents_drop e (suc k) (x ∷ es) v = contents_drop e k es v.1

-- A row without its first name.
pub without_head : {u : Str} (e : Entry) {es : List Entry} → Row (at e.0) es u → without e.0 (e ∷ es) ≡ es
unfolding keep
without_head e r =
    rw (same_str_self e.0) (keep_all (λ k. not (same_str k e.0)) r (λ k c. ap not (same_str_other k e.0 (λ d. over c (rw d (le_refl e.0))))))

-- A row without a later name.
pub without_tail : {u : Str} (e : Entry) {es : List Entry} → Row (at e.0) es u → (i : ℕ) → i < length es
    → without (name_at es i) (e ∷ es) ≡ e ∷ without (name_at es i) es
unfolding keep
without_tail e {es = es} r i h =
    rw (same_str_other e.0 (name_at es i) (λ q. over (row_at r i h).1 (rw q (le_refl (name_at es i)))))

pub among_self : (ns : List (List ℕ)) → are_among ns ns ≡ true
unfolding are_among
among_self [] = refl
among_self (n ∷ ns) = rw (same_str_self n) (among_self ns)
