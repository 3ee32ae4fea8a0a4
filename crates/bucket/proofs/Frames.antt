-- A slot that stands behind another in range order: with names that rise it passes the tests of a well-formed one.
use Rattle.model.proofs.Prelude.{List, [], ◌*◌, ◌+◌, ◌<◌, ◌∙◌, ◌∷◌, ◌≡◌, ◌≤◌, ap, ap₂, arith, clash, drop, false, get_or, length, lt-ltb, ltb, not, refl, sym, take, take-take, true, ℕ}
use Rattle.model.specs.declared.Layout.{Layout}
use Rattle.model.specs.Files.{used}
use Rattle.model.specs.Format.{entry_length, low_of, read_entries}
use Rattle.model.specs.Order.{Str, at}
use Rattle.model.specs.Tests.{is_at_most, is_legal_bound}
use Rattle.model.proofs.Checks.{is_well_formed_well}
use Rattle.model.proofs.Names.{is_legal_bound_bound}
use Rattle.digits.specs.Keys.{continued, low_value, value}
use Rattle.digits.proofs.Bounds.{under_bound}
use Rattle.digits.proofs.Keys.{bound_below}
use Rattle.gathering.specs.Names.{Rising, names}
use Rattle.entries.proofs.Searches.{entries_ends}
use Rattle.entries.specs.Rows.{are_entries}
use Rattle.bucket.specs.Forms.{Framed, Standing}
use Rattle.bucket.specs.Slots.{Following, count_at, high_in, is_a_bound, low_in}
use Rattle.bucket.proofs.Layouts.{Tested, is_read, is_well}
use Rattle.bucket.proofs.Parts.{count_read}
use Rattle.bucket.proofs.Reading.{bound_short}
use Rattle.bucket.proofs.Slots.{read_used}

-- Bytes in which the upper bound is one.
abbrev pub Upper : List ℕ → Type 0
Upper xs = is_a_bound (get_or xs 3 0) (take 24 (drop 32 xs)) ≡ true

-- The lower bound of a slot that follows is the upper bound before.
pub following_low : (xs ys : List ℕ) → Following xs ys → Upper ys → take (get_or xs 2 0) (drop 8 xs) ≡ high_in ys
following_low xs ys f u =
    let h : get_or ys 3 0 ≤ 24 = bound_short 32 (get_or ys 3 0) ys u in
    ap (λ (n : ℕ). take n (drop 8 xs)) f.0
    ∙ sym (take-take (get_or ys 3 0) 24 (drop 8 xs) h) ∙ ap (take (get_or ys 3 0)) f.1 ∙ take-take (get_or ys 3 0) 24 (drop 32 ys) h

-- A bound below another is not empty, and is the limit that it says.
pub limit_of : (x y : Str) → is_legal_bound x ≡ true → is_legal_bound y ≡ true → value (continued x) < value (continued y) → low_of x ≡ at x
unfolding low_of is_at_most
limit_of [] y f g h =
    let n = bound_below [] y (under_bound [] f) (under_bound y g) (omega arith) (is_legal_bound_bound y g).fits in
    let e : true ≡ false = sym (lt-ltb (value (continued [])) (value (continued y)) h) ∙ n ∙ none_above y in
    clash cc
  where
    none_above : (y : Str) → not (is_at_most y []) ≡ false
    none_above [] = refl
    none_above (d ∷ y) = refl
limit_of (d ∷ x) y f g h = refl

module _ (e b : ℕ) (xs ys : List ℕ) (low : ℕ) (F : Framed e b xs ys low (value (continued (high_in xs)))) (u : Upper ys) (low_is : low ≡ low_value (low_in xs))
    (r : Rising 0 (names e (count_at b xs) (drop 64 xs))) where
  pub framed_tested : Tested e b xs
  framed_tested =
      let s = F.stocked in
      let n : get_or xs 1 0 ≡ count_at b xs = count_read b (get_or xs 1 0) xs refl s.fits in
      let r' : Rising 0 (names e (get_or xs 1 0) (drop 64 xs)) = rw n r in
      record {
        first = s.first;
        fits = s.fits;
        clear = s.clear;
        lower = ap₂ is_a_bound F.follows.0 F.follows.1 ∙ u;
        upper = F.upper;
        ranged = ap (λ (m : ℕ). ltb m (value (continued (high_in xs)))) (sym low_is) ∙ lt-ltb low (value (continued (high_in xs))) F.ranged;
        rowed =
            ap (λ (m : ℕ). are_entries e (get_or xs 1 0) (drop 64 xs) m (value (continued (high_in xs)))) (sym low_is)
            ∙ entries_ends e (get_or xs 1 0) (drop 64 xs) low (value (continued (high_in xs))) r' ∙ s.between;
      }

-- A slot that passes, as it is read.
pub tested_standing : (y : Layout) (xs : List ℕ) → length xs ≡ 64 + entry_length y * y.b → ((i : ℕ) → get_or xs i 0 < 256) → Tested (entry_length y) y.b xs → Standing y xs
tested_standing y xs size bytes t = record {
  entries = read_entries (entry_length y) (get_or xs 1 0) (drop 64 xs);
  read = read_used y xs (is_read y xs size bytes t);
  well = is_well_formed_well y.b (used (low_in xs) (high_in xs) (read_entries (entry_length y) (get_or xs 1 0) (drop 64 xs))) (is_well y xs size bytes t);
}
