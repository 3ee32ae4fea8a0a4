-- A row of b + 1 entries: the name at a place, how many of them stay at a split, and the two parts.
use Rattle.model.proofs.Prelude.{List, [], ◌*◌, ◌+◌, ◌-◌, ◌∙◌, ◌∷◌, ◌≡◌, ◌≤◌, ap, ap₂, arith, drop, false, length, length-drop, length-take-le, ltb, not, paste, refl, replicate, suc, sym, take, take_all, take_at, true, zero, ℕ}
use mathlib.Core.Bool.{or-true}
use Rattle.model.specs.declared.Layout.{Layout}
use Rattle.model.specs.Order.{Low, Str, ◌≺◌, ◌⊑◌}
use Rattle.model.specs.Tests.{is_at_most}
use Rattle.model.specs.Names.{Bound}
use Rattle.model.specs.Entries.{Entry, Row, name_at, stay}
use Rattle.model.specs.Format.{entry_length, padded, read_entries}
use Rattle.model.proofs.Tests.{le_is_at_most, lt_is_at_most}
use Rattle.model.proofs.Entries.{keep_parts, row_at}
use Rattle.model.proofs.Format.{entry_size}
use Rattle.model.proofs.Names.{bound_is_legal_bound}
use Rattle.digits.proofs.Bounds.{name_over}
use Rattle.digits.specs.Keys.{continued, value}
use Rattle.entries.specs.Rows.{entries_from, is_not_above, last_of, values}
use Rattle.entries.proofs.Copies.{moved}
use Rattle.entries.proofs.Lists.{drop-read_entries, name_there, part_list, take-read_entries, values_are}
use Rattle.entries.proofs.Padding.{copied, zeros_padded}
use Rattle.entries.proofs.Places.{numbers}
use Rattle.slots.specs.Spots.{RowOf}

-- A last entry that is above is not counted.
is_not_above_front : (v k : ℕ) (es : List Entry) → length es ≡ suc k → ltb v (value (name_at es k)) ≡ true → is_not_above v (numbers (take k es)) ≡ is_not_above v (numbers es)
unfolding last_of
is_not_above_front v k [] h t = absurd (omega arith)
is_not_above_front v zero (x ∷ []) h t = rw t
is_not_above_front v zero (x ∷ y ∷ es) h t = absurd (omega arith)
is_not_above_front v (suc k) (x ∷ es) h t = rw (is_not_above_front v k es (omega arith) t)

-- Those between the first, which is not above, and the last, which is, and the first: as many as stay.
middle_counted : (v b : ℕ) (ws : List Entry) → length ws ≡ b + 1 → 1 ≤ b → ltb v (value (name_at ws 0)) ≡ false → ltb v (value (name_at ws b)) ≡ true
    → 1 + is_not_above v (numbers (take (b - 1) (drop 1 ws))) ≡ is_not_above v (numbers ws)
unfolding last_of
middle_counted v b [] k h f t = absurd (omega arith)
middle_counted v zero (x ∷ ws) k h f t = absurd (omega arith)
middle_counted v (suc b) (x ∷ ws) k h f t =
    let z : suc b - 1 ≡ b = omega arith in
    rw (z, f, or-true (ltb 0 (is_not_above v (numbers ws)))) (omega (arith, is_not_above_front v b ws (omega arith) t))

-- A name as the code copies it.
pub name_copied : (e i at : ℕ) (row m : List ℕ) → at ≡ e * i → at + 24 ≤ length row
    → m ≡ paste (replicate 24 0) 0 (take (at + 24 - at) (drop at row)) (length (take (at + 24 - at) (drop at row)))
    → m ≡ take 24 (drop (e * i) row)
unfolding padded
name_copied e i at row m p h q =
    let s = take (at + 24 - at) (drop at row) in
    let t = take 24 (drop (e * i) row) in
    let z : at + 24 - at ≡ 24 = omega arith in
    let n : length t ≡ 24 = length-take-le 24 (drop (e * i) row) (omega (arith, length-drop (e * i) row)) in
    copied {k = 24} 0 [] s t (zeros_padded 24) refl (rw (z, p)) (omega arith) q ∙ take_at t (replicate 24 0) 24 n

module _ (y : Layout) (row : List ℕ) (ws : List Entry) (r : RowOf y row ws) (n : length ws ≡ y.b + 1) where
  abbrev e : ℕ
  e = entry_length y

  row_is : read_entries e (y.b + 1) row ≡ ws
  row_is = ap (λ (k : ℕ). read_entries e k row) (sym n) ∙ r

  pub name_is : (i : ℕ) → i ≤ y.b → take 24 (drop (e * i) row) ≡ name_at ws i
  name_is i h = sym (name_there e i (y.b + 1) row (omega arith)) ∙ ap (λ (x : List Entry). name_at x i) row_is

  -- The two parts at a place.
  module _ (k : ℕ) (h : k ≤ y.b) (fits : e * (y.b + 1) ≤ length row) where
    least : 24 ≤ e
    least = omega (arith, (entry_size y).least)

    pub upper_row : read_entries e (y.b + 1 - k) (entries_from e k (y.b + 1) row) ≡ drop k ws
    unfolding entries_from
    upper_row =
        part_list e (y.b + 1) k (y.b + 1) row least fits (omega arith) (omega arith)
        ∙ ap (λ (x : List Entry). take (y.b + 1 - k) (drop k x)) row_is
        ∙ take_all (y.b + 1 - k) (drop k ws) (omega (arith, length-drop k ws))

    pub lower_row : read_entries e k (entries_from e 0 k row) ≡ take k ws
    unfolding entries_from
    lower_row =
        let z : k - 0 ≡ k = omega arith in
        ap (λ (m : ℕ). read_entries e m (take (e * (k - 0)) (drop (e * 0) row))) (sym z)
        ∙ part_list e (y.b + 1) 0 k row least fits (omega arith) (omega arith) ∙ ap₂ take z row_is

  -- How many stay, counted in any bytes that hold all but the first and the last.
  counted : {l : Low} {u : Str} (s : Str) (v : ℕ) (zs : List ℕ) → read_entries e (y.b - 1) zs ≡ take (y.b - 1) (drop 1 ws) → 1 ≤ y.b → Row l ws u → Bound s
      → v ≡ value (continued s) → name_at ws 0 ⊑ s → s ≺ name_at ws y.b → 1 + is_not_above v (values e (y.b - 1) zs) ≡ length (stay s ws)
  counted s v zs c h R b q f g =
      let legal = bound_is_legal_bound b in
      let k = y.b in
      let low : ltb v (value (name_at ws 0)) ≡ false = ap (λ (x : ℕ). ltb x (value (name_at ws 0))) q ∙ name_over s (name_at ws 0) legal (row_at R 0 (omega arith)).0 ∙ ap not (le_is_at_most (name_at ws 0) s f) in
      let high : ltb v (value (name_at ws k)) ≡ true = ap (λ (x : ℕ). ltb x (value (name_at ws k))) q ∙ name_over s (name_at ws k) legal (row_at R k (omega arith)).0 ∙ ap not (lt_is_at_most (name_at ws k) s g) in
      ap (λ (x : List ℕ). 1 + is_not_above v x) (values_are e (k - 1) zs ∙ ap numbers c)
      ∙ middle_counted v k ws n h low high
      ∙ omega (arith, ap (λ (x : ℕ). is_not_above x (numbers ws)) q, (moved s legal R).1, keep_parts (λ x. is_at_most x s) ws)

  -- As the code counts them, in the part of the row that has just these entries.
  pub stay_counted : {l : Low} {u : Str} (s : Str) (v : ℕ) → 1 ≤ y.b → e * (y.b + 1) ≤ length row → Row l ws u → Bound s → v ≡ value (continued s)
      → name_at ws 0 ⊑ s → s ≺ name_at ws y.b → 1 + is_not_above v (values e (y.b - 1) (entries_from e 1 y.b row)) ≡ length (stay s ws)
  unfolding entries_from
  stay_counted s v h fits R b q f g =
      let k = y.b in
      let c : read_entries e (k - 1) (entries_from e 1 k row) ≡ take (k - 1) (drop 1 ws) =
      part_list e (k + 1) 1 k row (omega (arith, (entry_size y).least)) fits h (omega arith) ∙ ap (λ (x : List Entry). take (k - 1) (drop 1 x)) row_is in
      counted s v (entries_from e 1 k row) c h R b q f g

  -- The same in all bytes behind the first entry.
  pub stay_counted_past : {l : Low} {u : Str} (s : Str) (v : ℕ) → 1 ≤ y.b → Row l ws u → Bound s → v ≡ value (continued s) → name_at ws 0 ⊑ s → s ≺ name_at ws y.b
      → 1 + is_not_above v (values e (y.b - 1) (drop e row)) ≡ length (stay s ws)
  stay_counted_past s v h R b q f g =
      let k = y.b in
      let o : e * 1 ≡ e = omega arith in
      let d : drop (e * 1) row ≡ drop e row = ap (λ (m : ℕ). drop m row) o in
      let m : k + 1 - 1 ≡ k = omega arith in
      let c : read_entries e (k - 1) (drop e row) ≡ take (k - 1) (drop 1 ws) =
      sym (take-read_entries e (k - 1) k (drop e row) (omega arith))
      ∙ ap (take (k - 1)) (ap₂ (read_entries e) (sym m) (sym d) ∙ sym (drop-read_entries e 1 (k + 1) row (omega arith)) ∙ ap (drop 1) row_is) in
      counted s v (drop e row) c h R b q f g
