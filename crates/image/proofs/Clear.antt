-- Cells are zero exactly where their bytes are.
use Rattle.model.proofs.Prelude.{List, ◌&&◌, ◌*◌, ◌+◌, ◌<◌, ◌≡◌, and_assoc, arith, dec_lt, drop, drop-cons, drop_of_length-le, eqb, false, get_or, le-ltb, length, lt-ltb, ne_eqb, refl, suc, zero, ℕ}
use Rattle.model.specs.declared.Side.TheVariants.{Slot as slot}
use Rattle.model.specs.Tries.{zero_cell}
use Rattle.model.specs.Agreeing.{are_zero_cells, same_side}
use Rattle.digits.specs.Keys.{is_all_zero}
use Rattle.image.specs.Images.{image_length, pair_of, side_from, trie_from}
use Rattle.image.proofs.Coding.{length-cells_from}
use Rattle.image.proofs.Images.{cell_of}

-- A side is slot 0 only where both its bytes are zero.
some_side : (x : ℕ) → 0 < x → same_side (side_from x) (slot 0) ≡ false
unfolding same_side side_from
some_side x h = elim (dec_lt x 32768) [ yes l ↦ rw (lt-ltb x 32768 l) (ne_eqb x 0 (λ e. omega arith)) | no l ↦ rw (le-ltb x 32768 (omega arith)) ]

zero_side : (a b : ℕ) → same_side (side_from (pair_of a b)) (slot 0) ≡ (eqb a 0 && eqb b 0)
unfolding same_side side_from
zero_side zero zero = refl
zero_side zero (suc b) = rw (ne_eqb (suc b) 0 (λ e. omega arith)) (some_side (pair_of 0 (suc b)) (omega arith))
zero_side (suc a) b = rw (ne_eqb (suc a) 0 (λ e. omega arith)) (some_side (pair_of (suc a) b) (omega arith))

module _ (xs : List ℕ) (size : length xs ≡ image_length) where
  byte : (i j : ℕ) → i < length xs → suc i ≡ j → is_all_zero (drop i xs) ≡ (eqb (get_or xs i 0) 0 && is_all_zero (drop j xs))
  unfolding is_all_zero
  byte i j h e = rw (drop-cons xs i 0 h, ← e)

  pub clear_past : (more count : ℕ) → count + more ≡ 256 → is_all_zero (drop (4 + 6 * count) xs) ≡ are_zero_cells (drop count (trie_from xs).cells)
  unfolding are_zero_cells is_all_zero
  clear_past zero count e =
      rw (drop_of_length-le xs {i = 4 + 6 * count} (omega arith), drop_of_length-le (trie_from xs).cells {i = count} (omega (arith, length-cells_from 256 xs)))
  clear_past (suc more) count e =
      let k = 4 + 6 * count in
      rw (
        byte k (k + 1) (omega arith) (omega arith),
        byte (k + 1) (k + 2) (omega arith) (omega arith),
        byte (k + 2) (k + 3) (omega arith) (omega arith),
        byte (k + 3) (k + 4) (omega arith) (omega arith),
        byte (k + 4) (k + 5) (omega arith) (omega arith),
        byte (k + 5) (4 + 6 * suc count) (omega arith) (omega arith),
        drop-cons (trie_from xs).cells count zero_cell (omega (arith, length-cells_from 256 xs)),
        cell_of xs count (omega arith),
        zero_side (get_or xs (k + 2) 0) (get_or xs (k + 3) 0),
        zero_side (get_or xs (k + 4) 0) (get_or xs (k + 5) 0),
        clear_past more (suc count) (omega arith),
      )
      (simp and_assoc)
