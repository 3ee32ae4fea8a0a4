-- Stores over an image, seen as changes of the trie that it is.
use Rattle.model.proofs.Prelude.{List, [], ◌*◌, ◌+◌, ◌<◌, ◌∙◌, ◌∷◌, ◌≡◌, ◌≤◌, ap, arith, dec_lt, get_or, get_or-set_other, get_or-set_same, le-ltb, length, length-set, lt-ltb, refl, set, sets, suc, sym, zero, ℕ, ℕ_discrete}
use Rattle.model.specs.declared.Cell.{Cell}
use Rattle.model.specs.declared.Trie.{Trie}
use Rattle.model.specs.Tries.{at_cell, zero_cell}
use Rattle.image.specs.Images.{Held, cell_bytes, cells_from, image_length, pair_of, side_from, trie_from}
use Rattle.image.proofs.Coding.{length-cells_from}
use Rattle.image.proofs.Images.{Imaged, cell_of, image_back, trie_back}
use Rattle.image.proofs.Storing.{cell_stored}

-- Every number of 16 bits is a side that an image holds.
pub side_held : (x : ℕ) → x < 65536 → Held (side_from x)
unfolding side_from
side_held x h = go (dec_lt x 32768)
  where
    go : Dec (x < 32768) → Held (side_from x)
    go (yes l) = rw (lt-ltb x 32768 l) l
    go (no l) = rw (le-ltb x 32768 (omega arith)) (omega arith, omega arith)

-- Bytes past the first four decide the cells.
cells_same : (n : ℕ) (xs ys : List ℕ) → ((k : ℕ) → 4 ≤ k → get_or ys k 0 ≡ get_or xs k 0) → cells_from n ys ≡ cells_from n xs
unfolding cells_from
cells_same zero xs ys same = refl
cells_same (suc n) xs ys same =
    rw (
      cells_same n xs ys same,
      same (4 + 6 * n) (omega arith),
      same (4 + 6 * n + 1) (omega arith),
      same (4 + 6 * n + 2) (omega arith),
      same (4 + 6 * n + 3) (omega arith),
      same (4 + 6 * n + 4) (omega arith),
      same (4 + 6 * n + 5) (omega arith),
    )

-- Another count and first leaf.
pub head_written : (xs : List ℕ) (a b c d : ℕ) {count first : ℕ} → length xs ≡ image_length → pair_of a b ≡ count → pair_of c d ≡ first
    → trie_from (set (set (set (set xs 0 a) 1 b) 2 c) 3 d) ≡ record { cells = (trie_from xs).cells; count = count; first = first }
head_written [] a b c d l m n = absurd (omega arith)
head_written (e ∷ []) a b c d l m n = absurd (omega arith)
head_written (e ∷ f ∷ []) a b c d l m n = absurd (omega arith)
head_written (e ∷ f ∷ g ∷ []) a b c d l m n = absurd (omega arith)
head_written (e ∷ f ∷ g ∷ h ∷ xs) a b c d l m n = rw (cells_same 256 (e ∷ f ∷ g ∷ h ∷ xs) (a ∷ b ∷ c ∷ d ∷ xs) past, m, n)
  where
    past : (k : ℕ) → 4 ≤ k → get_or (a ∷ b ∷ c ∷ d ∷ xs) k 0 ≡ get_or (e ∷ f ∷ g ∷ h ∷ xs) k 0
    past zero i = absurd (omega arith)
    past (suc zero) i = absurd (omega arith)
    past (suc (suc zero)) i = absurd (omega arith)
    past (suc (suc (suc zero))) i = absurd (omega arith)
    past (suc (suc (suc (suc k)))) i = refl

-- Another cell.
module _ (xs : List ℕ) (size : length xs ≡ image_length) (bytes : (i : ℕ) → get_or xs i 0 < 256) where
  pub left_held : (i : ℕ) → i < 256 → Held (at_cell (trie_from xs).cells i).left
  left_held i h = rw (cell_of xs i h) (side_held _ (omega (arith, bytes (4 + 6 * i + 2), bytes (4 + 6 * i + 3))))

  pub right_held : (i : ℕ) → i < 256 → Held (at_cell (trie_from xs).cells i).right
  right_held i h = rw (cell_of xs i h) (side_held _ (omega (arith, bytes (4 + 6 * i + 4), bytes (4 + 6 * i + 5))))

  pub cell_put : (i : ℕ) (c : Cell) → i < 256 → Held c.left → Held c.right
      → trie_from (sets xs (4 + 6 * i) (cell_bytes c)) ≡ record { cells = set (trie_from xs).cells i c; count = (trie_from xs).count; first = (trie_from xs).first }
  cell_put i c h l r =
      ap (λ (ys : List ℕ). trie_from (sets ys (4 + 6 * i) (cell_bytes c))) (sym (image_back xs size bytes))
      ∙ ap trie_from (cell_stored (trie_from xs) i c (length-cells_from 256 xs) h)
      ∙ trie_back after imaged
    where
      after : Trie
      after = record { cells = set (trie_from xs).cells i c; count = (trie_from xs).count; first = (trie_from xs).first }

      imaged : Imaged after
      imaged =
          record {
            whole = length-set (trie_from xs).cells i c ∙ length-cells_from 256 xs;
            left_held = λ j k. each (λ (d : Cell). Held d.left) j l (left_held j k);
            right_held = λ j k. each (λ (d : Cell). Held d.right) j r (right_held j k);
          }
        where
          each : (P : Cell → Type 0) (j : ℕ) → P c → P (at_cell (trie_from xs).cells j) → P (at_cell (set (trie_from xs).cells i c) j)
          each P j new old = go (ℕ_discrete j i)
            where
              go : Dec (j ≡ i) → P (at_cell (set (trie_from xs).cells i c) j)
              go (yes e) = rw (e, get_or-set_same (trie_from xs).cells i c zero_cell (omega (arith, length-cells_from 256 xs))) new
              go (no e) = rw (get_or-set_other (trie_from xs).cells i j c zero_cell e) old
