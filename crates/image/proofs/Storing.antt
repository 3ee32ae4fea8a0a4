-- A cell stored in an image: the image of the trie with that cell.
use Rattle.model.proofs.Prelude.{List, [], ◌%◌, ◌*◌, ◌++◌, ◌+◌, ◌/◌, ◌<◌, ◌∙◌, ◌∷◌, ◌≡◌, ◌≤◌, ap, append-nil, arith, dec_lt, drop, drop_of_length-le, get_or-set_other, get_or-set_same, length, length-append, length-drop, length-replicate, length-set, length-take-le, refl, replicate, replicate-append-replicate, set, sets, sets-eq, suc, sym, take_all, take_at, zero, ℕ}
use lib.Seq.{set-append_left}
use Rattle.std.proofs.lemmas.Slice.{take-put_mid}
use borrow.Rule.Slice.PartMut.{mid_of, put_mid, same_len_mid}
use Rattle.model.specs.declared.Cell.{Cell}
use Rattle.model.specs.declared.Trie.{Trie}
use Rattle.model.specs.Tries.{at_cell, zero_cell}
use Rattle.model.proofs.Lists.{at_replicate}
use Rattle.image.specs.Clearing.{cleared}
use Rattle.image.specs.Images.{cell_bytes, cells_bytes, head_bytes, image_length, image_of, number_of_side}
use Rattle.image.proofs.Coding.{first_written}
use Rattle.image.proofs.Images.{length-cells_bytes}

sets_cons : (x : ℕ) (xs vs : List ℕ) (k : ℕ) → sets (x ∷ xs) (suc k) vs ≡ x ∷ sets xs k vs
sets_cons x xs [] k = refl
sets_cons x xs (v ∷ vs) k = sets_cons x (set xs k v) vs (suc k)

sets_four : (a b c d : ℕ) (xs vs : List ℕ) (k : ℕ) → sets (a ∷ b ∷ c ∷ d ∷ xs) (4 + k) vs ≡ a ∷ b ∷ c ∷ d ∷ sets xs k vs
sets_four a b c d xs vs k =
    let e : 4 + k ≡ suc (suc (suc (suc k))) = omega arith in
    rw (e, sets_cons a (b ∷ c ∷ d ∷ xs), sets_cons b (c ∷ d ∷ xs), sets_cons c (d ∷ xs), sets_cons d xs)

sets_left : (xs ys vs : List ℕ) (k : ℕ) → k + length vs ≤ length xs → sets (xs ++ ys) k vs ≡ sets xs k vs ++ ys
sets_left xs ys [] k h = refl
sets_left xs ys (v ∷ vs) k h =
    ap (λ (zs : List ℕ). sets zs (suc k) vs) (set-append_left xs ys k v (omega arith))
    ∙ sets_left (set xs k v) ys vs (suc k) (omega (arith, length-set xs k v))

sets_right : (xs ys vs : List ℕ) (k : ℕ) → length xs ≡ k → length ys ≡ length vs → sets (xs ++ ys) k vs ≡ xs ++ vs
sets_right xs ys vs k e f =
    sets-eq vs (xs ++ ys) k (omega (arith, length-append xs ys))
    ∙ rw (take_at xs ys k e, drop_of_length-le (xs ++ ys) {i = k + length vs} (omega (arith, length-append xs ys)), append-nil)

cells_before : (n i : ℕ) (cs : List Cell) (c : Cell) → n ≤ i → cells_bytes n (set cs i c) ≡ cells_bytes n cs
unfolding cells_bytes
cells_before zero i cs c h = refl
cells_before (suc n) i cs c h = rw (cells_before n i cs c (omega arith), get_or-set_other cs i n c zero_cell (λ e. omega arith))

cells_stored : (n i : ℕ) (cs : List Cell) (c : Cell) → i < n → n ≤ length cs → sets (cells_bytes n cs) (6 * i) (cell_bytes c) ≡ cells_bytes n (set cs i c)
unfolding cells_bytes
cells_stored zero i cs c h l = absurd (omega arith)
cells_stored (suc n) i cs c h l = go (dec_lt i n) (λ k. cells_stored n i cs c k (omega arith))
  where
    go : Dec (i < n) → (i < n → sets (cells_bytes n cs) (6 * i) (cell_bytes c) ≡ cells_bytes n (set cs i c))
        → sets (cells_bytes n cs ++ cell_bytes (at_cell cs n)) (6 * i) (cell_bytes c) ≡ cells_bytes n (set cs i c) ++ cell_bytes (at_cell (set cs i c) n)
    go (yes k) before =
        sets_left (cells_bytes n cs) (cell_bytes (at_cell cs n)) (cell_bytes c) (6 * i) (omega (arith, length-cells_bytes n cs))
        ∙ rw (before k, get_or-set_other cs i n c zero_cell (λ e. omega arith))
    go (no k) before =
        let e : i ≡ n = omega arith in
        rw (e, cells_before n n cs c (omega arith), get_or-set_same cs n c zero_cell (omega arith))
        (sets_right (cells_bytes n cs) (cell_bytes (at_cell cs n)) (cell_bytes c) (6 * n) (length-cells_bytes n cs) refl)

pub image_size : (t : Trie) → length (image_of t) ≡ image_length
unfolding image_of
image_size t = omega (arith, length-append (head_bytes t) (cells_bytes 256 t.cells), length-cells_bytes 256 t.cells)

pub cell_stored : (t : Trie) (i : ℕ) (c : Cell) → length t.cells ≡ 256 → i < 256
    → sets (image_of t) (4 + 6 * i) (cell_bytes c) ≡ image_of (record { cells = set t.cells i c; count = t.count; first = t.first })
unfolding image_of
cell_stored t i c l h =
    sets_four _ _ _ _ (cells_bytes 256 t.cells) (cell_bytes c) (6 * i)
    ∙ ap (λ (r : List ℕ). head_bytes t ++ r) (cells_stored 256 i t.cells c h (omega arith))

-- The image of a trie whose cells are all zero.
zero_cells : (n : ℕ) → cells_bytes n (replicate 256 zero_cell) ≡ replicate (6 * n) 0
unfolding cells_bytes number_of_side
zero_cells zero = refl
zero_cells (suc n) =
    let e : 6 * suc n ≡ 6 * n + 6 = omega arith in
    rw (zero_cells n, at_replicate zero_cell 256 n, e) (replicate-append-replicate (6 * n) 6 0)

pub cleared_written : (count first : ℕ) (xs ws zs : List ℕ) → length xs ≡ image_length
    → ws ≡ set (set (set (set xs 0 (count % 256)) 1 (count / 256)) 2 (first % 256)) 3 (first / 256)
    → zs ≡ replicate (length (mid_of 4 1536 ws)) 0 → put_mid 4 1536 ws zs ≡ image_of (cleared count first)
unfolding image_of cleared
cleared_written count first xs ws zs l e z =
    sym (take_all image_length (put_mid 4 1536 ws zs) (omega (arith, same_len_mid 4 1536 ws zs (size ∙ sym part), whole)))
    ∙ take-put_mid 4 1536 ws zs image_length (omega (arith, size)) (omega (arith, whole))
    ∙ rw (z, part, e, first_written xs (count % 256) (count / 256) (first % 256) (first / 256) (omega arith), zero_cells 256)
  where
    whole : length ws ≡ image_length
    whole = rw e (simp length-set l)

    part : length (mid_of 4 1536 ws) ≡ 1536
    part = length-take-le 1536 (drop 4 ws) (omega (arith, length-drop 4 ws, whole))

    size : length zs ≡ 1536
    size = ap length z ∙ length-replicate {A = ℕ} (length (mid_of 4 1536 ws)) 0 ∙ part
