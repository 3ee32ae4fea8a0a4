-- Reading back the image that was written, and the converse: 1,540 bytes and the tries with an image are one to one.
use Rattle.model.proofs.Prelude.{List, get_or_append, [], ◌%◌, ◌*◌, ◌++◌, ◌+◌, ◌-◌, ◌/◌, ◌<◌, ◌∙◌, ◌∷◌, ◌≡◌, ◌≤◌, add-zero, ap, append_assoc, arith, cond, dec_lt, drop, get_or, get_or-append-add, get_or-append_seam, get_or-drop, le-ltb, length, length-append, length-drop, lt-ltb, ltb, refl, suc, sym, take, take-add, take_all, take-suc, zero, ℕ}
use Rattle.model.specs.declared.Cell.{Cell}
use Rattle.model.specs.declared.Side.{Side}
use Rattle.model.specs.declared.Side.TheVariants.{Cell as further, Slot as slot}
use Rattle.model.specs.declared.Trie.{Trie}
use Rattle.model.specs.Tries.{at_cell, zero_cell}
use Rattle.image.specs.Images.{Held, cell_bytes, cell_from, cells_bytes, cells_from, head_bytes, image_length, image_of, number_of_side, pair_of, side_from, trie_from}
use Rattle.image.proofs.Coding.{length-cells_from, written}

-- The tries that have an image of their own.
pub record Imaged (t : Trie) : Type 0 where
  pub whole : length t.cells ≡ 256
  pub left_held : (i : ℕ) → i < 256 → Held (at_cell t.cells i).left
  pub right_held : (i : ℕ) → i < 256 → Held (at_cell t.cells i).right

pair_back : (x : ℕ) → pair_of (x % 256) (x / 256) ≡ x
pair_back x = omega arith

side_back : (a : Side) → Held a → side_from (number_of_side a) ≡ a
unfolding side_from number_of_side
side_back (slot s) h = rw (lt-ltb s 32768 h)
side_back (further zero) h = absurd (omega (arith, h.0))
side_back (further (suc i)) h =
    let e : 65536 - (65535 - i) ≡ suc i = omega (arith, h.1) in
    rw (le-ltb (65535 - i) 32768 (omega (arith, h.1)), e)

number_back : (x : ℕ) → x < 65536 → number_of_side (side_from x) ≡ x
unfolding side_from number_of_side
number_back x h = go (dec_lt x 32768)
  where
    cell_back : (k : ℕ) → k ≡ 65536 - x → number_of_side (further k) ≡ x
    cell_back zero e = absurd (omega arith)
    cell_back (suc k) e = omega arith

    go : Dec (x < 32768) → number_of_side (cond (ltb x 32768) (slot x) (further (65536 - x))) ≡ x
    go (yes l) = rw (lt-ltb x 32768 l)
    go (no l) = rw (le-ltb x 32768 (omega arith)) (cell_back (65536 - x) refl)

-- The bytes of cell n in the image.
pub length-cells_bytes : (n : ℕ) (cs : List Cell) → length (cells_bytes n cs) ≡ 6 * n
unfolding cells_bytes
length-cells_bytes zero cs = refl
length-cells_bytes (suc n) cs = rw (length-append, length-cells_bytes n cs) (omega arith)

cells_byte : (n m : ℕ) (cs : List Cell) (j : ℕ) → n < m → j < 6 → get_or (cells_bytes m cs) (6 * n + j) 0 ≡ get_or (cell_bytes (at_cell cs n)) j 0
unfolding cells_bytes
cells_byte n zero cs j h k = absurd (omega arith)
cells_byte n (suc m) cs j h k = go (dec_lt n m) (λ i. cells_byte n m cs j i k)
  where
    go : Dec (n < m) → (n < m → get_or (cells_bytes m cs) (6 * n + j) 0 ≡ get_or (cell_bytes (at_cell cs n)) j 0)
        → get_or (cells_bytes m cs ++ cell_bytes (at_cell cs m)) (6 * n + j) 0 ≡ get_or (cell_bytes (at_cell cs n)) j 0
    go (yes i) before = get_or_append (cells_bytes m cs) (cell_bytes (at_cell cs m)) 0 (6 * n + j) (omega (arith, length-cells_bytes m cs)) ∙ before i
    go (no i) before =
        let e : n ≡ m = omega arith in
        let f : 6 * n + j ≡ length (cells_bytes m cs) + j = omega (arith, length-cells_bytes m cs) in
        ap (λ (x : ℕ). get_or (cells_bytes m cs ++ cell_bytes (at_cell cs m)) x 0) f
        ∙ get_or-append-add (cells_bytes m cs) (cell_bytes (at_cell cs m)) j 0
        ∙ ap (λ (x : ℕ). get_or (cell_bytes (at_cell cs x)) j 0) (sym e)

image_byte : (t : Trie) (n j k : ℕ) → n < 256 → j < 6 → k ≡ 4 + (6 * n + j) → get_or (image_of t) k 0 ≡ get_or (cell_bytes (at_cell t.cells n)) j 0
unfolding image_of
image_byte t n j k h l e = rw e (get_or-append-add (head_bytes t) (cells_bytes 256 t.cells) (6 * n + j) 0 ∙ cells_byte n 256 t.cells j h l)

-- Every trie with an image of its own is read back.
module _ (t : Trie) (I : Imaged t) where
  cell_back : (n : ℕ) → n < 256 → cell_from (image_of t) (4 + 6 * n) ≡ at_cell t.cells n
  cell_back n h =
      rw (
        image_byte t n 0 (4 + 6 * n) h (omega arith) (omega arith),
        image_byte t n 1 (4 + 6 * n + 1) h (omega arith) (omega arith),
        image_byte t n 2 (4 + 6 * n + 2) h (omega arith) (omega arith),
        image_byte t n 3 (4 + 6 * n + 3) h (omega arith) (omega arith),
        image_byte t n 4 (4 + 6 * n + 4) h (omega arith) (omega arith),
        image_byte t n 5 (4 + 6 * n + 5) h (omega arith) (omega arith),
        pair_back,
        pair_back,
        side_back (at_cell t.cells n).left (I.left_held n h),
        side_back (at_cell t.cells n).right (I.right_held n h),
      )

  cells_back : (n : ℕ) → n ≤ 256 → cells_from n (image_of t) ≡ take n t.cells
  unfolding cells_from
  cells_back zero h = refl
  cells_back (suc n) h =
      rw (cells_back n (omega arith), cell_back n (omega arith)) (sym (take-suc t.cells n zero_cell (omega (arith, I.whole))))

  count_back : pair_of (get_or (image_of t) 0 0) (get_or (image_of t) 1 0) ≡ t.count
  unfolding image_of
  count_back = pair_back t.count

  first_back : pair_of (get_or (image_of t) 2 0) (get_or (image_of t) 3 0) ≡ t.first
  unfolding image_of
  first_back = pair_back t.first

  pub trie_back : trie_from (image_of t) ≡ t
  trie_back = rw (cells_back 256 (omega arith), take_all 256 t.cells (omega (arith, I.whole)), count_back, first_back)

-- Each cell of the trie of some bytes.
cell_is : (n m : ℕ) (xs : List ℕ) → n < m → at_cell (cells_from m xs) n ≡ cell_from xs (4 + 6 * n)
unfolding cells_from
cell_is n zero xs h = absurd (omega arith)
cell_is n (suc m) xs h = go (dec_lt n m) (λ i. cell_is n m xs i)
  where
    go : Dec (n < m) → (n < m → at_cell (cells_from m xs) n ≡ cell_from xs (4 + 6 * n))
        → at_cell (cells_from m xs ++ (cell_from xs (4 + 6 * m) ∷ [])) n ≡ cell_from xs (4 + 6 * n)
    go (yes i) before = get_or_append (cells_from m xs) (cell_from xs (4 + 6 * m) ∷ []) zero_cell n (omega (arith, length-cells_from m xs)) ∙ before i
    go (no i) before =
        let e : n ≡ length (cells_from m xs) = omega (arith, length-cells_from m xs) in
        let f : n ≡ m = omega arith in
        ap (λ (k : ℕ). at_cell (cells_from m xs ++ (cell_from xs (4 + 6 * m) ∷ [])) k) e
        ∙ get_or-append_seam (cells_from m xs) (cell_from xs (4 + 6 * m)) [] zero_cell
        ∙ ap (λ (k : ℕ). cell_from xs (4 + 6 * k)) (sym f)

pub cell_of : (xs : List ℕ) (n : ℕ) → n < 256 → at_cell (trie_from xs).cells n ≡ cell_from xs (4 + 6 * n)
cell_of xs n h = cell_is n 256 xs h

first_four : (xs : List ℕ) → 4 ≤ length xs → get_or xs 0 0 ∷ get_or xs 1 0 ∷ get_or xs 2 0 ∷ get_or xs 3 0 ∷ [] ≡ take 4 xs
first_four [] h = absurd (omega arith)
first_four (a ∷ []) h = absurd (omega arith)
first_four (a ∷ b ∷ []) h = absurd (omega arith)
first_four (a ∷ b ∷ c ∷ []) h = absurd (omega arith)
first_four (a ∷ b ∷ c ∷ d ∷ xs) h = refl

first_six : (xs : List ℕ) → 6 ≤ length xs → get_or xs 0 0 ∷ get_or xs 1 0 ∷ get_or xs 2 0 ∷ get_or xs 3 0 ∷ get_or xs 4 0 ∷ get_or xs 5 0 ∷ [] ≡ take 6 xs
first_six [] h = absurd (omega arith)
first_six (a ∷ []) h = absurd (omega arith)
first_six (a ∷ b ∷ xs) h = ap (λ (r : List ℕ). a ∷ b ∷ r) (first_four xs (omega arith))

-- Every 1,540 bytes are the image of the trie that they are, and of no other: no bytes are left over.
module _ (xs : List ℕ) (size : length xs ≡ image_length) (bytes : (i : ℕ) → get_or xs i 0 < 256) where
  low_back : (i j : ℕ) → pair_of (get_or xs i 0) (get_or xs j 0) % 256 ≡ get_or xs i 0
  low_back i j = omega (arith, bytes i)

  high_back : (i j : ℕ) → pair_of (get_or xs i 0) (get_or xs j 0) / 256 ≡ get_or xs j 0
  high_back i j = omega (arith, bytes i)

  side_number : (i j : ℕ) → number_of_side (side_from (pair_of (get_or xs i 0) (get_or xs j 0))) ≡ pair_of (get_or xs i 0) (get_or xs j 0)
  side_number i j = number_back (pair_of (get_or xs i 0) (get_or xs j 0)) (omega (arith, bytes i, bytes j))

  row : (k : ℕ) → k + 6 ≤ length xs → cell_bytes (cell_from xs k) ≡ take 6 (drop k xs)
  row k h =
      rw (
        side_number (k + 2) (k + 3),
        side_number (k + 4) (k + 5),
        low_back (k + 2) (k + 3),
        high_back (k + 2) (k + 3),
        low_back (k + 4) (k + 5),
        high_back (k + 4) (k + 5),
      ) (sym places ∙ first_six (drop k xs) (omega (arith, length-drop k xs)))
    where
      places : get_or (drop k xs) 0 0 ∷ get_or (drop k xs) 1 0 ∷ get_or (drop k xs) 2 0 ∷ get_or (drop k xs) 3 0 ∷ get_or (drop k xs) 4 0 ∷ get_or (drop k xs) 5 0 ∷ []
          ≡ get_or xs k 0 ∷ get_or xs (k + 1) 0 ∷ get_or xs (k + 2) 0 ∷ get_or xs (k + 3) 0 ∷ get_or xs (k + 4) 0 ∷ get_or xs (k + 5) 0 ∷ []
      places = rw (get_or-drop k xs 0 0, get_or-drop k xs 1 0, get_or-drop k xs 2 0, get_or-drop k xs 3 0, get_or-drop k xs 4 0, get_or-drop k xs 5 0, add-zero k)

  bytes_back : (n : ℕ) → n ≤ 256 → written (trie_from xs) n ≡ take (4 + 6 * n) xs
  unfolding cells_bytes
  bytes_back zero h = rw (low_back 0 1, high_back 0 1, low_back 2 3, high_back 2 3) (first_four xs (omega arith))
  bytes_back (suc n) h =
      let e : 4 + 6 * suc n ≡ 4 + 6 * n + 6 = omega arith in
      sym (append_assoc (head_bytes (trie_from xs)) (cells_bytes n (trie_from xs).cells) (cell_bytes (at_cell (trie_from xs).cells n)))
      ∙ ap (λ (r : List ℕ). r ++ cell_bytes (at_cell (trie_from xs).cells n)) (bytes_back n (omega arith))
      ∙ ap (λ (c : Cell). take (4 + 6 * n) xs ++ cell_bytes c) (cell_of xs n (omega arith))
      ∙ ap (λ (r : List ℕ). take (4 + 6 * n) xs ++ r) (row (4 + 6 * n) (omega arith))
      ∙ sym (take-add (4 + 6 * n) 6 xs)
      ∙ ap (λ (k : ℕ). take k xs) (sym e)

  pub image_back : image_of (trie_from xs) ≡ xs
  unfolding image_of
  image_back = bytes_back 256 (omega arith) ∙ take_all image_length xs (omega arith)
