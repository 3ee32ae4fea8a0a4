-- The image written and read cell by cell, as the code does it.
use Rattle.model.proofs.Prelude.{List, [], ◌%◌, ◌*◌, ◌++◌, ◌+◌, ◌-◌, ◌/◌, ◌<◌, ◌∙◌, ◌∷◌, ◌≡◌, ◌≤◌, add-one, add-zero, ap, append_assoc, arith, drop, le-ltb, length, length-append, length-sets, length-take-le, lt-ltb, paste, paste-suc, paste-zero, refl, set, sets, sets-eq, suc, sym, take, take_all, take_at, towards_suc, zero, ℕ}
use Rattle.std.proofs.lemmas.Slice.{put_mid-paste}
use borrow.Rule.Slice.PartMut.{put_mid}
use Rattle.model.specs.declared.Cell.{Cell}
use Rattle.model.specs.declared.Side.TheVariants.{Cell as further, Slot as slot}
use Rattle.model.specs.declared.Trie.{Trie}
use Rattle.model.specs.Tries.{at_cell}
use Rattle.image.specs.Images.{cell_bytes, cells_bytes, cells_from, head_bytes, image_length, image_of, number_of_side, pair_bytes, side_from}

-- A side's number, and the side of a number.
pub number_cell : (i n : ℕ) → i < 65536 → n < 65536 → (n + i) % 65536 ≡ 0 → n ≡ number_of_side (further i)
unfolding number_of_side
number_cell zero n h l e = omega arith
number_cell (suc i) n h l e = omega arith

-- The same of every cell but the root, as a difference; the root's number is 0.
pub number_further : (i : ℕ) → (i ≡ 0 → ⊥) → 65535 - (i - 1) ≡ number_of_side (further i)
unfolding number_of_side
number_further zero h = absurd (h refl)
number_further (suc i) h = omega arith

pub number_root : (i : ℕ) → i ≡ 0 → 0 ≡ number_of_side (further i)
unfolding number_of_side
number_root i e = rw e

pub number_slot : (s : ℕ) → s ≡ number_of_side (slot s)
unfolding number_of_side
number_slot s = refl

pub side_slot : (x : ℕ) → x < 32768 → slot x ≡ side_from x
unfolding side_from
side_slot x h = rw (lt-ltb x 32768 h)

pub side_cell : (x i : ℕ) → 32768 ≤ x → i ≡ 65536 - x → further i ≡ side_from x
unfolding side_from
side_cell x i h e = rw (le-ltb x 32768 h, e)

-- The two stores of a number, made at once.
pub both_written : (k n x : ℕ) (xs ys : List ℕ) {b : ℕ} → n ≡ 2 → b ≡ x / 256 → ys ≡ x % 256 ∷ b ∷ [] → k + 2 ≤ length xs
    → put_mid k n xs ys ≡ sets xs k (pair_bytes x)
both_written k n x xs ys {b} l o e h =
    put_mid-paste k n xs ys zs 2 e (sym l) refl ∙ sym (ap (λ (ws : List ℕ). set ws (suc k) (x / 256)) one ∙ two)
  where
    zs : List ℕ
    zs = x % 256 ∷ b ∷ []

    one : set xs k (x % 256) ≡ paste xs k zs 1
    one =
        ap (λ (ws : List ℕ). set ws k (x % 256)) (paste-zero xs k zs)
        ∙ ap (λ (m : ℕ). set (paste xs k zs 0) m (x % 256)) (sym (add-zero k))
        ∙ paste-suc xs k zs 0 0 (omega arith) (omega arith)

    two : set (paste xs k zs 1) (suc k) (x / 256) ≡ paste xs k zs 2
    two = rw (← add-one k, ← o) (paste-suc xs k zs 1 0 (omega arith) (omega arith))

-- The stores of a cell.
pub cell_written : (xs : List ℕ) (at : ℕ) (c : Cell) {l r : ℕ} → l ≡ number_of_side c.left → r ≡ number_of_side c.right
    → sets (sets (set (set xs at c.digit) (at + 1) c.number) (at + 2) (pair_bytes l)) (at + 4) (pair_bytes r) ≡ sets xs at (cell_bytes c)
cell_written xs at c l r = rw (l, r) (simp towards_suc)

-- Written: the first four bytes, then the first i cells.
abbrev pub written : Trie → ℕ → List ℕ
written t i = head_bytes t ++ cells_bytes i t.cells

pub first_written : (xs : List ℕ) (a b c d : ℕ) → 4 ≤ length xs → take 4 (set (set (set (set xs 0 a) 1 b) 2 c) 3 d) ≡ a ∷ b ∷ c ∷ d ∷ []
first_written [] a b c d h = absurd (omega arith)
first_written (x ∷ []) a b c d h = absurd (omega arith)
first_written (x ∷ y ∷ []) a b c d h = absurd (omega arith)
first_written (x ∷ y ∷ z ∷ []) a b c d h = absurd (omega arith)
first_written (x ∷ y ∷ z ∷ w ∷ xs) a b c d h = refl

sets_begun : (xs vs : List ℕ) (k n : ℕ) → k + length vs ≤ length xs → k + length vs ≡ n → take n (sets xs k vs) ≡ take k xs ++ vs
sets_begun xs vs k n h e = rw (sets-eq vs xs k h) (take_at (take k xs ++ vs) (drop (k + length vs) xs) n size)
  where
    size : length (take k xs ++ vs) ≡ n
    size = rw (length-append, length-take-le k xs (omega arith)) e

pub written_first : (t : Trie) (xs : List ℕ) (a b c d : ℕ) → length xs ≡ image_length → a ∷ b ∷ c ∷ d ∷ [] ≡ head_bytes t
    → take (4 + 6 * 0) (set (set (set (set xs 0 a) 1 b) 2 c) 3 d) ≡ written t 0
unfolding cells_bytes
written_first t [] a b c d h e = absurd (omega arith)
written_first t (x ∷ []) a b c d h e = absurd (omega arith)
written_first t (x ∷ y ∷ []) a b c d h e = absurd (omega arith)
written_first t (x ∷ y ∷ z ∷ []) a b c d h e = absurd (omega arith)
written_first t (x ∷ y ∷ z ∷ w ∷ xs) a b c d h e = e

pub written_next : (t : Trie) (i : ℕ) (xs ys : List ℕ) → length xs ≡ image_length → i < 256 → take (4 + 6 * i) xs ≡ written t i
    → ys ≡ sets xs (4 + 6 * i) (cell_bytes (at_cell t.cells i)) → take (4 + 6 * (i + 1)) ys ≡ written t (i + 1)
unfolding cells_bytes
written_next t i xs ys l h e w =
    ap (take (4 + 6 * (i + 1))) w ∙ sets_begun xs vs (4 + 6 * i) (4 + 6 * (i + 1)) (omega arith) (omega arith)
    ∙ ap (λ (r : List ℕ). r ++ vs) e
    ∙ append_assoc (head_bytes t) (cells_bytes i t.cells) vs
    ∙ ap (λ (k : ℕ). head_bytes t ++ cells_bytes k t.cells) (sym (add-one i))
  where
    vs : List ℕ
    vs = cell_bytes (at_cell t.cells i)

pub written_size : (t : Trie) (i : ℕ) (xs ys : List ℕ) → length xs ≡ image_length → ys ≡ sets xs (4 + 6 * i) (cell_bytes (at_cell t.cells i))
    → length ys ≡ image_length
written_size t i xs ys l w = ap length w ∙ length-sets xs (4 + 6 * i) (cell_bytes (at_cell t.cells i)) ∙ l

pub written_all : (t : Trie) (i : ℕ) (xs : List ℕ) → length xs ≡ image_length → i ≡ 256 → take (4 + 6 * i) xs ≡ written t i → xs ≡ image_of t
unfolding image_of
written_all t i xs l h e = sym (take_all (4 + 6 * i) xs (omega arith)) ∙ e ∙ ap (written t) h

pub length-cells_from : (n : ℕ) (xs : List ℕ) → length (cells_from n xs) ≡ n
unfolding cells_from
length-cells_from zero xs = refl
length-cells_from (suc n) xs = rw (length-append, length-cells_from n xs) (omega arith)
