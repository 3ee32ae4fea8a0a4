-- No number exceeds the length of its path: from one string to the next at most one digit falls away, and in the right part of
-- a cell no number is smaller than the cell's.
use Rattle.model.proofs.Prelude.{List, [], ◌++◌, ◌∷◌, ◌≡◌, ◌≤◌, arith, length, refl, suc, ℕ}
use Rattle.model.specs.Order.{Str}
use Rattle.model.specs.Tries.{NumbersFit, Tree, cell, leaf, node}
use Rattle.model.proofs.Shapes.{Floors, shapes}
use Rattle.model.proofs.Tries.{cell_length}

-- The length of the first string, or of what stands behind them all.
abbrev first_length : List (ℕ × ℕ) → ℕ → ℕ
first_length [] p = p
first_length (s ∷ ss) p = suc s.0

-- Each number is at most the length of the next string.
abbrev Stepped : ℕ → List (ℕ × ℕ) → Type 0
Stepped p [] = Unit {0}
Stepped p (s ∷ ss) = (s.0 ≤ first_length ss p) × Stepped p ss

first_append : (ss : List (ℕ × ℕ)) (s : ℕ × ℕ) (rs : List (ℕ × ℕ)) (p : ℕ) → first_length (ss ++ (s ∷ rs)) p ≡ first_length ss (suc s.0)
first_append [] s rs p = refl
first_append (x ∷ ss) s rs p = refl

stepped_append : (ss : List (ℕ × ℕ)) (s : ℕ × ℕ) (rs : List (ℕ × ℕ)) (p : ℕ) → Stepped (suc s.0) ss → Stepped p (s ∷ rs) → Stepped p (ss ++ (s ∷ rs))
stepped_append [] s rs p h k = k
stepped_append (x ∷ ss) s rs p h k = (rw (first_append ss s rs p) h.0, stepped_append ss s rs p h.1 k)

stepped_parts : (ss : List (ℕ × ℕ)) (s : ℕ × ℕ) (rs : List (ℕ × ℕ)) (p : ℕ) → Stepped p (ss ++ (s ∷ rs)) → Stepped (suc s.0) ss × Stepped p (s ∷ rs)
stepped_parts [] s rs p h = (tt, h)
stepped_parts (x ∷ ss) s rs p h = let r = stepped_parts ss s rs p h.1 in ((rw (first_append ss s rs p) at h.0, r.0), r.1)

floor_first : (f p : ℕ) (t : Tree) → Floors f t → f ≤ p → f ≤ first_length (shapes t) p
floor_first f p (leaf s) h k = k
floor_first f p (node d i L R) h k = rw (first_append (shapes L) (i, d) (shapes R) p) (floor_first f (suc i) L h.1 (omega (arith, h.0)))

pub numbers_stepped : (f : ℕ) (p : Str) (t : Tree) → Floors f t → NumbersFit p t → Stepped (length p) (shapes t)
numbers_stepped f p (leaf s) h n = tt
numbers_stepped f p (node d i L R) h n =
    stepped_append (shapes L) (i, d) (shapes R) (length p) (rw (cell_length d i p n.0) at (numbers_stepped f (cell d i p) L h.1 n.1))
    (floor_first i (length p) R h.2 n.0, numbers_stepped i p R h.2 n.2)

-- The number of a cell, by those of its right part.
number_right : (i : ℕ) (p : Str) (R : Tree) → Floors i R → NumbersFit p R → i ≤ first_length (shapes R) (length p) → i ≤ length p
number_right i p (leaf s) h n k = k
number_right i p (node d m L R) h n k = omega (arith, h.0, n.0)

pub stepped_numbers : (f : ℕ) (p : Str) (t : Tree) → Floors f t → Stepped (length p) (shapes t) → NumbersFit p t
stepped_numbers f p (leaf s) h k = tt
stepped_numbers f p (node d i L R) h k =
    let r = stepped_parts (shapes L) (i, d) (shapes R) (length p) k in
    let right : NumbersFit p R = stepped_numbers i p R h.2 r.1.1 in
    let here : i ≤ length p = number_right i p R h.2 right r.1.0 in
    (here, stepped_numbers f (cell d i p) L h.1 (rw (cell_length d i p here) r.0), right)
