-- What the pass over an image does from one spot to another, said of every pass that goes on from there.
use Rattle.std.specs.Prelude.{Option, Some, None, ◌≡◌, cond, List, [], ◌++◌, ◌∷◌, ◌+◌, ◌-◌, ◌<◌, ◌≤◌, suc, zero, ℕ, eqb, get_or, length}
use Rattle.model.specs.declared.Cell.{Cell}
use Rattle.model.specs.declared.Side.{Side}
use Rattle.model.specs.Tries.{occ}
use Rattle.trie.specs.declared.Strings.{Strings}
use Rattle.image.specs.Images.{side_from, trie_from}
use Rattle.agreement.specs.Passes.{Passes, stack}
use Rattle.agreeing.specs.declared.Spot.{Spot}

-- The side that the whole trie is, as a number. The root has the number after the last that two bytes hold.
unfoldable pub root_of : ℕ → ℕ → ℕ
root_of zero first = first
root_of (suc n) first = 65536

-- How many cells are marked.
unfoldable pub marked : List ℕ → ℕ
marked [] = 0
marked (zero ∷ ms) = marked ms
marked (suc m ∷ ms) = suc (marked ms)

-- The arrays have a place for every cell, and each cell on the stack is marked.
pub record Roomy (marks cells : List ℕ) (p : Spot) : Type 0 where
  pub marks_whole : length marks ≡ 256
  pub cells_whole : length cells ≡ 256
  pub room : p.top ≤ marked marks
  pub inside : p.side ≤ 65536

-- Where a pass stands: the marks, the cells on the stack, the side, and the least number.
pub record Standing : Type 0 where
  pub marks : List ℕ
  pub on_stack : List ℕ
  pub side : Side
  pub least : ℕ

abbrev pub standing : List ℕ → List ℕ → Spot → Standing
standing marks cells p = record { marks = marks; on_stack = stack p.top cells; side = side_from p.side; least = p.least }

-- A cell that met its string or is on the stack is marked, and is one of these once.
pub record Kept (marks seen ks : List ℕ) : Type 0 where
  pub unmarked : (k : ℕ) → get_or marks k 0 ≡ 0 → occ k seen + occ k ks ≡ 0
  pub once : (k : ℕ) → occ k seen + occ k ks ≤ 1

-- From one standing to another so many strings are met, where the arrays have there what is asked: each pass that goes on from
-- the second is then one that goes on from the first.
pub record Onward (cs : List Cell) (count : ℕ) (Asked : Strings → ℕ → Type 0) (n : ℕ) (from to : Standing) : Type 0 where
  pub met : List ℕ
  pub met_count : length met ≡ n
  pub kept : (seen : List ℕ) → Kept from.marks seen from.on_stack → Kept to.marks (seen ++ met) to.on_stack
  pub back : (s : Strings) (seen last : List ℕ) → s.count ≡ count → Asked s (length seen) → Kept from.marks seen from.on_stack
      → Passes cs s to.on_stack to.side to.least (seen ++ met) last → Passes cs s from.on_stack from.side from.least seen last

-- What is asked of the strings at a place: nothing;
abbrev pub Whatever : Strings → ℕ → Type 0
Whatever s d = Unit {0}

-- that a string is there with one digit more than the number, this last digit, and left of it the leaf of this slot;
pub record StringAt (slot number digit : ℕ) (s : Strings) (d : ℕ) : Type 0 where
  pub slot_is : slot ≡ get_or s.slots d 0
  pub length_is : suc number ≡ get_or s.lens d 0
  pub digit_is : digit ≡ get_or s.digits d 0

-- that the beginnings of x are there that are longer than so many digits, the longest first.
abbrev pub BoundAt : List ℕ → ℕ → ℕ → ℕ → Strings → ℕ → Type 0
BoundAt x shared slot next s d =
    (m : ℕ) → shared ≤ m → m < length x → StringAt (cond (eqb (suc m) (length x)) slot next) m (get_or x m 0) s (d + (length x - suc m))

-- The pass goes on to a spot, or says nothing.
pub data Goes (image : List ℕ) (count : ℕ) (Asked : Strings → ℕ → Type 0) (n : ℕ) (marks cells : List ℕ) (p : Spot) (marks' cells' : List ℕ) : Option Spot → Type 0 where
  strays : Goes image count Asked n marks cells p marks' cells' None
  goes : {q : Spot} → Roomy marks' cells' q → Onward (trie_from image).cells count Asked n (standing marks cells p) (standing marks' cells' q)
      → Goes image count Asked n marks cells p marks' cells' (Some q)
