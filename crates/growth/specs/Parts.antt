-- What each part of growth does to the cells, one by one.
use Rattle.std.specs.Prelude.{◌≡◌, cond, List, ◌+◌, ◌-◌, ◌<◌, ◌≤◌, ℕ, eqb, leb, ltb, get_or, length, set}
use Rattle.model.specs.declared.Cell.{Cell}
use Rattle.model.specs.declared.Side.{Side}
use Rattle.model.specs.declared.Side.TheVariants.{Cell as further, Slot as slot}
use Rattle.model.specs.declared.Trie.{Trie}
use Rattle.model.specs.Order.{Str}
use Rattle.model.specs.Tries.{at_cell}
use Rattle.trie.specs.declared.Hand.{Hand}
use Rattle.trie.specs.declared.Hand.TheVariants.{Left, Right}
use Rattle.trie.specs.declared.Walk.{Walk}

-- Where the leaf stands that a cell with this place has on a hand.
abbrev pub beside : Hand → ℕ → ℕ
beside Left place = place
beside Right place = place + 1

-- Where the leaf stands at which the walk ended: just left of the string with this place.
unfoldable pub leaf_place : Walk → List ℕ → ℕ
leaf_place w places = cond (leb 256 w.cell) 0 (beside w.hand (get_or places w.cell 0))

-- The first place, from one on, of a string with so many digits; 256 or more where there is none.
pub record FirstPlace (lens : List ℕ) (from digits r : ℕ) : Type 0 where
  pub from_on : from ≤ r
  pub before : (j : ℕ) → j < r → from ≤ j → get_or lens j 0 ≡ digits → ⊥
  pub found : r < 256 → get_or lens r 0 ≡ digits

-- A side that leads to A leads to N instead where its leaf stands past the last place that stays.
unfoldable pub side_turned : Side → ℕ → ℕ → ℕ → ℕ → Side
side_turned (slot s) place last a n = cond (eqb s a) (cond (leb place last) (slot s) (slot n)) (slot s)
side_turned (further i) place last a n = further i

-- The leaf on a cell's left stands at the cell's place, the one on its right one further.
unfoldable pub cell_turned : Cell → ℕ → ℕ → ℕ → ℕ → Cell
cell_turned c place last a n =
    record {
      digit = c.digit;
      number = c.number;
      left = side_turned c.left place last a n;
      right = side_turned c.right (place + 1) last a n;
    }

-- The first cells, so many, are turned, each by its place.
pub record Redirected (t : Trie) (places : List ℕ) (count last a n : ℕ) (r : Trie) : Type 0 where
  pub full : length r.cells ≡ length t.cells
  pub turned : (i : ℕ) → i < count → i < length t.cells → at_cell r.cells i ≡ cell_turned (at_cell t.cells i) (get_or places i 0) last a n
  pub rest : (i : ℕ) → count ≤ i → at_cell r.cells i ≡ at_cell t.cells i
  pub count_is : r.count ≡ t.count
  pub first_is : r.first ≡ t.first

-- The cell with one side leading to a further cell.
unfoldable pub side_joined : Cell → Hand → ℕ → Cell
side_joined c Left to = record { digit = c.digit; number = c.number; left = further to; right = c.right }
side_joined c Right to = record { digit = c.digit; number = c.number; left = c.left; right = further to }

-- The side by which the walk reached its leaf leads to the first new cell.
unfoldable pub walk_joined : Trie → ℕ → Walk → Trie
walk_joined t count w = cond (leb count w.cell) t (
    record {
      cells = set t.cells w.cell (side_joined (at_cell t.cells w.cell) w.hand count);
      count = t.count;
      first = t.first;
    }
    )

-- The left side of the new cell i: the next one, or A where it is the last before the end.
unfoldable pub next_side : ℕ → ℕ → ℕ → Side
next_side i end a = cond (ltb (i + 1) end) (further (i + 1)) (slot a)

-- The new cell i, for the digit of s with this number.
unfoldable pub new_cell : Str → ℕ → ℕ → ℕ → ℕ → ℕ → Cell
new_cell s at i end a n = record { digit = get_or s at 0; number = at; left = next_side i end a; right = slot n }

-- New cells stand from a count on, below another.
pub record Written (t : Trie) (count : ℕ) (s : Str) (shared a n upto : ℕ) (r : Trie) : Type 0 where
  pub full : length r.cells ≡ length t.cells
  pub new : (j : ℕ) → count + j < upto → count + j < length t.cells
      → at_cell r.cells (count + j) ≡ new_cell s (shared + j) (count + j) (count + (length s - shared)) a n
  pub before : (i : ℕ) → i < count → at_cell r.cells i ≡ at_cell t.cells i
  pub behind : (i : ℕ) → upto ≤ i → at_cell r.cells i ≡ at_cell t.cells i

-- One for each digit of s past the shared ones.
pub record Appended (t : Trie) (count : ℕ) (s : Str) (shared a n : ℕ) (r : Trie) : Type 0 where
  pub written : Written t count s shared a n (count + (length s - shared)) r
  pub count_is : r.count ≡ count + (length s - shared)
  pub first_is : r.first ≡ 0
