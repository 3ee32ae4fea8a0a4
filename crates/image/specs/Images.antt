-- The trie image, said by a writer and by a reader: every 1,540 bytes are some trie.
use Rattle.std.specs.Prelude.{cond, List, [], ◌++◌, ◌∷◌, ◌%◌, ◌*◌, ◌+◌, ◌-◌, ◌/◌, ◌<◌, ◌≤◌, suc, zero, ℕ, ltb, get_or}
use Rattle.model.specs.declared.Cell.{Cell}
use Rattle.model.specs.declared.Side.{Side}
use Rattle.model.specs.declared.Side.TheVariants.{Cell as further, Slot as slot}
use Rattle.model.specs.declared.Trie.{Trie}
use Rattle.model.specs.Tries.{at_cell}

-- How long an image is.
abbrev pub image_length : ℕ
image_length = 1540

-- A number of two bytes, little-endian.
abbrev pub pair_bytes : ℕ → List ℕ
pair_bytes x = x % 256 ∷ x / 256 ∷ []

abbrev pub pair_of : ℕ → ℕ → ℕ
pair_of low high = low + 256 * high

-- A side is a signed number of 16 bits: from 0 on it is that slot, below 0 the cell with that number's negative. Here
-- the number is the unsigned one of the same two bytes: -i is 65536 - i. No cell's side leads to cell 0, the root, and
-- none could: the negative of 0 is 0, which is slot 0.
unfoldable pub number_of_side : Side → ℕ
number_of_side (slot s) = s
number_of_side (further zero) = 0
number_of_side (further (suc i)) = 65535 - i

unfoldable pub side_from : ℕ → Side
side_from x = cond (ltb x 32768) (slot x) (further (65536 - x))

-- The sides that 16 bits with a sign hold: slots below 32,768, and cells from 1 to 32,768.
abbrev pub Held : Side → Type 0
Held (slot s) = s < 32768
Held (further i) = (1 ≤ i) × (i ≤ 32768)

-- A cell: its digit, its digit number, its left side, its right side.
abbrev pub cell_bytes : Cell → List ℕ
cell_bytes c = c.digit ∷ c.number ∷ (pair_bytes (number_of_side c.left) ++ pair_bytes (number_of_side c.right))

-- The first n cells.
unfoldable pub cells_bytes : ℕ → List Cell → List ℕ
cells_bytes zero cs = []
cells_bytes (suc n) cs = cells_bytes n cs ++ cell_bytes (at_cell cs n)

-- An image: the count, the first leaf, then 256 cells of 6 bytes each.
abbrev pub head_bytes : Trie → List ℕ
head_bytes t = pair_bytes t.count ++ pair_bytes t.first

unfoldable pub image_of : Trie → List ℕ
image_of t = head_bytes t ++ cells_bytes 256 t.cells

-- The cell that begins at byte k.
abbrev pub cell_from : List ℕ → ℕ → Cell
cell_from xs k =
    record {
      digit = get_or xs k 0;
      number = get_or xs (k + 1) 0;
      left = side_from (pair_of (get_or xs (k + 2) 0) (get_or xs (k + 3) 0));
      right = side_from (pair_of (get_or xs (k + 4) 0) (get_or xs (k + 5) 0));
    }

unfoldable pub cells_from : ℕ → List ℕ → List Cell
cells_from zero xs = []
cells_from (suc n) xs = cells_from n xs ++ (cell_from xs (4 + 6 * n) ∷ [])

-- Every image is some trie.
abbrev pub trie_from : List ℕ → Trie
trie_from xs = record { cells = cells_from 256 xs; count = pair_of (get_or xs 0 0) (get_or xs 1 0); first = pair_of (get_or xs 2 0) (get_or xs 3 0) }
