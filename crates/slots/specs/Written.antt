-- The bytes of a slot that is written whole, whatever the size of its entries.
use Rattle.std.specs.Prelude.{List, ◌++◌, ◌∷◌, ℕ, length, replicate}
use Rattle.model.specs.Format.{padded}

-- The most bytes that the entries of one bucket have: 16 of 40.
abbrev pub entries_room : ℕ
entries_room = 640

-- Section 3 of the rules: a used slot's bytes, with room for as many entries as the largest slot has.
unfoldable pub written_bytes : List ℕ → List ℕ → ℕ → List ℕ → List ℕ
written_bytes lower upper count entries =
    1 ∷ count ∷ length lower ∷ length upper ∷ (replicate 4 0
    ++ (padded 24 lower ++ (padded 24 upper ++ (replicate 8 0 ++ padded entries_room entries))))
