-- The used slots as a map of 64 bits, slot 0 lowest; and the lowest free slot.
use Rattle.std.specs.Prelude.{Option, Some, None, ◌≡◌, ℕ, ◌+◌, ◌*◌, ◌≤◌, cond, List, [], ◌∷◌, length, nat_lt}
use Rattle.model.specs.Files.{Slot, free, used}
use Rattle.model.specs.Searches.{first, is_free}
use Rattle.file.specs.Sizes.{Inside}

abbrev pub bit_of : Slot → ℕ
bit_of free = 0
bit_of (used l u es) = 1

unfoldable pub map_of : List Slot → ℕ
map_of [] = 0
map_of (x ∷ xs) = 2 * map_of xs + bit_of x

-- R7.6: the lowest free slot.
unfoldable pub room_of : List Slot → Option ℕ
room_of fs = cond (nat_lt (first is_free fs) (length fs)) (Some (first is_free fs)) None

-- The room that is found: one of the file's slots, and of the file whose map it is the lowest free one.
pub record RoomTold (map slots : ℕ) (r : Option ℕ) : Type 0 where
  pub inside : Inside r slots
  pub lowest : (fs : List Slot) → length fs ≡ slots → slots ≤ 64 → map ≡ map_of fs → r ≡ room_of fs
