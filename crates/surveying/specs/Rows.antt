-- Slots in a guessed order, and all slots: what the two passes tell.
use Rattle.std.specs.Prelude.{Option, Some, None, ◌≡◌, ◌+◌, ◌-◌, ◌<◌, suc, zero, ℕ, drop, get_or, length, take}
use Rattle.std.proofs.Math.Option.{some}
use mathlib.Core.List.{List, Memᴰ, []}
use Rattle.model.specs.Order.{at, none}
use Rattle.model.specs.Files.{IsUsed, Slot, Well, head, slot_at}
use Rattle.model.specs.Format.{bytes_at_slot, entry_length, read_slots}
use Rattle.digits.specs.Keys.{continued, value}
use Rattle.gathering.specs.Names.{Rising, names}
use Rattle.bucket.specs.Forms.{Framed, Standing}
use Rattle.bucket.specs.Slots.{OfSize, count_at, high_in, low_in}
use Rattle.file.specs.declared.Size.{Size}
use Rattle.file.specs.Maps.{map_of}

-- The bytes of the slot at place j of an order.
abbrev pub placed : List ℕ → Size → List ℕ → ℕ → List ℕ
placed xs size order j = bytes_at_slot size.layout (get_or order j 0) xs

-- The place before j among so many: that before the first is the last.
abbrev pub place_before : ℕ → ℕ → ℕ
place_before count zero = count - 1
place_before count (suc j) = j

-- The number at which the range at place j begins, if those before it are a row: where that before ends.
abbrev pub edge : List ℕ → Size → List ℕ → ℕ → ℕ
edge xs size order zero = 0
edge xs size order (suc j) = value (continued (high_in (placed xs size order j)))

-- The slot at place j, but for its names; and its names.
pub record FramedAt (xs : List ℕ) (size : Size) (order : List ℕ) (count j : ℕ) : Type 0 where
  pub whole : OfSize (placed xs size order j) size.layout
  pub framed : Framed (entry_length size.layout) size.layout.b (placed xs size order j) (placed xs size order (place_before count j)) (edge xs size order j) (edge xs size order (suc j))

abbrev pub NamedAt : List ℕ → Size → List ℕ → ℕ → Type 0
NamedAt xs size order j =
    Rising 0 (names (entry_length size.layout) (count_at size.layout.b (placed xs size order j)) (drop 64 (placed xs size order j)))

-- All of them.
abbrev pub AllFramed : List ℕ → Size → List ℕ → ℕ → Type 0
AllFramed xs size order count = (get_or (placed xs size order (count - 1)) 3 0 ≡ 0) × ((j : ℕ) → j < count → FramedAt xs size order count j)

abbrev pub AllNamed : List ℕ → Size → List ℕ → ℕ → Type 0
AllNamed xs size order count = (j : ℕ) → j < count → NamedAt xs size order j

-- They are read as used and well formed, and their bounds follow on each other, from no lower limit to no upper limit.
pub record Rowed (xs : List ℕ) (size : Size) (order : List ℕ) (count : ℕ) : Type 0 where
  pub some_there : 0 < count
  pub stands : (j : ℕ) → j < count → Standing size.layout (placed xs size order j)
  pub begins : low_in (placed xs size order 0) ≡ none
  pub links : (j : ℕ) → suc j < count → low_in (placed xs size order (suc j)) ≡ at (high_in (placed xs size order j))
  pub ends : (j : ℕ) → suc j ≡ count → high_in (placed xs size order j) ≡ []

-- The slots from k on, as they are read, each free or in the order, and their map.
pub record Tallied (xs : List ℕ) (size : Size) (order : List ℕ) (count k map : ℕ) : Type 0 where
  pub rest : ℕ
  pub fits : k + rest ≡ size.slots
  pub slots : List Slot
  pub read : read_slots size.layout rest k xs ≡ some slots
  pub long : length slots ≡ rest
  pub well : (B : ℕ) → Well size.layout.b (slot_at slots B)
  pub listed : (B : ℕ) → IsUsed (head (slot_at slots B)) → Memᴰ (k + B) (take count order)
  pub map_is : map ≡ map_of slots

-- All slots, where those in the order are read as used and well formed.
abbrev pub TallyTold : Option ℕ → List ℕ → Size → List ℕ → ℕ → Type 0
TallyTold (Some map) xs size order count = ((j : ℕ) → j < count → Standing size.layout (placed xs size order j)) → Tallied xs size order count 0 map
TallyTold None xs size order count = Unit
