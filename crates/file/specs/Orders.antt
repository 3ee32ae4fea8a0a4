-- The used slots as the code lists them, by upper bound and where two are equal by lower bound, while it looks at a file.
use Rattle.std.specs.Prelude.{Option, Some, None, ◌≡◌, ℕ, suc, ◌<◌, ◌≤◌, Bool, true, false, ◌&&◌, ◌||◌, ◌⊎◌, List, length, take, drop, ◌==◌, ◌≢◌, nat_lt, slice_index}
use Rattle.std.proofs.Math.Option.{some}
use mathlib.Core.List.{Memᴰ}
use Rattle.model.specs.Order.{◌≺◌, ◌⊴◌, none}
use Rattle.model.specs.Files.{Chain, IsUsed, RangeTable, Slot, Well, free, head, lower_of, slot_at, upper_of}
use Rattle.model.specs.Tries.{occ}
use Rattle.model.specs.Format.{bytes_at_slot, read_slot}
use Rattle.digits.specs.Keys.{continued, low_value, value}
use Rattle.model.specs.declared.Layout.{Layout}
use Rattle.file.specs.declared.Size.{Size}
use Rattle.file.specs.Maps.{map_of}

-- Of two ranges as they are compared, high end first: the first stands before the second.
unfoldable pub ahead : ℕ → ℕ → ℕ → ℕ → Bool
ahead high low other_high other_low = nat_lt high other_high || (high == other_high && nat_lt low other_low)

-- A range, as it is compared, stands before that of a slot.
unfoldable pub stands : ℕ → ℕ → Slot → Bool
stands high low s = ahead high low (value (continued (upper_of (head s)))) (low_value (lower_of (head s)))

-- Slots, of which those that are used stand in the file's bytes, and all are free or well formed.
pub record Known (y : Layout) (xs : List ℕ) (fs : List Slot) : Type 0 where
  pub read : (B : ℕ) → IsUsed (head (slot_at fs B)) → read_slot y (bytes_at_slot y B xs) ≡ some (slot_at fs B)
  pub well : (B : ℕ) → Well y.b (slot_at fs B)

-- The slot at a place of the order.
abbrev pub placed : List Slot → List ℕ → ℕ → Slot
placed fs order j = slot_at fs (slice_index order j)

-- Each of the first places has a used slot.
abbrev pub Listed : List Slot → List ℕ → ℕ → Type 0
Listed fs order count = (j : ℕ) → j < count → IsUsed (head (placed fs order j))

-- The place of a range: it does not stand before the slot before that place, and it stands before the slot there.
pub record Placed (fs : List Slot) (order : List ℕ) (count high low place : ℕ) : Type 0 where
  pub left : (j : ℕ) → suc j ≡ place → stands high low (placed fs order j) ≡ false
  pub right : place < count → stands high low (placed fs order place) ≡ true

-- Whether slots in order are a chain.
pub record Chained (r : Bool) (F : RangeTable) (Bs : List ℕ) : Type 0 where
  pub chained : r ≡ true → Chain F none Bs
  pub refused : r ≡ false → Chain F none Bs → ⊥

-- The first place whose slot has the upper bound of the one before it.
pub record Twinned (fs : List Slot) (order : List ℕ) (count place : ℕ) : Type 0 where
  pub apart : (j : ℕ) → suc j < place → suc j < count → upper_of (head (placed fs order j)) ≢ upper_of (head (placed fs order (suc j)))
  pub same : (j : ℕ) → suc j ≡ place → place < count → upper_of (head (placed fs order j)) ≡ upper_of (head (placed fs order place))

-- Such a place is found, or there is none.
abbrev pub TwinTold : Option ℕ → Size → List ℕ → List ℕ → ℕ → Type 0
TwinTold (Some place) size xs order count =
    (place < count) × (1 ≤ place) × ((fs : List Slot) → Known size.layout xs fs → Listed fs order count → Twinned fs order count place)
TwinTold None size xs order count = (fs : List Slot) → Known size.layout xs fs → Listed fs order count → Twinned fs order count count

-- The first stands before the second, or has its range.
abbrev pub Sorts : Slot → Slot → Type 0
Sorts s t =
    (upper_of (head s) ≺ upper_of (head t))
    ⊎ ((upper_of (head s) ≡ upper_of (head t)) × (lower_of (head s) ⊴ lower_of (head t)))

-- The slots from k on are read, and are free or well formed; the used ones are listed once each, in order, and are the map.
pub record Laid (xs : List ℕ) (size : Size) (k : ℕ) (order : List ℕ) (count used : ℕ) : Type 0 where
  pub slots : List Slot
  pub long : length slots ≡ size.slots
  pub before : (B : ℕ) → B < k → slot_at slots B ≡ free
  pub read : (B : ℕ) → k ≤ B → B < size.slots → read_slot size.layout (bytes_at_slot size.layout B xs) ≡ some (slot_at slots B)
  pub well : (B : ℕ) → Well size.layout.b (slot_at slots B)
  pub whole : length order ≡ 64
  pub once : (B : ℕ) → IsUsed (head (slot_at slots B)) → occ B (take count order) ≡ 1
  pub only : (B : ℕ) → Memᴰ B (take count order) → IsUsed (head (slot_at slots B))
  pub sorted : (j : ℕ) → suc j < count → Sorts (placed slots order j) (placed slots order (suc j))
  pub map : used ≡ map_of (drop k slots)
