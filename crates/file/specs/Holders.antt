-- The bucket whose range holds a name, among the used slots in range order.
use Rattle.std.specs.Prelude.{◌≡◌, ℕ, ◌<◌, List, length, take, slice_index}
use Rattle.std.proofs.Math.Option.{some}
use Rattle.model.specs.Order.{Str, ◌≺◌}
use Rattle.model.specs.Names.{Legal}
use Rattle.model.specs.Files.{In, Slot, Sound, head, slot_at, upper_of}
use Rattle.model.specs.Searches.{order_of}
use Rattle.model.specs.Format.{read_file}
use Rattle.file.specs.declared.Size.{Size}

-- A sound file, its slots as they are read, and the numbers of its used slots in range order.
pub record Ordered (xs : List ℕ) (s : Size) (order : List ℕ) (count : ℕ) (fs : List Slot) : Type 0 where
  pub is : read_file xs ≡ some (s.layout, fs)
  pub sound : Sound s.layout.b fs
  pub order_is : take count order ≡ order_of fs
  pub count_is : count ≡ length (order_of fs)

-- The slot at a place of the range order, and its upper bound.
abbrev pub placed : List Slot → ℕ → Slot
placed fs j = slot_at fs (slice_index (order_of fs) j)

abbrev pub upper_at : List Slot → ℕ → Str
upper_at fs j = upper_of (head (placed fs j))

-- The place of the one range that holds a name: the uppers before it are below the name.
pub record Holder (fs : List Slot) (n : Str) (r : ℕ) : Type 0 where
  pub inside : r < length (order_of fs)
  pub before : (j : ℕ) → j < r → upper_at fs j ≺ n
  pub range : In (head (placed fs r)) n

-- What the search tells: of any file a number below 64, of a sound file the place.
pub record HolderTold (xs : List ℕ) (s : Size) (order : List ℕ) (count : ℕ) (n : Str) (r : ℕ) : Type 0 where
  pub small : r < 64
  pub found : (fs : List Slot) → Ordered xs s order count fs → Legal n → Holder fs n r
