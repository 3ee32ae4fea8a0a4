-- The sizes of a file that its header says, and what they say of its length.
use Rattle.std.specs.Prelude.{Option, Some, None, ◌≡◌, ℕ, ◌+◌, ◌*◌, ◌<◌, false, ◌&&◌, List, length, ◌==◌, slice_index}
use Rattle.std.proofs.Math.Option.{none as nothing, some}
use Rattle.model.specs.Format.{Sizes, are_legal_sizes, file_size, header_of, slot_size}
use Rattle.model.specs.declared.Layout.{Layout}
use Rattle.file.specs.declared.Size.{Size}

-- R2.3 to R2.5, and R2.7: the length
pub record Sized (n : ℕ) (s : Size) : Type 0 where
  pub legal : Sizes s.layout s.slots
  pub whole : n ≡ 16 + s.slots * slot_size s.layout

-- a layout, slots and a length: they are legal and the length fits them, or not
abbrev pub Fitting : Option Size → ℕ → Layout → ℕ → Type 0
Fitting (Some s) n y slots = Sized n s × (s.layout ≡ y) × (s.slots ≡ slots)
Fitting None n y slots = (are_legal_sizes y slots && n == file_size y slots) ≡ false

-- what a header that is right says
pub record Saying (s : Size) (xs : List ℕ) : Type 0 where
  pub sized : Sized (length xs) s
  pub header : header_of xs ≡ some (s.layout, s.slots)

abbrev pub Told : Option Size → List ℕ → Type 0
Told (Some s) xs = Saying s xs
Told None xs = header_of xs ≡ nothing

-- each number of the list is below n
abbrev pub Below : List ℕ → ℕ → Type 0
Below xs n = (j : ℕ) → slice_index xs j < n

-- a free slot that was found is one of the file's
abbrev pub Inside : Option ℕ → ℕ → Type 0
Inside (Some k) n = k < n
Inside None n = Unit
