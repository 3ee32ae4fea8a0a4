-- The slot whose range holds a name.
use Rattle.std.specs.Prelude.{◌≡◌, List, ◌<◌, ℕ}
use Rattle.std.proofs.Math.Option.{some}
use Rattle.model.specs.Order.{Low, Str, ◌⊑◌, ◌◁◌}
use Rattle.model.specs.Entries.{Entry}
use Rattle.model.specs.Files.{Slot, slot_at, used}
use Rattle.model.specs.Searches.{first, is_in_range}
use Rattle.model.specs.Format.{read_file}
use Rattle.file.specs.declared.Size.{Size}

-- Slot A holds the name n in its range, with these bounds and entries.
pub record Home (A : ℕ) (fs : List Slot) (n : Str) (l : Low) (u : Str) (es : List Entry) : Type 0 where
  pub slot_is : A ≡ first (is_in_range n) fs
  pub is : slot_at fs A ≡ used l u es
  pub above : l ◁ n
  pub within : n ⊑ u

-- Of a file that is read: the slot, its bounds and entries.
pub record HomeTold (r : ℕ) (size : Size) (xs : List ℕ) (n : Str) : Type 0 where
  pub inside : r < size.slots
  pub right : (fs : List Slot) → read_file xs ≡ some (size.layout, fs)
      → (l : Low) × (u : Str) × (es : List Entry) × Home r fs n l u es
