-- The arrays of strings: what is added to them for one bound, and what they hold at the end.
use Rattle.std.specs.Prelude.{Option, ◌≡◌, List, [], ◌++◌, ◌∷◌, ◌+◌, ℕ, drop, length, take}
use Rattle.std.proofs.Math.Option.{some}
use Rattle.model.specs.Order.{Str, none}
use Rattle.model.specs.Files.{Slot, Sound}
use Rattle.model.specs.Searches.{longer, order_of, strings_of}
use Rattle.model.specs.Agreeing.{slots_between}
use Rattle.model.specs.Format.{read_slots}
use Rattle.file.specs.declared.Size.{Size}
use Rattle.trie.specs.declared.Strings.{Strings}
use Rattle.trie.specs.Strung.{Strung, last_digits, lengths}

-- The beginnings of x that are longer than so many digits, the longest first.
abbrev pub beyond : ℕ → Str → List Str
beyond k x = longer (take k x) (drop k x)

-- The slots of the leaves just left of these strings: one of the first, another of the others.
abbrev pub lefts : ℕ → ℕ → List Str → List ℕ
lefts slot next [] = []
lefts slot next (x ∷ xs) = slot ∷ lefts next next xs

-- The arrays have their lengths.
pub record Whole (s : Strings) : Type 0 where
  pub lens_whole : length s.lens ≡ 256
  pub digits_whole : length s.digits ≡ 256
  pub slots_whole : length s.slots ≡ 257

-- Behind the strings that were there stand now these, and nothing before them is changed.
pub record Added (ss : List Str) (slot next : ℕ) (s s' : Strings) : Type 0 where
  pub count_is : s'.count ≡ s.count + length ss
  pub lens_are : take s'.count s'.lens ≡ take s.count s.lens ++ lengths ss
  pub digits_are : take s'.count s'.digits ≡ take s.count s.digits ++ last_digits ss
  pub slots_are : take s'.count s'.slots ≡ take s.count s.slots ++ lefts slot next ss
  pub whole : Whole s'

-- The strings that are given: of a sound file whose buckets stand in range order, they are the file's.
pub record Listed (s : Option Strings) (file : List ℕ) (size : Size) (order : List ℕ) (count : ℕ) : Type 0 where
  pub strung : (fs : List Slot) → read_slots size.layout size.slots 0 file ≡ some fs → Sound size.layout.b fs
      → count ≡ length (order_of fs) → take count order ≡ order_of fs → Strung s (strings_of fs) (slots_between fs none (strings_of fs))
