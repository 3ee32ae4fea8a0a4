-- What the answers say of each sound file that the bytes are, with its buckets in the order given.
use Rattle.std.specs.Prelude.{◌≡◌, ◌≤◌, Bool, List, [], ℕ, length, take}
use Rattle.std.proofs.Math.Option.{some}
use Rattle.model.specs.declared.Trie.{Trie}
use Rattle.model.specs.Order.{none}
use Rattle.model.specs.Files.{Slot, Sound}
use Rattle.model.specs.Agreeing.{is_agreeing, slots_between}
use Rattle.model.specs.Format.{read_file}
use Rattle.model.specs.Searches.{order_of, strings_of}
use Rattle.file.specs.declared.Size.{Size}
use Rattle.trie.specs.declared.Strings.{Strings}
use Rattle.trie.specs.Strung.{last_digits, lengths}
use Rattle.image.specs.Images.{side_from, trie_from}
use Rattle.agreement.specs.Passes.{Passes}

-- Whether the trie agrees.
abbrev pub AgreeingTold : Bool → List ℕ → Size → List ℕ → ℕ → Trie → Type 0
AgreeingTold r xs size order count t =
    (fs : List Slot) → read_file xs ≡ some (size.layout, fs) → Sound size.layout.b fs → count ≡ length (order_of fs) → take count order ≡ order_of fs
    → r ≡ is_agreeing fs t

-- The strings of a file, as arrays that are as long as need be.
abbrev pub strings_in : (count : ℕ) → count ≤ 256 → List Slot → Strings
strings_in count few fs = record {
  count = count;
  lens = lengths (strings_of fs);
  digits = last_digits (strings_of fs);
  slots = slots_between fs none (strings_of fs);
  few = few;
}

-- From a side on, the cells of an image meet all strings.
pub record Passing (fs : List Slot) (image : List ℕ) (cells side : ℕ) (few : cells ≤ 256) : Type 0 where
  pub all : length (strings_of fs) ≡ cells
  pub order : List ℕ
  pub passes : Passes (trie_from image).cells (strings_in cells few fs) [] (side_from side) 0 [] order

abbrev pub PassingTold : List ℕ → Size → List ℕ → ℕ → List ℕ → ℕ → ℕ → Type 0
PassingTold xs size order count image cells side =
    (few : cells ≤ 256) (fs : List Slot) → read_file xs ≡ some (size.layout, fs) → Sound size.layout.b fs → count ≡ length (order_of fs) → take count order ≡ order_of fs
    → Passing fs image cells side few
