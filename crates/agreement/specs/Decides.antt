-- What the answer on agreement says of each sound file that has these strings.
use Rattle.std.specs.Prelude.{◌≡◌, false, true, List, Option, Some, None, ℕ}
use Rattle.model.specs.declared.Trie.{Trie}
use Rattle.model.specs.Order.{none}
use Rattle.model.specs.Files.{Slot, Sound}
use Rattle.model.specs.Searches.{strings_of}
use Rattle.model.specs.Agreeing.{is_agreeing, slots_between}
use Rattle.trie.specs.declared.Strings.{Strings}
use Rattle.trie.specs.Places.{Placed}
use Rattle.trie.specs.Strung.{Strung}

-- Nothing where the trie does not agree with the file; else the place of each cell's string.
abbrev pub Decided : List Slot → Trie → Option (List ℕ) → Type 0
Decided fs t (Some places) = (is_agreeing fs t ≡ true) × Placed t places
Decided fs t None = is_agreeing fs t ≡ false

-- Without strings the file has more than 256, and then no trie agrees.
abbrev pub Decides : Trie → Option Strings → Option (List ℕ) → Type 0
Decides t s r =
    (b : ℕ) (fs : List Slot) → Sound b fs → Strung s (strings_of fs) (slots_between fs none (strings_of fs)) → Decided fs t r
