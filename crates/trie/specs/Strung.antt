-- The strings of a file, as the arrays hold them.
use Rattle.std.specs.Prelude.{◌≡◌, List, [], ◌∷◌, ◌<◌, Option, Some, None, suc, ℕ, length, take}
use Rattle.model.specs.Order.{Str, last_digit}
use Rattle.trie.specs.declared.Strings.{Strings}

-- Each string as its length and its last digit.
abbrev pub lengths : List Str → List ℕ
lengths [] = []
lengths (x ∷ xs) = length x ∷ lengths xs

abbrev pub last_digits : List Str → List ℕ
last_digits [] = []
last_digits (x ∷ xs) = last_digit x ∷ last_digits xs

-- The arrays hold these strings, and between them the leaves that lead to these slots.
pub record Holds (s : Strings) (ss : List Str) (Bs : List ℕ) : Type 0 where
  pub count_is : s.count ≡ length ss
  pub lens_are : take (length ss) s.lens ≡ lengths ss
  pub digits_are : take (length ss) s.digits ≡ last_digits ss
  pub slots_are : take (suc (length ss)) s.slots ≡ Bs

-- They do where the strings are 256 or fewer; else no arrays are given.
abbrev pub Strung : Option Strings → List Str → List ℕ → Type 0
Strung (Some s) ss Bs = Holds s ss Bs
Strung None ss Bs = 256 < length ss
