-- Strings of digits as numbers, as the code compares them.
use Rattle.std.specs.Prelude.{Option, Some, None, ◌≡◌, ℕ, ◌+◌, ◌*◌, ◌^◌, Bool, true, false, ◌&&◌, List, [], ◌∷◌, ◌++◌, length, take, replicate, ◌==◌}
use Rattle.model.specs.Order.{Low, at, none}
use Rattle.model.specs.Tests.{is_legal_name}
use Rattle.digits.specs.declared.Key.{Key}

-- The number of a list of bytes, the first byte highest.
unfoldable pub value : List ℕ → ℕ
value [] = 0
value (d ∷ x) = d * 256 ^ length x + value x

-- The three words of a key as one number.
unfoldable pub key_value : Key → ℕ
key_value k = (k.a * 2 ^ 64 + k.b) * 2 ^ 64 + k.c

-- A bound, continued by a digit above all others.
unfoldable pub continued : List ℕ → List ℕ
continued p = take 24 (p ++ replicate 24 0xFF)

unfoldable pub is_all_zero : List ℕ → Bool
is_all_zero [] = true
is_all_zero (d ∷ x) = d == 0 && is_all_zero x

-- What is said of a name, and of the digits that its key is made of.
abbrev pub NamingTold : Option Key → List ℕ → List ℕ → Type 0
NamingTold (Some k) n x = (is_legal_name n ≡ true) × (key_value k ≡ value x)
NamingTold None n x = is_legal_name n ≡ false

-- A lower limit as it is compared. What is above none is above zero.
unfoldable pub low_value : Low → ℕ
low_value none = 0
low_value (at x) = value (continued x)
