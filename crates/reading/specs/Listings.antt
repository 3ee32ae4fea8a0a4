-- The bytes that list writes: of each slot in turn the entries from one name to another, the names as numbers.
use Rattle.std.specs.Prelude.{◌&&◌, cond, ◌≡◌, List, [], ◌++◌, ◌+◌, ◌-◌, suc, zero, ℕ, ltb, drop, get_or, length}
use Rattle.model.specs.Format.{bytes_at_slot}
use Rattle.digits.specs.Keys.{key_value}
use Rattle.slots.specs.Parts.{all_of, part_of as searched}
use Rattle.reading.specs.declared.span.Span.{Span}

-- Of the slot whose number stands at place j in order: all its entries where j lies between the first place and the last, else those from
-- one name to the other.
unfoldable pub part_of : Span → ℕ → List ℕ
part_of s j =
    let xs = bytes_at_slot s.size.layout (get_or s.order.now j 0) s.file.now in
    cond (ltb s.from j && ltb j s.to) (all_of s.size.layout xs) (searched s.size.layout xs (key_value s.low) (key_value s.high))

-- The same of so many slots, from place j on.
unfoldable pub parts : Span → ℕ → ℕ → List ℕ
parts s zero j = []
parts s (suc k) j = part_of s j ++ parts s k (suc j)

-- From the first place to the last.
abbrev pub bytes_of : Span → List ℕ
bytes_of s = parts s (s.to + 1 - s.from) s.from

-- R9.8: bytes over the first of an output, the others as they were.
abbrev pub Written : List ℕ → List ℕ → List ℕ → Type 0
Written bytes out left = left ≡ bytes ++ drop (length bytes) out
