-- The bytes of a slot's entries: from one name to another, the names as numbers, and all of them.
use Rattle.std.specs.Prelude.{List, ℕ, drop}
use Rattle.model.specs.declared.Layout.{Layout}
use Rattle.model.specs.Format.{entry_length}
use Rattle.entries.specs.Rows.{entries_from, part_in_between}
use Rattle.bucket.specs.Slots.{count_at}

unfoldable pub part_of : Layout → List ℕ → ℕ → ℕ → List ℕ
part_of y xs v w = part_in_between (entry_length y) (drop 64 xs) (count_at y.b xs) v w

unfoldable pub all_of : Layout → List ℕ → List ℕ
all_of y xs = entries_from (entry_length y) 0 (count_at y.b xs) (drop 64 xs)
