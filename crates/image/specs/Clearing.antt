-- Tries whose cells are all zero.
use Rattle.std.specs.Prelude.{ℕ, replicate}
use Rattle.model.specs.declared.Trie.{Trie}
use Rattle.model.specs.Tries.{zero_cell}

-- All cells are zero.
unfoldable pub cleared : ℕ → ℕ → Trie
cleared count first = record { cells = replicate 256 zero_cell; count = count; first = first }
