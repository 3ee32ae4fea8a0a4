-- Puts, one after the other, on a file and its trie: the model's definitions of the stores and of growth, put together.
use Rattle.std.specs.Prelude.{List, [], ◌++◌, ◌∷◌, ◌-◌, ℕ, length, replicate}
use Prim.Native.String.{String}
use Rattle.model.specs.declared.Cell.{Cell}
use Rattle.model.specs.declared.Layout.{Layout}
use Rattle.model.specs.declared.Trie.{Trie}
use Rattle.model.specs.Order.{Str}
use Rattle.model.specs.Files.{Slot}
use Rattle.model.specs.Tries.{zero_cell}
use Rattle.model.specs.Changes.{Result, call, put, refuse, stored, stores}
use Rattle.model.specs.Places.{place_of}
use Rattle.model.specs.Calls.{trie_after_put}
use Rattle.promises.specs.Texts.{name}

-- These cells, and zero cells behind them; there is at least one.
abbrev pub of_cells : List Cell → Trie
of_cells cs = record { cells = cs ++ replicate (256 - length cs) zero_cell; count = length cs; first = 0 }

-- A file and its trie.
abbrev pub Held : Type 0
Held = List Slot × Trie

unfoldable pub after_put : Layout → Held → Str → ℕ → Result → Held
after_put y h n v (refuse r) = h
after_put y h n v (stores ss) = (stored ss h.0, trie_after_put y.b (place_of y) h.0 n v ss h.1)

-- These texts as names, each with its value, the first one first.
unfoldable pub puts : Layout → List (String × ℕ) → Held → Held
puts y [] h = h
puts y (e ∷ es) h = puts y es (after_put y h (name e.0) e.1 (call y.b (place_of y) h.0 (put (name e.0) e.1)))
