-- The trie of strings that are given by their lengths and last digits, with the slots of the leaves between them.
use Rattle.std.specs.Prelude.{cond, List, ◌+◌, ◌-◌, suc, zero, ℕ, ltb, get_or}
use Rattle.model.specs.declared.Cell.{Cell}
use Rattle.model.specs.declared.Side.{Side}
use Rattle.model.specs.declared.Side.TheVariants.{Cell as further, Slot as slot}
use Rattle.model.specs.declared.Trie.{Trie}
use Rattle.model.specs.Tries.{Tree, leaf, node}
use Rattle.model.specs.Rebuilding.{laid}
use Rattle.rebuilding.specs.Roots.{middle, run}

-- The tree of the run from one place on and below another; n is at least the number of its strings.
unfoldable pub run_tree : ℕ → List ℕ → List ℕ → List ℕ → ℕ → ℕ → Tree
run_tree zero lens digits slots from to = leaf (get_or slots from 0)
run_tree (suc n) lens digits slots from to =
    let m = middle from (run from to lens) in
    let left = run_tree n lens digits slots from m in
    let right = run_tree n lens digits slots (suc m) to in
    cond (ltb from to) (node (get_or digits m 0) (get_or lens m 0 - 1) left right) (leaf (get_or slots from 0))

-- The trie of the first n strings.
unfoldable pub rebuilt_of : List ℕ → List ℕ → List ℕ → ℕ → Trie
rebuilt_of lens digits slots n = laid (run_tree n lens digits slots 0 n)

-- The side that leads to a run: its first cell, or, where it is empty, the slot of the leaf that stands there.
unfoldable pub side_at : List ℕ → ℕ → ℕ → ℕ → Side
side_at slots from to cell = cond (ltb from to) (further cell) (slot (get_or slots from 0))

-- The cell, at number i, of a run with its root.
unfoldable pub cell_at : ℕ → ℕ → List ℕ → ℕ → ℕ → ℕ → ℕ → Cell
cell_at len digit slots from root to i =
    record {
      digit = digit;
      number = len - 1;
      left = side_at slots from root (i + 1);
      right = side_at slots (root + 1) to (i + 1 + (root - from));
    }
