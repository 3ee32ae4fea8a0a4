-- The strings as the arrays hold them, one by one, and the cells in their order.
use Rattle.model.proofs.Prelude.{List, [], ◌∷◌, ◌≡◌, arith, get_or, length, length-append, refl, suc, zero, ℕ}
use Rattle.model.specs.declared.Cell.{Cell}
use Rattle.model.specs.declared.Side.{Side}
use Rattle.model.specs.Order.{Str, last_digit}
use Rattle.model.specs.Tries.{Reads, Tree, here, size, there}
use Rattle.trie.specs.Places.{InOrder, cells, no_cells}
use Rattle.trie.specs.Strung.{last_digits, lengths}

pub lengths_at : (ss : List Str) (j : ℕ) → get_or (lengths ss) j 0 ≡ length (get_or ss j [])
lengths_at [] j = refl
lengths_at (x ∷ ss) zero = refl
lengths_at (x ∷ ss) (suc j) = lengths_at ss j

pub last_digits_at : (ss : List Str) (j : ℕ) → get_or (last_digits ss) j 0 ≡ last_digit (get_or ss j [])
last_digits_at [] j = refl
last_digits_at (x ∷ ss) zero = refl
last_digits_at (x ∷ ss) (suc j) = last_digits_at ss j

-- As many cells in order as the tree has.
pub order_size : {cs : List Cell} {a : Side} {t : Tree} {vs os : List ℕ} → Reads cs a t vs → InOrder cs a os → length os ≡ size t
order_size here no_cells = refl
order_size (there {n = m} h l r) (cells {vs = xs} {ws = ys} h' x y) = omega (arith, order_size l x, order_size r y, length-append xs (m ∷ ys))
