-- `are_framed` meets its contract: the slots passed are framed, and low is where the range of the last of them ends.
use Rattle.model.proofs.Prelude.{◌<◌, ◌≡◌, get_or, ℕ}
use Rattle.digits.specs.Keys.{key_value}
use Rattle.surveying.specs.Rows.{FramedAt, edge, place_before}
use Rattle.surveying.proofs.row.are_framed.Given as goal

abbrev pub invariant-loop-j : goal.invariant-loop-j
invariant-loop-j l = (l.before ≡ get_or l.order (place_before l.count l.j) 0) × (l.before < l.size.slots) × (key_value l.low ≡ edge l.file l.size l.order l.j) × ((i : ℕ) → i < l.j → FramedAt l.file l.size l.order l.count i)
