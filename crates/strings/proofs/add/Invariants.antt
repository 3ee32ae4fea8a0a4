-- `add` meets its contract: at each turn the strings have the beginnings that are longer than `len` digits (proofs/Adding.antt).
use Rattle.model.proofs.Prelude.{◌+◌, ◌≡◌, ◌≤◌, length}
use Rattle.strings.specs.Arrays.{Added, beyond}
use Rattle.strings.proofs.Adding.{left_after}
use Rattle.strings.proofs.add.Given as goal

abbrev pub invariant-loop-len : goal.invariant-loop-len
invariant-loop-len l = (l.shared ≤ l.len) × (l.strings.count + l.len ≡ l.initial.strings.count + length l.x)
    × (l.left ≡ left_after l.slot l.next (beyond l.len l.x)) × Added (beyond l.len l.x) l.slot l.next l.initial.strings l.strings
