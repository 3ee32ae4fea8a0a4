-- `Span::len` meets its contract: each slot passed gives at most 640 bytes, and those counted and those to come are all.
use Rattle.model.proofs.Prelude.{◌*◌, ◌+◌, ◌≡◌, ◌≤◌, length}
use Rattle.reading.proofs.Writing.{rest}
use Rattle.reading.proofs.span.Span.len.Given as goal

abbrev pub invariant-loop-j : goal.invariant-loop-j
invariant-loop-j l = (l.len ≤ 640 * l.j) × (l.len ≤ 40960) × (l.len + length (rest l.self l.j) ≡ length (rest l.self l.self.from))
