-- `Span::write` meets its contract: what is written and what is to come are all that is to be listed.
use Rattle.reading.proofs.Writing.{Writing, rest}
use Rattle.reading.proofs.span.Span.write.Given as goal

abbrev pub invariant-loop-j : goal.invariant-loop-j
invariant-loop-j l = Writing (rest l.self l.self.from) (rest l.self l.j) l.initial.output l.output l.at
