-- `is_agreeing` meets its contract: by the pass, or by the exact test.
use Rattle.agreeing.proofs.is_agreeing.Goals as goal

pub returns-then-matches : goal.returns-then-matches
returns-then-matches c = c.matches.ensures c.if-matches.true
