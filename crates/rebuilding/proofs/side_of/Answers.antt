-- `side_of` meets its contract, by the test that led to each answer.
use Rattle.model.proofs.Prelude.{le-ltb, lt-ltb}
use Rattle.rebuilding.specs.Runs.{side_at}
use Rattle.rebuilding.proofs.side_of.Goals as goal

pub returns-then-from-to : goal.returns-then-from-to
unfolding side_at
returns-then-from-to c = rw (lt-ltb _ _ c.if-from-to.true)

pub returns : goal.returns
unfolding side_at
returns c = rw (le-ltb _ _ c.if-from-to.false)
