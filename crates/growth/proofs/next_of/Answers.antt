-- `next_of` meets its contract, by the test that led to each answer.
use Rattle.model.proofs.Prelude.{le-ltb, lt-ltb}
use Rattle.growth.specs.Parts.{next_side}
use Rattle.growth.proofs.next_of.Goals as goal

pub returns-then-i-end : goal.returns-then-i-end
unfolding next_side
returns-then-i-end c = rw (lt-ltb _ _ c.if-i-end.true)

pub returns : goal.returns
unfolding next_side
returns c = rw (le-ltb _ _ c.if-i-end.false)
