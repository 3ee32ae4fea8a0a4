-- `place_of` meets its contract: none before has so many digits.
use Rattle.model.proofs.Prelude.{arith, rules}
use borrow.Author.Count.{below_more}
use Rattle.growth.proofs.place_of.Goals as goal

pub returns-then-lens-i : goal.returns-then-lens-i
returns-then-lens-i c =
    record { from_on = search rules; before = c.loop-i.invariant; found = λ h. c.if-lens-i.true }

pub loop-i-preserved : goal.loop-i-preserved
loop-i-preserved c = below_more _ _ c.loop-i.invariant (λ g e. c.if-lens-i.false e)

pub returns : goal.returns
returns c =
    record { from_on = omega arith; before = λ j h l. c.loop-i.invariant j (omega arith) l; found = λ h. absurd (omega arith) }
