-- `side_of` is the reader's side of a number.
use Rattle.model.proofs.Prelude.{arith}
use Rattle.image.proofs.Coding.{side_cell, side_slot}
use Rattle.image.proofs.side_of.Goals as goal

pub returns-then-x-lt32768 : goal.returns-then-x-lt32768
returns-then-x-lt32768 c = side_slot c.args.x (omega arith)

pub returns : goal.returns
returns c = side_cell _ _ (omega arith) (omega arith)
