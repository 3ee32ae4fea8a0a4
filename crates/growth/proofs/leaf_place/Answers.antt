-- `leaf_place` meets its contract.
use Rattle.model.proofs.Prelude.{le-leb, lt-leb}
use Rattle.growth.specs.Parts.{leaf_place}
use Rattle.growth.proofs.leaf_place.Goals as goal

pub returns-then-cell-ge256 : goal.returns-then-cell-ge256
unfolding leaf_place
returns-then-cell-ge256 c = rw (le-leb 256 _ c.if-cell-ge256.true)

pub returns-in-Left : goal.returns-in-Left
unfolding leaf_place
returns-in-Left c = rw (lt-leb 256 _ c.if-cell-ge256.false, c.in-Left.is)

pub returns-in-Right : goal.returns-in-Right
unfolding leaf_place
returns-in-Right c = rw (lt-leb 256 _ c.if-cell-ge256.false, c.in-Right.is)
