-- `is_offered` meets its contract: the two tests one after the other.
use Rattle.model.proofs.Prelude.{arith, le-leb, lt-leb}
use Rattle.model.specs.Format.{is_offered}
use Rattle.file.proofs.is_offered.Goals as goal

pub returns-then-version-ge1 : goal.returns-then-version-ge1
unfolding is_offered
returns-then-version-ge1 c = rw (le-leb 1 c.args.version c.if-version-ge1.true)

pub returns-else-version-ge1 : goal.returns-else-version-ge1
unfolding is_offered
returns-else-version-ge1 c = rw (lt-leb 1 c.args.version (omega arith))
