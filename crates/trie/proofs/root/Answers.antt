-- `root` is where the model's root side leads.
use Rattle.model.proofs.Prelude.{arith, lt-leb}
use Rattle.trie.specs.Walks.{place_ahead}
use Rattle.trie.proofs.Laws.{root_begins}
use Rattle.trie.proofs.root.Goals as goal

pub returns-then-count-gt256 : goal.returns-then-count-gt256
returns-then-count-gt256 c = rw (lt-leb c.args.count 256 (omega arith))

pub returns-then-count-eq0 : goal.returns-then-count-eq0
unfolding place_ahead
returns-then-count-eq0 c = rw c.if-count-eq0.true

pub returns : goal.returns
returns c = root_begins c.args.count c.args.first (omega arith) c.if-count-eq0.false
