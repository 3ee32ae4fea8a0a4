-- `begin` meets its contract: the path is empty, and the place is the root's.
use Rattle.model.proofs.Prelude.{refl}
use Rattle.trie.proofs.Laws.{begins}
use Rattle.trie.proofs.Walk.begin.Goals as goal

pub returns : goal.returns
returns c t e f n = begins t n _ e refl refl refl (rw f c.root.ensures)
