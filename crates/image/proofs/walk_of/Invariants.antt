-- `walk_of` is the walk over the trie of the image: each cell that it meets is read where it stands.
use Rattle.model.specs.Tries.{walk_of}
use Rattle.trie.specs.Walks.{Underway}
use Rattle.image.specs.Images.{trie_from}
use Rattle.image.proofs.walk_of.Given as goal

abbrev pub invariant-loop-walk : goal.invariant-loop-walk
invariant-loop-walk l = Underway (walk_of (trie_from l.image) l.name) (trie_from l.image).cells l.name l.walk

abbrev pub decreases-loop-walk : goal.decreases-loop-walk
decreases-loop-walk l = l.walk.more
