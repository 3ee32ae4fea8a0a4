-- `append` meets its contract: the head is written, then new cells one by one.
use Rattle.model.proofs.Prelude.{◌+◌, ◌-◌, ◌≡◌}
use Rattle.image.specs.Images.{trie_from}
use Rattle.growth.specs.Parts.{Written}
use Rattle.growth.proofs.append.Given as goal

abbrev pub invariant-loop-at : goal.invariant-loop-at
invariant-loop-at l = Written (trie_from l.initial.image) l.count l.s l.shared l.a l.n (l.count + (l.at - l.shared)) (trie_from l.image) × ((trie_from l.image).count ≡ l.end) × ((trie_from l.image).first ≡ 0)
