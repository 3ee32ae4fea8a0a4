-- `redirect` meets its contract: cells are turned one by one.
use Rattle.image.specs.Images.{trie_from}
use Rattle.growth.specs.Parts.{Redirected}
use Rattle.growth.proofs.redirect.Given as goal

abbrev pub invariant-loop-i : goal.invariant-loop-i
invariant-loop-i l = Redirected (trie_from l.initial.image) l.places l.i l.last l.a l.n (trie_from l.image)
