-- `place_in` meets its contract: at each turn of its loop the walk is on its way.
use Rattle.model.proofs.Prelude.{◌-◌, ◌≤◌}
use Rattle.model.specs.declared.Side.TheVariants.{Cell as further}
use Rattle.model.specs.Tries.{walk_of}
use Rattle.image.specs.Courses.{Course}
use Rattle.image.specs.Images.{trie_from}
use Rattle.image.proofs.place.place_in.Given as goal

abbrev pub invariant-loop : goal.invariant-loop
invariant-loop l = (l.count ≤ 256) × Course (walk_of (trie_from l.image) l.name) (trie_from l.image).cells l.name l.count (l.count - l.counter) (further l.i) l.len l.same
