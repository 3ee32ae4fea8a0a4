-- `grow` meets its contract: where s is a string already, and where cells are added.
use Rattle.model.proofs.Prelude.{arith}
use Rattle.growth.proofs.Growing.{grown_new, grown_string}
use Rattle.growth.proofs.grow.Goals as goal

pub returns-then-shared-s : goal.returns-then-shared-s
returns-then-shared-s c =
    λ k K.
    grown_string K c.args.n c.if-shared-s.true c.count_of-count.ensures c.leaf_place-place.ensures c.place_of-last.ensures c.redirect.ensures

pub returns : goal.returns
returns c =
    λ k K.
    grown_new K c.args.n (omega (arith, c.if-shared-s.false, c.requires.1)) c.requires.0 c.count_of-count.ensures c.leaf_place-place.ensures c.redirect-2.ensures c.graft.ensures c.append.ensures
