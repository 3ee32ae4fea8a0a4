-- `walk_of` is the walk over the trie of the image: each cell that it meets is read where it stands.
use Rattle.model.proofs.Prelude.{◌∙◌, sym}
use Rattle.trie.proofs.Laws.{before, ends}
use Rattle.image.specs.Images.{trie_from}
use Rattle.image.proofs.Images.{cell_of}
use Rattle.image.proofs.walk_of.Goals as goal

pub loop-walk-init : goal.loop-walk-init
loop-walk-init c = c.begin-walk.ensures (trie_from c.args.image.now) (sym c.pair_at.ensures) (sym c.pair_at-2.ensures) _

pub returns : goal.returns
returns c = ends c.loop-walk.invariant (λ i e. c.in_default.not-Cell i e)

pub cell_at-requires : goal.cell_at-requires
cell_at-requires c = (before c.loop-walk.invariant c.in-Cell.is).1

pub step-walk-requires : goal.step-walk-requires
step-walk-requires c = let u = c.loop-walk.invariant in (u.short, (before u c.in-Cell.is).0)

pub loop-walk-smaller : goal.loop-walk-smaller
loop-walk-smaller c = c.step-walk.ensures.0

pub loop-walk-preserved : goal.loop-walk-preserved
loop-walk-preserved c =
    let xs = c.args.image.now in
    let u = c.loop-walk.invariant in
    c.step-walk.ensures.1 _ _ c.in-Cell.is (cell_of xs _ (before u c.in-Cell.is).1 ∙ sym c.cell_at.ensures.value) u
