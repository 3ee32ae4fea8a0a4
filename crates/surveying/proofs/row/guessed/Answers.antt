-- `guessed` meets its contract: its numbers are slots.
use Rattle.model.proofs.Prelude.{◌-◌, ◌∙◌, length-replicate, length-set, ℕ}
use Rattle.file.proofs.Laws.{below_set, below_zeros, some_slot}
use Rattle.surveying.proofs.row.guessed.Goals as goal

pub loop-place-init : goal.loop-place-init
loop-place-init c = (c.highest-k.ensures, below_zeros 64 _ (some_slot _ c.args.size c.requires).0, length-replicate {A = ℕ} 64 0)

pub loop-place-preserved : goal.loop-place-preserved
loop-place-preserved c =
    let l = c.loop-place in
    (c.under-k.ensures, below_set l.order (l.place - 1) l.k c.args.size.slots l.invariant.1 l.invariant.0, length-set l.order (l.place - 1) l.k ∙ l.invariant.2)

pub returns : goal.returns
returns c = (c.loop-place.invariant.1, c.loop-place.invariant.2, c.by_upper-uppers.ensures)
