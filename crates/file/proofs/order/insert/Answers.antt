-- `insert` meets its contract: those from the place on move up, and what bounds them all still does.
use Rattle.model.proofs.Prelude.{◌+◌, length-set, ◌∙◌}
use Rattle.file.proofs.Laws.{below_moved, below_set}
use Rattle.file.proofs.Moves.{put_in}
use Rattle.file.proofs.order.insert.Goals as goal

pub returns : goal.returns
returns c =
    let o = c.args.order.now in let place = c.args.place in let count = c.args.count in let m = c.copy_within.ensures in (
      λ n h p. below_set _ place c.args.k n (rw m.after (below_moved o place count (place + 1) n h)) p,
      length-set _ place c.args.k ∙ m.len ∙ c.requires.2,
      rw m.after (put_in o count place c.args.k c.requires.2 c.requires.1 c.requires.0),
    )
