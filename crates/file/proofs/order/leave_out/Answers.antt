-- `leave_out` meets its contract: those behind the place move down, and what bounds them all still does.
use Rattle.model.proofs.Prelude.{◌+◌, ◌∙◌}
use Rattle.file.proofs.Laws.{below_moved}
use Rattle.file.proofs.Moves.{taken_out}
use Rattle.file.proofs.order.leave_out.Goals as goal

pub returns : goal.returns
returns c =
    let o = c.args.order.now in let place = c.args.place in let count = c.args.count in let m = c.copy_within.ensures in
    (λ n h. rw m.after (below_moved o (place + 1) count place n h), m.len ∙ c.requires.2, rw m.after (taken_out o count place c.requires.2 c.requires.1 c.requires.0))
