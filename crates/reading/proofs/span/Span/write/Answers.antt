-- `Span::write` meets its contract: what is written and what is to come are all that is to be listed.
use Rattle.model.proofs.Prelude.{◌+◌, arith}
use Rattle.reading.proofs.Writing.{rest_length, rest_none, rest_step, writing_end, writing_length, writing_rest, writing_start, writing_step}
use Rattle.reading.proofs.span.Span.write.Goals as goal

pub loop-j-init : goal.loop-j-init
loop-j-init c = writing_start _ _ c.requires.0

pub copy-requires : goal.copy-requires
copy-requires c =
    let l = c.loop-j in
    let e = rest_length c.args.self.now l.j (omega arith) c.part-part.ensures.1 in
    omega (arith, writing_rest l.invariant, e, writing_length l.invariant, l.invariant.room)

pub overflow_add-at : goal.overflow_add-at
overflow_add-at c =
    let l = c.loop-j in
    let e = rest_length c.args.self.now l.j (omega arith) c.part-part.ensures.1 in
    omega (arith, writing_rest l.invariant, e, c.requires.1)

pub loop-j-preserved : goal.loop-j-preserved
loop-j-preserved c =
    let l = c.loop-j in
    writing_step l.invariant c.part-part.result.now _ _ (rest_step c.args.self.now l.j (omega arith) c.part-part.ensures.1) c.copy.ensures

pub returns : goal.returns
returns c =
    let l = c.loop-j in
    writing_end l.invariant (rest_none c.args.self.now l.j (omega arith))

pub returns-2 : goal.returns-2
returns-2 c =
    let l = c.loop-j in let s = c.args.self.now in
    writing_end (writing_step l.invariant c.part-part.result.now _ _ (rest_step s l.j (omega arith) c.part-part.ensures.1) c.copy.ensures)
    (rest_none s (l.j + 1) (omega arith))
