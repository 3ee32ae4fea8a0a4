-- `Span::len` meets its contract: each slot passed gives at most 640 bytes, and those counted and those to come are all.
use Rattle.model.proofs.Prelude.{◌+◌, ap, arith, length}
use Rattle.reading.proofs.Writing.{rest_length, rest_none}
use Rattle.reading.proofs.span.Span.len.Goals as goal

pub loop-j-preserved : goal.loop-j-preserved
loop-j-preserved c =
    let e = rest_length c.args.self.now c.loop-j.j (omega arith) c.part.ensures.1 in
    (omega arith, omega arith, omega (arith, e))

pub returns : goal.returns
returns c =
    let e = rest_none c.args.self.now c.loop-j.j (omega arith) in
    (omega arith, omega (arith, ap length e))

pub returns-2 : goal.returns-2
returns-2 c =
    let j = c.loop-j.j in
    let e = rest_length c.args.self.now j (omega arith) c.part.ensures.1 in
    let d = rest_none c.args.self.now (j + 1) (omega arith) in
    (omega arith, omega (arith, e, ap length d))
