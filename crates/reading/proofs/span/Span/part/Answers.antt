-- `Span::part` meets its contract, whether the bucket lies inside or not.
use Rattle.model.proofs.Prelude.{◌&&◌, ◌≡◌, and-false, arith, false, le-ltb, lt-ltb, ltb, rules, true}
use Rattle.reading.proofs.Writing.{part_inside, part_searched}
use Rattle.reading.proofs.span.Span.part.Goals as goal
use Rattle.reading.proofs.span.Span.part.Goals.{else-self-j-via-else-self-j, else-self-j-via-then-self-j+else-j-self}

pub returns-then-j-self : goal.returns-then-j-self
returns-then-j-self c =
    let s = c.args.self.now in let j = c.args.j in
    let t : (ltb s.from j && ltb j s.to) ≡ true = rw (lt-ltb s.from j (omega (arith, c.if-self-j.true))) (search rules) in
    (c.all_of.ensures.0, part_inside s j t c.slot_at-slot.ensures.0 (rw c.slot_at-slot.ensures.1 at c.all_of.ensures.1))

pub returns : goal.returns
returns c =
    let s = c.args.self.now in let j = c.args.j in
    let t : (ltb s.from j && ltb j s.to) ≡ false = elim c.else-self-j.branch [
      | else-self-j-via-then-self-j+else-j-self p ↦ rw (le-ltb j s.to (omega (arith, p.if-j-self.false)), and-false (ltb s.from j))
      | else-self-j-via-else-self-j q ↦ rw (le-ltb s.from j (omega (arith, q.if-self-j.false)))
    ] in
    (c.part_between.ensures.0, part_searched s j t c.slot_at-slot.ensures.0 (rw c.slot_at-slot.ensures.1 at c.part_between.ensures.1))
