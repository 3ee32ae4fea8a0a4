-- `place_of` meets its contract: version 1 has the middle, and in version 2 two strings decide.
use Rattle.model.proofs.Prelude.{arith, rules, sym}
use Rattle.model.proofs.Places.{place_before, place_first, place_m}
use Rattle.splitting.proofs.place_of.Goals as goal

pub returns-then-layout-eq1 : goal.returns-then-layout-eq1
returns-then-layout-eq1 c =
    let a = c.args in record { inside = search rules; is = λ l u ws R size r. sym (place_first a.layout c.if-layout-eq1.true ws) }

pub returns-then-length_at : goal.returns-then-length_at
returns-then-length_at c =
    let y = c.args.layout in
    let m = c.length_at-2 in
    let k = c.length_at in
    record {
      inside = search rules;
      is = λ l u ws R size r.
          sym (place_before y c.requires.0 c.if-layout-eq1.false ws R size (omega (arith, c.if-length_at.true, k.ensures.is l u ws R size r, m.ensures.is l u ws R size r)));
    }

pub returns : goal.returns
returns c =
    let y = c.args.layout in
    let m = c.length_at-2 in
    let k = c.length_at in
    record {
      inside = search rules;
      is = λ l u ws R size r.
          sym (place_m y c.requires.0 c.if-layout-eq1.false ws R size (omega (arith, c.if-length_at.false, k.ensures.is l u ws R size r, m.ensures.is l u ws R size r)));
    }
