-- `gathering::ascent` meets its contract.
use Rattle.model.proofs.Prelude.{arith}
use Rattle.digits.specs.Keys.{key_value}
use Rattle.gathering.proofs.Signs.{below_first, below_sign, first_below, less, less_lt, less_more, sign_below}
use Rattle.gathering.proofs.ascent.Goals as goal

pub returns : goal.returns
unfolding key_value
returns c k l =
    let g = c.args in
    let t = c.borrow-t in let u = c.borrow-u in
    let d = less g.x.a g.y.a in let r = less d u.result in
    let p = t.ensures.1 k.third l.third in let q = u.ensures.1 k.second l.second in (
      λ h. first_below g.x.a g.x.b g.x.c g.y.a g.y.b g.y.c t.result u.result p q (sign_below g.x.a g.y.a u.result d r k.first l.first u.ensures.0 (less_more g.x.a g.y.a (omega arith) (omega arith)) (less_more d u.result (less_lt g.x.a g.y.a) (omega arith)) (less_lt d u.result) h),
      λ h. below_sign g.x.a g.y.a u.result d r k.first l.first u.ensures.0 (less_more g.x.a g.y.a (omega arith) (omega arith)) (less_more d u.result (less_lt g.x.a g.y.a) (omega arith)) (less_lt d u.result) (below_first g.x.a g.x.b g.x.c g.y.a g.y.b g.y.c t.result u.result p q h),
    )
