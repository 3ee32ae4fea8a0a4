-- `Row::part` meets its contract.
use Rattle.model.proofs.Prelude.{◌-◌, arith, drop, length-drop, length-take, length-take-le, refl}
use Rattle.entries.proofs.Lists.{part_is}
use Rattle.entries.proofs.Products.{rest_is}
use Rattle.entries.proofs.row.Row.part.Goals as goal

pub returns : goal.returns
returns c =
    let x = c.entry_at-at in let y = c.entry_at-end in let a = c.args in let r = a.self.now in (
      part_is r.e a.from a.to x.result y.result r.bytes.now x.ensures.is y.ensures.is,
      refl,
      refl,
      omega (arith, length-take-le (y.result - x.result) (drop x.result r.bytes.now) (omega (arith, length-drop x.result r.bytes.now)), x.ensures.is, y.ensures.is, rest_is r.e a.from a.to),
      omega (arith, length-take (y.result - x.result) (drop x.result r.bytes.now)),
    )
