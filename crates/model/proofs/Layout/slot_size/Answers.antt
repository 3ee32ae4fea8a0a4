-- `Layout::slot_size` meets its contract.
use Rattle.model.proofs.Prelude.{◌*◌, ◌+◌, ap, arith, mul-le-mul, ℕ}
use Rattle.model.specs.Format.{slot_size}
use Rattle.model.proofs.Layout.slot_size.Goals as goal

pub returns : goal.returns
unfolding slot_size
returns c =
    let e = c.entry_size in let y = c.args.self in
    let m = mul-le-mul e.ensures.1.most c.requires in
    (ap (λ (n : ℕ). 64 + n * y.b) e.ensures.0, omega arith, omega (arith, m))
