-- `gathering::faults` meets its contract.
use Rattle.model.proofs.Prelude.{◌-◌, ◌/◌, ◌^◌, ◌≡◌, arith, refl}
use Rattle.digits.proofs.Bytes.{or_zero}
use Rattle.gathering.proofs.faults.Goals as goal

pub returns : goal.returns
returns c =
    let s = c.args.seen in let b = c.byte_faults in (
      λ z. let q = or_zero b.result (1 - s.ascents / 2 ^ 63) z in b.ensures.0 q.0 s.ascents (omega (arith, q.1)),
      λ C L.
          let sign : s.ascents / 2 ^ 63 ≡ 1 = omega (arith, C.rising) in
          rw (b.ensures.1 s.ascents C L, sign) refl,
    )
