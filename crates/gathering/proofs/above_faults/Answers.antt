-- `gathering::above_faults` meets its contract.
use Rattle.model.proofs.Prelude.{◌%◌, ◌+◌, ◌^◌, arith, refl}
use lib.Bits.{bit_and}
use Rattle.digits.proofs.Bytes.{or_zero}
use Rattle.gathering.proofs.Bits.{above_none, none_above}
use Rattle.gathering.proofs.above_faults.Goals as goal

pub returns : goal.returns
returns c =
    let g = c.args in
    let w = c.little_endian-w.result in let r = (w + 0x0202020202020202) % 2 ^ 64 in (
      λ z j h.
          let q = or_zero (bit_and w 0x8080808080808080) (bit_and r 0x8080808080808080) z in
          none_above g.s.now g.at (omega arith) (λ i. omega (arith, c.type_inv.s i)) w c.little_endian-w.ensures (omega arith) r refl q.0 q.1 j h,
      λ f.
          let q = above_none g.s.now g.at (omega arith) (λ i. omega (arith, c.type_inv.s i)) w c.little_endian-w.ensures (omega arith) r refl f in
          rw (q.0, q.1) refl,
    )
