-- `gathering::part_faults` meets its contract.
use Rattle.std.proofs.Common.{◌+◌, ◌<◌, ◌*◌, ◌/◌, ◌%◌, ◌^◌, refl, arith}
use lib.Bits.{bit_and, bit_or, or_lt}
use Rattle.digits.proofs.Bytes.{or_zero}
use Rattle.gathering.proofs.Parts.{part_digits, part_zero}
use Rattle.gathering.proofs.Signs.{less, less_lt, less_more}
use Rattle.gathering.proofs.part_faults.Goals as goal

pub returns : goal.returns
returns c z =
    let g = c.args in
    let s = g.s.now in
    let w = c.little_endian-w.result in
    let e = c.little_endian-w.ensures in
    let behind = w / 2 ^ (4 * g.k) / 2 ^ (4 * g.k) in
    let v = bit_or w (0x2020202020202020 * 2 ^ (4 * g.k) % 2 ^ 64 * 2 ^ (4 * g.k) % 2 ^ 64) in
    let r = (v + 0x0202020202020202) % 2 ^ 64 in
    let u = less v 0x2020202020202020 in
    let f : v < 2 ^ 64 = or_lt 64 w (0x2020202020202020 * 2 ^ (4 * g.k) % 2 ^ 64 * 2 ^ (4 * g.k) % 2 ^ 64) (omega arith) (omega arith) in
    let above = bit_or (bit_and v 0x8080808080808080) (bit_and r 0x8080808080808080) in
    let a = or_zero (bit_or behind above) (bit_and u 0x8080808080808080) z in
    let b = or_zero behind above a.0 in
    let d = or_zero (bit_and v 0x8080808080808080) (bit_and r 0x8080808080808080) b.1 in (
      part_digits s g.at g.k (omega arith) (omega arith) (λ i. omega (arith, c.type_inv.s i)) w e (omega arith) b.0 v r u refl f d.0 refl d.1 (less_more v 0x2020202020202020 f (omega arith)) (less_lt v 0x2020202020202020) a.1,
      part_zero s g.at g.k (omega arith) (omega arith) (λ i. omega (arith, c.type_inv.s i)) w e (omega arith) b.0,
    )
