-- `shared_word` meets its contract: zeros below the lowest set digit of `^` are bytes that are the same.
use Rattle.model.proofs.Prelude.{◌/◌, ◌∙◌, ap, ap₂, arith, drop, take, ℕ}
use lib.Bits.{bit_xor}
use lib.Count.{count_trailing_zeros}
use Rattle.digits.proofs.Bytes.{word_part}
use Rattle.bucket.proofs.Shared.{words_diff}
use Rattle.bucket.proofs.shared_word.Goals as goal

pub returns : goal.returns
returns c =
    let one = c.args.one.now in let two = c.args.two.now in
    let v = word_part one 32 (omega arith) (λ i. omega (arith, c.type_inv.one i)) in
    let w = word_part two 32 (omega arith) (λ i. omega (arith, c.type_inv.two i)) in
    ap (λ (n : ℕ). n / 8) (ap₂ (λ (m n : ℕ). count_trailing_zeros 64 (bit_xor m n)) c.little_endian.ensures c.little_endian-2.ensures)
    ∙ words_diff (take 8 (drop 32 one)) (take 8 (drop 32 two)) 8 v.bytes w.bytes v.eight w.eight
