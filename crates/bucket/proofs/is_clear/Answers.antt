-- `bucket::is_clear` meets its contract.
use Rattle.model.proofs.Prelude.{◌∙◌, ap, arith, drop, sym, take}
use Rattle.digits.specs.Keys.{is_all_zero}
use Rattle.gathering.proofs.Parts.{value_zero}
use Rattle.model.proofs.Lists.{rest}
use Rattle.bucket.specs.Forms.{is_all_clear}
use Rattle.bucket.proofs.Parts.{upper_some, upper_zero, zero_not_value}
use Rattle.bucket.proofs.is_clear.Goals as goal

pub returns-then-little_endian-ne0 : goal.returns-then-little_endian-ne0
unfolding is_all_clear
returns-then-little_endian-ne0 c =
    let w = c.little_endian in
    rw (upper_some c.args.slot.now w.result (omega arith) (λ i. omega (arith, c.type_inv.slot i)) w.ensures c.if-little_endian-ne0.true)

pub returns-then-little_endian-ne0-2 : goal.returns-then-little_endian-ne0-2
unfolding is_all_clear
returns-then-little_endian-ne0-2 c =
    let w = c.little_endian in let v = c.little_endian-2 in
    rw (
      upper_zero c.args.slot.now w.result (omega arith) (λ i. omega (arith, c.type_inv.slot i)) w.ensures c.if-little_endian-ne0.false,
      zero_not_value (take 8 (drop 56 c.args.slot.now)) (λ z. c.if-little_endian-ne0-2.true (v.ensures ∙ z)),
    )

pub returns : goal.returns
unfolding is_all_clear
returns c =
    let w = c.little_endian in let v = c.little_endian-2 in
    rw (
      upper_zero c.args.slot.now w.result (omega arith) (λ i. omega (arith, c.type_inv.slot i)) w.ensures c.if-little_endian-ne0.false,
      value_zero (take 8 (drop 56 c.args.slot.now)) (sym v.ensures ∙ c.if-little_endian-ne0-2.false),
    )
    (c.is_zero.ensures ∙ ap is_all_zero (rest c.args.end c.args.slot.now))
