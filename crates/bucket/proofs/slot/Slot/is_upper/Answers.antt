-- `Slot::is_upper` meets its contract.
use Rattle.model.proofs.Prelude.{arith, drop, get_or, take}
use Rattle.gathering.proofs.Bounds.{bound_in}
use Rattle.digits.proofs.Keys.{length_part}
use Rattle.bucket.specs.Slots.{is_a_bound}
use Rattle.bucket.proofs.slot.Slot.is_upper.Goals as goal

pub returns-then-len-le8 : goal.returns-then-len-le8
unfolding is_a_bound
returns-then-len-le8 c t =
    let xs = c.args.self.now.bytes.now in
    bound_in (take 24 (drop 32 xs)) (get_or xs 3 0) (length_part xs 32 24 (omega arith)) (omega arith) (c.is_short.ensures t)

pub returns : goal.returns
unfolding is_a_bound
returns c t =
    c.is_plain.ensures t
