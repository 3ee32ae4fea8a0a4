-- `is_plain` meets its contract.
use Rattle.model.proofs.Prelude.{arith, clash}
use Rattle.gathering.proofs.Bounds.{bound_in}
use Rattle.gathering.proofs.is_plain.Goals as goal

pub returns-then-len-le8 : goal.returns-then-len-le8
returns-then-len-le8 c t =
    bound_in c.args.s.now c.args.len c.requires (omega arith) (c.is_short.ensures t)

pub returns-then-len-le16 : goal.returns-then-len-le16
returns-then-len-le16 c t =
    bound_in c.args.s.now c.args.len c.requires (omega arith) (c.is_middle.ensures t)

pub returns-then-len-le24 : goal.returns-then-len-le24
returns-then-len-le24 c t =
    bound_in c.args.s.now c.args.len c.requires (omega arith) (c.is_long.ensures t)

pub returns : goal.returns
returns c t =
    clash cc
