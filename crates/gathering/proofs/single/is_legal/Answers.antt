-- `is_legal` meets its contract.
use Rattle.model.proofs.Prelude.{◌∙◌, ap, arith, clash, length, rules}
use Rattle.model.proofs.Names.{length_filled}
use Rattle.gathering.proofs.Legal.{filled_legal}
use Rattle.gathering.proofs.single.is_legal.Goals as goal

pub returns-then-name-eq0 : goal.returns-then-name-eq0
returns-then-name-eq0 c t = clash cc

pub returns-then-name-gt24 : goal.returns-then-name-gt24
returns-then-name-gt24 c t = clash cc

pub is_filled-requires : goal.is_filled-requires
is_filled-requires c =
    ap length c.requires ∙ length_filled c.args.name.now

pub returns : goal.returns
returns c t =
    filled_legal c.args.name.now (omega arith) (omega arith) (search rules) (rw c.requires at (c.is_filled.ensures t))
