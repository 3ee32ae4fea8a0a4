-- `naming_of` meets its contract.
use Rattle.model.proofs.Prelude.{◌∙◌, ap, arith, take_all}
use Rattle.digits.specs.Keys.{value}
use Rattle.gathering.proofs.single.naming_of.Goals as goal

pub returns-then-is_legal : goal.returns-then-is_legal
returns-then-is_legal c =
    let a = c.args in
    (c.is_legal.ensures c.if-is_legal.true, c.at.ensures ∙ ap value (take_all 24 a.digits.now (omega arith)))
