-- `Row::not_above` meets its contract.
use Rattle.model.proofs.Prelude.{ltb, not, rules, ℕ}
use Rattle.std.proofs.Common.{tests}
use Rattle.digits.specs.Keys.{key_value}
use Rattle.entries.proofs.row.Row.not_above.Goals as goal

pub returns : goal.returns
returns c =
    let v = key_value c.args.string in
    (c.up_to.ensures.most, c.up_to.ensures.last (λ (w : ℕ). not (ltb v w)) (λ k r p. search (rules, tests)))
