-- `Row::rank` meets its contract.
use Rattle.model.proofs.Prelude.{ltb, rules, ℕ}
use Rattle.std.proofs.Common.{tests}
use Rattle.digits.specs.Keys.{key_value}
use Rattle.entries.proofs.row.Row.rank.Goals as goal

pub returns : goal.returns
returns c =
    let v = key_value c.args.name in
    (c.up_to.ensures.most, c.up_to.ensures.last (λ (w : ℕ). ltb w v) (λ k r p. search (rules, tests)))
