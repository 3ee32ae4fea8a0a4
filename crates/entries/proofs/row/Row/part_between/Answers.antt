-- `Row::part_between` meets its contract.
use Rattle.model.proofs.Prelude.{◌∙◌, ap₂, arith, ℕ}
use Rattle.digits.specs.Keys.{key_value}
use Rattle.entries.specs.Rows.{below, entries_from, is_not_above, values}
use Rattle.entries.proofs.Lists.{part_none}
use Rattle.entries.proofs.row.Row.part_between.Goals as goal

pub returns-then-to-from : goal.returns-then-to-from
returns-then-to-from c =
    let a = c.args in
    let es = values a.self.now.e a.self.now.count a.self.now.bytes.now in
    (omega arith, part_none a.self.now.e c.rank-from.result c.not_above-to.result (below (key_value a.first) es) (is_not_above (key_value a.second) es) a.self.now.bytes.now c.rank-from.ensures.1 c.not_above-to.ensures.1 (omega arith))

pub returns : goal.returns
returns c =
    let a = c.args in
    (c.part.ensures.4, c.part.ensures.0 ∙ ap₂ (λ (x y : ℕ). entries_from a.self.now.e x y a.self.now.bytes.now) c.rank-from.ensures.1 c.not_above-to.ensures.1)
