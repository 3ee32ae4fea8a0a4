-- `Row::held_under` meets its contract.
use Rattle.model.proofs.Prelude.{◌∙◌, ap, some, sym}
use Rattle.digits.specs.Keys.{key_value}
use Rattle.entries.specs.Rows.{below, values}
use Rattle.entries.proofs.Searches.{held_none, held_some, there}
use Rattle.entries.proofs.row.Row.held_under.Goals as goal

pub content_at-requires : goal.content_at-requires
content_at-requires c =
    let s = c.args.self.now in
    (there s.e c.rank-i.result s.count s.bytes.now (key_value c.args.name) (sym c.is_at.ensures ∙ c.if-not-is_at.false), c.requires)

pub returns-then-not-is_at : goal.returns-then-not-is_at
returns-then-not-is_at c =
    let s = c.args.self.now in let xs = s.bytes.now in let v = key_value c.args.name in
    (held_none s.e c.rank-i.result (below v (values s.e s.count xs)) xs s.count v c.rank-i.ensures.1 (sym c.is_at.ensures ∙ c.if-not-is_at.true), tt)

pub returns : goal.returns
returns c =
    let s = c.args.self.now in let xs = s.bytes.now in let v = key_value c.args.name in
    (ap some c.content_at.ensures.0 ∙ held_some s.e c.rank-i.result (below v (values s.e s.count xs)) xs s.count v c.rank-i.ensures.1 (sym c.is_at.ensures ∙ c.if-not-is_at.false), c.content_at.ensures.1)
