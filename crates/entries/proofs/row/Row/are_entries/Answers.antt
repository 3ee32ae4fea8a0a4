-- `Row::are_entries` meets its contract.
use Rattle.model.proofs.Prelude.{◌∙◌, sym}
use Rattle.digits.specs.Keys.{key_value}
use Rattle.entries.proofs.Searches.{ends_faulty, entries_tested}
use Rattle.entries.proofs.row.Row.are_entries.Goals as goal

pub returns-then-not-are_between : goal.returns-then-not-are_between
returns-then-not-are_between c =
    let a = c.args in let r = c.are_between in
    sym (ends_faulty a.self.now.e a.self.now.count a.self.now.bytes.now (key_value a.low) (key_value a.high) (sym r.ensures ∙ c.if-not-are_between.true))

pub returns : goal.returns
returns c =
    let a = c.args in let r = c.are_between in
    let seen = c.with_names-seen.ensures in let none = c.nothing_seen.ensures in
    entries_tested a.self.now.e a.self.now.count a.self.now.bytes.now (key_value a.low) (key_value a.high) c.faults.result (sym r.ensures ∙ c.if-not-are_between.false)
    (λ z. (seen.0 (c.faults.ensures.0 z)).1) (λ r. c.faults.ensures.1 (seen.1 none.0 r) (seen.2 none.1))
