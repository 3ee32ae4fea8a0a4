-- `Row::content_at` meets its contract.
use native.Mathlib.Omega.{arith}
use Rattle.model.specs.Entries.{content_from}
use Rattle.entries.specs.Rows.{content_number}
use Rattle.entries.proofs.Contents.{content_long, content_short}
use borrow.Author.Rules.{rules}
use Rattle.entries.proofs.row.Row.content_at.Goals as goal

pub returns-then-self-lt40 : goal.returns-then-self-lt40
unfolding content_number content_from
returns-then-self-lt40 c =
    let a = c.args in
    (rw (← c.entry_at-at.ensures.is) (content_short a.self.now.e c.entry_at-at.result a.self.now.bytes.now c.requires.1 (omega arith) c.little_endian-value.result (omega arith) c.little_endian-value.ensures), search rules)

pub returns : goal.returns
unfolding content_number content_from
returns c =
    let a = c.args in
    (rw (← c.entry_at-at.ensures.is) (content_long a.self.now.e c.entry_at-at.result a.self.now.bytes.now c.requires.1 (omega arith) c.little_endian-value.result c.little_endian-run.result (omega arith) c.little_endian-value.ensures c.little_endian-run.ensures), search rules)
