-- `entries::entry_of` meets its contract.
use mathlib.Core.Path.{◌∙◌, ◌≡◌}
use native.Mathlib.Omega.{arith}
use lib.ListN.{length}
use Rattle.model.specs.Entries.{content_from}
use Rattle.entries.specs.Rows.{content_number}
use Rattle.entries.proofs.Contents.{eight_bytes, long_copies, short_copies}
use borrow.Author.Rules.{rules}
use Rattle.entries.proofs.entry_of.Goals as goal

pub returns-then-e-lt40 : goal.returns-then-e-lt40
unfolding content_number content_from
returns-then-e-lt40 c =
    let a = c.args in
    let h : length a.name.now ≡ 24 = search rules in (
      short_copies a.e a.name.now a.content.value a.content.run c.requires h (omega (arith, c.well_formed))
          c.to_le_bytes.result c.copy.new.d c.copy-2.new.d (c.to_le_bytes.ensures ∙ eight_bytes a.content.value) c.copy.ensures c.copy-2.ensures (omega arith),
      h,
    )

pub returns : goal.returns
unfolding content_number content_from
returns c =
    let a = c.args in
    let h : length a.name.now ≡ 24 = search rules in (
      long_copies a.e a.name.now a.content.value a.content.run c.requires h (omega (arith, c.well_formed))
          c.to_le_bytes.result c.copy.new.d c.copy-2.new.d (c.to_le_bytes.ensures ∙ eight_bytes a.content.value) c.copy.ensures c.copy-2.ensures
          c.to_le_bytes-2.result c.copy-3.new.d (omega arith) (c.to_le_bytes-2.ensures ∙ eight_bytes a.content.run) c.copy-3.ensures,
      h,
    )
