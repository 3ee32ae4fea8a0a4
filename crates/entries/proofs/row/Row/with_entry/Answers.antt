-- `Row::with_entry` meets its contract.
use mathlib.Core.Path.{◌∙◌, ap}
use mathlib.Core.List.{List}
use Prim.Native.Nat.{ℕ}
use Rattle.model.specs.Format.{padded}
use Rattle.entries.specs.Rows.{content_number, room, spliced_bytes}
use Rattle.entries.proofs.Contents.{entry_part}
use Rattle.entries.proofs.row.Row.with_entry.Goals as goal

pub returns : goal.returns
returns c =
    let a = c.args in
    let i = c.entry_of-entry in
    let p = entry_part a.self.now.e (a.name.now, content_number a.content) i.result c.requires.1 i.ensures.1 i.ensures.0 in
    c.spliced.ensures ∙ ap (λ (m : List ℕ). padded room (spliced_bytes a.self.now.e a.self.now.bytes.now a.self.now.count a.i a.taken m)) p
