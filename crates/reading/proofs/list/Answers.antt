-- `list` meets its contract: each refusal is the model's, and what passed the checks is listed.
use Rattle.model.proofs.Names.{is_legal_name_legal}
use Rattle.image.specs.Images.{trie_from}
use Rattle.checking.proofs.Laws.{error_is, lacking, naming_illegal, naming_legal, there}
use Rattle.reading.proofs.Listing.{first_illegal, list_fine, list_refused, second_illegal}
use Rattle.reading.proofs.list.Goals as goal

pub returns-in_err-low : goal.returns-in_err-low
returns-in_err-low c =
    let a = c.args in
    let l = lacking c.naming_of.result c.ok_or.ensures.value c.in_err-low.was in
    rw (error_is c.from_residual.result c.from_residual.ensures.1, ← l.1)
    (first_illegal a.file.now (trie_from a.image.now) a.first.now a.second.now a.output.now (naming_illegal c.naming_of.result a.first.now _ c.naming_of.ensures l.0))

pub returns-in_err-high : goal.returns-in_err-high
returns-in_err-high c =
    let a = c.args in
    let e = naming_legal c.naming_of.result a.first.now _ c.naming_of.ensures (there c.ok_or.ensures.ok_part c.in_ok-low.was) in
    let h = lacking c.naming_of-2.result c.ok_or-2.ensures.value c.in_err-high.was in
    rw (error_is c.from_residual-in_err-high.result c.from_residual-in_err-high.ensures.1, ← h.1)
    (second_illegal a.file.now (trie_from a.image.now) a.first.now a.second.now a.output.now e.0 (naming_illegal c.naming_of-2.result a.second.now _ c.naming_of-2.ensures h.0))

pub list_checked-requires : goal.list_checked-requires
list_checked-requires c =
    let a = c.args in (
      c.in_ok-checked.ensures.ready,
      (naming_legal c.naming_of.result a.first.now _ c.naming_of.ensures (there c.ok_or.ensures.ok_part c.in_ok-low.was)).1,
      (naming_legal c.naming_of-2.result a.second.now _ c.naming_of-2.ensures (there c.ok_or-2.ensures.ok_part c.in_ok-high.was)).1,
    )

pub returns-in_err-checked : goal.returns-in_err-checked
returns-in_err-checked c =
    let a = c.args in
    let e = naming_legal c.naming_of.result a.first.now _ c.naming_of.ensures (there c.ok_or.ensures.ok_part c.in_ok-low.was) in
    let f = naming_legal c.naming_of-2.result a.second.now _ c.naming_of-2.ensures (there c.ok_or-2.ensures.ok_part c.in_ok-high.was) in
    rw (error_is c.from_residual-in_err-checked.result c.from_residual-in_err-checked.ensures.1)
    (list_refused a.file.now (trie_from a.image.now) a.first.now a.second.now a.output.now e.0 f.0 c.in_err-checked.ensures)

pub returns : goal.returns
returns c =
    let a = c.args in
    let e = naming_legal c.naming_of.result a.first.now _ c.naming_of.ensures (there c.ok_or.ensures.ok_part c.in_ok-low.was) in
    let f = naming_legal c.naming_of-2.result a.second.now _ c.naming_of-2.ensures (there c.ok_or-2.ensures.ok_part c.in_ok-high.was) in
    let A = c.in_ok-checked.ensures in
    list_fine a.file.now (trie_from a.image.now) a.first.now a.second.now a.output.now _ _ e.0 f.0 A.looked
    (rw (c.filled-lowest.ensures, c.filled-highest.ensures) at c.list_checked.ensures A.ready (is_legal_name_legal a.first.now e.0) (is_legal_name_legal a.second.now f.0))
