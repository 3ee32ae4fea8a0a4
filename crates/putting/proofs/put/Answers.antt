-- `put` meets its contract: what is refused, and the rest.
use Rattle.model.proofs.Prelude.{arith}
use Rattle.model.proofs.Names.{is_legal_name_legal}
use Rattle.checking.proofs.Laws.{error_is, lacking, naming_illegal, naming_legal, there}
use Rattle.putting.proofs.Putting.{file_refused, limit_refused, name_refused, put_fine, put_named}
use Rattle.putting.proofs.put.Goals as goal

pub returns-then-limit-gt2 : goal.returns-then-limit-gt2
returns-then-limit-gt2 c = let a = c.args in limit_refused a.file.now a.image.now a.name.now a.value a.run a.limit (omega (arith, c.if-limit-gt2.true))

pub returns-in_err-key : goal.returns-in_err-key
returns-in_err-key c =
    let named = c.naming_of in let a = c.args in
    let l = lacking named.result c.ok_or.ensures.value c.in_err-key.was in
    rw (error_is c.from_residual.result c.from_residual.ensures.1, ← l.1)
    (name_refused a.file.now a.image.now a.name.now a.value a.run a.limit (omega (arith, c.if-limit-gt2.false)) (naming_illegal named.result a.name.now _ named.ensures l.0))

pub put_checked-requires : goal.put_checked-requires
put_checked-requires c =
    let named = c.naming_of in let filled = c.filled-filled in let a = c.args in
    let l = naming_legal named.result a.name.now _ named.ensures (there c.ok_or.ensures.ok_part c.in_ok-key.was) in
    (c.in_ok-checked.ensures, rw filled.ensures (is_legal_name_legal a.name.now l.0), l.1)

pub returns-in_err-checked : goal.returns-in_err-checked
returns-in_err-checked c =
    let named = c.naming_of in let a = c.args in
    let l = naming_legal named.result a.name.now _ named.ensures (there c.ok_or.ensures.ok_part c.in_ok-key.was) in
    rw (error_is c.from_residual-in_err-checked.result c.from_residual-in_err-checked.ensures.1)
    (file_refused a.file.now a.image.now a.name.now a.value a.run a.limit _ (omega (arith, c.if-limit-gt2.false)) l.0 c.in_err-checked.ensures)

pub returns : goal.returns
returns c =
    let named = c.naming_of in let filled = c.filled-filled in let a = c.args in let checked = c.in_ok-checked.checked in
    let A = c.in_ok-checked.ensures in
    let l = naming_legal named.result a.name.now _ named.ensures (there c.ok_or.ensures.ok_part c.in_ok-key.was) in
    put_fine a.file.now a.image.now a.name.now a.value a.run a.limit _ checked.size.layout A.ready.slots (omega (arith, c.if-limit-gt2.false)) l.0 A.looked
    (put_named a.file.now a.image.now checked.size a.value a.run a.limit filled.ensures c.put_checked.ensures A.ready.slots A.ready.is)
