-- `pal_list` meets its contract.
use Rattle.model.proofs.Prelude.{refl}
use Rattle.capi.proofs.Doors.{list_malformed, list_said}
use Rattle.capi.proofs.pal_list.Goals as goal

pub returns-in_default : goal.returns-in_default
returns-in_default c =
    let a = c.args in
    list_malformed a.trie.now c.in_default.ensures.cases a.file.now a.first.now a.second.now a.output.now a.out.now

pub returns-in-Ok : goal.returns-in-Ok
returns-in-Ok c =
    let a = c.args in
    list_said a.trie.now c.in-Some.ensures.cases.long c.in-Some.ensures.cases.same a.file.now a.first.now a.second.now a.output.now a.out.now c.in-Ok.is c.list.ensures refl refl

pub returns-in-Err : goal.returns-in-Err
returns-in-Err c =
    let a = c.args in
    list_said a.trie.now c.in-Some.ensures.cases.long c.in-Some.ensures.cases.same a.file.now a.first.now a.second.now a.output.now a.out.now c.in-Err.is c.list.ensures c.refused.ensures.0 c.refused.ensures.1
