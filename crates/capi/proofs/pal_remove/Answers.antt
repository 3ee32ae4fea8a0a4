-- `pal_remove` meets its contract.
use Rattle.model.proofs.Prelude.{refl}
use Rattle.capi.proofs.Doors.{done, remove_malformed, remove_said}
use Rattle.capi.proofs.pal_remove.Goals as goal

pub returns-in_default : goal.returns-in_default
returns-in_default c =
    let a = c.args in
    remove_malformed a.trie.now c.in_default.ensures.cases a.file.now a.name.now a.limit a.out.now

pub returns-in-Ok-Removed : goal.returns-in-Ok-Removed
returns-in-Ok-Removed c =
    let a = c.args in
    remove_said a.trie.now c.in-Some.ensures.cases.long c.in-Some.ensures.cases.same a.file.now a.name.now a.limit a.out.now (done c.in-Ok-Removed.is c.in-Ok-Removed.field-0-is) c.remove.ensures refl refl

pub returns-in-Ok-Absent : goal.returns-in-Ok-Absent
returns-in-Ok-Absent c =
    let a = c.args in
    remove_said a.trie.now c.in-Some.ensures.cases.long c.in-Some.ensures.cases.same a.file.now a.name.now a.limit a.out.now (done c.in-Ok-Absent.is c.in-Ok-Absent.field-0-is) c.remove.ensures refl refl

pub returns-in-Ok-Stopped : goal.returns-in-Ok-Stopped
returns-in-Ok-Stopped c =
    let a = c.args in
    remove_said a.trie.now c.in-Some.ensures.cases.long c.in-Some.ensures.cases.same a.file.now a.name.now a.limit a.out.now (done c.in-Ok-Stopped.is c.in-Ok-Stopped.field-0-is) c.remove.ensures refl refl

pub returns-in-Err : goal.returns-in-Err
returns-in-Err c =
    let a = c.args in
    remove_said a.trie.now c.in-Some.ensures.cases.long c.in-Some.ensures.cases.same a.file.now a.name.now a.limit a.out.now c.in-Err.is c.remove.ensures c.refused.ensures.0 c.refused.ensures.1
