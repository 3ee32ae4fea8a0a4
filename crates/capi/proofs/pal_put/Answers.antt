-- `pal_put` meets its contract.
use Rattle.model.proofs.Prelude.{refl}
use Rattle.capi.proofs.Doors.{done, put_malformed, put_said}
use Rattle.capi.proofs.pal_put.Goals as goal

pub returns-in_default : goal.returns-in_default
returns-in_default c =
    let a = c.args in
    put_malformed a.trie.now c.in_default.ensures.cases a.file.now a.name.now a.value a.run a.limit a.out.now

pub returns-in-Ok-Added : goal.returns-in-Ok-Added
returns-in-Ok-Added c =
    let a = c.args in
    put_said a.trie.now c.in-Some.ensures.cases.long c.in-Some.ensures.cases.same a.file.now a.name.now a.value a.run a.limit a.out.now (done c.in-Ok-Added.is c.in-Ok-Added.field-0-is) c.put.ensures refl refl

pub returns-in-Ok-Replaced : goal.returns-in-Ok-Replaced
returns-in-Ok-Replaced c =
    let a = c.args in
    put_said a.trie.now c.in-Some.ensures.cases.long c.in-Some.ensures.cases.same a.file.now a.name.now a.value a.run a.limit a.out.now (done c.in-Ok-Replaced.is c.in-Ok-Replaced.field-0-is) c.put.ensures refl refl

pub returns-in-Ok-Stopped : goal.returns-in-Ok-Stopped
returns-in-Ok-Stopped c =
    let a = c.args in
    put_said a.trie.now c.in-Some.ensures.cases.long c.in-Some.ensures.cases.same a.file.now a.name.now a.value a.run a.limit a.out.now (done c.in-Ok-Stopped.is c.in-Ok-Stopped.field-0-is) c.put.ensures refl refl

pub returns-in-Err : goal.returns-in-Err
returns-in-Err c =
    let a = c.args in
    put_said a.trie.now c.in-Some.ensures.cases.long c.in-Some.ensures.cases.same a.file.now a.name.now a.value a.run a.limit a.out.now c.in-Err.is c.put.ensures c.refused.ensures.0 c.refused.ensures.1
