-- `pal_create` meets its contract.
use Rattle.model.proofs.Prelude.{refl}
use Rattle.capi.proofs.Doors.{create_malformed, create_said}
use Rattle.capi.proofs.pal_create.Goals as goal

pub returns-in_default : goal.returns-in_default
returns-in_default c =
    let a = c.args in
    create_malformed a.trie.now c.in_default.ensures.cases a.file.now a.version a.b a.slots

pub returns-in-Ok : goal.returns-in-Ok
returns-in-Ok c =
    let a = c.args in
    create_said a.trie.now c.in-Some.ensures.cases.long a.file.now a.version a.b a.slots c.in-Ok.is c.create.ensures refl

pub returns-in-Err : goal.returns-in-Err
returns-in-Err c =
    let a = c.args in
    create_said a.trie.now c.in-Some.ensures.cases.long a.file.now a.version a.b a.slots c.in-Err.is c.create.ensures c.from.ensures
