-- `pal_rebuild` meets its contract.
use Rattle.model.proofs.Prelude.{refl}
use Rattle.capi.proofs.Doors.{rebuild_malformed, rebuild_said}
use Rattle.capi.proofs.pal_rebuild.Goals as goal

pub returns-in_default : goal.returns-in_default
returns-in_default c =
    let a = c.args in
    rebuild_malformed a.trie.now c.in_default.ensures.cases a.file.now

pub returns-in-Ok : goal.returns-in-Ok
returns-in-Ok c =
    let a = c.args in
    rebuild_said a.trie.now c.in-Some.ensures.cases.long a.file.now c.in-Ok.is c.rebuild.ensures refl

pub returns-in-Err : goal.returns-in-Err
returns-in-Err c =
    let a = c.args in
    rebuild_said a.trie.now c.in-Some.ensures.cases.long a.file.now c.in-Err.is c.rebuild.ensures c.from.ensures
