-- `pal_lookup` meets its contract.
use Rattle.model.proofs.Prelude.{refl}
use Rattle.capi.proofs.Doors.{done, look_up_is_malformed, look_up_said, look_up_walked}
use Rattle.capi.proofs.pal_lookup.Goals as goal

pub returns-in_default : goal.returns-in_default
returns-in_default c =
    let a = c.args in
    look_up_is_malformed a.trie.now c.in_default.ensures.cases a.file.now a.name.now a.out.now

pub returns-in-Ok-Some : goal.returns-in-Ok-Some
returns-in-Ok-Some c =
    let a = c.args in
    look_up_said a.trie.now c.in-Some.ensures.cases.long c.in-Some.ensures.cases.same a.file.now a.name.now a.out.now (done c.in-Ok-Some.is c.in-Ok-Some.field-0-is)
    (look_up_walked c.in-Some.image.now a.file.now a.name.now c.place_in.result c.filled-filled.ensures c.place_in.ensures c.look_up_from.ensures) refl refl

pub returns-in-Ok-None : goal.returns-in-Ok-None
returns-in-Ok-None c =
    let a = c.args in
    look_up_said a.trie.now c.in-Some.ensures.cases.long c.in-Some.ensures.cases.same a.file.now a.name.now a.out.now (done c.in-Ok-None.is c.in-Ok-None.field-0-is)
    (look_up_walked c.in-Some.image.now a.file.now a.name.now c.place_in.result c.filled-filled.ensures c.place_in.ensures c.look_up_from.ensures) refl refl

pub returns-in-Err : goal.returns-in-Err
returns-in-Err c =
    let a = c.args in
    look_up_said a.trie.now c.in-Some.ensures.cases.long c.in-Some.ensures.cases.same a.file.now a.name.now a.out.now c.in-Err.is
    (look_up_walked c.in-Some.image.now a.file.now a.name.now c.place_in.result c.filled-filled.ensures c.place_in.ensures c.look_up_from.ensures) c.refused.ensures.0 c.refused.ensures.1
