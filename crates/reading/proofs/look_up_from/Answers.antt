-- `look_up_from` meets its contract: each refusal is the model's, and the walk ended at one of the file's slots.
use Rattle.model.proofs.Prelude.{arith, refl}
use Rattle.model.proofs.Names.{is_legal_name_legal}
use Rattle.reading.proofs.LookingUp.{arrived_looked, headless_looked, illegal_looked, past_looked, stray_looked}
use Rattle.reading.proofs.look_up_from.Goals as goal

pub returns-in_default : goal.returns-in_default
returns-in_default c =
    let a = c.args in
    illegal_looked a.file.now a.place a.name.now c.in_default.ensures

pub returns-in_default-header_of : goal.returns-in_default-header_of
returns-in_default-header_of c =
    let a = c.args in
    headless_looked a.file.now a.place a.name.now c.in-Some.ensures.0 c.in_default-header_of.ensures

pub returns-in_default-place : goal.returns-in_default-place
returns-in_default-place c =
    let a = c.args in
    stray_looked a.file.now a.place a.name.now c.in-Some.ensures.0 c.in-Some-header_of.ensures.header c.in_default-place.not-Slot

pub returns-then-size-k : goal.returns-then-size-k
returns-then-size-k c =
    let a = c.args in
    past_looked a.file.now a.place a.name.now c.in-Some.ensures.0 c.in-Some-header_of.ensures.header c.in-Slot.is (omega (arith, c.if-size-k.true))

pub slot_at-requires : goal.slot_at-requires
slot_at-requires c = (c.in-Some-header_of.ensures.sized, omega arith)

pub returns : goal.returns
returns c =
    let a = c.args in
    arrived_looked a.file.now a.place a.name.now c.in-Some.ensures.0 c.in-Some-header_of.ensures.header c.look_in.result c.in-Slot.is refl (omega arith)
    c.slot_at.ensures.0 (rw (c.slot_at.ensures.1, c.requires) at c.look_in.ensures (is_legal_name_legal a.name.now c.in-Some.ensures.0))
