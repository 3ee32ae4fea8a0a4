-- `answer_of` meets its contract: each stage's answer is the model's.
use Rattle.model.proofs.Prelude.{◌∙◌, sym}
use Rattle.model.specs.Format.{slot_size}
use Rattle.bucket.proofs.Slots.{vacant_free, vacant_taken}
use Rattle.reading.proofs.LookingUp.{answer_free, answer_held, answer_ill, answer_lacks, by_digits}
use Rattle.reading.proofs.answer_of.Goals as goal

pub returns-in_default : goal.returns-in_default
unfolding slot_size
returns-in_default c g =
    answer_free c.args.slot.now.layout c.args.slot.now.bytes.now c.args.name.now c.args.slot.now.of_size.0 (vacant_free _ (sym c.in_default.is ∙ c.vacancy.ensures))

pub returns-in_default-form : goal.returns-in_default-form
unfolding slot_size
returns-in_default-form c g =
    answer_ill c.args.slot.now.layout c.args.slot.now.bytes.now c.args.name.now c.args.slot.now.of_size.0 (vacant_taken _ (sym c.in-Taken.is ∙ c.vacancy.ensures)) c.in_default-form.ensures

pub returns-in-Err : goal.returns-in-Err
returns-in-Err c g = answer_lacks c.args.slot.now.layout c.args.slot.now.bytes.now c.args.name.now c.in-Some.ensures g (sym c.in-Err.is ∙ c.range.ensures)

pub returns : goal.returns
returns c g =
    let y = c.args.slot.now.layout in let xs = c.args.slot.now.bytes.now in let n = c.args.name.now in
    answer_held y xs n c.in-Some.ensures g (by_digits y xs n c.in-Some.ensures g c.in_default-range.ensures) _ c.requires c.held_in.ensures.0 c.held_in.ensures.1
