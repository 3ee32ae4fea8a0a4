-- `number_of` is the writer's number of a side.
use Rattle.model.proofs.Prelude.{◌∙◌, ap, arith, sym}
use Rattle.image.specs.Images.{number_of_side}
use Rattle.image.proofs.Coding.{number_cell, number_slot}
use Rattle.image.proofs.number_of.Goals as goal

pub returns-in-Slot : goal.returns-in-Slot
returns-in-Slot c = number_slot _ ∙ ap number_of_side (sym c.in-Slot.is)

pub returns-in-Cell : goal.returns-in-Cell
returns-in-Cell c = number_cell _ _ (omega arith) (omega arith) c.wrapping_neg.ensures ∙ ap number_of_side (sym c.in-Cell.is)
