-- `write_cells` meets its contract: the cells written and those of the stacked runs make the whole (proofs/States.antt).
use Rattle.rebuilding.proofs.States.{Written}
use Rattle.rebuilding.proofs.write_cells.Given as goal

abbrev pub invariant-loop-i : goal.invariant-loop-i
invariant-loop-i l = Written l.strings.lens l.strings.digits l.strings.slots l.strings.count l.image l.runs l.top l.i
