-- `is_chain` meets its contract: where the slots seen so far end, the next has to begin.
use Rattle.model.proofs.Prelude.{List, ◌<◌, ◌^◌, take}
use Rattle.model.specs.Files.{Slot}
use Rattle.digits.specs.Keys.{key_value}
use Rattle.file.specs.Orders.{Known, Listed}
use Rattle.file.proofs.Chains.{Ended}
use Rattle.file.proofs.survey.is_chain.Given as goal

abbrev pub invariant-loop-j : goal.invariant-loop-j
invariant-loop-j l = (l.end.b < 2 ^ 64) × (l.end.c < 2 ^ 64) × ((fs : List Slot) → Known l.size.layout l.file fs → Listed fs l.order l.count → Ended fs (take l.count l.order) l.j (key_value l.end))
