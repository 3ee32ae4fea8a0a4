-- `root_of` meets its contract: it goes back from the last of the shortest strings, half as many as there are (proofs/Finding.antt).
use Rattle.model.proofs.Prelude.{◌-◌}
use Rattle.rebuilding.proofs.Finding.{Back}
use Rattle.rebuilding.proofs.root_of.Given as goal

abbrev pub invariant-loop : goal.invariant-loop
invariant-loop l = Back l.lens l.from l.to l.root (l.steps - l.counter)
