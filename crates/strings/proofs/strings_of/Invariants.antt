-- `strings_of` meets its contract: at each turn there are the strings that come before a bucket's upper (proofs/Listing.antt).
use Rattle.model.proofs.Prelude.{◌≤◌}
use Rattle.strings.specs.Arrays.{Whole}
use Rattle.strings.proofs.Listing.{Goes}
use Rattle.strings.proofs.strings_of.Given as goal

abbrev pub invariant-loop-j : goal.invariant-loop-j
invariant-loop-j l = (1 ≤ l.j) × Whole l.strings × Goes l.file l.order l.size l.count l.strings l.j
