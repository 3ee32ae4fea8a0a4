-- `place_of` meets its contract: none before has so many digits.
use Rattle.model.proofs.Prelude.{◌<◌, ◌≡◌, ◌≤◌, get_or, ℕ}
use Rattle.growth.proofs.place_of.Given as goal

abbrev pub invariant-loop-i : goal.invariant-loop-i
invariant-loop-i l = (j : ℕ) → j < l.i → l.from ≤ j → get_or l.lens j 0 ≡ l.digits → ⊥
