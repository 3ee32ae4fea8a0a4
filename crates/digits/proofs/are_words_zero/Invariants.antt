-- `digits::are_words_zero` meets its contract.
use Rattle.model.proofs.Prelude.{◌&&◌, ◌*◌, ◌≡◌, drop, eqb}
use Rattle.digits.specs.Keys.{is_all_zero}
use Rattle.digits.proofs.are_words_zero.Given as goal

abbrev pub invariant-loop-i : goal.invariant-loop-i
invariant-loop-i l = is_all_zero l.s ≡ (eqb l.all 0 && is_all_zero (drop (8 * l.i) l.s))
