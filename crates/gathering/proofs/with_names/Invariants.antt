-- `gathering::with_names` meets its contract.
use Rattle.model.proofs.Prelude.{◌*◌, ◌+◌, ◌-◌, ◌≡◌, ◌≤◌, length}
use Rattle.gathering.proofs.Names.{Grown, Held}
use Rattle.gathering.proofs.with_names.Given as goal

abbrev pub invariant-loop-i : goal.invariant-loop-i
invariant-loop-i l = (l.at + 32 ≤ length l.s) × (length l.most ≡ 32) × (length l.least ≡ 32) × Grown l.s l.at l.i l.initial.most l.initial.least l.most l.least

abbrev pub invariant-loop-k : goal.invariant-loop-k
invariant-loop-k l = (l.at ≡ l.e * l.k) × (length l.most ≡ 32) × (length l.least ≡ 32) × Held l.s l.e l.count l.initial.most l.initial.least l.initial.ascents l.most l.least l.ascents l.last l.at (l.count - l.k)
