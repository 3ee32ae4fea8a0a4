-- `Row::is_copied` meets its contract.
use Rattle.model.proofs.Prelude.{◌*◌, ◌-◌, ◌≡◌, ◌≤◌, drop}
use Rattle.entries.specs.Rows.{are_among, pieces}
use Rattle.entries.proofs.row.Row.is_copied.Given as goal

abbrev pub invariant-loop-j : goal.invariant-loop-j
invariant-loop-j l = (l.i ≤ l.j) × (l.i ≤ l.self.count)
    × (are_among (pieces l.self.e l.second.count l.second.bytes.now) (pieces l.self.e l.self.count l.self.bytes.now) ≡ are_among (pieces l.self.e (l.second.count - l.j) (drop (l.self.e * l.j) l.second.bytes.now)) (pieces l.self.e (l.self.count - l.i) (drop (l.self.e * l.i) l.self.bytes.now)))
