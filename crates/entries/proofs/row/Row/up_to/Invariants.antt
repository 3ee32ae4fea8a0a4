-- `Row::up_to` meets its contract: the names behind do not pass.
use Rattle.model.proofs.Prelude.{Bool, ◌≡◌, ℕ}
use Rattle.digits.specs.declared.Key.{Key}
use Rattle.digits.specs.Keys.{key_value}
use Rattle.entries.specs.Rows.{last_of, values}
use Rattle.entries.proofs.row.Row.up_to.Given as goal

abbrev pub invariant-loop-i : goal.invariant-loop-i
invariant-loop-i g l =
    (t : ℕ → Bool) → ((k : Key) (r : Bool) → goal.F-post g l.passes k r → r ≡ t (key_value k)) → last_of t (values l.self.e l.self.count l.self.bytes.now) ≡ last_of t (values l.self.e l.i l.self.bytes.now)
