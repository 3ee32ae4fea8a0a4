-- `Row::is_at` meets its contract.
use Rattle.model.proofs.Prelude.{◌∙◌, ap, arith, eqb, le-ltb, lt-ltb, ℕ}
use Rattle.digits.specs.Keys.{key_value}
use Rattle.digits.proofs.Laws.{same_words}
use Rattle.entries.specs.Rows.{is_at}
use Rattle.entries.proofs.row.Row.is_at.Goals as goal

pub returns-then-i-self : goal.returns-then-i-self
unfolding is_at
returns-then-i-self c =
    let a = c.args in let v = key_value a.name in
    rw (lt-ltb a.i a.self.now.count (omega arith)) (c.eq.ensures ∙ same_words c.name_at.result a.name (omega arith) (omega arith) (omega arith) (omega arith) ∙ ap (λ (w : ℕ). eqb w v) c.name_at.ensures)

pub returns-else-i-self : goal.returns-else-i-self
unfolding is_at
returns-else-i-self c = let a = c.args in rw (le-ltb a.i a.self.now.count (omega arith))
