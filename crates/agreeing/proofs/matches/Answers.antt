-- `matches` meets its contract: the pass, over an image that begins and ends as one must.
use Rattle.model.proofs.Prelude.{◌∙◌, arith, clash, rules, sym}
use Rattle.agreeing.proofs.Agreeing.{passing_told}
use Rattle.agreeing.proofs.matches.Goals as goal
use Rattle.agreeing.proofs.matches.Goals.{else-cells-gt0, then-cells-gt0+else-first-ne0}

pub returns-then-cells-gt256 : goal.returns-then-cells-gt256
returns-then-cells-gt256 c e = clash cc

pub returns-then-first-ne0 : goal.returns-then-first-ne0
returns-then-first-ne0 c e = clash cc

pub returns-then-not-is_clear_past : goal.returns-then-not-is_clear_past
returns-then-not-is_clear_past c e = clash cc

pub returns : goal.returns
returns c = λ e.
    let a = c.args in let cells = c.count_of-cells in let first = c.first_of-first in let clear = c.is_clear_past in
    passing_told a.file.now a.size a.order.now a.count c.requires.0 a.image.now cells.result first.result cells.ensures first.ensures.0 (search rules)
    (λ h. elim c.if-cells-gt0.branch [
      | then-cells-gt0+else-first-ne0 p ↦ p.if-first-ne0.false
      | else-cells-gt0 n ↦ absurd (omega (arith, n.if-cells-gt0.false))
    ]) (sym clear.ensures ∙ c.if-not-is_clear_past.false)
    (rw c.root_of.ensures.0 at (c.is_passing.ensures e))
