-- `digits::compared` meets its contract.
use Rattle.model.proofs.Prelude.{arith, ⊎_elim}
use Rattle.digits.proofs.Laws.{within_all, within_none, within_there}
use Rattle.digits.proofs.compared.Goals as goal

pub returns-then-p-first : goal.returns-then-p-first
returns-then-p-first c =
    let s = c.shared-first in let a = c.args in
    (⊎_elim (λ h. within_all a.name.now a.p.now s.result s.ensures.2 h) (λ h. within_none a.name.now a.p.now s.result s.ensures.2 h.1) c.then-p-first.either, s.ensures.2)

pub returns : goal.returns
returns c =
    let s = c.shared-first in let a = c.args in
    (within_there a.name.now a.p.now s.result s.ensures.2 (omega arith) (omega arith), s.ensures.2)
