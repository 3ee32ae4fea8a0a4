-- `digits::filled` meets its contract.
use Rattle.model.proofs.Prelude.{arith}
use Rattle.digits.proofs.Laws.{filled_most, filled_to}
use Rattle.digits.proofs.filled.Goals as goal

pub returns : goal.returns
unfolding filled_to
returns c =
    rw c.copy_from_slice.ensures.after (filled_most c.args.name.now c.min-count.result (omega arith) (omega arith) (λ h. omega arith))
