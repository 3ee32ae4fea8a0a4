-- `bucket::bound_at` meets its contract.
use Rattle.model.proofs.Prelude.{arith, get_or, refl}
use Rattle.bucket.proofs.Parts.{bound_none, bound_read}
use Rattle.bucket.proofs.bound_at.Goals as goal

pub returns-then-len-gt24 : goal.returns-then-len-gt24
returns-then-len-gt24 c =
    let a = c.args in
    bound_none a.k a.at (get_or a.slot.now a.k 0) a.slot.now refl c.if-len-gt24.true

pub returns : goal.returns
returns c =
    let a = c.args in
    bound_read a.k a.at (get_or a.slot.now a.k 0) a.slot.now refl (omega arith)
