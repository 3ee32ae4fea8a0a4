-- `slots::whole` meets its contract.
use Rattle.model.proofs.Prelude.{◌+◌, arith}
use Rattle.entries.proofs.Products.{stands}
use Rattle.slots.proofs.whole.Goals as goal

pub invariant_of-result-clause-fits : goal.invariant_of-result-clause-fits
invariant_of-result-clause-fits c =
    let e = c.entry_size in let b = c.args.layout.b in
    omega (arith, (stands e.result 0 (b + 1) (omega arith) (omega arith) e.ensures.1.most).most)
