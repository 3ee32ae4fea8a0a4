-- `slots::written` meets its contract.
use Rattle.model.proofs.Prelude.{arith}
use Rattle.model.proofs.Format.{bytes_each}
use Rattle.slots.proofs.Slots.{written_copies}
use Rattle.slots.proofs.written.Goals as goal

pub returns : goal.returns
returns c =
    let a = c.args in (
      written_copies a.lower.now a.upper.now a.entries.now c.copy.new.d c.copy-2.new.d c.copy-3.new.d a.count
          (omega arith) (omega arith) (omega arith) c.copy.ensures c.copy-2.ensures c.copy-3.ensures,
      bytes_each a.entries.now (λ i. omega (arith, c.type_inv.entries i)),
    )
