-- `slots::name_of` meets its contract.
use Rattle.model.proofs.Prelude.{◌∙◌, arith}
use Rattle.slots.proofs.Halves.{name_copied, name_is}
use Rattle.slots.proofs.name_of.Goals as goal

pub returns : goal.returns
returns c ws r n =
    let w = c.entry_at-at in let e = c.entry_size in let a = c.args in
    name_copied e.result a.i w.result a.row.now _ w.ensures.is (omega (arith, w.ensures.whole (omega arith), w.ensures.most, e.ensures.1.least)) c.copy.ensures
    ∙ rw e.ensures.0 (name_is a.layout a.row.now ws r n a.i c.requires.1)
