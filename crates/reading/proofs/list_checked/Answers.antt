-- `list_checked` meets its contract: the buckets from the first name's to the second's have all that is to be listed.
use Rattle.model.proofs.Prelude.{arith}
use Rattle.model.proofs.Format.{bytes_each}
use Rattle.checking.proofs.Ready.{ready_ordered}
use Rattle.reading.proofs.Listing.{list_all, list_short}
use Rattle.reading.proofs.list_checked.Goals as goal

pub returns-then-output-len : goal.returns-then-output-len
returns-then-output-len c R f g =
    let a = c.args in
    let O = ready_ordered R R.is in
    let P = c.holder.ensures.found R.slots O f in
    let Q = c.holder-2.ensures.found R.slots O g in
    let w = bytes_each a.file.now (λ i. omega (arith, c.type_inv.file i)) in
    list_short _ c.len-len.ensures.1 O w a.first.now a.second.now f g P Q c.requires.1 c.requires.2 a.output.now (omega (arith, c.if-output-len.true))

pub write-requires : goal.write-requires
write-requires c = (omega (arith, c.len-len.ensures.1, c.if-output-len.false), omega (arith, c.len-len.ensures.0, c.len-len.ensures.1))

pub returns : goal.returns
returns c R f g =
    let a = c.args in
    let O = ready_ordered R R.is in
    let P = c.holder.ensures.found R.slots O f in
    let Q = c.holder-2.ensures.found R.slots O g in
    let w = bytes_each a.file.now (λ i. omega (arith, c.type_inv.file i)) in
    list_all _ c.len-len.ensures.1 O w a.first.now a.second.now f g P Q c.requires.1 c.requires.2 a.output.now (omega (arith, c.if-output-len.false)) c.write.ensures c.entries_in.ensures
