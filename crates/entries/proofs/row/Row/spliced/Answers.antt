-- `Row::spliced` meets its contract.
use Rattle.entries.proofs.Products.{room_most}
use Rattle.entries.proofs.Splices.{splice_copies}
use Rattle.entries.proofs.row.Row.spliced.Goals as goal

pub returns : goal.returns
returns c =
    let a = c.args in let r = a.self.now in
    splice_copies r.e r.count a.i a.taken r.bytes.now a.middle.now r.fits c.requires.1
    c.entry_at-at.result c.entry_at-next.result c.entry_at-end.result c.copy.new.d c.copy-2.new.d c.copy-3.new.d
    c.entry_at-at.ensures.is c.entry_at-next.ensures.is c.entry_at-end.ensures.is (room_most r.e r.count r.sized.1 c.requires.0) c.requires.2
    c.copy.ensures c.copy-2.ensures c.copy-3.ensures
