-- `Row::joined` meets its contract.
use Rattle.model.proofs.Prelude.{arith}
use Rattle.entries.proofs.Splices.{join_copies}
use Rattle.entries.proofs.row.Row.joined.Goals as goal

pub returns : goal.returns
returns c =
    let r = c.args.self.now in let s = c.args.second.now in
    join_copies r.e r.count s.count r.bytes.now s.bytes.now r.fits (rw c.requires.0 at s.fits) (omega arith) c.entry_at-at.result c.entry_at-end.result
    c.copy.new.d c.copy-2.new.d c.entry_at-at.ensures.is c.entry_at-end.ensures.is c.copy.ensures c.copy-2.ensures
