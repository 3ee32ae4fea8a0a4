-- `rebuild` meets its contract: without strings there is no cell, and else the cells are written over zero ones.
use Rattle.model.proofs.Prelude.{arith, refl}
use Rattle.rebuilding.proofs.States.{none_written}
use Rattle.rebuilding.proofs.rebuild.Goals as goal

pub returns-then-strings-eq0 : goal.returns-then-strings-eq0
returns-then-strings-eq0 c =
    let s = c.args.strings.now in
    none_written s.lens s.digits s.slots s.count _ _ c.if-strings-eq0.true refl c.write_cleared.ensures

pub write_cells-requires : goal.write_cells-requires
write_cells-requires c = (omega (arith, c.if-strings-eq0.false), c.write_cleared-2.ensures)
