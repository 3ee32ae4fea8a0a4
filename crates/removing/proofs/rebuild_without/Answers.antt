-- `rebuild_without` meets its contract: the strings are given, since a merge leaves no more than there were.
use Rattle.model.proofs.Prelude.{arith}
use Rattle.removing.proofs.Removing.{left_there, rebuild_told}
use Rattle.removing.proofs.rebuild_without.Goals as goal

pub strings_of-requires : goal.strings_of-requires
strings_of-requires c =
    (c.requires.sized, c.leave_out.ensures.0 _ c.requires.slots_inside, omega (arith, c.requires.count_most))

pub unwrap-strings-requires : goal.unwrap-strings-requires
unwrap-strings-requires c = left_there c.args.checked c.args.file.now _ c.requires c.leave_out.ensures.2 c.strings_of.ensures

pub returns : goal.returns
returns c L =
    rebuild_told c.args.checked c.args.file.now _ L c.leave_out.ensures.2 (rw c.unwrap-strings.ensures at c.strings_of.ensures) c.rebuild.ensures
