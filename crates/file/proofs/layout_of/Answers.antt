-- `layout_of` meets its contract.
use Rattle.model.proofs.Prelude.{◌≡◌, ◌*◌, ◌+◌, arith, get_or}
use Rattle.model.specs.Format.{layout_of}
use Rattle.file.proofs.layout_of.Goals as goal

pub returns : goal.returns
unfolding layout_of
returns c =
    let xs = c.args.file.now in
    let e : c.from_le_bytes.result ≡ get_or xs 3 0 + 256 * get_or xs 4 0 = omega (arith, c.from_le_bytes.ensures) in
    rw e
