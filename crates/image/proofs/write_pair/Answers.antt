-- `write_pair` makes the two stores at once.
use Rattle.model.proofs.Prelude.{◌∙◌, arith}
use Rattle.image.proofs.Coding.{both_written}
use Rattle.image.proofs.write_pair.Goals as goal

pub returns : goal.returns
returns c =
    let a = c.args in
    both_written a.at _ a.x a.image.now _ (omega arith) (omega arith) (c.copy_from_slice.ensures.after ∙ c.to_le_bytes.ensures) (omega arith)
