-- `write_head` writes four bytes, and no cell.
use Rattle.model.proofs.Prelude.{◌∙◌, ap, arith, List, sets, ℕ}
use Rattle.image.specs.Images.{pair_bytes, trie_from}
use Rattle.image.proofs.Imaging.{head_written}
use Rattle.image.proofs.write_head.Goals as goal

pub returns : goal.returns
returns c =
    let a = c.args in
    ap trie_from (c.write_pair-2.ensures ∙ ap (λ (xs : List ℕ). sets xs 2 (pair_bytes a.first)) c.write_pair.ensures)
    ∙ head_written a.image.now _ _ _ _ (omega arith) (omega arith) (omega arith)
