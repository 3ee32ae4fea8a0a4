-- `rebuild` meets its contract: refused, it writes the new trie, whose cells are all zero.
use Rattle.model.proofs.Prelude.{◌∙◌, sym}
use Rattle.whole.proofs.Rebuilding.{cleared_behind}
use Rattle.whole.proofs.rebuild.Goals as goal

pub returns-then-is_err : goal.returns-then-is_err
returns-then-is_err c =
    cleared_behind _ _ _ _ (sym c.is_err.ensures.value ∙ c.if-is_err.true) c.rebuild_from-answer.ensures c.write_cleared.ensures
