-- `header_of` meets its contract: the length, the mark and the sizes are those of the header that is right.
use Rattle.model.proofs.Prelude.{◌∙◌, arith, refl, sym}
use Rattle.file.proofs.Headers.{ill_marked, told, too_short}
use Rattle.file.proofs.header_of.Goals as goal

pub returns-then-file-lt16 : goal.returns-then-file-lt16
returns-then-file-lt16 c = too_short c.args.file.now (omega arith)

pub returns-then-not-is_marked : goal.returns-then-not-is_marked
returns-then-not-is_marked c =
    ill_marked c.args.file.now (sym c.is_marked.ensures ∙ c.if-not-is_marked.true)

pub returns : goal.returns
returns c =
    told c.args.file.now c.sizes.result _ _
    (sym c.is_marked.ensures ∙ c.if-not-is_marked.false)
    c.layout_of.ensures refl c.sizes.ensures
