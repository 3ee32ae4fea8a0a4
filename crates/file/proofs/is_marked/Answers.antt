-- `is_marked` meets its contract.
use Rattle.model.proofs.Prelude.{◌∙◌, arith, refl, sym}
use Rattle.model.specs.Format.{header_bytes}
use Rattle.file.proofs.Headers.{marked_last, not_marked}
use Rattle.file.proofs.is_marked.Goals as goal

pub returns-then-file-ne84 : goal.returns-then-file-ne84
unfolding header_bytes
returns-then-file-ne84 c = sym (not_marked c.args.file.now 0 _ _ (omega arith) refl c.if-file-ne84.true)

pub returns-then-file-ne75 : goal.returns-then-file-ne75
unfolding header_bytes
returns-then-file-ne75 c = sym (not_marked c.args.file.now 1 _ _ (omega arith) refl c.if-file-ne75.true)

pub returns-then-file-ne70 : goal.returns-then-file-ne70
unfolding header_bytes
returns-then-file-ne70 c = sym (not_marked c.args.file.now 2 _ _ (omega arith) refl c.if-file-ne70.true)

pub returns : goal.returns
returns c =
    c.is_zero.ensures ∙ marked_last c.args.file.now c.requires c.if-file-ne84.false c.if-file-ne75.false c.if-file-ne70.false (omega (arith, c.type_inv.file 3))
