-- `pass` meets its contract: at each turn the pass from there on ends as the whole does (proofs/States.antt).
use Rattle.model.proofs.Prelude.{◌∙◌, arith, refl, sym}
use Rattle.model.specs.declared.Side.TheVariants.{Cell as further}
use Rattle.image.specs.Images.{trie_from}
use Rattle.image.proofs.Images.{cell_of}
use Rattle.agreement.proofs.States.{ended, entered_at, left, no_room, not_digit, not_least, not-length, not_new, started}
use Rattle.agreement.proofs.pass.Goals as goal

pub loop-place-init : goal.loop-place-init
loop-place-init c = started (trie_from c.args.image.now).cells c.args.strings.now (further 0) c.args.strings.now.few

pub returns-then-top-eq0 : goal.returns-then-top-eq0
returns-then-top-eq0 c = ended c.loop-place.invariant c.in-Slot.is c.then_some.ensures c.if-top-eq0.true c.if-s-strings.false

pub returns-then-n-strings : goal.returns-then-n-strings
returns-then-n-strings c =
    not-length c.loop-place.invariant c.in-Slot.is c.if-top-eq0.false refl (c.cell_at-cell.ensures.value ∙ sym (cell_of c.args.image.now _ (omega arith)))
    (λ q. c.if-n-strings.true (omega (arith, q)))

pub returns-then-cell-strings : goal.returns-then-cell-strings
returns-then-cell-strings c =
    not_digit c.loop-place.invariant c.in-Slot.is c.if-top-eq0.false refl (c.cell_at-cell.ensures.value ∙ sym (cell_of c.args.image.now _ (omega arith))) c.if-cell-strings.true

pub returns-then-places-k-ne-NOWHERE : goal.returns-then-places-k-ne-NOWHERE
returns-then-places-k-ne-NOWHERE c =
    not_new c.loop-place.invariant c.in-Slot.is c.if-top-eq0.false refl (omega arith) c.if-places-k-ne-NOWHERE.true

pub loop-place-preserved-in-Slot : goal.loop-place-preserved-in-Slot
loop-place-preserved-in-Slot c =
    left c.loop-place.invariant c.in-Slot.is c.if-top-eq0.false refl (c.cell_at-cell.ensures.value ∙ sym (cell_of c.args.image.now _ (omega arith))) (omega arith)
    c.if-s-strings.false (omega (arith, c.if-n-strings.false)) c.if-cell-strings.false c.if-places-k-ne-NOWHERE.false

pub returns-then-count-entered : goal.returns-then-count-entered
returns-then-count-entered c = no_room c.loop-place.invariant c.in-Cell.is c.if-count-entered.true

pub returns-then-n-least : goal.returns-then-n-least
returns-then-n-least c =
    let S = c.loop-place.invariant in
    not_least S c.in-Cell.is refl (c.cell_at-cell-in-Cell.ensures.value ∙ sym (cell_of c.args.image.now _ (omega (arith, S.room, c.if-count-k.false)))) (omega (arith, c.if-n-least.true))

pub loop-place-preserved : goal.loop-place-preserved
loop-place-preserved c =
    let S = c.loop-place.invariant in
    entered_at S c.in-Cell.is refl (c.cell_at-cell-in-Cell.ensures.value ∙ sym (cell_of c.args.image.now _ (omega (arith, S.room, c.if-count-k.false))))
    c.if-count-entered.false c.if-count-k.false (omega (arith, c.if-n-least.false))
