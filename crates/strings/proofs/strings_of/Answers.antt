-- `strings_of` meets its contract: at each turn there are the strings that come before a bucket's upper (proofs/Listing.antt).
use Rattle.model.proofs.Prelude.{◌-◌, ◌∙◌, ap, arith, rules, refl}
use Rattle.bucket.specs.Slots.{upper_bytes}
use Rattle.strings.proofs.Listing.{goes_end, goes_many, goes_none, goes_start, goes_step}
use Rattle.strings.proofs.strings_of.Goals as goal

pub loop-j-init : goal.loop-j-init
loop-j-init c =
    let a = c.args in
    (omega arith, record { lens_whole = refl; digits_whole = refl; slots_whole = refl }, goes_start a.file.now a.order.now a.size a.count _ _ _)

pub slot_at-requires : goal.slot_at-requires
slot_at-requires c = (c.requires.0, c.requires.1 (c.loop-j.j - 1))

pub slot_at-requires-in-loop-j : goal.slot_at-requires-in-loop-j
slot_at-requires-in-loop-j c = (c.requires.0, c.requires.1 c.loop-j.j)

pub returns-then-shared-strings : goal.returns-then-shared-strings
returns-then-shared-strings c =
    let l = c.loop-j in
    let x_is = c.upper-x.ensures.0 ∙ ap upper_bytes c.slot_at.ensures.0 in
    let y_is = c.upper-y.ensures.0 ∙ ap upper_bytes c.slot_at-in-loop-j.ensures.0 in
    goes_many c.args.file.now c.args.order.now c.args.size c.args.count c.requires.1 l.j _ _ c.shared-shared.result _ _ l.invariant.0 c.loop-j-test.true
    refl refl x_is y_is c.shared-shared.ensures.2 l.strings l.invariant.2 c.if-shared-strings.true

pub add-requires : goal.add-requires
add-requires c = (search rules, search rules, search rules, c.loop-j.invariant.1)

pub loop-j-preserved : goal.loop-j-preserved
loop-j-preserved c =
    let l = c.loop-j in
    let x_is = c.upper-x.ensures.0 ∙ ap upper_bytes c.slot_at.ensures.0 in
    let y_is = c.upper-y.ensures.0 ∙ ap upper_bytes c.slot_at-in-loop-j.ensures.0 in
    let a = c.add.ensures in (
      search rules,
      a.whole,
      goes_step c.args.file.now c.args.order.now c.args.size c.args.count c.requires.1 l.j _ _ c.shared-shared.result _ _ l.invariant.0 c.loop-j-test.true
          refl refl x_is y_is c.shared-shared.ensures.2 l.strings l.invariant.2 _ a,
    )

pub end_with-requires : goal.end_with-requires
end_with-requires c = c.loop-j.invariant.1

pub returns-then-count-gt0 : goal.returns-then-count-gt0
returns-then-count-gt0 c =
    let l = c.loop-j in
    goes_end c.args.file.now c.args.order.now c.args.size c.args.count l.strings l.j _ l.strings.few l.invariant.1.slots_whole
    c.loop-j-test.false c.if-count-gt0.true refl l.invariant.2 _ c.end_with.ensures

pub returns-else-count-gt0 : goal.returns-else-count-gt0
returns-else-count-gt0 c =
    goes_none c.args.file.now c.args.order.now c.args.size c.args.count _ c.if-count-gt0.false
