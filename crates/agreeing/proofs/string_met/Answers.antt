-- `string_met` meets its contract: up to a leaf, and then the cell on top of the stack.
use Rattle.model.proofs.Prelude.{◌∙◌, refl, rules, sym}
use Rattle.agreeing.specs.Ways.{goes}
use Rattle.agreeing.proofs.Ways.{goes_to, met_on, met_room, top_room}
use Rattle.agreeing.proofs.string_met.Goals as goal

pub bounds-stack-top : goal.bounds-stack-top
bounds-stack-top c = search (rules, top_room _ _ _ (goes_to c.in_ok-leaf.was c.entered.ensures).0 c.if-leaf-eq0.false)

pub returns : goal.returns
returns c =
    let n = c.number_at in let d = c.digit_at in let r = c.side_at in
    let R = goes_to c.in_ok-leaf.was c.entered.ensures in
    goes (met_room _ _ _ R.0 c.args.number r.result (search rules))
    (met_on _ _ _ c.args.slot c.args.number _ _ r.result (search rules) (search rules) c.if-leaf-eq0.false
    refl (sym d.ensures ∙ c.if-digit_at-x.false) (sym n.ensures.0 ∙ c.if-number_at-number.false) r.ensures R.1)
