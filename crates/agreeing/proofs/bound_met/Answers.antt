-- `bound_met` meets its contract: at each turn the beginnings longer than `len` digits are met.
use Rattle.model.proofs.Prelude.{◌-◌, ◌≡◌, arith, eq-eqb, length, rules, refl}
use Rattle.agreeing.specs.Ways.{goes}
use Rattle.agreeing.proofs.Ways.{bound_on, goes_to, left_next, onward_none}
use Rattle.agreeing.proofs.bound_met.Goals as goal

pub loop-len-init : goal.loop-len-init
loop-len-init c =
    let x = c.args.x.now in
    (search rules, rw (eq-eqb (length x) (length x) refl), search rules, c.requires.1, onward_none (length x - length x) (omega arith))

pub string_met-requires : goal.string_met-requires
string_met-requires c =
    let l = c.loop-len in
    (search rules, l.invariant.3, search rules, search rules)

pub loop-len-preserved : goal.loop-len-preserved
loop-len-preserved c =
    let l = c.loop-len in let a = c.args in let m = c.string_met in let w = c.in_ok-here.was in (
      search rules,
      left_next a.x.now a.slot a.next l.len (search rules) (search rules),
      search rules,
      (goes_to w m.ensures).0,
      bound_on a.x.now a.slot a.next l.len (search rules) (search rules) l.invariant.1 refl refl l.invariant.4 (goes_to w m.ensures).1,
    )

pub returns : goal.returns
returns c =
    let l = c.loop-len in let a = c.args in
    let e : l.len ≡ a.shared = search rules in
    goes l.invariant.3 (rw e at l.invariant.4)
