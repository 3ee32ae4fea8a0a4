-- `digits::is_bound` meets its contract.
use Rattle.model.proofs.Prelude.{◌-◌, ◌∙◌, ap, arith, drop, le-leb, length, length-drop, lt-leb, sub-zero, take_all}
use Rattle.digits.specs.Keys.{is_all_zero}
use Rattle.digits.proofs.Laws.{legal_part}
use Rattle.digits.proofs.is_bound.Goals as goal

pub returns-then-len-gt24 : goal.returns-then-len-gt24
returns-then-len-gt24 c =
    let s = c.args.s.now in let len = c.args.len in
    rw (lt-leb len 24 c.if-len-gt24.true)

pub returns-then-not-are_digits : goal.returns-then-not-are_digits
returns-then-not-are_digits c =
    let s = c.args.s.now in let len = c.args.len in
    let e = simp sub-zero at c.are_digits.ensures in
    rw (le-leb len 24 (omega arith), legal_part len s (omega arith), ← e, c.if-not-are_digits.true)

pub returns : goal.returns
returns c =
    let s = c.args.s.now in
    let len = c.args.len in
    let e = simp sub-zero at c.are_digits.ensures in
    rw (le-leb len 24 (omega arith), legal_part len s (omega arith), ← e, c.if-not-are_digits.false)
    (c.is_zero.ensures ∙ ap is_all_zero (take_all (length s - len) (drop len s) (omega (arith, length-drop len s))))
