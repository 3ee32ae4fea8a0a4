-- `digits::is_zero` meets its contract.
use Rattle.model.proofs.Prelude.{◌*◌, ◌-◌, ◌/◌, ◌∙◌, ap, arith, drop, length, length-drop, sym, take_all}
use Rattle.digits.specs.Keys.{is_all_zero}
use Rattle.digits.proofs.is_zero.Goals as goal

pub returns-then-not-are_words_zero : goal.returns-then-not-are_words_zero
returns-then-not-are_words_zero c = sym (c.are_words_zero.ensures ∙ rw c.if-not-are_words_zero.true)

pub returns : goal.returns
returns c =
    let s = c.args.s.now in let n = 8 * (length s / 8) in let all = c.are_words_zero in
    c.are_zero.ensures ∙ ap is_all_zero (take_all (length s - n) (drop n s) (omega (arith, length-drop n s)))
    ∙ sym (all.ensures ∙ rw c.if-not-are_words_zero.false)
