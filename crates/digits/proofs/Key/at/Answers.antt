-- `Key::at` meets its contract.
use Rattle.model.proofs.Prelude.{arith, sym}
use Rattle.digits.specs.Keys.{key_value}
use Rattle.digits.proofs.Keys.{value_words}
use Rattle.digits.proofs.Key.at.Goals as goal

pub returns : goal.returns
unfolding key_value
returns c =
    let s = c.args.s.now in let at = c.args.at in
    rw (c.word-3.ensures, c.word-2.ensures, c.word.ensures) (sym (value_words s at (omega arith)))
