-- `Key::is_below` meets its contract.
use Rattle.model.proofs.Prelude.{arith, le-ltb, lt-ltb, sym}
use Rattle.digits.proofs.Laws.{below_last, lt_first, lt_second}
use Rattle.digits.specs.Keys.{key_value}
use Rattle.digits.proofs.Key.is_below.Goals as goal

pub returns-then-self-other : goal.returns-then-self-other
returns-then-self-other c =
    let x = c.args.self in let y = c.args.other in
    sym (lt-ltb (key_value x) (key_value y) (lt_first x y (omega arith) (omega arith) (omega arith)))

pub returns-then-other-self : goal.returns-then-other-self
returns-then-other-self c =
    let x = c.args.self in let y = c.args.other in
    let h = lt_first y x (omega arith) (omega arith) (omega arith) in
    sym (le-ltb (key_value x) (key_value y) (omega arith))

pub returns-then-self-other-2 : goal.returns-then-self-other-2
returns-then-self-other-2 c =
    let x = c.args.self in
    let y = c.args.other in
    sym (lt-ltb (key_value x) (key_value y) (lt_second x y (omega arith) (omega arith) (omega arith)))

pub returns-then-other-self-2 : goal.returns-then-other-self-2
returns-then-other-self-2 c =
    let x = c.args.self in
    let y = c.args.other in
    let h = lt_second y x (omega arith) (omega arith) (omega arith) in
    sym (le-ltb (key_value x) (key_value y) (omega arith))

pub returns : goal.returns
returns c =
    let x = c.args.self in
    let y = c.args.other in
    below_last x y (omega arith) (omega arith)
