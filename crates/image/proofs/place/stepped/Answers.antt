-- `stepped` meets its contract: each way to go on, or not, is the definition's.
use Rattle.model.proofs.Prelude.{ap, arith, get_or, sym, ℕ}
use Rattle.model.specs.Tries.{at_cell}
use Rattle.image.specs.Images.{trie_from}
use Rattle.image.proofs.Courses.{above_goes, apart_goes, below_goes, last_strays, number_strays, on_goes, within_same}
use Rattle.image.proofs.place.stepped.Goals as goal

pub returns-then-number-gt23 : goal.returns-then-number-gt23
returns-then-number-gt23 c =
    let u = c.number_at-number.ensures.0 in let a = c.args in
    λ o cs count more i h f w. last_strays a.name.now (at_cell (trie_from a.image.now).cells a.i) a.len a.same o cs count more i h f w (omega (arith, u))

pub returns-then-len-number : goal.returns-then-len-number
returns-then-len-number c =
    let u = c.number_at-number.ensures.0 in let a = c.args in
    λ o cs count more i h f w. number_strays a.name.now (at_cell (trie_from a.image.now).cells a.i) a.len a.same o cs count more i h f w (omega (arith, u))

pub returns-then-same-number : goal.returns-then-same-number
returns-then-same-number c =
    let u = c.number_at-number.ensures.0 in let a = c.args in let e = c.turned.ensures in
    λ o cs count more i h f w. apart_goes a.name.now (at_cell (trie_from a.image.now).cells a.i) a.len a.same o cs count more i h f w (omega (arith, u)) (omega (arith, u))
    c.turned.result (omega (arith, u)) (omega (arith, u, e.0)) e.1 e.2

pub returns-then-digit-own : goal.returns-then-digit-own
returns-then-digit-own c =
    let u = c.number_at-number.ensures.0 in let a = c.args in let e = c.turned-then-digit-own.ensures in
    λ o cs count more i h f w. above_goes a.name.now (at_cell (trie_from a.image.now).cells a.i) a.len a.same o cs count more i h f w (within_same w (omega arith) (sym u)) (omega (arith, u))
    c.turned-then-digit-own.result c.told-name (ap (λ (k : ℕ). get_or a.name.now k 0) u) (omega (arith, u)) (omega (arith, c.digit_at-digit.ensures, c.if-digit-own.true)) e.0 e.1 e.2

pub returns-then-own-digit : goal.returns-then-own-digit
returns-then-own-digit c =
    let u = c.number_at-number.ensures.0 in let a = c.args in let e = c.turned-then-own-digit.ensures in
    λ o cs count more i h f w. below_goes a.name.now (at_cell (trie_from a.image.now).cells a.i) a.len a.same o cs count more i h f w (within_same w (omega arith) (sym u)) (omega (arith, u))
    c.turned-then-own-digit.result c.told-name (ap (λ (k : ℕ). get_or a.name.now k 0) u) (omega (arith, u)) (omega (arith, c.digit_at-digit.ensures, c.if-own-digit.true)) (omega (arith, u, e.0)) (omega (arith, u, e.1)) e.2

pub returns : goal.returns
returns c =
    let u = c.number_at-number.ensures.0 in let a = c.args in let e = c.turned-2.ensures in
    λ o cs count more i h f w. on_goes a.name.now (at_cell (trie_from a.image.now).cells a.i) a.len a.same o cs count more i h f w (within_same w (omega arith) (sym u)) (omega (arith, u))
    c.turned-2.result c.told-name (ap (λ (k : ℕ). get_or a.name.now k 0) u) (omega (arith, u)) (omega (arith, c.digit_at-digit.ensures)) (omega (arith, u, e.0)) (omega (arith, u, e.1)) e.2
