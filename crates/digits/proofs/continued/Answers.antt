-- `digits::continued` meets its contract.
use Rattle.model.proofs.Prelude.{◌+◌, ◌-◌, ◌^◌, ◌∙◌, ◌≡◌, ap, arith, drop, refl, take, ℕ}
use Rattle.digits.proofs.Keys.{bytes_part, length_part, word_filled}
use Rattle.digits.proofs.continued.Goals as goal

pub returns : goal.returns
returns c =
    let s = c.args.s.now in let at = c.args.at in
    let k = c.args.len - (c.args.end - 8) in
    let f = c.fill in let e = c.inside.ensures in
    let g : f.result + 1 ≡ 256 ^ (8 - k) = f.ensures ∙ ap (λ (n : ℕ). 256 ^ n) e.1 in
    λ z.
    word_filled
    (take 8 (drop at s))
    k
    c.word.result
    f.result
    _
    (bytes_part s 8 at (λ i. omega (arith, c.type_inv.s i)))
    (length_part s at 8 (omega arith))
    z
    c.word.ensures
    g
    refl
