-- `slots::name_in` meets its contract.
use Rattle.model.proofs.Prelude.{List, ◌*◌, ◌+◌, ◌-◌, ◌∙◌, ◌≡◌, ap, ap₂, arith, drop, length-drop, length-take-le, take, ℕ}
use Rattle.slots.proofs.name_in.Goals as goal

pub returns : goal.returns
returns c =
    let w = c.entry_at-at in let r = c.first-row in let a = c.args in
    let k : w.result + 24 - w.result ≡ 24 = omega arith in
    let size = length-take-le 24 (drop w.result r.result.bytes.now) (omega (arith, length-drop w.result r.result.bytes.now, w.ensures.whole (omega arith), r.result.fits, r.result.sized.0)) in
    let at = w.ensures.is ∙ ap (λ (n : ℕ). n * a.i) r.ensures.1 in
    rw k (size, ap₂ (λ (n : ℕ) (xs : List ℕ). take 24 (drop n xs)) at r.ensures.0)
