-- `Row::up_to` meets its contract.
use Rattle.model.proofs.Prelude.{◌*◌, ◌+◌, ◌-◌, ◌∙◌, ◌≡◌, ap, arith, drop, false, sym, take, true, ℕ}
use Rattle.digits.specs.Keys.{key_value, value}
use Rattle.entries.specs.Rows.{last_of, values}
use Rattle.entries.proofs.Searches.{last_found, last_less, last_none}
use Rattle.entries.proofs.row.Row.up_to.Goals as goal

pub returns-then-passes-clause-last : goal.returns-then-passes-clause-last
returns-then-passes-clause-last g c t h =
    let a = c.args in let xs = a.self.now.bytes.now in let j = c.loop-i.i - 1 in
    let k : key_value c.name_at.result ≡ value (take 24 (drop (a.self.now.e * j) xs)) = c.name_at.ensures in
    let p : t (value (take 24 (drop (a.self.now.e * j) xs))) ≡ true = ap t (sym k) ∙ sym (h _ _ c.passes.ensures) ∙ c.if-passes.true in
    let q : c.loop-i.i ≡ j + 1 = omega arith in
    sym (c.loop-i.invariant t h ∙ ap (λ (n : ℕ). last_of t (values a.self.now.e n xs)) q ∙ last_found t a.self.now.e j xs p)

pub loop-i-preserved : goal.loop-i-preserved
loop-i-preserved g c t h =
    let a = c.args in let xs = a.self.now.bytes.now in let j = c.loop-i.i - 1 in
    let k : key_value c.name_at.result ≡ value (take 24 (drop (a.self.now.e * j) xs)) = c.name_at.ensures in
    let p : t (value (take 24 (drop (a.self.now.e * j) xs))) ≡ false = ap t (sym k) ∙ sym (h _ _ c.passes.ensures) ∙ c.if-passes.false in
    let q : c.loop-i.i ≡ j + 1 = omega arith in
    c.loop-i.invariant t h ∙ ap (λ (n : ℕ). last_of t (values a.self.now.e n xs)) q ∙ last_less t a.self.now.e j xs p

pub returns-clause-last : goal.returns-clause-last
returns-clause-last g c t h = sym (c.loop-i.invariant t h ∙ last_none t c.args.self.now.e c.loop-i.i c.args.self.now.bytes.now (omega arith))
