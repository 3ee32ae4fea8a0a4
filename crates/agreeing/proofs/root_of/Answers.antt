-- `root_of` is the side of the root or of the only leaf.
use Rattle.model.proofs.Prelude.{◌≡◌, rules, refl, suc, zero, ℕ}
use Rattle.agreeing.specs.Ways.{root_of}
use Rattle.agreeing.proofs.root_of.Goals as goal

some_cells : (n first : ℕ) → (n ≡ 0 → ⊥) → 65536 ≡ root_of n first
unfolding root_of
some_cells zero first h = absurd (h refl)
some_cells (suc n) first h = refl

pub returns-then-cells-eq0 : goal.returns-then-cells-eq0
unfolding root_of
returns-then-cells-eq0 c = (rw c.if-cells-eq0.true, search rules)

pub returns : goal.returns
returns c = (some_cells c.args.cells c.args.first c.if-cells-eq0.false, search rules)
