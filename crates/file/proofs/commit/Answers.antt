-- `commit` meets its contract: at each turn the file is that of the first `made` stores (proofs/Committing.antt).
use Rattle.model.proofs.Prelude.{◌∙◌, arith, refl}
use Rattle.file.proofs.Committing.{made_all, made_first, made_none, made_second, made_stopped}
use Rattle.file.proofs.commit.Goals as goal
use Rattle.file.proofs.commit.Goals.{then-made-eq0, else-made-eq0}

pub loop-made-init : goal.loop-made-init
loop-made-init c =
    let a = c.args in
    (refl, omega arith, made_none a.size.layout a.plan a.file.now)

pub returns-then-limit-made : goal.returns-then-limit-made
returns-then-limit-made c =
    let a = c.args in let l = c.loop-made in
    made_stopped a.size.layout a.plan a.file.now a.limit l.made l.file l.invariant.1 l.invariant.2 c.loop-made-test.true c.if-limit-made.true

pub store-requires : goal.store-requires
store-requires c =
    let l = c.loop-made in
    (rw l.invariant.0 c.requires.0, c.requires.1.0)

pub store-requires-else-made-eq0 : goal.store-requires-else-made-eq0
store-requires-else-made-eq0 c =
    let l = c.loop-made in
    (rw l.invariant.0 c.requires.0, c.requires.1.1)

pub loop-made-preserved : goal.loop-made-preserved
loop-made-preserved c =
    let l = c.loop-made in let a = c.args in
    elim c.if-made-eq0.branch [
      | then-made-eq0 w ↦ (
        c.if-made-eq0.auto.file ∙ l.invariant.0,
        omega arith,
        made_first a.size.layout a.plan a.file.now l.made l.file _ c.loop-made-test.true l.invariant.2 (omega (arith, w.if-made-eq0.true)) (w.file-is ∙ w.store.ensures.1),
      )
      | else-made-eq0 w ↦ (
        c.if-made-eq0.auto.file ∙ l.invariant.0,
        omega arith,
        made_second a.size.layout a.plan a.file.now l.made l.file _ c.loop-made-test.true l.invariant.2 (λ q. w.if-made-eq0.false (omega (arith, q))) (w.file-is ∙ w.store-else-made-eq0.ensures.1),
      )
    ]

pub returns : goal.returns
returns c =
    let a = c.args in let l = c.loop-made in
    made_all a.size.layout a.plan a.file.now a.limit l.made l.file l.invariant.1 l.invariant.2 (omega arith)
