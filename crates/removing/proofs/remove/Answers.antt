-- `remove` meets its contract: what is refused, and what is left of a plan that is committed.
use Rattle.model.proofs.Prelude.{arith}
use Rattle.model.proofs.Format.{bytes_each}
use Rattle.model.proofs.Names.{is_legal_name_legal}
use Rattle.checking.proofs.Laws.{error_is, lacking, naming_illegal, naming_legal, there}
use Rattle.removing.proofs.Removing.{Prepared, file_refused, freed_left, left_absent, left_merged, left_removed, left_stopped, limit_refused, name_refused}
use Rattle.removing.proofs.remove.Goals.{After-remove_plan}
use Rattle.removing.proofs.remove.Goals as goal

prepared : (c : After-remove_plan) →
    let a = c.args in
    Prepared a.file.now a.image.now a.name.now a.limit c.in_ok-checked.checked c.remove_plan.result
prepared c =
    let a = c.args in
    record {
      bytes = bytes_each a.file.now (λ j. omega (arith, c.slice_known-1.given j));
      allowed = omega (arith, c.if-limit-gt2.false);
      legal = (naming_legal c.naming_of.result a.name.now _ c.naming_of.ensures (there c.ok_or.ensures.ok_part c.in_ok-key.was)).0;
      agreed = c.in_ok-checked.ensures;
      told = rw c.filled-filled.ensures at c.remove_plan.ensures.1;
    }

pub returns-then-limit-gt2 : goal.returns-then-limit-gt2
returns-then-limit-gt2 c =
    let a = c.args in
    limit_refused a.file.now a.image.now a.name.now a.limit (omega (arith, c.if-limit-gt2.true))

pub returns-in_err-key : goal.returns-in_err-key
returns-in_err-key c =
    let a = c.args in
    let l = lacking c.naming_of.result c.ok_or.ensures.value c.in_err-key.was in
    rw (error_is c.from_residual.result c.from_residual.ensures.1, ← l.1)
    (name_refused a.file.now a.image.now a.name.now a.limit (omega (arith, c.if-limit-gt2.false)) (naming_illegal c.naming_of.result a.name.now _ c.naming_of.ensures l.0))

pub returns-in_err-checked : goal.returns-in_err-checked
returns-in_err-checked c =
    let a = c.args in
    let l = naming_legal c.naming_of.result a.name.now _ c.naming_of.ensures (there c.ok_or.ensures.ok_part c.in_ok-key.was) in
    rw (error_is c.from_residual-in_err-checked.result c.from_residual-in_err-checked.ensures.1)
    (file_refused a.file.now a.image.now a.name.now a.limit _ (omega (arith, c.if-limit-gt2.false)) l.0 c.in_err-checked.ensures)

pub remove_plan-requires : goal.remove_plan-requires
remove_plan-requires c =
    let a = c.args in
    let l = naming_legal c.naming_of.result a.name.now _ c.naming_of.ensures (there c.ok_or.ensures.ok_part c.in_ok-key.was) in
    (c.in_ok-checked.ensures.ready, rw c.filled-filled.ensures (is_legal_name_legal a.name.now l.0), l.1)

pub returns-in_default : goal.returns-in_default
returns-in_default c =
    left_absent (prepared (goal.at.returns-in_default c).After-remove_plan) c.in_default.is

pub commit-requires : goal.commit-requires
commit-requires c = (c.in_ok-checked.ensures.ready.said.sized, c.in-Some.ensures.0)

pub returns-then-commit : goal.returns-then-commit
returns-then-commit c =
    left_stopped (prepared (goal.at.returns-then-commit c).After-remove_plan) c.in-Some.is c.commit.result c.commit.ensures c.if-commit.true

pub returns-in_default-right : goal.returns-in_default-right
returns-in_default-right c =
    left_removed (prepared (goal.at.returns-in_default-right c).After-remove_plan) c.in-Some.is c.commit.result c.commit.ensures c.if-commit.false c.in_default-right.is

pub rebuild_without-requires : goal.rebuild_without-requires
rebuild_without-requires c =
    freed_left (prepared (goal.at.rebuild_without-requires c).After-remove_plan) c.in-Some.is c.commit.result c.commit.ensures c.in-Some-right.is c.if-commit.false

pub returns : goal.returns
returns c =
    left_merged (prepared (goal.at.returns c).After-remove_plan) c.in-Some.is c.commit.result c.commit.ensures c.in-Some-right.is c.if-commit.false c.rebuild_without.ensures
