-- `split` meets its contract: what refuses it, and what is left of its two stores.
use Rattle.model.proofs.Prelude.{arith, rules}
use Rattle.checking.proofs.Laws.{error_is, lacking, there}
use Rattle.putting.proofs.Dividing.{full_told, many_told, room_inside, split_made, split_stopped}
use Rattle.putting.proofs.split.Goals as goal

pub returns-in_err-n : goal.returns-in_err-n
returns-in_err-n c =
    let a = c.args in
    let l = lacking c.lowest_free.result c.ok_or.ensures.value c.in_err-n.was in
    rw (error_is c.from_residual.result c.from_residual.ensures.1, ← l.1)
    (full_told a.image.now c.requires.0 a.a a.row.now a.limit c.lowest_free.ensures l.0)

pub overflow_add-count_of : goal.overflow_add-count_of
overflow_add-count_of c =
    let few = c.requires.0.agrees.few in
    search (rules, c.count_of.ensures, few, c.split_of-split.ensures.0.len_most)

pub returns-then-split-count_of : goal.returns-then-split-count_of
returns-then-split-count_of c =
    let a = c.args in
    many_told a.image.now c.requires.0 a.a a.row.now a.limit c.lowest_free.ensures (there c.ok_or.ensures.ok_part c.in_ok-n.was) c.split_of-split.ensures.0 c.split_of-split.ensures.1
    (omega (arith, c.if-split-count_of.true, c.count_of.ensures))

pub divide-plan-requires : goal.divide-plan-requires
divide-plan-requires c =
    (c.requires.0.ready.said.sized, c.requires.1, room_inside (there c.ok_or.ensures.ok_part c.in_ok-n.was) c.lowest_free.ensures.inside, c.split_of-split.ensures.0)

pub commit-requires : goal.commit-requires
commit-requires c =
    (c.requires.0.ready.said.sized, c.divide-plan.ensures.0)

pub returns-then-commit : goal.returns-then-commit
returns-then-commit c =
    let a = c.args in
    split_stopped a.image.now c.requires.0 a.a a.row.now a.limit c.lowest_free.ensures (there c.ok_or.ensures.ok_part c.in_ok-n.was) c.split_of-split.ensures.0 c.split_of-split.ensures.1
    (omega (arith, c.if-split-count_of.false, c.count_of.ensures)) _ c.divide-plan.ensures.1 c.commit.ensures c.if-commit.true

pub grow_at-requires : goal.grow_at-requires
grow_at-requires c =
    let l = c.requires.0.ready.said.sized.legal in
    let inside = room_inside (there c.ok_or.ensures.ok_part c.in_ok-n.was) c.lowest_free.ensures.inside in
    let p = c.split_of-split.ensures.0 in
    (omega (arith, c.if-split-count_of.false, c.count_of.ensures), p.shared_most, p.len_most, omega (arith, l.slots_most), omega (arith, l.slots_most))

pub returns : goal.returns
returns c =
    let a = c.args in
    split_made a.image.now c.requires.0 a.a a.row.now a.limit c.lowest_free.ensures (there c.ok_or.ensures.ok_part c.in_ok-n.was) c.split_of-split.ensures.0 c.split_of-split.ensures.1
    (omega (arith, c.if-split-count_of.false, c.count_of.ensures)) _ c.divide-plan.ensures.1 c.commit.ensures c.standing_of-standing.ensures c.grow_at.ensures
    c.is_image.ensures c.if-commit.false
