-- `write_cells` meets its contract: the cells written and those of the stacked runs make the whole (proofs/States.antt).
use Rattle.model.proofs.Prelude.{◌+◌, ◌-◌, ◌∙◌, ◌≡◌, arith, cond, length-replicate, ltb, refl, replicate, rules}
use Rattle.rebuilding.proofs.Stacks.{at_run, no_run}
use Rattle.rebuilding.proofs.States.{Top, kept, not_kept, topped, written_all, written_first, written_next}
use Rattle.rebuilding.proofs.write_cells.Goals.{In-loop-i, else-after-to, else-from-root, then-after-to, then-from-root}
use Rattle.rebuilding.proofs.write_cells.Goals as goal

-- Of the run on top, at a turn.
top : (c : In-loop-i) → Top c.args.strings.now.count c.loop-i.runs c.loop-i.top c.loop-i.i
top c = topped c.loop-i.invariant.state c.loop-i-test.true

pub loop-i-init : goal.loop-i-init
loop-i-init c =
    let s = c.args.strings.now in
    written_first s.lens s.digits s.slots s.count c.args.image.now (replicate 512 no_run) _ c.requires.1 (length-replicate 512 no_run) refl c.requires.0 s.few

pub overflow_sub-top : goal.overflow_sub-top
overflow_sub-top c = let o = top (goal.at.overflow_sub-top c).In-loop-i in search rules

pub offset_bounds-runs-top : goal.offset_bounds-runs-top
offset_bounds-runs-top c = let o = top (goal.at.offset_bounds-runs-top c).In-loop-i in search rules

pub bounds-runs-top : goal.bounds-runs-top
bounds-runs-top c = let o = top (goal.at.bounds-runs-top c).In-loop-i in search rules

pub root_of-root-requires : goal.root_of-root-requires
root_of-root-requires c = let o = top (goal.at.root_of-root-requires c).In-loop-i in (search rules, search rules, λ i h. c.starts_of-starts.ensures i (search rules))

pub bounds-strings-root : goal.bounds-strings-root
bounds-strings-root c = let o = top (goal.at.bounds-strings-root c).In-loop-i in search rules

pub bounds-strings-root-in-loop-i : goal.bounds-strings-root-in-loop-i
bounds-strings-root-in-loop-i c = let o = top (goal.at.bounds-strings-root-in-loop-i c).In-loop-i in search rules

pub cell_of-cell-requires : goal.cell_of-cell-requires
cell_of-cell-requires c = let o = top (goal.at.cell_of-cell-requires c).In-loop-i in search rules

pub bounds-runs-top-in-loop-i-2 : goal.bounds-runs-top-in-loop-i-2
bounds-runs-top-in-loop-i-2 c = let o = top (goal.at.bounds-runs-top-in-loop-i-2 c).In-loop-i in search rules

pub loop-i-preserved : goal.loop-i-preserved
loop-i-preserved c =
    let s = c.args.strings.now in let l = c.loop-i in let r = at_run l.runs (l.top - 1) in let m = c.root_of-root.result in
    let right : c.if-after-to.top ≡ l.top - 1 + cond (ltb (m + 1) r.to) 1 0 = elim c.if-after-to.branch [
      | then-after-to w ↦ w.top-is ∙ kept (l.top - 1) (m + 1) r.to (omega (arith, w.if-after-to.true))
      | else-after-to w ↦ w.top-is ∙ not_kept (l.top - 1) (m + 1) r.to (omega (arith, w.if-after-to.false))
    ] in
    let left : c.if-from-root.top ≡ c.if-after-to.top + cond (ltb r.from m) 1 0 = elim c.if-from-root.branch [
      | then-from-root w ↦ w.top-is ∙ kept c.if-after-to.top r.from m (omega (arith, w.if-from-root.true))
      | else-from-root w ↦ w.top-is ∙ not_kept c.if-after-to.top r.from m (omega (arith, w.if-from-root.false))
    ] in
    written_next s.lens s.digits s.slots s.count _ l.invariant c.loop-i-test.true refl refl c.root_of-root.ensures.2
    c.cell_of-cell.ensures c.write_cell.ensures.bytes refl refl right left

pub returns : goal.returns
returns c =
    let s = c.args.strings.now in
    written_all s.lens s.digits s.slots s.count _ _ _ _ c.loop-i.invariant (omega arith) c.requires.0
