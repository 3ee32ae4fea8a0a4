-- `append` meets its contract: the head is written, then new cells one by one.
use Rattle.model.proofs.Prelude.{◌+◌, ◌-◌, ◌≡◌, ap, arith}
use Rattle.model.specs.declared.Trie.{Trie}
use Rattle.growth.specs.Parts.{new_cell}
use Rattle.growth.proofs.Laws.{write_none, write_stored}
use Rattle.growth.proofs.append.Goals as goal

pub loop-at-init : goal.loop-at-init
loop-at-init c =
    let e : c.args.count + (c.args.shared - c.args.shared) ≡ c.args.count = omega arith in
    (rw e (write_none _ _ _ _ _ _), ap (λ (t : Trie). t.count) c.write_head.ensures, ap (λ (t : Trie). t.first) c.write_head.ensures)

pub loop-at-preserved : goal.loop-at-preserved
unfolding new_cell
loop-at-preserved c =
    let a = c.args in let k = c.loop-at.at in
    let e : a.count + (k + 1 - a.shared) ≡ a.count + (k - a.shared) + 1 = omega arith in
    rw e (write_stored _ _ (a.count + (k - a.shared)) (omega arith) c.write_cell.ensures.cells k c.loop-at.invariant (omega arith) (omega arith) (omega arith) (omega arith) (omega arith) (omega arith) (rw c.next_of.ensures))

pub returns : goal.returns
returns c =
    let v = c.loop-at.invariant in
    let W = rw c.write_head.ensures at v.0 in
    record {
      written = record { full = W.full; new = λ j h k. W.new j (omega arith) k; before = W.before; behind = λ i h. W.behind i (omega arith) };
      count_is = v.1;
      first_is = v.2;
    }
