-- `Row::is_copied` meets its contract.
use Rattle.model.proofs.Prelude.{List, ◌&&◌, ◌*◌, ◌∙◌, ◌≡◌, add-zero, ap₂, arith, cond, drop, eq-eqb, le-ltb, lt-ltb, ltb, ne_eqb, take, ℕ}
use Rattle.model.specs.Tests.{same_str}
use Rattle.entries.specs.Rows.{are_among}
use Rattle.entries.proofs.Among.{among_end, among_step, pieces_start}
use Rattle.entries.proofs.Sames.{one_entry, same_slices}
use Rattle.entries.proofs.row.Row.is_copied.Goals as goal
use Rattle.entries.proofs.row.Row.is_copied.Goals.{else-i-self, else-i-self-via-else-i-self, else-i-self-via-then-i-self+else-eq, then-i-self+then-eq}

pub loop-j-init : goal.loop-j-init
loop-j-init c =
    let r = c.args.self.now in let s = c.args.second.now in
    (omega arith, omega arith, ap₂ (λ (x y : List (List ℕ)). are_among x y) (pieces_start r.e s.bytes.now s.count) (pieces_start r.e r.bytes.now r.count))

pub loop-j-preserved : goal.loop-j-preserved
loop-j-preserved c =
    let r = c.args.self.now in let s = c.args.second.now in let l = c.loop-j in
    let met = λ (k : ℕ). k ≡ cond (ltb l.i r.count && same_str (take r.e (drop (r.e * l.i) r.bytes.now)) (take r.e (drop (r.e * l.j) s.bytes.now))) 1 0 in
    let step = λ (k : ℕ) (h : met k). among_step r.e r.bytes.now s.bytes.now r.count s.count l.i l.j (omega arith) (omega arith) k h in
    elim c.if-i-self.branch [
      | then-i-self+then-eq w ↦
          let q = rw (w.part.ensures.0, w.part-then-i-self.ensures.0, one_entry r.e l.i r.bytes.now, one_entry s.e l.j s.bytes.now, c.requires, same_slices) at w.eq.ensures in
          let t = step 1 (rw (lt-ltb l.i r.count (omega arith), ← q, w.if-eq.true)) in
          rw w.i-is (omega arith, t.0, l.invariant.2 ∙ t.1)
      | else-i-self w ↦ elim w.else-i-self.branch [
        | else-i-self-via-then-i-self+else-eq v ↦
            let q = rw (v.part.ensures.0, v.part-then-i-self.ensures.0, one_entry r.e l.i r.bytes.now, one_entry s.e l.j s.bytes.now, c.requires, same_slices) at v.eq.ensures in
            let t = step 0 (rw (lt-ltb l.i r.count (omega arith), ← q, v.if-eq.false)) in
            rw w.i-is (omega arith, omega arith, l.invariant.2 ∙ rw add-zero at t.1)
        | else-i-self-via-else-i-self v ↦
            let t = step 0 (rw (le-ltb l.i r.count (omega arith))) in
            rw w.i-is (omega arith, omega arith, l.invariant.2 ∙ rw add-zero at t.1)
      ]
    ]

pub returns-then-i-self-2 : goal.returns-then-i-self-2
returns-then-i-self-2 c =
    let r = c.args.self.now in let s = c.args.second.now in let l = c.loop-j in
    rw (l.invariant.2, among_end r.e r.bytes.now (drop (r.e * l.j) s.bytes.now) r.count s.count l.i l.j (omega arith) (omega arith), eq-eqb l.i r.count c.if-i-self-2.true)

pub returns-else-i-self-2 : goal.returns-else-i-self-2
returns-else-i-self-2 c =
    let r = c.args.self.now in let s = c.args.second.now in let l = c.loop-j in
    rw (l.invariant.2, among_end r.e r.bytes.now (drop (r.e * l.j) s.bytes.now) r.count s.count l.i l.j (omega arith) (omega arith), ne_eqb l.i r.count c.if-i-self-2.false)
