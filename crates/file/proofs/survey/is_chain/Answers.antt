-- `is_chain` meets its contract: where the slots seen so far end, the next has to begin.
use Rattle.model.proofs.Prelude.{◌∙◌, arith, refl}
use Rattle.digits.specs.Keys.{key_value}
use Rattle.digits.proofs.Laws.{other_keys, same_keys, same_words}
use Rattle.file.proofs.Comparing.{place_high, place_low}
use Rattle.file.proofs.Chains.{ended_end, ended_next, ended_start, ended_stop}
use Rattle.file.proofs.survey.is_chain.Goals as goal

pub loop-j-init : goal.loop-j-init
loop-j-init c = (omega arith, omega arith, λ fs. λ K. λ L. ended_start fs _ _ c.lowest-end.ensures)

pub slot_at-slot-requires : goal.slot_at-slot-requires
slot_at-slot-requires c = (c.requires.0, c.requires.1 c.loop-j.j)

pub returns-then-ne : goal.returns-then-ne
returns-then-ne c =
    let l = c.loop-j in
    λ fs. λ K. λ L. ended_stop K c.args.order.now c.args.count (omega (arith, c.requires.3)) L l.j (key_value l.end) (l.invariant.2 fs K L) (omega arith)
    (key_value c.low.result)
    (place_low K c.args.order.now c.args.count L l.j (omega arith) _ refl _ c.slot_at-slot.ensures.0 _ c.low.ensures)
    _ refl (other_keys c.low.result l.end (omega arith) (omega arith) l.invariant.0 l.invariant.1 c.ne.result c.ne.ensures c.if-ne.true)

pub loop-j-preserved : goal.loop-j-preserved
loop-j-preserved c =
    let l = c.loop-j in (
      omega arith,
      omega arith,
      λ fs. λ K. λ L. ended_next K c.args.order.now c.args.count (omega (arith, c.requires.3)) L l.j (key_value l.end) (l.invariant.2 fs K L) (omega arith)
          (key_value c.low.result)
          (place_low K c.args.order.now c.args.count L l.j (omega arith) _ refl _ c.slot_at-slot.ensures.0 _ c.low.ensures)
          _ refl (same_keys c.low.result l.end (omega arith) (omega arith) l.invariant.0 l.invariant.1 c.ne.result c.ne.ensures c.if-ne.false)
          (key_value c.high-end.result)
          (place_high K c.args.order.now c.args.count L l.j (omega arith) _ refl _ c.slot_at-slot.ensures.0 _ c.high-end.ensures),
    )

pub returns : goal.returns
returns c =
    let l = c.loop-j in
    λ fs. λ K. λ L. ended_end K c.args.order.now c.args.count (omega (arith, c.requires.3)) L l.j (key_value l.end) (l.invariant.2 fs K L) (omega arith)
    c.eq.result (key_value c.highest.result) (c.eq.ensures ∙ same_words l.end c.highest.result l.invariant.0 l.invariant.1 (omega arith) (omega arith)) c.highest.ensures
