-- `digits::are_words_zero` meets its contract.
use Rattle.model.proofs.Prelude.{◌&&◌, ◌*◌, ◌+◌, ◌≡◌, arith, drop, eqb}
use Rattle.digits.specs.Keys.{is_all_zero}
use Rattle.digits.proofs.Bytes.{or_eqb, zero_word}
use Rattle.digits.proofs.Laws.{gathers}
use Rattle.digits.proofs.are_words_zero.Goals as goal

pub loop-i-preserved : goal.loop-i-preserved
loop-i-preserved c =
    let l = c.loop-i in let s = c.args.s.now in let w = c.little_endian-all in
    let z : is_all_zero (drop (8 * l.i) s) ≡ (eqb w.result 0 && is_all_zero (drop (8 * l.i + 8) s)) = rw w.ensures (zero_word s (8 * l.i)) in
    let e : 8 * (l.i + 1) ≡ 8 * l.i + 8 = omega arith in
    rw e (gathers (is_all_zero s) (eqb l.all 0) (is_all_zero (drop (8 * l.i) s)) (eqb w.result 0) (is_all_zero (drop (8 * l.i + 8) s)) _ l.invariant z (or_eqb l.all w.result))
