-- `slots::stay_in` meets its contract.
use Rattle.model.proofs.Prelude.{arith}
use Rattle.slots.proofs.Halves.{stay_counted}
use Rattle.slots.proofs.stay_in.Goals as goal

pub returns : goal.returns
returns c =
    let m = c.not_above.ensures in let i = c.part-inner.ensures in let w = c.whole.ensures in let a = c.args in let p = c.requires in
    record {
      least = omega arith;
      most = omega (arith, m.0, i.2, p.0);
      is = λ l u ws r n R s b q f g. rw (m.1, i.0, i.1, i.2, w.0, w.1)
          (stay_counted a.layout a.row.now ws r n s _ (omega (arith, p.0)) (rw (w.0, w.1, w.2) at c.whole.result.fits) R b q f g);
    }
