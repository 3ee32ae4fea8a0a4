-- `Slot::is_stocked` meets its contract.
use Rattle.model.proofs.Prelude.{◌∙◌, eqb-true, get_or, sym}
use Rattle.bucket.proofs.slot.Slot.is_stocked.Goals as goal

pub returns : goal.returns
returns c t =
    let s = c.args.self.now in let row = c.in-Some.ensures in
    record {
      bytes = s.each;
      first = eqb-true (get_or s.bytes.now 0 0) 1 (sym c.is_used.ensures ∙ c.if-not-is_used.false);
      fits = row.3;
      clear = row.4;
      between = sym (rw (row.0, row.1, row.2) at c.are_between.ensures) ∙ t;
    }
