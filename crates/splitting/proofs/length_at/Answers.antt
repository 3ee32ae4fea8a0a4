-- `length_at` meets its contract: the key and the last name are those of the row.
use Rattle.splitting.proofs.Halving.{length_found}
use Rattle.splitting.proofs.length_at.Goals as goal

pub returns : goal.returns
returns c =
    let a = c.args in let n = c.name_of-key in let m = c.name_of-last in
    record {
      least = c.string_length.ensures.0;
      most = c.string_length.ensures.1;
      is = λ l u ws R size r. length_found R a.layout.b a.i c.requires.1 size (n.ensures ws r size) (m.ensures ws r size) c.string_length.ensures.2;
    }
