-- List's outcome put together from what the code gives: the answer, and the output as it is left.
use Rattle.std.specs.Prelude.{List, ℕ}
use Rattle.model.specs.Results.{ListAnswer}
use Rattle.model.specs.Calls.{ListDone}

abbrev pub listed : ListAnswer → List ℕ → ListDone
listed r out = record { answer = r; output = out }
