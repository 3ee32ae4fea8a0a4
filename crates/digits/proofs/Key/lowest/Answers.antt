-- `Key::lowest` meets its contract.
use Rattle.model.proofs.Prelude.{refl}
use Rattle.digits.specs.Keys.{key_value}
use Rattle.digits.proofs.Key.lowest.Goals as goal

pub returns : goal.returns
unfolding key_value
returns c = refl
