-- `Key::highest` meets its contract.
use Rattle.model.proofs.Prelude.{refl}
use Rattle.digits.specs.Keys.{continued, key_value, value}
use Rattle.digits.proofs.Key.highest.Goals as goal

pub returns : goal.returns
unfolding continued key_value value
returns c = refl
