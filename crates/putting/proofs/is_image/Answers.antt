-- `is_image` meets its contract.
use Rattle.model.proofs.Prelude.{arith, sym}
use Rattle.image.proofs.Images.{image_back}
use Rattle.putting.proofs.is_image.Goals as goal

pub returns : goal.returns
returns c = sym (image_back c.args.image.now c.requires (λ i. omega (arith, c.type_inv.image i)))
