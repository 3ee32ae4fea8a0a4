-- `freeing` meets its contract: the zeros begin with the bytes of a free slot.
use Rattle.model.proofs.Prelude.{List, ◌∙◌, ap, take, ℕ}
use Rattle.model.specs.Format.{slot_size}
use Rattle.file.proofs.Committing.{free_begins}
use Rattle.file.proofs.freeing.Goals as goal

pub returns : goal.returns
returns c =
    let o = c.one_store.ensures in
    (o.1, o.3, λ y h. (o.0, (o.1, ap (λ (xs : List ℕ). take (slot_size y) xs) o.2 ∙ free_begins y h)))
