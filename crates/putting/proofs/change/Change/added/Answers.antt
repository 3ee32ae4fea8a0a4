-- `Change::added` meets its contract: one store, of the slot with the new entry.
use Rattle.model.proofs.Prelude.{refl}
use Rattle.entries.specs.Rows.{content_number}
use Rattle.putting.proofs.Homes.{new_fits}
use Rattle.putting.proofs.Putting.{put_one}
use Rattle.putting.proofs.change.Change.added.Goals as goal

pub returns : goal.returns
returns c =
    let a = c.args.self.now in let new = c.added-new in
    let o = c.one_store in let y = a.spot.slot.layout in let v = content_number a.content in (
      (o.ensures.1, o.ensures.3),
      (λ fs h l u es R H P F f. put_one y v H (new_fits P v y.b f c.requires) o.result _ new.result f (new.ensures l u es R h P f F) o.ensures refl),
    )
