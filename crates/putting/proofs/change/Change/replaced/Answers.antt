-- `Change::replaced` meets its contract: one store, of the slot with the content replaced.
use Rattle.entries.specs.Rows.{content_number}
use Rattle.putting.proofs.Homes.{held_fits, old_said}
use Rattle.putting.proofs.Putting.{put_one}
use Rattle.putting.proofs.change.Change.replaced.Goals as goal

pub returns : goal.returns
returns c =
    let a = c.args.self.now in let old = c.content in let new = c.replaced-new in
    let o = c.one_store in let y = a.spot.slot.layout in let v = content_number a.content in (
      (o.ensures.1, o.ensures.3),
      (λ fs h l u es R H P F w f.
          let q = old_said old.result w old.ensures.1 (old.ensures.0 l u es R a.name.now h P w f) in
          put_one y v H (held_fits y a.spot.slot.bytes.now R a.name.now v w f) o.result _ new.result f (new.ensures l u es R h P w f F) o.ensures q),
    )
