-- `Change::renewed` meets its contract: refused where what is held has a higher run, else replaced.
use Rattle.std.specs.Prelude.{Ok}
use Rattle.model.proofs.Prelude.{◌<◌, ◌≡◌, ◌≤◌, arith, subst, sym}
use Rattle.model.specs.Entries.{run_of_content}
use Rattle.entries.specs.Rows.{content_number}
use Rattle.putting.specs.Plans.{PutPlanned}
use Rattle.putting.proofs.Homes.{old_run, takes_newer}
use Rattle.putting.proofs.Putting.{put_older}
use Rattle.putting.proofs.change.Change.renewed.Goals as goal

pub returns-then-self-old : goal.returns-then-self-old
returns-then-self-old c =
    let old = c.content-old in
    let a = c.args.self.now in let y = a.spot.slot.layout in (
      tt,
      (λ fs h l u es R H P F w f.
          let q : run_of_content w ≡ old.result.run = old_run old.result w old.ensures.1 (old.ensures.0 l u es R a.name.now h P w f) in
          let k : a.content.run < run_of_content w = omega (arith, q, c.if-self-old.true) in
          put_older y H (content_number a.content) a.content.run w f k),
    )

pub returns : goal.returns
returns c =
    let old = c.content-old in
    let a = c.args.self.now in let y = a.spot.slot.layout in let v = content_number a.content in (
      c.replaced.ensures.0,
      (λ fs h l u es R H P F w f.
          let q : run_of_content w ≡ old.result.run = old_run old.result w old.ensures.1 (old.ensures.0 l u es R a.name.now h P w f) in
          let k : run_of_content w ≤ a.content.run = omega (arith, q, c.if-self-old.false) in
          subst (PutPlanned (Ok c.replaced.result) y fs a.name.now) (sym (takes_newer y H v a.content.run w f k))
          (c.replaced.ensures.1 fs h l u es R H P F w f)),
    )
