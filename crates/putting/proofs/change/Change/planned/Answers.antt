-- `Change::planned` meets its contract: a held name is renewed, a new one added.
use Rattle.std.specs.Prelude.{Ok}
use Rattle.entries.specs.Rows.{content_number}
use Rattle.slots.proofs.Spots.{spot_held, spot_lost}
use Rattle.putting.proofs.Putting.{put_new}
use Rattle.putting.proofs.change.Change.planned.Goals as goal

pub renewed-requires : goal.renewed-requires
renewed-requires c = c.args.self.now.spot.held_there c.if-self.true

pub returns-then-self : goal.returns-then-self
returns-then-self c = (
  c.renewed.ensures.0,
  (λ fs h l u es R H P F. let f = spot_held P c.if-self.true in c.renewed.ensures.1 fs h l u es R H P F f.0 f.1),
)

pub added-requires : goal.added-requires
added-requires c = c.requires c.if-self.false

pub returns : goal.returns
returns c =
    let a = c.args.self.now in (
      c.added.ensures.0,
      (λ fs h l u es R H P F.
          let f = spot_lost P c.if-self.false in
          put_new a.spot.slot.layout H (content_number a.content) a.content.run (Ok c.added.result) f (c.added.ensures.1 fs h l u es R H P F f)),
    )
