-- `put_in` meets its contract: the bucket is full, or there is at most one store.
use Rattle.std.specs.Prelude.{Ok}
use Rattle.model.proofs.Prelude.{ap, arith, refl}
use Rattle.model.specs.declared.Layout.{Layout}
use Rattle.entries.specs.Rows.{content_number}
use Rattle.slots.proofs.Spots.{spot_lost}
use Rattle.checking.proofs.Laws.{error_is}
use Rattle.putting.proofs.Homes.{fits_there, left_there, stands, taken_there}
use Rattle.putting.proofs.Putting.{fits_of, one_made, one_refused, one_stopped}
use Rattle.putting.proofs.put_in.Goals as goal

pub returns-then-is_full : goal.returns-then-is_full
returns-then-is_full c =
    let a = c.args in let spot = c.spot_in-spot in let full = c.is_full.ensures.0 c.if-is_full.true in (
      refl,
      (λ fs e S l u es H.
          let A = stands a.size a.file.now a.key e S H c.slot_at.ensures spot.ensures c.requires.2 c.requires.3 in
          (spot_lost A.spot full.0, omega (arith, A.spot.counted, spot.result.count_most, full.1, ap (λ (z : Layout). z.b) A.layout_is))),
    )

pub planned-requires : goal.planned-requires
planned-requires c = c.is_full.ensures.1 c.if-is_full.false

pub returns-in_err-planned : goal.returns-in_err-planned
returns-in_err-planned c =
    let a = c.args in let spot = c.spot_in-spot in
    rw (error_is c.from_residual.result c.from_residual.ensures.1)
    (λ fs e S l u es H F t.
    let A = stands a.size a.file.now a.key e S H c.slot_at.ensures spot.ensures c.requires.2 c.requires.3 in
    left_there A a.file.now t (content_number a.content) a.content.run a.limit
    (one_refused a.file.now t spot.result.slot.layout fs a.name.now (content_number a.content) a.limit _
    (c.in_err-planned.ensures.1 fs c.requires.2 l u es A.read H A.spot (fits_there A a.content F))))

pub commit-requires : goal.commit-requires
commit-requires c = (c.requires.0, fits_of c.in_ok-planned.planned.plan c.args.size c.in_ok-planned.ensures.0 c.requires.1 c.requires.0.legal)

pub returns-then-commit : goal.returns-then-commit
returns-then-commit c fs e S l u es H F t =
    let a = c.args in let spot = c.spot_in-spot in
    let A = stands a.size a.file.now a.key e S H c.slot_at.ensures spot.ensures c.requires.2 c.requires.3 in
    one_stopped a.file.now _ t a.size.layout fs a.name.now (content_number a.content) a.limit c.in_ok-planned.planned c.commit.result c.commit.ensures _
    (taken_there A (Ok c.in_ok-planned.planned) (content_number a.content) a.content.run
    (c.in_ok-planned.ensures.1 fs c.requires.2 l u es A.read H A.spot (fits_there A a.content F))) c.if-commit.true

pub returns : goal.returns
returns c fs e S l u es H F t =
    let a = c.args in let spot = c.spot_in-spot in
    let A = stands a.size a.file.now a.key e S H c.slot_at.ensures spot.ensures c.requires.2 c.requires.3 in
    one_made a.file.now _ t a.size.layout fs a.name.now (content_number a.content) a.limit c.in_ok-planned.planned c.commit.result c.commit.ensures _
    (taken_there A (Ok c.in_ok-planned.planned) (content_number a.content) a.content.run
    (c.in_ok-planned.ensures.1 fs c.requires.2 l u es A.read H A.spot (fits_there A a.content F))) c.if-commit.false
