-- `slots::spot::Spot::content` meets its contract.
use Rattle.model.proofs.Prelude.{◌∙◌}
use Rattle.model.proofs.Format.{bytes_each}
use Rattle.slots.proofs.Spots.{content_held}
use Rattle.slots.proofs.spot.Spot.content.Goals as goal

pub returns : goal.returns
returns c =
    let n = c.row.ensures in let s = c.args.self.now.slot in (
      (λ l u es r m g S w f. c.content_at.ensures.0 ∙ rw (n.0, n.1)
          (content_held s.layout s.bytes.now s.of_size (bytes_each s.bytes.now s.each) r c.args.self.now m S w f)),
      c.content_at.ensures.1,
    )
