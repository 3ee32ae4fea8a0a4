-- `splitting::split_of` meets its contract.
use Rattle.model.proofs.Prelude.{◌∙◌, ap, length, rules, take, ℕ}
use Rattle.model.specs.Entries.{name_at}
use Rattle.model.specs.Changes.{split_string}
use Rattle.model.proofs.Format.{length_padded}
use Rattle.image.specs.Images.{trie_from}
use Rattle.splitting.proofs.Halving.{divides}
use Rattle.splitting.proofs.split_of.Goals as goal

pub returns : goal.returns
returns c =
    let y = c.args.layout in (
      record {
        string_whole = ap length c.beginning-string.ensures ∙ length_padded 24 (take c.length_at-len.result c.name_of-key.result);
        len_least = c.length_at-len.ensures.least;
        len_most = c.length_at-len.ensures.most;
        stay_least = c.stay_in-stay.ensures.least;
        stay_most = c.stay_in-stay.ensures.most;
        shared_most = search rules;
      },
      λ l u ws R size r.
          let at = c.place_of-place.ensures.is l u ws R size r in
          divides R y c.requires.0 size (trie_from c.args.image.now) c.walk_of-walk.result c.of_bound.result c.args.row.now r
          (c.name_of-key.ensures ws r size ∙ ap (name_at ws) at) (c.length_at-len.ensures.is l u ws R size r ∙ ap (λ (j : ℕ). length (split_string j y.b ws)) at) c.beginning-string.ensures
          c.of_bound.ensures c.stay_in-stay.ensures c.walk_of-walk.ensures.1 c.shared_with-shared.ensures.1,
    )
