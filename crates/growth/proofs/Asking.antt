-- What growth is asked with, from the walk of a split key in the range of the slot that is split.
use Rattle.model.proofs.Prelude.{List, [], ◌<◌, ◌∙◌, ◌≡◌, ap, length, some, suc, sym, take, ℕ}
use Rattle.model.specs.declared.Trie.{Trie}
use Rattle.model.specs.Order.{Str, diff}
use Rattle.model.specs.Files.{In, Slot, Sound, head, slot_at}
use Rattle.model.specs.Searches.{strings_of}
use Rattle.model.specs.Tries.{Agrees, Spot, root, walk_of, walk_trie}
use Rattle.model.proofs.Files.{one_range}
use Rattle.model.proofs.Agreement.{agrees_walk}
use Rattle.model.proofs.Walks.{live_cells, path_cells, spot_cells, top_side}
use Rattle.model.proofs.GrownTries.{agreed_walk}
use Rattle.trie.specs.declared.Walk.{Walk}
use Rattle.trie.specs.Places.{Placed}
use Rattle.trie.specs.Strung.{lengths}
use Rattle.trie.specs.Walks.{Ended, Walks}
use Rattle.growth.specs.Grows.{Asked}

module _ {b : ℕ} {fs : List Slot} (S : Sound b fs) {t : Trie} (A : Agrees fs t) where
  pub asked : (r : Walk) {places lens : List ℕ} {c s : Str} {shared a : ℕ} → Placed t places → take (length (strings_of fs)) lens ≡ lengths (strings_of fs)
      → 0 < length s → s ≡ take (length s) c → In (head (slot_at fs a)) c → Walks r (walk_of t c)
      → shared ≡ diff s (take r.len r.path) → Asked t places lens r c s shared a
  asked r {c = c} {s = s} P lens more begins i w shares =
      record {
        b = b;
        fs = fs;
        sound = S;
        agrees = A;
        placed = P;
        lens_are = lens;
        some = more;
        begins = begins;
        path = path;
        spot = spot;
        walked = agreed_walk S A c ∙ ap (λ (k : ℕ). some (path, spot, k)) (sym (one_range b S c i (agrees_walk b S A c)));
        by = E.by;
        shares = shares ∙ ap (diff s) E.path;
      }
    where
      path : Str
      path = path_cells (live_cells t) c (suc (length (live_cells t))) [] (top_side t)

      spot : Spot
      spot = spot_cells (live_cells t) c (suc (length (live_cells t))) [] root (top_side t)

      E : Ended r path spot (walk_trie t c)
      E = rw (agreed_walk S A c) at w
