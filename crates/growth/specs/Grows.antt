-- What growth is asked with, where the trie agrees with a sound file.
use Rattle.std.specs.Prelude.{◌≡◌, List, ◌<◌, ℕ, length, take}
use Rattle.std.proofs.Math.Option.{some as just}
use Rattle.model.specs.declared.Trie.{Trie}
use Rattle.model.specs.Order.{Str, diff}
use Rattle.model.specs.Files.{Slot, Sound}
use Rattle.model.specs.Searches.{strings_of}
use Rattle.model.specs.Tries.{Agrees, Spot, walk_of}
use Rattle.model.specs.Growth.{grown_trie}
use Rattle.trie.specs.declared.Walk.{Walk}
use Rattle.trie.specs.Places.{Placed}
use Rattle.trie.specs.Strung.{lengths}
use Rattle.trie.specs.Walks.{By}

-- The split key c was walked with: by which side its leaf was reached, how many digits the split string s, a beginning of
-- c, shares with the leaf's path, and the slot a. Places and lengths are those of the file's strings.
pub record Asked (t : Trie) (places lens : List ℕ) (w : Walk) (c s : Str) (shared a : ℕ) : Type 0 where
  pub b : ℕ
  pub fs : List Slot
  pub sound : Sound b fs
  pub agrees : Agrees fs t
  pub placed : Placed t places
  pub lens_are : take (length (strings_of fs)) lens ≡ lengths (strings_of fs)
  pub some : 0 < length s
  pub begins : s ≡ take (length s) c
  pub path : Str
  pub spot : Spot
  pub walked : walk_of t c ≡ just (path, spot, a)
  pub by : By spot w
  pub shares : shared ≡ diff s path

-- It is then the grown trie of the rules' section 8, n being the new slot.
abbrev pub Grows : Trie → List ℕ → List ℕ → Walk → Str → ℕ → ℕ → ℕ → Trie → Type 0
Grows t places lens w s shared a n r = (c : Str) → Asked t places lens w c s shared a → r ≡ grown_trie t c s a n
