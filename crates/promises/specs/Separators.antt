-- Request 07: which split string a bucket gets in each version, and what holds of every position.
use Rattle.std.specs.Prelude.{◌≡◌, ◌↔◌, ◌⊎◌, true, ◌+◌, ◌-◌, ◌/◌, ◌<◌, ◌≤◌, ℕ, length, set, take}
use mathlib.Core.List.{List, Memᴰ, [], ◌∷◌}
use Rattle.model.specs.declared.Layout.{Layout}
use Rattle.model.specs.declared.Trie.{Trie}
use Rattle.model.specs.Order.{Low, Str}
use Rattle.model.specs.Names.{Legal}
use Rattle.model.specs.Entries.{Entry, Row}
use Rattle.model.specs.Files.{Cut, Slot, Sound, free}
use Rattle.model.specs.Searches.{string_count}
use Rattle.model.specs.Tries.{Agrees}
use Rattle.model.specs.Changes.{Map, Means, Store, call, meant, put, split_of, split_string, stored, stores}
use Rattle.model.specs.Places.{Wins, digits_at, place_of, positions}
use Rattle.model.specs.Format.{is_offered}
use Rattle.model.specs.Calls.{trie_after_put}
use Rattle.promises.specs.Calls.{version_1, version_2, version_3}

-- What the stores of a put leave, by a rule that takes any position from 1 to b.
pub record PutLeaves (b : ℕ) (place : List Entry → ℕ) (fs : List Slot) (m : Map) (n : Str) (v : ℕ) (ss : List Store) : Type 0 where
  -- Ranges and contents: the file after them is sound, and holds what was asked.
  pub sound : Sound b (stored ss fs)
  pub means : Means (stored ss fs) (meant (put n v) m)
  pub few : string_count (stored ss fs) ≤ 256
  -- Cuts: stopped, the file is as it was, or it is cut, and freeing the slot N gives back what was there.
  pub stopped : (k : ℕ) → k < length ss
      → (stored (take k ss) fs ≡ fs) ⊎ ((N : ℕ) × Cut b (stored (take k ss) fs) N × (set (stored (take k ss) fs) N free ≡ fs))
  -- Growth: a trie that agreed with the file before is changed into one that agrees with the file after.
  pub agrees : (t : Trie) → Agrees fs t → Agrees (stored ss fs) (trie_after_put b place fs n v ss t)

pub record Separators : Type 0 where
  -- R2.3: versions 1, 2 and 3 are offered, and no other.
  pub versions : (v : ℕ) → (is_offered v ≡ true) ↔ ((v ≡ 1) ⊎ (v ≡ 2) ⊎ (v ≡ 3))
  -- R7.3: version 1 has the split key at position b/2 + 1, as before.
  pub as_before : (b : ℕ) (ws : List Entry) → split_of b (place_of (version_1 b)) ws ≡ split_string (b / 2) b ws
  -- Version 2 chooses from m, m − 1 and m + 1, those from 1 to b only: for b = 2 these are two.
  pub three : (b : ℕ) → 3 ≤ b → positions b ≡ (b / 2 + 1) ∷ (b / 2) ∷ (b / 2 + 2) ∷ []
  pub two : positions 2 ≡ 2 ∷ 1 ∷ []
  -- Its split string is the shortest of theirs,
  pub shortest : (b : ℕ) → 2 ≤ b → (ws : List Entry) (p : ℕ) → Memᴰ p (positions b)
      → length (split_of b (place_of (version_2 b)) ws) ≤ length (split_string (p - 1) b ws)
  -- so never longer than that of version 1.
  pub no_longer : (b : ℕ) → 2 ≤ b → (ws : List Entry)
      → length (split_of b (place_of (version_2 b)) ws) ≤ length (split_of b (place_of (version_1 b)) ws)
  -- Ties go in the order of the positions, which leaves no choice.
  pub ties : (b : ℕ) → 2 ≤ b → (ws : List Entry) → Wins (digits_at b ws) (place_of (version_2 b) ws + 1) (positions b)
  pub no_choice : (b : ℕ) → 2 ≤ b → (ws : List Entry) (i : ℕ) → Wins (digits_at b ws) (i + 1) (positions b) → place_of (version_2 b) ws ≡ i
  -- Of names that ascend, m + 1 never wins.
  pub never_behind : (b : ℕ) → 2 ≤ b → {l : Low} {u : Str} (ws : List Entry) → Row l ws u → length ws ≡ b + 1
      → place_of (version_2 b) ws ≤ b / 2
  -- Version 3 splits as version 2.
  pub third : (b : ℕ) (ws : List Entry) → place_of (version_3 b) ws ≡ place_of (version_2 b) ws
  -- Both rules take a position from 1 to b, and what puts leave is proved of every such rule.
  pub inside : (y : Layout) → 2 ≤ y.b → (ws : List Entry) → place_of y ws < y.b
  pub any_position : (b : ℕ) (place : List Entry → ℕ) → ((ws : List Entry) → place ws < b)
      → (fs : List Slot) (m : Map) → Sound b fs → Means fs m → string_count fs ≤ 256
      → (n : Str) (v : ℕ) → Legal n → (ss : List Store) → call b place fs (put n v) ≡ stores ss → PutLeaves b place fs m n v ss
