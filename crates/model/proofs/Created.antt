-- The file that create writes: sound, read back as it was meant, and create's trie agrees with it.
use Rattle.model.proofs.Prelude.{Memᴰ, mem_head, [], ◌-◌, ◌∷◌, ◌≡◌, ◌≤◌, arith, length, length-replicate, nothing, refl, suc, zero, ℕ}
use Rattle.model.specs.declared.Layout.{Layout}
use Rattle.model.specs.Order.{least}
use Rattle.model.specs.Names.{unlimited}
use Rattle.model.specs.Entries.{find, no_entries}
use Rattle.model.specs.Files.{IsUsed, Sound, Well, created, entries_of, free, head, last, slot_at, well_free, well_used}
use Rattle.model.specs.Searches.{order_of}
use Rattle.model.specs.Tries.{Agrees}
use Rattle.model.specs.Changes.{Means}
use Rattle.model.specs.Format.{Sizes, entry_length, file_bytes}
use Rattle.model.specs.Calls.{new_trie}
use Rattle.model.proofs.Lists.{at_replicate}
use Rattle.model.proofs.Files.{count_right, order_right}
use Rattle.model.proofs.Agreement.{rebuilt_trie_agrees}
use Rattle.model.proofs.Changes.{Fine}
use Rattle.model.proofs.Format.{Contents, bytes_file_bytes, read_file-file_bytes}
use Rattle.model.proofs.Stores.{Left}

module _ (b slots : ℕ) where
  created_listed : (B : ℕ) → IsUsed (head (slot_at (created slots) B)) → Memᴰ B (0 ∷ [])
  created_listed zero h = mem_head refl
  created_listed (suc B) h = absurd (rw (at_replicate free (slots - 1) B) at h)

  created_well : (B : ℕ) → Well b (slot_at (created slots) B)
  created_well zero = let z : 0 ≤ 24 = omega arith in let y : 0 ≤ b = omega arith in well_used unlimited (record { fits = z; digits = tt }) least no_entries y
  created_well (suc B) = rw (at_replicate free (slots - 1) B) well_free

  unfoldable created_sound : Sound b (created slots)
  created_sound = record { order = 0 ∷ []; chain = last tt refl refl; listed = created_listed; well = created_well }

  pub created_fine : Fine b (created slots) (λ k. nothing)
  unfolding find created_sound
  created_fine = record { sound = created_sound; means = means; few = rw (count_right b created_sound) (omega arith) }
    where
      means : Means (created slots) (λ k. nothing)
      means k zero h = refl
      means k (suc B) h = rw (at_replicate free (slots - 1) B)

  -- The trie that create gives agrees with the file that it writes.
  pub created_agrees : Agrees (created slots) new_trie
  unfolding created_sound
  created_agrees =
      let order : order_of (created slots) ≡ 0 ∷ [] = order_right b created_sound in
      rw order at (rebuilt_trie_agrees b created_sound created_fine.few)

-- The file that create writes reads so.
pub created_left : (y : Layout) (slots : ℕ) → Sizes y slots → Left y (created slots) (file_bytes y (created slots))
created_left y slots g =
    let n : length (created slots) ≡ slots = omega (arith, g.slots_least, length-replicate (slots - 1) free) in
    let k : Sizes y (length (created slots)) = rw n g in
    let w = created_well y.b slots in
    record { is = read_file-file_bytes y (created slots) k w contents; bytes = bytes_file_bytes y (created slots) k w }
  where
    contents : (B : ℕ) → Contents (entry_length y) (entries_of (slot_at (created slots) B))
    contents zero = tt
    contents (suc B) = rw (at_replicate free (slots - 1) B) tt
