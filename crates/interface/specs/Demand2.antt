-- Demand 2 (R13.2) of the C interface: the images that calls write lead every string of digits to its bucket, and a lookup tells
-- the truth in its number and words.
use Rattle.std.specs.Prelude.{◌≡◌, ◌⊎◌, List, [], ◌∷◌, ◌<◌, ◌^◌, ℕ}
use Rattle.std.proofs.Math.Option.{none as nothing, some}
use Rattle.std.proofs.lemmas.List.Edits.{sets}
use Rattle.model.specs.Order.{Str}
use Rattle.model.specs.Names.{filled}
use Rattle.model.specs.Entries.{find, run_of_content, value_of_content}
use Rattle.model.specs.Files.{In, Slot, entries_of, head, slot_at}
use Rattle.model.specs.Format.{AreBytes, SoundFile}
use Rattle.promises.specs.Demand1.{LegalName}
use Rattle.promises.specs.Demand2.{LeadsRight}
use Rattle.image.specs.Images.{trie_from}
use Rattle.interface.specs.Calls.{CCalls, IsImage}

-- 100 with the value in word 0 and the run in word 1, or 101: what the bucket holds whose range holds the name.
pub data TruthfulC (fs : List Slot) (n : Str) (out : List ℕ) : ℕ × List ℕ → Type 0 where
  true_entry : (B : ℕ) {c : ℕ} → In (head (slot_at fs B)) n → find n (entries_of (slot_at fs B)) ≡ some c
      → TruthfulC fs n out (100, sets out 0 (value_of_content c ∷ run_of_content c ∷ []))
  truly_absent : (B : ℕ) → In (head (slot_at fs B)) n → find n (entries_of (slot_at fs B)) ≡ nothing → TruthfulC fs n out (101, out)

-- Or 4, stale, with a digit number in word 0.
pub data TellsC (fs : List Slot) (n : Str) (out : List ℕ) : ℕ × List ℕ → Type 0 where
  told : {a : ℕ × List ℕ} → TruthfulC fs n out a → TellsC fs n out a
  stale : (k : ℕ) → TellsC fs n out (4, sets out 0 (k ∷ []))

-- Demand 2 of the C calls.
pub record Demand2C (C : CCalls) : Type 0 where
  -- With a sound file, whatever the image.
  pub tells : (xs image name out : List ℕ) (S : SoundFile xs) → IsImage image → LegalName name
      → TellsC S.slots (filled name) out (C.look_up xs image name out)
  -- The image that create writes, and the one after each put that is made.
  pub created : (xs : List ℕ) (v b slots : ℕ) (image : List ℕ) → (C.create xs v b slots image).0 ≡ 150
      → LeadsRight (C.create xs v b slots image).1 (trie_from (C.create xs v b slots image).2)
  pub grown : (xs image name : List ℕ) (v run limit : ℕ) (out : List ℕ) → AreBytes xs → v < 2 ^ 64 → run < 2 ^ 64
      → ((C.put xs image name v run limit out).0 ≡ 110) ⊎ ((C.put xs image name v run limit out).0 ≡ 111)
      → LeadsRight (C.put xs image name v run limit out).1 (trie_from (C.put xs image name v run limit out).2)
  pub rebuilt : (xs image : List ℕ) → (C.rebuild xs image).0 ≡ 151 → LeadsRight xs (trie_from (C.rebuild xs image).1)
  -- With such an image a lookup is not refused.
  pub led : (xs image name out : List ℕ) (L : LeadsRight xs (trie_from image)) → IsImage image → LegalName name
      → TruthfulC L.file.slots (filled name) out (C.look_up xs image name out)
