-- Demand 1 (R13.1) of the C interface: the number and word 0 say the first cause that holds, and then every byte is as it was.
use Rattle.std.specs.Prelude.{◌≡◌, ◌⊎◌, ℕ, replicate}
use mathlib.Core.List.{List, Memᴰ, [], ◌∷◌}
use Rattle.std.proofs.lemmas.List.Edits.{sets}
use Rattle.model.specs.declared.Cause.{Cause}
use Rattle.model.specs.Answers.{number}
use Rattle.model.specs.Sayings.{carried}
use Rattle.promises.specs.Demand1.{Exactly, create_table, list_table, look_up_table, put_table, rebuild_table, recover_table, remove_table}
use Rattle.image.specs.Images.{image_length, trie_from}
use Rattle.capi.specs.Doors.{malformed}
use Rattle.interface.specs.Calls.{CCalls, IsImage, IsOut}

-- What a refusal leaves of `out`: a stale trie's digit number in word 0 (R10.13), and the other words as they were.
abbrev pub out_refused : Cause → List ℕ → List ℕ
out_refused c out = sets out 0 (carried c)

-- The outcome is that of a refusal; or the number is one of these.
abbrev pub IsRefusal : {O : Type 0} → (Cause → O) → O → Type 0
IsRefusal refusal o = (c : Cause) × (o ≡ refusal c)

abbrev pub Answers : {O : Type 0} → (Cause → O) → List ℕ → O → ℕ → Type 0
Answers refusal ks o k = IsRefusal refusal o ⊎ Memᴰ k ks

-- A trie image with no cell, whose first leaf is slot 0.
abbrev pub zero_image : List ℕ
zero_image = replicate image_length 0

-- What each call leaves where it is refused (R10.11): its number, every byte as it was, and `out` as above; create and rebuild write the
-- empty trie's image (R10.12).
abbrev pub create_refusal : List ℕ → Cause → ℕ × List ℕ × List ℕ
create_refusal xs c = (number c, xs, zero_image)

abbrev pub recover_refusal : List ℕ → List ℕ → Cause → ℕ × List ℕ × List ℕ
recover_refusal xs out c = (number c, xs, out_refused c out)

abbrev pub rebuild_refusal : Cause → ℕ × List ℕ
rebuild_refusal c = (number c, zero_image)

abbrev pub look_up_refusal : List ℕ → Cause → ℕ × List ℕ
look_up_refusal out c = (number c, out_refused c out)

-- Of put and remove.
abbrev pub change_refusal : List ℕ → List ℕ → List ℕ → Cause → ℕ × List ℕ × List ℕ × List ℕ
change_refusal xs image out c = (number c, xs, image, out_refused c out)

abbrev pub list_refusal : List ℕ → List ℕ → Cause → ℕ × List ℕ × List ℕ
list_refusal output out c = (number c, output, out_refused c out)

-- Demand 1 of the C calls. The tables are those of demand 1, of the trie that the image is: the outcome is that of a refusal exactly
-- where its cause is the first that holds.
pub record Demand1C (C : CCalls) : Type 0 where
  pub create : (xs : List ℕ) (v b slots : ℕ) (image : List ℕ) → IsImage image
      → Exactly (create_refusal xs) (C.create xs v b slots image) (create_table xs v b slots)
  pub recover : (xs : List ℕ) (limit : ℕ) (out : List ℕ) → Exactly (recover_refusal xs out) (C.recover xs limit out) (recover_table xs limit)
  pub rebuild : (xs image : List ℕ) → IsImage image → Exactly rebuild_refusal (C.rebuild xs image) (rebuild_table xs)
  pub look_up : (xs image name out : List ℕ) → IsImage image → IsOut out
      → Exactly (look_up_refusal out) (C.look_up xs image name out) (look_up_table xs (trie_from image) name)
  pub put : (xs image name : List ℕ) (v run limit : ℕ) (out : List ℕ) → IsImage image → IsOut out
      → Exactly (change_refusal xs image out) (C.put xs image name v run limit out) (put_table xs (trie_from image) name v run limit)
  pub remove : (xs image name : List ℕ) (limit : ℕ) (out : List ℕ) → IsImage image → IsOut out
      → Exactly (change_refusal xs image out) (C.remove xs image name limit out) (remove_table xs (trie_from image) name limit)
  pub list : (xs image low high output out : List ℕ) → IsImage image → IsOut out
      → Exactly (list_refusal output out) (C.list xs image low high output out) (list_table xs (trie_from image) low high output)
  -- Otherwise the number is one of these, so below 100 it is a refusal's.
  pub create_says : (xs : List ℕ) (v b slots : ℕ) (image : List ℕ) → IsImage image
      → Answers (create_refusal xs) (150 ∷ []) (C.create xs v b slots image) (C.create xs v b slots image).0
  pub recover_says : (xs : List ℕ) (limit : ℕ) (out : List ℕ)
      → Answers (recover_refusal xs out) (130 ∷ 131 ∷ 112 ∷ []) (C.recover xs limit out) (C.recover xs limit out).0
  pub rebuild_says : (xs image : List ℕ) → IsImage image → Answers rebuild_refusal (151 ∷ []) (C.rebuild xs image) (C.rebuild xs image).0
  pub look_up_says : (xs image name out : List ℕ) → IsImage image
      → Answers (look_up_refusal out) (100 ∷ 101 ∷ []) (C.look_up xs image name out) (C.look_up xs image name out).0
  pub put_says : (xs image name : List ℕ) (v run limit : ℕ) (out : List ℕ) → IsImage image
      → Answers (change_refusal xs image out) (110 ∷ 111 ∷ 112 ∷ []) (C.put xs image name v run limit out) (C.put xs image name v run limit out).0
  pub remove_says : (xs image name : List ℕ) (limit : ℕ) (out : List ℕ) → IsImage image
      → Answers (change_refusal xs image out) (120 ∷ 101 ∷ 112 ∷ []) (C.remove xs image name limit out) (C.remove xs image name limit out).0
  pub list_says : (xs image low high output out : List ℕ) → IsImage image
      → Answers (list_refusal output out) (152 ∷ []) (C.list xs image low high output out) (C.list xs image low high output out).0
  -- Check refuses nothing.
  pub check_says : (xs : List ℕ) → Memᴰ (C.check xs) (140 ∷ 141 ∷ 142 ∷ [])
  -- Before every refusal: an image of another length is answered with 255, and every byte and word is as it was.
  pub create_malformed : (xs : List ℕ) (v b slots : ℕ) (image : List ℕ) → ¬ IsImage image → C.create xs v b slots image ≡ (malformed, xs, image)
  pub rebuild_malformed : (xs image : List ℕ) → ¬ IsImage image → C.rebuild xs image ≡ (malformed, image)
  pub look_up_malformed : (xs image name out : List ℕ) → ¬ IsImage image → C.look_up xs image name out ≡ (malformed, out)
  pub put_malformed : (xs image name : List ℕ) (v run limit : ℕ) (out : List ℕ) → ¬ IsImage image
      → C.put xs image name v run limit out ≡ (malformed, xs, image, out)
  pub remove_malformed : (xs image name : List ℕ) (limit : ℕ) (out : List ℕ) → ¬ IsImage image
      → C.remove xs image name limit out ≡ (malformed, xs, image, out)
  pub list_malformed : (xs image low high output out : List ℕ) → ¬ IsImage image
      → C.list xs image low high output out ≡ (malformed, output, out)
