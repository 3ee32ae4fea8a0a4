-- Each statement of the C interface determines its outcome: any two outcomes that it allows are equal. With `Determined` of
-- `promises` this is every function that a program can call for its own sake: the eight calls, the C calls, and look up from a walk.
use Rattle.std.specs.Prelude.{◌≡◌, List, ℕ}
use Rattle.model.specs.Results.{LookUpAnswer}
use Rattle.promises.specs.Determined.{Determines}
use Rattle.trie.specs.declared.Place.{Place}
use Rattle.reading.specs.Walked.{looked_up_from}
use Rattle.capi.specs.Doors.{pal_check_of, pal_create_of, pal_list_of, pal_look_up_of, pal_put_of, pal_rebuild_of, pal_recover_of, pal_remove_of}

-- R13.4. An outcome holds the number, the bytes and the words of `out` that may change.
pub record DeterminedC : Type 0 where
  pub create : (xs : List ℕ) (v b slots : ℕ) (image : List ℕ) → Determines (λ (o : ℕ × List ℕ × List ℕ). pal_create_of xs v b slots image ≡ o)
  pub check : (xs : List ℕ) → Determines (λ (o : ℕ). o ≡ pal_check_of xs)
  pub recover : (xs : List ℕ) (limit : ℕ) (out : List ℕ) → Determines (λ (o : ℕ × List ℕ × List ℕ). pal_recover_of xs limit out ≡ o)
  pub rebuild : (xs image : List ℕ) → Determines (λ (o : ℕ × List ℕ). pal_rebuild_of xs image ≡ o)
  pub look_up : (xs image name out : List ℕ) → Determines (λ (o : ℕ × List ℕ). pal_look_up_of xs image name out ≡ o)
  pub put : (xs image name : List ℕ) (v run limit : ℕ) (out : List ℕ) → Determines (λ (o : ℕ × List ℕ × List ℕ × List ℕ). pal_put_of xs image name v run limit out ≡ o)
  pub remove : (xs image name : List ℕ) (limit : ℕ) (out : List ℕ) → Determines (λ (o : ℕ × List ℕ × List ℕ × List ℕ). pal_remove_of xs image name limit out ≡ o)
  pub list : (xs image low high output out : List ℕ) → Determines (λ (o : ℕ × List ℕ × List ℕ). pal_list_of xs image low high output out ≡ o)
  -- `reading::look_up_from`, for every walk: the place at which it stands is all that counts.
  pub look_up_from : (xs : List ℕ) (p : Place) (name : List ℕ) → Determines (λ (o : LookUpAnswer). o ≡ looked_up_from xs p name)
