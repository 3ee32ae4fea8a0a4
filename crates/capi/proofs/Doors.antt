-- Each call's answer, as a number, with the bytes and words lent: a law for a malformed image, and one for all others.
use Rattle.model.proofs.Prelude.{List, ◌∙◌, ◌≡◌, ap, eq-eqb, length, ne_eqb, refl, sym, ℕ}
use Rattle.std.specs.Prelude.{Err, Ok, Result}
use Rattle.model.specs.declared.Cause.{Cause}
use Rattle.model.specs.Results.{ListAnswer, LookUpAnswer, PutAnswer, RecoverAnswer, RemoveAnswer, TrieAnswer}
use Rattle.model.specs.Sayings.{said_by_check, said_by_create, said_by_list, said_by_look_up, said_by_put, said_by_rebuild, said_by_recover, said_by_remove}
use Rattle.model.specs.Calls.{create_of, list_of, look_up_of, put_of, recover_of, remove_of}
use Rattle.model.specs.Checks.{Kind, is_bad, is_cut, is_sound}
use Rattle.model.specs.Names.{filled}
use Rattle.model.specs.Format.{check_file}
use Rattle.model.specs.Tries.{walk_of}
use Rattle.file.specs.declared.survey.Fault.{Fault}
use Rattle.file.specs.declared.survey.Fault.TheVariants.{Bad, Cut}
use Rattle.whole.specs.Outcomes.{Creates, Rebuilds, found, recovered}
use Rattle.reading.specs.Outcomes.{listed}
use Rattle.reading.specs.Walked.{looked_up_from}
use Rattle.reading.proofs.LookingUp.{place_looked}
use Rattle.trie.specs.declared.Place.{Place}
use Rattle.trie.specs.Walks.{place_reached}
use Rattle.image.specs.Images.{image_length, trie_from}
use Rattle.putting.specs.Outcomes.{put_left}
use Rattle.removing.specs.Outcomes.{remove_left}
use Rattle.capi.specs.Doors.{malformed, out_after, pal_check_of, pal_create_of, pal_list_of, pal_look_up_of, pal_put_of, pal_rebuild_of, pal_recover_of, pal_remove_of}

module _ (image : List ℕ) (ill : length image ≡ image_length → ⊥) where
  pub create_malformed : (file : List ℕ) (version b slots : ℕ) → pal_create_of file version b slots image ≡ (malformed, file, image)
  unfolding pal_create_of
  create_malformed file version b slots = rw (ne_eqb (length image) image_length ill)

  pub rebuild_malformed : (file : List ℕ) → pal_rebuild_of file image ≡ (malformed, image)
  unfolding pal_rebuild_of
  rebuild_malformed file = rw (ne_eqb (length image) image_length ill)

  pub look_up_is_malformed : (file name out : List ℕ) → pal_look_up_of file image name out ≡ (malformed, out)
  unfolding pal_look_up_of
  look_up_is_malformed file name out = rw (ne_eqb (length image) image_length ill)

  pub put_malformed : (file name : List ℕ) (value run limit : ℕ) (out : List ℕ) → pal_put_of file image name value run limit out ≡ (malformed, file, image, out)
  unfolding pal_put_of
  put_malformed file name value run limit out = rw (ne_eqb (length image) image_length ill)

  pub remove_malformed : (file name : List ℕ) (limit : ℕ) (out : List ℕ) → pal_remove_of file image name limit out ≡ (malformed, file, image, out)
  unfolding pal_remove_of
  remove_malformed file name limit out = rw (ne_eqb (length image) image_length ill)

  pub list_malformed : (file first second output out : List ℕ) → pal_list_of file image first second output out ≡ (malformed, output, out)
  unfolding pal_list_of
  list_malformed file first second output out = rw (ne_eqb (length image) image_length ill)

-- What was done, where it is known.
pub done : {T : Type 0} {x : Result T Cause} {d v : T} → x ≡ Ok d → d ≡ v → x ≡ Ok v
done e f = rw f at e

-- The call's outcome, said.
module _ (image : List ℕ) (well : length image ≡ image_length) where
  pub create_said : (file : List ℕ) (version b slots : ℕ) {x a : TrieAnswer} {ys zs : List ℕ} {n : ℕ} → x ≡ a
      → Creates x ys zs (create_of file version b slots) → n ≡ (said_by_create a).0 → pal_create_of file version b slots image ≡ (n, ys, zs)
  unfolding pal_create_of
  create_said file version b slots t e s = rw (eq-eqb (length image) image_length well, ← e.0, ← e.1, ← e.2, s, t)

  pub rebuild_said : (file : List ℕ) {x a : TrieAnswer} {zs : List ℕ} {n : ℕ} → x ≡ a → Rebuilds x zs file → n ≡ (said_by_rebuild a).0
      → pal_rebuild_of file image ≡ (n, zs)
  unfolding pal_rebuild_of
  rebuild_said file t e s = rw (eq-eqb (length image) image_length well, ← e.0, ← e.1, s, t)

  -- What the call is lent is the whole image.
  module _ {lent : List ℕ} (same : lent ≡ image) where
    pub look_up_said : (file name out : List ℕ) {x a : LookUpAnswer} {ws : List ℕ} {n : ℕ} → x ≡ a → x ≡ look_up_of file (trie_from lent) name
        → n ≡ (said_by_look_up a).0 → ws ≡ out_after (said_by_look_up a) out → pal_look_up_of file image name out ≡ (n, ws)
    unfolding pal_look_up_of
    look_up_said file name out t e s w =
        let e = rw same at e in rw (eq-eqb (length image) image_length well, ← e, s, w, t)

    pub put_said : (file name : List ℕ) (value run limit : ℕ) (out : List ℕ) {x a : PutAnswer} {ys zs ws : List ℕ} {n : ℕ} → x ≡ a
        → (x, ys, zs) ≡ put_left lent (put_of file (trie_from lent) name value run limit) → n ≡ (said_by_put a).0 → ws ≡ out_after (said_by_put a) out
        → pal_put_of file image name value run limit out ≡ (n, ys, zs, ws)
    unfolding pal_put_of
    put_said file name value run limit out t e s w =
        let e = rw same at e in
        rw (eq-eqb (length image) image_length well, ← ap (λ (o : PutAnswer × List ℕ × List ℕ). o.2) e, ← ap (λ (o : PutAnswer × List ℕ × List ℕ). o.1) e, ← ap (λ (o : PutAnswer × List ℕ × List ℕ). o.0) e, t, s, w)

    pub remove_said : (file name : List ℕ) (limit : ℕ) (out : List ℕ) {x a : RemoveAnswer} {ys zs ws : List ℕ} {n : ℕ} → x ≡ a
        → (x, ys, zs) ≡ remove_left lent (remove_of file (trie_from lent) name limit) → n ≡ (said_by_remove a).0 → ws ≡ out_after (said_by_remove a) out
        → pal_remove_of file image name limit out ≡ (n, ys, zs, ws)
    unfolding pal_remove_of
    remove_said file name limit out t e s w =
        let e = rw same at e in
        rw (eq-eqb (length image) image_length well, ← ap (λ (o : RemoveAnswer × List ℕ × List ℕ). o.2) e, ← ap (λ (o : RemoveAnswer × List ℕ × List ℕ). o.1) e, ← ap (λ (o : RemoveAnswer × List ℕ × List ℕ). o.0) e, t, s, w)

    pub list_said : (file first second output out : List ℕ) {x a : ListAnswer} {ys ws : List ℕ} {n : ℕ}
        → x ≡ a → listed x ys ≡ list_of file (trie_from lent) first second output → n ≡ (said_by_list a).0
        → ws ≡ out_after (said_by_list a) out → pal_list_of file image first second output out ≡ (n, ys, ws)
    unfolding pal_list_of
    list_said file first second output out t e s w =
        let e = rw same at e in rw (eq-eqb (length image) image_length well, ← e, s, w, t)

-- Look up walks over the image itself.
pub look_up_walked : (image file name : List ℕ) {n : List ℕ} {x : LookUpAnswer} (p : Place) → n ≡ filled name → p ≡ place_reached (walk_of (trie_from image) n)
    → x ≡ looked_up_from file p name → x ≡ look_up_of file (trie_from image) name
look_up_walked image file name p e w said =
    said ∙ place_looked file (trie_from image) name p (w ∙ ap (λ (k : List ℕ). place_reached (walk_of (trie_from image) k)) e)

pub recover_said : (file : List ℕ) (limit : ℕ) (out : List ℕ) {x a : RecoverAnswer} {ys ws : List ℕ} {n : ℕ}
    → x ≡ a → recovered x ys ≡ recover_of file limit → n ≡ (said_by_recover a).0
    → ws ≡ out_after (said_by_recover a) out → pal_recover_of file limit out ≡ (n, ys, ws)
unfolding pal_recover_of
recover_said file limit out t e s w = rw (← e, s, w, t)

-- Check's three results.
abbrev pub number_found : Result (Unit {0}) Fault → ℕ
number_found (Ok u) = 140
number_found (Err (Cut N)) = 141
number_found (Err Bad) = 142

found_number : (k : Kind) → number_found (found k) ≡ (said_by_check k).0
found_number is_sound = refl
found_number (is_cut N) = refl
found_number is_bad = refl

pub check_said : (file : List ℕ) {x k : Result (Unit {0}) Fault} {n : ℕ} → x ≡ k → x ≡ found (check_file file) → n ≡ number_found k → n ≡ pal_check_of file
unfolding pal_check_of
check_said file t e s = s ∙ ap number_found (sym t ∙ e) ∙ found_number (check_file file)
