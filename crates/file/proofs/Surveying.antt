-- What a look at the whole file says, once it is known what was found.
use Rattle.std.specs.Prelude.{Option as Maybe, Some, None, Result, Ok, Err}
use Rattle.model.proofs.Prelude.{List, Option, ◌∙◌, ◌≡◌, ap, clash, length, nothing, refl, some, subst, sym, ℕ}
use Rattle.model.specs.declared.Layout.{Layout}
use Rattle.model.specs.Checks.{is_bad, is_sound}
use Rattle.model.specs.Format.{SoundFile, check_file, check_read, header_of, laid_out, read_by, read_file, read_slots}
use Rattle.model.specs.Files.{Slot, Sound}
use Rattle.model.proofs.CheckedFiles.{check_file_right}
use Rattle.file.specs.declared.Size.{Size}
use Rattle.file.specs.declared.survey.Fault.{Fault}
use Rattle.file.specs.declared.survey.Fault.TheVariants.{Bad, Cut}
use Rattle.file.specs.declared.survey.Survey.{Survey}
use Rattle.file.specs.Sizes.{Saying, Sized, Told}
use Rattle.file.specs.Surveys.{Sounded, Surveyed, check_of_slots, verdict}

-- A header that is right says the file's sizes.
pub right_said : {h : Maybe Size} {s : Size} {xs : List ℕ} → h ≡ Some s → Told h xs → Saying s xs
right_said {h} {s} {xs} e t = subst (λ (x : Maybe Size). Told x xs) e t

pub wrong_said : {h : Maybe Size} (xs : List ℕ) → h ≡ None → Told h xs → header_of xs ≡ nothing
wrong_said {h} xs e t = subst (λ (x : Maybe Size). Told x xs) e t

pub right_sized : {h : Maybe Size} {s : Size} (xs : List ℕ) → h ≡ Some s → Told h xs → Sized (length xs) s
right_sized xs e t = (right_said e t).sized

-- A file without a header that is right is bad.
pub no_header_bad : (xs : List ℕ) → header_of xs ≡ nothing → check_file xs ≡ is_bad
unfolding check_file read_file read_by check_read
no_header_bad xs e = rw e

-- The survey's verdict is check's.
pub said_read : (xs : List ℕ) (s : Size) → Saying s xs → read_file xs ≡ laid_out s.layout (read_slots s.layout s.slots 0 xs)
unfolding read_file read_by
said_read xs s h = rw h.header

pub surveyed_check : {xs : List ℕ} {s : Size} (r : Result Survey Fault) → Saying s xs → Surveyed r xs s → check_file xs ≡ verdict r
unfolding check_file check_of_slots
surveyed_check {xs} {s} (Ok v) h z = ap check_read (said_read xs s h) ∙ sym z.kind_is
surveyed_check {xs} {s} (Err Bad) h z = ap check_read (said_read xs s h) ∙ sym z
surveyed_check {xs} {s} (Err (Cut N)) h z = ap check_read (said_read xs s h) ∙ sym z.1

-- What was found, once it is known which it is.
pub surveyed_is : {xs : List ℕ} {s : Size} (r : Result Survey Fault) {q : Result Survey Fault} → Saying s xs → Surveyed r xs s → r ≡ q → check_file xs ≡ verdict q
surveyed_is r h z e = surveyed_check r h z ∙ ap verdict e

pub surveyed_sound : (xs : List ℕ) (s : Size) (r : Result Survey Fault) {v : Survey} → Surveyed r xs s → r ≡ Ok v → Sounded v xs s
surveyed_sound xs s r z e = subst (λ (x : Result Survey Fault). Surveyed x xs s) e z

-- A sound file, as it is read with its sizes.
pub record Read (s : Size) (xs : List ℕ) : Type 0 where
  pub slots : List Slot
  pub listed : read_slots s.layout s.slots 0 xs ≡ some slots
  pub is : read_file xs ≡ some (s.layout, slots)
  pub sound : Sound s.layout.b slots

pub sound_read : (xs : List ℕ) (s : Size) → Saying s xs → check_file xs ≡ is_sound → Read s xs
unfolding laid_out
sound_read xs s h e = go (read_slots s.layout s.slots 0 xs) refl
  where
    file : SoundFile xs
    file = rw e at (check_file_right xs)

    go : (o : Option (List Slot)) → read_slots s.layout s.slots 0 xs ≡ o → Read s xs
    go nothing f =
        let p : read_file xs ≡ nothing = said_read xs s h ∙ ap (laid_out s.layout) f in
        let q : read_file xs ≡ some (file.layout, file.slots) = file.is in
        clash cc
    go (some fs) f =
        let p : read_file xs ≡ some (s.layout, fs) = said_read xs s h ∙ ap (laid_out s.layout) f in
        let q : read_file xs ≡ some (file.layout, file.slots) = file.is in
        let r : ◌≡◌ {A = Layout × List Slot} (s.layout, fs) (file.layout, file.slots) = cc in
        let i : s.layout ≡ file.layout = ap (λ (x : Layout × List Slot). x.0) r in
        let j : fs ≡ file.slots = ap (λ (x : Layout × List Slot). x.1) r in
        record { slots = fs; listed = f; is = p; sound = rw (i, j) file.sound }
