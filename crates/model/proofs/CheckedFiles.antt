-- Of the bytes of a file, check says sound, cut or bad exactly where section 4 of the rules does, and it says one of
-- them only.
use Rattle.model.proofs.Prelude.{List, Option, ◌≡◌, ap, clash, nothing, refl, some, ℕ}
use Rattle.model.specs.declared.Layout.{Layout}
use Rattle.model.specs.Files.{Cut, Slot, Sound}
use Rattle.model.specs.Checks.{Kind, check, is_bad, is_cut, is_sound}
use Rattle.model.specs.Format.{BadFile, CutFile, SoundFile, check_file, check_read, read_file}
use Rattle.model.proofs.Files.{cut_not_sound, cut_unique}
use Rattle.model.proofs.Checks.{Checked, check_right}

abbrev pub CheckedFile : List ℕ → Kind → Type 0
CheckedFile xs is_sound = SoundFile xs
CheckedFile xs (is_cut N) = CutFile xs N
CheckedFile xs is_bad = BadFile xs

-- Two readings of one file are the same.
one_reading : (xs : List ℕ) {y z : Layout} {fs gs : List Slot} → read_file xs ≡ some (y, fs) → read_file xs ≡ some (z, gs) → ◌≡◌ {A = Layout × List Slot} (y, fs) (z, gs)
one_reading xs p q = cc

no_reading : (xs : List ℕ) {y : Layout} {fs : List Slot} → read_file xs ≡ nothing → read_file xs ≡ some (y, fs) → ⊥
no_reading xs p q = clash cc

same_sound : {y z : Layout} {fs gs : List Slot} → ◌≡◌ {A = Layout × List Slot} (y, fs) (z, gs) → Sound z.b gs → Sound y.b fs
same_sound {y} {z} {fs} {gs} e S =
    let p : y ≡ z = ap (λ (f : Layout × List Slot). f.0) e in
    let q : fs ≡ gs = ap (λ (f : Layout × List Slot). f.1) e in
    rw (p, q) S

same_cut : {y z : Layout} {fs gs : List Slot} (N : ℕ) → ◌≡◌ {A = Layout × List Slot} (y, fs) (z, gs) → Cut z.b gs N → Cut y.b fs N
same_cut {y} {z} {fs} {gs} N e C =
    let p : y ≡ z = ap (λ (f : Layout × List Slot). f.0) e in
    let q : fs ≡ gs = ap (λ (f : Layout × List Slot). f.1) e in
    rw (p, q) C

-- R9.2: sound, cut or bad.
pub check_file_right : (xs : List ℕ) → CheckedFile xs (check_file xs)
unfolding check_file check_read
check_file_right xs = go (read_file xs) refl
  where
    said : (y : Layout) (fs : List Slot) → read_file xs ≡ some (y, fs) → (k : Kind) → Checked y.b fs k → CheckedFile xs k
    said y fs e is_sound S = record { layout = y; slots = fs; is = e; sound = S }
    said y fs e (is_cut N) C = record { layout = y; slots = fs; is = e; cut = C }
    said y fs e is_bad B =
        (λ S. B.0 (same_sound (one_reading xs e S.is) S.sound), λ N C. B.1 N (same_cut N (one_reading xs e C.is) C.cut))

    go : (r : Option (Layout × List Slot)) → read_file xs ≡ r → CheckedFile xs (check_read r)
    go nothing e = (λ S. no_reading xs e S.is, λ N C. no_reading xs e C.is)
    go (some f) e = said f.0 f.1 e (check f.0.b f.1) (check_right f.0.b f.1)

-- A file is not both sound and cut, and a cut one frees one slot only.
pub sound_not_cut : {xs : List ℕ} {N : ℕ} → SoundFile xs → CutFile xs N → ⊥
sound_not_cut {xs} S C = cut_not_sound C.layout.b C.cut (same_sound (one_reading xs C.is S.is) S.sound)

pub one_cut : {xs : List ℕ} {M N : ℕ} → CutFile xs M → CutFile xs N → M ≡ N
one_cut {xs} {M} {N} C D = cut_unique C.layout.b C.cut (same_cut N (one_reading xs C.is D.is) D.cut)

-- So check says sound of a sound file, and cut of a cut one.
pub check_file_sound : (xs : List ℕ) → SoundFile xs → check_file xs ≡ is_sound
check_file_sound xs S = go (check_file xs) (check_file_right xs)
  where
    go : (k : Kind) → CheckedFile xs k → k ≡ is_sound
    go is_sound c = refl
    go (is_cut N) C = absurd (sound_not_cut S C)
    go is_bad B = absurd (B.0 S)

pub check_file_cut : (xs : List ℕ) {N : ℕ} → CutFile xs N → check_file xs ≡ is_cut N
check_file_cut xs {N} C = go (check_file xs) (check_file_right xs)
  where
    go : (k : Kind) → CheckedFile xs k → k ≡ is_cut N
    go is_sound S = absurd (sound_not_cut S C)
    go (is_cut M) D = ap is_cut (one_cut D C)
    go is_bad B = absurd (B.1 N C)
