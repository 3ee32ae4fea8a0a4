-- Rebuild, by its order of refusals, and the trie that it gives.
use Rattle.std.specs.Prelude.{Err, IsErrAnd, None, Ok, Option as Maybe, Result, Some, is_err, ok_or}
use Rattle.model.proofs.Prelude.{List, ◌∙◌, ◌≡◌, ◌≤◌, ap, arith, le-leb, length, lt-leb, refl, sym, true, ℕ}
use Rattle.model.specs.declared.Cause.{Cause}
use Rattle.model.specs.declared.Trie.{Trie}
use Rattle.model.specs.declared.Cause.TheVariants.{BadFile, ManyStrings}
use Rattle.model.specs.Results.{Given, TrieAnswer, TrieRefused}
use Rattle.model.specs.Searches.{string_count, strings_of}
use Rattle.model.specs.Checks.{is_bad, is_sound}
use Rattle.model.specs.Format.{check_file}
use Rattle.model.specs.Calls.{new_trie, rebuild_by, rebuild_of}
use Rattle.file.specs.declared.Size.{Size}
use Rattle.file.specs.declared.survey.Survey.{Survey}
use Rattle.file.specs.Sizes.{Saying}
use Rattle.file.specs.declared.survey.Fault.{Fault}
use Rattle.file.specs.declared.survey.Fault.TheVariants.{Bad, Cut}
use Rattle.file.specs.Surveys.{Sounded, cause_of, verdict}
use Rattle.trie.specs.declared.Strings.{Strings}
use Rattle.strings.specs.Arrays.{Listed}
use Rattle.image.specs.Clearing.{cleared}
use Rattle.image.specs.Images.{image_of}
use Rattle.rebuilding.proofs.Right.{rebuilt_right}
use Rattle.rebuilding.specs.Runs.{rebuilt_of}
use Rattle.whole.specs.Outcomes.{Rebuilds, left_by}
use Rattle.file.proofs.Surveying.{Read, sound_read}
use Rattle.strings.proofs.Surveyed.{strung}

-- The strings that a trie is rebuilt from, or why none is.
abbrev pub Gathered : Result Strings Cause → List ℕ → Type 0
Gathered (Ok s) xs = rebuild_of xs ≡ record { answer = Given; trie = rebuilt_of s.lens s.digits s.slots s.count }
Gathered (Err cause) xs = rebuild_of xs ≡ record { answer = TrieRefused cause; trie = new_trie }

pub cleared_new : image_of (cleared 0 0) ≡ image_of new_trie
unfolding cleared
cleared_new = refl

-- Why a file is not rebuilt from.
pub gathered_bad : (xs : List ℕ) → check_file xs ≡ is_bad → Gathered (Err BadFile) xs
unfolding rebuild_of rebuild_by
gathered_bad xs e = rw e

pub gathered_faulty : (xs : List ℕ) (f : Fault) → check_file xs ≡ verdict (Err f) → Gathered (Err (cause_of f)) xs
unfolding rebuild_of rebuild_by
gathered_faulty xs Bad e = rw e
gathered_faulty xs (Cut N) e = rw e

-- a refusal that was handed on
pub handed_on : (r : Result Strings Cause) {cause : Cause} (xs : List ℕ) → IsErrAnd r (λ e. e ≡ cause) → Gathered (Err cause) xs → Gathered r xs
handed_on (Ok s) xs a h = absurd a
handed_on (Err e) xs a h = rw a h

-- A sound file, with its strings.
pub gathered : (xs : List ℕ) (s : Size) (v : Survey) (g : Maybe Strings) → Saying s xs → check_file xs ≡ is_sound → Sounded v xs s
    → Listed g xs s v.order v.count → Gathered (ok_or g ManyStrings) xs
unfolding rebuild_of rebuild_by string_count
gathered xs s v None h e z l =
    let R : Read s xs = sound_read xs s h e in
    rw (e, R.is, lt-leb (length (strings_of R.slots)) 256 (strung R z l))
gathered xs s v (Some g) h e z l =
    let R : Read s xs = sound_read xs s h e in
    let H = strung R z l in
    let few : length (strings_of R.slots) ≤ 256 = omega (arith, H.count_is, g.few) in
    rw (e, R.is, le-leb (length (strings_of R.slots)) 256 few) (ap (λ (t : Trie). record { answer = Given; trie = t }) (sym (rebuilt_right R.sound g H few)))

-- Refused, the trie without cells is written.
pub not_rebuilt : (xs image : List ℕ) {r : Result Strings Cause} {cause : Cause} → r ≡ Err cause → Gathered r xs → image ≡ image_of (cleared 0 0) → Rebuilds (TrieRefused cause) image xs
not_rebuilt xs image e h q = rw (rw e at h) (refl, q ∙ cleared_new)

pub refused : (r : TrieAnswer) {cause : Cause} (xs image : List ℕ) → IsErrAnd r (λ e. e ≡ cause) → Gathered (Err cause) xs → Rebuilds r (left_by r image) xs
refused (Ok x) xs image a h = absurd a
refused (Err e) xs image a h = rw a (not_rebuilt xs (image_of new_trie) refl h (sym cleared_new))

pub too_many : (xs : List ℕ) {g : Maybe Strings} → g ≡ None → Gathered (ok_or g ManyStrings) xs → Rebuilds (TrieRefused ManyStrings) (image_of new_trie) xs
too_many xs e h = not_rebuilt xs (image_of new_trie) refl (rw e at h) (sym cleared_new)

pub cleared_behind : (r : TrieAnswer) (xs image last : List ℕ) → is_err r ≡ true → Rebuilds r (left_by r image) xs → last ≡ image_of (cleared 0 0) → Rebuilds r last xs
cleared_behind (Ok x) xs image last e h q = cc
cleared_behind (Err c) xs image last e h q = (h.0, q ∙ cleared_new ∙ h.1)

-- Where the answer is `Given`, the image is that of the strings' trie.
pub rebuilt : (xs image : List ℕ) {g : Maybe Strings} {s : Strings} → g ≡ Some s → Gathered (ok_or g ManyStrings) xs
    → image ≡ image_of (rebuilt_of s.lens s.digits s.slots s.count) → Rebuilds Given image xs
rebuilt xs image e h q = rw (rw e at h) (refl, q)
