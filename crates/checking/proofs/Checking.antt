-- The checks that put, remove and list make alike: what a sound file's survey and agreement say together.
use Rattle.std.specs.Prelude.{Err}
use Rattle.model.proofs.Prelude.{Bool, List, ◌∙◌, ◌≡◌, ap, arith, cond, false, some, sym, true, ℕ}
use Rattle.model.specs.declared.Cause.TheVariants.{BadFile, CutFile}
use Rattle.model.specs.declared.Layout.{Layout}
use Rattle.model.specs.declared.Trie.{Trie}
use Rattle.model.specs.Files.{Slot}
use Rattle.model.specs.Checks.{is_bad, is_cut, is_sound}
use Rattle.model.specs.Agreeing.{is_agreeing}
use Rattle.model.specs.Format.{check_file, read_file}
use Rattle.model.specs.Answers.{stale_trie}
use Rattle.model.specs.Calls.{fine, looked_at_by, looked_of, refusing}
use Rattle.model.proofs.Agreeing.{is_agreeing_agrees}
use Rattle.file.specs.declared.Size.{Size}
use Rattle.file.specs.declared.survey.Fault.{Fault}
use Rattle.file.specs.declared.survey.Fault.TheVariants.{Bad, Cut}
use Rattle.file.specs.declared.survey.Survey.{Survey}
use Rattle.file.specs.Sizes.{Saying}
use Rattle.file.specs.Surveys.{Sounded, cause_of, verdict}
use Rattle.agreement.proofs.Laws.{agreed_count}
use Rattle.file.proofs.Surveying.{Read, sound_read}
use Rattle.strings.proofs.Surveyed.{counted}
use Rattle.agreeing.specs.Agreeing.{AgreeingTold}
use Rattle.checking.specs.Ready.{Agreed}

-- What is refused, in the order 2, 3, 4.
pub looked_bad : (xs : List ℕ) (t : Trie) → check_file xs ≡ is_bad → looked_of xs t ≡ refusing BadFile
unfolding looked_of looked_at_by
looked_bad xs t e = rw e

looked_cut : (xs : List ℕ) (t : Trie) {N : ℕ} → check_file xs ≡ is_cut N → looked_of xs t ≡ refusing CutFile
unfolding looked_of looked_at_by
looked_cut xs t e = rw e

pub looked_faulty : (xs : List ℕ) (t : Trie) (f : Fault) → check_file xs ≡ verdict (Err f) → looked_of xs t ≡ refusing (cause_of f)
looked_faulty xs t Bad e = looked_bad xs t e
looked_faulty xs t (Cut N) e = looked_cut xs t e

looked_by : (xs : List ℕ) (t : Trie) {y : Layout} {fs : List Slot} → check_file xs ≡ is_sound → read_file xs ≡ some (y, fs)
    → looked_of xs t ≡ cond (is_agreeing fs t) (fine y fs) (refusing stale_trie)
unfolding looked_of looked_at_by
looked_by xs t e f = rw (e, f)

-- The agreement with a sound file.
module _ (xs : List ℕ) (t : Trie) (s : Size) (v : Survey) (a : Bool)
    (h : Saying s xs) (e : check_file xs ≡ is_sound) (z : Sounded v xs s) (d : AgreeingTold a xs s v.order v.count t) where
  R : Read s xs
  R = sound_read xs s h e

  decided : a ≡ is_agreeing R.slots t
  decided = d R.slots R.is R.sound (counted R z).0 (counted R z).1

  pub agreed_not : a ≡ false → looked_of xs t ≡ refusing stale_trie
  agreed_not f = looked_by xs t e R.is ∙ ap (λ (x : Bool). cond x (fine s.layout R.slots) (refusing stale_trie)) (sym decided ∙ f)

  pub agreed_all : a ≡ true → Agreed (record { size = s; survey = v }) xs t
  agreed_all f =
      let y : is_agreeing R.slots t ≡ true = sym decided ∙ f in
      let A = is_agreeing_agrees s.layout.b R.sound t y in
      record {
        ready = record {
          said = h;
          slots = R.slots;
          is = R.is;
          sound = R.sound;
          slots_inside = z.slots_inside;
          count_most = z.count_most;
          count_is = (counted R z).0;
          order_is = (counted R z).1;
          used_is = z.used_is R.listed R.sound;
          few = omega (arith, agreed_count s.layout.b R.sound t A, A.few);
        };
        agrees = A;
        looked = looked_by xs t e R.is ∙ ap (λ (x : Bool). cond x (fine s.layout R.slots) (refusing stale_trie)) y;
      }
