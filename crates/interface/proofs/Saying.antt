-- The numbers tell the answers apart, and what each C call gives for an image of the right length.
use Rattle.model.proofs.Prelude.{List, [], ◌<◌, ◌∙◌, ◌∷◌, ◌≡◌, ap, ap₂, arith, cond, eq-eqb, eqb, get_or, length, refl, sym, ℕ, ℕ_discrete}
use Rattle.model.specs.declared.Cause.{Cause}
use Rattle.model.specs.declared.Cause.TheVariants.{BadFile, CutFile, IllegalName, ManyStrings, NoFreeSlot, OlderRun, ShortOutput, StaleTrie, WrongSize}
use Rattle.model.specs.Results.{Added, FoundContent, Freed, Given, ListAnswer, ListRefused, Listed, LookUpAnswer, LookUpRefused, NotFound, NotHeld, Nothing, PutAnswer, PutRefused, PutStopped, RecoverAnswer, RecoverRefused, RecoverStopped, RemoveAnswer, RemoveRefused, RemoveStopped, Removed, ReplacedContent, TrieAnswer, TrieRefused}
use Rattle.model.specs.Answers.{number}
use Rattle.model.specs.Sayings.{said_by_create, said_by_list, said_by_look_up, said_by_put, said_by_rebuild, said_by_recover, said_by_remove}
use Rattle.model.specs.Calls.{create_of, list_of, look_up_of, put_of, rebuild_of, recover_of, remove_of}
use Rattle.image.specs.Images.{image_length, image_of, trie_from}
use Rattle.putting.specs.Outcomes.{image_after}
use Rattle.removing.specs.Outcomes.{image_removed}
use Rattle.capi.specs.Doors.{out_after, pal_create_of, pal_list_of, pal_look_up_of, pal_put_of, pal_rebuild_of, pal_recover_of, pal_remove_of}
use Rattle.interface.specs.Calls.{IsImage}
use Rattle.interface.specs.Demand1.{out_refused}

pub number_small : (c : Cause) → number c < 13
number_small IllegalName = omega arith
number_small BadFile = omega arith
number_small CutFile = omega arith
number_small (StaleTrie k) = omega arith
number_small NoFreeSlot = omega arith
number_small ManyStrings = omega arith
number_small ShortOutput = omega arith
number_small WrongSize = omega arith
number_small OlderRun = omega arith

-- The cause that a number says and, if it is 4, word 0.
abbrev cause_of : ℕ → List ℕ → Cause
cause_of k out =
    cond (eqb k 1) IllegalName (cond (eqb k 2) BadFile (cond (eqb k 3) CutFile (cond (eqb k 4) (StaleTrie (get_or out 0 0))
    (cond (eqb k 5) NoFreeSlot (cond (eqb k 6) ManyStrings (cond (eqb k 7) ShortOutput (cond (eqb k 8) WrongSize OlderRun)))))))

cause_back : (c : Cause) (out : List ℕ) → 0 < length out → cause_of (number c) (out_refused c out) ≡ c
cause_back IllegalName out h = refl
cause_back BadFile out h = refl
cause_back CutFile out h = refl
cause_back (StaleTrie k) [] h = absurd (omega arith)
cause_back (StaleTrie k) (w ∷ out) h = refl
cause_back NoFreeSlot out h = refl
cause_back ManyStrings out h = refl
cause_back ShortOutput out h = refl
cause_back WrongSize out h = refl
cause_back OlderRun out h = refl

one_cause : (out : List ℕ) → 0 < length out → (c d : Cause) → number c ≡ number d → out_refused c out ≡ out_refused d out → c ≡ d
one_cause out h c d e f = sym (cause_back c out h) ∙ ap₂ cause_of e f ∙ cause_back d out h

-- The number alone tells a cause that is no stale trie.
stale_four : (c : Cause) → number c ≡ 4 → (k : ℕ) × (c ≡ StaleTrie k)
stale_four IllegalName e = absurd (omega arith)
stale_four BadFile e = absurd (omega arith)
stale_four CutFile e = absurd (omega arith)
stale_four (StaleTrie k) e = (k, refl)
stale_four NoFreeSlot e = absurd (omega arith)
stale_four ManyStrings e = absurd (omega arith)
stale_four ShortOutput e = absurd (omega arith)
stale_four WrongSize e = absurd (omega arith)
stale_four OlderRun e = absurd (omega arith)

abbrev Fresh : Cause → Type 0
Fresh c = (k : ℕ) → ¬ (c ≡ StaleTrie k)

fresh_cause : (c d : Cause) → Fresh c → number c ≡ number d → c ≡ d
fresh_cause c d f e = elim (ℕ_discrete (number c) 4) [
  | yes z ↦ let s = stale_four c z in absurd (f s.0 s.1)
  | no n ↦ one_cause (0 ∷ []) (omega arith) c d e (same c d e n)
]
  where
    bare : (c : Cause) → ¬ (number c ≡ 4) → out_refused c (0 ∷ []) ≡ 0 ∷ []
    bare IllegalName n = refl
    bare BadFile n = refl
    bare CutFile n = refl
    bare (StaleTrie k) n = absurd (n refl)
    bare NoFreeSlot n = refl
    bare ManyStrings n = refl
    bare ShortOutput n = refl
    bare WrongSize n = refl
    bare OlderRun n = refl

    same : (c d : Cause) → number c ≡ number d → ¬ (number c ≡ 4) → out_refused c (0 ∷ []) ≡ out_refused d (0 ∷ [])
    same c d e n = bare c n ∙ sym (bare d (λ z. n (e ∙ z)))

-- A cause's number is said by a refusal alone; where the trie may be stale, with its word.
pub create_cause : (a : TrieAnswer) (c : Cause) → ((k : ℕ) → ¬ (a ≡ TrieRefused (StaleTrie k))) → (said_by_create a).0 ≡ number c → a ≡ TrieRefused c
create_cause Given c f e = absurd (omega (arith, number_small c))
create_cause (TrieRefused d) c f e = ap TrieRefused (fresh_cause d c (λ k z. f k (ap TrieRefused z)) e)

pub rebuild_cause : (a : TrieAnswer) (c : Cause) → ((k : ℕ) → ¬ (a ≡ TrieRefused (StaleTrie k))) → (said_by_rebuild a).0 ≡ number c → a ≡ TrieRefused c
rebuild_cause Given c f e = absurd (omega (arith, number_small c))
rebuild_cause (TrieRefused d) c f e = ap TrieRefused (fresh_cause d c (λ k z. f k (ap TrieRefused z)) e)

pub recover_cause : (a : RecoverAnswer) (c : Cause) → ((k : ℕ) → ¬ (a ≡ RecoverRefused (StaleTrie k))) → (said_by_recover a).0 ≡ number c → a ≡ RecoverRefused c
recover_cause (Freed N) c f e = absurd (omega (arith, number_small c))
recover_cause Nothing c f e = absurd (omega (arith, number_small c))
recover_cause (RecoverStopped made) c f e = absurd (omega (arith, number_small c))
recover_cause (RecoverRefused d) c f e = ap RecoverRefused (fresh_cause d c (λ k z. f k (ap RecoverRefused z)) e)

module _ (out : List ℕ) (h : 0 < length out) (c : Cause) where
  pub look_up_cause : (a : LookUpAnswer) → (said_by_look_up a).0 ≡ number c → out_after (said_by_look_up a) out ≡ out_refused c out → a ≡ LookUpRefused c
  look_up_cause (FoundContent held) e f = absurd (omega (arith, number_small c))
  look_up_cause NotFound e f = absurd (omega (arith, number_small c))
  look_up_cause (LookUpRefused d) e f = ap LookUpRefused (one_cause out h d c e f)

  pub put_cause : (a : PutAnswer) → (said_by_put a).0 ≡ number c → out_after (said_by_put a) out ≡ out_refused c out → a ≡ PutRefused c
  put_cause Added e f = absurd (omega (arith, number_small c))
  put_cause (ReplacedContent old) e f = absurd (omega (arith, number_small c))
  put_cause (PutStopped made) e f = absurd (omega (arith, number_small c))
  put_cause (PutRefused d) e f = ap PutRefused (one_cause out h d c e f)

  pub remove_cause : (a : RemoveAnswer) → (said_by_remove a).0 ≡ number c → out_after (said_by_remove a) out ≡ out_refused c out → a ≡ RemoveRefused c
  remove_cause (Removed k) e f = absurd (omega (arith, number_small c))
  remove_cause NotHeld e f = absurd (omega (arith, number_small c))
  remove_cause (RemoveStopped made) e f = absurd (omega (arith, number_small c))
  remove_cause (RemoveRefused d) e f = ap RemoveRefused (one_cause out h d c e f)

  pub list_cause : (a : ListAnswer) → (said_by_list a).0 ≡ number c → out_after (said_by_list a) out ≡ out_refused c out → a ≡ ListRefused c
  list_cause (Listed count) e f = absurd (omega (arith, number_small c))
  list_cause (ListRefused d) e f = ap ListRefused (one_cause out h d c e f)

-- Of an image of the right length.
module _ (image : List ℕ) (size : IsImage image) where
  pub create_is : (xs : List ℕ) (v b slots : ℕ)
      → pal_create_of xs v b slots image ≡ ((said_by_create (create_of xs v b slots).answer).0, (create_of xs v b slots).file, image_of (create_of xs v b slots).trie)
  unfolding pal_create_of
  create_is xs v b slots = rw (eq-eqb (length image) image_length size)

  pub rebuild_is : (xs : List ℕ) → pal_rebuild_of xs image ≡ ((said_by_rebuild (rebuild_of xs).answer).0, image_of (rebuild_of xs).trie)
  unfolding pal_rebuild_of
  rebuild_is xs = rw (eq-eqb (length image) image_length size)

  pub look_up_is : (xs name out : List ℕ)
      → pal_look_up_of xs image name out ≡ ((said_by_look_up (look_up_of xs (trie_from image) name)).0, out_after (said_by_look_up (look_up_of xs (trie_from image) name)) out)
  unfolding pal_look_up_of
  look_up_is xs name out = rw (eq-eqb (length image) image_length size)

  pub put_is : (xs name : List ℕ) (v run limit : ℕ) (out : List ℕ)
      → pal_put_of xs image name v run limit out
      ≡ (
        (said_by_put (put_of xs (trie_from image) name v run limit).answer).0,
        (put_of xs (trie_from image) name v run limit).file,
        image_after (put_of xs (trie_from image) name v run limit).answer (put_of xs (trie_from image) name v run limit).trie image,
        out_after (said_by_put (put_of xs (trie_from image) name v run limit).answer) out,
      )
  unfolding pal_put_of
  put_is xs name v run limit out = rw (eq-eqb (length image) image_length size)

  pub remove_is : (xs name : List ℕ) (limit : ℕ) (out : List ℕ)
      → pal_remove_of xs image name limit out
      ≡ (
        (said_by_remove (remove_of xs (trie_from image) name limit).answer).0,
        (remove_of xs (trie_from image) name limit).file,
        image_removed (remove_of xs (trie_from image) name limit).answer (remove_of xs (trie_from image) name limit).trie image,
        out_after (said_by_remove (remove_of xs (trie_from image) name limit).answer) out,
      )
  unfolding pal_remove_of
  remove_is xs name limit out = rw (eq-eqb (length image) image_length size)

  pub list_is : (xs low high output out : List ℕ)
      → pal_list_of xs image low high output out
      ≡ (
        (said_by_list (list_of xs (trie_from image) low high output).answer).0,
        (list_of xs (trie_from image) low high output).output,
        out_after (said_by_list (list_of xs (trie_from image) low high output).answer) out,
      )
  unfolding pal_list_of
  list_is xs low high output out = rw (eq-eqb (length image) image_length size)

pub recover_is : (xs : List ℕ) (limit : ℕ) (out : List ℕ)
    → pal_recover_of xs limit out ≡ ((said_by_recover (recover_of xs limit).answer).0, (recover_of xs limit).file, out_after (said_by_recover (recover_of xs limit).answer) out)
unfolding pal_recover_of
recover_is xs limit out = refl
