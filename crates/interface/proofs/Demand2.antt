-- Demand 2 of the C interface follows from demand 2 of the calls: what is written is read back.
use Rattle.model.proofs.Prelude.{List, ◌<◌, ◌^◌, ◌≡◌, ◌⊎◌, arith, inl, inr, length, refl, subst, ℕ, ℕ_discrete}
use Rattle.model.specs.Results.{Added, Given, LookUpAnswer, PutAnswer, PutRefused, PutStopped, Replaced, ReplacedContent, TrieAnswer, TrieRefused}
use Rattle.model.specs.declared.Trie.{Trie}
use Rattle.model.specs.Order.{Str}
use Rattle.model.specs.Files.{Slot}
use Rattle.model.specs.Format.{AreBytes}
use Rattle.model.specs.Sayings.{said_by_create, said_by_look_up, said_by_put, said_by_rebuild}
use Rattle.model.specs.Calls.{create_of, put_of, rebuild_of}
use Rattle.promises.specs.Demand2.{LeadsRight, Made, Tells, Truthful, stale, told, true_entry, truly_absent}
use Rattle.promises.proofs.Demand2.{demand_2}
use Rattle.image.specs.Images.{image_length, trie_from}
use Rattle.putting.specs.Outcomes.{image_after}
use Rattle.capi.specs.Doors.{malformed, out_after, pal_create_of, pal_put_of, pal_rebuild_of}
use Rattle.capi.proofs.Doors.{create_malformed, put_malformed, rebuild_malformed}
use Rattle.interface.specs.Calls.{our_c_calls}
use Rattle.interface.specs.Demand2.{Demand2C, TellsC, TruthfulC, stale as stale_c, told as told_c, true_entry as true_entry_c, truly_absent as truly_absent_c}
use Rattle.interface.proofs.Saying.{create_is, look_up_is, number_small, put_is, rebuild_is}
use Rattle.interface.proofs.Images.{leads_written, replaced_same}

truthful : {fs : List Slot} {n : Str} {a : LookUpAnswer} (out : List ℕ) → Truthful fs n a → TruthfulC fs n out ((said_by_look_up a).0, out_after (said_by_look_up a) out)
truthful out (true_entry B i f) = true_entry_c B i f
truthful out (truly_absent B i f) = truly_absent_c B i f

telling : {fs : List Slot} {n : Str} {a : LookUpAnswer} (out : List ℕ) → Tells fs n a → TellsC fs n out ((said_by_look_up a).0, out_after (said_by_look_up a) out)
telling out (told T) = told_c (truthful out T)
telling out (stale {k = k}) = stale_c k

pub created_said : (a : TrieAnswer) → (said_by_create a).0 ≡ 150 → a ≡ Given
created_said Given e = refl
created_said (TrieRefused c) e = absurd (omega (arith, number_small c))

pub rebuilt_said : (a : TrieAnswer) → (said_by_rebuild a).0 ≡ 151 → a ≡ Given
rebuilt_said Given e = refl
rebuilt_said (TrieRefused c) e = absurd (omega (arith, number_small c))

created_leads : (xs : List ℕ) (v b slots : ℕ) (image : List ℕ) → (pal_create_of xs v b slots image).0 ≡ 150
    → LeadsRight (pal_create_of xs v b slots image).1 (trie_from (pal_create_of xs v b slots image).2)
created_leads xs v b slots image e = elim (ℕ_discrete (length image) image_length) [
  | yes w ↦ rw (create_is image w xs v b slots)
      (leads_written (demand_2.created xs v b slots (created_said (create_of xs v b slots).answer (rw (create_is image w xs v b slots) at e))))
  | no n ↦ let z : malformed ≡ 150 = rw (create_malformed image n xs v b slots) at e in absurd (omega arith)
]

rebuilt_leads : (xs image : List ℕ) → (pal_rebuild_of xs image).0 ≡ 151 → LeadsRight xs (trie_from (pal_rebuild_of xs image).1)
rebuilt_leads xs image e = elim (ℕ_discrete (length image) image_length) [
  | yes w ↦ rw (rebuild_is image w xs) (leads_written (demand_2.rebuilt xs (rebuilt_said (rebuild_of xs).answer (rw (rebuild_is image w xs) at e))))
  | no n ↦ let z : malformed ≡ 151 = rw (rebuild_malformed image n xs) at e in absurd (omega arith)
]

-- The image after a put that was made: the trie's, or the one that was lent.
after_made : (image : List ℕ) (a : PutAnswer) (ys : List ℕ) (t : Trie) → ((old old_run : ℕ) → a ≡ Replaced old old_run → t ≡ trie_from image) → (Made a → LeadsRight ys t)
    → ((said_by_put a).0 ≡ 110) ⊎ ((said_by_put a).0 ≡ 111) → LeadsRight ys (trie_from (image_after a t image))
after_made image Added ys t same L e = leads_written (L tt)
after_made image (ReplacedContent old) ys t same L e = subst (λ (u : Trie). LeadsRight ys u) (same old.value old.run refl) (L tt)
after_made image (PutStopped made) ys t same L (inl e) = absurd (omega arith)
after_made image (PutStopped made) ys t same L (inr e) = absurd (omega arith)
after_made image (PutRefused c) ys t same L (inl e) = absurd (omega (arith, number_small c))
after_made image (PutRefused c) ys t same L (inr e) = absurd (omega (arith, number_small c))

not_made : {k : ℕ} → k ≡ 255 → (k ≡ 110) ⊎ (k ≡ 111) → ⊥
not_made z (inl e) = omega arith
not_made z (inr e) = omega arith

put_leads : (xs image name : List ℕ) (v run limit : ℕ) (out : List ℕ) → AreBytes xs → v < 2 ^ 64 → run < 2 ^ 64
    → ((pal_put_of xs image name v run limit out).0 ≡ 110) ⊎ ((pal_put_of xs image name v run limit out).0 ≡ 111)
    → LeadsRight (pal_put_of xs image name v run limit out).1 (trie_from (pal_put_of xs image name v run limit out).2)
put_leads xs image name v run limit out B s low e = elim (ℕ_discrete (length image) image_length) [
  | yes w ↦
      let o = put_of xs (trie_from image) name v run limit in
      rw (put_is image w xs name v run limit out)
      (after_made image o.answer o.file o.trie (replaced_same xs (trie_from image) name v run limit) (demand_2.grown xs (trie_from image) name v run limit B s low)
      (rw (put_is image w xs name v run limit out) at e))
  | no n ↦ let z : (pal_put_of xs image name v run limit out).0 ≡ 255 = rw (put_malformed image n xs name v run limit out) in absurd (not_made z e)
]

pub demand_2_c : Demand2C our_c_calls
demand_2_c = record {
  tells = λ xs image name out S w g. rw (look_up_is image w xs name out) (telling out (demand_2.tells xs (trie_from image) name S g));
  created = created_leads;
  grown = put_leads;
  rebuilt = rebuilt_leads;
  led = λ xs image name out L w g. rw (look_up_is image w xs name out) (truthful out (demand_2.led xs (trie_from image) name L g));
}
