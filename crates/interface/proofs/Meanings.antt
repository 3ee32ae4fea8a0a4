-- What the C calls mean follows from what the calls mean.
use Rattle.model.proofs.Prelude.{List, ◌∙◌, ◌≡◌, ◌≤◌, ap, arith, length, refl, sym, ℕ, ℕ_discrete}
use Rattle.model.specs.Results.{Freed, ListAnswer, ListRefused, Listed, Nothing, RecoverAnswer, RecoverRefused, RecoverStopped}
use Rattle.model.specs.Sayings.{said_by_check, said_by_list, said_by_recover}
use Rattle.model.specs.Calls.{list_of, recover_of}
use Rattle.model.specs.Checks.{Kind, is_bad, is_cut, is_sound}
use Rattle.model.specs.Format.{SoundFile, check_file}
use Rattle.promises.proofs.Meanings.{meanings}
use Rattle.image.specs.Images.{image_length, trie_from}
use Rattle.capi.specs.Doors.{malformed, pal_list_of, pal_recover_of}
use Rattle.capi.proofs.Doors.{list_malformed}
use Rattle.interface.specs.Calls.{our_c_calls}
use Rattle.interface.specs.Meanings.{FreedC, ListedC, MeaningsC}
use Rattle.interface.proofs.Saying.{list_is, number_small, recover_is}
use Rattle.interface.proofs.Demand1.{check_number}

sound_said : (k : Kind) → (said_by_check k).0 ≡ 140 → k ≡ is_sound
sound_said is_sound e = refl
sound_said (is_cut N) e = absurd (omega arith)
sound_said is_bad e = absurd (omega arith)

cut_said : (k : Kind) → (said_by_check k).0 ≡ 141 → (N : ℕ) × (k ≡ is_cut N)
cut_said is_sound e = absurd (omega arith)
cut_said (is_cut N) e = (N, refl)
cut_said is_bad e = absurd (omega arith)

bad_said : (k : Kind) → (said_by_check k).0 ≡ 142 → k ≡ is_bad
bad_said is_sound e = absurd (omega arith)
bad_said (is_cut N) e = absurd (omega arith)
bad_said is_bad e = refl

abbrev says : Kind → ℕ
says k = (said_by_check k).0

freed_said : (a : RecoverAnswer) → (said_by_recover a).0 ≡ 130 → (N : ℕ) × (a ≡ Freed N)
freed_said (Freed N) e = (N, refl)
freed_said Nothing e = absurd (omega arith)
freed_said (RecoverStopped made) e = absurd (omega arith)
freed_said (RecoverRefused c) e = absurd (omega (arith, number_small c))

nothing_said : (a : RecoverAnswer) → (said_by_recover a).0 ≡ 131 → a ≡ Nothing
nothing_said (Freed N) e = absurd (omega arith)
nothing_said Nothing e = refl
nothing_said (RecoverStopped made) e = absurd (omega arith)
nothing_said (RecoverRefused c) e = absurd (omega (arith, number_small c))

listed_said : (a : ListAnswer) → (said_by_list a).0 ≡ 152 → (count : ℕ) × (a ≡ Listed count)
listed_said (Listed count) e = (count, refl)
listed_said (ListRefused c) e = absurd (omega (arith, number_small c))

module _ (xs : List ℕ) (limit : ℕ) (out : List ℕ) where
  freed_by : (pal_recover_of xs limit out).0 ≡ 130 → (N : ℕ) × ((recover_of xs limit).answer ≡ Freed N)
  freed_by e = freed_said (recover_of xs limit).answer (rw (recover_is xs limit out) at e)

  frees : (pal_recover_of xs limit out).0 ≡ 130 → FreedC xs out (pal_recover_of xs limit out).1 (pal_recover_of xs limit out).2
  frees e =
      let f = freed_by e in
      rw (recover_is xs limit out, f.1)
      (record { slot = f.0; cut = ((meanings.says_freed xs limit f.0).0 f.1).2; freed = meanings.frees xs limit f.0 f.1; named = refl })

  nothing_by : pal_recover_of xs limit out ≡ (131, xs, out) → (recover_of xs limit).answer ≡ Nothing
  nothing_by e = nothing_said (recover_of xs limit).answer (ap (λ (o : ℕ × List ℕ × List ℕ). o.0) (sym (recover_is xs limit out) ∙ e))

  says_nothing : (limit ≤ 2) × SoundFile xs → pal_recover_of xs limit out ≡ (131, xs, out)
  says_nothing h =
      let e = (meanings.says_nothing xs limit).1 h in
      rw (recover_is xs limit out, e, meanings.leaves xs limit e)

writes : (xs image low high output out : List ℕ) → (pal_list_of xs image low high output out).0 ≡ 152
    → ListedC xs low high output out (pal_list_of xs image low high output out).1 (pal_list_of xs image low high output out).2
writes xs image low high output out e = elim (ℕ_discrete (length image) image_length) [
  | yes z ↦
      let p = listed_said (list_of xs (trie_from image) low high output).answer (rw (list_is image z xs low high output out) at e) in
      rw (list_is image z xs low high output out, p.1)
      (record { count = p.0; wrote = meanings.writes xs (trie_from image) low high output p.0 p.1; counted = refl })
  | no n ↦ let z : malformed ≡ 152 = rw (list_malformed image n xs low high output out) at e in absurd (omega arith)
]

pub meanings_c : MeaningsC our_c_calls
meanings_c = record {
  says_sound = λ xs.
      (λ e. (meanings.says_sound xs).0 (sound_said (check_file xs) (sym (check_number xs) ∙ e)), λ S. check_number xs ∙ ap says ((meanings.says_sound xs).1 S));
  says_cut = λ xs. (
    λ e. let c = cut_said (check_file xs) (sym (check_number xs) ∙ e) in (c.0, (meanings.says_cut xs c.0).0 c.1),
    λ K. check_number xs ∙ ap says ((meanings.says_cut xs K.0).1 K.1),
  );
  says_bad = λ xs.
      (λ e. (meanings.says_bad xs).0 (bad_said (check_file xs) (sym (check_number xs) ∙ e)), λ B. check_number xs ∙ ap says ((meanings.says_bad xs).1 B));
  says_freed = λ xs limit out. (
    λ e. let f = freed_by xs limit out e in let m = (meanings.says_freed xs limit f.0).0 f.1 in (m.0, m.1, (f.0, m.2)),
    λ h. rw (recover_is xs limit out, (meanings.says_freed xs limit h.2.0).1 (h.0, h.1, h.2.1)),
  );
  frees = frees;
  says_nothing = λ xs limit out. (λ e. (meanings.says_nothing xs limit).0 (nothing_by xs limit out e), says_nothing xs limit out);
  writes = writes;
}
