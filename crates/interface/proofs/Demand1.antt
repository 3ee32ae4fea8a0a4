-- Demand 1 of the C interface follows from demand 1 of the calls.
use Rattle.model.proofs.Prelude.{List, Memᴰ, mem_cases_cons, mem_head, mem_not_nil, mem_tail, [], ◌<◌, ◌∙◌, ◌∷◌, ◌≡◌, ◌≤◌, ◌⊎◌, ap, arith, inl, inr, refl, subst, sym, ℕ}
use Rattle.model.specs.declared.Cause.{Cause}
use Rattle.model.specs.Results.{Added, FoundContent, Freed, Given, ListAnswer, ListRefused, Listed, LookUpAnswer, LookUpRefused, NotFound, NotHeld, Nothing, PutAnswer, PutRefused, PutStopped, RecoverAnswer, RecoverRefused, RecoverStopped, RemoveAnswer, RemoveRefused, RemoveStopped, Removed, ReplacedContent, TrieAnswer, TrieRefused}
use Rattle.model.specs.Sayings.{said_by_check, said_by_create, said_by_list, said_by_look_up, said_by_put, said_by_rebuild, said_by_recover, said_by_remove}
use Rattle.model.specs.Calls.{create_of, list_of, look_up_of, new_trie, put_of, rebuild_of, recover_of, remove_of}
use Rattle.model.specs.Checks.{Kind, is_bad, is_cut, is_sound}
use Rattle.model.specs.Format.{check_file}
use Rattle.promises.specs.Demand1.{Exactly, create_table, list_table, look_up_table, put_table, rebuild_table, recover_table, remove_table}
use Rattle.promises.proofs.Demand1.{demand_1}
use Rattle.promises.proofs.Where.{where_ours}
use Rattle.image.specs.Images.{cells_bytes, image_of, number_of_side, trie_from}
use Rattle.putting.specs.Outcomes.{image_after}
use Rattle.removing.specs.Outcomes.{image_removed}
use Rattle.capi.specs.Doors.{out_after, pal_check_of, pal_create_of, pal_list_of, pal_look_up_of, pal_put_of, pal_rebuild_of, pal_recover_of, pal_remove_of}
use Rattle.capi.proofs.Doors.{create_malformed, list_malformed, look_up_is_malformed, put_malformed, rebuild_malformed, remove_malformed}
use Rattle.interface.specs.Calls.{IsImage, IsOut, our_c_calls}
use Rattle.interface.specs.Demand1.{Answers, Demand1C, IsRefusal, change_refusal, create_refusal, list_refusal, look_up_refusal, rebuild_refusal, recover_refusal, zero_image}
use Rattle.interface.proofs.Saying.{create_cause, create_is, list_cause, list_is, look_up_cause, look_up_is, put_cause, put_is, rebuild_cause, rebuild_is, recover_cause, recover_is, remove_cause, remove_is}

module _ {O : Type 0} {refusal : Cause → O} {o : O} where
  first_of : {a : ℕ} {ks : List ℕ} → Answers refusal (a ∷ ks) o a
  first_of = inr (mem_head refl)

  second_of : {a b : ℕ} {ks : List ℕ} → Answers refusal (a ∷ b ∷ ks) o b
  second_of = inr (mem_tail (mem_head refl))

  third_of : {a b c : ℕ} {ks : List ℕ} → Answers refusal (a ∷ b ∷ c ∷ ks) o c
  third_of = inr (mem_tail (mem_tail (mem_head refl)))

-- Numbers from 100 on, which no refusal has.
abbrev Done : List ℕ → Type 0
Done [] = Unit {0}
Done (k ∷ ks) = (100 ≤ k) × Done ks

done_high : (ks : List ℕ) → Done ks → (k : ℕ) → Memᴰ k ks → 100 ≤ k
done_high [] d k m = absurd (mem_not_nil m)
done_high (j ∷ ks) d k m = go (mem_cases_cons m) (done_high ks d.1 k)
  where
    go : (k ≡ j) ⊎ Memᴰ k ks → (Memᴰ k ks → 100 ≤ k) → 100 ≤ k
    go (inl e) r = omega (arith, d.0)
    go (inr n) r = r n

pub refused_below : {O : Type 0} {refusal : Cause → O} {o : O} {k : ℕ} (ks : List ℕ) → Done ks → k < 100 → Answers refusal ks o k → IsRefusal refusal o
refused_below ks d h (inl r) = r
refused_below {k = k} ks d h (inr m) = absurd (omega (arith, done_high ks d k m))

-- The image of the empty trie.
empty_image : image_of new_trie ≡ zero_image
unfolding image_of cells_bytes number_of_side
empty_image = refl

-- Create.
module _ (xs : List ℕ) (v b slots : ℕ) (image : List ℕ) (w : IsImage image) where
  abbrev create_left : ℕ × List ℕ × List ℕ
  create_left = pal_create_of xs v b slots image

  create_refuses : (c : Cause) → (create_of xs v b slots).answer ≡ TrieRefused c → create_left ≡ create_refusal xs c
  create_refuses c a = let l = demand_1.create_leaves xs v b slots c a in rw (create_is image w xs v b slots, a, l.0, l.1, empty_image)

  create_exactly : Exactly (create_refusal xs) create_left (create_table xs v b slots)
  create_exactly c = (
    λ e. let f : ((said_by_create (create_of xs v b slots).answer).0, (create_of xs v b slots).file, image_of (create_of xs v b slots).trie) ≡ create_refusal xs c = sym (create_is image w xs v b slots) ∙ e in
        (demand_1.create xs v b slots c).0 (create_cause (create_of xs v b slots).answer c (where_ours.create xs v b slots) (ap (λ (o : ℕ × List ℕ × List ℕ). o.0) f)),
    λ f. create_refuses c ((demand_1.create xs v b slots c).1 f),
  )

  create_answers : (a : TrieAnswer) → (create_of xs v b slots).answer ≡ a → Answers (create_refusal xs) (150 ∷ []) create_left (said_by_create a).0
  create_answers Given e = first_of
  create_answers (TrieRefused c) e = inl (c, create_refuses c e)

  create_told : Answers (create_refusal xs) (150 ∷ []) create_left create_left.0
  create_told = subst (λ (k : ℕ). Answers (create_refusal xs) (150 ∷ []) create_left k) (sym (ap (λ (o : ℕ × List ℕ × List ℕ). o.0) (create_is image w xs v b slots))) (create_answers (create_of xs v b slots).answer refl)

-- Recover.
module _ (xs : List ℕ) (limit : ℕ) (out : List ℕ) where
  abbrev recover_left : ℕ × List ℕ × List ℕ
  recover_left = pal_recover_of xs limit out

  recover_refuses : (c : Cause) → (recover_of xs limit).answer ≡ RecoverRefused c → recover_left ≡ recover_refusal xs out c
  recover_refuses c a = rw (recover_is xs limit out, a, demand_1.recover_leaves xs limit c a)

  recover_exactly : Exactly (recover_refusal xs out) recover_left (recover_table xs limit)
  recover_exactly c = (
    λ e. let f : ((said_by_recover (recover_of xs limit).answer).0, (recover_of xs limit).file, out_after (said_by_recover (recover_of xs limit).answer) out) ≡ recover_refusal xs out c = sym (recover_is xs limit out) ∙ e in
        (demand_1.recover xs limit c).0 (recover_cause (recover_of xs limit).answer c (where_ours.recover xs limit) (ap (λ (o : ℕ × List ℕ × List ℕ). o.0) f)),
    λ f. recover_refuses c ((demand_1.recover xs limit c).1 f),
  )

  recover_answers : (a : RecoverAnswer) → (recover_of xs limit).answer ≡ a → Answers (recover_refusal xs out) (130 ∷ 131 ∷ 112 ∷ []) recover_left (said_by_recover a).0
  recover_answers (Freed N) e = first_of
  recover_answers Nothing e = second_of
  recover_answers (RecoverStopped made) e = third_of
  recover_answers (RecoverRefused c) e = inl (c, recover_refuses c e)

  recover_told : Answers (recover_refusal xs out) (130 ∷ 131 ∷ 112 ∷ []) recover_left recover_left.0
  recover_told = subst (λ (k : ℕ). Answers (recover_refusal xs out) (130 ∷ 131 ∷ 112 ∷ []) recover_left k) (sym (ap (λ (o : ℕ × List ℕ × List ℕ). o.0) (recover_is xs limit out))) (recover_answers (recover_of xs limit).answer refl)

-- Rebuild.
module _ (xs image : List ℕ) (w : IsImage image) where
  abbrev rebuild_left : ℕ × List ℕ
  rebuild_left = pal_rebuild_of xs image

  rebuild_refuses : (c : Cause) → (rebuild_of xs).answer ≡ TrieRefused c → rebuild_left ≡ rebuild_refusal c
  rebuild_refuses c a = rw (rebuild_is image w xs, a, demand_1.rebuild_leaves xs c a, empty_image)

  rebuild_exactly : Exactly (rebuild_refusal) rebuild_left (rebuild_table xs)
  rebuild_exactly c = (
    λ e. let f : ((said_by_rebuild (rebuild_of xs).answer).0, image_of (rebuild_of xs).trie) ≡ rebuild_refusal c = sym (rebuild_is image w xs) ∙ e in
        (demand_1.rebuild xs c).0 (rebuild_cause (rebuild_of xs).answer c (where_ours.rebuild xs) (ap (λ (o : ℕ × List ℕ). o.0) f)),
    λ f. rebuild_refuses c ((demand_1.rebuild xs c).1 f),
  )

  rebuild_answers : (a : TrieAnswer) → (rebuild_of xs).answer ≡ a → Answers (rebuild_refusal) (151 ∷ []) rebuild_left (said_by_rebuild a).0
  rebuild_answers Given e = first_of
  rebuild_answers (TrieRefused c) e = inl (c, rebuild_refuses c e)

  rebuild_told : Answers (rebuild_refusal) (151 ∷ []) rebuild_left rebuild_left.0
  rebuild_told = subst (λ (k : ℕ). Answers (rebuild_refusal) (151 ∷ []) rebuild_left k) (sym (ap (λ (o : ℕ × List ℕ). o.0) (rebuild_is image w xs))) (rebuild_answers (rebuild_of xs).answer refl)

-- Look up.
module _ (xs image name out : List ℕ) (w : IsImage image) where
  abbrev look_up_left : ℕ × List ℕ
  look_up_left = pal_look_up_of xs image name out

  look_up_refuses : (c : Cause) → look_up_of xs (trie_from image) name ≡ LookUpRefused c → look_up_left ≡ look_up_refusal out c
  look_up_refuses c a = rw (look_up_is image w xs name out, a)

  look_up_exactly : IsOut out → Exactly (look_up_refusal out) look_up_left (look_up_table xs (trie_from image) name)
  look_up_exactly h c = (
    λ e. let f : ((said_by_look_up (look_up_of xs (trie_from image) name)).0, out_after (said_by_look_up (look_up_of xs (trie_from image) name)) out) ≡ look_up_refusal out c = sym (look_up_is image w xs name out) ∙ e in
        (demand_1.look_up xs (trie_from image) name c).0 (look_up_cause out (omega arith) c (look_up_of xs (trie_from image) name) (ap (λ (o : ℕ × List ℕ). o.0) f) (ap (λ (o : ℕ × List ℕ). o.1) f)),
    λ f. look_up_refuses c ((demand_1.look_up xs (trie_from image) name c).1 f),
  )

  look_up_answers : (a : LookUpAnswer) → look_up_of xs (trie_from image) name ≡ a → Answers (look_up_refusal out) (100 ∷ 101 ∷ []) look_up_left (said_by_look_up a).0
  look_up_answers (FoundContent held) e = first_of
  look_up_answers NotFound e = second_of
  look_up_answers (LookUpRefused c) e = inl (c, look_up_refuses c e)

  look_up_told : Answers (look_up_refusal out) (100 ∷ 101 ∷ []) look_up_left look_up_left.0
  look_up_told = subst (λ (k : ℕ). Answers (look_up_refusal out) (100 ∷ 101 ∷ []) look_up_left k) (sym (ap (λ (o : ℕ × List ℕ). o.0) (look_up_is image w xs name out))) (look_up_answers (look_up_of xs (trie_from image) name) refl)

-- Put.
module _ (xs image name : List ℕ) (v run limit : ℕ) (out : List ℕ) (w : IsImage image) where
  abbrev put_left : ℕ × List ℕ × List ℕ × List ℕ
  put_left = pal_put_of xs image name v run limit out

  put_refuses : (c : Cause) → (put_of xs (trie_from image) name v run limit).answer ≡ PutRefused c → put_left ≡ change_refusal xs image out c
  put_refuses c a = rw (put_is image w xs name v run limit out, a, (demand_1.put_leaves xs (trie_from image) name v run limit c a).0)

  put_exactly : IsOut out → Exactly (change_refusal xs image out) put_left (put_table xs (trie_from image) name v run limit)
  put_exactly h c = (
    λ e. let f : ((said_by_put (put_of xs (trie_from image) name v run limit).answer).0, (put_of xs (trie_from image) name v run limit).file, image_after (put_of xs (trie_from image) name v run limit).answer (put_of xs (trie_from image) name v run limit).trie image, out_after (said_by_put (put_of xs (trie_from image) name v run limit).answer) out) ≡ change_refusal xs image out c = sym (put_is image w xs name v run limit out) ∙ e in
        (demand_1.put xs (trie_from image) name v run limit c).0 (put_cause out (omega arith) c (put_of xs (trie_from image) name v run limit).answer (ap (λ (o : ℕ × List ℕ × List ℕ × List ℕ). o.0) f) (ap (λ (o : ℕ × List ℕ × List ℕ × List ℕ). o.3) f)),
    λ f. put_refuses c ((demand_1.put xs (trie_from image) name v run limit c).1 f),
  )

  put_answers : (a : PutAnswer) → (put_of xs (trie_from image) name v run limit).answer ≡ a → Answers (change_refusal xs image out) (110 ∷ 111 ∷ 112 ∷ []) put_left (said_by_put a).0
  put_answers Added e = first_of
  put_answers (ReplacedContent old) e = second_of
  put_answers (PutStopped made) e = third_of
  put_answers (PutRefused c) e = inl (c, put_refuses c e)

  put_told : Answers (change_refusal xs image out) (110 ∷ 111 ∷ 112 ∷ []) put_left put_left.0
  put_told = subst (λ (k : ℕ). Answers (change_refusal xs image out) (110 ∷ 111 ∷ 112 ∷ []) put_left k) (sym (ap (λ (o : ℕ × List ℕ × List ℕ × List ℕ). o.0) (put_is image w xs name v run limit out))) (put_answers (put_of xs (trie_from image) name v run limit).answer refl)

-- Remove.
module _ (xs image name : List ℕ) (limit : ℕ) (out : List ℕ) (w : IsImage image) where
  abbrev remove_left : ℕ × List ℕ × List ℕ × List ℕ
  remove_left = pal_remove_of xs image name limit out

  remove_refuses : (c : Cause) → (remove_of xs (trie_from image) name limit).answer ≡ RemoveRefused c → remove_left ≡ change_refusal xs image out c
  remove_refuses c a = rw (remove_is image w xs name limit out, a, (demand_1.remove_leaves xs (trie_from image) name limit c a).0)

  remove_exactly : IsOut out → Exactly (change_refusal xs image out) remove_left (remove_table xs (trie_from image) name limit)
  remove_exactly h c = (
    λ e. let f : ((said_by_remove (remove_of xs (trie_from image) name limit).answer).0, (remove_of xs (trie_from image) name limit).file, image_removed (remove_of xs (trie_from image) name limit).answer (remove_of xs (trie_from image) name limit).trie image, out_after (said_by_remove (remove_of xs (trie_from image) name limit).answer) out) ≡ change_refusal xs image out c = sym (remove_is image w xs name limit out) ∙ e in
        (demand_1.remove xs (trie_from image) name limit c).0 (remove_cause out (omega arith) c (remove_of xs (trie_from image) name limit).answer (ap (λ (o : ℕ × List ℕ × List ℕ × List ℕ). o.0) f) (ap (λ (o : ℕ × List ℕ × List ℕ × List ℕ). o.3) f)),
    λ f. remove_refuses c ((demand_1.remove xs (trie_from image) name limit c).1 f),
  )

  remove_answers : (a : RemoveAnswer) → (remove_of xs (trie_from image) name limit).answer ≡ a → Answers (change_refusal xs image out) (120 ∷ 101 ∷ 112 ∷ []) remove_left (said_by_remove a).0
  remove_answers (Removed k) e = first_of
  remove_answers NotHeld e = second_of
  remove_answers (RemoveStopped made) e = third_of
  remove_answers (RemoveRefused c) e = inl (c, remove_refuses c e)

  remove_told : Answers (change_refusal xs image out) (120 ∷ 101 ∷ 112 ∷ []) remove_left remove_left.0
  remove_told = subst (λ (k : ℕ). Answers (change_refusal xs image out) (120 ∷ 101 ∷ 112 ∷ []) remove_left k) (sym (ap (λ (o : ℕ × List ℕ × List ℕ × List ℕ). o.0) (remove_is image w xs name limit out))) (remove_answers (remove_of xs (trie_from image) name limit).answer refl)

-- List.
module _ (xs image low high output out : List ℕ) (w : IsImage image) where
  abbrev list_left : ℕ × List ℕ × List ℕ
  list_left = pal_list_of xs image low high output out

  list_refuses : (c : Cause) → (list_of xs (trie_from image) low high output).answer ≡ ListRefused c → list_left ≡ list_refusal output out c
  list_refuses c a = rw (list_is image w xs low high output out, a, demand_1.list_leaves xs (trie_from image) low high output c a)

  list_exactly : IsOut out → Exactly (list_refusal output out) list_left (list_table xs (trie_from image) low high output)
  list_exactly h c = (
    λ e. let f : ((said_by_list (list_of xs (trie_from image) low high output).answer).0, (list_of xs (trie_from image) low high output).output, out_after (said_by_list (list_of xs (trie_from image) low high output).answer) out) ≡ list_refusal output out c = sym (list_is image w xs low high output out) ∙ e in
        (demand_1.list xs (trie_from image) low high output c).0 (list_cause out (omega arith) c (list_of xs (trie_from image) low high output).answer (ap (λ (o : ℕ × List ℕ × List ℕ). o.0) f) (ap (λ (o : ℕ × List ℕ × List ℕ). o.2) f)),
    λ f. list_refuses c ((demand_1.list xs (trie_from image) low high output c).1 f),
  )

  list_answers : (a : ListAnswer) → (list_of xs (trie_from image) low high output).answer ≡ a → Answers (list_refusal output out) (152 ∷ []) list_left (said_by_list a).0
  list_answers (Listed count) e = first_of
  list_answers (ListRefused c) e = inl (c, list_refuses c e)

  list_told : Answers (list_refusal output out) (152 ∷ []) list_left list_left.0
  list_told = subst (λ (k : ℕ). Answers (list_refusal output out) (152 ∷ []) list_left k) (sym (ap (λ (o : ℕ × List ℕ × List ℕ). o.0) (list_is image w xs low high output out))) (list_answers (list_of xs (trie_from image) low high output).answer refl)

-- Check.
check_answers : (k : Kind) → Memᴰ (said_by_check k).0 (140 ∷ 141 ∷ 142 ∷ [])
check_answers is_sound = mem_head refl
check_answers (is_cut N) = mem_tail (mem_head refl)
check_answers is_bad = mem_tail (mem_tail (mem_head refl))

pub check_number : (xs : List ℕ) → pal_check_of xs ≡ (said_by_check (check_file xs)).0
unfolding pal_check_of
check_number xs = refl

pub demand_1_c : Demand1C our_c_calls
demand_1_c = record {
  create = create_exactly;
  recover = recover_exactly;
  rebuild = rebuild_exactly;
  look_up = look_up_exactly;
  put = put_exactly;
  remove = remove_exactly;
  list = list_exactly;
  create_says = create_told;
  recover_says = recover_told;
  rebuild_says = rebuild_told;
  look_up_says = look_up_told;
  put_says = put_told;
  remove_says = remove_told;
  list_says = list_told;
  check_says = λ xs. rw (check_number xs) (check_answers (check_file xs));
  create_malformed = λ xs v b slots image n. create_malformed image n xs v b slots;
  rebuild_malformed = λ xs image n. rebuild_malformed image n xs;
  look_up_malformed = λ xs image name out n. look_up_is_malformed image n xs name out;
  put_malformed = λ xs image name v run limit out n. put_malformed image n xs name v run limit out;
  remove_malformed = λ xs image name limit out n. remove_malformed image n xs name limit out;
  list_malformed = λ xs image low high output out n. list_malformed image n xs low high output out;
}
