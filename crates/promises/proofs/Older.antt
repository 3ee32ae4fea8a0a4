-- What the build before inner blanks makes of each file is what today's makes of it, or a refusal.
use Rattle.model.proofs.Prelude.{Bool, List, Option, [], ◌&&◌, ◌++◌, ◌-◌, ◌/◌, ◌<◌, ◌^◌, ◌∙◌, ◌∷◌, ◌≡◌, ◌≤◌, ◌⊎◌, ap, arith, clash, cond, dec_lt, eqb, false, inl, inr, le-leb, le-ltb, leb, leb-true, length, length-set, ltb, not, nothing, refl, replicate, set, some, suc, sym, take, take-length, true, zero, ℕ, ℕ_discrete}
use Rattle.model.specs.declared.Cause.TheVariants.{BadFile as bad_file, IllegalName, StaleTrie, WrongSize}
use Rattle.model.specs.declared.Layout.{Layout}
use Rattle.model.specs.Results.{Freed, Given, ListRefused, LookUpAnswer, LookUpRefused, PutRefused, PutStopped, RecoverRefused, RecoverStopped, RemoveRefused, RemoveStopped, TrieRefused}
use Rattle.model.specs.declared.Side.{Side}
use Rattle.model.specs.declared.Trie.{Trie}
use Rattle.model.specs.Order.{Low, Str, ◌⊑◌, ◌◁◌, at}
use Rattle.model.specs.Tests.{is_above, is_at_most, is_legal_name, same_str}
use Rattle.model.specs.Names.{broken, filled}
use Rattle.model.specs.Entries.{Entry, content_from, find, insert, keep, without}
use Rattle.model.specs.Files.{Slot, Sound, Well, created, free, slot_at, used, well_free, well_used}
use Rattle.model.specs.Tries.{root, root_side, walk_of, walk_run}
use Rattle.model.specs.Changes.{Request, Result, Store, merged, put, remove, stored, trie_removed}
use Rattle.model.specs.Places.{place_of}
use Rattle.model.specs.Checks.{Kind, check, is_bad, is_cut, is_sound, is_well_formed}
use Rattle.model.specs.Format.{AreBytes, BadFile, CutFile, are_legal_sizes, bytes_at_slot, check_file, check_read, check_read_with, entry_length, file_bytes, file_size, header_of, is_right_header, kept_run, layout_of, read_file, read_slot, store_bytes}
use Rattle.model.specs.Calls.{CreateDone, Looked, PutDone, RecoverDone, RemoveDone, arrived_answer, create_of, fine, headed_answer, held, held_answer, landed, list_of, list_on_looked, list_with, look_up_of, look_up_with, looked_at_by, looked_of, new_trie, no_rebuilt, put_answer, put_by_stores, put_made_with, put_of, put_on_looked, rebuild_by, rebuild_of, recover_by, recover_of, recover_with, refusing, remove_answer, remove_by_stores, remove_made_with, remove_of, remove_on_looked, slot_answer, stores_bytes, trie_after_put}
use Rattle.model.proofs.Deciding.{le?, over, str?}
use Rattle.model.proofs.Names.{is_legal_name_legal, length_filled}
use Rattle.model.proofs.Entries.{length_keep, row_insert, row_keep}
use Rattle.model.proofs.Changes.{Change, absent, fits, inside_a, new_well, old_well, removes, splits, well_a}
use Rattle.model.proofs.Calls.{Answered, is_denied, is_made, put_right, put_taken, remove_right}
use Rattle.model.proofs.Created.{created_left}
use Rattle.model.proofs.Places.{place_lt}
use Rattle.model.proofs.Stores.{Asked, change_legal, left_freed, left_stored, legal_take}
use Rattle.model.proofs.Checks.{well_is_well_formed}
use Rattle.model.proofs.CheckedFiles.{CheckedFile, check_file_right}
use Rattle.model.proofs.Files.{at_set, cut_well}
use Rattle.model.proofs.Format.{are_legal_sizes_sizes, contents_read_file, file_bytes-read_file, headed_header_of, headed_layout, headed_slots, put_fits, read_file_read, read_slot-read_file}
use Rattle.model.proofs.Order.{le_trans, low_at, low_lower, lt_le}
use Rattle.model.proofs.Tests.{both_true, equal_same_str, le_is_at_most, lt_is_at_most, same_str_other, true_or_false}
use Rattle.model.proofs.Merging.{Removal, alone, leftward, removal_is, rightward, row_merged, whole_low}
use Rattle.promises.specs.Calls.{our_calls}
use Rattle.promises.specs.Demand1.{Arrives, RightHeader, here, left_of, right_of, slots_of}
use Rattle.promises.specs.Older.{BlankFile, HoldsBlank, Older, PlainFile, Reads, checked_by_older, is_older_name, kind_of_older, looked_by_older, older_arrived, older_calls, older_headed, older_rebuild, older_slot_answer}
use Rattle.promises.proofs.Demand1.{header_right, right_header}
use Rattle.promises.proofs.Walking.{arrives_walked, walked, walked_right}
use Rattle.promises.proofs.Leading.{Passed, looked_passed}
use Rattle.promises.proofs.Blanks.{are_all_plain, at_plain, blank_slot, filled_plain, holds_blank, holds_none, is_plain, is_plain_slot, name_older, older_is_legal_name, older_kind, older_name, older_well, plain_at, plain_entries, plain_freed, plain_slot}

-- A file that is read is plain where its slots are.
module _ (xs : List ℕ) {y : Layout} {fs : List Slot} (e : read_file xs ≡ some (y, fs)) where
  layout_is : layout_of xs ≡ y
  layout_is = headed_layout (read_file_read xs e).headed

  slots_are : slots_of xs ≡ length fs
  slots_are = headed_slots (read_file_read xs e).headed

  pub slots_plain : PlainFile xs → are_all_plain fs ≡ true
  slots_plain n = at_plain fs (λ B k. plain_slot (slot_at fs B) (λ H. n (record { number = B; inside = rw slots_are k; slot = slot_at fs B; is = rw layout_is (read_slot-read_file xs e B k); holds = H })))

  pub plain_slots : are_all_plain fs ≡ true → PlainFile xs
  plain_slots p F =
      let r : read_slot y (bytes_at_slot y F.number xs) ≡ some (slot_at fs F.number) = read_slot-read_file xs e F.number (rw slots_are at F.inside) in
      let o : some F.slot ≡ some (slot_at fs F.number) = sym (rw layout_is at F.is) ∙ r in
      let s : F.slot ≡ slot_at fs F.number = cc in
      holds_none (slot_at fs F.number) (plain_at fs p F.number) (rw s at F.holds)

-- Check, and what put, remove and list look at.
older_check : (xs : List ℕ) → PlainFile xs → checked_by_older xs ≡ check_file xs
unfolding checked_by_older check_file check_read
older_check xs n = go (read_file xs) refl
  where
    go : (r : Option (Layout × List Slot)) → read_file xs ≡ r → check_read_with kind_of_older r ≡ check_read r
    go nothing e = refl
    go (some (y, fs)) e = older_kind y.b fs ∙ rw (slots_plain xs e n)

older_bad : (xs : List ℕ) → BlankFile xs → checked_by_older xs ≡ is_bad
unfolding checked_by_older
older_bad xs F = go (read_file xs) refl
  where
    go : (r : Option (Layout × List Slot)) → read_file xs ≡ r → check_read_with kind_of_older r ≡ is_bad
    go nothing e = refl
    go (some (y, fs)) e = older_kind y.b fs ∙ by (are_all_plain fs) refl
      where
        by : (p : Bool) → are_all_plain fs ≡ p → cond p (check y.b fs) is_bad ≡ is_bad
        by true q = absurd (plain_slots xs e q F)
        by false q = refl

older_looked : (xs : List ℕ) (t : Trie) → PlainFile xs → looked_by_older xs t ≡ looked_of xs t
unfolding looked_by_older looked_of
older_looked xs t n = ap (λ (k : Kind). looked_at_by t k (read_file xs)) (older_check xs n)

bad_looked : (xs : List ℕ) (t : Trie) → BlankFile xs → looked_by_older xs t ≡ refusing bad_file
unfolding looked_by_older looked_at_by
bad_looked xs t F = rw (older_bad xs F)

same_recover : (xs : List ℕ) (limit : ℕ) → PlainFile xs → recover_with checked_by_older xs limit ≡ recover_of xs limit
unfolding recover_of
same_recover xs limit n = rw (older_check xs n)

same_rebuild : (xs : List ℕ) → PlainFile xs → older_rebuild xs ≡ rebuild_of xs
unfolding rebuild_of
same_rebuild xs n = rw (older_check xs n)

module _ (xs : List ℕ) (t : Trie) where
  same_put : (name : List ℕ) (v run limit : ℕ) → PlainFile xs → is_older_name name ≡ true → put_made_with is_older_name looked_by_older xs t name v run limit ≡ put_of xs t name v run limit
  unfolding put_of
  same_put name v run limit n e = rw (e, older_is_legal_name name e, older_looked xs t n)

  same_remove : (name : List ℕ) (limit : ℕ) → PlainFile xs → is_older_name name ≡ true → remove_made_with is_older_name looked_by_older xs t name limit ≡ remove_of xs t name limit
  unfolding remove_of
  same_remove name limit n e = rw (e, older_is_legal_name name e, older_looked xs t n)

  same_list : (low high out : List ℕ) → PlainFile xs → is_older_name low ≡ true → is_older_name high ≡ true → list_with is_older_name looked_by_older xs t low high out ≡ list_of xs t low high out
  unfolding list_of
  same_list low high out n e f = rw (e, f, older_is_legal_name low e, older_is_legal_name high f, older_looked xs t n)

-- Look up.
reads_plain : Option Slot → Bool
reads_plain nothing = true
reads_plain (some x) = is_plain_slot x

older_slot : (b : ℕ) (n : Str) (o : Option Slot) → older_slot_answer b n o ≡ cond (reads_plain o) (slot_answer b n o) (LookUpRefused bad_file)
unfolding older_slot_answer slot_answer reads_plain plain_entries
older_slot b n nothing = refl
older_slot b n (some free) = refl
older_slot b n (some (used l u es)) = rw (older_well b (used l u es)) (parts (is_well_formed b (used l u es)) (plain_entries es) _)
  where
    parts : (w p : Bool) (a : LookUpAnswer) → cond (w && p) a (LookUpRefused bad_file) ≡ cond p (cond w a (LookUpRefused bad_file)) (LookUpRefused bad_file)
    parts true true a = refl
    parts true false a = refl
    parts false true a = refl
    parts false false a = refl

arrives_inside : (slots : ℕ) (t : Trie) (n : Str) {f k : ℕ} {p : Str} {a : Side} → Arrives slots t n f p a k → k < slots
arrives_inside slots t n (here h) = h
arrives_inside slots t n (left_of h i j w r) = arrives_inside slots t n r
arrives_inside slots t n (right_of h i j w r) = arrives_inside slots t n r

right_header_of : (xs : List ℕ) → RightHeader xs → header_of xs ≡ some (layout_of xs, slots_of xs)
unfolding header_of
right_header_of xs R = rw (header_right R)

module _ (xs : List ℕ) (t : Trie) (name : List ℕ) (legal : is_older_name name ≡ true) where
  abbrev n : Str
  n = filled name

  abbrev older : LookUpAnswer
  older = look_up_with is_older_name older_headed xs t name

  abbrev ended : Option ℕ
  ended = walked (slots_of xs) t n (length_filled name) t.count [] root (root_side t.count t.first)

  -- A slot at which the walk arrives is the one that is read.
  reads : (k : ℕ) {x : Slot} → is_right_header (layout_of xs) (slots_of xs) xs ≡ true → leb t.count 256 ≡ true → ended ≡ some k
      → read_slot (layout_of xs) (bytes_at_slot (layout_of xs) k xs) ≡ some x → Reads xs t name x
  reads k h c e r = record {
    right = right_header xs h;
    few = leb-true t.count 256 c;
    number = k;
    arrives = rw e at (walked_right (slots_of xs) t n (length_filled name) t.count [] root (root_side t.count t.first));
    is = r;
  }

  older_refuses : (x : Slot) → Reads xs t name x → HoldsBlank x → older ≡ LookUpRefused bad_file
  unfolding older_headed older_arrived reads_plain walk_of
  older_refuses x R H =
      rw (legal, right_header_of xs R.right, le-leb t.count 256 R.few, arrives_walked (slots_of xs) t n (length_filled name) R.arrives root, R.is, older_slot (layout_of xs).b n (some x), blank_slot x H)

  older_answers : ((x : Slot) → Reads xs t name x → ¬ HoldsBlank x) → older ≡ look_up_of xs t name
  unfolding look_up_of header_of headed_answer older_headed arrived_answer older_arrived reads_plain walk_of
  older_answers none = rw (legal, older_is_legal_name name legal) (headed (is_right_header (layout_of xs) (slots_of xs) xs) refl)
    where
      slot_read : (k : ℕ) → is_right_header (layout_of xs) (slots_of xs) xs ≡ true → leb t.count 256 ≡ true → ended ≡ some k
          → (o : Option Slot) → read_slot (layout_of xs) (bytes_at_slot (layout_of xs) k xs) ≡ o → older_slot_answer (layout_of xs).b n o ≡ slot_answer (layout_of xs).b n o
      slot_read k h c e nothing r = older_slot (layout_of xs).b n nothing
      slot_read k h c e (some x) r = older_slot (layout_of xs).b n (some x) ∙ rw (plain_slot x (none x (reads k h c e r)))

      arrived : is_right_header (layout_of xs) (slots_of xs) xs ≡ true → leb t.count 256 ≡ true → (o : Option ℕ) → ended ≡ o
          → older_arrived xs (layout_of xs) n o ≡ arrived_answer xs (layout_of xs) n o
      arrived h c nothing e = refl
      arrived h c (some k) e = slot_read k h c e (read_slot (layout_of xs) (bytes_at_slot (layout_of xs) k xs)) refl

      counted : is_right_header (layout_of xs) (slots_of xs) xs ≡ true → (c : Bool) → leb t.count 256 ≡ c
          → older_arrived xs (layout_of xs) n (landed (slots_of xs) (cond c (walk_run t.count t.count t.cells n [] root (root_side t.count t.first)) nothing))
          ≡ arrived_answer xs (layout_of xs) n (landed (slots_of xs) (cond c (walk_run t.count t.count t.cells n [] root (root_side t.count t.first)) nothing))
      counted h true c = arrived h c ended refl
      counted h false c = refl

      headed : (h : Bool) → is_right_header (layout_of xs) (slots_of xs) xs ≡ h
          → older_headed xs t n (cond h (some (layout_of xs, slots_of xs)) nothing) ≡ headed_answer xs t n (cond h (some (layout_of xs, slots_of xs)) nothing)
      headed true h = counted h (leb t.count 256) refl
      headed false h = refl

same_look_up : (xs : List ℕ) (t : Trie) (name : List ℕ) → PlainFile xs → is_older_name name ≡ true → look_up_with is_older_name older_headed xs t name ≡ look_up_of xs t name
same_look_up xs t name p e =
    older_answers xs t name e (λ x R H. p (record { number = R.number; inside = arrives_inside (slots_of xs) t (filled name) R.arrives; slot = x; is = R.is; holds = H }))

-- A file that is not bad today is read, and each of its slots is well formed.
not_bad : (xs : List ℕ) → ¬ BadFile xs → (y : Layout) × (fs : List Slot) × (read_file xs ≡ some (y, fs)) × ((B : ℕ) → Well y.b (slot_at fs B))
not_bad xs n = go (check_file xs) (check_file_right xs)
  where
    go : (k : Kind) → CheckedFile xs k → (y : Layout) × (fs : List Slot) × (read_file xs ≡ some (y, fs)) × ((B : ℕ) → Well y.b (slot_at fs B))
    go is_sound S = (S.layout, S.slots, S.is, S.sound.well)
    go (is_cut N) C = (C.layout, C.slots, C.is, cut_well C.layout.b C.cut)
    go is_bad B = absurd (n B)

-- Today no slot that is well formed is refused with 2.
well_answered : (b : ℕ) (n : Str) (x : Slot) → Well b x → ¬ (slot_answer b n (some x) ≡ LookUpRefused bad_file)
unfolding slot_answer
well_answered b n free w e = clash cc
well_answered b n (used l u es) w e = by (is_above l n && is_at_most n u) (find n es) (rw (well_is_well_formed b w) at e)
  where
    by : (r : Bool) (o : Option ℕ) → cond r (held_answer o) (LookUpRefused (StaleTrie (broken l u n))) ≡ LookUpRefused bad_file → ⊥
    by true nothing e = clash cc
    by true (some v) e = clash cc
    by false o e = clash cc

older_exactly : (xs : List ℕ) (t : Trie) (name : List ℕ) → is_older_name name ≡ true → ¬ BadFile xs → look_up_with is_older_name older_headed xs t name ≡ LookUpRefused bad_file
    → (x : Slot) × Reads xs t name x × HoldsBlank x
unfolding older_headed older_arrived header_of reads_plain walk_of
older_exactly xs t name legal nb q = headed (is_right_header (layout_of xs) (slots_of xs) xs) refl (rw legal at q)
  where
    n : Str
    n = filled name

    Held : Type 0
    Held = (x : Slot) × Reads xs t name x × HoldsBlank x

    file : (y : Layout) × (fs : List Slot) × (read_file xs ≡ some (y, fs)) × ((B : ℕ) → Well y.b (slot_at fs B))
    file = not_bad xs nb

    slot_is : (k : ℕ) → k < slots_of xs → read_slot (layout_of xs) (bytes_at_slot (layout_of xs) k xs) ≡ some (slot_at file.1 k)
    slot_is k h = rw (layout_is xs file.2) (read_slot-read_file xs file.2 k (rw (slots_are xs file.2) at h))

    slot_read : (k : ℕ) (R : Reads xs t name (slot_at file.1 k)) → older_slot_answer (layout_of xs).b n (some (slot_at file.1 k)) ≡ LookUpRefused bad_file → Held
    slot_read k R q = by (is_plain_slot (slot_at file.1 k)) refl
      where
        by : (p : Bool) → is_plain_slot (slot_at file.1 k) ≡ p → Held
        by false p = (slot_at file.1 k, R, holds_blank (slot_at file.1 k) p)
        by true p =
            absurd (well_answered (layout_of xs).b n (slot_at file.1 k) (rw (layout_is xs file.2) (file.3 k)) (sym (older_slot (layout_of xs).b n (some (slot_at file.1 k)) ∙ rw p) ∙ q))

    arrived : is_right_header (layout_of xs) (slots_of xs) xs ≡ true → leb t.count 256 ≡ true → (o : Option ℕ) → ended xs t name legal ≡ o
        → older_arrived xs (layout_of xs) n o ≡ LookUpRefused bad_file → Held
    arrived h c nothing e q = clash cc
    arrived h c (some k) e q =
        let i = arrives_inside (slots_of xs) t n (rw e at (walked_right (slots_of xs) t n (length_filled name) t.count [] root (root_side t.count t.first))) in
        slot_read k (reads xs t name legal k h c e (slot_is k i)) (rw (slot_is k i) at q)

    counted : is_right_header (layout_of xs) (slots_of xs) xs ≡ true → (c : Bool) → leb t.count 256 ≡ c
        → older_arrived xs (layout_of xs) n (landed (slots_of xs) (cond c (walk_run t.count t.count t.cells n [] root (root_side t.count t.first)) nothing)) ≡ LookUpRefused bad_file → Held
    counted h true c q = arrived h c (ended xs t name legal) refl q
    counted h false c q = clash cc

    headed : (h : Bool) → is_right_header (layout_of xs) (slots_of xs) xs ≡ h → older_headed xs t n (cond h (some (layout_of xs, slots_of xs)) nothing) ≡ LookUpRefused bad_file → Held
    headed true h q = counted h (leb t.count 256) refl q
    headed false h q =
        let o = headed_header_of (read_file_read xs file.2).headed in
        let z : ◌≡◌ {A = Option (Layout × ℕ)} nothing (some (file.0, length file.1)) = sym (rw h) ∙ o in
        clash cc

-- Every other file is refused.
refuses_recover : (xs : List ℕ) (limit : ℕ) → BlankFile xs → limit ≤ 2 → recover_with checked_by_older xs limit ≡ record { answer = RecoverRefused bad_file; file = xs }
unfolding recover_by
refuses_recover xs limit F h = rw (le-ltb 2 limit h, older_bad xs F)

refuses_rebuild : (xs : List ℕ) → BlankFile xs → older_rebuild xs ≡ no_rebuilt bad_file
unfolding rebuild_by
refuses_rebuild xs F = rw (older_bad xs F)

module _ (xs : List ℕ) (t : Trie) (F : BlankFile xs) where
  refuses_put : (name : List ℕ) (v run limit : ℕ) → is_older_name name ≡ true → limit ≤ 2
      → put_made_with is_older_name looked_by_older xs t name v run limit ≡ record { answer = PutRefused bad_file; file = xs; trie = t }
  unfolding put_on_looked
  refuses_put name v run limit e h = rw (le-ltb 2 limit h, e, bad_looked xs t F)

  refuses_remove : (name : List ℕ) (limit : ℕ) → is_older_name name ≡ true → limit ≤ 2
      → remove_made_with is_older_name looked_by_older xs t name limit ≡ record { answer = RemoveRefused bad_file; file = xs; trie = t }
  unfolding remove_on_looked
  refuses_remove name limit e h = rw (le-ltb 2 limit h, e, bad_looked xs t F)

  refuses_list : (low high out : List ℕ) → is_older_name low ≡ true → is_older_name high ≡ true
      → list_with is_older_name looked_by_older xs t low high out ≡ record { answer = ListRefused bad_file; output = out }
  unfolding list_on_looked
  refuses_list low high out e f = rw (e, f, bad_looked xs t F)

-- A file without inner blanks stays one. Each store of a change puts a slot that is well formed and plain.
plain_keep : (t : Str → Bool) (es : List Entry) → plain_entries es ≡ true → plain_entries (keep t es) ≡ true
unfolding keep plain_entries
plain_keep t [] h = refl
plain_keep t (e ∷ es) h =
    let p = both_true (is_plain e.0) (plain_entries es) h in
    elim (true_or_false (t e.0)) [
      | inl k ↦ rw (k, p.0) (plain_keep t es p.1)
      | inr k ↦ rw k (plain_keep t es p.1)
    ]

plain_insert : (n : Str) (v : ℕ) (es : List Entry) → is_plain n ≡ true → plain_entries es ≡ true → plain_entries (insert n v es) ≡ true
unfolding insert plain_entries
plain_insert n v [] g h = rw g
plain_insert n v (e ∷ es) g h =
    let p = both_true (is_plain e.0) (plain_entries es) h in
    elim (le? n e.0) [
      | no k ↦ rw (lt_is_at_most n e.0 k, p.0) (plain_insert n v es g p.1)
      | yes k ↦ elim (str? n e.0) [
        | yes j ↦ rw (le_is_at_most n e.0 k, equal_same_str n e.0 j, g) p.1
        | no j ↦ rw (le_is_at_most n e.0 k, same_str_other n e.0 j, g) h
      ]
    ]

-- Slots that are well formed and plain.
Fit : ℕ → Slot → Type 0
Fit b x = Well b x × (is_plain_slot x ≡ true)

EachFit : ℕ → ℕ → List Store → Type 0
EachFit b n [] = Unit {0}
EachFit b n (s ∷ ss) = (s.0 < n) × Fit b s.1 × EachFit b n ss

fit_take : (b n k : ℕ) (ss : List Store) → EachFit b n ss → EachFit b n (take k ss)
unfolding EachFit
fit_take b n zero ss h = tt
fit_take b n (suc k) [] h = tt
fit_take b n (suc k) (s ∷ ss) h = (h.0, h.1, fit_take b n k ss h.2)

fit_stored : (b : ℕ) (ss : List Store) (fs : List Slot) → EachFit b (length fs) ss → ((B : ℕ) → Fit b (slot_at fs B)) → (B : ℕ) → Fit b (slot_at (stored ss fs) B)
unfolding EachFit
fit_stored b [] fs h f = f
fit_stored b (s ∷ ss) fs h f =
    fit_stored b ss (set fs s.0 s.1) (rw (length-set fs s.0 s.1) h.2) (at_set (λ B x. Fit b x) fs s.0 s.1 h.0 h.1 (λ B d. f B))

plain_none : plain_entries [] ≡ true
unfolding plain_entries
plain_none = refl

plain_append : (es gs : List Entry) → plain_entries es ≡ true → plain_entries gs ≡ true → plain_entries (es ++ gs) ≡ true
unfolding plain_entries
plain_append [] gs h k = k
plain_append (e ∷ es) gs h k = let p = both_true (is_plain e.0) (plain_entries es) h in rw p.0 (plain_append es gs p.1 k)

PlainAsked : Request → Type 0
PlainAsked (put n v) = is_plain n ≡ true
PlainAsked (remove n) = Unit {0}

change_fit : (y : Layout) → 2 ≤ y.b → {fs : List Slot} {q : Request} {ss : List Store} → Sound y.b fs → Change y.b (place_of y) fs q ss → PlainAsked q
    → ((B : ℕ) → is_plain_slot (slot_at fs B) ≡ true) → EachFit y.b (length fs) ss
unfolding EachFit Fit PlainAsked
change_fit y two {fs} S (fits {A = A} {l = l} {u = u} {es = es} {n = n} {v = v} is g lo up k) a p =
    let w = well_a y.b fs S A l u es is in
    let e : plain_entries es ≡ true = rw is at (p A) in
    (inside_a y.b fs S A l u es is, (well_used w.0 w.1 w.2 (row_insert n v g lo up w.3) k, plain_insert n v es a e), tt)
change_fit y two {fs} S (splits {A = A} {N = N} {l = l} {u = u} {es = es} {n = n} {v = v} is g lo up big low few) a p =
    let e : plain_entries (insert n v es) ≡ true = plain_insert n v es a (rw is at (p A)) in
    let i = place_of y (insert n v es) in
    let j = place_lt y two (insert n v es) in (
      low.inside,
      (new_well y.b fs S A l u es is n v g lo up big i j N low, plain_keep _ (insert n v es) e),
      (inside_a y.b fs S A l u es is, (old_well y.b fs S A l u es is n v g lo up big i j N low, plain_keep _ (insert n v es) e), tt),
    )
change_fit y two {fs} S (removes A {l = l} {u = u} {es = es} {n = n} is lo up f) a p = go (removal_is y.b fs n A l u es)
  where
    merge : (L R : ℕ) (k : Low) (s v : Str) (ds gs : List Entry) → slot_at fs L ≡ used k s ds → slot_at fs R ≡ used (at s) v gs → k ◁ n → n ⊑ v
        → length (without n (ds ++ gs)) ≤ y.b / 2 → EachFit y.b (length fs) (merged n L R k v ds gs)
    merge L R k s v ds gs l_is r_is lo up few =
        let w = well_a y.b fs S L k s ds l_is in
        let x = well_a y.b fs S R (at s) v gs r_is in
        let r = row_merged y.b fs S L R k s v ds gs l_is r_is n lo up in
        let e : plain_entries (ds ++ gs) ≡ true = plain_append ds gs (rw l_is at (p L)) (rw r_is at (p R)) in
        let c : length (without n (ds ++ gs)) ≤ y.b = omega (arith, few) in
        (inside_a y.b fs S L k s ds l_is, (well_used w.0 x.1 (whole_low y.b fs S L R k s v ds gs l_is r_is) r c, plain_keep _ (ds ++ gs) e), (inside_a y.b fs S R (at s) v gs r_is, (well_free, plain_none), tt))

    go : {ss : List Store} → Removal y.b fs n A l u es ss → EachFit y.b (length fs) ss
    go (alone c d) =
        let w = well_a y.b fs S A l u es is in
        let e : plain_entries es ≡ true = rw is at (p A) in
        let r = row_keep (λ k. not (same_str k n)) l u w.3 (λ k p c d. (c, d)) in
        let k : length (without n es) ≤ y.b = omega (arith, length_keep (λ k. not (same_str k n)) es, w.4) in
        (inside_a y.b fs S A l u es is, (well_used w.0 w.1 w.2 r k, plain_keep _ es e), tt)
    go (rightward {R = R} {v = v} {gs = gs} r_is k) =
        merge A R l u v es gs is r_is lo (le_trans up (lt_le (over (well_a y.b fs S R (at u) v gs r_is).2))) k
    go (leftward {L = L} {k = k} {s = s} {ds = ds} c q l_is few) =
        merge L A k s u ds es l_is (is ∙ ap (λ x. used x u es) q) (low_lower (low_at (well_a y.b fs S L k s ds l_is).2) (rw q at lo)) up few
change_fit y two S (absent A is lo up f) a p = tt

-- So what some or all of a change's stores leave is plain.
module _ (xs : List ℕ) (bytes : AreBytes xs) (plain : PlainFile xs) (t : Trie) {y : Layout} {fs : List Slot} (p : Passed xs t y fs) where
  stored_plain : {q : Request} {ss : List Store} → Change y.b (place_of y) fs q ss → Asked (entry_length y) q → PlainAsked q → (k : ℕ)
      → PlainFile (stores_bytes y (take k ss) xs)
  unfolding Fit
  stored_plain {ss = ss} c asked a k =
      let two : 2 ≤ y.b = (file_bytes-read_file xs p.is).1.b_least in
      let slots : (B : ℕ) → is_plain_slot (slot_at fs B) ≡ true = plain_at fs (slots_plain xs p.is plain) in
      let each = fit_stored y.b (take k ss) fs (fit_take y.b (length fs) k ss (change_fit y two p.sound c a slots)) (λ B. (p.sound.well B, slots B)) in
      let g = legal_take (entry_length y) (length fs) k ss (change_legal (entry_length y) y.b (place_of y) c asked (contents_read_file xs bytes p.is)) in
      plain_slots (stores_bytes y (take k ss) xs) (left_stored y xs bytes p.is (take k ss) g (λ B. (each B).0)).is (at_plain (stored (take k ss) fs) (λ B h. (each B).1))

  all_plain : {q : Request} {ss : List Store} → Change y.b (place_of y) fs q ss → Asked (entry_length y) q → PlainAsked q → PlainFile (stores_bytes y ss xs)
  all_plain {ss = ss} c asked a = rw (take-length ss) at (stored_plain c asked a (length ss))

free_plain : (k : ℕ) → are_all_plain (replicate k free) ≡ true
unfolding are_all_plain plain_entries
free_plain zero = refl
free_plain (suc k) = free_plain k

create_plain : (xs : List ℕ) (v b slots : ℕ) → PlainFile xs → PlainFile (create_of xs v b slots).file
unfolding create_of are_all_plain plain_entries
create_plain xs v b slots n = go (are_legal_sizes y slots && eqb (length xs) (file_size y slots)) refl
  where
    y : Layout
    y = record { version = v; b = b }

    go : (c : Bool) → (are_legal_sizes y slots && eqb (length xs) (file_size y slots)) ≡ c
        → PlainFile (cond {A = CreateDone} c (record { answer = Given; file = file_bytes y (created slots); trie = new_trie }) (record { answer = TrieRefused WrongSize; file = xs; trie = new_trie })).file
    go true e =
        let p = both_true (are_legal_sizes y slots) (eqb (length xs) (file_size y slots)) e in
        plain_slots (file_bytes y (created slots)) (created_left y slots (are_legal_sizes_sizes y slots p.0)).is (free_plain (slots - 1))
    go false e = n

recover_plain : (xs : List ℕ) (limit : ℕ) → AreBytes xs → PlainFile xs → PlainFile (recover_of xs limit).file
unfolding recover_of recover_by
recover_plain xs limit bytes n = limited (ltb 2 limit)
  where
    freed : (N : ℕ) → CutFile xs N → PlainFile (store_bytes (layout_of xs) N free xs)
    freed N C =
        let p = both_true (is_plain_slot (slot_at C.slots N)) (are_all_plain (set C.slots N free)) (sym (plain_freed C.slots N) ∙ slots_plain xs C.is n) in
        plain_slots (store_bytes (layout_of xs) N free xs) (left_freed C.layout xs bytes C.is C.cut).is p.1

    by : (k : Kind) → CheckedFile xs k → PlainFile (recover_by xs limit k).file
    by is_bad B = n
    by is_sound S = n
    by (is_cut N) C = go (ltb limit 1)
      where
        go : (c : Bool) → PlainFile (cond {A = RecoverDone} c (record { answer = RecoverStopped 0; file = xs }) (record { answer = Freed N; file = store_bytes (layout_of xs) N free xs })).file
        go true = n
        go false = freed N C

    limited : (c : Bool) → PlainFile (cond {A = RecoverDone} c (record { answer = RecoverRefused WrongSize; file = xs }) (recover_by xs limit (check_file xs))).file
    limited true = n
    limited false = by (check_file xs) (check_file_right xs)

module _ (xs : List ℕ) (bytes : AreBytes xs) (plain : PlainFile xs) (t : Trie) (name : List ℕ) where
  put_plain : (v run limit : ℕ) → v < 2 ^ 64 → run < 2 ^ 64 → is_older_name name ≡ true → PlainFile (put_of xs t name v run limit).file
  unfolding put_of put_on_looked put_by_stores PlainAsked
  put_plain v run limit small low legal = rw (older_is_legal_name name legal) (limited (ltb 2 limit))
    where
      n : Str
      n = filled name

      content : Layout → ℕ
      content y = content_from v (kept_run y run)

      made : {y : Layout} {fs : List Slot} → Passed xs t y fs → {r : Result} → Answered y.b (place_of y) fs (put n (content y)) r → PlainFile (put_by_stores xs t y fs n (content y) limit r).file
      made p (is_denied d) = plain
      made {y} {fs} p (is_made {ss = ss} c) = go (ltb limit (length ss)) (held fs n)
        where
          go : (s : Bool) (o : Option ℕ)
              → PlainFile (cond {A = PutDone} s (record { answer = PutStopped limit; file = stores_bytes y (take limit ss) xs; trie = t }) (record { answer = put_answer o; file = stores_bytes y ss xs; trie = trie_after_put y.b (place_of y) fs n (content y) ss t })).file
          go true o = stored_plain xs bytes plain t p c (put_fits y v run small low) (filled_plain name legal) limit
          go false o = all_plain xs bytes plain t p c (put_fits y v run small low) (filled_plain name legal)

      looked : (l : Looked) → looked_of xs t ≡ l → PlainFile (put_on_looked xs t n v run limit l).file
      looked (refusing c) e = plain
      looked (fine y fs) e = let p = looked_passed xs t y fs e in put_taken (λ (r : Result). PlainFile (put_by_stores xs t y fs n (content y) limit r).file) y fs n (content y) (kept_run y run) (λ e. plain) (λ e. made p (put_right y.b (place_of y) fs p.sound n (content y) (is_legal_name_legal name (older_is_legal_name name legal))))

      limited : (c : Bool) → PlainFile (cond {A = PutDone} c (record { answer = PutRefused WrongSize; file = xs; trie = t }) (put_on_looked xs t n v run limit (looked_of xs t))).file
      limited true = plain
      limited false = looked (looked_of xs t) refl

  remove_plain : (limit : ℕ) → PlainFile (remove_of xs t name limit).file
  unfolding remove_of remove_on_looked remove_by_stores PlainAsked
  remove_plain limit = limited (ltb 2 limit) (is_legal_name name)
    where
      n : Str
      n = filled name

      made : {y : Layout} {fs : List Slot} → Passed xs t y fs → {r : Result} → Answered y.b (place_of y) fs (remove n) r → PlainFile (remove_by_stores xs t y fs limit r).file
      made p (is_denied d) = plain
      made {y} {fs} p (is_made {ss = ss} c) = go (ltb limit (length ss))
        where
          go : (s : Bool) → PlainFile (cond {A = RemoveDone} s (record { answer = RemoveStopped limit; file = stores_bytes y (take limit ss) xs; trie = t }) (record { answer = remove_answer ss; file = stores_bytes y ss xs; trie = trie_removed fs ss t })).file
          go true = stored_plain xs bytes plain t p c tt tt limit
          go false = all_plain xs bytes plain t p c tt tt

      looked : (l : Looked) → looked_of xs t ≡ l → PlainFile (remove_on_looked xs t n limit l).file
      looked (refusing c) e = plain
      looked (fine y fs) e = let p = looked_passed xs t y fs e in made p (remove_right y.b (place_of y) fs p.sound n)

      limited : (c g : Bool) → PlainFile (cond {A = RemoveDone} c (record { answer = RemoveRefused WrongSize; file = xs; trie = t }) (cond g (remove_on_looked xs t n limit (looked_of xs t)) (record { answer = RemoveRefused IllegalName; file = xs; trie = t }))).file
      limited true g = plain
      limited false false = plain
      limited false true = looked (looked_of xs t) refl

-- Whether some name has an inner blank, decided.
either : (xs : List ℕ) → BlankFile xs ⊎ PlainFile xs
either xs = go (slots_of xs) (λ F h. absurd (omega (arith, F.inside)))
  where
    -- None in the slots from k on.
    go : (k : ℕ) → ((F : BlankFile xs) → ¬ (k ≤ F.number)) → BlankFile xs ⊎ PlainFile xs
    go zero none = inr (λ F. none F (omega arith))
    go (suc k) none = by (λ f. go k (λ F h. elim (ℕ_discrete F.number k) [ yes e ↦ f F e | no e ↦ none F (omega arith) ])) (read_slot (layout_of xs) (bytes_at_slot (layout_of xs) k xs)) refl
      where
        by : (((F : BlankFile xs) → ¬ (F.number ≡ k)) → BlankFile xs ⊎ PlainFile xs) → (o : Option Slot) → read_slot (layout_of xs) (bytes_at_slot (layout_of xs) k xs) ≡ o → BlankFile xs ⊎ PlainFile xs
        by on nothing r = on (λ F e. let z : ◌≡◌ {A = Option Slot} nothing (some F.slot) = sym r ∙ (rw e at F.is) in clash cc)
        by on (some x) r = held (is_plain_slot x) refl
          where
            held : (p : Bool) → is_plain_slot x ≡ p → BlankFile xs ⊎ PlainFile xs
            held true p = on (λ F e. let o : some F.slot ≡ some x = sym (rw e at F.is) ∙ r in let z : F.slot ≡ x = cc in holds_none x p (rw z at F.holds))
            held false p = elim (dec_lt k (slots_of xs)) [
              | yes h ↦ inl (record { number = k; inside = h; slot = x; is = r; holds = holds_blank x p })
              | no h ↦ on (λ F e. absurd (omega (arith, F.inside)))
            ]

-- All of it, of the older calls and ours.
pub older_build : Older older_calls our_calls
older_build = record {
  name = λ name. (older_name name, λ g. name_older name g.0 g.1);
  each = either;
  same = record {
    create = λ xs v b slots. refl;
    check = older_check;
    recover = same_recover;
    rebuild = same_rebuild;
    look_up = same_look_up;
    put = same_put;
    remove = same_remove;
    list = same_list;
  };
  stays = record {
    create = create_plain;
    recover = recover_plain;
    put = λ xs t name v run limit bytes small low n e. put_plain xs bytes n t name v run limit small low e;
    remove = λ xs t name limit bytes n. remove_plain xs bytes n t name limit;
  };
  refuses = record {
    check = older_bad;
    recover = refuses_recover;
    rebuild = refuses_rebuild;
    put = λ xs t name v run limit F e h. refuses_put xs t F name v run limit e h;
    remove = λ xs t name limit F e h. refuses_remove xs t F name limit e h;
    list = λ xs t low high out F e f. refuses_list xs t F low high out e f;
  };
  looks_up = record {
    refuses = λ xs t name x e R H. older_refuses xs t name e x R H;
    answers = λ xs t name e none. older_answers xs t name e none;
    exactly = older_exactly;
  };
}
