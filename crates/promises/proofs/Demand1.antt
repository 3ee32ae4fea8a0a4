-- Demand 1: each call refuses exactly when a cause of its table holds, with the first, and a refusal changes nothing.
use Rattle.model.proofs.Prelude.{Bool, List, Option, [], ◌&&◌, ◌*◌, ◌++◌, ◌<◌, ◌∙◌, ◌∷◌, ◌≡◌, ◌≤◌, ap, arith, clash, cond, drop, eq-eqb, eqb, eqb-true, false, inl, inr, le-leb, leb, leb-false, leb-true, length, lt-ltb, ltb, ltb-true, not, nothing, refl, some, sym, take, true, ℕ}
use Rattle.model.specs.declared.Trie.{Trie}
use Rattle.model.specs.declared.Layout.{Layout}
use Rattle.model.specs.declared.Cause.{Cause}
use Rattle.model.specs.declared.Cause.TheVariants.{BadFile as bad_file, CutFile as cut_file, IllegalName as illegal_name, ManyStrings as many_strings, NoFreeSlot as no_free_slot, OlderRun as older_run, ShortOutput as short_output, StaleTrie, WrongSize as wrong_size}
use Rattle.model.specs.Results.{Freed, Given, ListRefused, Listed, LookUpAnswer, LookUpRefused, PutRefused, PutStopped, RecoverRefused, RecoverStopped, RemoveRefused, RemoveStopped, TrieRefused}
use Rattle.model.proofs.Files.{one_range}
use Rattle.model.specs.Order.{Str, first_digit, last_digit}
use Rattle.model.specs.Tests.{are_digits, is_above, is_at_most, is_blank_digit, is_legal_name, same_str}
use Rattle.model.specs.Names.{Legal, broken, filled}
use Rattle.model.specs.Entries.{Entry, content_from, find, is_older}
use Rattle.model.specs.Files.{In, Slot, Well, created, free, head, slot_at, used, well_free}
use Rattle.model.specs.Searches.{first, is_in_range, order_of, string_count}
use Rattle.model.specs.Tries.{Agrees, root, root_side, walk_of, walk_run}
use Rattle.model.specs.Rebuilding.{rebuilt_trie}
use Rattle.model.specs.Changes.{Denied, Request, Result, Store, no_room, put, remove, too_many, trie_removed}
use Rattle.model.specs.Checks.{Kind, is_bad, is_cut, is_sound, is_well_formed}
use Rattle.model.specs.Agreeing.{is_agreeing}
use Rattle.model.specs.Format.{BadFile, SoundFile, are_legal_sizes, bytes_at_slot, bytes_of_entries, bytes_of_slot, check_file, entry_length, file_bytes, file_size, header_bytes, header_of, is_right_header, kept_run, layout_of, read_file, read_slot, store_bytes}
use Rattle.model.specs.Answers.{stale_trie}
use Rattle.model.specs.Places.{place_of}
use Rattle.model.specs.Calls.{CreateDone, ListDone, Looked, PutDone, RebuildDone, RecoverDone, RemoveDone, arrived_answer, between, create_of, entries_in, fine, headed_answer, held, held_answer, landed, list_entries, list_of, list_on_looked, look_up_of, looked_at_by, looked_of, new_trie, no_rebuilt, put_answer, put_by_stores, put_of, put_on_looked, put_takes, rebuild_by, rebuild_of, recover_by, recover_of, refusal_of, refusing, remove_answer, remove_by_stores, remove_of, remove_on_looked, slot_answer, stores_bytes, trie_after_put}
use Rattle.model.proofs.Tests.{above_is_above, both_join, both_true, is_above_above, is_at_most_le, le_is_at_most, never_both, same_str_equal, same_str_self}
use Rattle.model.proofs.Names.{are_digits_digits, blank_no, digits_are_digits, is_legal_name_legal, length_filled, no_blank}
use Rattle.model.proofs.Checks.{is_well_formed_well, well_is_well_formed}
use Rattle.model.proofs.Agreeing.{agrees_is_agreeing}
use Rattle.model.proofs.Calls.{Answered, denied_not_made, denied_one, held_older, in_range, is_denied, is_made, older_held, put_right, put_taken, remove_right}
use Rattle.model.proofs.CheckedFiles.{CheckedFile, check_file_right, sound_not_cut}
use Rattle.model.proofs.Format.{are_legal_sizes_sizes, bytes_of_slot-read_slot, read_slot-bytes_of_slot, sizes_are_legal_sizes}
use Rattle.promises.specs.Calls.{our_calls}
use Rattle.promises.specs.Demand1.{Breaks, Creatable, Demand1, Ends, HeldHigher, IsCut, IsMalformed, IsZero, Lacks, LegalName, Listing, Lost, Many, PutDenied, Reason, RightHeader, Short, Stale, Strays, Table, because, create_table, list_table, look_up_table, off_at, put_table, rebuild_table, recover_table, remove_table, slots_of}
use Rattle.promises.proofs.Differing.{breaks_one, breaks_out, out_breaks}
use Rattle.promises.proofs.Leading.{Passed, looked_passed}
use Rattle.promises.proofs.Listings.{listed_right, listings_same}
use Rattle.promises.proofs.Tables.{Verdict, exactly, leaves, pass, skip, stop, stop_off}
use Rattle.promises.proofs.Walking.{arrives_walked, strays_walked, walked, walked_right}

-- The tests of names and headers say what is so.
pub legal_name : (name : List ℕ) → is_legal_name name ≡ true → LegalName name
unfolding is_legal_name
legal_name name e =
    let p = both_true (leb 1 (length name) && leb (length name) 24 && are_digits 0x20 name && not (is_blank_digit (first_digit name))) (not (is_blank_digit (last_digit name))) e in
    let q = both_true (leb 1 (length name) && leb (length name) 24 && are_digits 0x20 name) (not (is_blank_digit (first_digit name))) p.0 in
    let r = both_true (leb 1 (length name) && leb (length name) 24) (are_digits 0x20 name) q.0 in
    let s = both_true (leb 1 (length name)) (leb (length name) 24) r.0 in
    record {
      least = leb-true 1 (length name) s.0;
      most = leb-true (length name) 24 s.1;
      digits = are_digits_digits 0x20 name r.1;
      first = blank_no (first_digit name) q.1;
      last = blank_no (last_digit name) p.1;
    }

pub name_legal : {name : List ℕ} → LegalName name → is_legal_name name ≡ true
unfolding is_legal_name
name_legal {name} L =
    rw (le-leb 1 (length name) L.least, le-leb (length name) 24 L.most, digits_are_digits 0x20 name L.digits, no_blank (first_digit name) L.first, no_blank (last_digit name) L.last)

pub illegal : (name : List ℕ) → is_legal_name name ≡ false → ¬ LegalName name
illegal name e L = never_both (is_legal_name name) (name_legal L) e

pub right_header : (xs : List ℕ) → is_right_header (layout_of xs) (slots_of xs) xs ≡ true → RightHeader xs
unfolding is_right_header
right_header xs e =
    let p = both_true (are_legal_sizes (layout_of xs) (slots_of xs) && eqb (length xs) (file_size (layout_of xs) (slots_of xs))) (same_str (take 16 xs) (header_bytes (layout_of xs) (slots_of xs))) e in
    let q = both_true (are_legal_sizes (layout_of xs) (slots_of xs)) (eqb (length xs) (file_size (layout_of xs) (slots_of xs))) p.0 in
    record {
      sizes = are_legal_sizes_sizes (layout_of xs) (slots_of xs) q.0;
      whole = eqb-true (length xs) (file_size (layout_of xs) (slots_of xs)) q.1;
      header = same_str_equal (take 16 xs) (header_bytes (layout_of xs) (slots_of xs)) p.1;
    }

pub header_right : {xs : List ℕ} → RightHeader xs → is_right_header (layout_of xs) (slots_of xs) xs ≡ true
unfolding is_right_header
header_right {xs} R =
    rw (sizes_are_legal_sizes R.sizes, eq-eqb (length xs) (file_size (layout_of xs) (slots_of xs)) R.whole, R.header) (same_str_self (header_bytes (layout_of xs) (slots_of xs)))

-- A limit above 2.
above_2 : {limit : ℕ} → ltb 2 limit ≡ false → ¬ (2 < limit)
above_2 {limit} e h = never_both (ltb 2 limit) (lt-ltb 2 limit h) e

-- Two readings of one file are the same.
module _ {xs : List ℕ} {y : Layout} {fs : List Slot} (e : read_file xs ≡ some (y, fs)) (S : SoundFile xs) where
  same_file : ◌≡◌ {A = Layout × List Slot} (S.layout, S.slots) (y, fs)
  same_file = let o : ◌≡◌ {A = Option (Layout × List Slot)} (some (S.layout, S.slots)) (some (y, fs)) = sym S.is ∙ e in cc

  same_layout : S.layout ≡ y
  same_layout = ap (λ (f : Layout × List Slot). f.0) same_file

  pub same_slots : S.slots ≡ fs
  same_slots = ap (λ (f : Layout × List Slot). f.1) same_file

-- Create.
module _ (xs : List ℕ) (v b slots : ℕ) where
  abbrev y : Layout
  y = record { version = v; b = b }

  abbrev right_sizes : Bool
  right_sizes = are_legal_sizes y slots && eqb (length xs) (file_size y slots)

  create_verdict : Verdict TrieRefused (λ (d : CreateDone). d.answer) (λ (d : CreateDone). (d.file ≡ xs) × (d.trie ≡ new_trie)) (create_table xs v b slots)
      (create_of xs v b slots)
  unfolding create_of
  create_verdict = go right_sizes refl
    where
      go : (c : Bool) → right_sizes ≡ c
          → Verdict TrieRefused (λ (d : CreateDone). d.answer) (λ (d : CreateDone). (d.file ≡ xs) × (d.trie ≡ new_trie)) (create_table xs v b slots)
          (cond c (record { answer = Given; file = file_bytes y (created slots); trie = new_trie }) (record { answer = TrieRefused wrong_size; file = xs; trie = new_trie }))
      go true e =
          let p = both_true (are_legal_sizes y slots) (eqb (length xs) (file_size y slots)) e in
          let C : Creatable xs y slots = record {
            sizes = are_legal_sizes_sizes y slots p.0;
            whole = eqb-true (length xs) (file_size y slots) p.1;
          } in
          skip (λ n. n C) (pass (λ c q. clash cc))
      go false e =
          stop refl (refl, refl) (λ C. never_both right_sizes
          (rw (sizes_are_legal_sizes C.sizes) (eq-eqb (length xs) (file_size y slots) C.whole)) e)

-- Recover.
module _ (xs : List ℕ) (limit : ℕ) where
  abbrev RecoverVerdict : Table → RecoverDone → Type 0
  RecoverVerdict rs d = Verdict RecoverRefused (λ (d : RecoverDone). d.answer) (λ (d : RecoverDone). d.file ≡ xs) rs d

  recover_verdict : RecoverVerdict (recover_table xs limit) (recover_of xs limit)
  unfolding recover_of recover_by
  recover_verdict = go (ltb 2 limit) refl
    where
      freed : (N : ℕ) (c : Bool)
          → RecoverVerdict [] (cond c (record { answer = RecoverStopped 0; file = xs }) (record { answer = Freed N; file = store_bytes (layout_of xs) N free xs }))
      freed N true = pass (λ c q. clash cc)
      freed N false = pass (λ c q. clash cc)

      by : (k : Kind) → CheckedFile xs k → RecoverVerdict (because bad_file (BadFile xs) ∷ []) (recover_by xs limit k)
      by is_bad B = stop refl refl B
      by is_sound S = skip (λ B. B.0 S) (pass (λ c q. clash cc))
      by (is_cut N) C = skip (λ B. B.1 N C) (freed N (ltb limit 1))

      go : (c : Bool) → ltb 2 limit ≡ c
          → RecoverVerdict (recover_table xs limit) (cond c (record { answer = RecoverRefused wrong_size; file = xs }) (recover_by xs limit (check_file xs)))
      go true e = stop refl refl (ltb-true 2 limit e)
      go false e = skip (above_2 e) (by (check_file xs) (check_file_right xs))

-- Rebuild.
module _ (xs : List ℕ) where
  abbrev RebuildVerdict : Table → RebuildDone → Type 0
  RebuildVerdict rs d = Verdict TrieRefused (λ (d : RebuildDone). d.answer) (λ (d : RebuildDone). d.trie ≡ new_trie) rs d

  rebuild_verdict : RebuildVerdict (rebuild_table xs) (rebuild_of xs)
  unfolding rebuild_of rebuild_by
  rebuild_verdict = go (check_file xs) (check_file_right xs) (read_file xs) refl
    where
      go : (k : Kind) → CheckedFile xs k → (r : Option (Layout × List Slot)) → read_file xs ≡ r → RebuildVerdict (rebuild_table xs) (rebuild_by k r)
      go is_bad B r e = stop refl refl B
      go (is_cut N) C r e = skip (λ B. B.1 N C) (stop refl refl (N, C))
      go is_sound S nothing e =
          let o : ◌≡◌ {A = Option (Layout × List Slot)} nothing (some (S.layout, S.slots)) = sym e ∙ S.is in
          clash cc
      go is_sound S (some f) e = skip (λ B. B.0 S) (skip (λ c. sound_not_cut S c.1) (few (leb (string_count f.1) 256) refl))
        where
          few : (c : Bool) → leb (string_count f.1) 256 ≡ c
              → RebuildVerdict (because many_strings (Many xs) ∷ []) (cond c (record { answer = Given; trie = rebuilt_trie f.1 }) (no_rebuilt many_strings))
          few true q =
              skip (λ M. let h : 256 < string_count f.1 = rw (same_slots e M.file) at M.many in absurd (omega (arith, h, leb-true (string_count f.1) 256 q)))
              (pass (λ c q. clash cc))
          few false q = stop refl refl (record { file = S; many = rw (same_slots e S) (leb-false (string_count f.1) 256 q) })

module _ {A D : Type 0} {Refused : Cause → A} {answer : D → A} {Kept : D → Type 0} where
  -- The checks of put, remove and list: rows 2, 3 and 4, and what follows where they pass.
  looked_verdict : (xs : List ℕ) (t : Trie) (rest : Table) (done : Looked → D) → ((c : Cause) → answer (done (refusing c)) ≡ Refused c) → ((c : Cause) → Kept (done (refusing c)))
      → ((y : Layout) (fs : List Slot) → Passed xs t y fs → Verdict Refused answer Kept rest (done (fine y fs)))
      → Verdict Refused answer Kept (because bad_file (BadFile xs) ∷ because cut_file (IsCut xs) ∷ because stale_trie (Stale xs t) ∷ rest) (done (looked_of xs t))
  unfolding looked_of looked_at_by
  looked_verdict xs t rest done says keeps follows = go (check_file xs) refl (check_file_right xs) (read_file xs) refl
    where
      go : (k : Kind) → check_file xs ≡ k → CheckedFile xs k → (r : Option (Layout × List Slot)) → read_file xs ≡ r
          → Verdict Refused answer Kept (because bad_file (BadFile xs) ∷ because cut_file (IsCut xs) ∷ because stale_trie (Stale xs t) ∷ rest) (done (looked_at_by t k r))
      go is_bad d B r e = stop (says bad_file) (keeps bad_file) B
      go (is_cut N) d C r e = skip (λ B. B.1 N C) (stop (says cut_file) (keeps cut_file) (N, C))
      go is_sound d S nothing e =
          let o : ◌≡◌ {A = Option (Layout × List Slot)} nothing (some (S.layout, S.slots)) = sym e ∙ S.is in
          clash cc
      go is_sound d S (some f) e = skip (λ B. B.0 S) (skip (λ c. sound_not_cut S c.1) (agreed (is_agreeing f.1 t) refl))
        where
          agreed : (a : Bool) → is_agreeing f.1 t ≡ a
              → Verdict Refused answer Kept (because stale_trie (Stale xs t) ∷ rest) (done (cond a (fine f.0 f.1) (refusing stale_trie)))
          agreed true q =
              let p : Passed xs t f.0 f.1 = looked_passed xs t f.0 f.1 (rw (d, e, q)) in
              skip (λ T. T.differs (rw (same_slots e T.file) p.agrees)) (follows f.0 f.1 p)
          agreed false q =
              let differs : ¬ Agrees S.slots t = λ A. never_both (is_agreeing S.slots t) (agrees_is_agreeing S.layout.b S.sound A) (rw (same_slots e S) q) in
              stop (says stale_trie) (keeps stale_trie) (record { file = S; differs = differs })

  -- The rows 8 and 1 before them, of put and remove.
  asked_verdict : (name : List ℕ) (limit : ℕ) (rest : Table) (done big ill : D) → answer big ≡ Refused wrong_size → Kept big → answer ill ≡ Refused illegal_name → Kept ill
      → (is_legal_name name ≡ true → Verdict Refused answer Kept rest done)
      → Verdict Refused answer Kept (because wrong_size (2 < limit) ∷ because illegal_name (¬ LegalName name) ∷ rest) (cond (ltb 2 limit) big (cond (is_legal_name name) done ill))
  asked_verdict name limit rest done big ill x kx y ky f = go (ltb 2 limit) (is_legal_name name) refl refl
    where
      go : (l g : Bool) → ltb 2 limit ≡ l → is_legal_name name ≡ g
          → Verdict Refused answer Kept (because wrong_size (2 < limit) ∷ because illegal_name (¬ LegalName name) ∷ rest) (cond l big (cond g done ill))
      go true g d e = stop x kx (ltb-true 2 limit d)
      go false false d e = skip (above_2 d) (stop y ky (illegal name e))
      go false true d e = skip (above_2 d) (skip (λ n. n (legal_name name e)) (f e))

-- Put.
module _ (xs : List ℕ) (t : Trie) (name : List ℕ) (v run limit : ℕ) where
  abbrev n : Str
  n = filled name

  -- What the put asks to be stored.
  abbrev content : Layout → ℕ
  content y = content_from v (kept_run y run)

  abbrev PutVerdict : Table → PutDone → Type 0
  PutVerdict rs d = Verdict PutRefused (λ (d : PutDone). d.answer) (λ (d : PutDone). (d.file ≡ xs) × (d.trie ≡ t)) rs d

  abbrev rest : Table
  rest = because no_free_slot (PutDenied xs name v run 5) ∷ because many_strings (PutDenied xs name v run 6) ∷ []

  put_passed : (y : Layout) (ss : List Store) (t' : Trie) (s : Bool) (o : Option ℕ)
      → PutVerdict [] (cond s (record { answer = PutStopped limit; file = stores_bytes y (take limit ss) xs; trie = t }) (record { answer = put_answer o; file = stores_bytes y ss xs; trie = t' }))
  put_passed y ss t' true o = pass (λ c q. clash cc)
  put_passed y ss t' false nothing = pass (λ c q. clash cc)
  put_passed y ss t' false (some old) = pass (λ c q. clash cc)

  module _ (y : Layout) (fs : List Slot) (p : Passed xs t y fs) where
    denied_here : {why : ℕ} → PutDenied xs name v run why → Denied y.b (place_of y) fs (put n (content y)) why
    denied_here D = rw (same_layout p.is D.file, same_slots p.is D.file) at D.denied

    here_denied : {why : ℕ} → Denied y.b (place_of y) fs (put n (content y)) why → PutDenied xs name v run why
    here_denied d = record { file = record { layout = y; slots = fs; is = p.is; sound = p.sound }; denied = d }

    here_higher : HeldHigher xs name run → is_older (kept_run y run) (held fs n) ≡ true
    here_higher H =
        let l = same_layout p.is H.file in let s = same_slots p.is H.file in
        let i : In (head (slot_at fs H.bucket)) n = rw s at H.in_range in
        let b = one_range y.b p.sound n i (in_range y.b (place_of y) fs p.sound n) in
        held_older (kept_run y run) H.content (rw (← b) (rw s at H.found)) (rw l at H.higher)

    put_made : {r : Result} → Answered y.b (place_of y) fs (put n (content y)) r → PutVerdict rest (put_by_stores xs t y fs n (content y) limit r)
    unfolding put_by_stores refusal_of
    put_made (is_made {ss = ss} c) =
        skip (λ D. denied_not_made y.b (place_of y) p.sound (denied_here D) c)
        (skip (λ D. denied_not_made y.b (place_of y) p.sound (denied_here D) c)
        (put_passed y ss (trie_after_put y.b (place_of y) fs n (content y) ss t) (ltb limit (length ss)) (held fs n)))
    put_made (is_denied (no_room A es is lo up h f)) = stop refl (refl, refl) (here_denied (no_room A es is lo up h f))
    put_made (is_denied (too_many A N es is lo up h L k)) =
        skip (λ D. absurd (omega (arith, denied_one y.b (place_of y) p.sound (denied_here D) (too_many A N es is lo up h L k))))
        (stop refl (refl, refl) (here_denied (too_many A N es is lo up h L k)))

    abbrev higher : Reason
    higher = because older_run (HeldHigher xs name run)

    put_taking : Legal n → PutVerdict (higher ∷ rest) (put_by_stores xs t y fs n (content y) limit (put_takes y fs n (content y) (kept_run y run)))
    unfolding put_by_stores refusal_of
    put_taking g = put_taken (λ (r : Result). PutVerdict (higher ∷ rest) (put_by_stores xs t y fs n (content y) limit r)) y fs n (content y) (kept_run y run)
        (λ e. let w = older_held (kept_run y run) (held fs n) e in
        stop refl (refl, refl) (record { file = record { layout = y; slots = fs; is = p.is; sound = p.sound }; bucket = first (is_in_range n) fs; in_range = in_range y.b (place_of y) fs p.sound n; content = w.0; found = w.1; higher = w.2 }))
        (λ e. skip (λ H. never_both (is_older (kept_run y run) (held fs n)) (here_higher H) e) (put_made (put_right y.b (place_of y) fs p.sound n (content y) g)))

  put_verdict : PutVerdict (put_table xs t name v run limit) (put_of xs t name v run limit)
  unfolding put_of put_on_looked
  put_verdict =
      asked_verdict name limit (because bad_file (BadFile xs) ∷ because cut_file (IsCut xs) ∷ because stale_trie (Stale xs t) ∷ because older_run (HeldHigher xs name run) ∷ rest)
      (put_on_looked xs t n v run limit (looked_of xs t)) (record { answer = PutRefused wrong_size; file = xs; trie = t }) (record { answer = PutRefused illegal_name; file = xs; trie = t })
      refl (refl, refl) refl (refl, refl)
      (λ e. looked_verdict xs t (because older_run (HeldHigher xs name run) ∷ rest) (put_on_looked xs t n v run limit) (λ c. refl) (λ c. (refl, refl))
      (λ y fs p. put_taking y fs p (is_legal_name_legal name e)))

-- Remove, which is never denied.
abbrev IsPut : Request → Type 0
IsPut (put m v) = Unit {0}
IsPut (remove m) = ⊥

denied_put : {b : ℕ} (place : List Entry → ℕ) {fs : List Slot} {q : Request} {r : ℕ} → Denied b place fs q r → IsPut q
denied_put place (no_room A es is lo up h f) = tt
denied_put place (too_many A N es is lo up h L k) = tt

module _ (xs : List ℕ) (t : Trie) (name : List ℕ) (limit : ℕ) where
  abbrev k : Str
  k = filled name

  abbrev RemoveVerdict : Table → RemoveDone → Type 0
  RemoveVerdict rs d = Verdict RemoveRefused (λ (d : RemoveDone). d.answer) (λ (d : RemoveDone). (d.file ≡ xs) × (d.trie ≡ t)) rs d

  remove_passed : (y : Layout) (ss : List Store) (made : Trie) (s : Bool) (rs : List Store)
      → RemoveVerdict [] (cond s (record { answer = RemoveStopped limit; file = stores_bytes y (take limit ss) xs; trie = t }) (record { answer = remove_answer rs; file = stores_bytes y ss xs; trie = made }))
  remove_passed y ss made true rs = pass (λ c q. clash cc)
  remove_passed y ss made false [] = pass (λ c q. clash cc)
  remove_passed y ss made false (r ∷ rs) = pass (λ c q. clash cc)

  remove_made : (y : Layout) (fs : List Slot) {r : Result} → Answered y.b (place_of y) fs (remove k) r → RemoveVerdict [] (remove_by_stores xs t y fs limit r)
  unfolding remove_by_stores
  remove_made y fs (is_made {ss = ss} c) = remove_passed y ss (trie_removed fs ss t) (ltb limit (length ss)) ss
  remove_made y fs (is_denied d) = absurd (denied_put (place_of y) d)

  remove_verdict : RemoveVerdict (remove_table xs t name limit) (remove_of xs t name limit)
  unfolding remove_of remove_on_looked
  remove_verdict =
      asked_verdict name limit (because bad_file (BadFile xs) ∷ because cut_file (IsCut xs) ∷ because stale_trie (Stale xs t) ∷ [])
      (remove_on_looked xs t k limit (looked_of xs t)) (record { answer = RemoveRefused wrong_size; file = xs; trie = t }) (record { answer = RemoveRefused illegal_name; file = xs; trie = t }) refl (refl, refl) refl (refl, refl)
      (λ e. looked_verdict xs t [] (remove_on_looked xs t k limit) (λ c. refl) (λ c. (refl, refl)) (λ y fs p. remove_made y fs (remove_right y.b (place_of y) fs p.sound k)))

-- List.
module _ (xs : List ℕ) (t : Trie) (low high out : List ℕ) where
  abbrev ListVerdict : Table → ListDone → Type 0
  ListVerdict rs d = Verdict ListRefused (λ (d : ListDone). d.answer) (λ (d : ListDone). d.output ≡ out) rs d

  abbrev listed : List Slot → List Entry
  listed fs = between (filled low) (filled high) (entries_in fs (order_of fs))

  list_made : (y : Layout) (fs : List Slot) → Passed xs t y fs → ListVerdict (because short_output (Short xs low high out) ∷ []) (list_entries (entry_length y) (listed fs) out)
  unfolding list_entries
  list_made y fs p = go (ltb (length out) (entry_length y * length (listed fs))) refl
    where
      right : Listing fs (filled low) (filled high) (listed fs)
      right = listed_right y.b p.sound (filled low) (filled high)

      go : (s : Bool) → ltb (length out) (entry_length y * length (listed fs)) ≡ s
          → ListVerdict (because short_output (Short xs low high out) ∷ [])
          (cond s (record { answer = ListRefused short_output; output = out })
          (record { answer = Listed (length (listed fs)); output = bytes_of_entries (entry_length y) (listed fs) ++ drop (entry_length y * length (listed fs)) out }))
      go true e =
          stop refl refl (record {
            file = record { layout = y; slots = fs; is = p.is; sound = p.sound };
            listed = listed fs;
            listing = right;
            short = ltb-true (length out) (entry_length y * length (listed fs)) e;
          })
      go false e =
          skip (λ S.
          let same : S.listed ≡ listed fs = listings_same (rw (same_slots p.is S.file) at S.listing) right in
          let h : length out < entry_length y * length (listed fs) = rw (same_layout p.is S.file, same) at S.short in
          never_both (ltb (length out) (entry_length y * length (listed fs))) (lt-ltb (length out) (entry_length y * length (listed fs)) h) e)
          (pass (λ c q. clash cc))

  list_verdict : ListVerdict (list_table xs t low high out) (list_of xs t low high out)
  unfolding list_of list_on_looked
  list_verdict = go (is_legal_name low && is_legal_name high) refl
    where
      go : (g : Bool) → (is_legal_name low && is_legal_name high) ≡ g
          → ListVerdict (list_table xs t low high out) (cond g (list_on_looked (filled low) (filled high) out (looked_of xs t)) (record { answer = ListRefused illegal_name; output = out }))
      go true e =
          let p = both_true (is_legal_name low) (is_legal_name high) e in
          skip (λ n. n (legal_name low p.0, legal_name high p.1))
          (looked_verdict xs t (because short_output (Short xs low high out) ∷ []) (list_on_looked (filled low) (filled high) out) (λ c. refl) (λ c. refl) list_made)
      go false e =
          stop refl refl
          (λ L. never_both (is_legal_name low && is_legal_name high) (both_join (is_legal_name low) (is_legal_name high) (name_legal L.0) (name_legal L.1)) e)

-- Look up, which is lent all to read only.
abbrev LookUpVerdict : Table → LookUpAnswer → Type 0
LookUpVerdict rs a = Verdict LookUpRefused (λ (a : LookUpAnswer). a) (λ (a : LookUpAnswer). Unit {0}) rs a

module _ (xs : List ℕ) (t : Trie) (name : List ℕ) where
  abbrev m : Str
  m = filled name

  abbrev pub ended : Option ℕ
  ended = walked (slots_of xs) t m (length_filled name) t.count [] root (root_side t.count t.first)

  pub at_end : {P : List ℕ → Type 0} {k : ℕ} → ended ≡ some k → Ends xs t m P → P (bytes_at_slot (layout_of xs) k xs)
  at_end {k = k} e E =
      let o : some E.k ≡ some k = sym (arrives_walked (slots_of xs) t m (length_filled name) E.arrives root) ∙ e in
      let j : E.k ≡ k = cc in
      rw j at E.so

  pub zero_free : (y : Layout) (ys : List ℕ) → IsZero y ys → read_slot y ys ≡ some free
  unfolding bytes_of_slot
  zero_free y ys e = rw e (read_slot-bytes_of_slot y well_free tt)

  free_zero : (y : Layout) (ys : List ℕ) → read_slot y ys ≡ some free → IsZero y ys
  unfolding bytes_of_slot
  free_zero y ys e = bytes_of_slot-read_slot y ys e

  abbrev slot_rows : Table
  slot_rows =
      because stale_trie (Ends xs t m (IsZero (layout_of xs))) ∷ because bad_file (Ends xs t m (IsMalformed (layout_of xs)))
      ∷ off_at (λ k. Ends xs t m (Lacks (layout_of xs) m k)) ∷ []

  module _ (k : ℕ) (arrived : ended ≡ some k) where
    abbrev ys : List ℕ
    ys = bytes_at_slot (layout_of xs) k xs

    ends : {P : List ℕ → Type 0} → P ys → Ends xs t m P
    ends h = record { k = k; arrives = rw arrived at (walked_right (slots_of xs) t m (length_filled name) t.count [] root (root_side t.count t.first)); so = h }

    held_passed : (o : Option ℕ) → LookUpVerdict [] (held_answer o)
    held_passed nothing = pass (λ c q. clash cc)
    held_passed (some v) = pass (λ c q. clash cc)

    slot_verdict : (o : Option Slot) → read_slot (layout_of xs) ys ≡ o → LookUpVerdict slot_rows (slot_answer (layout_of xs).b m o)
    unfolding slot_answer
    slot_verdict nothing e =
        skip (λ E. let f : read_slot (layout_of xs) ys ≡ some free = zero_free (layout_of xs) ys (at_end arrived E) in clash cc)
        (stop refl tt (ends (λ s f W. clash cc)))
    slot_verdict (some free) e = stop refl tt (ends (free_zero (layout_of xs) ys e))
    slot_verdict (some (used l u es)) e =
        skip (λ E. let f : read_slot (layout_of xs) ys ≡ some free = zero_free (layout_of xs) ys (at_end arrived E) in clash cc)
        (well (is_well_formed (layout_of xs).b (used l u es)) (is_above l m && is_at_most m u) refl refl)
      where
        one : (s : Slot) → read_slot (layout_of xs) ys ≡ some s → s ≡ used l u es
        one s f = let o : some s ≡ some (used l u es) = sym f ∙ e in cc

        same_breaks : {j : ℕ} → Lacks (layout_of xs) m j ys → Breaks m l u j
        same_breaks {j} L =
            let o : used L.low L.high L.entries ≡ used l u es = one (used L.low L.high L.entries) L.is in
            let p : L.low ≡ l = cc in
            let q : L.high ≡ u = cc in
            rw (p, q) at L.breaks

        inside : (is_above l m && is_at_most m u) ≡ true → In (head (used l u es)) m
        inside d = let p = both_true (is_above l m) (is_at_most m u) d in (tt, is_above_above l m p.0, is_at_most_le m u p.1)

        formed : is_well_formed (layout_of xs).b (used l u es) ≡ true → IsMalformed (layout_of xs) ys → ⊥
        formed c f = f (used l u es) e (is_well_formed_well (layout_of xs).b (used l u es) c)

        well : (w r : Bool) → is_well_formed (layout_of xs).b (used l u es) ≡ w → (is_above l m && is_at_most m u) ≡ r
            → LookUpVerdict (because bad_file (Ends xs t m (IsMalformed (layout_of xs))) ∷ off_at (λ k. Ends xs t m (Lacks (layout_of xs) m k)) ∷ [])
            (cond w (cond r (held_answer (find m es)) (LookUpRefused (StaleTrie (broken l u m)))) (LookUpRefused bad_file))
        well false r c d =
            stop refl tt (ends (λ s f W. never_both (is_well_formed (layout_of xs).b (used l u es)) (well_is_well_formed (layout_of xs).b (rw (one s f) at W)) c))
        well true true c d =
            skip (λ E. formed c (at_end arrived E))
            (skip (λ E. lacks (at_end arrived E.1)) (held_passed (find m es)))
          where
            lacks : {j : ℕ} → Lacks (layout_of xs) m j ys → ⊥
            lacks L = breaks_out (same_breaks L) (inside d)
        well true false c d =
            skip (λ E. formed c (at_end arrived E))
            (stop_off (broken l u m) refl tt (ends (record { low = l; high = u; entries = es; is = e; well = w; breaks = B }))
            (λ j E. breaks_one (layout_of xs).b w B (same_breaks (at_end arrived E))))
          where
            w : Well (layout_of xs).b (used l u es)
            w = is_well_formed_well (layout_of xs).b (used l u es) c

            out : ¬ In (head (used l u es)) m
            out i = never_both (is_above l m && is_at_most m u) (both_join (is_above l m) (is_at_most m u) (above_is_above i.1) (le_is_at_most m u i.2)) d

            B : Breaks m l u (broken l u m)
            B = out_breaks (layout_of xs).b l u es w m (length_filled name) out

  arrived_verdict : (o : Option ℕ) → ended ≡ o → t.count ≤ 256 → LookUpVerdict (because stale_trie (Lost xs t m) ∷ slot_rows) (arrived_answer xs (layout_of xs) m o)
  unfolding arrived_answer
  arrived_verdict nothing e h =
      let w : Strays (slots_of xs) t m t.count [] (root_side t.count t.first) = rw e at (walked_right (slots_of xs) t m (length_filled name) t.count [] root (root_side t.count t.first)) in
      stop refl tt (inr w)
  arrived_verdict (some k) e h = skip lost (slot_verdict k e (read_slot (layout_of xs) (bytes_at_slot (layout_of xs) k xs)) refl)
    where
      lost : Lost xs t m → ⊥
      lost (inl g) = absurd (omega (arith, g, h))
      lost (inr w) =
          let o : ◌≡◌ {A = Option ℕ} nothing (some k) = sym (strays_walked (slots_of xs) t m (length_filled name) w root) ∙ e in
          clash cc

  headed_verdict : (c : Bool) → leb t.count 256 ≡ c → LookUpVerdict (because stale_trie (Lost xs t m) ∷ slot_rows)
      (arrived_answer xs (layout_of xs) m (landed (slots_of xs) (cond c (walk_run t.count t.count t.cells m [] root (root_side t.count t.first)) nothing)))
  unfolding arrived_answer
  headed_verdict true e = arrived_verdict ended refl (leb-true t.count 256 e)
  headed_verdict false e = stop refl tt (inl (leb-false t.count 256 e))

  look_up_verdict : LookUpVerdict (look_up_table xs t name) (look_up_of xs t name)
  unfolding look_up_of headed_answer header_of walk_of
  look_up_verdict = go (is_legal_name name) (is_right_header (layout_of xs) (slots_of xs) xs) refl refl
    where
      go : (g h : Bool) → is_legal_name name ≡ g → is_right_header (layout_of xs) (slots_of xs) xs ≡ h
          → LookUpVerdict (look_up_table xs t name) (cond g (headed_answer xs t m (cond h (some (layout_of xs, slots_of xs)) nothing)) (LookUpRefused illegal_name))
      go false h d e = stop refl tt (illegal name d)
      go true false d e =
          skip (λ n. n (legal_name name d)) (stop refl tt (λ R. never_both (is_right_header (layout_of xs) (slots_of xs) xs) (header_right R) e))
      go true true d e =
          skip (λ n. n (legal_name name d)) (skip (λ n. n (right_header xs e)) (headed_verdict (leb t.count 256) refl))

-- R13.1: each call is refused exactly when one of its causes holds, with the first in its order, and then changes
-- nothing.
pub demand_1 : Demand1 our_calls
demand_1 = record {
  create = λ xs v b slots. exactly (λ c d e. cc) (create_table xs v b slots) (create_verdict xs v b slots);
  recover = λ xs limit. exactly (λ c d e. cc) (recover_table xs limit) (recover_verdict xs limit);
  rebuild = λ xs. exactly (λ c d e. cc) (rebuild_table xs) (rebuild_verdict xs);
  look_up = λ xs t name. exactly (λ c d e. cc) (look_up_table xs t name) (look_up_verdict xs t name);
  put = λ xs t name v run limit. exactly (λ c d e. cc) (put_table xs t name v run limit) (put_verdict xs t name v run limit);
  remove = λ xs t name limit. exactly (λ c d e. cc) (remove_table xs t name limit) (remove_verdict xs t name limit);
  list = λ xs t low high out. exactly (λ c d e. cc) (list_table xs t low high out) (list_verdict xs t low high out);
  create_leaves = λ xs v b slots. leaves (create_verdict xs v b slots);
  recover_leaves = λ xs limit. leaves (recover_verdict xs limit);
  rebuild_leaves = λ xs. leaves (rebuild_verdict xs);
  put_leaves = λ xs t name v run limit. leaves (put_verdict xs t name v run limit);
  remove_leaves = λ xs t name limit. leaves (remove_verdict xs t name limit);
  list_leaves = λ xs t low high out. leaves (list_verdict xs t low high out);
  create_order = λ xs v b slots. refl;
  recover_order = λ xs limit. refl;
  rebuild_order = λ xs. refl;
  look_up_order = λ xs t name. refl;
  put_order = λ xs t name v run limit. refl;
  remove_order = λ xs t name limit. refl;
  list_order = λ xs t low high out. refl;
}
