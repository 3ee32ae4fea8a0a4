-- Demand 2 (R13.2): grown and rebuilt tries lead every possible name to its bucket.
use Rattle.model.proofs.Prelude.{Bool, List, Option, ◌&&◌, ◌<◌, ◌^◌, ◌∙◌, ◌≡◌, ◌≤◌, ap, clash, cond, eqb, false, leb, leb-true, length, ltb, nothing, refl, some, sym, take, true, ℕ}
use Rattle.model.specs.declared.Trie.{Trie}
use Rattle.model.specs.declared.Layout.{Layout}
use Rattle.model.specs.declared.Cause.TheVariants.{IllegalName, ManyStrings, WrongSize}
use Rattle.model.specs.Results.{Given, PutRefused, PutStopped, TrieRefused}
use Rattle.model.specs.Order.{Str}
use Rattle.model.specs.Tests.{is_legal_name}
use Rattle.model.specs.Names.{Legal, filled}
use Rattle.model.specs.Entries.{content_from, insert}
use Rattle.model.specs.Files.{Slot, Sound, created}
use Rattle.model.specs.Searches.{string_count}
use Rattle.model.specs.Tries.{Agrees}
use Rattle.model.specs.Rebuilding.{rebuilt_trie}
use Rattle.model.specs.Changes.{Result, Store, put, stored}
use Rattle.model.specs.Checks.{Kind, is_bad, is_cut, is_sound}
use Rattle.model.specs.Agreeing.{is_agreeing}
use Rattle.model.specs.Format.{AreBytes, SoundFile, are_legal_sizes, check_file, file_bytes, file_size, kept_run, read_file}
use Rattle.model.specs.Places.{place_of}
use Rattle.model.specs.Answers.{stale_trie}
use Rattle.model.specs.Calls.{CreateDone, Looked, PutDone, create_of, fine, held, looked_at_by, looked_of, new_trie, no_rebuilt, put_answer, put_by_stores, put_of, put_on_looked, rebuild_by, rebuild_of, refusing, stores_bytes, trie_after_put}
use Rattle.model.proofs.Tests.{both_true}
use Rattle.model.proofs.Names.{is_legal_name_legal}
use Rattle.model.proofs.Files.{one_range}
use Rattle.model.proofs.Agreement.{agrees_walk, rebuilt_trie_agrees}
use Rattle.model.proofs.Agreeing.{is_agreeing_agrees}
use Rattle.model.proofs.Entries.{row_insert}
use Rattle.model.proofs.Places.{place_lt}
use Rattle.model.proofs.Changes.{Change, fits, one_sound, second_sound, splits, well_a}
use Rattle.model.proofs.Calls.{Answered, is_denied, is_made, put_right, put_taken}
use Rattle.model.proofs.CheckedFiles.{CheckedFile, check_file_right}
use Rattle.model.proofs.Format.{are_legal_sizes_sizes, file_bytes-read_file, put_fits}
use Rattle.model.proofs.Created.{created_agrees, created_fine, created_left}
use Rattle.model.proofs.GrownTries.{change_agrees}
use Rattle.model.proofs.Stores.{read_stored, trie_after_put_is}
use Rattle.promises.specs.Demand2.{LeadsRight, Made}

-- An agreeing trie of a sound file leads right.
unfoldable pub leads : (xs : List ℕ) (t : Trie) (S : SoundFile xs) → Agrees S.slots t → LeadsRight xs t
leads xs t S A = record {
  file = S;
  agrees = A;
  arrives = λ n. agrees_walk S.layout.b S.sound A n;
  alone = λ n B h. one_range S.layout.b S.sound n h (agrees_walk S.layout.b S.sound A n);
}

-- The trie that create gives.
pub created_leads : (xs : List ℕ) (v b slots : ℕ) → (create_of xs v b slots).answer ≡ Given → LeadsRight (create_of xs v b slots).file (create_of xs v b slots).trie
unfolding create_of
created_leads xs v b slots = go (are_legal_sizes y slots && eqb (length xs) (file_size y slots)) refl
  where
    y : Layout
    y = record { version = v; b = b }

    made : CreateDone
    made = record { answer = Given; file = file_bytes y (created slots); trie = new_trie }

    denied : CreateDone
    denied = record { answer = TrieRefused WrongSize; file = xs; trie = new_trie }

    go : (c : Bool) → (are_legal_sizes y slots && eqb (length xs) (file_size y slots)) ≡ c → (cond c made denied).answer ≡ Given
        → LeadsRight (cond c made denied).file (cond c made denied).trie
    go true e h =
        let p = both_true (are_legal_sizes y slots) (eqb (length xs) (file_size y slots)) e in
        let S : SoundFile (file_bytes y (created slots)) = record {
          layout = y;
          slots = created slots;
          is = (created_left y slots (are_legal_sizes_sizes y slots p.0)).is;
          sound = (created_fine b slots).sound;
        } in
        leads (file_bytes y (created slots)) new_trie S (created_agrees b slots)
    go false e h = clash cc

-- R13.2, of the rebuilt trie.
pub rebuilt_leads : (xs : List ℕ) → (rebuild_of xs).answer ≡ Given → LeadsRight xs (rebuild_of xs).trie
unfolding rebuild_of rebuild_by
rebuilt_leads xs = go (check_file xs) (check_file_right xs) (read_file xs) refl
  where
    go : (k : Kind) → CheckedFile xs k → (r : Option (Layout × List Slot)) → read_file xs ≡ r → (rebuild_by k r).answer ≡ Given → LeadsRight xs (rebuild_by k r).trie
    go is_bad c r e h = clash cc
    go (is_cut N) c r e h = clash cc
    go is_sound c nothing e h = clash cc
    go is_sound S (some f) e h = by (leb (string_count f.1) 256) refl h
      where
        same : f ≡ (S.layout, S.slots)
        same = let q : some f ≡ some (S.layout, S.slots) = sym e ∙ S.is in cc

        by : (t : Bool) → leb (string_count f.1) 256 ≡ t
            → (cond t (record { answer = Given; trie = rebuilt_trie f.1 }) (no_rebuilt ManyStrings)).answer ≡ Given
            → LeadsRight xs (cond t (record { answer = Given; trie = rebuilt_trie f.1 }) (no_rebuilt ManyStrings)).trie
        by true q h =
            let few : string_count S.slots ≤ 256 = rw same at (leb-true (string_count f.1) 256 q) in
            rw same (leads xs (rebuilt_trie S.slots) S (rebuilt_trie_agrees S.layout.b S.sound few))
        by false q h = clash cc

-- What passed the checks of put, remove and list: a sound file that reads so, and a trie that agrees with it.
pub record Passed (xs : List ℕ) (t : Trie) (y : Layout) (fs : List Slot) : Type 0 where
  pub is : read_file xs ≡ some (y, fs)
  pub sound : Sound y.b fs
  pub agrees : Agrees fs t

pub looked_passed : (xs : List ℕ) (t : Trie) (y : Layout) (fs : List Slot) → looked_of xs t ≡ fine y fs → Passed xs t y fs
unfolding looked_of looked_at_by
looked_passed xs t y fs = go (check_file xs) (check_file_right xs) (read_file xs) refl
  where
    go : (k : Kind) → CheckedFile xs k → (r : Option (Layout × List Slot)) → read_file xs ≡ r → looked_at_by t k r ≡ fine y fs → Passed xs t y fs
    go is_bad c r e h = clash cc
    go (is_cut N) c r e h = clash cc
    go is_sound c nothing e h = clash cc
    go is_sound S (some f) e h = by (is_agreeing f.1 t) refl h
      where
        by : (a : Bool) → is_agreeing f.1 t ≡ a → cond a (fine f.0 f.1) (refusing stale_trie) ≡ fine y fs → Passed xs t y fs
        by true q h =
            let eb : f.0 ≡ y = cc in
            let ef : f.1 ≡ fs = cc in
            let read : read_file xs ≡ some (y, fs) = rw (← eb, ← ef) e in
            let one : ◌≡◌ {A = Option (Layout × List Slot)} (some (y, fs)) (some (S.layout, S.slots)) = sym read ∙ S.is in
            let pair : ◌≡◌ {A = Layout × List Slot} (S.layout, S.slots) (y, fs) = cc in
            let sb : S.layout ≡ y = ap (λ (f : Layout × List Slot). f.0) pair in
            let sf : S.slots ≡ fs = ap (λ (f : Layout × List Slot). f.1) pair in
            let sound : Sound y.b fs = rw (sb, sf) at S.sound in
            record { is = read; sound = sound; agrees = is_agreeing_agrees y.b sound t (rw ef at q) }
        by false q h = clash cc

-- A put that is made leaves a sound file.
put_sound : (y : Layout) → 2 ≤ y.b → {fs : List Slot} {n : Str} {v : ℕ} {ss : List Store} → Sound y.b fs → Change y.b (place_of y) fs (put n v) ss → Sound y.b (stored ss fs)
put_sound y h {fs} S (fits {A = A} {l = l} {u = u} {es = es} {n = n} {v = v} is g lo up k) =
    one_sound y.b fs S A l u es is (insert n v es) (row_insert n v g lo up (well_a y.b fs S A l u es is).3) k
put_sound y h {fs} S (splits {A = A} {N = N} {l = l} {u = u} {es = es} {n = n} {v = v} is g lo up big low few) =
    second_sound y.b fs S A l u es is n v g lo up big (place_of y (insert n v es)) (place_lt y h (insert n v es)) N low

-- What a put leaves leads right if the put was made.
abbrev Right : PutDone → Type 0
Right d = Made d.answer → LeadsRight d.file d.trie

module _ (xs : List ℕ) (t : Trie) (name : List ℕ) (v run limit : ℕ) (bytes : AreBytes xs) (small : v < 2 ^ 64) (low : run < 2 ^ 64) where
  abbrev n : Str
  n = filled name

  -- What the put asks to be stored.
  abbrev content : Layout → ℕ
  content y = content_from v (kept_run y run)

  after : (y : Layout) (fs : List Slot) → Passed xs t y fs → {ss : List Store} → Change y.b (place_of y) fs (put n (content y)) ss → LeadsRight (stores_bytes y ss xs) (trie_after_put y.b (place_of y) fs n (content y) ss t)
  after y fs p {ss} c =
      let two : 2 ≤ y.b = (file_bytes-read_file xs p.is).1.b_least in
      let S : Sound y.b (stored ss fs) = put_sound y two p.sound c in
      let F : SoundFile (stores_bytes y ss xs) = record { layout = y; slots = stored ss fs; is = read_stored y xs bytes p.is (place_of y) c (put_fits y v run small low) S; sound = S } in
      leads (stores_bytes y ss xs) (trie_after_put y.b (place_of y) fs n (content y) ss t) F (rw (trie_after_put_is y.b (place_of y) n (content y) c t) (change_agrees y.b (place_of y) (place_lt y two) p.sound c p.agrees))

  made : (y : Layout) (fs : List Slot) → Passed xs t y fs → {r : Result} → Answered y.b (place_of y) fs (put n (content y)) r → Right (put_by_stores xs t y fs n (content y) limit r)
  unfolding put_by_stores
  made y fs p (is_denied d) h = absurd h
  made y fs p (is_made {ss = ss} c) h = stopped (ltb limit (length ss)) h
    where
      short : PutDone
      short = record { answer = PutStopped limit; file = stores_bytes y (take limit ss) xs; trie = t }

      whole : PutDone
      whole = record { answer = put_answer (held fs n); file = stores_bytes y ss xs; trie = trie_after_put y.b (place_of y) fs n (content y) ss t }

      stopped : (s : Bool) → Right (cond s short whole)
      stopped true h = absurd h
      stopped false h = after y fs p c

  looked : (l : Looked) → looked_of xs t ≡ l → Legal n → Right (put_on_looked xs t n v run limit l)
  unfolding put_on_looked put_by_stores
  looked (refusing c) e g h = absurd h
  looked (fine y fs) e g h = let p = looked_passed xs t y fs e in put_taken (λ (r : Result). Right (put_by_stores xs t y fs n (content y) limit r)) y fs n (content y) (kept_run y run) (λ e h. absurd h) (λ e. made y fs p (put_right y.b (place_of y) fs p.sound n (content y) g)) h

  -- R13.2, of the grown trie: after every put that is made, from whatever agreeing trie.
  pub put_leads : Made (put_of xs t name v run limit).answer → LeadsRight (put_of xs t name v run limit).file (put_of xs t name v run limit).trie
  unfolding put_of
  put_leads h = limited (ltb 2 limit) h
    where
      big : PutDone
      big = record { answer = PutRefused WrongSize; file = xs; trie = t }

      illegal : PutDone
      illegal = record { answer = PutRefused IllegalName; file = xs; trie = t }

      legal : (g : Bool) → is_legal_name name ≡ g → Right (cond g (put_on_looked xs t n v run limit (looked_of xs t)) illegal)
      legal true e h = looked (looked_of xs t) refl (is_legal_name_legal name e) h
      legal false e h = absurd h

      limited : (c : Bool) → Right (cond c big (cond (is_legal_name name) (put_on_looked xs t n v run limit (looked_of xs t)) illegal))
      limited true h = absurd h
      limited false h = legal (is_legal_name name) refl h
