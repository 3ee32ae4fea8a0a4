-- Demand 3: after any events the file says what the history says, and recovery and rebuilding do not refuse.
use Rattle.model.proofs.Prelude.{Bool, List, Option, [], ◌&&◌, ◌<◌, ◌^◌, ◌∙◌, ◌∷◌, ◌≡◌, ◌≤◌, ◌⊎◌, ap, arith, clash, cond, dec_le, eqb, false, inl, inr, le-leb, le-ltb, length, lt-ltb, ltb, ltb-true, nothing, refl, set, some, subst, suc, sym, take, true, zero, ℕ}
use Rattle.model.specs.declared.Trie.{Trie}
use Rattle.model.specs.declared.Layout.{Layout}
use Rattle.model.specs.declared.Cause.TheVariants.{IllegalName, WrongSize}
use Rattle.model.specs.Results.{Freed, Given, Nothing, PutRefused, PutStopped, RecoverAnswer, RecoverStopped, RemoveRefused, RemoveStopped, TrieRefused}
use Rattle.model.specs.Order.{Str}
use Rattle.model.specs.Tests.{is_legal_name}
use Rattle.model.specs.Names.{Legal, filled}
use Rattle.model.specs.Entries.{content_from}
use Rattle.model.specs.Files.{Cut, Slot, Well, created, free, slot_at}
use Rattle.model.specs.Searches.{string_count}
use Rattle.model.specs.Tries.{Agrees, walk_trie}
use Rattle.model.specs.Changes.{Map, Request, Result, Store, counts, meant, put as to_put, remove as to_remove, stored, trie_removed}
use Rattle.model.specs.Format.{CutFile, SoundFile, are_legal_sizes, check_file, entry_length, file_bytes, file_size, kept_run, layout_of, read_file, store_bytes}
use Rattle.model.specs.Places.{place_of}
use Rattle.model.specs.Calls.{CreateDone, Looked, PutDone, RecoverDone, RemoveDone, create_of, fine, held, held_answer, looked_of, new_trie, put_answer, put_by_stores, put_of, put_on_looked, put_takes, rebuild_by, rebuild_of, recover_by, recover_of, refusing, remove_answer, remove_by_stores, remove_of, remove_on_looked, stores_bytes, trie_after_put}
use Rattle.model.proofs.Tests.{both_true}
use Rattle.model.proofs.Names.{is_legal_name_legal}
use Rattle.model.proofs.Files.{cut_not_sound, cut_well}
use Rattle.model.proofs.Agreement.{agrees_walk, rebuilt_trie_agrees}
use Rattle.model.proofs.LookUps.{lookup_agrees}
use Rattle.model.proofs.Places.{place_lt}
use Rattle.model.proofs.Changes.{Change, Fine, change_made, change_stopped, trie_after}
use Rattle.model.proofs.Calls.{Answered, is_denied, is_made, put_right, put_taken, remove_right}
use Rattle.model.proofs.Format.{are_legal_sizes_sizes, contents_read_file, file_bytes-read_file, headed_layout, put_fits, read_file_read}
use Rattle.model.proofs.CheckedFiles.{check_file_cut, check_file_sound}
use Rattle.model.proofs.Stores.{Asked, Left, change_legal, left_freed, left_stored, legal_take, trie_after_put_is, trie_removed_is}
use Rattle.model.proofs.GrownTries.{change_agrees}
use Rattle.model.proofs.Created.{created_agrees, created_fine, created_left}
use Rattle.promises.specs.Calls.{our_calls}
use Rattle.promises.specs.Demand3.{Demand3, Event, Holds, InHand, Kept, Recovers, State, after, after_freeing, after_put, after_rebuild, after_recover, after_remove, down, file_of, kill, nothing_to_do, now, put, put_by, put_with, rebuild, recover, remove, remove_by, remove_with, running, said, start, step, stopped_at_0}
use Rattle.promises.proofs.Demand1.{demand_1, name_legal}
use Rattle.promises.proofs.Leading.{Passed, leads, looked_passed}
use Rattle.promises.proofs.Stops.{put_stops, recover_stops, remove_stops}

-- With a trie: the file reads as slots that are fine, and the trie agrees with them.
pub record Up (xs : List ℕ) (t : Trie) (m : Map) : Type 0 where
  pub layout : Layout
  pub slots : List Slot
  pub left : Left layout slots xs
  pub good : Fine layout.b slots m
  pub agrees : Agrees slots t

-- Without: they are fine, or freeing one slot makes them so.
pub record Fallen (xs : List ℕ) (m : Map) : Type 0 where
  pub layout : Layout
  pub slots : List Slot
  pub left : Left layout slots xs
  pub near : Fine layout.b slots m ⊎ ((N : ℕ) × Cut layout.b slots N × Fine layout.b (set slots N free) m)

abbrev pub Good : State → Type 0
Good (running xs t m) = Up xs t m
Good (down xs m) = Fallen xs m

up_kept : {xs : List ℕ} {t : Trie} {m : Map} → Up xs t m → Kept our_calls xs t m
unfolding leads
up_kept {xs} {t} U =
    let S : SoundFile xs = record { layout = U.layout; slots = U.slots; is = U.left.is; sound = U.good.sound } in
    record {
      leads = leads xs t S U.agrees;
      means = U.good.means;
      looks_up = λ name g. lookup_agrees xs t name S U.agrees (name_legal g) ∙ ap held_answer (U.good.means (filled name) (walk_trie t (filled name)) (agrees_walk U.layout.b U.good.sound U.agrees (filled name)));
    }

up_down : {xs : List ℕ} {t : Trie} {m : Map} → Up xs t m → Fallen xs m
up_down U = record { layout = U.layout; slots = U.slots; left = U.left; near = inl U.good }

-- Create.
created_up : (xs : List ℕ) (version b slots : ℕ) → (create_of xs version b slots).answer ≡ Given → Good (start (create_of xs version b slots))
unfolding create_of
created_up xs version b slots = go (are_legal_sizes y slots && eqb (length xs) (file_size y slots)) refl
  where
    y : Layout
    y = record { version = version; b = b }

    made : CreateDone
    made = record { answer = Given; file = file_bytes y (created slots); trie = new_trie }

    denied : CreateDone
    denied = record { answer = TrieRefused WrongSize; file = xs; trie = new_trie }

    go : (c : Bool) → (are_legal_sizes y slots && eqb (length xs) (file_size y slots)) ≡ c → (cond c made denied).answer ≡ Given → Good (start (cond c made denied))
    go true e h =
        let p = both_true (are_legal_sizes y slots) (eqb (length xs) (file_size y slots)) e in
        record { layout = y; slots = created slots; left = created_left y slots (are_legal_sizes_sizes y slots p.0); good = created_fine b slots; agrees = created_agrees b slots }
    go false e h = clash cc

-- Rebuild.
rebuilt_up : (xs : List ℕ) (m : Map) (y : Layout) (fs : List Slot) → Left y fs xs → Fine y.b fs m → ((rebuild_of xs).answer ≡ Given) × Up xs (rebuild_of xs).trie m
unfolding rebuild_of rebuild_by
rebuilt_up xs m y fs L F =
    let S : SoundFile xs = record { layout = y; slots = fs; is = L.is; sound = F.sound } in
    rw (check_file_sound xs S, L.is, le-leb (string_count fs) 256 F.few)
    (refl, record { layout = y; slots = fs; left = L; good = F; agrees = rebuilt_trie_agrees y.b F.sound F.few })

-- Recover, with a legal limit: the file is fine then, or nothing was stored.
data Back (xs : List ℕ) (m : Map) (limit : ℕ) : RecoverAnswer → List ℕ → Type 0 where
  back : {N : ℕ} {ys : List ℕ} (y : Layout) (fs : List Slot) → Left y fs ys → Fine y.b fs m → Back xs m limit (Freed N) ys
  same : (y : Layout) (fs : List Slot) → Left y fs xs → Fine y.b fs m → Back xs m limit Nothing xs
  waiting : limit ≡ 0 → Back xs m limit (RecoverStopped 0) xs

back_recovers : {xs : List ℕ} {m : Map} {limit : ℕ} {a : RecoverAnswer} {ys : List ℕ} → Back xs m limit a ys → Recovers our_calls xs m limit a ys
back_recovers {m = m} (back {ys = ys} y fs L F) = let u = rebuilt_up ys m y fs L F in after_freeing u.0 (up_kept u.1)
back_recovers {xs} {m} (same y fs L F) = let u = rebuilt_up xs m y fs L F in nothing_to_do u.0 (up_kept u.1)
back_recovers (waiting z) = stopped_at_0 z

module _ (xs : List ℕ) (m : Map) (D : Fallen xs m) (limit : ℕ) where
  comes_back : limit ≤ 2 → Back xs m limit (recover_of xs limit).answer (recover_of xs limit).file
  unfolding recover_of recover_by
  comes_back h = rw (le-ltb 2 limit h) (go D.near)
    where
      Comes : RecoverDone → Type 0
      Comes d = Back xs m limit d.answer d.file

      freeing : (N : ℕ) → Cut D.layout.b D.slots N → Fine D.layout.b (set D.slots N free) m → (c : Bool) → ltb limit 1 ≡ c
          → Comes (cond c (record { answer = RecoverStopped 0; file = xs }) (record { answer = Freed N; file = store_bytes (layout_of xs) N free xs }))
      freeing N C F true e = waiting (omega (arith, ltb-true limit 1 e))
      freeing N C F false e = back D.layout (set D.slots N free) (left_freed D.layout xs D.left.bytes D.left.is C) F

      go : Fine D.layout.b D.slots m ⊎ ((N : ℕ) × Cut D.layout.b D.slots N × Fine D.layout.b (set D.slots N free) m)
          → Comes (recover_by xs limit (check_file xs))
      go (inl F) =
          let S : SoundFile xs = record { layout = D.layout; slots = D.slots; is = D.left.is; sound = F.sound } in
          rw (check_file_sound xs S) (same D.layout D.slots D.left F)
      go (inr (N, C, F)) =
          let K : CutFile xs N = record { layout = D.layout; slots = D.slots; is = D.left.is; cut = C } in
          rw (check_file_cut xs K) (freeing N C F (ltb limit 1) refl)

  back_good : {a : RecoverAnswer} {ys : List ℕ} → Back xs m limit a ys → Good (after_recover (down xs m) a ys)
  unfolding after_recover now
  back_good (back y fs L F) = record { layout = y; slots = fs; left = L; near = inl F }
  back_good (same y fs L F) = D
  back_good (waiting z) = D

  over_limit : (s : State) → Good (now xs s) → 2 < limit → Good (after_recover s (recover_of xs limit).answer (recover_of xs limit).file)
  unfolding recover_of after_recover
  over_limit s g h = rw (lt-ltb 2 limit h) g

  -- Rebuild, where there is no trie.
  rebuild_down : Good (after_rebuild (down xs m) (rebuild_of xs).answer (rebuild_of xs).trie)
  unfolding after_rebuild rebuild_of rebuild_by
  rebuild_down = go D.near
    where
      go : Fine D.layout.b D.slots m ⊎ ((N : ℕ) × Cut D.layout.b D.slots N × Fine D.layout.b (set D.slots N free) m)
          → Good (after_rebuild (down xs m) (rebuild_of xs).answer (rebuild_of xs).trie)
      go (inl F) = let u = rebuilt_up xs m D.layout D.slots D.left F in rw u.0 u.1
      go (inr (N, C, F)) =
          let K : CutFile xs N = record { layout = D.layout; slots = D.slots; is = D.left.is; cut = C } in
          rw (check_file_cut xs K) D

-- Both, with a trie in hand: there is nothing to recover, and the rebuilt trie agrees too.
module _ (xs : List ℕ) (t : Trie) (m : Map) (U : Up xs t m) where
  recover_up : (limit : ℕ) → limit ≤ 2 → Good (after_recover (running xs t m) (recover_of xs limit).answer (recover_of xs limit).file)
  unfolding recover_of recover_by after_recover now
  recover_up limit h =
      let S : SoundFile xs = record { layout = U.layout; slots = U.slots; is = U.left.is; sound = U.good.sound } in
      rw (le-ltb 2 limit h, check_file_sound xs S) U

  rebuild_up : Good (after_rebuild (running xs t m) (rebuild_of xs).answer (rebuild_of xs).trie)
  unfolding after_rebuild
  rebuild_up = let u = rebuilt_up xs m U.layout U.slots U.left U.good in rw u.0 u.1

-- In any state.
fallen : (s : State) → Good s → Fallen (file_of s) (said s)
fallen (running xs t m) U = up_down U
fallen (down xs m) D = D

stays : (s : State) → Good s → Good (now (file_of s) s)
unfolding now
stays (running xs t m) U = U
stays (down xs m) D = D

recover_good : (s : State) → Good s → (limit : ℕ) → Good (after_recover s (recover_of (file_of s) limit).answer (recover_of (file_of s) limit).file)
recover_good s g limit = elim (dec_le limit 2) [
  | yes h ↦ go s g h
  | no h ↦ over_limit (file_of s) (said s) (fallen s g) limit s (stays s g) (omega arith)
]
  where
    go : (s : State) → Good s → limit ≤ 2 → Good (after_recover s (recover_of (file_of s) limit).answer (recover_of (file_of s) limit).file)
    go (running xs t m) U h = recover_up xs t m U limit h
    go (down xs m) D h = back_good xs m D limit (comes_back xs m D limit h)

rebuild_good : (s : State) → Good s → Good (after_rebuild s (rebuild_of (file_of s)).answer (rebuild_of (file_of s)).trie)
rebuild_good (running xs t m) U = rebuild_up xs t m U
rebuild_good (down xs m) D = rebuild_down xs m D 0

-- A change of a file that has its trie.
module _ (xs : List ℕ) (t : Trie) (m : Map) (U : Up xs t m) where
  same_file : {y : Layout} {fs : List Slot} → read_file xs ≡ some (y, fs) → Fine y.b fs m
  same_file {y} {fs} e =
      let o : ◌≡◌ {A = Option (Layout × List Slot)} (some (U.layout, U.slots)) (some (y, fs)) = sym U.left.is ∙ e in
      let p : ◌≡◌ {A = Layout × List Slot} (U.layout, U.slots) (y, fs) = cc in
      subst (λ (f : Layout × List Slot). Fine f.0.b f.1 m) p U.good

  module _ (y : Layout) (fs : List Slot) (p : Passed xs t y fs) {q : Request} {ss : List Store} (c : Change y.b (place_of y) fs q ss) (asked : Asked (entry_length y) q) where
    two : 2 ≤ y.b
    two = (file_bytes-read_file xs p.is).1.b_least

    -- All its stores made,
    made_up : Up (stores_bytes y ss xs) (trie_after y.b (place_of y) c t) (meant q m)
    made_up =
        let F = change_made y.b (place_of y) (place_lt y two) (same_file p.is) c in
        let g = change_legal (entry_length y) y.b (place_of y) c asked (contents_read_file xs U.left.bytes p.is) in
        record {
          layout = y;
          slots = stored ss fs;
          left = left_stored y xs U.left.bytes p.is ss g F.sound.well;
          good = F;
          agrees = change_agrees y.b (place_of y) (place_lt y two) p.sound c p.agrees;
        }

    -- or some of them.
    stopped_down : (k : ℕ) → k < length ss → Fallen (stores_bytes y (take k ss) xs) (cond (counts q k) (meant q m) m)
    stopped_down k h = go (change_stopped y.b (place_of y) (place_lt y two) F c k h)
      where
        F : Fine y.b fs m
        F = same_file p.is

        left : ((B : ℕ) → Well y.b (slot_at (stored (take k ss) fs) B)) → Left y (stored (take k ss) fs) (stores_bytes y (take k ss) xs)
        left = left_stored y xs U.left.bytes p.is (take k ss) (legal_take (entry_length y) (length fs) k ss (change_legal (entry_length y) y.b (place_of y) c asked (contents_read_file xs U.left.bytes p.is)))

        as_counted : (c : Bool) → Fine y.b (cond c (stored ss fs) fs) (cond c (meant q m) m)
        as_counted true = change_made y.b (place_of y) (place_lt y two) F c
        as_counted false = F

        go : ((stored (take k ss) fs ≡ fs) × (counts q k ≡ false)) ⊎ ((N : ℕ) × Cut y.b (stored (take k ss) fs) N × (set (stored (take k ss) fs) N free ≡ cond (counts q k) (stored ss fs) fs))
            → Fallen (stores_bytes y (take k ss) xs) (cond (counts q k) (meant q m) m)
        go (inl (e, f)) = record { layout = y; slots = stored (take k ss) fs; left = left (rw e F.sound.well); near = inl (rw (e, f) F) }
        go (inr (N, C, e)) = record { layout = y; slots = stored (take k ss) fs; left = left (cut_well y.b C); near = inr (N, C, rw e (as_counted (counts q k))) }

-- A trie that passes the checks of put and remove agrees with the file, in hand or not.
passed_up : (xs : List ℕ) (m : Map) → Fallen xs m → (t : Trie) {y : Layout} {fs : List Slot} → Passed xs t y fs → Up xs t m
passed_up xs m D t {y} {fs} p = go D.near
  where
    one : ◌≡◌ {A = Layout × List Slot} (D.layout, D.slots) (y, fs)
    one = let o : ◌≡◌ {A = Option (Layout × List Slot)} (some (D.layout, D.slots)) (some (y, fs)) = sym D.left.is ∙ p.is in cc

    layouts : D.layout ≡ y
    layouts = ap (λ (f : Layout × List Slot). f.0) one

    slots : D.slots ≡ fs
    slots = ap (λ (f : Layout × List Slot). f.1) one

    go : Fine D.layout.b D.slots m ⊎ ((N : ℕ) × Cut D.layout.b D.slots N × Fine D.layout.b (set D.slots N free) m) → Up xs t m
    go (inl F) = record { layout = D.layout; slots = D.slots; left = D.left; good = F; agrees = rw slots p.agrees }
    go (inr (N, C, F)) = absurd (cut_not_sound D.layout.b C (rw (layouts, slots) p.sound))

-- A put with any trie, in any state.
module _ (s : State) (g : Good s) (t : Trie) where
  abbrev xs : List ℕ
  xs = file_of s

  abbrev m : Map
  m = said s

  up : {y : Layout} {fs : List Slot} → Passed xs t y fs → Up xs t m
  up p = passed_up xs m (fallen s g) t p

  module _ (name : List ℕ) (v run limit : ℕ) (small : v < 2 ^ 64) (low : run < 2 ^ 64) where
    abbrev n : Str
    n = filled name

    -- What the put asks to be stored.
    abbrev content : Layout → ℕ
    content y = content_from v (kept_run y run)

    abbrev Fit : Layout → PutDone → Type 0
    Fit y d = Good (after_put s n (content y) d.answer d.file d.trie)

    put_made : (y : Layout) (fs : List Slot) → Passed xs t y fs → {r : Result} → Answered y.b (place_of y) fs (to_put n (content y)) r → Fit y (put_by_stores xs t y fs n (content y) limit r)
    unfolding put_by_stores after_put counts
    put_made y fs p (is_denied d) = stays s g
    put_made y fs p (is_made {ss = ss} c) = go (ltb limit (length ss)) refl (held fs n)
      where
        go : (c : Bool) → ltb limit (length ss) ≡ c → (o : Option ℕ)
            → Fit y (cond c (record { answer = PutStopped limit; file = stores_bytes y (take limit ss) xs; trie = t }) (record { answer = put_answer o; file = stores_bytes y ss xs; trie = trie_after_put y.b (place_of y) fs n (content y) ss t }))
        go true e o = stopped_down xs t m (up p) y fs p c (put_fits y v run small low) limit (ltb-true limit (length ss) e)
        go false e nothing = rw (trie_after_put_is y.b (place_of y) n (content y) c t) (made_up xs t m (up p) y fs p c (put_fits y v run small low))
        go false e (some w) = rw (trie_after_put_is y.b (place_of y) n (content y) c t) (made_up xs t m (up p) y fs p c (put_fits y v run small low))

    put_looked : (l : Looked) → looked_of xs t ≡ l → Legal n → Fit (layout_of xs) (put_on_looked xs t n v run limit l)
    unfolding put_on_looked put_by_stores after_put
    put_looked (refusing c) e h = stays s g
    put_looked (fine y fs) e h =
        let p = looked_passed xs t y fs e in
        let k : layout_of xs ≡ y = headed_layout (read_file_read xs p.is).headed in
        subst (λ (z : Layout). Fit z (put_by_stores xs t y fs n (content y) limit (put_takes y fs n (content y) (kept_run y run)))) (sym k)
        (put_taken (λ (r : Result). Fit y (put_by_stores xs t y fs n (content y) limit r)) y fs n (content y) (kept_run y run) (λ e. stays s g)
        (λ e. put_made y fs p (put_right y.b (place_of y) fs p.sound n (content y) h)))

    put_good : Good (put_by our_calls s t name v run limit)
    unfolding put_by put_of after_put
    put_good = limited (ltb 2 limit) (is_legal_name name) refl
      where
        limited : (c h : Bool) → is_legal_name name ≡ h
            → Fit (layout_of xs) (cond c (record { answer = PutRefused WrongSize; file = xs; trie = t }) (cond h (put_on_looked xs t n v run limit (looked_of xs t)) (record { answer = PutRefused IllegalName; file = xs; trie = t })))
        limited true h e = stays s g
        limited false true e = put_looked (looked_of xs t) refl (is_legal_name_legal name e)
        limited false false e = stays s g

  -- Remove.
  module _ (name : List ℕ) (limit : ℕ) where
    abbrev k : Str
    k = filled name

    abbrev Fits : RemoveDone → Type 0
    Fits d = Good (after_remove s k d.answer d.file d.trie)

    remove_made : (y : Layout) (fs : List Slot) → Passed xs t y fs → {r : Result} → Answered y.b (place_of y) fs (to_remove k) r → Fits (remove_by_stores xs t y fs limit r)
    unfolding remove_by_stores after_remove counts
    remove_made y fs p (is_denied d) = stays s g
    remove_made y fs p (is_made {ss = ss} c) = go (ltb limit (length ss)) refl
      where
        stopped : (j : ℕ) → j < length ss → Good (after_remove s k (RemoveStopped j) (stores_bytes y (take j ss) xs) t)
        stopped zero h = stopped_down xs t m (up p) y fs p c tt zero h
        stopped (suc j) h = stopped_down xs t m (up p) y fs p c tt (suc j) h

        made : (rs : List Store) → Good (after_remove s k (remove_answer rs) (stores_bytes y ss xs) (trie_removed fs ss t))
        made [] = rw (trie_removed_is y.b (place_of y) c t) (made_up xs t m (up p) y fs p c tt)
        made (r ∷ rs) = rw (trie_removed_is y.b (place_of y) c t) (made_up xs t m (up p) y fs p c tt)

        go : (c : Bool) → ltb limit (length ss) ≡ c
            → Fits (cond c (record { answer = RemoveStopped limit; file = stores_bytes y (take limit ss) xs; trie = t }) (record { answer = remove_answer ss; file = stores_bytes y ss xs; trie = trie_removed fs ss t }))
        go true e = stopped limit (ltb-true limit (length ss) e)
        go false e = made ss

    remove_looked : (l : Looked) → looked_of xs t ≡ l → Fits (remove_on_looked xs t k limit l)
    unfolding remove_on_looked after_remove
    remove_looked (refusing c) e = stays s g
    remove_looked (fine y fs) e = let p = looked_passed xs t y fs e in remove_made y fs p (remove_right y.b (place_of y) fs p.sound k)

    remove_good : Good (remove_by our_calls s t name limit)
    unfolding remove_by remove_of after_remove
    remove_good = limited (ltb 2 limit) (is_legal_name name)
      where
        limited : (c h : Bool)
            → Fits (cond c (record { answer = RemoveRefused WrongSize; file = xs; trie = t }) (cond h (remove_on_looked xs t k limit (looked_of xs t)) (record { answer = RemoveRefused IllegalName; file = xs; trie = t })))
        limited true h = stays s g
        limited false true = remove_looked (looked_of xs t) refl
        limited false false = stays s g

step_good : (e : Event) (s : State) → Good s → Good (step our_calls e s)
unfolding step
step_good (put name v small run low limit) (running xs t m) U = put_good (running xs t m) U t name v run limit small low
step_good (put name v small run low limit) (down xs m) D = D
step_good (remove name limit) (running xs t m) U = remove_good (running xs t m) U t name limit
step_good (remove name limit) (down xs m) D = D
step_good (put_with t name v small run low limit) s g = put_good s g t name v run limit small low
step_good (remove_with t name limit) s g = remove_good s g t name limit
step_good kill s g = fallen s g
step_good (recover limit) s g = recover_good s g limit
step_good rebuild s g = rebuild_good s g

after_good : (es : List Event) (s : State) → Good s → Good (after our_calls es s)
unfolding after
after_good [] s g = g
after_good (e ∷ es) s g = after_good es (step our_calls e s) (step_good e s g)

good_in_hand : (s : State) → Good s → InHand our_calls s
good_in_hand (running xs t m) U = up_kept U
good_in_hand (down xs m) D = tt

good_holds : (s : State) → Good s → Holds our_calls s
good_holds s g = record {
  in_hand = good_in_hand s g;
  recovery = λ limit h. back_recovers (comes_back (file_of s) (said s) (fallen s g) limit h);
  put_refused = demand_1.put_leaves (file_of s);
  remove_refused = demand_1.remove_leaves (file_of s);
  recover_refused = demand_1.recover_leaves (file_of s);
  put_stopped = put_stops (file_of s);
  remove_stopped = remove_stops (file_of s) (fallen s g).left.bytes;
  recover_stopped = recover_stops (file_of s);
}

pub demand_3 : Demand3 our_calls
demand_3 = record {
  always = λ xs version b slots e es.
      let s = start (create_of xs version b slots) in
      good_holds (after our_calls es s) (after_good es s (created_up xs version b slots e));
}
