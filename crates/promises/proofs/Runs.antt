-- Which run wrote it: what files of version 3 keep and refuse, and that files of versions 1 and 2 stay as they were.
use Rattle.model.proofs.Prelude.{Bool, List, Option, ◌&&◌, ◌<◌, ◌∙◌, ◌≡◌, ◌≢◌, ◌≤◌, ap, ap₂, arith, clash, cond, false, inl, inr, le-ltb, length, ltb, ne_eqb, not, nothing, refl, some, subst, sym, take, true, ℕ}
use Rattle.model.specs.declared.Cause.TheVariants.{BadFile as bad_file, IllegalName, OlderRun, StaleTrie, WrongSize}
use Rattle.model.specs.declared.Content.{Content}
use Rattle.model.specs.declared.Layout.{Layout}
use Rattle.model.specs.Results.{Found, LookUpAnswer, LookUpRefused, PutAnswer, PutRefused, PutStopped, RemoveRefused, RemoveStopped, Removed, Replaced}
use Rattle.model.specs.declared.Trie.{Trie}
use Rattle.model.specs.Order.{Low, Str, ◌⊑◌, ◌◁◌}
use Rattle.model.specs.Tests.{is_above, is_at_most, is_legal_name, same_str}
use Rattle.model.specs.Names.{broken, filled}
use Rattle.model.specs.Entries.{Entry, content_from, find, insert, run_of_content, value_of_content}
use Rattle.model.specs.Files.{In, Slot, Well, entries_of, free, head, slot_at, used}
use Rattle.model.specs.Searches.{first, is_in_range}
use Rattle.model.specs.Tries.{walk_of}
use Rattle.model.specs.Changes.{Map, Result, Store, meant, no_room, put, refuse, remove, stored, stores, too_many, trie_removed}
use Rattle.model.specs.Checks.{is_well_formed}
use Rattle.model.specs.Format.{AreBytes, bytes_at_slot, entry_length, file_size, header_of, is_right_header, kept_run, layout_of, read_file, read_slot, slot_size}
use Rattle.model.specs.Places.{place_of}
use Rattle.model.specs.Calls.{Looked, PutDone, RemoveDone, arrived_answer, fine, headed_answer, held, held_answer, landed, look_up_of, looked_of, put_answer, put_by_stores, put_of, put_on_looked, put_takes, refusing, remove_answer, remove_by_stores, remove_of, remove_on_looked, slot_answer, stores_bytes, trie_after_put}
use Rattle.model.proofs.Tests.{same_str_self}
use Rattle.model.proofs.Names.{is_legal_name_legal}
use Rattle.model.proofs.Entries.{find_drop, insert_new}
use Rattle.model.proofs.Files.{one_range, well_parts}
use Rattle.model.proofs.Agreement.{agrees_few, agrees_walk}
use Rattle.model.proofs.LookUps.{lookup_agrees}
use Rattle.model.proofs.Places.{place_lt}
use Rattle.model.proofs.Changes.{Fine, change_made, fits, splits}
use Rattle.model.proofs.Calls.{Answered, found_one, in_range, is_denied, is_made, older_held, put_right, put_taken, remove_right, replaced_one}
use Rattle.model.proofs.CheckedFiles.{sound_not_cut}
use Rattle.model.proofs.Stores.{read_stored}
use Rattle.model.proofs.Format.{Contents, bytes_bytes_at_slot, contents_find, contents_read_file, contents_read_slot, file_bytes-read_file, headed_layout, no_run, read_file_read, run_part, value_part}
use Rattle.promises.specs.Calls.{our_calls, version_1, version_2, version_3}
use Rattle.promises.specs.Demand1.{FirstHolding, HeldHigher, put_table, slots_of}
use Rattle.promises.specs.Runs.{Reached, Runs}
use Rattle.promises.proofs.Demand1.{demand_1, name_legal, same_slots}
use Rattle.promises.proofs.Leading.{Passed, looked_passed}
use Rattle.promises.proofs.Meanings.{passed_looked}

pub sizes : (b : ℕ) → (entry_length (version_3 b) ≡ 40) × (entry_length (version_2 b) ≡ 32) × (entry_length (version_1 b) ≡ 32)
unfolding entry_length
sizes b = (refl, refl, refl)

pub largest : file_size (version_3 16) 64 ≡ 45072
unfolding file_size slot_size entry_length
largest = refl

no_kept : (y : Layout) (run : ℕ) → y.version ≢ 3 → kept_run y run ≡ 0
unfolding kept_run
no_kept y run d = rw (ne_eqb y.version 3 d)

module _ (xs : List ℕ) (t : Trie) (v run other limit : ℕ) (older : (layout_of xs).version ≢ 3) where
  ignored_looked : (n : Str) (l : Looked) → looked_of xs t ≡ l → put_on_looked xs t n v run limit l ≡ put_on_looked xs t n v other limit l
  unfolding put_on_looked
  ignored_looked n (refusing c) e = refl
  ignored_looked n (fine y fs) e =
      let k : layout_of xs ≡ y = headed_layout (read_file_read xs (looked_passed xs t y fs e).is).headed in
      let d : y.version ≢ 3 = subst (λ (z : Layout). z.version ≢ 3) k older in
      rw (no_kept y run d, no_kept y other d)

  pub ignored : (name : List ℕ) → put_of xs t name v run limit ≡ put_of xs t name v other limit
  unfolding put_of
  ignored name = rw (ignored_looked (filled name) (looked_of xs t) refl)

-- Of the causes of a put, 12 is given for one alone; and where those before it do not hold, by it.
module _ (xs : List ℕ) (t : Trie) (name : List ℕ) (v run limit : ℕ) where
  first_higher : FirstHolding OlderRun (put_table xs t name v run limit) → HeldHigher xs name run
  first_higher (inl g) = let z = g.0 in clash cc
  first_higher (inr (a, inl g)) = let z = g.0 in clash cc
  first_higher (inr (a, inr (b, inl g))) = let z = g.0 in clash cc
  first_higher (inr (a, inr (b, inr (c, inl g)))) = let z = g.0 in clash cc
  first_higher (inr (a, inr (b, inr (c, inr (d, inl g))))) = let z = g.0 in clash cc
  first_higher (inr (a, inr (b, inr (c, inr (d, inr (e, inl g)))))) = g.1
  first_higher (inr (a, inr (b, inr (c, inr (d, inr (e, inr (f, inl g))))))) = let z = g.0 in clash cc
  first_higher (inr (a, inr (b, inr (c, inr (d, inr (e, inr (f, inr (h, inl g)))))))) = let z = g.0 in clash cc
  first_higher (inr (a, inr (b, inr (c, inr (d, inr (e, inr (f, inr (h, inr g)))))))) = absurd g.1

  higher_first : Reached xs t name limit → HeldHigher xs name run → FirstHolding OlderRun (put_table xs t name v run limit)
  higher_first R h =
      inr (
        λ k. absurd (omega (arith, k, R.limited)),
        inr (
          λ n. n R.legal,
          inr (
            λ B. B.0 R.file,
            inr (
              λ C. sound_not_cut R.file C.1,
              inr (λ T. T.differs (rw (same_slots R.file.is T.file) R.agrees), inl (refl, h)),
            ),
          ),
        ),
      )

-- A held name always finds room.
held_room : {b : ℕ} {l : Low} {u : Str} {es : List Entry} → Well b (used l u es) → (n : Str) (c w : ℕ) → find n es ≡ some w → b < length (insert n c es) → ⊥
held_room {b} {es = es} W n c w f big =
    let p = well_parts b W in
    let e = insert_new n c p.3 (omega (arith, p.4, big)) in
    let z : ◌≡◌ {A = Option ℕ} nothing (some w) = sym (find_drop (λ k. not (same_str k n)) n es (ap not (same_str_self n))) ∙ ap (find n) e ∙ f in
    clash cc

-- A put that the checks let pass.
module _ (xs : List ℕ) (t : Trie) (name : List ℕ) (limit : ℕ) (R : Reached xs t name limit) where
  abbrev y : Layout
  y = R.file.layout

  abbrev fs : List Slot
  fs = R.file.slots

  abbrev n : Str
  n = filled name

  there : In (head (slot_at fs (first (is_in_range n) fs))) n
  there = in_range y.b (place_of y) fs R.file.sound n

  -- What a lookup finds is what is held.
  looks_up : look_up_of xs t name ≡ held_answer (held fs n)
  looks_up =
      lookup_agrees xs t name R.file R.agrees (name_legal R.legal)
      ∙ ap (λ (k : ℕ). held_answer (find n (entries_of (slot_at fs k)))) (one_range y.b R.file.sound n (agrees_walk y.b R.file.sound R.agrees n) there)

  module _ (c w : ℕ) (h : held fs n ≡ some w) (one : 1 ≤ limit) where
    roomy : (A : ℕ) {l : Low} {u : Str} {es : List Entry} → slot_at fs A ≡ used l u es → l ◁ n → n ⊑ u → y.b < length (insert n c es) → ⊥
    roomy A {l} {u} {es} is lo up big =
        let k : A ≡ first (is_in_range n) fs = one_range y.b R.file.sound n (rw is (tt, lo, up)) there in
        let f : find n (entries_of (slot_at fs A)) ≡ some w = rw k h in
        held_room (rw is at (R.file.sound.well A)) n c w (rw is at f) big

    held_made : {r : Result} → Answered y.b (place_of y) fs (put n c) r → (put_by_stores xs t y fs n c limit r).answer ≡ put_answer (held fs n)
    unfolding put_by_stores
    held_made (is_made (fits is g lo up k)) = rw (le-ltb limit 1 one)
    held_made (is_made (splits {A = A} is g lo up big low few)) = absurd (roomy A is lo up big)
    held_made (is_denied (no_room A es is lo up big f)) = absurd (roomy A is lo up big)
    held_made (is_denied (too_many A N es is lo up big L k)) = absurd (roomy A is lo up big)

  pub equal : (v run old : ℕ) → 1 ≤ limit → look_up_of xs t name ≡ Found old (kept_run (layout_of xs) run)
      → (put_of xs t name v run limit).answer ≡ Replaced old (kept_run (layout_of xs) run)
  unfolding put_of put_on_looked
  equal v run old one e =
      rw (le-ltb 2 limit R.limited, name_legal R.legal, passed_looked xs t y fs R.file.is R.file.sound R.agrees) (go (held fs n) refl (sym looks_up ∙ e))
    where
      layout_is : layout_of xs ≡ y
      layout_is = headed_layout (read_file_read xs R.file.is).headed

      content : ℕ
      content = content_from v (kept_run y run)

      Says : PutAnswer → Result → Type 0
      Says a r = (put_by_stores xs t y fs n content limit r).answer ≡ a

      go : (o : Option ℕ) → held fs n ≡ o → held_answer o ≡ Found old (kept_run (layout_of xs) run)
          → Says (Replaced old (kept_run (layout_of xs) run)) (put_takes y fs n content (kept_run y run))
      go nothing h q = clash cc
      go (some w) h q =
          let a : value_of_content w ≡ old = ap (λ (c : Content). c.value) (found_one q) in
          let b : run_of_content w ≡ kept_run (layout_of xs) run = ap (λ (c : Content). c.run) (found_one q) in
          let d : run_of_content w ≡ kept_run y run = b ∙ ap (λ (z : Layout). kept_run z run) layout_is in
          put_taken (Says (put_answer (held fs n))) y fs n content (kept_run y run)
          (λ e.
          let o = older_held (kept_run y run) (held fs n) e in
          let s : ◌≡◌ {A = Option ℕ} (some w) (some o.0) = sym h ∙ o.1 in
          let i : w ≡ o.0 = cc in
          absurd (omega (arith, d, o.2, ap run_of_content i)))
          (λ e. held_made content w h one (put_right y.b (place_of y) fs R.file.sound n content (is_legal_name_legal name (name_legal R.legal))))
          ∙ ap put_answer h ∙ ap₂ Replaced a b

-- What is read of a file of version 1 or 2 has the run 0.
none_kept : (y : Layout) → y.version ≢ 3 → (n : Str) (es : List Entry) (w : ℕ) → Contents (entry_length y) es → find n es ≡ some w → run_of_content w ≡ 0
none_kept y older n es w c f = no_run y w (ne_eqb y.version 3 older) (contents_find (entry_length y) n es w c f)

module _ (xs : List ℕ) (t : Trie) (name : List ℕ) (v run : ℕ) (bytes : AreBytes xs) (older : (layout_of xs).version ≢ 3) where
  abbrev ys : Layout
  ys = layout_of xs

  abbrev m : Str
  m = filled name

  abbrev Zero : LookUpAnswer → Type 0
  Zero a = a ≡ Found v run → run ≡ 0

  slot_0 : (k : ℕ) (o : Option Slot) → read_slot ys (bytes_at_slot ys k xs) ≡ o → Zero (slot_answer ys.b m o)
  unfolding slot_answer
  slot_0 k nothing e q = clash cc
  slot_0 k (some free) e q = clash cc
  slot_0 k (some (used l u es)) e q = go (is_well_formed ys.b (used l u es)) (is_above l m && is_at_most m u) (find m es) refl q
    where
      go : (w r : Bool) (o : Option ℕ) → find m es ≡ o → Zero (cond w (cond r (held_answer o) (LookUpRefused (StaleTrie (broken l u m)))) (LookUpRefused bad_file))
      go false r o f q = clash cc
      go true false o f q = clash cc
      go true true nothing f q = clash cc
      go true true (some c) f q =
          ap (λ (c : Content). c.run) (found_one (sym q)) ∙ none_kept ys older m es c (contents_read_slot ys (bytes_at_slot ys k xs) (bytes_bytes_at_slot ys k xs bytes) e) f

  pub found_0 : Zero (look_up_of xs t name)
  unfolding look_up_of headed_answer header_of arrived_answer
  found_0 = go (is_legal_name name) (is_right_header ys (slots_of xs) xs)
    where
      arrived : (o : Option ℕ) → Zero (arrived_answer xs ys m o)
      arrived nothing q = clash cc
      arrived (some k) q = slot_0 k (read_slot ys (bytes_at_slot ys k xs)) refl q

      go : (g h : Bool) → Zero (cond g (headed_answer xs t m (cond h (some (ys, slots_of xs)) nothing)) (LookUpRefused IllegalName))
      go false h q = clash cc
      go true false q = clash cc
      go true true q = arrived (landed (slots_of xs) (walk_of t m)) q

  module _ (limit old old_run : ℕ) where
    abbrev Without : PutDone → Type 0
    Without d = d.answer ≡ Replaced old old_run → old_run ≡ 0

    stored_0 : (y : Layout) (fs : List Slot) → Passed xs t y fs → (c : ℕ) (r : Result) → Without (put_by_stores xs t y fs m c limit r)
    unfolding put_by_stores
    stored_0 y fs p c (refuse r) q = clash cc
    stored_0 y fs p c (stores ss) q = go (ltb limit (length ss)) (held fs m) refl q
      where
        newer : y.version ≢ 3
        newer = subst (λ (z : Layout). z.version ≢ 3) (headed_layout (read_file_read xs p.is).headed) older

        go : (s : Bool) (o : Option ℕ) → held fs m ≡ o
            → Without (cond s (record { answer = PutStopped limit; file = stores_bytes y (take limit ss) xs; trie = t }) (record { answer = put_answer o; file = stores_bytes y ss xs; trie = trie_after_put y.b (place_of y) fs m c ss t }))
        go true o h q = clash cc
        go false nothing h q = clash cc
        go false (some w) h q =
            ap (λ (c : Content). c.run) (replaced_one (sym q)) ∙ none_kept y newer m (entries_of (slot_at fs (first (is_in_range m) fs))) w (contents_read_file xs bytes p.is (first (is_in_range m) fs)) h

    looked_0 : (l : Looked) → looked_of xs t ≡ l → Without (put_on_looked xs t m v run limit l)
    unfolding put_on_looked
    looked_0 (refusing c) e q = clash cc
    looked_0 (fine y fs) e q = stored_0 y fs (looked_passed xs t y fs e) _ _ q

    pub replaced_0 : Without (put_of xs t name v run limit)
    unfolding put_of
    replaced_0 = go (ltb 2 limit) (is_legal_name name)
      where
        go : (l g : Bool)
            → Without (cond l (record { answer = PutRefused WrongSize; file = xs; trie = t }) (cond g (put_on_looked xs t m v run limit (looked_of xs t)) (record { answer = PutRefused IllegalName; file = xs; trie = t })))
        go true g q = clash cc
        go false false q = clash cc
        go false true q = looked_0 (looked_of xs t) refl q

-- What a removal leaves says nothing of the name.
record Gone (ys : List ℕ) (n : Str) : Type 0 where
  layout : Layout
  slots : List Slot
  is : read_file ys ≡ some (layout, slots)
  lost : (B : ℕ) → In (head (slot_at slots B)) n → find n (entries_of (slot_at slots B)) ≡ nothing

module _ (xs : List ℕ) (t : Trie) (name : List ℕ) (limit : ℕ) (bytes : AreBytes xs) where
  abbrev k : Str
  k = filled name

  abbrev Forgets : RemoveDone → Type 0
  Forgets d = (j : ℕ) → d.answer ≡ Removed j → Gone d.file k

  forgets_made : (y : Layout) (fs : List Slot) → Passed xs t y fs → {r : Result} → Answered y.b (place_of y) fs (remove k) r → Forgets (remove_by_stores xs t y fs limit r)
  unfolding remove_by_stores
  forgets_made y fs p (is_denied d) = λ j q. clash cc
  forgets_made y fs p (is_made {ss = ss} c) = go (ltb limit (length ss)) ss
    where
      says : Map
      says j = held fs j

      before : Fine y.b fs says
      before = record {
        sound = p.sound;
        means = λ j B h. ap (λ (A : ℕ). find j (entries_of (slot_at fs A))) (one_range y.b p.sound j h (in_range y.b (place_of y) fs p.sound j));
        few = agrees_few y.b p.sound p.agrees;
      }

      after : Fine y.b (stored ss fs) (meant (remove k) says)
      after = change_made y.b (place_of y) (place_lt y (file_bytes-read_file xs p.is).1.b_least) before c

      gone : Gone (stores_bytes y ss xs) k
      gone = record {
        layout = y;
        slots = stored ss fs;
        is = read_stored y xs bytes p.is (place_of y) c tt after.sound;
        lost = λ B h. (rw (same_str_self k) at (after.means k B h));
      }

      go : (s : Bool) (rs : List Store)
          → Forgets (cond s (record { answer = RemoveStopped limit; file = stores_bytes y (take limit ss) xs; trie = t }) (record { answer = remove_answer rs; file = stores_bytes y ss xs; trie = trie_removed fs ss t }))
      go true rs j q = clash cc
      go false rs j q = gone

  forgets_looked : (l : Looked) → looked_of xs t ≡ l → Forgets (remove_on_looked xs t k limit l)
  unfolding remove_on_looked
  forgets_looked (refusing c) e = λ j q. clash cc
  forgets_looked (fine y fs) e = let p = looked_passed xs t y fs e in forgets_made y fs p (remove_right y.b (place_of y) fs p.sound k)

  forgets : Forgets (remove_of xs t name limit)
  unfolding remove_of
  forgets = go (ltb 2 limit) (is_legal_name name)
    where
      go : (l g : Bool)
          → Forgets (cond l (record { answer = RemoveRefused WrongSize; file = xs; trie = t }) (cond g (remove_on_looked xs t k limit (looked_of xs t)) (record { answer = RemoveRefused IllegalName; file = xs; trie = t })))
      go true g = λ j q. clash cc
      go false false = λ j q. clash cc
      go false true = forgets_looked (looked_of xs t) refl

  pub forgotten : (u : Trie) (v run again j : ℕ) → (remove_of xs t name limit).answer ≡ Removed j
      → (put_of (remove_of xs t name limit).file u name v run again).answer ≢ PutRefused OlderRun
  forgotten u v run again j e r =
      let ys = (remove_of xs t name limit).file in
      let H = first_higher ys u name v run again ((demand_1.put ys u name v run again OlderRun).0 r) in
      let G = forgets j e in
      let s = same_slots G.is H.file in
      let z : ◌≡◌ {A = Option ℕ} nothing (some H.content) = sym (G.lost H.bucket (rw s at H.in_range)) ∙ (rw s at H.found) in
      clash cc

pub runs : Runs our_calls
runs = record {
  sizes = sizes;
  largest = largest;
  told = λ v run h. (ap₂ Found (value_part v run h) (run_part v run h), ap₂ Replaced (value_part v run h) (run_part v run h));
  refused = λ xs t name v run limit R. (
    λ e. first_higher xs t name v run limit ((demand_1.put xs t name v run limit OlderRun).0 e),
    λ h. (demand_1.put xs t name v run limit OlderRun).1 (higher_first xs t name v run limit R h),
  );
  equal = λ xs t name v run limit old R one e. equal xs t name limit R v run old one e;
  ignored = λ xs t name v run other limit older. ignored xs t v run other limit older name;
  found_0 = λ xs t name v run bytes older. found_0 xs t name v run bytes older;
  replaced_0 = λ xs t name v run limit old old_run bytes older. replaced_0 xs t name v run bytes older limit old old_run;
  forgotten = λ xs t u name v run limit again j bytes. forgotten xs t name limit bytes u v run again j;
}
