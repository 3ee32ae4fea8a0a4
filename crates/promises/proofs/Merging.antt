-- A removal that gives a room back: the laws of the model, told of the calls.
use Rattle.model.proofs.Prelude.{Bool, List, Option, [], ◌<◌, ◌∙◌, ◌∷◌, ◌≡◌, ◌≤◌, ap, arith, clash, false, inl, inr, le-leb, le-ltb, length, lt-ltb, ltb, ltb-false, ltb-true, refl, set, some, sym, take, true, ℕ}
use Rattle.model.specs.declared.Cause.{Cause}
use Rattle.model.specs.declared.Cause.TheVariants.{BadFile, IllegalName}
use Rattle.model.specs.declared.Layout.{Layout}
use Rattle.model.specs.Results.{Freed, Given, NotHeld, RemoveRefused, RemoveStopped, Removed}
use Rattle.model.specs.declared.Trie.{Trie}
use Rattle.model.specs.Order.{Low, Str, ◌⊑◌, ◌◁◌}
use Rattle.model.specs.Tests.{is_legal_name}
use Rattle.model.specs.Names.{filled}
use Rattle.model.specs.Entries.{Entry, find}
use Rattle.model.specs.Files.{Cut, Slot, Sound, entries_of, free, slot_at, used}
use Rattle.model.specs.Searches.{string_count}
use Rattle.model.specs.Tries.{walk_trie}
use Rattle.model.specs.Rebuilding.{rebuilt_trie}
use Rattle.model.specs.Changes.{Map, Result, Store, call, counts, meant, refuse, removal, remove, stored, stores, trie_removed}
use Rattle.model.specs.Places.{place_of}
use Rattle.model.specs.Format.{AreBytes, CutFile, SoundFile, entry_length, file_bytes, layout_of, read_file, store_bytes}
use Rattle.model.specs.Calls.{Looked, RemoveDone, fine, looked_of, rebuild_by, rebuild_of, recover_by, recover_of, refusing, remove_answer, remove_by_stores, remove_of, remove_on_looked, stores_bytes}
use Rattle.model.proofs.Entries.{find_at, row_at}
use Rattle.model.proofs.Files.{cut_well, one_range}
use Rattle.model.proofs.Agreement.{agrees_few, agrees_walk}
use Rattle.model.proofs.Places.{place_lt}
use Rattle.model.proofs.Merging.{Removal, ToLeft, ToRight, alone, by_left, by_right, first_not_left, last_not_right, leftward, not_left, not_right, removal_alone, removal_is, rightward}
use Rattle.model.proofs.Changes.{Change, Fine, absent, change_length, change_made, change_stopped, removal_few, removes, well_a}
use Rattle.model.proofs.Removals.{removal_entries}
use Rattle.model.proofs.Calls.{Answered, change_unique, denied_not_made, is_denied, is_made, remove_right}
use Rattle.model.proofs.Format.{contents_read_file, file_bytes-read_file}
use Rattle.model.proofs.CheckedFiles.{check_file_cut, check_file_sound, one_cut, sound_not_cut}
use Rattle.model.proofs.Stores.{Left, Legal as LegalStores, change_legal, left_freed, left_stored, legal_take, trie_removed_is}
use Rattle.model.proofs.GrownTries.{change_agrees}
use Rattle.promises.specs.Calls.{our_calls}
use Rattle.promises.specs.Demand1.{LegalName}
use Rattle.promises.specs.Demand2.{LeadsRight}
use Rattle.promises.specs.Merging.{Alone, NameGone, Merging, NotLeft, NotRight, Rule, Takes, left_many, no_left, no_right, right_many}
use Rattle.promises.proofs.Demand1.{name_legal}
use Rattle.promises.proofs.Leading.{Passed, leads, looked_passed}
use Rattle.promises.proofs.Limits.{asked, remove_stored}
use Rattle.promises.proofs.Meanings.{passed_looked}

-- Which stores, and what is left of them.
module _ (xs : List ℕ) (t : Trie) (name : List ℕ) (y : Layout) (fs : List Slot) (p : Passed xs t y fs) (legal : LegalName name) where
  abbrev n : Str
  n = filled name

  module _ {s : Store} {ss : List Store} (e : call y.b (place_of y) fs (remove n) ≡ stores (s ∷ ss)) where
    made_by : (limit : ℕ) → limit ≤ 2 → remove_of xs t name limit ≡ remove_by_stores xs t y fs limit (stores (s ∷ ss))
    unfolding remove_of remove_on_looked
    made_by limit h = rw (le-ltb 2 limit h, name_legal legal, passed_looked xs t y fs p.is p.sound p.agrees, e)

    takes : Takes our_calls xs t name y (s ∷ ss)
    unfolding remove_by_stores asked
    takes = record {
      file = λ limit h. rw (made_by limit h) (remove_stored xs t y fs limit (stores (s ∷ ss)));
      made = λ limit h k. rw (made_by limit h, le-ltb limit (length (s ∷ ss)) k);
      stopped = λ limit h k. rw (made_by limit h, lt-ltb limit (length (s ∷ ss)) k);
    }

  module _ (A : ℕ) (l : Low) (u : Str) (es : List Entry) (w : ℕ) (is : slot_at fs A ≡ used l u es) (held : find n es ≡ some w) where
    inside : (l ◁ n) × (n ⊑ u)
    inside = let k = find_at n es w held in
        let r = row_at (well_a y.b fs p.sound A l u es is).3 k.0 k.1 in
        (rw k.2 at r.1, rw k.2 at r.2)

    not_to_right : NotRight y.b fs A es → ¬ ToRight y.b fs n A l u es
    not_to_right (no_right Xs e) = last_not_right y.b p.sound A l u es is n inside.0 inside.1 held Xs e
    not_to_right (right_many Xs R Ys e r_is k) = not_right y.b p.sound A l u es is n inside.0 inside.1 held Xs R Ys e r_is k

    not_to_left : NotLeft y.b fs A es → ¬ ToLeft y.b fs n A l u es
    not_to_left (no_left Ys e) = first_not_left y.b p.sound A l u es is n inside.0 inside.1 held Ys e
    not_to_left (left_many Xs L Ys e l_is k) = not_left y.b p.sound A l u es is n inside.0 inside.1 held Xs L Ys e l_is k

    called : {r : Result} → Answered y.b (place_of y) fs (remove n) r → {ss : List Store} → Change y.b (place_of y) fs (remove n) ss → r ≡ stores ss
    called (is_made c) d = ap stores (change_unique y.b (place_of y) p.sound c d)
    called (is_denied c) d = absurd (denied_not_made y.b (place_of y) p.sound c d)

    the_call : call y.b (place_of y) fs (remove n) ≡ stores (removal y.b fs n A l u es)
    the_call = called (remove_right y.b (place_of y) fs p.sound n) (removes A is inside.0 inside.1 held)

    rule : Rule our_calls xs t name y fs A l u es
    rule = record {
      right = λ Xs R Ys e r_is k. takes (the_call ∙ ap stores (by_right y.b p.sound A l u es is n inside.0 inside.1 held Xs R Ys e r_is k));
      left = λ c Xs L Ys e l_is k. takes (the_call ∙ ap stores (by_left y.b p.sound A l u es is n inside.0 inside.1 held Xs L Ys e l_is (not_to_right c) k));
      alone = λ c d. takes (the_call ∙ ap stores (removal_alone y.b fs n A l u es (not_to_right c) (not_to_left d)));
    }

-- A file reads in one way.
pub one_reading : (xs : List ℕ) {y z : Layout} {fs gs : List Slot} → read_file xs ≡ some (y, fs) → read_file xs ≡ some (z, gs) → fs ≡ gs
one_reading xs {y = y} {z = z} {fs = fs} {gs = gs} d e = let o : ◌≡◌ {A = Option (Layout × List Slot)} (some (y, fs)) (some (z, gs)) = sym d ∙ e in
    let p : ◌≡◌ {A = Layout × List Slot} (y, fs) (z, gs) = cc in ap (λ (f : Layout × List Slot). f.1) p

-- A removal that passed the checks: what all its stores leave.
module _ (xs : List ℕ) (bytes : AreBytes xs) (t : Trie) (n : Str) (y : Layout) (fs : List Slot) (p : Passed xs t y fs) {ss : List Store} (c : Change y.b (place_of y) fs (remove n) ss) where
  two : 2 ≤ y.b
  two = (file_bytes-read_file xs p.is).1.b_least

  -- What the file says, by the trie.
  abbrev said : Map
  said k = find k (entries_of (slot_at fs (walk_trie t k)))

  before : Fine y.b fs said
  before = record {
    sound = p.sound;
    means = λ k B h. ap (λ (C : ℕ). find k (entries_of (slot_at fs C))) (one_range y.b p.sound k h (agrees_walk y.b p.sound p.agrees k));
    few = agrees_few y.b p.sound p.agrees;
  }

  after : Fine y.b (stored ss fs) (meant (remove n) said)
  after = change_made y.b (place_of y) (place_lt y two) before c

  legal : LegalStores (entry_length y) (length fs) ss
  legal = change_legal (entry_length y) y.b (place_of y) c tt (contents_read_file xs bytes p.is)

  whole : Left y (stored ss fs) (stores_bytes y ss xs)
  whole = left_stored y xs bytes p.is ss legal after.sound.well

  unfoldable whole_file : SoundFile (stores_bytes y ss xs)
  whole_file = record { layout = y; slots = stored ss fs; is = whole.is; sound = after.sound }

  whole_leads : LeadsRight (stores_bytes y ss xs) (trie_removed fs ss t)
  unfolding whole_file
  whole_leads = leads (stores_bytes y ss xs) (trie_removed fs ss t) whole_file
      (rw (trie_removed_is y.b (place_of y) c t) (change_agrees y.b (place_of y) (place_lt y two) p.sound c p.agrees))

  -- Two stores: the trie is the one that rebuild gives.
  whole_rebuilt : ((rebuild_of (stores_bytes y ss xs)).answer ≡ Given) × ((rebuild_of (stores_bytes y ss xs)).trie ≡ rebuilt_trie (stored ss fs))
  unfolding rebuild_of rebuild_by
  whole_rebuilt = rw (check_file_sound (stores_bytes y ss xs) whole_file, whole.is, le-leb (string_count (stored ss fs)) 256 after.few) (refl, refl)

  -- Stopped after the first of two, and recovered.
  module _ (h : 1 < length ss) where
    abbrev stopped : List ℕ
    stopped = stores_bytes y (take 1 ss) xs

    recovered : (limit : ℕ) → 0 < limit → limit ≤ 2 → ((N : ℕ) × ((recover_of stopped limit).answer ≡ Freed N)) × ((recover_of stopped limit).file ≡ stores_bytes y ss xs)
    unfolding counts recover_of recover_by
    recovered limit g k = elim (change_stopped y.b (place_of y) (place_lt y two) before c 1 h) [ inl e ↦ clash cc | inr x ↦ go x.0 x.1 x.2 ]
      where
        go : (N : ℕ) → Cut y.b (stored (take 1 ss) fs) N → set (stored (take 1 ss) fs) N free ≡ stored ss fs
            → ((N : ℕ) × ((recover_of stopped limit).answer ≡ Freed N)) × ((recover_of stopped limit).file ≡ stores_bytes y ss xs)
        go N C e =
            let L : Left y (stored (take 1 ss) fs) stopped = left_stored y xs bytes p.is (take 1 ss) (legal_take (entry_length y) (length fs) 1 ss legal) (cut_well y.b C) in
            let K : CutFile stopped N = record { layout = y; slots = stored (take 1 ss) fs; is = L.is; cut = C } in
            let M = left_freed y stopped L.bytes L.is C in
            let same : store_bytes (layout_of stopped) N free stopped ≡ stores_bytes y ss xs =
            (file_bytes-read_file (store_bytes (layout_of stopped) N free stopped) M.is).0 ∙ ap (file_bytes y) e ∙ sym (file_bytes-read_file (stores_bytes y ss xs) whole.is).0 in
            rw (le-ltb 2 limit k, check_file_cut stopped K, le-ltb limit 1 g) ((N, refl), same)

-- One store or more: no string is new, and the name alone is gone.
change_leaves : (b : ℕ) (place : List Entry → ℕ) {fs : List Slot} {n : Str} {ss : List Store} → Sound b fs → Change b place fs (remove n) ss → 0 < length ss
    → NameGone n fs (stored ss fs)
change_leaves b place S (absent A is lo up e) h = absurd (omega arith)
change_leaves b place {fs} {n} S (removes A {l = l} {u = u} {es = es} is lo up e) h = record {
  strings = removal_few b S A l u es n is lo up (removal_is b fs n A l u es);
  entries = removal_entries b fs S A l u es n is lo up (removal_is b fs n A l u es);
}

trie_two : (fs : List Slot) (ss : List Store) (t : Trie) → 1 < length ss → trie_removed fs ss t ≡ rebuilt_trie (stored ss fs)
unfolding trie_removed
trie_two fs [] t h = absurd (omega arith)
trie_two fs (x ∷ []) t h = absurd (omega arith)
trie_two fs (x ∷ z ∷ ss) t h = refl

-- A call, whatever its limit: refused, or the stores that it takes.
data Asking (xs : List ℕ) (t : Trie) (name : List ℕ) : Type 0 where
  refuses : ((limit : ℕ) → limit ≤ 2 → (c : Cause) × (remove_of xs t name limit ≡ record { answer = RemoveRefused c; file = xs; trie = t })) → Asking xs t name
  makes : (y : Layout) (fs : List Slot) → Passed xs t y fs → {ss : List Store} → Change y.b (place_of y) fs (remove (filled name)) ss
      → ((limit : ℕ) → limit ≤ 2 → remove_of xs t name limit ≡ remove_by_stores xs t y fs limit (stores ss)) → Asking xs t name

asking : (xs : List ℕ) (t : Trie) (name : List ℕ) → Asking xs t name
unfolding remove_of remove_on_looked remove_by_stores
asking xs t name = go (is_legal_name name) refl (looked_of xs t) refl
  where
    go : (g : Bool) → is_legal_name name ≡ g → (l : Looked) → looked_of xs t ≡ l → Asking xs t name
    go false e l f = refuses (λ limit h. (IllegalName, rw (le-ltb 2 limit h, e)))
    go true e (refusing c) f = refuses (λ limit h. (c, rw (le-ltb 2 limit h, e, f)))
    go true e (fine y fs) f = by (call y.b (place_of y) fs (remove (filled name))) refl (remove_right y.b (place_of y) fs p.sound (filled name))
      where
        p : Passed xs t y fs
        p = looked_passed xs t y fs f

        by : (r : Result) → call y.b (place_of y) fs (remove (filled name)) ≡ r → Answered y.b (place_of y) fs (remove (filled name)) r → Asking xs t name
        by (refuse k) q a = refuses (λ limit h. (BadFile, rw (le-ltb 2 limit h, e, f, q)))
        by (stores ss) q (is_made c) = makes y fs p c (λ limit h. rw (le-ltb 2 limit h, e, f, q))

-- A removal that was made.
record Made (xs : List ℕ) (t : Trie) (name : List ℕ) (limit : ℕ) : Type 0 where
  layout : Layout
  slots : List Slot
  passed : Passed xs t layout slots
  asked : List Store
  change : Change layout.b (place_of layout) slots (remove (filled name)) asked
  some_stores : 0 < length asked
  allowed : length asked ≤ limit
  is : remove_of xs t name limit ≡ record { answer = Removed (length asked); file = stores_bytes layout asked xs; trie = trie_removed slots asked t }

module _ (xs : List ℕ) (t : Trie) (name : List ℕ) where
  made : (limit : ℕ) {k : ℕ} → limit ≤ 2 → (remove_of xs t name limit).answer ≡ Removed k → Made xs t name limit
  unfolding remove_by_stores
  made limit {k} h e = by (asking xs t name)
    where
      by : Asking xs t name → Made xs t name limit
      by (refuses f) = let z : Removed k ≡ RemoveRefused (f limit h).0 = sym e ∙ ap (λ (d : RemoveDone). d.answer) (f limit h).1 in clash cc
      by (makes y fs p {ss = ss} c f) = go (ltb limit (length ss)) refl ss refl
        where
          go : (b : Bool) → ltb limit (length ss) ≡ b → (rs : List Store) → ss ≡ rs → Made xs t name limit
          go true g rs q =
              let z : Removed k ≡ RemoveStopped limit = sym e ∙ ap (λ (d : RemoveDone). d.answer) (f limit h) ∙ rw g in clash cc
          go false g [] q =
              let z : Removed k ≡ NotHeld = sym e ∙ ap (λ (d : RemoveDone). d.answer) (f limit h) ∙ rw (g, q) in clash cc
          go false g (r ∷ rs) q = record {
            layout = y;
            slots = fs;
            passed = p;
            asked = ss;
            change = c;
            some_stores = rw q (omega arith);
            allowed = ltb-false limit (length ss) g;
            is = f limit h ∙ rw (g, q);
          }

  made_leads : (limit : ℕ) {k : ℕ} → AreBytes xs → limit ≤ 2 → (remove_of xs t name limit).answer ≡ Removed k → LeadsRight (remove_of xs t name limit).file (remove_of xs t name limit).trie
  made_leads limit bytes h e = let M = made limit h e in
      rw M.is (whole_leads xs bytes t (filled name) M.layout M.slots M.passed M.change)

  made_leaves : (limit : ℕ) {k : ℕ} → AreBytes xs → limit ≤ 2 → (remove_of xs t name limit).answer ≡ Removed k
      → (S : SoundFile xs) (T : SoundFile (remove_of xs t name limit).file) → NameGone (filled name) S.slots T.slots
  made_leaves limit bytes h e S T = let M = made limit h e in
      let L = whole xs bytes t (filled name) M.layout M.slots M.passed M.change in
      let s : S.slots ≡ M.slots = one_reading xs S.is M.passed.is in
      let r : T.slots ≡ stored M.asked M.slots = one_reading (remove_of xs t name limit).file {z = M.layout} T.is (rw M.is L.is) in
      rw (s, r) (change_leaves M.layout.b (place_of M.layout) M.passed.sound M.change M.some_stores)

  -- As many stores as it says.
  made_count : (limit : ℕ) {k : ℕ} → (M : Made xs t name limit) → (remove_of xs t name limit).answer ≡ Removed k → length M.asked ≡ k
  made_count limit {k} M e = let z : Removed (length M.asked) ≡ Removed k = sym (ap (λ (d : RemoveDone). d.answer) M.is) ∙ e in cc

  made_rebuilds : (limit : ℕ) → AreBytes xs → limit ≤ 2 → (remove_of xs t name limit).answer ≡ Removed 2
      → ((rebuild_of (remove_of xs t name limit).file).answer ≡ Given) × ((rebuild_of (remove_of xs t name limit).file).trie ≡ (remove_of xs t name limit).trie)
  made_rebuilds limit bytes h e =
      let M = made limit h e in
      let n : length M.asked ≡ 2 = made_count limit M e in
      let built = whole_rebuilt xs bytes t (filled name) M.layout M.slots M.passed M.change in
      rw M.is (built.0, built.1 ∙ sym (trie_two M.slots M.asked t (omega (arith, n))))

  made_alone : (limit : ℕ) → limit ≤ 2 → (remove_of xs t name limit).answer ≡ Removed 1 → Alone xs t (filled name) (remove_of xs t name limit)
  unfolding stores_bytes trie_removed
  made_alone limit b e = by (made limit b e)
    where
      by : Made xs t name limit → Alone xs t (filled name) (remove_of xs t name limit)
      by M = rw M.is (go M.change M.some_stores (omega (arith, made_count limit M e)))
        where
          LeftBy : List Store → Type 0
          LeftBy ss = Alone xs t (filled name) (record { answer = Removed (length M.asked); file = stores_bytes M.layout ss xs; trie = trie_removed M.slots ss t })

          go : {ss : List Store} → Change M.layout.b (place_of M.layout) M.slots (remove (filled name)) ss → 0 < length ss → length ss ≤ 1 → LeftBy ss
          go (absent A is lo up q) h k = absurd (omega arith)
          go (removes A {l = l} {u = u} {es = es} is lo up q) h k = view (removal_is M.layout.b M.slots (filled name) A l u es) k
            where
              view : {ss : List Store} → Removal M.layout.b M.slots (filled name) A l u es ss → length ss ≤ 1 → LeftBy ss
              view (alone c d) k = record {
                file = record { layout = M.layout; slots = M.slots; is = M.passed.is; sound = M.passed.sound };
                bucket = A;
                lower = l;
                upper = u;
                entries = es;
                is = is;
                left = refl;
                trie = refl;
              }
              view (rightward r_is few) k = absurd (omega arith)
              view (leftward c q l_is few) k = absurd (omega arith)

  made_recovers : (reached : ℕ) → AreBytes xs → (remove_of xs t name 1).answer ≡ RemoveStopped reached → (limit : ℕ) → 0 < limit → limit ≤ 2
      → ((N : ℕ) × ((recover_of (remove_of xs t name 1).file limit).answer ≡ Freed N))
      × ((recover_of (remove_of xs t name 1).file limit).file ≡ (remove_of xs t name 2).file)
      × ((rebuild_of (remove_of xs t name 2).file).answer ≡ Given)
      × ((rebuild_of (remove_of xs t name 2).file).trie ≡ (remove_of xs t name 2).trie)
  unfolding remove_by_stores
  made_recovers reached bytes e limit g k = by (asking xs t name)
    where
      Wanted : Type 0
      Wanted = ((N : ℕ) × ((recover_of (remove_of xs t name 1).file limit).answer ≡ Freed N))
          × ((recover_of (remove_of xs t name 1).file limit).file ≡ (remove_of xs t name 2).file)
          × ((rebuild_of (remove_of xs t name 2).file).answer ≡ Given)
          × ((rebuild_of (remove_of xs t name 2).file).trie ≡ (remove_of xs t name 2).trie)

      by : Asking xs t name → Wanted
      by (refuses f) = let z : RemoveStopped reached ≡ RemoveRefused (f 1 (omega arith)).0 = sym e ∙ ap (λ (d : RemoveDone). d.answer) (f 1 (omega arith)).1 in clash cc
      by (makes y fs p {ss = ss} c f) = go (ltb 1 (length ss)) refl ss refl
        where
          go : (b : Bool) → ltb 1 (length ss) ≡ b → (rs : List Store) → ss ≡ rs → Wanted
          go false h [] q =
              let z : RemoveStopped reached ≡ NotHeld = sym e ∙ ap (λ (d : RemoveDone). d.answer) (f 1 (omega arith)) ∙ rw (h, q) in clash cc
          go false h (r ∷ rs) q =
              let z : RemoveStopped reached ≡ Removed (length (r ∷ rs)) = sym e ∙ ap (λ (d : RemoveDone). d.answer) (f 1 (omega arith)) ∙ rw (h, q) in clash cc
          go true h rs q =
              let more : 1 < length ss = ltb-true 1 (length ss) h in
              let most : length ss ≤ 2 = change_length y.b (place_of y) (place_lt y (file_bytes-read_file xs p.is).1.b_least) c in
              let first : (remove_of xs t name 1).file ≡ stores_bytes y (take 1 ss) xs = ap (λ (d : RemoveDone). d.file) (f 1 (omega arith)) ∙ rw h refl in
              let all : remove_of xs t name 2 ≡ record { answer = remove_answer ss; file = stores_bytes y ss xs; trie = trie_removed fs ss t } = f 2 (omega arith) ∙ rw (le-ltb 2 (length ss) most) refl in
              let back = recovered xs bytes t (filled name) y fs p c more limit g k in
              let built = whole_rebuilt xs bytes t (filled name) y fs p c in
              rw (first, all) (back.0, back.1, built.0, built.1 ∙ sym (trie_two fs ss t more))

pub merging : Merging our_calls
merging = record {
  one_cut = λ xs M N C D. one_cut C D;
  cut_not_sound = λ xs N C S. sound_not_cut S C;
  rule = λ xs t name T g. let S = T.file in rule xs t name S.layout S.slots (record { is = S.is; sound = S.sound; agrees = T.agrees }) g;
  leads = λ xs t name limit k bytes h e. made_leads xs t name limit bytes h e;
  leaves = λ xs t name limit k bytes h e. made_leaves xs t name limit bytes h e;
  as_before = made_alone;
  rebuilds = made_rebuilds;
  recovers = made_recovers;
}
