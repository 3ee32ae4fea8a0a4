-- A stopped call says its limit, and as many slots are others than before.
use Rattle.model.proofs.Prelude.{Bool, List, Option, [], ◌*◌, ◌++◌, ◌+◌, ◌/◌, ◌<◌, ◌∙◌, ◌∷◌, ◌≡◌, ◌≢◌, ◌≤◌, ◌⊎◌, ap, arith, clash, cond, false, get_or, get_or-set_same, inl, inr, length, length-set, ltb, ltb-true, mul-le-mul_right, nothing, refl, set, some, suc, suc-mul, sym, take, true, zero, ℕ, ℕ_discrete}
use Rattle.model.specs.declared.Cause.TheVariants.{IllegalName, WrongSize}
use Rattle.model.specs.declared.Layout.{Layout}
use Rattle.model.specs.Results.{Freed, PutRefused, PutStopped, RecoverRefused, RecoverStopped, RemoveRefused, RemoveStopped}
use Rattle.model.specs.declared.Trie.{Trie}
use Rattle.model.specs.Order.{Low, Str, ◌⊑◌, ◌◁◌, at}
use Rattle.model.specs.Tests.{is_legal_name}
use Rattle.model.specs.Names.{filled}
use Rattle.model.specs.Entries.{Entry, content_from, find, without}
use Rattle.model.specs.Files.{Slot, free, slot_at, used}
use Rattle.model.specs.Searches.{is_free}
use Rattle.model.specs.Changes.{Result, Store, merged, put, remove, trie_removed}
use Rattle.model.specs.Places.{place_of}
use Rattle.model.specs.Checks.{Kind, is_bad, is_cut, is_sound}
use Rattle.model.specs.Format.{AreBytes, bytes_at_slot, bytes_of_slot, check_file, entry_length, file_size, kept_run, layout_of, read_file, read_slot, slot_size, store_bytes}
use Rattle.model.specs.Calls.{Looked, PutDone, RecoverDone, RemoveDone, fine, held, looked_of, put_answer, put_by_stores, put_of, put_on_looked, recover_by, recover_of, refusing, remove_answer, remove_by_stores, remove_of, remove_on_looked, stores_bytes, trie_after_put}
use Rattle.model.proofs.Deciding.{over}
use Rattle.model.proofs.Names.{is_legal_name_legal}
use Rattle.model.proofs.Calls.{Answered, is_denied, is_made, put_right, put_taken, remove_right}
use Rattle.model.proofs.Format.{bytes_at_slot_store_bytes, bytes_of_slot-read_slot, contents_read_file, headed_layout, headed_slots, others_store_bytes, read_file_read, read_slot-read_file}
use Rattle.model.proofs.Lists.{at_replicate}
use Rattle.model.proofs.Changes.{Change, absent, fits, removes, splits}
use Rattle.model.proofs.Stores.{Legal as LegalStores, change_legal, left_stored, legal_take}
use Rattle.model.proofs.Order.{le_refl, le_trans, low_at, low_lower, lt_le}
use Rattle.model.proofs.Tests.{equal_same_str, same_str_other, same_str_self}
use Rattle.model.proofs.Merging.{Removal, alone, leftward, merge_cut, removal_is, rightward, well_r}
use Rattle.model.proofs.Files.{cut_well, used_inside, well_parts}
use Rattle.promises.specs.Demand3.{StoppedAt, differing, replaced}
use Rattle.promises.proofs.Leading.{Passed, looked_passed}

-- No slot differs from itself.
differing_none : (k : ℕ) (y : Layout) (xs : List ℕ) → differing k y xs xs ≡ 0
unfolding differing
differing_none zero y xs = refl
differing_none (suc k) y xs = rw (same_str_self (bytes_at_slot y k xs), differing_none k y xs)

-- Where one slot differs and the others do not, it counts once.
module _ (y : Layout) (xs ys : List ℕ) (N : ℕ) (other : bytes_at_slot y N xs ≢ bytes_at_slot y N ys) (same : (k : ℕ) → k ≢ N → bytes_at_slot y k xs ≡ bytes_at_slot y k ys) where
  differing_below : (k : ℕ) → k ≤ N → differing k y xs ys ≡ 0
  unfolding differing
  differing_below zero h = refl
  differing_below (suc k) h = rw (equal_same_str (bytes_at_slot y k xs) (bytes_at_slot y k ys) (same k (λ e. absurd (omega arith))), differing_below k (omega arith))

  differing_one : (k : ℕ) → N < k → differing k y xs ys ≡ 1
  unfolding differing
  differing_one zero h = absurd (omega arith)
  differing_one (suc k) h = elim (ℕ_discrete k N) [
    | yes e ↦ rw (e, same_str_other (bytes_at_slot y N xs) (bytes_at_slot y N ys) other, differing_below N (omega arith))
    | no d ↦ rw (equal_same_str (bytes_at_slot y k xs) (bytes_at_slot y k ys) (same k d), differing_one k (omega arith))
  ]

-- A store of a used slot where a free one was.
module _ (xs : List ℕ) {y : Layout} {fs : List Slot} (e : read_file xs ≡ some (y, fs)) where
  replaced_none : replaced xs xs ≡ 0
  replaced_none = differing_none (get_or xs 6 0) (layout_of xs) xs

  module _ (N : ℕ) (inside : N < length fs) (s : Slot) where
    unfoldable fits_in : 16 + N * slot_size y + slot_size y ≤ length xs
    unfolding file_size
    fits_in = omega (arith, (read_file_read xs e).headed.whole, suc-mul N (slot_size y), mul-le-mul_right {m = suc N} {n = length fs} (slot_size y) inside)

    replaced_other : bytes_at_slot y N xs ≢ bytes_at_slot y N (store_bytes y N s xs) → replaced xs (store_bytes y N s xs) ≡ 1
    replaced_other other =
        rw (headed_layout (read_file_read xs e).headed, headed_slots (read_file_read xs e).headed)
        (differing_one y xs (store_bytes y N s xs) N other (λ k d. sym (others_store_bytes y N s xs fits_in k d)) (length fs) inside)

    free_before : slot_at fs N ≡ free → bytes_at_slot y N xs ≡ bytes_of_slot y free
    free_before is_free = bytes_of_slot-read_slot y (bytes_at_slot y N xs) (rw is_free at (read_slot-read_file xs e N inside))

    first_byte : get_or (bytes_of_slot y free) 0 0 ≡ 0
    unfolding bytes_of_slot
    first_byte = at_replicate 0 (slot_size y) 0

    replaced_one : slot_at fs N ≡ free → get_or (bytes_of_slot y s) 0 0 ≡ 1 → replaced xs (store_bytes y N s xs) ≡ 1
    replaced_one is_free one = replaced_other other
      where
        other : bytes_at_slot y N xs ≢ bytes_at_slot y N (store_bytes y N s xs)
        other q =
            let b : get_or (bytes_of_slot y free) 0 0 ≡ get_or (bytes_of_slot y s) 0 0 = ap (λ (l : List ℕ). get_or l 0 0) (sym (free_before is_free) ∙ q ∙ bytes_at_slot_store_bytes y N s xs fits_in) in
            absurd (omega (arith, first_byte, one, b))

used_byte : (y : Layout) (l : Low) (u : Str) (es : List Entry) → get_or (bytes_of_slot y (used l u es)) 0 0 ≡ 1
unfolding bytes_of_slot
used_byte y l u es = refl

-- Put.
module _ (xs : List ℕ) (t : Trie) (name : List ℕ) (v run limit made : ℕ) where
  abbrev n : Str
  n = filled name

  -- What the put asks to be stored.
  abbrev content : Layout → ℕ
  content y = content_from v (kept_run y run)

  abbrev Stops : PutDone → Type 0
  Stops d = d.answer ≡ PutStopped made → StoppedAt limit made xs d.file

  -- The first of a put's stores, fewer than it needs.
  first_ones : (y : Layout) (fs : List Slot) → read_file xs ≡ some (y, fs) → {ss : List Store} → Change y.b (place_of y) fs (put n (content y)) ss → limit < length ss
      → replaced xs (stores_bytes y (take limit ss) xs) ≡ limit
  unfolding stores_bytes
  first_ones y fs e c h = go limit c h
    where
      go : (k : ℕ) {ss : List Store} → Change y.b (place_of y) fs (put n (content y)) ss → k < length ss → replaced xs (stores_bytes y (take k ss) xs) ≡ k
      go zero c h = replaced_none xs e
      go (suc k) (fits is g lo up f) h = absurd (omega arith)
      go (suc zero) (splits {N = N} is g lo up f L few) h = replaced_one xs e N L.inside _ L.is_free (used_byte y _ _ _)
      go (suc (suc k)) (splits is g lo up f L few) h = absurd (omega arith)

  stops_made : (y : Layout) (fs : List Slot) → Passed xs t y fs → {r : Result} → Answered y.b (place_of y) fs (put n (content y)) r → Stops (put_by_stores xs t y fs n (content y) limit r)
  unfolding put_by_stores
  stops_made y fs p (is_denied d) q = clash cc
  stops_made y fs p (is_made {ss = ss} c) q = go (ltb limit (length ss)) refl (held fs n) q
    where
      go : (s : Bool) → ltb limit (length ss) ≡ s → (o : Option ℕ)
          → Stops (cond s (record { answer = PutStopped limit; file = stores_bytes y (take limit ss) xs; trie = t }) (record { answer = put_answer o; file = stores_bytes y ss xs; trie = trie_after_put y.b (place_of y) fs n (content y) ss t }))
      go true h o q =
          let z : made ≡ limit = cc in
          record { as_limited = z; as_made = first_ones y fs p.is c (ltb-true limit (length ss) h) ∙ sym z }
      go false h nothing q = clash cc
      go false h (some old) q = clash cc

  stops_looked : (l : Looked) → looked_of xs t ≡ l → is_legal_name name ≡ true → Stops (put_on_looked xs t n v run limit l)
  unfolding put_on_looked put_by_stores
  stops_looked (refusing c) e g q = clash cc
  stops_looked (fine y fs) e g q = let p = looked_passed xs t y fs e in put_taken (λ (r : Result). Stops (put_by_stores xs t y fs n (content y) limit r)) y fs n (content y) (kept_run y run) (λ e q. clash cc) (λ e. stops_made y fs p (put_right y.b (place_of y) fs p.sound n (content y) (is_legal_name_legal name g))) q

  pub put_stops : Stops (put_of xs t name v run limit)
  unfolding put_of
  put_stops = go (ltb 2 limit) (is_legal_name name) refl
    where
      go : (l g : Bool) → is_legal_name name ≡ g
          → Stops (cond l (record { answer = PutRefused WrongSize; file = xs; trie = t }) (cond g (put_on_looked xs t n v run limit (looked_of xs t)) (record { answer = PutRefused IllegalName; file = xs; trie = t })))
      go true g e q = clash cc
      go false false e q = clash cc
      go false true e q = stops_looked (looked_of xs t) refl e q

-- Recover needs one store at most: stopped, it made none.
stopped_at_none : (limit made : ℕ) (xs : List ℕ) → made ≡ limit → limit ≡ 0 → StoppedAt limit made xs xs
stopped_at_none limit made xs e z = record { as_limited = e; as_made = differing_none (get_or xs 6 0) (layout_of xs) xs ∙ sym (e ∙ z) }

-- The first store of a merge gives the left slot another upper limit.
module _ (xs : List ℕ) (bytes : AreBytes xs) (t : Trie) (y : Layout) (fs : List Slot) (p : Passed xs t y fs) where
  merged_one : (L R : ℕ) (l : Low) (s u : Str) (es gs : List Entry) → slot_at fs L ≡ used l s es → slot_at fs R ≡ used (at s) u gs → (n : Str) → l ◁ n → n ⊑ u
      → length (without n (es ++ gs)) ≤ y.b / 2 → (n ⊑ s) ⊎ ((w : ℕ) × (find n gs ≡ some w)) → LegalStores (entry_length y) (length fs) (merged n L R l u es gs)
      → replaced xs (store_bytes y L (used l u (without n (es ++ gs))) xs) ≡ 1
  unfolding stores_bytes
  merged_one L R l s u es gs l_is r_is n lo up few held g = replaced_other xs p.is L inside new other
    where
      new : Slot
      new = used l u (without n (es ++ gs))

      inside : L < length fs
      inside = used_inside fs L (rw l_is tt)

      after : read_file (store_bytes y L new xs) ≡ some (y, set fs L new)
      after = (left_stored y xs bytes p.is ((L, new) ∷ []) (legal_take (entry_length y) (length fs) 1 (merged n L R l u es gs) g)
          (cut_well y.b (merge_cut y.b fs p.sound L R l s u es gs l_is r_is n lo up few held))).is

      other : bytes_at_slot y L xs ≢ bytes_at_slot y L (store_bytes y L new xs)
      other q =
          let before : read_slot y (bytes_at_slot y L xs) ≡ some (used l s es) = read_slot-read_file xs p.is L inside ∙ ap some l_is in
          let now : read_slot y (bytes_at_slot y L (store_bytes y L new xs)) ≡ some new =
          read_slot-read_file (store_bytes y L new xs) after L (rw (length-set fs L new) inside) ∙ ap some (get_or-set_same fs L new free inside) in
          let same : ◌≡◌ {A = Option Slot} (some (used l s es)) (some new) = sym before ∙ ap (read_slot y) q ∙ now in
          let same_upper : s ≡ u = cc in
          over (well_r y.b fs p.sound L R l s u es gs l_is r_is).2 (rw same_upper (le_refl u))

  -- The first of a removal's stores, fewer than it needs.
  first_removed : {n : Str} (A : ℕ) (l : Low) (u : Str) (es : List Entry) {w : ℕ} → slot_at fs A ≡ used l u es → l ◁ n → n ⊑ u → find n es ≡ some w
      → {ss : List Store} → Removal y.b fs n A l u es ss → LegalStores (entry_length y) (length fs) ss → (k : ℕ) → k < length ss
      → replaced xs (stores_bytes y (take k ss) xs) ≡ k
  unfolding stores_bytes
  first_removed A l u es is lo up f (alone c d) g zero h = replaced_none xs p.is
  first_removed A l u es is lo up f (rightward r_is few) g zero h = replaced_none xs p.is
  first_removed A l u es is lo up f (leftward c q l_is few) g zero h = replaced_none xs p.is
  first_removed A l u es is lo up f (alone c d) g (suc k) h = absurd (omega arith)
  first_removed {n} A l u es is lo up f (rightward {R = R} {v = v} {gs = gs} r_is few) g (suc zero) h =
      merged_one A R l u v es gs is r_is n lo (le_trans up (lt_le (over (well_parts y.b (rw r_is at (p.sound.well R))).2))) few (inl up) g
  first_removed {n} A l u es {w} is lo up f (leftward {L = L} {k = k} {s = s} {ds = ds} c q l_is few) g (suc zero) h =
      merged_one L A k s u ds es l_is (is ∙ ap (λ x. used x u es) q) n (low_lower (low_at (well_parts y.b (rw l_is at (p.sound.well L))).2) (rw q at lo)) up few (inr (w, f)) g
  first_removed A l u es is lo up f (rightward r_is few) g (suc (suc k)) h = absurd (omega arith)
  first_removed A l u es is lo up f (leftward c q l_is few) g (suc (suc k)) h = absurd (omega arith)

module _ (xs : List ℕ) (bytes : AreBytes xs) (t : Trie) (name : List ℕ) (limit made : ℕ) where
  abbrev RemoveStops : RemoveDone → Type 0
  RemoveStops d = d.answer ≡ RemoveStopped made → StoppedAt limit made xs d.file

  first_of : (y : Layout) (fs : List Slot) → Passed xs t y fs → {ss : List Store} → Change y.b (place_of y) fs (remove (filled name)) ss → limit < length ss
      → replaced xs (stores_bytes y (take limit ss) xs) ≡ limit
  first_of y fs p (absent A is lo up q) h = absurd (omega arith)
  first_of y fs p (removes A {l = l} {u = u} {es = es} is lo up q) h =
      first_removed xs bytes t y fs p A l u es is lo up q (removal_is y.b fs (filled name) A l u es)
      (change_legal (entry_length y) y.b (place_of y) (removes A is lo up q) tt (contents_read_file xs bytes p.is)) limit h

  remove_made : (y : Layout) (fs : List Slot) → Passed xs t y fs → {r : Result} → Answered y.b (place_of y) fs (remove (filled name)) r
      → RemoveStops (remove_by_stores xs t y fs limit r)
  unfolding remove_by_stores
  remove_made y fs p (is_denied d) = λ e. clash cc
  remove_made y fs p (is_made {ss = ss} c) = go (ltb limit (length ss)) refl ss
    where
      go : (s : Bool) → ltb limit (length ss) ≡ s → (rs : List Store)
          → RemoveStops (cond s (record { answer = RemoveStopped limit; file = stores_bytes y (take limit ss) xs; trie = t }) (record { answer = remove_answer rs; file = stores_bytes y ss xs; trie = trie_removed fs ss t }))
      go true h rs q =
          let z : made ≡ limit = cc in
          record { as_limited = z; as_made = first_of y fs p c (ltb-true limit (length ss) h) ∙ sym z }
      go false h [] q = clash cc
      go false h (r ∷ rs) q = clash cc

  remove_looked : (l : Looked) → looked_of xs t ≡ l → RemoveStops (remove_on_looked xs t (filled name) limit l)
  unfolding remove_on_looked
  remove_looked (refusing c) e q = clash cc
  remove_looked (fine y fs) e q = let p = looked_passed xs t y fs e in remove_made y fs p (remove_right y.b (place_of y) fs p.sound (filled name)) q

  pub remove_stops : RemoveStops (remove_of xs t name limit)
  unfolding remove_of
  remove_stops = go (ltb 2 limit) (is_legal_name name)
    where
      go : (l g : Bool)
          → RemoveStops (cond l (record { answer = RemoveRefused WrongSize; file = xs; trie = t }) (cond g (remove_on_looked xs t (filled name) limit (looked_of xs t)) (record { answer = RemoveRefused IllegalName; file = xs; trie = t })))
      go true g q = clash cc
      go false false q = clash cc
      go false true q = remove_looked (looked_of xs t) refl q

module _ (xs : List ℕ) (limit made : ℕ) where
  abbrev RecoverStops : RecoverDone → Type 0
  RecoverStops d = d.answer ≡ RecoverStopped made → StoppedAt limit made xs d.file

  pub recover_stops : RecoverStops (recover_of xs limit)
  unfolding recover_of recover_by
  recover_stops = go (ltb 2 limit) (check_file xs)
    where
      freed : (N : ℕ) (c : Bool) → ltb limit 1 ≡ c → RecoverStops (cond c (record { answer = RecoverStopped 0; file = xs }) (record { answer = Freed N; file = store_bytes (layout_of xs) N free xs }))
      freed N true h e =
          let z : limit ≡ 0 = omega (arith, ltb-true limit 1 h) in
          let q : 0 ≡ made = cc in
          stopped_at_none limit made xs (sym q ∙ sym z) z
      freed N false h e = clash cc

      go : (l : Bool) (k : Kind) → RecoverStops (cond l (record { answer = RecoverRefused WrongSize; file = xs }) (recover_by xs limit k))
      go true k e = clash cc
      go false is_bad e = clash cc
      go false is_sound e = clash cc
      go false (is_cut N) e = freed N (ltb limit 1) refl e
