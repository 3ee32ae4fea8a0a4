-- The images that calls write: the trie that leads right is read back, a put that replaces a value leaves the trie, and so does a
-- removal without a merge.
use Rattle.model.proofs.Prelude.{Bool, List, Option, [], ◌∙◌, ◌∷◌, ◌≡◌, ◌≤◌, ap, arith, clash, cond, false, length, ltb, nothing, refl, some, subst, suc, sym, take, true, ℕ}
use Rattle.model.specs.declared.Cause.{Cause}
use Rattle.model.specs.declared.Cause.TheVariants.{BadFile, IllegalName, WrongSize}
use Rattle.model.specs.declared.Layout.{Layout}
use Rattle.model.specs.Results.{NotHeld, PutRefused, PutStopped, RemoveRefused, RemoveStopped, Removed, Replaced}
use Rattle.model.specs.declared.Trie.{Trie}
use Rattle.model.specs.Order.{Str}
use Rattle.model.specs.Tests.{is_legal_name}
use Rattle.model.specs.Names.{Legal, filled}
use Rattle.model.specs.Entries.{content_from, find}
use Rattle.model.specs.Files.{In, Slot, entries_of, head, slot_at}
use Rattle.model.specs.Searches.{first, is_in_range}
use Rattle.model.specs.Changes.{Result, Store, call, put, refuse, remove, stores, trie_removed}
use Rattle.model.specs.Places.{place_of}
use Rattle.model.specs.Format.{kept_run}
use Rattle.model.specs.Calls.{Looked, PutDone, RemoveDone, fine, held, looked_of, put_answer, put_by_stores, put_of, put_on_looked, refusing, remove_answer, remove_by_stores, remove_of, remove_on_looked, stores_bytes, trie_after_put}
use Rattle.model.proofs.Names.{is_legal_name_legal}
use Rattle.model.proofs.Files.{found_in, one_range}
use Rattle.model.proofs.Changes.{Change, fits, splits, well_a}
use Rattle.model.proofs.Calls.{Answered, is_denied, is_made, put_right, put_taken}
use Rattle.model.proofs.Format.{file_bytes-read_file}
use Rattle.entries.proofs.Parts.{length_held}
use Rattle.promises.specs.Demand2.{LeadsRight}
use Rattle.promises.proofs.Leading.{Passed, looked_passed}
use Rattle.image.specs.Images.{image_of, trie_from}
use Rattle.image.proofs.Images.{trie_back}
use Rattle.image.proofs.Agreeing.{agreeing_imaged}

pub read_back : {xs : List ℕ} {t : Trie} → LeadsRight xs t → trie_from (image_of t) ≡ t
read_back {xs} {t} L = trie_back t (agreeing_imaged (file_bytes-read_file xs L.file.is).1.slots_most L.agrees)

pub leads_written : {xs : List ℕ} {t : Trie} → LeadsRight xs t → LeadsRight xs (trie_from (image_of t))
leads_written {xs} L = subst (λ (u : Trie). LeadsRight xs u) (sym (read_back L)) L

was_held : (o : Option ℕ) (old old_run : ℕ) → put_answer o ≡ Replaced old old_run → (w : ℕ) × (o ≡ some w)
was_held nothing old old_run e = clash cc
was_held (some w) old old_run e = (w, refl)

module _ (xs : List ℕ) (t : Trie) (name : List ℕ) (v run limit : ℕ) where
  abbrev n : Str
  n = filled name

  -- What the put asks to be stored.
  abbrev content : Layout → ℕ
  content y = content_from v (kept_run y run)

  abbrev Same : PutDone → Type 0
  Same d = (old old_run : ℕ) → d.answer ≡ Replaced old old_run → d.trie ≡ t

  -- A held name takes no more room, and so no split.
  one : (y : Layout) (fs : List Slot) → Passed xs t y fs → {ss : List Store} → Change y.b (place_of y) fs (put n (content y)) ss → (old old_run : ℕ)
      → put_answer (held fs n) ≡ Replaced old old_run → trie_after_put y.b (place_of y) fs n (content y) ss t ≡ t
  unfolding trie_after_put
  one y fs p (fits is g lo up k) old old_run e = refl
  one y fs p (splits {A = A} {l = l} {u = u} {es = es} is g lo up big low few) old old_run e =
      let here : In (head (slot_at fs A)) n = rw is (tt, lo, up) in
      let there : A ≡ first (is_in_range n) fs = one_range y.b p.sound n here (found_in n fs A here) in
      let w = well_a y.b fs p.sound A l u es is in
      let h = was_held (held fs n) old old_run e in
      let found : find n es ≡ some h.0 = ap (λ (x : Slot). find n (entries_of x)) (sym is ∙ ap (slot_at fs) there) ∙ h.1 in
      absurd (omega (arith, big, w.4, length_held n (content y) h.0 w.3 found))

  made : (y : Layout) (fs : List Slot) → Passed xs t y fs → {r : Result} → Answered y.b (place_of y) fs (put n (content y)) r → Same (put_by_stores xs t y fs n (content y) limit r)
  unfolding put_by_stores
  made y fs p (is_denied d) old old_run e = clash cc
  made y fs p (is_made {ss = ss} c) old old_run e = stopped (ltb limit (length ss)) e
    where
      short : PutDone
      short = record { answer = PutStopped limit; file = stores_bytes y (take limit ss) xs; trie = t }

      whole : PutDone
      whole = record { answer = put_answer (held fs n); file = stores_bytes y ss xs; trie = trie_after_put y.b (place_of y) fs n (content y) ss t }

      stopped : (s : Bool) → (cond s short whole).answer ≡ Replaced old old_run → (cond s short whole).trie ≡ t
      stopped true e = refl
      stopped false e = one y fs p c old old_run e

  looked : (l : Looked) → looked_of xs t ≡ l → Legal n → Same (put_on_looked xs t n v run limit l)
  unfolding put_on_looked put_by_stores
  looked (refusing c) e g = λ old old_run h. refl
  looked (fine y fs) e g =
      let p = looked_passed xs t y fs e in
      put_taken (λ (r : Result). Same (put_by_stores xs t y fs n (content y) limit r)) y fs n (content y) (kept_run y run) (λ e old old_run h. refl)
      (λ e. made y fs p (put_right y.b (place_of y) fs p.sound n (content y) g))

  pub replaced_same : Same (put_of xs t name v run limit)
  unfolding put_of
  replaced_same = limited (ltb 2 limit)
    where
      big : PutDone
      big = record { answer = PutRefused WrongSize; file = xs; trie = t }

      illegal : PutDone
      illegal = record { answer = PutRefused IllegalName; file = xs; trie = t }

      legal : (g : Bool) → is_legal_name name ≡ g → Same (cond g (put_on_looked xs t n v run limit (looked_of xs t)) illegal)
      legal true e = looked (looked_of xs t) refl (is_legal_name_legal name e)
      legal false e = λ old old_run h. refl

      limited : (c : Bool) → Same (cond c big (cond (is_legal_name name) (put_on_looked xs t n v run limit (looked_of xs t)) illegal))
      limited true = λ old old_run h. refl
      limited false = legal (is_legal_name name) refl

-- What remove says: stopped, it made as many stores as its limit says; with one store or none it leaves the trie.
pub record RemoveSays (t : Trie) (limit : ℕ) (d : RemoveDone) : Type 0 where
  pub stopped : (made : ℕ) → d.answer ≡ RemoveStopped made → made ≡ limit
  pub one : (k : ℕ) → d.answer ≡ Removed k → k ≤ 1 → d.trie ≡ t
  pub none : d.answer ≡ NotHeld → d.trie ≡ t

module _ (xs : List ℕ) (t : Trie) (name : List ℕ) (limit : ℕ) where
  refused_says : (c : Cause) → RemoveSays t limit (record { answer = RemoveRefused c; file = xs; trie = t })
  refused_says c = record { stopped = λ made e. clash cc; one = λ k e h. refl; none = λ e. refl }

  stores_say : (y : Layout) (fs : List Slot) (r : Result) → RemoveSays t limit (remove_by_stores xs t y fs limit r)
  unfolding remove_by_stores trie_removed
  stores_say y fs (refuse c) = refused_says BadFile
  stores_say y fs (stores ss) = go (ltb limit (length ss)) ss
    where
      go : (b : Bool) (rs : List Store)
          → RemoveSays t limit (cond b (record { answer = RemoveStopped limit; file = stores_bytes y (take limit ss) xs; trie = t }) (record { answer = remove_answer rs; file = stores_bytes y ss xs; trie = trie_removed fs rs t }))
      go true rs = record { stopped = λ made e. cc; one = λ k e h. clash cc; none = λ e. clash cc }
      go false [] = record { stopped = λ made e. clash cc; one = λ k e h. clash cc; none = λ e. refl }
      go false (v ∷ []) = record { stopped = λ made e. clash cc; one = λ k e h. refl; none = λ e. clash cc }
      go false (v ∷ w ∷ rs) = record {
        stopped = λ made e. clash cc;
        one = λ k e h. let n : suc (suc (length rs)) ≡ k = cc in absurd (omega arith);
        none = λ e. clash cc;
      }

  looked_says : (l : Looked) → RemoveSays t limit (remove_on_looked xs t (filled name) limit l)
  unfolding remove_on_looked
  looked_says (refusing c) = refused_says c
  looked_says (fine y fs) = stores_say y fs (call y.b (place_of y) fs (remove (filled name)))

  pub remove_says : RemoveSays t limit (remove_of xs t name limit)
  unfolding remove_of
  remove_says = go (ltb 2 limit) (is_legal_name name)
    where
      go : (l g : Bool)
          → RemoveSays t limit (cond l (record { answer = RemoveRefused WrongSize; file = xs; trie = t }) (cond g (remove_on_looked xs t (filled name) limit (looked_of xs t)) (record { answer = RemoveRefused IllegalName; file = xs; trie = t })))
      go true g = refused_says WrongSize
      go false true = looked_says (looked_of xs t)
      go false false = refused_says IllegalName
