-- The stores of a call do not depend on its limit.
use Rattle.model.proofs.Prelude.{Bool, List, Option, [], ◌∙◌, ◌∷◌, ◌≡◌, ◌≤◌, ap, arith, clash, cond, false, le-ltb, length, ltb, ltb-false, nothing, refl, some, suc, sym, take, take_all, take-nil, true, zero, ℕ}
use Rattle.model.specs.declared.Layout.{Layout}
use Rattle.model.specs.Results.{Added, NotHeld, PutStopped, RemoveStopped}
use Rattle.model.specs.declared.Trie.{Trie}
use Rattle.model.specs.Entries.{content_from}
use Rattle.model.specs.Order.{Str}
use Rattle.model.specs.Tests.{is_legal_name}
use Rattle.model.specs.Names.{filled}
use Rattle.model.specs.Files.{Slot, free}
use Rattle.model.specs.Changes.{Result, Store, call, refuse, remove, stores}
use Rattle.model.specs.Places.{place_of}
use Rattle.model.specs.Checks.{Kind, is_bad, is_cut, is_sound}
use Rattle.model.specs.Format.{check_file, kept_run, layout_of, store_bytes}
use Rattle.model.specs.Calls.{Looked, PutDone, RemoveDone, fine, held, looked_of, put_answer, put_by_stores, put_of, put_on_looked, put_takes, recover_by, recover_of, refusing, remove_answer, remove_by_stores, remove_of, remove_on_looked, stores_bytes}
use Rattle.model.proofs.Format.{headed_layout, read_file_read}
use Rattle.promises.specs.Calls.{our_calls}
use Rattle.promises.specs.Limits.{Further, InOrder, Limits, no_store, one_store}
use Rattle.promises.proofs.Leading.{looked_passed}

-- One store more.
further : (y : Layout) (j : ℕ) (ss : List Store) (xs : List ℕ) → Further y (stores_bytes y (take j ss) xs) (stores_bytes y (take (suc j) ss) xs)
unfolding stores_bytes
further y zero [] xs = no_store refl
further y (suc j) [] xs = no_store refl
further y zero (s ∷ ss) xs = one_store s.0 s.1 refl
further y (suc j) (s ∷ ss) xs = further y j ss (store_bytes y s.0 s.1 xs)

in_order : (xs : List ℕ) (left : ℕ → List ℕ) (ss : List Store) → ((limit : ℕ) → limit ≤ 2 → left limit ≡ stores_bytes (layout_of xs) (take limit ss) xs) → InOrder xs left
in_order xs left ss h = record {
  stores = ss;
  left_by = h;
  passes = λ j l. rw (h j (omega arith), h (suc j) l) (further (layout_of xs) j ss xs);
}

-- The stores that the limit allows, or all of them.
left_of : {D : Type 0} (file : D → List ℕ) (stopped made : D) (y : Layout) (ss : List Store) (xs : List ℕ) (limit : ℕ) → file stopped ≡ stores_bytes y (take limit ss) xs
    → file made ≡ stores_bytes y ss xs → file (cond (ltb limit (length ss)) stopped made) ≡ stores_bytes y (take limit ss) xs
left_of file stopped made y ss xs limit p q = go (ltb limit (length ss)) refl
  where
    go : (b : Bool) → ltb limit (length ss) ≡ b → file (cond b stopped made) ≡ stores_bytes y (take limit ss) xs
    go true e = p
    go false e = q ∙ ap (λ (l : List Store). stores_bytes y l xs) (sym (take_all limit ss (ltb-false limit (length ss) e)))

unfoldable pub asked : Result → List Store
asked (refuse r) = []
asked (stores ss) = ss

put_stored : (xs : List ℕ) (t : Trie) (y : Layout) (fs : List Slot) (n : Str) (v limit : ℕ) (r : Result) → (put_by_stores xs t y fs n v limit r).file ≡ stores_bytes y (take limit (asked r)) xs
unfolding put_by_stores stores_bytes asked
put_stored xs t y fs n v limit (refuse r) = rw (take-nil limit)
put_stored xs t y fs n v limit (stores ss) = left_of (λ (d : PutDone). d.file) _ _ y ss xs limit refl refl

pub remove_stored : (xs : List ℕ) (t : Trie) (y : Layout) (fs : List Slot) (limit : ℕ) (r : Result) → (remove_by_stores xs t y fs limit r).file ≡ stores_bytes y (take limit (asked r)) xs
unfolding remove_by_stores stores_bytes asked
remove_stored xs t y fs limit (refuse r) = rw (take-nil limit)
remove_stored xs t y fs limit (stores ss) = left_of (λ (d : RemoveDone). d.file) _ _ y ss xs limit refl refl

module _ (xs : List ℕ) (t : Trie) (name : List ℕ) where
  -- The layout of a file that passed the checks.
  layout_is : (y : Layout) (fs : List Slot) → looked_of xs t ≡ fine y fs → layout_of xs ≡ y
  layout_is y fs e = headed_layout (read_file_read xs (looked_passed xs t y fs e).is).headed

  put_in_order : (v run : ℕ) (g : Bool) (l : Looked) → is_legal_name name ≡ g → looked_of xs t ≡ l → InOrder xs (λ (limit : ℕ). (put_of xs t name v run limit).file)
  unfolding put_of put_on_looked stores_bytes
  put_in_order v run false l e f = in_order xs (λ (limit : ℕ). (put_of xs t name v run limit).file) [] (λ limit h. rw (le-ltb 2 limit h, e, take-nil limit))
  put_in_order v run true (refusing c) e f = in_order xs (λ (limit : ℕ). (put_of xs t name v run limit).file) [] (λ limit h. rw (le-ltb 2 limit h, e, f, take-nil limit))
  put_in_order v run true (fine y fs) e f =
      let c = content_from v (kept_run y run) in
      let r = put_takes y fs (filled name) c (kept_run y run) in
      in_order xs (λ (limit : ℕ). (put_of xs t name v run limit).file) (asked r)
      (λ limit h. rw (le-ltb 2 limit h, e, f, layout_is y fs f) (put_stored xs t y fs (filled name) c limit r))

  remove_in_order : (g : Bool) (l : Looked) → is_legal_name name ≡ g → looked_of xs t ≡ l → InOrder xs (λ (limit : ℕ). (remove_of xs t name limit).file)
  unfolding remove_of remove_on_looked stores_bytes
  remove_in_order false l e f = in_order xs (λ (limit : ℕ). (remove_of xs t name limit).file) [] (λ limit h. rw (le-ltb 2 limit h, e, take-nil limit))
  remove_in_order true (refusing c) e f = in_order xs (λ (limit : ℕ). (remove_of xs t name limit).file) [] (λ limit h. rw (le-ltb 2 limit h, e, f, take-nil limit))
  remove_in_order true (fine y fs) e f =
      let r = call y.b (place_of y) fs (remove (filled name)) in
      in_order xs (λ (limit : ℕ). (remove_of xs t name limit).file) (asked r)
      (λ limit h. rw (le-ltb 2 limit h, e, f, layout_is y fs f) (remove_stored xs t y fs limit r))

freed_left : (xs : List ℕ) (N limit : ℕ) → (recover_by xs limit (is_cut N)).file ≡ stores_bytes (layout_of xs) (take limit ((N, free) ∷ [])) xs
unfolding recover_by stores_bytes
freed_left xs N zero = refl
freed_left xs N (suc k) = rw (le-ltb (suc k) 1 (omega arith), take-nil k)

recover_in_order : (xs : List ℕ) (k : Kind) → check_file xs ≡ k → InOrder xs (λ (limit : ℕ). (recover_of xs limit).file)
unfolding recover_of recover_by stores_bytes
recover_in_order xs is_bad e = in_order xs (λ (limit : ℕ). (recover_of xs limit).file) [] (λ limit h. rw (le-ltb 2 limit h, e, take-nil limit))
recover_in_order xs is_sound e = in_order xs (λ (limit : ℕ). (recover_of xs limit).file) [] (λ limit h. rw (le-ltb 2 limit h, e, take-nil limit))
recover_in_order xs (is_cut N) e =
    in_order xs (λ (limit : ℕ). (recover_of xs limit).file) ((N, free) ∷ []) (λ limit h. rw (le-ltb 2 limit h, e) (freed_left xs N limit))

-- A put that is stopped leaves the trie that was given, since what is not stopped has another answer.
module _ (t : Trie) where
  record PutStays (d : PutDone) : Type 0 where
    stays : (made : ℕ) → d.answer ≡ PutStopped made → d.trie ≡ t

  put_either : (b : Bool) (d e : PutDone) → PutStays d → PutStays e → PutStays (cond b d e)
  put_either true d e f g = f
  put_either false d e f g = g

  put_answered : (o : Option ℕ) (d : PutDone) → d.answer ≡ put_answer o → PutStays d
  put_answered nothing d e = record { stays = λ made f. let z : Added ≡ PutStopped made = sym e ∙ f in clash cc }
  put_answered (some w) d e = record { stays = λ made f. let z : put_answer (some w) ≡ PutStopped made = sym e ∙ f in clash cc }

  put_refused : (d : PutDone) → d.trie ≡ t → PutStays d
  put_refused d e = record { stays = λ made f. e }

  put_made_stays : (xs : List ℕ) (y : Layout) (fs : List Slot) (n : Str) (v limit : ℕ) (r : Result) → PutStays (put_by_stores xs t y fs n v limit r)
  unfolding put_by_stores
  put_made_stays xs y fs n v limit (refuse r) = put_refused _ refl
  put_made_stays xs y fs n v limit (stores ss) = put_either (ltb limit (length ss)) _ _ (put_refused _ refl) (put_answered (held fs n) _ refl)

  put_stays : (xs name : List ℕ) (v run limit : ℕ) → PutStays (put_of xs t name v run limit)
  unfolding put_of put_on_looked
  put_stays xs name v run limit =
      put_either (ltb 2 limit) _ _ (put_refused _ refl) (put_either (is_legal_name name) _ _ (looked (looked_of xs t)) (put_refused _ refl))
    where
      looked : (l : Looked) → PutStays (put_on_looked xs t (filled name) v run limit l)
      looked (refusing c) = put_refused _ refl
      looked (fine y fs) = let c = content_from v (kept_run y run) in put_made_stays xs y fs (filled name) c limit (put_takes y fs (filled name) c (kept_run y run))

  -- The same of a removal.
  record RemoveStays (d : RemoveDone) : Type 0 where
    stays : (made : ℕ) → d.answer ≡ RemoveStopped made → d.trie ≡ t

  remove_either : (b : Bool) (d e : RemoveDone) → RemoveStays d → RemoveStays e → RemoveStays (cond b d e)
  remove_either true d e f g = f
  remove_either false d e f g = g

  remove_answered : (ss : List Store) (d : RemoveDone) → d.answer ≡ remove_answer ss → RemoveStays d
  remove_answered [] d e = record { stays = λ made f. let z : NotHeld ≡ RemoveStopped made = sym e ∙ f in clash cc }
  remove_answered (s ∷ ss) d e = record { stays = λ made f. let z : remove_answer (s ∷ ss) ≡ RemoveStopped made = sym e ∙ f in clash cc }

  remove_refused : (d : RemoveDone) → d.trie ≡ t → RemoveStays d
  remove_refused d e = record { stays = λ made f. e }

  remove_made_stays : (xs : List ℕ) (y : Layout) (fs : List Slot) (limit : ℕ) (r : Result) → RemoveStays (remove_by_stores xs t y fs limit r)
  unfolding remove_by_stores
  remove_made_stays xs y fs limit (refuse r) = remove_refused _ refl
  remove_made_stays xs y fs limit (stores ss) = remove_either (ltb limit (length ss)) _ _ (remove_refused _ refl) (remove_answered ss _ refl)

  remove_stays : (xs name : List ℕ) (limit : ℕ) → RemoveStays (remove_of xs t name limit)
  unfolding remove_of remove_on_looked
  remove_stays xs name limit =
      remove_either (ltb 2 limit) _ _ (remove_refused _ refl) (remove_either (is_legal_name name) _ _ (looked (looked_of xs t)) (remove_refused _ refl))
    where
      looked : (l : Looked) → RemoveStays (remove_on_looked xs t (filled name) limit l)
      looked (refusing c) = remove_refused _ refl
      looked (fine y fs) = remove_made_stays xs y fs limit (call y.b (place_of y) fs (remove (filled name)))

pub limits : Limits our_calls
limits = record {
  put = λ xs t name v run. put_in_order xs t name v run (is_legal_name name) (looked_of xs t) refl refl;
  remove = λ xs t name. remove_in_order xs t name (is_legal_name name) (looked_of xs t) refl refl;
  recover = λ xs. recover_in_order xs (check_file xs) refl;
  put_stays = λ xs t name v run limit. (put_stays t xs name v run limit).stays;
  remove_stays = λ xs t name limit. (remove_stays t xs name limit).stays;
}
