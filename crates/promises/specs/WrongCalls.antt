-- Wrong versions of the calls (section 15 of the rules, two of R7.14 and two of R7.12): each is ours but for one thing.
use Rattle.std.specs.Prelude.{◌≡◌, cond, List, [], ◌∷◌, suc, zero, ℕ, ltb, length, set, take}
use Rattle.std.proofs.Math.Option.{Option, none as nothing, some}
use Rattle.model.specs.declared.Cause.{Cause}
use Rattle.model.specs.declared.Cause.TheVariants.{IllegalName, WrongSize}
use Rattle.model.specs.declared.Layout.{Layout}
use Rattle.model.specs.Results.{Freed, ListRefused, LookUpRefused, NotHeld, Nothing, PutRefused, PutStopped, RecoverAnswer, RecoverRefused, RecoverStopped, RemoveAnswer, RemoveRefused, RemoveStopped, Removed, TrieRefused}
use Rattle.model.specs.declared.Trie.{Trie}
use Rattle.model.specs.Order.{Low, Str}
use Rattle.model.specs.Tests.{is_legal_name}
use Rattle.model.specs.Names.{filled}
use Rattle.model.specs.Entries.{Entry, content_from, find, without}
use Rattle.model.specs.Files.{Slot, free, head, slot_at, upper_of, used}
use Rattle.model.specs.Changes.{Result, Store, left_of, merged_or, refuse, right_of, stores, stores_if}
use Rattle.model.specs.Places.{place_of}
use Rattle.model.specs.Format.{check_file, kept_run, layout_of, read_file, store_bytes}
use Rattle.model.specs.Calls.{Looked, PutDone, RecoverDone, RemoveDone, create_of, fine, held, list_of, look_up_of, looked_of, put_answer, put_of, put_takes, rebuild_of, recover_of, refusal_of, refusing, remove_by_stores, remove_of, stores_bytes, trie_after_put}
use Rattle.model.specs.Searches.{first, has_upper, is_in_range}
use Rattle.promises.specs.Calls.{Calls}

-- R15.1: one of the calls refuses everything.
abbrev pub IsRefused : {A : Type 0} → (Cause → A) → A → Type 0
IsRefused Refused a = (c : Cause) × (a ≡ Refused c)

pub data RefusesAll (C : Calls) : Type 0 where
  by_create : ((xs : List ℕ) (v b slots : ℕ) → IsRefused TrieRefused (C.create xs v b slots).answer) → RefusesAll C
  by_recover : ((xs : List ℕ) (limit : ℕ) → IsRefused RecoverRefused (C.recover xs limit).answer) → RefusesAll C
  by_rebuild : ((xs : List ℕ) → IsRefused TrieRefused (C.rebuild xs).answer) → RefusesAll C
  by_look_up : ((xs : List ℕ) (t : Trie) (name : List ℕ) → IsRefused LookUpRefused (C.look_up xs t name)) → RefusesAll C
  by_put : ((xs : List ℕ) (t : Trie) (name : List ℕ) (v run limit : ℕ) → IsRefused PutRefused (C.put xs t name v run limit).answer) → RefusesAll C
  by_remove : ((xs : List ℕ) (t : Trie) (name : List ℕ) (limit : ℕ) → IsRefused RemoveRefused (C.remove xs t name limit).answer) → RefusesAll C
  by_list : ((xs : List ℕ) (t : Trie) (low high out : List ℕ) → IsRefused ListRefused (C.list xs t low high out).answer) → RefusesAll C

-- R15.2: one lookup result for all.
abbrev pub OneResult : Calls → Type 0
OneResult C = (xs ys : List ℕ) (t u : Trie) (m n : List ℕ) → C.look_up xs t m ≡ C.look_up ys u n

-- Our put, with another way to make its stores: which are made where it is stopped, what number it says then, and which are
-- made where it is not stopped.
module _ (stopped : ℕ → List Store → List Store) (says : ℕ → ℕ) (whole : List Store → List Store) where
  unfoldable pub make : List ℕ → Trie → Layout → List Slot → Str → ℕ → ℕ → Result → PutDone
  make xs t y fs n v limit (refuse r) = record { answer = PutRefused (refusal_of r); file = xs; trie = t }
  make xs t y fs n v limit (stores ss) =
      cond (ltb limit (length ss))
      (record { answer = PutStopped (says limit); file = stores_bytes y (stopped limit ss) xs; trie = t })
      (record {
        answer = put_answer (held fs n);
        file = stores_bytes y (whole ss) xs;
        trie = trie_after_put y.b (place_of y) fs n v ss t;
      })

  unfoldable pub make_looked : List ℕ → Trie → Str → ℕ → ℕ → ℕ → Looked → PutDone
  make_looked xs t n v run limit (refusing c) = record { answer = PutRefused c; file = xs; trie = t }
  make_looked xs t n v run limit (fine y fs) =
      let c = content_from v (kept_run y run) in
      make xs t y fs n c limit (put_takes y fs n c (kept_run y run))

  unfoldable pub make_put : List ℕ → Trie → List ℕ → ℕ → ℕ → ℕ → PutDone
  make_put xs t name v run limit =
      let d = make_looked xs t (filled name) v run limit (looked_of xs t) in
      cond (ltb 2 limit) (record { answer = PutRefused WrongSize; file = xs; trie = t })
      (cond (is_legal_name name) d (record { answer = PutRefused IllegalName; file = xs; trie = t }))

-- Our calls, with another recover, put and remove.
abbrev pub instead : (List ℕ → ℕ → RecoverDone) → (List ℕ → Trie → List ℕ → ℕ → ℕ → ℕ → PutDone) → (List ℕ → Trie → List ℕ → ℕ → RemoveDone) → Calls
instead f g h = record {
  create = create_of;
  check = check_file;
  recover = f;
  rebuild = rebuild_of;
  look_up = look_up_of;
  put = g;
  remove = h;
  list = list_of;
}

abbrev pub with_put : (List ℕ → Trie → List ℕ → ℕ → ℕ → ℕ → PutDone) → Calls
with_put g = instead recover_of g remove_of

-- R15.3: a put that stores nothing and yet says that it is done.
abbrev pub stores_nothing : Calls
stores_nothing = with_put (make_put take (λ made. made) (λ ss. []))

-- The same of remove: it stores nothing, and says of every name that it is absent.
unfoldable pub absent_instead : List ℕ → Trie → RemoveAnswer → RemoveDone
absent_instead xs t (Removed made) = record { answer = NotHeld; file = xs; trie = t }
absent_instead xs t NotHeld = record { answer = NotHeld; file = xs; trie = t }
absent_instead xs t (RemoveStopped made) = record { answer = RemoveStopped made; file = xs; trie = t }
absent_instead xs t (RemoveRefused c) = record { answer = RemoveRefused c; file = xs; trie = t }

abbrev pub removes_nothing : Calls
removes_nothing = instead recover_of put_of (λ xs t name limit. absent_instead xs t (remove_of xs t name limit).answer)

-- R15.4: a split that replaces two slots in its first store.
unfoldable pub both : ℕ → List Store → List Store
both zero ss = []
both (suc limit) ss = ss

abbrev pub both_at_once : Calls
both_at_once = with_put (make_put both (λ made. made) (λ ss. ss))

-- R15.5: a stopped put that says one store more than it made, and one that says what it was to make and has made none.
abbrev pub miscounts : Calls
miscounts = with_put (make_put take suc (λ ss. ss))

abbrev pub idles : Calls
idles = with_put (make_put (λ limit ss. []) (λ made. made) (λ ss. ss))

-- R15.6: a split with its two stores exchanged, A cut down before the new slot is stored.
unfoldable pub exchanged : List Store → List Store
exchanged [] = []
exchanged (x ∷ []) = x ∷ []
exchanged (x ∷ y ∷ ss) = y ∷ x ∷ ss

abbrev pub cuts_first : Calls
cuts_first = with_put (make_put (λ limit ss. take limit (exchanged ss)) (λ made. made) exchanged)

-- R15.9: a recovery that frees A and keeps N, the inner one of the two. A is the other slot with N's upper bound.
abbrev pub outer : List Slot → ℕ → ℕ
outer fs N = first (has_upper (upper_of (head (slot_at fs N)))) (set fs N free)

unfoldable pub free_outer : List ℕ → RecoverDone → RecoverAnswer → Option (Layout × List Slot) → RecoverDone
free_outer xs d (Freed N) nothing = d
free_outer xs d (Freed N) (some f) =
    record { answer = Freed (outer f.1 N); file = store_bytes (layout_of xs) (outer f.1 N) free xs }
free_outer xs d Nothing f = d
free_outer xs d (RecoverStopped made) f = d
free_outer xs d (RecoverRefused c) f = d

unfoldable pub inner_kept : List ℕ → ℕ → RecoverDone
inner_kept xs limit = let d = recover_of xs limit in free_outer xs d d.answer (read_file xs)

abbrev pub keeps_inner : Calls
keeps_inner = instead inner_kept put_of remove_of

-- Our remove, with another rule for its stores: taken has what `removal` has, b, the file's slots, the name and the bucket that holds it.
module _ (taken : ℕ → List Slot → Str → ℕ → Low → Str → List Entry → List Store) where
  unfoldable pub take_from : Layout → List Slot → Str → ℕ → Slot → Result
  take_from y fs n A free = refuse 2
  take_from y fs n A (used l u es) = let ss = taken y.b fs n A l u es in stores (stores_if (find n es) ss)

  unfoldable pub take_looked : List ℕ → Trie → Str → ℕ → Looked → RemoveDone
  take_looked xs t n limit (refusing c) = record { answer = RemoveRefused c; file = xs; trie = t }
  take_looked xs t n limit (fine y fs) = let A = first (is_in_range n) fs in remove_by_stores xs t y fs limit (take_from y fs n A (slot_at fs A))

  unfoldable pub make_remove : List ℕ → Trie → List ℕ → ℕ → RemoveDone
  make_remove xs t name limit =
      let d = take_looked xs t (filled name) limit (looked_of xs t) in
      cond (ltb 2 limit) (record { answer = RemoveRefused WrongSize; file = xs; trie = t })
      (cond (is_legal_name name) d (record { answer = RemoveRefused IllegalName; file = xs; trie = t }))

-- R7.14: a removal that never merges,
unfoldable pub unmerged : ℕ → List Slot → Str → ℕ → Low → Str → List Entry → List Store
unmerged b fs n A l u es = (A, used l u (without n es)) ∷ []

abbrev pub never_merges : Calls
never_merges = instead recover_of put_of (make_remove unmerged)

-- and one that tries the left neighbour first, and only else the right one.
unfoldable pub left_then_right : ℕ → List Slot → Str → ℕ → Low → Str → List Entry → List Store
left_then_right b fs n A l u es =
    let L = left_of l fs in
    let R = right_of u fs in
    let ss = merged_or b n A (used l u es) R (slot_at fs R) ((A, used l u (without n es)) ∷ []) in
    merged_or b n L (slot_at fs L) A (used l u es) ss

abbrev pub left_first : Calls
left_first = instead recover_of put_of (make_remove left_then_right)

-- R7.12: a put that gives the grown trie already where it is stopped after the first store of a split. With limit 1 it gives the trie
-- of limit 2, which is ours wherever limit 1 does not stop the call.
unfoldable pub early : ℕ → ℕ
early zero = zero
early (suc zero) = 2
early (suc (suc limit)) = suc (suc limit)

abbrev pub grown_early : Calls
grown_early =
    with_put (λ xs t name v run limit. let d = put_of xs t name v run limit in
    record { answer = d.answer; file = d.file; trie = (put_of xs t name v run (early limit)).trie })

-- The same of a removal, with the first store of a merge and the rebuilt trie.
abbrev pub rebuilt_early : Calls
rebuilt_early =
    instead recover_of put_of (λ xs t name limit. let d = remove_of xs t name limit in
    record { answer = d.answer; file = d.file; trie = (remove_of xs t name (early limit)).trie })
