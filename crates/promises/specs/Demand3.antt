-- Demand 3 (R13.3), in words: start from a new file, then any calls in any order, each stopped after any of its stores.
use Rattle.std.specs.Prelude.{◌≡◌, cond, List, [], ◌∷◌, ◌+◌, ◌<◌, ◌^◌, ◌≤◌, suc, zero, ℕ}
use Rattle.std.proofs.Math.Option.{none as nothing}
use Rattle.model.specs.declared.Cause.{Cause}
use Rattle.model.specs.declared.Layout.{Layout}
use Rattle.model.specs.Results.{Added, Freed, Given, NotHeld as Absent, Nothing, PutAnswer, PutRefused, PutStopped, RecoverAnswer, RecoverRefused, RecoverStopped, RemoveAnswer, RemoveRefused, RemoveStopped, Removed, ReplacedContent, TrieAnswer, TrieRefused}
use Rattle.model.specs.declared.Trie.{Trie}
use Rattle.model.specs.Order.{Str}
use Rattle.model.specs.Tests.{same_str}
use Rattle.model.specs.Names.{filled}
use Rattle.model.specs.Entries.{content_from}
use Rattle.model.specs.Changes.{Map, Means, meant, put as to_put, remove as to_remove}
use Rattle.model.specs.Format.{bytes_at_slot, kept_run, layout_of}
use Rattle.model.specs.Calls.{CreateDone, held_answer}
use Rattle.promises.specs.Calls.{Calls}
use Rattle.promises.specs.Demand1.{LegalName, slots_of}
use Rattle.promises.specs.Demand2.{LeadsRight}

-- What can happen. A put of a name with a 64-bit value, a 64-bit run and a store limit, or a remove of a name with one, with the
-- trie in hand; the same with any other trie at all, such as the old one after a stop; the trie is lost; a recovery with a
-- store limit, whether there is a trie in hand or not; a rebuilding. Names and limits are any, legal or not.
pub data Event : Type 0 where
  put : List ℕ → (v : ℕ) → v < 2 ^ 64 → (run : ℕ) → run < 2 ^ 64 → ℕ → Event
  remove : List ℕ → ℕ → Event
  put_with : Trie → List ℕ → (v : ℕ) → v < 2 ^ 64 → (run : ℕ) → run < 2 ^ 64 → ℕ → Event
  remove_with : Trie → List ℕ → ℕ → Event
  kill : Event
  recover : ℕ → Event
  rebuild : Event

-- With a trie in hand, or with none: the file's bytes, the trie, and what the calls that count as made have said of each
-- name.
pub data State : Type 0 where
  running : List ℕ → Trie → Map → State
  down : List ℕ → Map → State

abbrev pub file_of : State → List ℕ
file_of (running xs t m) = xs
file_of (down xs m) = xs

abbrev pub said : State → Map
said (running xs t m) = m
said (down xs m) = m

-- The file is now this one, and the trie in hand stays, if there is one.
unfoldable pub now : List ℕ → State → State
now ys (running xs t m) = running ys t m
now ys (down xs m) = down ys m

-- R13.3: a call counts as made exactly when it was not stopped short of its last store; a remove that says absent
-- counts as made too, and a removal that merges does from its first store on. After a stop the trie is discarded. The file
-- is always the one that the call leaves; the trie in hand after a call that was not stopped is the one that it gave.
unfoldable pub after_put : State → Str → ℕ → PutAnswer → List ℕ → Trie → State
after_put s n v Added xs t = running xs t (meant (to_put n v) (said s))
after_put s n v (ReplacedContent old) xs t = running xs t (meant (to_put n v) (said s))
after_put s n v (PutStopped made) xs t = down xs (said s)
after_put s n v (PutRefused c) xs t = now xs s

unfoldable pub after_remove : State → Str → RemoveAnswer → List ℕ → Trie → State
after_remove s n (Removed stores) xs t = running xs t (meant (to_remove n) (said s))
after_remove s n Absent xs t = running xs t (meant (to_remove n) (said s))
after_remove s n (RemoveStopped zero) xs t = down xs (said s)
after_remove s n (RemoveStopped (suc made)) xs t = down xs (meant (to_remove n) (said s))
after_remove s n (RemoveRefused c) xs t = now xs s

unfoldable pub after_recover : State → RecoverAnswer → List ℕ → State
after_recover s (Freed N) xs = now xs s
after_recover s Nothing xs = now xs s
after_recover s (RecoverStopped made) xs = down xs (said s)
after_recover s (RecoverRefused c) xs = now xs s

unfoldable pub after_rebuild : State → TrieAnswer → Trie → State
after_rebuild s Given t = running (file_of s) t (said s)
after_rebuild s (TrieRefused c) t = s

module _ (C : Calls) where
  unfoldable pub put_by : State → Trie → List ℕ → ℕ → ℕ → ℕ → State
  put_by s t name v run limit =
      let d = C.put (file_of s) t name v run limit in
      after_put s (filled name) (content_from v (kept_run (layout_of (file_of s)) run)) d.answer d.file d.trie

  unfoldable pub remove_by : State → Trie → List ℕ → ℕ → State
  remove_by s t name limit =
      let d = C.remove (file_of s) t name limit in
      after_remove s (filled name) d.answer d.file d.trie

  unfoldable pub step : Event → State → State
  step (put name v small run low limit) (running xs t m) = put_by (running xs t m) t name v run limit
  step (put name v small run low limit) (down xs m) = down xs m
  step (remove name limit) (running xs t m) = remove_by (running xs t m) t name limit
  step (remove name limit) (down xs m) = down xs m
  step (put_with t name v small run low limit) s = put_by s t name v run limit
  step (remove_with t name limit) s = remove_by s t name limit
  step kill s = down (file_of s) (said s)
  step (recover limit) s =
      let d = C.recover (file_of s) limit in
      after_recover s d.answer d.file
  step rebuild s =
      let d = C.rebuild (file_of s) in
      after_rebuild s d.answer d.trie

  -- The events one after another, the first one first.
  unfoldable pub after : List Event → State → State
  after [] s = s
  after (e ∷ es) s = after es (step e s)

-- R13.3: at first, what create gave, and no name said.
abbrev pub start : CreateDone → State
start c = running c.file c.trie (λ k. nothing)

-- How many slots two files' bytes differ in, of as many as the first one's header says.
unfoldable pub differing : ℕ → Layout → List ℕ → List ℕ → ℕ
differing zero y xs ys = 0
differing (suc k) y xs ys = cond (same_str (bytes_at_slot y k xs) (bytes_at_slot y k ys)) 0 1 + differing k y xs ys

abbrev pub replaced : List ℕ → List ℕ → ℕ
replaced xs ys = differing (slots_of xs) (layout_of xs) xs ys

-- R7.12: a call that is stopped says its limit, and as many slots are others than before.
pub record StoppedAt (limit made : ℕ) (xs ys : List ℕ) : Type 0 where
  pub as_limited : made ≡ limit
  pub as_made : replaced xs ys ≡ made

module _ (C : Calls) where
  -- With a trie in hand: the trie leads every name to the one bucket whose range holds it, and each bucket holds of the
  -- names in its range what the history says.
  pub record Kept (xs : List ℕ) (t : Trie) (m : Map) : Type 0 where
    pub leads : LeadsRight xs t
    pub means : Means leads.file.slots m
    -- R13.3: every legal name looks up as the history says.
    pub looks_up : (name : List ℕ) → LegalName name → C.look_up xs t name ≡ held_answer (m (filled name))

  abbrev pub InHand : State → Type 0
  InHand (running xs t m) = Kept xs t m
  InHand (down xs m) = Unit {0}

  -- R13.3: a recovery with a legal limit is never refused. It is whole, rebuilding gives a trie, and all is kept; or
  -- its limit is 0, it says stopped, and the file is as it was.
  pub data Recovers (xs : List ℕ) (m : Map) (limit : ℕ) : RecoverAnswer → List ℕ → Type 0 where
    after_freeing : {N : ℕ} {ys : List ℕ} → (C.rebuild ys).answer ≡ Given → Kept ys (C.rebuild ys).trie m → Recovers xs m limit (Freed N) ys
    nothing_to_do : (C.rebuild xs).answer ≡ Given → Kept xs (C.rebuild xs).trie m → Recovers xs m limit Nothing xs
    stopped_at_0 : limit ≡ 0 → Recovers xs m limit (RecoverStopped 0) xs

  -- What holds after any events.
  pub record Holds (s : State) : Type 0 where
    pub in_hand : InHand s
    pub recovery : (limit : ℕ) → limit ≤ 2 → Recovers (file_of s) (said s) limit (C.recover (file_of s) limit).answer (C.recover (file_of s) limit).file
    -- R13.3: a refused call has changed nothing, whatever the trie.
    pub put_refused : (t : Trie) (name : List ℕ) (v run limit : ℕ) (c : Cause) → (C.put (file_of s) t name v run limit).answer ≡ PutRefused c
        → ((C.put (file_of s) t name v run limit).file ≡ file_of s) × ((C.put (file_of s) t name v run limit).trie ≡ t)
    pub remove_refused : (t : Trie) (name : List ℕ) (limit : ℕ) (c : Cause) → (C.remove (file_of s) t name limit).answer ≡ RemoveRefused c
        → ((C.remove (file_of s) t name limit).file ≡ file_of s) × ((C.remove (file_of s) t name limit).trie ≡ t)
    pub recover_refused : (limit : ℕ) (c : Cause) → (C.recover (file_of s) limit).answer ≡ RecoverRefused c
        → (C.recover (file_of s) limit).file ≡ file_of s
    -- R13.3: any call may be stopped after any of its stores.
    pub put_stopped : (t : Trie) (name : List ℕ) (v run limit made : ℕ) → (C.put (file_of s) t name v run limit).answer ≡ PutStopped made
        → StoppedAt limit made (file_of s) (C.put (file_of s) t name v run limit).file
    pub remove_stopped : (t : Trie) (name : List ℕ) (limit made : ℕ) → (C.remove (file_of s) t name limit).answer ≡ RemoveStopped made
        → StoppedAt limit made (file_of s) (C.remove (file_of s) t name limit).file
    pub recover_stopped : (limit made : ℕ) → (C.recover (file_of s) limit).answer ≡ RecoverStopped made
        → StoppedAt limit made (file_of s) (C.recover (file_of s) limit).file

-- Demand 3 of the calls: from every file that create gives, after all events.
pub record Demand3 (C : Calls) : Type 0 where
  pub always : (xs : List ℕ) (version b slots : ℕ) → (C.create xs version b slots).answer ≡ Given → (es : List Event)
      → Holds C (after C es (start (C.create xs version b slots)))
