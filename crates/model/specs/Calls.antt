-- The public calls on bytes: for every file, trie and name, the answer, the trie and all bytes lent.
use Rattle.std.specs.Prelude.{Bool, ◌&&◌, cond, List, [], ◌++◌, ◌∷◌, ◌*◌, ℕ, eqb, leb, ltb, drop, length, replicate, take}
use Rattle.std.proofs.Math.Option.{Option, none as nothing, some}
use Rattle.model.specs.declared.Cause.{Cause}
use Rattle.model.specs.declared.Cause.TheVariants.{BadFile, CutFile, IllegalName, ManyStrings, NoFreeSlot, OlderRun, ShortOutput, StaleTrie, WrongSize}
use Rattle.model.specs.declared.Layout.{Layout}
use Rattle.model.specs.Results.{Added, Found, Freed, Given, ListAnswer, ListRefused, Listed, LookUpAnswer, LookUpRefused, NotFound, NotHeld, Nothing, PutAnswer, PutRefused, PutStopped, RecoverAnswer, RecoverRefused, RecoverStopped, RemoveAnswer, RemoveRefused, RemoveStopped, Removed, Replaced, TrieAnswer, TrieRefused}
use Rattle.model.specs.declared.Trie.{Trie}
use Rattle.model.specs.Order.{Str}
use Rattle.model.specs.Tests.{is_above, is_at_most, is_legal_name}
use Rattle.model.specs.Names.{broken, filled}
use Rattle.model.specs.Entries.{Entry, content_from, find, insert, is_older, name_at, run_of_content, value_of_content}
use Rattle.model.specs.Files.{Slot, created, entries_of, free, slot_at, used}
use Rattle.model.specs.Searches.{first, is_in_range, order_of, string_count}
use Rattle.model.specs.Tries.{Spot, walk_of, zero_cell}
use Rattle.model.specs.Rebuilding.{rebuilt_trie}
use Rattle.model.specs.Growth.{grown_trie}
use Rattle.model.specs.Changes.{Result, Store, call, put, refuse, remove, split_of, stores, trie_removed}
use Rattle.model.specs.Places.{place_of}
use Rattle.model.specs.Checks.{Kind, is_bad, is_cut, is_sound, is_well_formed}
use Rattle.model.specs.Agreeing.{is_agreeing}
use Rattle.model.specs.Answers.{stale_trie}
use Rattle.model.specs.Format.{are_legal_sizes, bytes_at_slot, bytes_of_entries, check_file, entry_length, file_bytes, file_size, header_of, kept_run, layout_of, read_file, read_slot, store_bytes}

-- R9.1: a new file's trie.
abbrev pub new_trie : Trie
new_trie = record { cells = replicate 256 zero_cell; count = 0; first = 0 }

-- What each call leaves. Refused, create and rebuild give the empty trie too (R10.12).
pub record CreateDone : Type 0 where
  pub answer : TrieAnswer
  pub file : List ℕ
  pub trie : Trie

pub record RecoverDone : Type 0 where
  pub answer : RecoverAnswer
  pub file : List ℕ

pub record RebuildDone : Type 0 where
  pub answer : TrieAnswer
  pub trie : Trie

pub record PutDone : Type 0 where
  pub answer : PutAnswer
  pub file : List ℕ
  pub trie : Trie

pub record RemoveDone : Type 0 where
  pub answer : RemoveAnswer
  pub file : List ℕ
  pub trie : Trie

pub record ListDone : Type 0 where
  pub answer : ListAnswer
  pub output : List ℕ

-- R9.1: a new file in the whole buffer, and its trie; or refused by R10.8.
unfoldable pub create_of : List ℕ → ℕ → ℕ → ℕ → CreateDone
create_of xs v b slots =
    let y : Layout = record { version = v; b = b } in
    cond (are_legal_sizes y slots && eqb (length xs) (file_size y slots))
    (record { answer = Given; file = file_bytes y (created slots); trie = new_trie })
    (record { answer = TrieRefused WrongSize; file = xs; trie = new_trie })

-- R9.2: check is `check_file`.

-- R9.3: recover frees N and names it; on a sound file there is nothing to do.
unfoldable pub recover_by : List ℕ → ℕ → Kind → RecoverDone
recover_by xs limit is_bad = record { answer = RecoverRefused BadFile; file = xs }
recover_by xs limit is_sound = record { answer = Nothing; file = xs }
recover_by xs limit (is_cut N) =
    cond (ltb limit 1) (record { answer = RecoverStopped 0; file = xs })
    (record { answer = Freed N; file = store_bytes (layout_of xs) N free xs })

abbrev pub recover_with : (List ℕ → Kind) → List ℕ → ℕ → RecoverDone
recover_with kind xs limit =
    let r = recover_by xs limit (kind xs) in
    cond (ltb 2 limit) (record { answer = RecoverRefused WrongSize; file = xs }) r

unfoldable pub recover_of : List ℕ → ℕ → RecoverDone
recover_of xs limit = recover_with check_file xs limit

-- Rebuild, in the order 2, 3, 6.
abbrev pub no_rebuilt : Cause → RebuildDone
no_rebuilt c = record { answer = TrieRefused c; trie = new_trie }

unfoldable pub rebuild_by : Kind → Option (Layout × List Slot) → RebuildDone
rebuild_by is_bad f = no_rebuilt BadFile
rebuild_by (is_cut N) f = no_rebuilt CutFile
rebuild_by is_sound nothing = no_rebuilt BadFile
rebuild_by is_sound (some f) =
    cond (leb (string_count f.1) 256) (record { answer = Given; trie = rebuilt_trie f.1 }) (no_rebuilt ManyStrings)

unfoldable pub rebuild_of : List ℕ → RebuildDone
rebuild_of xs = rebuild_by (check_file xs) (read_file xs)

-- R11.3 to R11.7: the slot at which a walk ended, where it is one of the file's; or nothing.
abbrev pub landed : ℕ → Option (Str × Spot × ℕ) → Option ℕ
landed slots nothing = nothing
landed slots (some (p, k, s)) = cond (ltb s slots) (some s) nothing

-- R11.11: found with value and run, or absent.
abbrev pub held_answer : Option ℕ → LookUpAnswer
held_answer nothing = NotFound
held_answer (some c) = Found (value_of_content c) (run_of_content c)

-- R11.8 to R11.10, in this order. Where the range lacks the name, the refusal says how far off it is (R10.13).
abbrev pub slot_answer_with : (ℕ → Slot → Bool) → ℕ → Str → Option Slot → LookUpAnswer
slot_answer_with well b n nothing = LookUpRefused BadFile
slot_answer_with well b n (some free) = LookUpRefused stale_trie
slot_answer_with well b n (some (used l u es)) =
    cond (well b (used l u es))
    (cond (is_above l n && is_at_most n u) (held_answer (find n es)) (LookUpRefused (StaleTrie (broken l u n)))) (LookUpRefused BadFile)

unfoldable pub slot_answer : ℕ → Str → Option Slot → LookUpAnswer
slot_answer b n s = slot_answer_with is_well_formed b n s

abbrev pub arrived_answer_with : (ℕ → Str → Option Slot → LookUpAnswer) → List ℕ → Layout → Str → Option ℕ → LookUpAnswer
arrived_answer_with answer xs y n nothing = LookUpRefused stale_trie
arrived_answer_with answer xs y n (some k) = answer y.b n (read_slot y (bytes_at_slot y k xs))

unfoldable pub arrived_answer : List ℕ → Layout → Str → Option ℕ → LookUpAnswer
arrived_answer xs y n k = arrived_answer_with slot_answer xs y n k

abbrev pub headed_answer_with : (List ℕ → Layout → Str → Option ℕ → LookUpAnswer) → List ℕ → Trie → Str → Option (Layout × ℕ) → LookUpAnswer
headed_answer_with answer xs t n nothing = LookUpRefused BadFile
headed_answer_with answer xs t n (some h) = answer xs h.0 n (landed h.1 (walk_of t n))

unfoldable pub headed_answer : List ℕ → Trie → Str → Option (Layout × ℕ) → LookUpAnswer
headed_answer xs t n h = headed_answer_with arrived_answer xs t n h

-- Look up, by section 11 of the rules from the top.
abbrev pub look_up_with : (List ℕ → Bool) → (List ℕ → Trie → Str → Option (Layout × ℕ) → LookUpAnswer) → List ℕ → Trie → List ℕ → LookUpAnswer
look_up_with legal answer xs t name =
    let a = answer xs t (filled name) (header_of xs) in
    cond (legal name) a (LookUpRefused IllegalName)

unfoldable pub look_up_of : List ℕ → Trie → List ℕ → LookUpAnswer
look_up_of xs t name = look_up_with is_legal_name headed_answer xs t name

-- R9.10: the whole file and full agreement: refused 2, 3 or 4, or the file.
pub data Looked : Type 0 where
  refusing : Cause → Looked
  fine : Layout → List Slot → Looked

unfoldable pub looked_at_by : Trie → Kind → Option (Layout × List Slot) → Looked
looked_at_by t is_bad f = refusing BadFile
looked_at_by t (is_cut N) f = refusing CutFile
looked_at_by t is_sound nothing = refusing BadFile
looked_at_by t is_sound (some f) = cond (is_agreeing f.1 t) (fine f.0 f.1) (refusing stale_trie)

unfoldable pub looked_of : List ℕ → Trie → Looked
looked_of xs t = looked_at_by t (check_file xs) (read_file xs)

-- Stores made one after another.
unfoldable pub stores_bytes : Layout → List Store → List ℕ → List ℕ
stores_bytes y [] xs = xs
stores_bytes y (s ∷ ss) xs = stores_bytes y ss (store_bytes y s.0 s.1 xs)

-- R8.1: the trie changes with the last store of a split, which is two stores, the new slot first and then A.
unfoldable pub trie_after_put : ℕ → (List Entry → ℕ) → List Slot → Str → ℕ → List Store → Trie → Trie
trie_after_put b place fs n v [] t = t
trie_after_put b place fs n v (x ∷ []) t = t
trie_after_put b place fs n v (x ∷ y ∷ ss) t =
    let ws = insert n v (entries_of (slot_at fs y.0)) in
    grown_trie t (name_at ws (place ws)) (split_of b place ws) y.0 x.0

-- R7.2 and R7.8: added; R7.9: replaced, with the old value and run.
abbrev pub put_answer : Option ℕ → PutAnswer
put_answer nothing = Added
put_answer (some old) = Replaced (value_of_content old) (run_of_content old)

-- What is held under a name, in the bucket whose range holds it.
abbrev pub held : List Slot → Str → Option ℕ
held fs n = find n (entries_of (slot_at fs (first (is_in_range n) fs)))

-- R10.14: refused where what is held has a higher run; else what the request takes.
unfoldable pub put_takes : Layout → List Slot → Str → ℕ → ℕ → Result
put_takes y fs n c run = let r = call y.b (place_of y) fs (put n c) in cond (is_older run (held fs n)) (refuse 12) r

-- What a refusal 5, 6 or 12 is called.
unfoldable pub refusal_of : ℕ → Cause
refusal_of r = cond (eqb r 12) OlderRun (cond (eqb r 5) NoFreeSlot ManyStrings)

-- R7.12: with a limit below the stores needed, as many as the limit says; the trie stays as it is.
unfoldable pub put_by_stores : List ℕ → Trie → Layout → List Slot → Str → ℕ → ℕ → Result → PutDone
put_by_stores xs t y fs n v limit (refuse r) = record { answer = PutRefused (refusal_of r); file = xs; trie = t }
put_by_stores xs t y fs n v limit (stores ss) =
    let u = trie_after_put y.b (place_of y) fs n v ss t in
    cond (ltb limit (length ss)) (record { answer = PutStopped limit; file = stores_bytes y (take limit ss) xs; trie = t })
    (record { answer = put_answer (held fs n); file = stores_bytes y ss xs; trie = u })

unfoldable pub put_on_looked : List ℕ → Trie → Str → ℕ → ℕ → ℕ → Looked → PutDone
put_on_looked xs t n v r limit (refusing c) = record { answer = PutRefused c; file = xs; trie = t }
put_on_looked xs t n v r limit (fine y fs) =
    let c = content_from v (kept_run y r) in
    put_by_stores xs t y fs n c limit (put_takes y fs n c (kept_run y r))

-- Put of a value with the run that writes it, in the order 8, 1, 2, 3, 4, 12, 5, 6 (R10.9).
abbrev pub put_made_with : (List ℕ → Bool) → (List ℕ → Trie → Looked) → List ℕ → Trie → List ℕ → ℕ → ℕ → ℕ → PutDone
put_made_with legal looked xs t name v r limit =
    let d = put_on_looked xs t (filled name) v r limit (looked xs t) in
    cond (ltb 2 limit) (record { answer = PutRefused WrongSize; file = xs; trie = t })
    (cond (legal name) d (record { answer = PutRefused IllegalName; file = xs; trie = t }))

unfoldable pub put_of : List ℕ → Trie → List ℕ → ℕ → ℕ → ℕ → PutDone
put_of xs t name v r limit = put_made_with is_legal_name looked_of xs t name v r limit

-- R7.10: removed, in one store or the two of a merge; R7.11: absent, without a store.
abbrev pub remove_answer : List Store → RemoveAnswer
remove_answer [] = NotHeld
remove_answer (s ∷ ss) = Removed (length (s ∷ ss))

unfoldable pub remove_by_stores : List ℕ → Trie → Layout → List Slot → ℕ → Result → RemoveDone
remove_by_stores xs t y fs limit (refuse r) = record { answer = RemoveRefused BadFile; file = xs; trie = t }
remove_by_stores xs t y fs limit (stores ss) =
    cond (ltb limit (length ss)) (record { answer = RemoveStopped limit; file = stores_bytes y (take limit ss) xs; trie = t })
    (record { answer = remove_answer ss; file = stores_bytes y ss xs; trie = trie_removed fs ss t })

unfoldable pub remove_on_looked : List ℕ → Trie → Str → ℕ → Looked → RemoveDone
remove_on_looked xs t n limit (refusing c) = record { answer = RemoveRefused c; file = xs; trie = t }
remove_on_looked xs t n limit (fine y fs) = remove_by_stores xs t y fs limit (call y.b (place_of y) fs (remove n))

-- Remove, in the order 8, 1, 2, 3, 4 (R10.9).
abbrev pub remove_made_with : (List ℕ → Bool) → (List ℕ → Trie → Looked) → List ℕ → Trie → List ℕ → ℕ → RemoveDone
remove_made_with legal looked xs t name limit =
    let d = remove_on_looked xs t (filled name) limit (looked xs t) in
    cond (ltb 2 limit) (record { answer = RemoveRefused WrongSize; file = xs; trie = t })
    (cond (legal name) d (record { answer = RemoveRefused IllegalName; file = xs; trie = t }))

unfoldable pub remove_of : List ℕ → Trie → List ℕ → ℕ → RemoveDone
remove_of xs t name limit = remove_made_with is_legal_name looked_of xs t name limit

-- All entries, ascending: the buckets in range order.
unfoldable pub entries_in : List Slot → List ℕ → List Entry
entries_in fs [] = []
entries_in fs (B ∷ Bs) = entries_of (slot_at fs B) ++ entries_in fs Bs

-- R9.8: from the first name to the second, both included.
unfoldable pub between : Str → Str → List Entry → List Entry
between low high [] = []
between low high (e ∷ es) =
    let r = between low high es in
    cond (is_at_most low e.0 && is_at_most e.0 high) (e ∷ r) r

-- R9.8: the entries over the beginning of the output, and their number; or refused by R10.7.
unfoldable pub list_entries : ℕ → List Entry → List ℕ → ListDone
list_entries e es out =
    cond (ltb (length out) (e * length es)) (record { answer = ListRefused ShortOutput; output = out })
    (record { answer = Listed (length es); output = bytes_of_entries e es ++ drop (e * length es) out })

unfoldable pub list_on_looked : Str → Str → List ℕ → Looked → ListDone
list_on_looked low high out (refusing c) = record { answer = ListRefused c; output = out }
list_on_looked low high out (fine y fs) = list_entries (entry_length y) (between low high (entries_in fs (order_of fs))) out

-- List, in the order 1, 2, 3, 4, 7.
abbrev pub list_with : (List ℕ → Bool) → (List ℕ → Trie → Looked) → List ℕ → Trie → List ℕ → List ℕ → List ℕ → ListDone
list_with legal looked xs t low high out =
    let d = list_on_looked (filled low) (filled high) out (looked xs t) in
    cond (legal low && legal high) d (record { answer = ListRefused IllegalName; output = out })

unfoldable pub list_of : List ℕ → Trie → List ℕ → List ℕ → List ℕ → ListDone
list_of xs t low high out = list_with is_legal_name looked_of xs t low high out
