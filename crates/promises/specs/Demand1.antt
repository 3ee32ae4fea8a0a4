-- Demand 1 (R13.1), in words: for each public call the causes that refuse it, in their order, and what a refusal
-- leaves.
use Rattle.std.specs.Prelude.{◌≡◌, ◌⊎◌, false, true, ◌*◌, ◌<◌, ◌≤◌, suc, zero, ℕ, get_or, length, replicate, take}
use Rattle.std.proofs.Math.Option.{some}
use mathlib.Core.List.{List, Memᴰ, [], ◌∷◌}
use Rattle.model.specs.declared.Cause.{Cause}
use Rattle.model.specs.declared.Cause.TheVariants.{BadFile as bad_file, CutFile as cut_file, IllegalName as illegal_name, ManyStrings as many_strings, NoFreeSlot as no_free_slot, OlderRun as older_run, ShortOutput as short_output, StaleTrie, WrongSize as wrong_size}
use Rattle.model.specs.declared.Layout.{Layout}
use Rattle.model.specs.Results.{ListRefused, LookUpRefused, PutRefused, RecoverRefused, RemoveRefused, TrieRefused}
use Rattle.model.specs.declared.Side.{Side}
use Rattle.model.specs.declared.Side.TheVariants.{Cell as further, Slot as slot}
use Rattle.model.specs.declared.Trie.{Trie}
use Rattle.model.specs.Order.{Low, Str, ◌≺◌, ◌⊑◌, at, first_digit, last_digit, none}
use Rattle.model.specs.Names.{Digits, filled, within}
use Rattle.model.specs.Entries.{Entry, Row, content_from, find, run_of_content}
use Rattle.model.specs.Files.{In, Slot, Well, entries_of, head, slot_at, used}
use Rattle.model.specs.Searches.{string_count}
use Rattle.model.specs.Tries.{Agrees, at_cell, cell, root_side}
use Rattle.model.specs.Changes.{Denied, put}
use Rattle.model.specs.Places.{place_of}
use Rattle.model.specs.Format.{BadFile, CutFile, Sizes, SoundFile, bytes_at_slot, entry_length, file_size, header_bytes, kept_run, layout_of, read_slot, slot_size}
use Rattle.model.specs.Answers.{number, stale_trie}
use Rattle.model.specs.Calls.{new_trie}
use Rattle.promises.specs.Calls.{Calls}

-- A line of a table: a cause, with what must be so of the call's inputs for it to hold; or a stale trie, with what must be so for it to
-- carry a digit number (R10.13).
pub data Reason : Type 1 where
  because : Cause → Type 0 → Reason
  off_at : (ℕ → Type 0) → Reason

-- It holds,
abbrev pub Holds : Reason → Type 0
Holds (because c P) = P
Holds (off_at P) = (k : ℕ) × P k

-- and gives this cause.
abbrev pub Gives : Reason → Cause → Type 0
Gives (because c P) d = (c ≡ d) × P
Gives (off_at P) d = (k : ℕ) × (StaleTrie k ≡ d) × P k

-- A call's causes in their stated order.
abbrev pub Table : Type 1
Table = List Reason

-- R10.9: the first cause that holds, in the order given.
abbrev pub FirstHolding : Cause → Table → Type 0
FirstHolding c [] = ⊥
FirstHolding c (r ∷ rs) = Gives r c ⊎ ((¬ Holds r) × FirstHolding c rs)

-- R10.9 and R10.10: the answer is a refusal with the first cause that holds where some cause holds, and no refusal
-- where none does.
abbrev pub Exactly : {A : Type 0} → (Cause → A) → A → Table → Type 0
Exactly Refused a table = (c : Cause) → (a ≡ Refused c → FirstHolding c table) × (FirstHolding c table → a ≡ Refused c)

-- The numbers of a table, in its order.
abbrev pub number_in : Reason → ℕ
number_in (because c P) = number c
number_in (off_at P) = 4

abbrev pub numbers : Table → List ℕ
numbers [] = []
numbers (r ∷ rs) = number_in r ∷ numbers rs

-- R10.1, by R1.2 and R1.3.
pub record LegalName (name : List ℕ) : Type 0 where
  pub least : 1 ≤ length name
  pub most : length name ≤ 24
  pub digits : Digits 0x20 name
  pub first : ¬ (first_digit name ≡ 0x20)
  pub last : ¬ (last_digit name ≡ 0x20)

-- 3, cut file.
abbrev pub IsCut : List ℕ → Type 0
IsCut xs = (N : ℕ) × CutFile xs N

-- 4, trie stale: the file is sound, and the trie does not agree with it.
pub record Stale (xs : List ℕ) (t : Trie) : Type 0 where
  pub file : SoundFile xs
  pub differs : ¬ Agrees file.slots t

-- R10.5 and R10.6.
pub record PutDenied (xs name : List ℕ) (v run why : ℕ) : Type 0 where
  pub file : SoundFile xs
  pub denied : Denied file.layout.b (place_of file.layout) file.slots (put (filled name) (content_from v (kept_run file.layout run))) why

-- R10.14: the bucket whose range holds the name holds the name with a higher run.
pub record HeldHigher (xs name : List ℕ) (run : ℕ) : Type 0 where
  pub file : SoundFile xs
  pub bucket : ℕ
  pub in_range : In (head (slot_at file.slots bucket)) (filled name)
  pub content : ℕ
  pub found : find (filled name) (entries_of (slot_at file.slots bucket)) ≡ some content
  pub higher : kept_run file.layout run < run_of_content content

-- 6 of rebuild: the strings as they are exceed 256.
pub record Many (xs : List ℕ) : Type 0 where
  pub file : SoundFile xs
  pub many : 256 < string_count file.slots

-- R10.7, of the entries that R9.8 would write.
pub record Listing (fs : List Slot) (low high : Str) (es : List Entry) : Type 0 where
  pub ascending : Row none es []
  pub only : (e : Entry) → Memᴰ e es → ((B : ℕ) × Memᴰ e (entries_of (slot_at fs B))) × (low ⊑ e.0) × (e.0 ⊑ high)
  pub every : (e : Entry) (B : ℕ) → Memᴰ e (entries_of (slot_at fs B)) → low ⊑ e.0 → e.0 ⊑ high → Memᴰ e es

pub record Short (xs low high out : List ℕ) : Type 0 where
  pub file : SoundFile xs
  pub listed : List Entry
  pub listing : Listing file.slots (filled low) (filled high) listed
  pub short : length out < entry_length file.layout * length listed

-- R10.8, of create.
pub record Creatable (xs : List ℕ) (y : Layout) (slots : ℕ) : Type 0 where
  pub sizes : Sizes y slots
  pub whole : length xs ≡ file_size y slots

-- Look up's own. R11.2: the length or the header is wrong. The layout is the header's bytes 3 to 5, slots its byte 6.
abbrev pub slots_of : List ℕ → ℕ
slots_of xs = get_or xs 6 0

pub record RightHeader (xs : List ℕ) : Type 0 where
  pub sizes : Sizes (layout_of xs) (slots_of xs)
  pub whole : length xs ≡ file_size (layout_of xs) (slots_of xs)
  pub header : take 16 xs ≡ header_bytes (layout_of xs) (slots_of xs)

-- The digit number of a trie's cell, and its string at a path.
abbrev pub number_of : Trie → ℕ → ℕ
number_of t m = (at_cell t.cells m).number

abbrev pub string_of : Trie → ℕ → Str → Str
string_of t m p = cell (at_cell t.cells m).digit (number_of t m) p

module _ (slots : ℕ) (t : Trie) (n : Str) where
  -- R11.4 to R11.7: the walk stands at a side, with a path; the first number is how many cells it may still meet.
  pub data Strays : ℕ → Str → Side → Type 0 where
    no_cell : {f m : ℕ} {p : Str} → t.count ≤ m → Strays f p (further m)
    more_cells : {m : ℕ} {p : Str} → Strays zero p (further m)
    past_path : {f m : ℕ} {p : Str} → length p < number_of t m → Strays f p (further m)
    past_23 : {f m : ℕ} {p : Str} → 23 < number_of t m → Strays f p (further m)
    no_slot : {f s : ℕ} {p : Str} → slots ≤ s → Strays f p (slot s)
    left_of : {f m : ℕ} {p : Str} → within n (string_of t m p) ≡ true
        → Strays f (string_of t m p) (at_cell t.cells m).left
        → Strays (suc f) p (further m)
    right_of : {f m : ℕ} {p : Str} → within n (string_of t m p) ≡ false
        → Strays f p (at_cell t.cells m).right → Strays (suc f) p (further m)

  -- Otherwise it ends at a slot.
  pub data Arrives : ℕ → Str → Side → ℕ → Type 0 where
    here : {f s : ℕ} {p : Str} → s < slots → Arrives f p (slot s) s
    left_of : {f m k : ℕ} {p : Str} → m < t.count → number_of t m ≤ length p → number_of t m ≤ 23
        → within n (string_of t m p) ≡ true
        → Arrives f (string_of t m p) (at_cell t.cells m).left k
        → Arrives (suc f) p (further m) k
    right_of : {f m k : ℕ} {p : Str} → m < t.count → number_of t m ≤ length p → number_of t m ≤ 23
        → within n (string_of t m p) ≡ false
        → Arrives f p (at_cell t.cells m).right k → Arrives (suc f) p (further m) k

-- R11.3 to R11.7.
abbrev pub Lost : List ℕ → Trie → Str → Type 0
Lost xs t n = (256 < t.count) ⊎ Strays (slots_of xs) t n t.count [] (root_side t.count t.first)

-- The walk ends at a slot of which this is so.
pub record Ends (xs : List ℕ) (t : Trie) (n : Str) (P : List ℕ → Type 0) : Type 0 where
  pub k : ℕ
  pub arrives : Arrives (slots_of xs) t n t.count [] (root_side t.count t.first) k
  pub so : P (bytes_at_slot (layout_of xs) k xs)

-- R11.8, R11.9 and R11.10, of the slot's bytes.
abbrev pub IsZero : Layout → List ℕ → Type 0
IsZero y ys = ys ≡ replicate (slot_size y) 0

abbrev pub IsMalformed : Layout → List ℕ → Type 0
IsMalformed y ys = (s : Slot) → read_slot y ys ≡ some s → ¬ Well y.b s

-- R1.9: a name and a bound agree before this digit number, and there they differ, unless the bound ends.
pub record Differs (n p : Str) (k : ℕ) : Type 0 where
  pub inside : k ≤ length p
  pub before : (i : ℕ) → i < k → get_or n i 0 ≡ get_or p i 0
  pub there : k < length p → ¬ (get_or n k 0 ≡ get_or p k 0)

-- The bound of a range that a name breaks: it is within the lower, or not within the upper; with that digit number.
pub data Breaks (n : Str) : Low → Str → ℕ → Type 0 where
  within_lower : {l u : Str} {k : ℕ} → n ⊑ l → Differs n l k → Breaks n (at l) u k
  above_upper : {l : Low} {u : Str} {k : ℕ} → u ≺ n → Differs n u k → Breaks n l u k

-- A well-formed bucket whose range lacks the name.
pub record Lacks (y : Layout) (n : Str) (k : ℕ) (ys : List ℕ) : Type 0 where
  pub low : Low
  pub high : Str
  pub entries : List Entry
  pub is : read_slot y ys ≡ some (used low high entries)
  pub well : Well y.b (used low high entries)
  pub breaks : Breaks n low high k

-- The tables.
abbrev pub create_table : List ℕ → ℕ → ℕ → ℕ → Table
create_table xs v b slots = because wrong_size (¬ Creatable xs (record { version = v; b = b }) slots) ∷ []

abbrev pub recover_table : List ℕ → ℕ → Table
recover_table xs limit = because wrong_size (2 < limit) ∷ because bad_file (BadFile xs) ∷ []

abbrev pub rebuild_table : List ℕ → Table
rebuild_table xs = because bad_file (BadFile xs) ∷ because cut_file (IsCut xs) ∷ because many_strings (Many xs) ∷ []

abbrev pub look_up_table : List ℕ → Trie → List ℕ → Table
look_up_table xs t name =
    because illegal_name (¬ LegalName name) ∷ because bad_file (¬ RightHeader xs) ∷ because stale_trie (Lost xs t (filled name))
    ∷ because stale_trie (Ends xs t (filled name) (IsZero (layout_of xs))) ∷ because bad_file (Ends xs t (filled name) (IsMalformed (layout_of xs)))
    ∷ off_at (λ k. Ends xs t (filled name) (Lacks (layout_of xs) (filled name) k)) ∷ []

abbrev pub put_table : List ℕ → Trie → List ℕ → ℕ → ℕ → ℕ → Table
put_table xs t name v run limit =
    because wrong_size (2 < limit) ∷ because illegal_name (¬ LegalName name) ∷ because bad_file (BadFile xs) ∷ because cut_file (IsCut xs)
    ∷ because stale_trie (Stale xs t) ∷ because older_run (HeldHigher xs name run) ∷ because no_free_slot (PutDenied xs name v run 5)
    ∷ because many_strings (PutDenied xs name v run 6) ∷ []

abbrev pub remove_table : List ℕ → Trie → List ℕ → ℕ → Table
remove_table xs t name limit =
    because wrong_size (2 < limit) ∷ because illegal_name (¬ LegalName name) ∷ because bad_file (BadFile xs) ∷ because cut_file (IsCut xs)
    ∷ because stale_trie (Stale xs t) ∷ []

abbrev pub list_table : List ℕ → Trie → List ℕ → List ℕ → List ℕ → Table
list_table xs t low high out =
    because illegal_name (¬ (LegalName low × LegalName high)) ∷ because bad_file (BadFile xs) ∷ because cut_file (IsCut xs) ∷ because stale_trie (Stale xs t)
    ∷ because short_output (Short xs low high out) ∷ []

-- Demand 1 of the calls. Check refuses nothing. What a call may only read it cannot change: the file of check, rebuild, look
-- up and list, and the trie of look up and list.
pub record Demand1 (C : Calls) : Type 0 where
  pub create : (xs : List ℕ) (v b slots : ℕ) → Exactly TrieRefused (C.create xs v b slots).answer (create_table xs v b slots)
  pub recover : (xs : List ℕ) (limit : ℕ) → Exactly RecoverRefused (C.recover xs limit).answer (recover_table xs limit)
  pub rebuild : (xs : List ℕ) → Exactly TrieRefused (C.rebuild xs).answer (rebuild_table xs)
  pub look_up : (xs : List ℕ) (t : Trie) (name : List ℕ) → Exactly LookUpRefused (C.look_up xs t name) (look_up_table xs t name)
  pub put : (xs : List ℕ) (t : Trie) (name : List ℕ) (v run limit : ℕ)
      → Exactly PutRefused (C.put xs t name v run limit).answer (put_table xs t name v run limit)
  pub remove : (xs : List ℕ) (t : Trie) (name : List ℕ) (limit : ℕ)
      → Exactly RemoveRefused (C.remove xs t name limit).answer (remove_table xs t name limit)
  pub list : (xs : List ℕ) (t : Trie) (low high out : List ℕ)
      → Exactly ListRefused (C.list xs t low high out).answer (list_table xs t low high out)
  -- R10.11: nothing is changed; R10.12: create and rebuild give the empty trie.
  pub create_leaves : (xs : List ℕ) (v b slots : ℕ) (c : Cause) → (C.create xs v b slots).answer ≡ TrieRefused c
      → ((C.create xs v b slots).file ≡ xs) × ((C.create xs v b slots).trie ≡ new_trie)
  pub recover_leaves : (xs : List ℕ) (limit : ℕ) (c : Cause) → (C.recover xs limit).answer ≡ RecoverRefused c → (C.recover xs limit).file ≡ xs
  pub rebuild_leaves : (xs : List ℕ) (c : Cause) → (C.rebuild xs).answer ≡ TrieRefused c → (C.rebuild xs).trie ≡ new_trie
  pub put_leaves : (xs : List ℕ) (t : Trie) (name : List ℕ) (v run limit : ℕ) (c : Cause) → (C.put xs t name v run limit).answer ≡ PutRefused c
      → ((C.put xs t name v run limit).file ≡ xs) × ((C.put xs t name v run limit).trie ≡ t)
  pub remove_leaves : (xs : List ℕ) (t : Trie) (name : List ℕ) (limit : ℕ) (c : Cause) → (C.remove xs t name limit).answer ≡ RemoveRefused c
      → ((C.remove xs t name limit).file ≡ xs) × ((C.remove xs t name limit).trie ≡ t)
  pub list_leaves : (xs : List ℕ) (t : Trie) (low high out : List ℕ) (c : Cause) → (C.list xs t low high out).answer ≡ ListRefused c
      → (C.list xs t low high out).output ≡ out
  -- R10.9, as far as a call has the causes; look up has its own order.
  pub create_order : (xs : List ℕ) (v b slots : ℕ) → numbers (create_table xs v b slots) ≡ 8 ∷ []
  pub recover_order : (xs : List ℕ) (limit : ℕ) → numbers (recover_table xs limit) ≡ 8 ∷ 2 ∷ []
  pub rebuild_order : (xs : List ℕ) → numbers (rebuild_table xs) ≡ 2 ∷ 3 ∷ 6 ∷ []
  pub look_up_order : (xs : List ℕ) (t : Trie) (name : List ℕ) → numbers (look_up_table xs t name) ≡ 1 ∷ 2 ∷ 4 ∷ 4 ∷ 2 ∷ 4 ∷ []
  pub put_order : (xs : List ℕ) (t : Trie) (name : List ℕ) (v run limit : ℕ) → numbers (put_table xs t name v run limit) ≡ 8 ∷ 1 ∷ 2 ∷ 3 ∷ 4 ∷ 12 ∷ 5 ∷ 6 ∷ []
  pub remove_order : (xs : List ℕ) (t : Trie) (name : List ℕ) (limit : ℕ) → numbers (remove_table xs t name limit) ≡ 8 ∷ 1 ∷ 2 ∷ 3 ∷ 4 ∷ []
  pub list_order : (xs : List ℕ) (t : Trie) (low high out : List ℕ) → numbers (list_table xs t low high out) ≡ 1 ∷ 2 ∷ 3 ∷ 4 ∷ 7 ∷ []
