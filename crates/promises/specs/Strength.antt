-- Wrong versions of the calls, and that the public statements rule them out.
use Rattle.std.specs.Prelude.{◌≡◌, List, [], ◌∷◌, ◌+◌, ◌/◌, ◌<◌, ℕ, length, take}
use Rattle.std.proofs.Math.Option.{some}
use Rattle.model.specs.declared.Cause.TheVariants.{CutFile, StaleTrie}
use Rattle.model.specs.declared.Layout.{Layout}
use Rattle.model.specs.Results.{Added, Freed, LookUpRefused, PutRefused, PutStopped, Removed}
use Rattle.model.specs.declared.Side.TheVariants.{Cell as further, Slot as slot}
use Rattle.model.specs.declared.Trie.{Trie}
use Rattle.model.specs.Order.{at, none}
use Rattle.model.specs.Names.{filled}
use Rattle.model.specs.Entries.{Entry, content_from}
use Rattle.model.specs.Files.{Slot, free, used}
use Rattle.model.specs.Changes.{Store, call, put, removal, split_of, split_string, stores}
use Rattle.model.specs.Places.{place_of}
use Rattle.model.specs.Checks.{is_bad}
use Rattle.model.specs.Format.{check_file, file_bytes, kept_run, read_file, store_bytes}
use Rattle.model.specs.Answers.{stale_trie}
use Rattle.model.specs.Calls.{new_trie, put_of, recover_of, remove_of, stores_bytes}
use Rattle.promises.specs.Texts.{bytes}
use Rattle.promises.specs.Growing.{of_cells}
use Rattle.promises.specs.Situations.{a_cell, entries, i_file, names, rates_slots, rz_slots}
use Rattle.promises.specs.Calls.{Calls, version_1}
use Rattle.promises.specs.Demand1.{Demand1}
use Rattle.promises.specs.Demand2.{Demand2, LeadsRight}
use Rattle.promises.specs.Demand3.{Demand3}
use Rattle.promises.specs.Limits.{Limits}
use Rattle.promises.specs.Merging.{Merging}
use Rattle.promises.specs.WrongCalls.{IsRefused, OneResult, RefusesAll, both_at_once, cuts_first, grown_early, idles, keeps_inner, left_first, make_put, make_remove, miscounts, never_merges, rebuilt_early, removes_nothing, stores_nothing}

-- Files with b = 2 and two slots: new; with one full bucket; after the first store of a put of c, and after both.
abbrev pub full_slot : Slot
full_slot = used none [] (entries (("a", 1) ∷ ("b", 2) ∷ []))

abbrev pub cut_down : Slot
cut_down = used none (bytes "b") (entries (("a", 1) ∷ ("b", 2) ∷ []))

abbrev pub c_slot : Slot
c_slot = used (at (bytes "b")) [] (entries (("c", 3) ∷ []))

abbrev pub full_file : List ℕ
full_file = file_bytes (version_1 2) (full_slot ∷ free ∷ [])

abbrev pub stopped_file : List ℕ
stopped_file = file_bytes (version_1 2) (full_slot ∷ c_slot ∷ [])

abbrev pub split_file : List ℕ
split_file = file_bytes (version_1 2) (cut_down ∷ c_slot ∷ [])

-- R15.5, a wrong number of stores made: a stopped put has made as many stores as it says, the first ones of those that
-- it takes, and each replaces one slot.
pub record StoppedAfter (xs name : List ℕ) (v run made : ℕ) (ys : List ℕ) : Type 0 where
  pub layout : Layout
  pub slots : List Slot
  pub is : read_file xs ≡ some (layout, slots)
  pub needed : List Store
  pub takes : call layout.b (place_of layout) slots (put (filled name) (content_from v (kept_run layout run))) ≡ stores needed
  pub short : made < length needed
  pub left : ys ≡ stores_bytes layout (take made needed) xs

-- R15.7, the split key compared with the next name: b = 4, and the key is ra.
abbrev pub five : List Entry
five = names ("a" ∷ "b" ∷ "ra" ∷ "rate" ∷ "z" ∷ [])

-- R15.8, bounds without their beginnings: one cell for "rate2".
abbrev pub bare_cells : Trie
bare_cells = of_cells (a_cell "2" 4 (slot 0) (slot 1) ∷ [])

-- R15.10, only one leaf redirected: razz reached the leaf right of "rat".
abbrev pub one_turned : Trie
one_turned =
    of_cells (a_cell "r" 0 (further 1) (slot 1) ∷ a_cell "a" 1 (further 2) (slot 1) ∷ a_cell "t" 2 (further 3) (slot 2)
    ∷ a_cell "e" 3 (further 4) (slot 1) ∷ a_cell "2" 4 (slot 0) (slot 1) ∷ [])

-- R7.14, with b = 2: when c is removed, its bucket could merge with either neighbour.
abbrev pub a_slot : Slot
a_slot = used none (bytes "b") (entries (("a", 1) ∷ []))

abbrev pub d_slot : Slot
d_slot = used (at (bytes "c")) [] (entries (("d", 3) ∷ []))

abbrev pub three_slots : List Slot
three_slots = a_slot ∷ used (at (bytes "b")) (bytes "c") (entries (("c", 2) ∷ [])) ∷ d_slot ∷ []

abbrev pub three_file : List ℕ
three_file = file_bytes (version_1 2) three_slots

abbrev pub three_cells : Trie
three_cells = of_cells (a_cell "b" 0 (slot 0) (further 1) ∷ a_cell "c" 0 (slot 1) (slot 2) ∷ [])

-- Merged with the right one, and with the left one.
abbrev pub right_merged : List Slot
right_merged = a_slot ∷ used (at (bytes "b")) [] (entries (("d", 3) ∷ [])) ∷ free ∷ []

abbrev pub left_merged : List Slot
left_merged = used none (bytes "c") (entries (("a", 1) ∷ [])) ∷ free ∷ d_slot ∷ []

pub record Strength : Type 0 where
  -- The wrong versions of section 15 fail the demand that each is about. R15.1: no call refuses everything, whatever
  -- the others do.
  pub refuses_all : (C : Calls) → RefusesAll C → ¬ Demand1 C
  pub refuses_lookups : (C : Calls) → ((xs : List ℕ) (t : Trie) (name : List ℕ) → IsRefused LookUpRefused (C.look_up xs t name)) → ¬ Demand2 C
  -- R15.11, against demand 1: "i" is within the lower bound of this file's bucket and agrees with two digits of it, and with one of the
  -- upper. The other bound's number is wrong, and so is 255.
  pub other_bound : (C : Calls) → C.look_up i_file new_trie (bytes "i") ≡ LookUpRefused (StaleTrie 1) → ¬ Demand1 C
  pub no_number : (C : Calls) → C.look_up i_file new_trie (bytes "i") ≡ LookUpRefused stale_trie → ¬ Demand1 C
  -- R15.2, against demand 2.
  pub one_result : (C : Calls) → OneResult C → ¬ Demand2 C
  -- The wrong puts of section 15 are ours but for the stores that they make: with our stores, such a put is ours.
  pub ours_but_for : (xs : List ℕ) (t : Trie) (name : List ℕ) (v run limit : ℕ)
      → make_put take (λ made. made) (λ ss. ss) xs t name v run limit ≡ put_of xs t name v run limit
  -- R15.3, against demand 3.
  pub not_nothing : ¬ Demand3 stores_nothing
  pub not_absent : ¬ Demand3 removes_nothing
  -- R15.4, against demand 3.
  pub not_both : ¬ Demand3 both_at_once
  -- R15.5, against demand 3.
  pub not_miscounted : ¬ Demand3 miscounts
  pub not_idle : ¬ Demand3 idles
  -- R15.6, against demand 3.
  pub not_cut_first : ¬ Demand3 cuts_first
  -- R15.9, against demand 3.
  pub not_inner : ¬ Demand3 keeps_inner
  -- The wrong removals of R7.14 are ours but for the stores that they take: with our stores, such a removal is ours.
  pub removal_but_for : (xs : List ℕ) (t : Trie) (name : List ℕ) (limit : ℕ) → make_remove removal xs t name limit ≡ remove_of xs t name limit
  -- R7.14, against the rule which stores a removal takes: one that never merges, and one that tries the left neighbour first. The bucket of
  -- c could merge with either neighbour: ours merges it with the right one, the second with the left one, and the first with none.
  pub not_unmerged : ¬ Merging never_merges
  pub not_left_first : ¬ Merging left_first
  pub right_first : read_file (remove_of three_file three_cells (bytes "c") 2).file ≡ some (version_1 2, right_merged)
  pub left_instead : read_file (left_first.remove three_file three_cells (bytes "c") 2).file ≡ some (version_1 2, left_merged)
  pub one_only : (never_merges.remove three_file three_cells (bytes "c") 2).answer ≡ Removed 1
  -- R7.12, against what is said of limits, by the trie that a stopped call leaves (answers and files are ours): the put of c below, and the
  -- removal of c that merges, each stopped after its first store with the trie of the whole call.
  pub not_grown_early : ¬ Limits grown_early
  pub not_rebuilt_early : ¬ Limits rebuilt_early
  -- A put that says stopped made the first of its stores, as many as it says.
  pub stopped_after : (xs : List ℕ) (t : Trie) (name : List ℕ) (v run limit made : ℕ)
      → (put_of xs t name v run limit).answer ≡ PutStopped made → StoppedAfter xs name v run made (put_of xs t name v run limit).file
  -- In numbers: of a put of c that needs two stores, none, one and two were made.
  pub stopped_0 : put_of full_file new_trie (bytes "c") 3 0 0 ≡ record { answer = PutStopped 0; file = full_file; trie = new_trie }
  pub stopped_1 : put_of full_file new_trie (bytes "c") 3 0 1 ≡ record { answer = PutStopped 1; file = stopped_file; trie = new_trie }
  pub made_2 : put_of full_file new_trie (bytes "c") 3 0 2 ≡ record { answer = Added; file = split_file; trie = of_cells (a_cell "b" 0 (slot 0) (slot 1) ∷ []) }
  -- A trie that is kept after a stop: refused 3 while the file is cut, refused 4 once another trie has split the bucket, and as
  -- good as new if no store was made.
  pub kept_cut : (put_of stopped_file new_trie (bytes "d") 4 0 2).answer ≡ PutRefused CutFile
  pub kept_stale : (put_of split_file new_trie (bytes "d") 4 0 2).answer ≡ PutRefused stale_trie
  pub kept_good : (put_of full_file new_trie (bytes "c") 3 0 2).answer ≡ Added
  pub recovers : recover_of stopped_file 1 ≡ record { answer = Freed 1; file = full_file }
  pub inner_bad : check_file (store_bytes (version_1 2) 0 free stopped_file) ≡ is_bad
  pub last_name : split_of 4 (place_of (version_1 4)) five ≡ bytes "r"
  pub neighbour : split_string (4 / 2) (4 / 2 + 1) five ≡ bytes "ra "
  -- A rebuilding that gives the first of these tries, and a put that gives the second, fail demand 2.
  pub without_beginnings : ¬ LeadsRight (file_bytes (version_1 2) rates_slots) bare_cells
  pub one_leaf : ¬ LeadsRight (file_bytes (version_1 2) rz_slots) one_turned
