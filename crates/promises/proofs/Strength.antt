-- The public statements rule the wrong versions out: files with two or three slots are computed, and the rest follows.
use Rattle.model.proofs.Prelude.{Bool, List, Option, [], ◌++◌, ◌+◌, ◌/◌, ◌∙◌, ◌∷◌, ◌≡◌, arith, clash, cond, false, length, ltb, ltb-true, nothing, refl, replicate, some, sym, take, true, ℕ}
use Rattle.model.specs.declared.Side.TheVariants.{Slot as slot}
use Rattle.model.specs.declared.Trie.{Trie}
use Rattle.model.specs.declared.Layout.{Layout}
use Prim.Native.String.{String}
use Rattle.model.specs.declared.Cause.{Cause}
use Rattle.model.specs.declared.Cause.TheVariants.{BadFile, CutFile, IllegalName, StaleTrie, WrongSize}
use Rattle.model.specs.Results.{Added, Found, Freed, Given, ListRefused, Listed, LookUpAnswer, LookUpRefused, NotFound, NotHeld, Nothing, PutRefused, PutStopped, RecoverAnswer, RecoverRefused, RemoveRefused, RemoveStopped, Removed, TrieRefused}
use Rattle.model.specs.Tries.{walk_of, walk_run, walk_trie}
use Rattle.model.proofs.Agreeing.{agrees_is_agreeing, is_agreeing_agrees}
use Rattle.model.proofs.Checks.{is_sound_file_sound}
use Rattle.model.proofs.Created.{created_left}
use Rattle.model.proofs.Names.{is_legal_name_legal}
use Rattle.model.proofs.Format.{are_legal_sizes_sizes}
use Rattle.model.specs.Order.{Str, at}
use Rattle.model.specs.Tests.{are_digits, is_above, is_at_most, is_legal_bound, is_legal_filled, is_legal_low, is_legal_name, same_low, same_str}
use Rattle.model.specs.Names.{filled, not_greater, split_beginning, split_tried, within}
use Rattle.model.specs.Entries.{content_from, find, insert, is_older, keep, run_of_content, value_of_content, without}
use Rattle.model.specs.Files.{Slot, created, entries_of, free, slot_at, used}
use Rattle.model.specs.Changes.{Map, Result, Store, call, left_of, merged_or, put, put_in, refuse, removal, remove_in, right_of, split_of, split_string, stores, stores_if, trie_removed}
use Rattle.model.specs.Checks.{all_well, are_same_entries, check, cut_among, has_one_more, has_twin, is_bad, is_chain, is_copied, is_cut_by, is_in, is_listed, is_row, is_sound_file, is_twin, is_well_formed}
use Rattle.model.specs.Agreeing.{are_numbers, are_zero_cells, is_agreeing, is_each_once, is_trie_of, join_trees, read_tree, same_side, same_strs, slots_between}
use Rattle.model.specs.Format.{are_legal_sizes, bytes_at_slot, bytes_of_entries, bytes_of_entry, bytes_of_slot, check_file, check_read, digits_of_low, entry_length, file_bytes, file_size, header_bytes, header_of, is_offered, is_right_header, joined, kept_run, laid_out, layout_of, little_endian, low_of, padded, read_by, read_entries, read_file, read_slot, read_slots, read_used_slot, slot_size, slots_bytes, store_bytes, used_of, value_of}
use Rattle.model.specs.Places.{place_of}
use Rattle.model.specs.Answers.{stale_trie}
use Rattle.model.specs.Calls.{Looked, PutDone, arrived_answer, between, create_of, entries_in, fine, headed_answer, held, held_answer, list_entries, list_of, list_on_looked, look_up_of, looked_at_by, looked_of, new_trie, put_answer, put_by_stores, put_of, put_on_looked, put_takes, rebuild_by, rebuild_of, recover_by, recover_of, refusal_of, refusing, remove_by_stores, remove_of, remove_on_looked, slot_answer, stores_bytes, trie_after_put}
use Rattle.model.proofs.Tests.{never_both}
use Rattle.model.proofs.Calls.{Answered, is_denied, is_made, put_right, put_taken}
use Rattle.model.specs.Searches.{first, has_lower, has_upper, is_free, is_in_range, order_from, order_of, string_count}
use Rattle.promises.specs.Texts.{bytes, name}
use Rattle.promises.specs.Growing.{of_cells}
use Rattle.promises.specs.Situations.{a_cell, entries, i_file, names, rates_slots, rz_slots}
use Rattle.promises.specs.Calls.{Calls, our_calls, version_1}
use Rattle.promises.specs.Demand1.{Demand1, LegalName}
use Rattle.promises.specs.Demand2.{Demand2, LeadsRight, Made, Truthful, true_entry, truly_absent}
use Rattle.promises.specs.Demand3.{Demand3, Event, Kept, Recovers, State, after, after_freeing, after_put, after_rebuild, after_recover, after_remove, differing, file_of, nothing_to_do, now, put as put_event, put_by, remove as remove_event, remove_by, replaced, said, start, step, stopped_at_0}
use Rattle.promises.specs.Limits.{Limits}
use Rattle.promises.specs.Merging.{Merging, Takes}
use Rattle.promises.specs.WrongCalls.{IsRefused, OneResult, RefusesAll, absent_instead, both, both_at_once, by_create, by_list, by_look_up, by_put, by_rebuild, by_recover, by_remove, cuts_first, early, exchanged, free_outer, grown_early, idles, inner_kept, keeps_inner, left_first, left_then_right, make, make_looked, make_put, make_remove, miscounts, never_merges, rebuilt_early, removes_nothing, stores_nothing, take_from, take_looked, unmerged}
use Rattle.promises.specs.Strength.{StoppedAfter, Strength, bare_cells, five, full_file, left_merged, one_turned, right_merged, split_file, stopped_file, three_cells, three_file, three_slots}
use Rattle.promises.proofs.Situations.{situations}
use Rattle.promises.proofs.Demand1.{demand_1, legal_name, same_slots}
use Rattle.promises.proofs.Demand2.{demand_2}
use Rattle.promises.proofs.Leading.{Passed, leads, looked_passed}
use Rattle.promises.proofs.Merging.{merging, one_reading}

-- What happens in the histories that the wrong calls are put to, in a file with b = 2 and two slots. Any two of the three names fill the
-- first bucket, so the third is a split; its put may be stopped after its first store.
abbrev buffer : List ℕ
buffer = replicate 272 0

abbrev put_a : Event
put_a = put_event (bytes "a") 1 (omega arith) 0 (omega arith) 2

abbrev put_b : Event
put_b = put_event (bytes "b") 2 (omega arith) 0 (omega arith) 2

abbrev put_c : Event
put_c = put_event (bytes "c") 3 (omega arith) 0 (omega arith) 2

abbrev remove_a : Event
remove_a = remove_event (bytes "a") 2

abbrev put_b_stopped : Event
put_b_stopped = put_event (bytes "b") 2 (omega arith) 0 (omega arith) 1

abbrev put_c_stopped : Event
put_c_stopped = put_event (bytes "c") 3 (omega arith) 0 (omega arith) 1

abbrev new_file : List ℕ
new_file = file_bytes (version_1 2) (created 2)

-- The wrong versions' states: what the new file is, and what is left after a, after a and b, and after a put that is stopped.
abbrev new_state : State
new_state = start (create_of buffer 1 2 2)

abbrev one_put : Calls → State
one_put C = after C (put_a ∷ []) new_state

abbrev put_and_removed : Calls → State
put_and_removed C = after C (put_a ∷ remove_a ∷ []) new_state

abbrev two_puts : Calls → State
two_puts C = after C (put_a ∷ put_b ∷ []) new_state

abbrev stopped_put : Calls → State
stopped_put C = after C (put_a ∷ put_b ∷ put_c_stopped ∷ []) new_state

abbrev stopped_inside : Calls → State
stopped_inside C = after C (put_a ∷ put_c ∷ put_b_stopped ∷ []) new_state

-- What a lookup gives after rebuilding.
abbrev rebuilt_look_up : Calls → State → String → LookUpAnswer
rebuilt_look_up C s w = C.look_up (file_of s) (C.rebuild (file_of s)).trie (bytes w)

-- What computes.
record Computed : Type 0 where
  create_given : (create_of buffer 1 2 2).answer ≡ Given
  recover_nothing : (recover_of new_file 2).answer ≡ Nothing
  rebuild_given : (rebuild_of new_file).answer ≡ Given
  look_up_absent : look_up_of new_file new_trie (bytes "a") ≡ NotFound
  put_added : (put_of new_file new_trie (bytes "a") 1 0 2).answer ≡ Added
  remove_absent : (remove_of new_file new_trie (bytes "a") 2).answer ≡ NotHeld
  list_none : (list_of new_file new_trie (bytes "a") (bytes "b") []).answer ≡ Listed 0
  created_file : (create_of buffer 1 2 2).file ≡ new_file
  created_trie : (create_of buffer 1 2 2).trie ≡ new_trie
  new_sizes : are_legal_sizes (version_1 2) 2 ≡ true
  a_legal : is_legal_name (bytes "a") ≡ true
  c_legal : is_legal_name (bytes "c") ≡ true
  put_found : look_up_of (put_of new_file new_trie (bytes "a") 1 0 2).file (put_of new_file new_trie (bytes "a") 1 0 2).trie (bytes "a") ≡ Found 1 0
  nothing_recovered : (stores_nothing.recover (file_of (one_put stores_nothing)) 1).answer ≡ Nothing
  nothing_found : rebuilt_look_up stores_nothing (one_put stores_nothing) "a" ≡ NotFound
  nothing_said : held_answer (said (one_put stores_nothing) (name "a")) ≡ Found 1 0
  absent_recovered : (removes_nothing.recover (file_of (put_and_removed removes_nothing)) 1).answer ≡ Nothing
  absent_found : rebuilt_look_up removes_nothing (put_and_removed removes_nothing) "a" ≡ Found 1 0
  absent_said : held_answer (said (put_and_removed removes_nothing) (name "a")) ≡ NotFound
  both_recovered : (both_at_once.recover (file_of (stopped_put both_at_once)) 1).answer ≡ Nothing
  both_found : rebuilt_look_up both_at_once (stopped_put both_at_once) "c" ≡ Found 3 0
  both_said : held_answer (said (stopped_put both_at_once) (name "c")) ≡ NotFound
  miscounted : (miscounts.put (file_of (two_puts miscounts)) new_trie (bytes "c") 3 0 1).answer ≡ PutStopped 2
  idled : (idles.put (file_of (two_puts idles)) new_trie (bytes "c") 3 0 1).answer ≡ PutStopped 1
  idle_file : replaced (file_of (two_puts idles)) (idles.put (file_of (two_puts idles)) new_trie (bytes "c") 3 0 1).file ≡ 0
  cut_first_bad : (cuts_first.recover (file_of (stopped_inside cuts_first)) 1).answer ≡ RecoverRefused BadFile
  inner_freed : (keeps_inner.recover (file_of (stopped_put keeps_inner)) 1).answer ≡ Freed 0
  inner_refused : (keeps_inner.rebuild (keeps_inner.recover (file_of (stopped_put keeps_inner)) 1).file).answer ≡ TrieRefused BadFile
  stopped_0 : put_of full_file new_trie (bytes "c") 3 0 0 ≡ record { answer = PutStopped 0; file = full_file; trie = new_trie }
  stopped_1 : put_of full_file new_trie (bytes "c") 3 0 1 ≡ record { answer = PutStopped 1; file = stopped_file; trie = new_trie }
  made_2 : put_of full_file new_trie (bytes "c") 3 0 2 ≡ record { answer = Added; file = split_file; trie = of_cells (a_cell "b" 0 (slot 0) (slot 1) ∷ []) }
  kept_cut : (put_of stopped_file new_trie (bytes "d") 4 0 2).answer ≡ PutRefused CutFile
  kept_stale : (put_of split_file new_trie (bytes "d") 4 0 2).answer ≡ PutRefused stale_trie
  kept_good : (put_of full_file new_trie (bytes "c") 3 0 2).answer ≡ Added
  recovers : recover_of stopped_file 1 ≡ record { answer = Freed 1; file = full_file }
  three_read : read_file three_file ≡ some (version_1 2, three_slots)
  three_sound : is_sound_file 2 three_slots ≡ true
  three_agree : is_agreeing three_slots three_cells ≡ true
  three_order : order_of three_slots ≡ 0 ∷ 1 ∷ 2 ∷ []
  c_held : find (name "c") (entries (("c", 2) ∷ [])) ≡ some 2
  c_few : length (entries (("c", 2) ∷ [])) + length (entries (("d", 3) ∷ [])) ≡ 2
  right_first : read_file (remove_of three_file three_cells (bytes "c") 2).file ≡ some (version_1 2, right_merged)
  left_instead : read_file (left_first.remove three_file three_cells (bytes "c") 2).file ≡ some (version_1 2, left_merged)
  one_only : (never_merges.remove three_file three_cells (bytes "c") 2).answer ≡ Removed 1
  grown_stopped : (grown_early.put full_file new_trie (bytes "c") 3 0 1).answer ≡ PutStopped 1
  grown_count : (grown_early.put full_file new_trie (bytes "c") 3 0 1).trie.count ≡ 1
  rebuilt_stopped : (rebuilt_early.remove three_file three_cells (bytes "c") 1).answer ≡ RemoveStopped 1
  rebuilt_count : (rebuilt_early.remove three_file three_cells (bytes "c") 1).trie.count ≡ 1
  inner_bad : check_file (store_bytes (version_1 2) 0 free stopped_file) ≡ is_bad
  last_name : split_of 4 (place_of (version_1 4)) five ≡ bytes "r"
  neighbour : split_string (4 / 2) (4 / 2 + 1) five ≡ bytes "ra "
  rates_read : read_file (file_bytes (version_1 2) rates_slots) ≡ some (version_1 2, rates_slots)
  rz_read : read_file (file_bytes (version_1 2) rz_slots) ≡ some (version_1 2, rz_slots)
  without_beginnings : is_agreeing rates_slots bare_cells ≡ false
  one_leaf : is_agreeing rz_slots one_turned ≡ false

computed : Computed
unfolding
    bytes entries names
    are_digits is_legal_name filled is_legal_filled is_legal_bound not_greater within is_at_most split_tried
    split_beginning
    find insert keep
    first has_lower order_from string_count
    is_in_range is_free has_upper left_of right_of merged_or removal trie_removed stores_if put_in remove_in call
    is_above is_legal_low same_str same_low is_row is_well_formed all_well is_chain is_in is_listed is_sound_file are_same_entries has_one_more
    is_copied is_twin has_twin is_cut_by cut_among check
    join_trees read_tree same_side are_zero_cells is_each_once are_numbers same_strs slots_between is_trie_of is_agreeing
    is_offered entry_length kept_run content_from value_of_content run_of_content is_older put_takes slot_size file_size are_legal_sizes header_bytes padded little_endian value_of bytes_of_entry bytes_of_entries digits_of_low
    low_of bytes_of_slot slots_bytes file_bytes read_entries used_of read_used_slot read_slot bytes_at_slot joined read_slots is_right_header layout_of header_of
    laid_out read_by read_file check_read check_file store_bytes
    create_of recover_by recover_of rebuild_by rebuild_of walk_run walk_of slot_answer arrived_answer headed_answer look_up_of looked_at_by
    looked_of stores_bytes place_of trie_after_put refusal_of put_by_stores put_on_looked put_of remove_by_stores remove_on_looked remove_of entries_in between
    list_entries list_on_looked list_of
    now after_put after_remove after_recover after_rebuild put_by remove_by step after differing
    make make_looked make_put absent_instead both exchanged free_outer inner_kept take_from take_looked make_remove unmerged left_then_right early
computed = record {
  create_given = refl;
  recover_nothing = refl;
  rebuild_given = refl;
  look_up_absent = refl;
  put_added = refl;
  remove_absent = refl;
  list_none = refl;
  created_file = refl;
  created_trie = refl;
  new_sizes = refl;
  a_legal = refl;
  c_legal = refl;
  put_found = refl;
  nothing_recovered = refl;
  nothing_found = refl;
  nothing_said = refl;
  absent_recovered = refl;
  absent_found = refl;
  absent_said = refl;
  both_recovered = refl;
  both_found = refl;
  both_said = refl;
  miscounted = refl;
  idled = refl;
  idle_file = refl;
  cut_first_bad = refl;
  inner_freed = refl;
  inner_refused = refl;
  stopped_0 = refl;
  stopped_1 = refl;
  made_2 = refl;
  kept_cut = refl;
  kept_stale = refl;
  kept_good = refl;
  recovers = refl;
  three_read = refl;
  three_sound = refl;
  three_agree = refl;
  three_order = refl;
  c_held = refl;
  c_few = refl;
  right_first = refl;
  left_instead = refl;
  one_only = refl;
  grown_stopped = refl;
  grown_count = refl;
  rebuilt_stopped = refl;
  rebuilt_count = refl;
  inner_bad = refl;
  last_name = refl;
  neighbour = refl;
  rates_read = refl;
  rz_read = refl;
  without_beginnings = refl;
  one_leaf = refl;
}

-- Another digit number than ours: demand 1 lets a lookup carry one only.
one_carried : (C : Calls) (k : ℕ) → C.look_up i_file new_trie (bytes "i") ≡ LookUpRefused (StaleTrie k) → ¬ (k ≡ 2) → ¬ Demand1 C
one_carried C k e n D =
    let n_i = bytes "i" in
    let q : LookUpRefused (StaleTrie 2) ≡ LookUpRefused (StaleTrie k) = sym situations.left_ranges.i_left ∙ (demand_1.look_up i_file new_trie n_i (StaleTrie k)).1 ((D.look_up i_file new_trie n_i (StaleTrie k)).0 e) in
    n cc

-- Refusing everything: where ours does not refuse, demand 1 lets nobody refuse.
not_all : (C : Calls) → RefusesAll C → ¬ Demand1 C
not_all C (by_create f) D =
    let r = f buffer 1 2 2 in
    let q : Given ≡ TrieRefused r.0 = sym computed.create_given ∙ (demand_1.create buffer 1 2 2 r.0).1 ((D.create buffer 1 2 2 r.0).0 r.1) in
    clash cc
not_all C (by_recover f) D =
    let r = f new_file 2 in
    let q : Nothing ≡ RecoverRefused r.0 = sym computed.recover_nothing ∙ (demand_1.recover new_file 2 r.0).1 ((D.recover new_file 2 r.0).0 r.1) in
    clash cc
not_all C (by_rebuild f) D =
    let r = f new_file in
    let q : Given ≡ TrieRefused r.0 = sym computed.rebuild_given ∙ (demand_1.rebuild new_file r.0).1 ((D.rebuild new_file r.0).0 r.1) in
    clash cc
not_all C (by_look_up f) D =
    let n = bytes "a" in
    let r = f new_file new_trie n in
    let q : NotFound ≡ LookUpRefused r.0 = sym computed.look_up_absent ∙ (demand_1.look_up new_file new_trie n r.0).1 ((D.look_up new_file new_trie n r.0).0 r.1) in
    clash cc
not_all C (by_put f) D =
    let n = bytes "a" in
    let r = f new_file new_trie n 1 0 2 in
    let q : Added ≡ PutRefused r.0 = sym computed.put_added ∙ (demand_1.put new_file new_trie n 1 0 2 r.0).1 ((D.put new_file new_trie n 1 0 2 r.0).0 r.1) in
    clash cc
not_all C (by_remove f) D =
    let n = bytes "a" in
    let r = f new_file new_trie n 2 in
    let q : NotHeld ≡ RemoveRefused r.0 = sym computed.remove_absent ∙ (demand_1.remove new_file new_trie n 2 r.0).1 ((D.remove new_file new_trie n 2 r.0).0 r.1) in
    clash cc
not_all C (by_list f) D =
    let m = bytes "a" in
    let n = bytes "b" in
    let r = f new_file new_trie m n [] in
    let q : Listed 0 ≡ ListRefused r.0 = sym computed.list_none ∙ (demand_1.list new_file new_trie m n [] r.0).1 ((D.list new_file new_trie m n [] r.0).0 r.1) in
    clash cc

-- What demand 2 leaves of a lookup with a trie that leads right is one answer: ours.
true_one : {xs : List ℕ} {t : Trie} (L : LeadsRight xs t) (n : Str) {x y : LookUpAnswer} → Truthful L.file.slots n x → Truthful L.file.slots n y → x ≡ y
true_one {t = t} L n {x} {y} p q = go (held p) (held q)
  where
    held : {x : LookUpAnswer} → Truthful L.file.slots n x → x ≡ held_answer (find n (entries_of (slot_at L.file.slots (walk_trie t n))))
    held (true_entry B i e) = rw (← L.alone n B i, e)
    held (truly_absent B i e) = rw (← L.alone n B i, e)

    go : x ≡ held_answer (find n (entries_of (slot_at L.file.slots (walk_trie t n)))) → y ≡ held_answer (find n (entries_of (slot_at L.file.slots (walk_trie t n)))) → x ≡ y
    go e f = e ∙ sym f

new_leads : LeadsRight new_file new_trie
new_leads = rw (computed.created_file, computed.created_trie) at (demand_2.created buffer 1 2 2 computed.create_given)

abbrev a_put : PutDone
a_put = put_of new_file new_trie (bytes "a") 1 0 2

put_leads : LeadsRight a_put.file a_put.trie
put_leads =
    let made : Made a_put.answer = rw computed.put_added tt in
    demand_2.grown new_file new_trie (bytes "a") 1 0 2 (created_left (version_1 2) 2 (are_legal_sizes_sizes (version_1 2) 2 computed.new_sizes)).bytes (omega arith) (omega arith) made

module _ (C : Calls) (D : Demand2 C) where
  as_ours : {xs : List ℕ} {t : Trie} → LeadsRight xs t → (name : List ℕ) → LegalName name → C.look_up xs t name ≡ look_up_of xs t name
  as_ours {xs} {t} L name g = true_one L (filled name) (D.led xs t name L g) (demand_2.led xs t name L g)

  absent_first : C.look_up new_file new_trie (bytes "a") ≡ NotFound
  absent_first = as_ours new_leads (bytes "a") (legal_name (bytes "a") computed.a_legal) ∙ computed.look_up_absent

  found_then : C.look_up a_put.file a_put.trie (bytes "a") ≡ Found 1 0
  found_then = as_ours put_leads (bytes "a") (legal_name (bytes "a") computed.a_legal) ∙ computed.put_found

not_one : (C : Calls) → OneResult C → ¬ Demand2 C
not_one C f D =
    let q : NotFound ≡ Found 1 0 = sym (absent_first C D) ∙ f new_file a_put.file new_trie a_put.trie (bytes "a") (bytes "a") ∙ found_then C D in
    clash cc

not_lookups : (C : Calls) → ((xs : List ℕ) (t : Trie) (name : List ℕ) → IsRefused LookUpRefused (C.look_up xs t name)) → ¬ Demand2 C
not_lookups C f D =
    let r = f new_file new_trie (bytes "a") in
    let q : NotFound ≡ LookUpRefused r.0 = sym (absent_first C D) ∙ r.1 in
    clash cc

-- A trie that does not agree with the file's slots does not lead right.
misleads : {xs : List ℕ} {t : Trie} {y : Layout} {fs : List Slot} → LeadsRight xs t → read_file xs ≡ some (y, fs) → is_agreeing fs t ≡ false → ⊥
misleads {xs} {t} {y} {fs} L e n =
    never_both (is_agreeing fs t) (rw (same_slots e L.file) at (agrees_is_agreeing L.file.layout.b L.file.sound L.agrees)) n

-- What demand 3 says of a recovery, by what the recovery says.
module _ (C : Calls) {xs ys : List ℕ} {m : Map} {limit : ℕ} {x : RecoverAnswer} (R : Recovers C xs m limit x ys) where
  nothing_kept : x ≡ Nothing → Kept C xs (C.rebuild xs).trie m
  nothing_kept e = go R e
    where
      go : {x : RecoverAnswer} {ys : List ℕ} → Recovers C xs m limit x ys → x ≡ Nothing → Kept C xs (C.rebuild xs).trie m
      go (after_freeing g K) e = clash cc
      go (nothing_to_do g K) e = K
      go (stopped_at_0 z) e = clash cc

  freed_given : {N : ℕ} → x ≡ Freed N → (C.rebuild ys).answer ≡ Given
  freed_given {N} e = go R e
    where
      go : {x : RecoverAnswer} {ys : List ℕ} → Recovers C xs m limit x ys → x ≡ Freed N → (C.rebuild ys).answer ≡ Given
      go (after_freeing g K) e = g
      go (nothing_to_do g K) e = clash cc
      go (stopped_at_0 z) e = clash cc

  never_refused : {c : Cause} → x ≡ RecoverRefused c → ⊥
  never_refused {c} e = go R e
    where
      go : {x : RecoverAnswer} {ys : List ℕ} → Recovers C xs m limit x ys → x ≡ RecoverRefused c → ⊥
      go (after_freeing g K) e = clash cc
      go (nothing_to_do g K) e = clash cc
      go (stopped_at_0 z) e = clash cc

-- A wrong put with our stores is ours.
ours_but_for : (xs : List ℕ) (t : Trie) (name : List ℕ) (v run limit : ℕ) → make_put take (λ made. made) (λ ss. ss) xs t name v run limit ≡ put_of xs t name v run limit
unfolding make make_looked make_put put_by_stores put_on_looked put_of
ours_but_for xs t name v run limit = rw (looked (looked_of xs t))
  where
    made : (y : Layout) (fs : List Slot) (c : ℕ) (r : Result)
        → make take (λ made. made) (λ ss. ss) xs t y fs (filled name) c limit r ≡ put_by_stores xs t y fs (filled name) c limit r
    made y fs c (refuse r) = refl
    made y fs c (stores ss) = refl

    looked : (l : Looked) → make_looked take (λ made. made) (λ ss. ss) xs t (filled name) v run limit l ≡ put_on_looked xs t (filled name) v run limit l
    looked (refusing c) = refl
    looked (fine y fs) = let c = content_from v (kept_run y run) in made y fs c (put_takes y fs (filled name) c (kept_run y run))

not_nothing : ¬ Demand3 stores_nothing
not_nothing D =
    let H = D.always buffer 1 2 2 computed.create_given (put_a ∷ []) in
    let K = nothing_kept stores_nothing (H.recovery 1 (omega arith)) computed.nothing_recovered in
    let q : NotFound ≡ Found 1 0 = sym computed.nothing_found ∙ K.looks_up (bytes "a") (legal_name (bytes "a") computed.a_legal) ∙ computed.nothing_said in
    clash cc

not_absent : ¬ Demand3 removes_nothing
not_absent D =
    let H = D.always buffer 1 2 2 computed.create_given (put_a ∷ remove_a ∷ []) in
    let K = nothing_kept removes_nothing (H.recovery 1 (omega arith)) computed.absent_recovered in
    let q : Found 1 0 ≡ NotFound = sym computed.absent_found ∙ K.looks_up (bytes "a") (legal_name (bytes "a") computed.a_legal) ∙ computed.absent_said in
    clash cc

not_both : ¬ Demand3 both_at_once
not_both D =
    let H = D.always buffer 1 2 2 computed.create_given (put_a ∷ put_b ∷ put_c_stopped ∷ []) in
    let K = nothing_kept both_at_once (H.recovery 1 (omega arith)) computed.both_recovered in
    let q : Found 3 0 ≡ NotFound = sym computed.both_found ∙ K.looks_up (bytes "c") (legal_name (bytes "c") computed.c_legal) ∙ computed.both_said in
    clash cc

not_miscounted : ¬ Demand3 miscounts
not_miscounted D =
    let H = D.always buffer 1 2 2 computed.create_given (put_a ∷ put_b ∷ []) in
    let S = H.put_stopped new_trie (bytes "c") 3 0 1 2 computed.miscounted in
    absurd (omega (arith, S.as_limited))

not_idle : ¬ Demand3 idles
not_idle D =
    let H = D.always buffer 1 2 2 computed.create_given (put_a ∷ put_b ∷ []) in
    let S = H.put_stopped new_trie (bytes "c") 3 0 1 1 computed.idled in
    let q : ◌≡◌ {A = ℕ} 0 1 = sym computed.idle_file ∙ S.as_made in
    clash q

not_cut_first : ¬ Demand3 cuts_first
not_cut_first D =
    let H = D.always buffer 1 2 2 computed.create_given (put_a ∷ put_c ∷ put_b_stopped ∷ []) in
    never_refused cuts_first (H.recovery 1 (omega arith)) computed.cut_first_bad

not_inner : ¬ Demand3 keeps_inner
not_inner D =
    let H = D.always buffer 1 2 2 computed.create_given (put_a ∷ put_b ∷ put_c_stopped ∷ []) in
    let q : TrieRefused BadFile ≡ Given = sym computed.inner_refused ∙ freed_given keeps_inner (H.recovery 1 (omega arith)) computed.inner_freed in
    clash cc

-- A wrong removal with our stores is ours.
removal_but_for : (xs : List ℕ) (t : Trie) (name : List ℕ) (limit : ℕ) → make_remove removal xs t name limit ≡ remove_of xs t name limit
unfolding take_from take_looked make_remove remove_of remove_on_looked call remove_in
removal_but_for xs t name limit = rw (looked (looked_of xs t))
  where
    taken : (y : Layout) (fs : List Slot) (A : ℕ) (x : Slot) → take_from removal y fs (filled name) A x ≡ remove_in y.b (place_of y) fs (filled name) A x
    taken y fs A free = refl
    taken y fs A (used l u es) = refl

    looked : (l : Looked) → take_looked removal xs t (filled name) limit l ≡ remove_on_looked xs t (filled name) limit l
    looked (refusing c) = refl
    looked (fine y fs) = let A = first (is_in_range (filled name)) fs in rw (taken y fs A (slot_at fs A))

-- What the rule says of the removal of c, whose bucket could merge with either neighbour.
three_leads : LeadsRight three_file three_cells
three_leads = let S = is_sound_file_sound 2 three_slots computed.three_sound in
    leads three_file three_cells (record { layout = version_1 2; slots = three_slots; is = computed.three_read; sound = S }) (is_agreeing_agrees 2 S three_cells computed.three_agree)

abbrev c_stores : List Store
c_stores = (1, used (at (bytes "b")) [] (without (name "c") (entries (("c", 2) ∷ []) ++ entries (("d", 3) ∷ [])))) ∷ (2, free) ∷ []

c_takes : (C : Calls) → Merging C → Takes C three_file three_cells (bytes "c") (version_1 2) c_stores
unfolding leads three_leads
c_takes C D =
    let c_legal = legal_name (bytes "c") computed.c_legal in
    (D.rule three_file three_cells (bytes "c") three_leads c_legal 1 (at (bytes "b")) (bytes "c") (entries (("c", 2) ∷ [])) 2 refl computed.c_held
    ).right (0 ∷ []) 2 [] computed.three_order refl (omega (arith, computed.c_few))

not_unmerged : ¬ Merging never_merges
not_unmerged D = let q : Removed 1 ≡ Removed 2 = sym computed.one_only ∙ (c_takes never_merges D).made 2 (omega arith) (omega arith) in clash cc

not_left_first : ¬ Merging left_first
not_left_first D =
    let ours = (remove_of three_file three_cells (bytes "c") 2).file in
    let e : (left_first.remove three_file three_cells (bytes "c") 2).file ≡ ours = (c_takes left_first D).file 2 (omega arith) ∙ sym ((c_takes our_calls merging).file 2 (omega arith)) in
    let q : left_merged ≡ right_merged = one_reading ours (rw e at computed.left_instead) computed.right_first in
    clash cc

-- The whole call's trie has one cell, after the split and after the merge; the one that was given has none, and two.
not_grown_early : ¬ Limits grown_early
not_grown_early D =
    let q : ◌≡◌ {A = ℕ} 0 1 = rw (D.put_stays full_file new_trie (bytes "c") 3 0 1 1 computed.grown_stopped) at computed.grown_count in
    clash q

not_rebuilt_early : ¬ Limits rebuilt_early
not_rebuilt_early D =
    let q : ◌≡◌ {A = ℕ} 2 1 = rw (D.remove_stays three_file three_cells (bytes "c") 1 1 computed.rebuilt_stopped) at computed.rebuilt_count in
    absurd (omega (arith, q))

-- A put that says stopped made the first of its stores, as many as it says.
module _ (xs : List ℕ) (t : Trie) (name : List ℕ) (v run limit made : ℕ) where
  abbrev n : Str
  n = filled name

  -- What the put asks to be stored.
  abbrev content : Layout → ℕ
  content y = content_from v (kept_run y run)

  abbrev After : PutDone → Type 0
  After d = d.answer ≡ PutStopped made → StoppedAfter xs name v run made d.file

  after_made : (y : Layout) (fs : List Slot) → Passed xs t y fs → {r : Result} → call y.b (place_of y) fs (put n (content y)) ≡ r → Answered y.b (place_of y) fs (put n (content y)) r → After (put_by_stores xs t y fs n (content y) limit r)
  unfolding put_by_stores
  after_made y fs p k (is_denied d) e = clash cc
  after_made y fs p k (is_made {ss = ss} c) e = go (ltb limit (length ss)) refl (held fs n) e
    where
      go : (s : Bool) → ltb limit (length ss) ≡ s → (o : Option ℕ)
          → After (cond s (record { answer = PutStopped limit; file = stores_bytes y (take limit ss) xs; trie = t }) (record { answer = put_answer o; file = stores_bytes y ss xs; trie = trie_after_put y.b (place_of y) fs n (content y) ss t }))
      go true h o e =
          let q : limit ≡ made = cc in
          record { layout = y; slots = fs; is = p.is; needed = ss; takes = k; short = rw q at (ltb-true limit (length ss) h); left = rw q }
      go false h nothing e = clash cc
      go false h (some old) e = clash cc

  after_looked : (l : Looked) → looked_of xs t ≡ l → is_legal_name name ≡ true → After (put_on_looked xs t n v run limit l)
  unfolding put_on_looked put_by_stores
  after_looked (refusing c) e g q = clash cc
  after_looked (fine y fs) e g q = let p = looked_passed xs t y fs e in put_taken (λ (r : Result). After (put_by_stores xs t y fs n (content y) limit r)) y fs n (content y) (kept_run y run) (λ e q. clash cc) (λ e. after_made y fs p refl (put_right y.b (place_of y) fs p.sound n (content y) (is_legal_name_legal name g))) q

  first_stores : After (put_of xs t name v run limit)
  unfolding put_of
  first_stores = go (ltb 2 limit) (is_legal_name name) refl
    where
      go : (l g : Bool) → is_legal_name name ≡ g
          → After (cond l (record { answer = PutRefused WrongSize; file = xs; trie = t }) (cond g (put_on_looked xs t n v run limit (looked_of xs t)) (record { answer = PutRefused IllegalName; file = xs; trie = t })))
      go true g e q = clash cc
      go false false e q = clash cc
      go false true e q = after_looked (looked_of xs t) refl e q

pub strength : Strength
strength = record {
  refuses_all = not_all;
  other_bound = λ C e. one_carried C 1 e (λ z. omega arith);
  no_number = λ C e. one_carried C 255 e (λ z. omega arith);
  refuses_lookups = not_lookups;
  one_result = not_one;
  ours_but_for = ours_but_for;
  not_nothing = not_nothing;
  not_absent = not_absent;
  not_both = not_both;
  not_miscounted = not_miscounted;
  not_idle = not_idle;
  not_cut_first = not_cut_first;
  not_inner = not_inner;
  removal_but_for = removal_but_for;
  not_unmerged = not_unmerged;
  not_left_first = not_left_first;
  right_first = computed.right_first;
  left_instead = computed.left_instead;
  one_only = computed.one_only;
  not_grown_early = not_grown_early;
  not_rebuilt_early = not_rebuilt_early;
  stopped_after = first_stores;
  stopped_0 = computed.stopped_0;
  stopped_1 = computed.stopped_1;
  made_2 = computed.made_2;
  kept_cut = computed.kept_cut;
  kept_stale = computed.kept_stale;
  kept_good = computed.kept_good;
  recovers = computed.recovers;
  inner_bad = computed.inner_bad;
  last_name = computed.last_name;
  neighbour = computed.neighbour;
  without_beginnings = λ L. misleads L computed.rates_read computed.without_beginnings;
  one_leaf = λ L. misleads L computed.rz_read computed.one_leaf;
}
