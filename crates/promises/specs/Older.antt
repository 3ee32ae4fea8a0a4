-- The build before request 06, when no blank was legal in a name: its rule, its calls, and how its outcomes and today's agree.
-- But for the names that it took for legal it is today's build in everything: it splits, merges and keeps runs as today's does.
use Rattle.std.specs.Prelude.{◌≡◌, ◌↔◌, ◌⊎◌, Bool, ◌&&◌, cond, false, true, ◌<◌, ◌^◌, ◌≤◌, ℕ, eqb, leb, get_or, length}
use Rattle.std.proofs.Math.Option.{Option, some}
use mathlib.Core.List.{List, Memᴰ, [], ◌∷◌}
use Rattle.model.specs.declared.Cause.TheVariants.{BadFile as bad_file}
use Rattle.model.specs.declared.Layout.{Layout}
use Rattle.model.specs.Results.{ListRefused, LookUpAnswer, LookUpRefused, PutRefused, RecoverRefused, RemoveRefused}
use Rattle.model.specs.declared.Trie.{Trie}
use Rattle.model.specs.Order.{Low, Str}
use Rattle.model.specs.Tests.{are_digits}
use Rattle.model.specs.Names.{filled}
use Rattle.model.specs.Entries.{Entry}
use Rattle.model.specs.Files.{Slot, entries_of, slot_at}
use Rattle.model.specs.Tries.{root_side}
use Rattle.model.specs.Checks.{Kind, all_well_with, check_with, cut_below_with, is_bad, is_cut_by_with, is_row_with, is_sound_with, is_well_with}
use Rattle.model.specs.Format.{AreBytes, BadFile, bytes_at_slot, check_read_with, layout_of, read_file, read_slot}
use Rattle.model.specs.Calls.{Looked, RebuildDone, arrived_answer_with, create_of, headed_answer_with, list_with, look_up_with, looked_at_by, no_rebuilt, put_made_with, rebuild_by, recover_with, remove_made_with, slot_answer_with}
use Rattle.promises.specs.Calls.{Calls}
use Rattle.promises.specs.Demand1.{Arrives, LegalName, RightHeader, slots_of}

-- The rule then. A legal name had 1 to 24 bytes, each 0x21 to 0x7D.
unfoldable pub is_older_name : List ℕ → Bool
is_older_name n = leb 1 (length n) && leb (length n) 24 && are_digits 0x21 n

-- A filled one had a first digit that is no blank, and nothing but blanks behind a blank.
unfoldable pub blanks : List ℕ → Bool
blanks [] = true
blanks (d ∷ n) = eqb d 0x20 && blanks n

unfoldable pub blank_ended : List ℕ → Bool
blank_ended [] = true
blank_ended (d ∷ n) = cond (eqb d 0x20) (blanks n) (leb 0x21 d && leb d 0x7D && blank_ended n)

unfoldable pub is_older_filled : List ℕ → Bool
is_older_filled [] = false
is_older_filled (d ∷ n) = eqb (length n) 23 && leb 0x21 d && leb d 0x7D && blank_ended n

-- The older build is today's with these two tests, as far as files of version 1 go: it knew no other version, and a file of
-- one was bad to it. Of a refusal 4 it gave the number alone: the digit number that these definitions carry with it (R10.13) came
-- later, and what is said to be the same below is for the older build the 4.
unfoldable pub is_older_row : Low → List Entry → Str → Bool
is_older_row l es u = is_row_with is_older_filled l es u

unfoldable pub is_older_well : ℕ → Slot → Bool
is_older_well b x = is_well_with is_older_row b x

unfoldable pub older_all_well : ℕ → List Slot → Bool
older_all_well b fs = all_well_with (is_older_well b) fs

unfoldable pub is_older_sound : ℕ → List Slot → Bool
is_older_sound b fs = is_sound_with (older_all_well b) fs

unfoldable pub older_cut_by : ℕ → List Slot → ℕ → Slot → Bool
older_cut_by b fs N x = is_cut_by_with (is_older_well b) (is_older_sound b) fs N x

unfoldable pub older_cut_below : ℕ → ℕ → List Slot → Kind
older_cut_below N b fs = cut_below_with (λ (k : ℕ). older_cut_by b fs k (slot_at fs k)) N

unfoldable pub kind_of_older : ℕ → List Slot → Kind
kind_of_older b fs = check_with (is_older_sound b) (older_cut_below (length fs) b) fs

unfoldable pub checked_by_older : List ℕ → Kind
checked_by_older xs = check_read_with kind_of_older (read_file xs)

unfoldable pub older_slot_answer : ℕ → Str → Option Slot → LookUpAnswer
older_slot_answer b n s = slot_answer_with is_older_well b n s

unfoldable pub older_arrived : List ℕ → Layout → Str → Option ℕ → LookUpAnswer
older_arrived xs y n k = arrived_answer_with older_slot_answer xs y n k

unfoldable pub older_headed : List ℕ → Trie → Str → Option (Layout × ℕ) → LookUpAnswer
older_headed xs t n h = headed_answer_with older_arrived xs t n h

unfoldable pub looked_by_older : List ℕ → Trie → Looked
looked_by_older xs t = looked_at_by t (checked_by_older xs) (read_file xs)

abbrev pub older_rebuild : List ℕ → RebuildDone
older_rebuild xs = rebuild_by (checked_by_older xs) (read_file xs)

abbrev pub older_calls : Calls
older_calls = record {
  create = create_of;
  check = checked_by_older;
  recover = recover_with checked_by_older;
  rebuild = older_rebuild;
  look_up = look_up_with is_older_name older_headed;
  put = put_made_with is_older_name looked_by_older;
  remove = remove_made_with is_older_name looked_by_older;
  list = list_with is_older_name looked_by_older;
}

-- A blank with more than a blank somewhere behind it.
pub record InnerBlank (n : Str) : Type 0 where
  pub blank : ℕ
  pub behind : ℕ
  pub before : blank < behind
  pub inside : behind < length n
  pub is_blank : get_or n blank 0 ≡ 0x20
  pub is_more : ¬ (get_or n behind 0 ≡ 0x20)

-- A slot that holds a name with an inner blank,
pub record HoldsBlank (x : Slot) : Type 0 where
  pub entry : Entry
  pub held : Memᴰ entry (entries_of x)
  pub inner : InnerBlank entry.0

-- and a file with such a slot. In every other file no name has an inner blank.
pub record BlankFile (xs : List ℕ) : Type 0 where
  pub number : ℕ
  pub inside : number < slots_of xs
  pub slot : Slot
  pub is : read_slot (layout_of xs) (bytes_at_slot (layout_of xs) number xs) ≡ some slot
  pub holds : HoldsBlank slot

abbrev pub PlainFile : List ℕ → Type 0
PlainFile xs = ¬ BlankFile xs

-- The bucket that a look up reads: the slot at which its walk arrives.
pub record Reads (xs : List ℕ) (t : Trie) (name : List ℕ) (x : Slot) : Type 0 where
  pub right : RightHeader xs
  pub few : t.count ≤ 256
  pub number : ℕ
  pub arrives : Arrives (slots_of xs) t (filled name) t.count [] (root_side t.count t.first) number
  pub is : read_slot (layout_of xs) (bytes_at_slot (layout_of xs) number xs) ≡ some x

-- Where no name has an inner blank, and for names that were legal before, each outcome of the older calls D is that of C.
pub record Same (D C : Calls) : Type 0 where
  pub create : (xs : List ℕ) (v b slots : ℕ) → D.create xs v b slots ≡ C.create xs v b slots
  pub check : (xs : List ℕ) → PlainFile xs → D.check xs ≡ C.check xs
  pub recover : (xs : List ℕ) (limit : ℕ) → PlainFile xs → D.recover xs limit ≡ C.recover xs limit
  pub rebuild : (xs : List ℕ) → PlainFile xs → D.rebuild xs ≡ C.rebuild xs
  pub look_up : (xs : List ℕ) (t : Trie) (name : List ℕ) → PlainFile xs → is_older_name name ≡ true → D.look_up xs t name ≡ C.look_up xs t name
  pub put : (xs : List ℕ) (t : Trie) (name : List ℕ) (v run limit : ℕ) → PlainFile xs → is_older_name name ≡ true
      → D.put xs t name v run limit ≡ C.put xs t name v run limit
  pub remove : (xs : List ℕ) (t : Trie) (name : List ℕ) (limit : ℕ) → PlainFile xs → is_older_name name ≡ true
      → D.remove xs t name limit ≡ C.remove xs t name limit
  pub list : (xs : List ℕ) (t : Trie) (low high out : List ℕ) → PlainFile xs → is_older_name low ≡ true → is_older_name high ≡ true
      → D.list xs t low high out ≡ C.list xs t low high out

-- And such a file stays one. The other calls are lent no file to change.
pub record Stays (C : Calls) : Type 0 where
  pub create : (xs : List ℕ) (v b slots : ℕ) → PlainFile xs → PlainFile (C.create xs v b slots).file
  pub recover : (xs : List ℕ) (limit : ℕ) → AreBytes xs → PlainFile xs → PlainFile (C.recover xs limit).file
  pub put : (xs : List ℕ) (t : Trie) (name : List ℕ) (v run limit : ℕ) → AreBytes xs → v < 2 ^ 64 → run < 2 ^ 64 → PlainFile xs → is_older_name name ≡ true
      → PlainFile (C.put xs t name v run limit).file
  pub remove : (xs : List ℕ) (t : Trie) (name : List ℕ) (limit : ℕ) → AreBytes xs → PlainFile xs → PlainFile (C.remove xs t name limit).file

-- Every other file is bad to the older calls, and refused with 2.
pub record Refuses (D : Calls) : Type 0 where
  pub check : (xs : List ℕ) → BlankFile xs → D.check xs ≡ is_bad
  pub recover : (xs : List ℕ) (limit : ℕ) → BlankFile xs → limit ≤ 2 → D.recover xs limit ≡ record { answer = RecoverRefused bad_file; file = xs }
  pub rebuild : (xs : List ℕ) → BlankFile xs → D.rebuild xs ≡ no_rebuilt bad_file
  pub put : (xs : List ℕ) (t : Trie) (name : List ℕ) (v run limit : ℕ) → BlankFile xs → is_older_name name ≡ true → limit ≤ 2
      → D.put xs t name v run limit ≡ record { answer = PutRefused bad_file; file = xs; trie = t }
  pub remove : (xs : List ℕ) (t : Trie) (name : List ℕ) (limit : ℕ) → BlankFile xs → is_older_name name ≡ true → limit ≤ 2
      → D.remove xs t name limit ≡ record { answer = RemoveRefused bad_file; file = xs; trie = t }
  pub list : (xs : List ℕ) (t : Trie) (low high out : List ℕ) → BlankFile xs → is_older_name low ≡ true → is_older_name high ≡ true
      → D.list xs t low high out ≡ record { answer = ListRefused bad_file; output = out }

-- Look up refuses with 2 where the bucket that it reads holds such a name; elsewhere it answers as today's. So it refuses a
-- file that is not bad today with 2 exactly there.
pub record LooksUp (D C : Calls) : Type 0 where
  pub refuses : (xs : List ℕ) (t : Trie) (name : List ℕ) (x : Slot) → is_older_name name ≡ true → Reads xs t name x → HoldsBlank x
      → D.look_up xs t name ≡ LookUpRefused bad_file
  pub answers : (xs : List ℕ) (t : Trie) (name : List ℕ) → is_older_name name ≡ true → ((x : Slot) → Reads xs t name x → ¬ HoldsBlank x)
      → D.look_up xs t name ≡ C.look_up xs t name
  pub exactly : (xs : List ℕ) (t : Trie) (name : List ℕ) → is_older_name name ≡ true → ¬ BadFile xs → D.look_up xs t name ≡ LookUpRefused bad_file
      → (x : Slot) × Reads xs t name x × HoldsBlank x

-- All of it: D is the build before, C today's. A name that was legal before is one that is legal and has no inner blank.
pub record Older (D C : Calls) : Type 0 where
  pub name : (name : List ℕ) → (is_older_name name ≡ true) ↔ (LegalName name × (¬ InnerBlank name))
  pub each : (xs : List ℕ) → BlankFile xs ⊎ PlainFile xs
  pub same : Same D C
  pub stays : Stays C
  pub refuses : Refuses D
  pub looks_up : LooksUp D C
