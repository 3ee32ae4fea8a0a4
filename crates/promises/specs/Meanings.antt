-- What check, recover and list mean, and what the tests in the definitions mean, in the relations that render the
-- rules. Whoever reads this need not read the model's `Tests.antt`, `Searches.antt`, `Checks.antt` and `Agreeing.antt`.
use Rattle.std.specs.Prelude.{◌≡◌, ◌↔◌, ◌⊎◌, Bool, false, true, ◌*◌, ◌+◌, ◌<◌, ◌≤◌, ℕ, drop, length, replicate, set, take}
use Rattle.std.proofs.Math.Option.{some}
use mathlib.Core.List.{List, Memᴰ, [], ◌++◌, ◌∷◌}
use Rattle.model.specs.declared.Layout.{Layout}
use Rattle.model.specs.Results.{Freed, Listed, Nothing}
use Rattle.model.specs.declared.Trie.{Trie}
use Rattle.model.specs.Order.{Low, Str, ◌≺◌, ◌⊑◌, ◌◁◌, none}
use Rattle.model.specs.Tests.{is_above, is_at_most, is_legal_filled, is_legal_name, same_str}
use Rattle.model.specs.Names.{Legal, filled}
use Rattle.model.specs.Entries.{Entry, insert}
use Rattle.model.specs.Files.{Bad, Chain, Cut, In, IsString, IsUsed, Slot, Sound, Well, free, head, lower_of, ranges, slot_at, upper_of, used}
use Rattle.model.specs.Searches.{first, has_lower, has_upper, is_free, is_in_range, order_of, string_count, strings_of}
use Rattle.model.specs.Tries.{Agrees}
use Rattle.model.specs.Changes.{Lowest, halves, stored}
use Rattle.model.specs.Places.{place_of}
use Rattle.model.specs.Checks.{check, is_bad, is_cut, is_sound, is_well_formed}
use Rattle.model.specs.Agreeing.{is_agreeing}
use Rattle.model.specs.Format.{AreBytes, BadFile, CutFile, SoundFile, bytes_of_entries, entry_length, layout_of, read_file, slot_size}
use Rattle.model.specs.Calls.{fine, looked_of}
use Rattle.promises.specs.Calls.{Calls}
use Rattle.promises.specs.Demand1.{LegalName, Listing, slots_of}

-- R9.3: slot N is all zero then, and every other byte is as it was.
pub record OneFreed (xs : List ℕ) (N : ℕ) (ys : List ℕ) : Type 0 where
  pub inside : N < slots_of xs
  pub is : ys ≡ take (16 + N * slot_size (layout_of xs)) xs ++ replicate (slot_size (layout_of xs)) 0 ++ drop (16 + N * slot_size (layout_of xs) + slot_size (layout_of xs)) xs

-- R9.8: the entries between the two names, both included, in ascending order, with nothing written behind them, and
-- their number.
pub record Wrote (xs low high out : List ℕ) (count : ℕ) (ys : List ℕ) : Type 0 where
  pub file : SoundFile xs
  pub listed : List Entry
  pub listing : Listing file.slots (filled low) (filled high) listed
  pub number : count ≡ length listed
  pub fits : entry_length file.layout * count ≤ length out
  pub written : ys ≡ bytes_of_entries (entry_length file.layout) listed ++ drop (entry_length file.layout * count) out

-- R5.7: the file's strings, each once; in ascending order.
abbrev pub Distinct : List Str → Type 0
Distinct [] = Unit {0}
Distinct (x ∷ xs) = (¬ Memᴰ x xs) × Distinct xs

abbrev pub Ascending : List Str → Type 0
Ascending [] = Unit {0}
Ascending (x ∷ xs) = ((y : Str) → Memᴰ y xs → x ≺ y) × Ascending xs

pub record AllStrings (fs : List Slot) (ss : List Str) : Type 0 where
  pub once : Distinct ss
  pub only : (x : Str) → Memᴰ x ss → IsString fs x
  pub every : (x : Str) → IsString fs x → Memᴰ x ss

-- What the calls mean.
pub record Meanings (C : Calls) : Type 0 where
  -- R9.2: what check answers.
  pub says_sound : (xs : List ℕ) → (C.check xs ≡ is_sound) ↔ SoundFile xs
  pub says_cut : (xs : List ℕ) (N : ℕ) → (C.check xs ≡ is_cut N) ↔ CutFile xs N
  pub says_bad : (xs : List ℕ) → (C.check xs ≡ is_bad) ↔ BadFile xs
  -- R9.3: of a cut file recover frees slot N and says which it is.
  pub says_freed : (xs : List ℕ) (limit N : ℕ) → ((C.recover xs limit).answer ≡ Freed N) ↔ ((1 ≤ limit) × (limit ≤ 2) × CutFile xs N)
  pub frees : (xs : List ℕ) (limit N : ℕ) → (C.recover xs limit).answer ≡ Freed N → OneFreed xs N (C.recover xs limit).file
  pub frees_slot : (xs : List ℕ) (limit N : ℕ) → AreBytes xs → (C.recover xs limit).answer ≡ Freed N → (K : CutFile xs N)
      → read_file (C.recover xs limit).file ≡ some (K.layout, set K.slots N free)
  -- Of a sound file it says that there is nothing to do.
  pub says_nothing : (xs : List ℕ) (limit : ℕ) → ((C.recover xs limit).answer ≡ Nothing) ↔ ((limit ≤ 2) × SoundFile xs)
  pub leaves : (xs : List ℕ) (limit : ℕ) → (C.recover xs limit).answer ≡ Nothing → (C.recover xs limit).file ≡ xs
  -- R9.8
  pub writes : (xs : List ℕ) (t : Trie) (low high out : List ℕ) (count : ℕ) → (C.list xs t low high out).answer ≡ Listed count
      → Wrote xs low high out count (C.list xs t low high out).output

-- What the definitions' tests mean.
pub record Tests : Type 0 where
  -- Names and strings.
  pub legal : (name : List ℕ) → (is_legal_name name ≡ true) ↔ LegalName name
  pub legal_filled : (n : Str) → (is_legal_filled n ≡ true) ↔ Legal n
  pub one_name : (m n : List ℕ) → LegalName m → LegalName n → filled m ≡ filled n → m ≡ n
  pub at_most : (x y : Str) → (is_at_most x y ≡ true) ↔ (x ⊑ y)
  pub above : (l : Low) (x : Str) → (is_above l x ≡ true) ↔ (l ◁ x)
  pub same : (x y : Str) → (same_str x y ≡ true) ↔ (x ≡ y)
  -- Slots and files.
  pub well : (b : ℕ) (x : Slot) → (is_well_formed b x ≡ true) ↔ Well b x
  pub sound : (b : ℕ) (fs : List Slot) → (check b fs ≡ is_sound) ↔ Sound b fs
  pub cut : (b : ℕ) (fs : List Slot) (N : ℕ) → (check b fs ≡ is_cut N) ↔ Cut b fs N
  pub bad : (b : ℕ) (fs : List Slot) → (check b fs ≡ is_bad) ↔ Bad b fs
  -- Tries.
  pub agreeing : (b : ℕ) (fs : List Slot) (t : Trie) → Sound b fs → (is_agreeing fs t ≡ true) ↔ Agrees fs t
  -- R9.10: put, remove and list look at the whole file and at the whole trie.
  pub passes : (xs : List ℕ) (t : Trie) (y : Layout) (fs : List Slot)
      → (looked_of xs t ≡ fine y fs) ↔ ((read_file xs ≡ some (y, fs)) × Sound y.b fs × Agrees fs t)
  -- Searches: how slots are tested, and which slot is the first to pass.
  pub slot_free : (x : Slot) → (is_free x ≡ true) ↔ (x ≡ free)
  pub slot_lower : (l : Low) (x : Slot) → (has_lower l x ≡ true) ↔ (IsUsed (head x) × (lower_of (head x) ≡ l))
  pub slot_upper : (u : Str) (x : Slot) → (has_upper u x ≡ true) ↔ (IsUsed (head x) × (upper_of (head x) ≡ u))
  pub slot_in_range : (n : Str) (x : Slot) → (is_in_range n x ≡ true) ↔ In (head x) n
  pub first_passes : (t : Slot → Bool) (fs : List Slot) → (t (slot_at fs (first t fs)) ≡ true) ⊎ (first t fs ≡ length fs)
  pub first_before : (t : Slot → Bool) (fs : List Slot) (B : ℕ) → B < first t fs → (B < length fs) × (t (slot_at fs B) ≡ false)
  -- The range order of a sound file, and its strings.
  pub ordered : (b : ℕ) (fs : List Slot) → Sound b fs → Chain (ranges fs) none (order_of fs)
  pub listed : (b : ℕ) (fs : List Slot) → Sound b fs → AllStrings fs (strings_of fs) × Ascending (strings_of fs)
  -- R10.6: what is counted is how many strings there are, however they are listed. The file after a split, whose strings put
  -- counts, is sound.
  pub counted : (b : ℕ) (fs : List Slot) → Sound b fs → (ss : List Str) → AllStrings fs ss → string_count fs ≡ length ss
  pub after_split : (y : Layout) (fs : List Slot) (A N : ℕ) (l : Low) (u : Str) (es : List Entry) (n : Str) (v : ℕ) → 2 ≤ y.b → Sound y.b fs
      → slot_at fs A ≡ used l u es → Legal n → l ◁ n → n ⊑ u → y.b < length (insert n v es) → Lowest fs N
      → Sound y.b (stored (halves y.b (place_of y) N A l u (insert n v es)) fs)
