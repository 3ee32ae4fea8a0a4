-- Demand 2 (R13.2), in words: the tries that calls give lead every string of digits to its bucket, and a lookup tells the truth.
use Rattle.std.specs.Prelude.{◌≡◌, List, ◌<◌, ◌^◌, ℕ}
use Rattle.std.proofs.Math.Option.{none as nothing, some}
use Rattle.model.specs.declared.Cause.TheVariants.{StaleTrie}
use Rattle.model.specs.Results.{Added, Found, Given, LookUpAnswer, LookUpRefused as Refused, NotFound as Absent, PutAnswer, PutRefused, PutStopped as Stopped, ReplacedContent}
use Rattle.model.specs.declared.Trie.{Trie}
use Rattle.model.specs.Order.{Str}
use Rattle.model.specs.Names.{filled}
use Rattle.model.specs.Entries.{find, run_of_content, value_of_content}
use Rattle.model.specs.Files.{In, Slot, entries_of, head, slot_at}
use Rattle.model.specs.Tries.{Agrees, walk_trie}
use Rattle.model.specs.Format.{AreBytes, SoundFile}
use Rattle.promises.specs.Calls.{Calls}
use Rattle.promises.specs.Demand1.{LegalName}

-- R13.2: the true entry, or absent and truly so: what the bucket holds whose range holds the name.
pub data Truthful (fs : List Slot) (n : Str) : LookUpAnswer → Type 0 where
  true_entry : (B : ℕ) {c : ℕ} → In (head (slot_at fs B)) n → find n (entries_of (slot_at fs B)) ≡ some c
      → Truthful fs n (Found (value_of_content c) (run_of_content c))
  truly_absent : (B : ℕ) → In (head (slot_at fs B)) n → find n (entries_of (slot_at fs B)) ≡ nothing → Truthful fs n Absent

-- Or it is refused as stale.
pub data Tells (fs : List Slot) (n : Str) : LookUpAnswer → Type 0 where
  told : {a : LookUpAnswer} → Truthful fs n a → Tells fs n a
  stale : {k : ℕ} → Tells fs n (Refused (StaleTrie k))

-- A put that was made: added or replaced.
abbrev pub Made : PutAnswer → Type 0
Made Added = Unit {0}
Made (ReplacedContent old) = Unit {0}
Made (Stopped n) = ⊥
Made (PutRefused c) = ⊥

-- R13.2: every name is led to the one bucket whose range holds it. The file is sound, the trie agrees with it, and each
-- string of digits arrives in its range and in no other.
pub record LeadsRight (xs : List ℕ) (t : Trie) : Type 0 where
  pub file : SoundFile xs
  pub agrees : Agrees file.slots t
  pub arrives : (n : Str) → In (head (slot_at file.slots (walk_trie t n))) n
  pub alone : (n : Str) (B : ℕ) → In (head (slot_at file.slots B)) n → B ≡ walk_trie t n

-- Demand 2 of the calls.
pub record Demand2 (C : Calls) : Type 0 where
  -- R13.2: with a sound file, whatever the trie, a lookup tells the truth or refuses as stale.
  pub tells : (xs : List ℕ) (t : Trie) (name : List ℕ) (S : SoundFile xs) → LegalName name → Tells S.slots (filled name) (C.look_up xs t name)
  -- The grown trie is the one that create gives, and the one after each put that is made. That the lent file is bytes
  -- and that value and run have 64 bits a caller knows by their types.
  pub created : (xs : List ℕ) (v b slots : ℕ) → (C.create xs v b slots).answer ≡ Given
      → LeadsRight (C.create xs v b slots).file (C.create xs v b slots).trie
  pub grown : (xs : List ℕ) (t : Trie) (name : List ℕ) (v run limit : ℕ) → AreBytes xs → v < 2 ^ 64 → run < 2 ^ 64 → Made (C.put xs t name v run limit).answer
      → LeadsRight (C.put xs t name v run limit).file (C.put xs t name v run limit).trie
  -- The trie that rebuild makes from the bounds alone.
  pub rebuilt : (xs : List ℕ) → (C.rebuild xs).answer ≡ Given → LeadsRight xs (C.rebuild xs).trie
  -- A lookup goes where such a trie leads: it is not refused.
  pub led : (xs : List ℕ) (t : Trie) (name : List ℕ) (L : LeadsRight xs t) → LegalName name → Truthful L.file.slots (filled name) (C.look_up xs t name)
