-- Which run wrote it (request 11): what files of version 3 keep, and that files of versions 1 and 2 stay as they were.
use Rattle.std.specs.Prelude.{◌↔◌, ◌≢◌, ◌≡◌, List, ◌<◌, ◌^◌, ◌≤◌, ℕ}
use Rattle.std.proofs.Math.Option.{some}
use Rattle.model.specs.declared.Cause.TheVariants.{OlderRun}
use Rattle.model.specs.Results.{Found, PutRefused, Removed, Replaced}
use Rattle.model.specs.declared.Trie.{Trie}
use Rattle.model.specs.Entries.{content_from}
use Rattle.model.specs.Tries.{Agrees}
use Rattle.model.specs.Calls.{held_answer, put_answer}
use Rattle.model.specs.Format.{AreBytes, SoundFile, entry_length, file_size, kept_run, layout_of}
use Rattle.promises.specs.Calls.{Calls, version_1, version_2, version_3}
use Rattle.promises.specs.Demand1.{HeldHigher, LegalName}

-- A put that none of the refusals before 12 meets.
pub record Reached (xs : List ℕ) (t : Trie) (name : List ℕ) (limit : ℕ) : Type 0 where
  pub file : SoundFile xs
  pub agrees : Agrees file.slots t
  pub legal : LegalName name
  pub limited : limit ≤ 2

pub record Runs (C : Calls) : Type 0 where
  -- Entries of 40 bytes in version 3, of 32 before; the largest file.
  pub sizes : (b : ℕ) → (entry_length (version_3 b) ≡ 40) × (entry_length (version_2 b) ≡ 32) × (entry_length (version_1 b) ≡ 32)
  pub largest : file_size (version_3 16) 64 ≡ 45072
  -- What demand 3's map holds under a name is told as value and run, by a lookup and by a put that replaces.
  pub told : (v run : ℕ) → v < 2 ^ 64
      → (held_answer (some (content_from v run)) ≡ Found v run) × (put_answer (some (content_from v run)) ≡ Replaced v run)
  -- Refused 12 exactly where a held name has a higher run, whatever the limit: before any stop.
  pub refused : (xs : List ℕ) (t : Trie) (name : List ℕ) (v run limit : ℕ) → Reached xs t name limit
      → ((C.put xs t name v run limit).answer ≡ PutRefused OlderRun) ↔ HeldHigher xs name run
  -- An equal run replaces.
  pub equal : (xs : List ℕ) (t : Trie) (name : List ℕ) (v run limit old : ℕ) → Reached xs t name limit → 1 ≤ limit
      → C.look_up xs t name ≡ Found old (kept_run (layout_of xs) run)
      → (C.put xs t name v run limit).answer ≡ Replaced old (kept_run (layout_of xs) run)
  -- Versions 1 and 2 ignore the run given, and give 0.
  pub ignored : (xs : List ℕ) (t : Trie) (name : List ℕ) (v run other limit : ℕ) → (layout_of xs).version ≢ 3
      → C.put xs t name v run limit ≡ C.put xs t name v other limit
  pub found_0 : (xs : List ℕ) (t : Trie) (name : List ℕ) (v run : ℕ) → AreBytes xs → (layout_of xs).version ≢ 3
      → C.look_up xs t name ≡ Found v run → run ≡ 0
  pub replaced_0 : (xs : List ℕ) (t : Trie) (name : List ℕ) (v run limit old old_run : ℕ) → AreBytes xs → (layout_of xs).version ≢ 3
      → (C.put xs t name v run limit).answer ≡ Replaced old old_run → old_run ≡ 0
  -- Removal forgets the run: after it no put of the name is refused 12.
  pub forgotten : (xs : List ℕ) (t u : Trie) (name : List ℕ) (v run limit again stores : ℕ) → AreBytes xs
      → (C.remove xs t name limit).answer ≡ Removed stores
      → (C.put (C.remove xs t name limit).file u name v run again).answer ≢ PutRefused OlderRun
