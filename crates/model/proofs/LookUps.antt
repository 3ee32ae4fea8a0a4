-- A trie that agrees with a sound file is never stale: its walk arrives, and a lookup answers what the bucket holds.
use Rattle.model.proofs.Prelude.{List, [], ◌<◌, ◌≡◌, arith, length, lt-ltb, some, true, ℕ}
use Rattle.model.specs.declared.Trie.{Trie}
use Rattle.model.specs.Order.{Str}
use Rattle.model.specs.Tests.{is_legal_name}
use Rattle.model.specs.Names.{filled}
use Rattle.model.specs.Entries.{find}
use Rattle.model.specs.Files.{In, Slot, Sound, Well, entries_of, free, head, slot_at, used}
use Rattle.model.specs.Tries.{Agrees, walk_of, walk_trie}
use Rattle.model.specs.Format.{SoundFile, header_of}
use Rattle.model.specs.Calls.{arrived_answer, headed_answer, held_answer, landed, look_up_of, slot_answer}
use Rattle.model.proofs.Tests.{above_is_above, le_is_at_most}
use Rattle.model.proofs.Tries.{walk}
use Rattle.model.proofs.Files.{used_inside}
use Rattle.model.proofs.Agreement.{agrees_walk, whole_run, whole_walk}
use Rattle.model.proofs.Checks.{well_is_well_formed}
use Rattle.model.proofs.Format.{headed_header_of, read_file_read, read_slot-read_file}
use Rattle.model.proofs.Walks.{string_fits}

module _ (b : ℕ) {fs : List Slot} (S : Sound b fs) {t : Trie} (A : Agrees fs t) where
  -- The walk of a lookup meets no cell or slot that is not there.
  pub landed_agrees : (n : Str) → landed (length fs) (walk_of t n) ≡ some (walk_trie t n)
  landed_agrees n =
      let e = whole_run A (string_fits b S) n in
      let inside : walk n [] A.tree < length fs = omega (arith, whole_walk A (string_fits b S) n, used_inside fs (walk_trie t n) (agrees_walk b S A n).0) in
      rw (e, lt-ltb (walk n [] A.tree) (length fs) inside)

-- The bucket whose range holds the name is not refused.
slot_answers : (b : ℕ) (n : Str) (x : Slot) → Well b x → In (head x) n → slot_answer b n (some x) ≡ held_answer (find n (entries_of x))
unfolding slot_answer
slot_answers b n free w i = absurd i.0
slot_answers b n (used l u es) w i = rw (well_is_well_formed b w, above_is_above i.1, le_is_at_most n u i.2)

-- With an agreeing trie a lookup of a legal name is found or absent as the bucket has it, and never refused.
pub lookup_agrees : (xs : List ℕ) (t : Trie) (name : List ℕ) (S : SoundFile xs) → Agrees S.slots t → is_legal_name name ≡ true
    → look_up_of xs t name ≡ held_answer (find (filled name) (entries_of (slot_at S.slots (walk_trie t (filled name)))))
unfolding look_up_of headed_answer arrived_answer
lookup_agrees xs t name S A legal =
    rw (legal, header, landed_agrees S.layout.b S.sound A n, read_slot-read_file xs S.is k (used_inside S.slots k i.0))
    (slot_answers S.layout.b n (slot_at S.slots k) (S.sound.well k) i)
  where
    n : Str
    n = filled name

    k : ℕ
    k = walk_trie t n

    i : In (head (slot_at S.slots k)) n
    i = agrees_walk S.layout.b S.sound A n

    header : header_of xs ≡ some (S.layout, length S.slots)
    header = headed_header_of (read_file_read xs S.is).headed
