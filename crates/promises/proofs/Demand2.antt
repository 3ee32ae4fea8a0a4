-- Demand 2 (R13.2): with a sound file, whatever the trie, a lookup of a legal name tells the truth or refuses as stale.
use Rattle.model.proofs.Prelude.{Bool, List, Option, ◌&&◌, ◌<◌, ◌≡◌, arith, clash, cond, false, length, ltb, ltb-true, nothing, refl, some, true, ℕ}
use Rattle.model.specs.declared.Trie.{Trie}
use Rattle.model.specs.declared.Layout.{Layout}
use Rattle.model.specs.declared.Cause.TheVariants.{StaleTrie}
use Rattle.model.specs.Results.{LookUpRefused as Refused}
use Rattle.model.specs.Order.{Str}
use Rattle.model.specs.Tests.{is_above, is_at_most, is_legal_name}
use Rattle.model.specs.Names.{broken, filled}
use Rattle.model.specs.Entries.{find}
use Rattle.model.specs.Files.{In, Slot, Sound, entries_of, free, head, slot_at, used}
use Rattle.model.specs.Tries.{Spot, walk_of, walk_trie}
use Rattle.model.specs.Checks.{is_well_formed}
use Rattle.model.specs.Format.{SoundFile, header_of}
use Rattle.model.specs.Calls.{arrived_answer, headed_answer, held_answer, landed, look_up_of, slot_answer}
use Rattle.model.proofs.Tests.{is_above_above, is_at_most_le}
use Rattle.model.proofs.LookUps.{lookup_agrees}
use Rattle.model.proofs.Checks.{well_is_well_formed}
use Rattle.model.proofs.Format.{headed_header_of, read_file_read, read_slot-read_file}
use Rattle.promises.specs.Demand2.{Demand2, LeadsRight, Tells, Truthful, stale, told, true_entry, truly_absent}
use Rattle.promises.specs.Calls.{our_calls}
use Rattle.promises.specs.Demand1.{LegalName}
use Rattle.promises.proofs.Demand1.{name_legal}
use Rattle.promises.proofs.Leading.{created_leads, put_leads, rebuilt_leads}

by_slot : (s slots k : ℕ) → cond (ltb s slots) (some s) nothing ≡ some k → k < slots
by_slot s slots k e = go (ltb s slots) refl e
  where
    go : (t : Bool) → ltb s slots ≡ t → cond t (some s) nothing ≡ some k → k < slots
    go true h q = let r : s ≡ k = cc in omega (arith, ltb-true s slots h)
    go false h q = clash cc

-- A walk that lands does so at one of the file's slots.
landed_inside : (slots : ℕ) (o : Option (Str × Spot × ℕ)) (k : ℕ) → landed slots o ≡ some k → k < slots
landed_inside slots nothing k e = clash cc
landed_inside slots (some (p, by, s)) k e = by_slot s slots k e

-- A slot of a sound file tells the truth of a name, or that it is not its own.
slot_tells : (y : Layout) (fs : List Slot) → Sound y.b fs → (n : Str) (k : ℕ) (x : Slot) → slot_at fs k ≡ x → Tells fs n (slot_answer y.b n (some x))
unfolding slot_answer
slot_tells y fs S n k free e = stale
slot_tells y fs S n k (used l u es) e = rw well (go (is_above l n) (is_at_most n u) refl refl)
  where
    well : is_well_formed y.b (used l u es) ≡ true
    well = well_is_well_formed y.b (rw e at (S.well k))

    held : In (head (slot_at fs k)) n → (f : Option ℕ) → find n es ≡ f → Tells fs n (held_answer f)
    held i nothing h = told (truly_absent k i (rw e h))
    held i (some v) h = let f : find n (entries_of (slot_at fs k)) ≡ some v = rw e h in told (true_entry k i f)

    go : (a c : Bool) → is_above l n ≡ a → is_at_most n u ≡ c → Tells fs n (cond (a && c) (held_answer (find n es)) (Refused (StaleTrie (broken l u n))))
    go true true p q = held (rw e (tt, is_above_above l n p, is_at_most_le n u q)) (find n es) refl
    go true false p q = stale
    go false c p q = stale

-- R13.2: with a sound file, whatever the trie, a lookup tells the truth or refuses as stale.
lookup_tells : (xs : List ℕ) (t : Trie) (name : List ℕ) (S : SoundFile xs) → is_legal_name name ≡ true
    → Tells S.slots (filled name) (look_up_of xs t name)
unfolding look_up_of headed_answer arrived_answer
lookup_tells xs t name S legal = rw (legal, header) (arrived (landed (length S.slots) (walk_of t n)) refl)
  where
    n : Str
    n = filled name

    header : header_of xs ≡ some (S.layout, length S.slots)
    header = headed_header_of (read_file_read xs S.is).headed

    arrived : (a : Option ℕ) → landed (length S.slots) (walk_of t n) ≡ a → Tells S.slots n (arrived_answer xs S.layout n a)
    arrived nothing e = stale
    arrived (some k) e =
        rw (read_slot-read_file xs S.is k (landed_inside (length S.slots) (walk_of t n) k e))
        (slot_tells S.layout S.slots S.sound n k (slot_at S.slots k) refl)

-- With a trie that leads right it is told, and not refused.
held_true : (fs : List Slot) (n : Str) (B : ℕ) → In (head (slot_at fs B)) n → (o : Option ℕ) → find n (entries_of (slot_at fs B)) ≡ o → Truthful fs n (held_answer o)
held_true fs n B i nothing e = truly_absent B i e
held_true fs n B i (some v) e = true_entry B i e

lookup_led : (xs : List ℕ) (t : Trie) (name : List ℕ) (L : LeadsRight xs t) → LegalName name → Truthful L.file.slots (filled name) (look_up_of xs t name)
lookup_led xs t name L g =
    let n = filled name in
    let B = walk_trie t n in
    rw (lookup_agrees xs t name L.file L.agrees (name_legal g))
    (held_true L.file.slots n B (L.arrives n) (find n (entries_of (slot_at L.file.slots B))) refl)

pub demand_2 : Demand2 our_calls
demand_2 = record {
  tells = λ xs t name S g. lookup_tells xs t name S (name_legal g);
  created = created_leads;
  grown = put_leads;
  rebuilt = rebuilt_leads;
  led = lookup_led;
}
