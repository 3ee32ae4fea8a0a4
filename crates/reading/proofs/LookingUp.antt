-- Look up, put together from its stages: each refusal, and what one slot answers to a name.
use Rattle.model.proofs.Prelude.{Bool, List, Option, ◌&&◌, ◌<◌, ◌∙◌, ◌≡◌, ◌≤◌, arith, clash, cond, false, le-leb, le-ltb, length, lt-ltb, nothing, refl, some, sym, true, ℕ}
use Rattle.std.specs.Prelude.{Option as Maybe, Some, None, Result, Ok, Err}
use Rattle.model.specs.declared.Cause.TheVariants.{BadFile, IllegalName, StaleTrie}
use Rattle.model.specs.declared.Layout.{Layout}
use Rattle.model.specs.Results.{LookUpAnswer, LookUpRefused as Refused}
use Rattle.model.specs.declared.Trie.{Trie}
use Rattle.model.specs.Order.{Str}
use Rattle.model.specs.Tests.{is_above, is_at_most, is_legal_name}
use Rattle.model.specs.Names.{Legal, broken, filled}
use Rattle.model.specs.Entries.{find}
use Rattle.model.specs.Files.{Slot, free, used}
use Rattle.model.specs.Tries.{Spot, walk_of}
use Rattle.model.specs.Format.{bytes_at_slot, header_of, read_slot, slot_size}
use Rattle.model.specs.Answers.{stale_trie}
use Rattle.model.specs.Calls.{arrived_answer, headed_answer, held_answer, landed, look_up_of, slot_answer}
use Rattle.model.proofs.Deciding.{over}
use Rattle.digits.specs.Keys.{continued, is_all_zero, key_value, low_value, value}
use Rattle.digits.proofs.Bounds.{name_high, name_low}
use Rattle.bucket.specs.declared.Bucket.{Bucket}
use Rattle.model.specs.declared.Content.{Content}
use Rattle.bucket.specs.Forms.{Formed, WellRead, ranged}
use Rattle.bucket.specs.Slots.{lower_bytes, upper_bytes}
use Rattle.entries.specs.Rows.{Valued, held_number}
use Rattle.entries.proofs.Contents.{run_is, value_is}
use Rattle.bucket.proofs.Slots.{free_zero, ill_read, range_told, read_used, well_reads, zero_free}
use Rattle.slots.specs.Spots.{HeldTold}
use Rattle.digits.specs.declared.Key.{Key}
use Rattle.model.proofs.Checks.{is_well_formed_well}
use Rattle.model.proofs.Names.{legal_is_legal_filled, legal_length}
use Rattle.trie.specs.declared.Place.{Place}
use Rattle.trie.specs.declared.Place.TheVariants.{Cell as before_cell, Slot as at_slot, Stale as stale}
use Rattle.trie.specs.Walks.{place_reached}
use Rattle.reading.specs.Walked.{headed_from, looked_up_from, slot_of}

abbrev Ranged : Type 0
Ranged = Result (Unit {0}) ℕ

-- What the range test says, by the answer that it gave.
in_told : (c : Bool) (d : ℕ) → ◌≡◌ {A = Ranged} (Ok tt) (cond c (Ok tt) (Err d)) → c ≡ true
in_told true d e = refl
in_told false d e = clash cc

lacks_told : (c : Bool) (d k : ℕ) → ◌≡◌ {A = Ranged} (Err k) (cond c (Ok tt) (Err d)) → (c ≡ false) × (k ≡ d)
lacks_told true d k e = clash cc
lacks_told false d k e = (refl, cc)

-- What is held, from its number.
held_is : (h : Maybe Content) → Valued h → held_answer (held_number h) ≡ Ok h
held_is None v = refl
held_is (Some c) v = rw (value_is c v, run_is c v)

-- R11.8 to R11.11, in this order.
module _ (y : Layout) (xs : List ℕ) (n : Str) where
  pub answer_free : length xs ≡ slot_size y → is_all_zero xs ≡ true → Refused stale_trie ≡ slot_answer y.b n (read_slot y xs)
  unfolding slot_answer
  answer_free h e = rw (zero_free y xs h e)

  pub answer_ill : length xs ≡ slot_size y → is_all_zero xs ≡ false → Formed y xs None → Refused BadFile ≡ slot_answer y.b n (read_slot y xs)
  unfolding slot_answer
  answer_ill h e f = go (read_slot y xs) refl
    where
      go : (o : Option Slot) → read_slot y xs ≡ o → Refused BadFile ≡ slot_answer y.b n o
      go nothing r = refl
      go (some free) r =
          let z : true ≡ false = sym (free_zero y xs r) ∙ e in
          clash cc
      go (some (used l u es)) r = rw (ill_read y xs h e f (used l u es) r)

  module _ {k : Bucket} (W : WellRead y xs k) (g : Legal n) where
    abbrev inside : Bool
    inside = is_above W.lower n && is_at_most n W.upper

    pub answer_lacks : {d : ℕ} → ◌≡◌ {A = Ranged} (Err d) (ranged (lower_bytes xs) (upper_bytes xs) n) → Refused (StaleTrie d) ≡ slot_answer y.b n (read_slot y xs)
    unfolding slot_answer
    answer_lacks {d} q =
        let p = lacks_told inside (broken W.lower W.upper n) d (q ∙ range_told W n (legal_length g)) in
        rw (read_used y xs W.is, W.well, p.0, p.1)

    pub by_digits : ◌≡◌ {A = Ranged} (Ok tt) (ranged (lower_bytes xs) (upper_bytes xs) n) → inside ≡ true
    by_digits q = in_told inside (broken W.lower W.upper n) (q ∙ range_told W n (legal_length g))

    -- The same by keys.
    pub by_keys : key_value k.low < value n → value n ≤ key_value k.high → inside ≡ true
    by_keys over under =
        let R = well_reads W in
        let f = legal_is_legal_filled g in
        let above : is_above W.lower n ≡ true = sym (name_low W.lower n R.low f) ∙ lt-ltb (low_value W.lower) (value n) (rw (← W.low_is) over) in
        let below : is_at_most n W.upper ≡ true = sym (name_high n W.upper f R.high) ∙ le-leb (value n) (value (continued W.upper)) (rw (← W.high_is) under) in
        rw (above, below)

    pub answer_held : inside ≡ true → (name : Key) → key_value name ≡ value n → {h : Maybe Content} → HeldTold h y xs name → Valued h
        → Ok h ≡ slot_answer y.b n (read_slot y xs)
    unfolding slot_answer
    answer_held in_range name e {h} told valued =
        let is : held_number h ≡ find n W.entries =
        told W.lower W.upper W.entries (W.is, is_well_formed_well y.b (used W.lower W.upper W.entries) W.well) n g e in
        rw (read_used y xs W.is, W.well, in_range, ← is) (sym (held_is h valued))

-- R11.1 to R11.7: then what the slot answers.
module _ (xs : List ℕ) (p : Place) (name : List ℕ) where
  pub illegal_looked : is_legal_name name ≡ false → Refused IllegalName ≡ looked_up_from xs p name
  unfolding looked_up_from
  illegal_looked e = rw e

  pub headless_looked : is_legal_name name ≡ true → header_of xs ≡ nothing → Refused BadFile ≡ looked_up_from xs p name
  unfolding looked_up_from headed_from
  headless_looked e h = rw (e, h)

  module _ {y : Layout} {slots : ℕ} (e : is_legal_name name ≡ true) (h : header_of xs ≡ some (y, slots)) where
    pub stray_looked : ((s : ℕ) → p ≡ at_slot s → ⊥) → Refused stale_trie ≡ looked_up_from xs p name
    unfolding looked_up_from headed_from slot_of arrived_answer
    stray_looked apart = rw (e, h) (go p apart)
      where
        go : (q : Place) → ((s : ℕ) → q ≡ at_slot s → ⊥) → Refused stale_trie ≡ arrived_answer xs y (filled name) (slot_of q slots)
        go (before_cell i) apart = refl
        go (at_slot s) apart = absurd (apart s refl)
        go stale apart = refl

    pub past_looked : {s : ℕ} → p ≡ at_slot s → slots ≤ s → Refused stale_trie ≡ looked_up_from xs p name
    unfolding looked_up_from headed_from slot_of arrived_answer
    past_looked {s} q i = rw (e, h, q, le-ltb s slots i)

    pub arrived_looked : {s k : ℕ} {ys : List ℕ} (r : LookUpAnswer) → p ≡ at_slot s → k ≡ s → k < slots
        → ys ≡ bytes_at_slot y k xs → r ≡ slot_answer y.b (filled name) (read_slot y ys) → r ≡ looked_up_from xs p name
    unfolding looked_up_from headed_from slot_of arrived_answer
    arrived_looked {s} {k} r q l i f a = a ∙ rw (f, l, e, h, q, lt-ltb s slots (omega arith))

-- Where the place is that at which the walk of a trie ends, the answer is look up's own.
module _ (xs : List ℕ) (t : Trie) (name : List ℕ) where
  landed_looked : {y : Layout} {slots : ℕ} → is_legal_name name ≡ true → header_of xs ≡ some (y, slots)
      → look_up_of xs t name ≡ arrived_answer xs y (filled name) (landed slots (walk_of t (filled name)))
  unfolding look_up_of headed_answer
  landed_looked {y} {slots} e h = rw (e, h)

  slot_landed : (slots : ℕ) (o : Option (Str × Spot × ℕ)) → slot_of (place_reached o) slots ≡ landed slots o
  unfolding slot_of
  slot_landed slots nothing = refl
  slot_landed slots (some (p, k, s)) = refl

  headless : is_legal_name name ≡ true → header_of xs ≡ nothing → look_up_of xs t name ≡ Refused BadFile
  unfolding look_up_of headed_answer
  headless e h = rw (e, h)

  illegal : is_legal_name name ≡ false → look_up_of xs t name ≡ Refused IllegalName
  unfolding look_up_of
  illegal e = rw e

  pub place_looked : (p : Place) → p ≡ place_reached (walk_of t (filled name)) → looked_up_from xs p name ≡ look_up_of xs t name
  unfolding looked_up_from headed_from
  place_looked p W = named (is_legal_name name) refl
    where
      headed : (h : Option (Layout × ℕ)) → header_of xs ≡ h → is_legal_name name ≡ true → looked_up_from xs p name ≡ look_up_of xs t name
      headed nothing h e = rw (e, h) (sym (headless e h))
      headed (some (y, slots)) h e = rw (e, h, W, slot_landed slots (walk_of t (filled name))) (sym (landed_looked e h))

      named : (g : Bool) → is_legal_name name ≡ g → looked_up_from xs p name ≡ look_up_of xs t name
      named true e = headed (header_of xs) refl e
      named false e = rw e (sym (illegal e))
