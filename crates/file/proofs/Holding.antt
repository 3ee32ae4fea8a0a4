-- The search for the bucket that holds a name: what each probe says, and how the halves close in.
use Rattle.model.proofs.Prelude.{Bool, List, [], ◌+◌, ◌<◌, ◌∙◌, ◌∷◌, ◌≡◌, ◌≤◌, ap, arith, dec_lt, false, get_or, length, some, suc, sym, true, zero, ℕ}
use Rattle.model.specs.Order.{Low, Str, ◌≺◌, ◌⊑◌, ◌⊴◌, ◌◁◌, above, at, least as unlimited, none, top}
use Rattle.model.specs.Tests.{is_at_most}
use Rattle.model.specs.Names.{Legal, within}
use Rattle.model.specs.Files.{Chain, IsUsed, RangeTable, Slot, entries_of, head, last, lower_of, next, ranges, slot_at}
use Rattle.model.specs.Searches.{order_of}
use Rattle.model.specs.Format.{bytes_at_slot, read_slot}
use Rattle.model.proofs.Deciding.{over}
use Rattle.model.proofs.Lists.{at_taken}
use Rattle.model.proofs.Order.{le_refl, le_trans, low_lower, lt_le}
use Rattle.model.proofs.Tests.{is_at_most_le, is_at_most_lt}
use Rattle.model.proofs.Names.{is_legal_bound_bound, legal_length, within_is_at_most}
use Rattle.model.proofs.Strings.{mem_at}
use Rattle.model.proofs.Ranges.{chain_above, chain_length, chain_some, chain_used}
use Rattle.model.proofs.Files.{chain_right, used_inside, well_head}
use Rattle.model.proofs.Format.{read_slot-read_file}
use Rattle.bucket.specs.Slots.{upper_bytes}
use Rattle.bucket.proofs.Slots.{Reads, read_upper, used_reads}
use Rattle.file.specs.declared.Size.{Size}
use Rattle.file.specs.Holders.{Holder, Ordered, placed, upper_at}
use Rattle.file.proofs.Readings.{used_read}

-- Slots in range order, by their places.
module _ (F : RangeTable) where
  chain_first : {l : Low} {Bs : List ℕ} → Chain F l Bs → F.lower (get_or Bs 0 0) ≡ l
  chain_first (last u e f) = e
  chain_first (next u e a b c) = e

  chain_step : {l : Low} {Bs : List ℕ} → Chain F l Bs → (i : ℕ) → suc i < length Bs → F.lower (get_or Bs (suc i) 0) ≡ at (F.upper (get_or Bs i 0))
  chain_step (last u e f) i h = absurd (omega arith)
  chain_step (next u e a b c) zero h = chain_first c
  chain_step (next u e a b c) (suc i) h = chain_step c i (omega arith)

  chain_apart : {l : Low} {Bs : List ℕ} → Chain F l Bs → (i j : ℕ) → i < j → j < length Bs → at (F.upper (get_or Bs i 0)) ⊴ F.lower (get_or Bs j 0)
  chain_apart (last u e f) i j g h = absurd (omega arith)
  chain_apart (next u e a b c) i zero g h = absurd (omega arith)
  chain_apart (next {Bs = Bs} u e a b c) zero (suc j) g h = chain_above F c (get_or Bs j 0) (mem_at 0 Bs j (omega arith))
  chain_apart (next u e a b c) (suc i) (suc j) g h = chain_apart c i j (omega arith) (omega arith)

  chain_end : {l : Low} {Bs : List ℕ} → Chain F l Bs → (i : ℕ) → suc i ≡ length Bs → F.upper (get_or Bs i 0) ≡ []
  chain_end (last u e f) zero h = f
  chain_end (last u e f) (suc i) h = absurd (omega arith)
  chain_end (next {Bs = []} u e a b c) i h = absurd (chain_some F c)
  chain_end (next {Bs = C ∷ Bs} u e a b c) zero h = absurd (omega arith)
  chain_end (next {Bs = C ∷ Bs} u e a b c) (suc i) h = chain_end c i (omega arith)

module _ {xs : List ℕ} {s : Size} {order : List ℕ} {count : ℕ} {fs : List Slot} (O : Ordered xs s order count fs) where
  ordered_chain : Chain (ranges fs) none (order_of fs)
  ordered_chain = chain_right s.layout.b O.sound

  pub ordered_some : count ≡ 0 → ⊥
  ordered_some e = omega (arith, chain_length (ranges fs) ordered_chain, O.count_is)

  pub place_used : (i : ℕ) → i < count → IsUsed (head (placed fs i))
  place_used i h = chain_used (ranges fs) ordered_chain (get_or (order_of fs) i 0) (mem_at 0 (order_of fs) i (omega (arith, O.count_is)))

  pub place_number : (i : ℕ) → i < count → get_or order i 0 ≡ get_or (order_of fs) i 0
  place_number i h = at_taken count order i O.order_is h

  -- The bytes of the slot at a place read as that slot.
  pub place_reads : (i k : ℕ) (ys : List ℕ) → i < count → k ≡ get_or order i 0 → ys ≡ bytes_at_slot s.layout k xs
      → Reads s.layout ys (lower_of (head (placed fs i))) (upper_at fs i) (entries_of (placed fs i))
  place_reads i k ys h e f =
      let B = get_or (order_of fs) i 0 in
      let p : k ≡ B = e ∙ place_number i h in
      let u = place_used i h in
      let r : read_slot s.layout ys ≡ some (slot_at fs B) = rw (f, p) (read_slot-read_file xs O.is B (used_inside fs B u)) in
      used_reads s.layout ys (slot_at fs B) u (used_read s.layout ys (slot_at fs B) u r) (O.sound.well B)

  -- Places ascend with their bounds.
  pub places_apart : (i j : ℕ) → i < j → j < count → at (upper_at fs i) ⊴ lower_of (head (placed fs j))
  places_apart i j g h = chain_apart (ranges fs) ordered_chain i j g (omega (arith, O.count_is))

  uppers_rise : (i j : ℕ) → i ≤ j → j < count → upper_at fs i ⊑ upper_at fs j
  uppers_rise i j g h = elim (dec_lt i j) [
    | yes k ↦ lt_le (over (low_lower (places_apart i j k h) (well_head s.layout.b (O.sound.well (get_or (order_of fs) j 0)) (place_used j h))))
    | no k ↦ let e : i ≡ j = omega arith in rw e (le_refl (upper_at fs j))
  ]

  -- A probe: whether the name is within the upper bound at a place.
  module _ (n : Str) (g : Legal n) (i k : ℕ) (ys : List ℕ) (h : i < count) (e : k ≡ get_or order i 0) (f : ys ≡ bytes_at_slot s.layout k xs) where
    probe : {t : Bool} → t ≡ within n (upper_bytes ys) → t ≡ is_at_most n (upper_at fs i)
    probe r =
        let R = place_reads i k ys h e f in
        r ∙ ap (within n) (read_upper R) ∙ within_is_at_most n (upper_at fs i) (omega (arith, legal_length g, (is_legal_bound_bound (upper_at fs i) R.high).fits))

    pub probe_upto : {t : Bool} → t ≡ within n (upper_bytes ys) → t ≡ true → n ⊑ upper_at fs i
    probe_upto r d = is_at_most_le n (upper_at fs i) (sym (probe r) ∙ d)

    pub probe_below : {t : Bool} → t ≡ within n (upper_bytes ys) → t ≡ false → upper_at fs i ≺ n
    probe_below r d = is_at_most_lt n (upper_at fs i) (sym (probe r) ∙ d)

-- The place lies from the least to the most.
pub record Closing (fs : List Slot) (n : Str) (least most : ℕ) : Type 0 where
  pub before : (j : ℕ) → j < least → upper_at fs j ≺ n
  pub there : n ⊑ upper_at fs most

module _ {xs : List ℕ} {s : Size} {order : List ℕ} {count : ℕ} {fs : List Slot} (O : Ordered xs s order count fs) (n : Str) where
  pub closing_start : (most : ℕ) → suc most ≡ count → Closing fs n 0 most
  closing_start most e =
      record { before = λ j h. absurd (omega arith); there = rw (chain_end (ranges fs) (ordered_chain O) most (e ∙ O.count_is)) top }

  pub closing_up : {least most : ℕ} (middle : ℕ) → middle < count → upper_at fs middle ≺ n → Closing fs n least most → Closing fs n (middle + 1) most
  closing_up middle h p C =
      record { before = λ j i. λ q. p (le_trans q (uppers_rise O j middle (omega arith) h)); there = C.there }

  pub closing_down : {least most : ℕ} (middle : ℕ) → n ⊑ upper_at fs middle → Closing fs n least most → Closing fs n least middle
  closing_down middle p C = record { before = C.before; there = p }

  pub closing_end : {least most : ℕ} → least ≡ most → most < count → Closing fs n least most → Holder fs n least
  closing_end {least} {most} e h C =
      record {
        inside = omega (arith, O.count_is);
        before = C.before;
        range = (place_used O least (omega arith), low least (omega arith) C.before, rw e C.there);
      }
    where
      low : (r : ℕ) → r < count → ((j : ℕ) → j < r → upper_at fs j ≺ n) → lower_of (head (placed fs r)) ◁ n
      low zero i f = rw (chain_first (ranges fs) (ordered_chain O)) unlimited
      low (suc r) i f = rw (chain_step (ranges fs) (ordered_chain O) r (omega (arith, O.count_is))) (above (f r (omega arith)))
