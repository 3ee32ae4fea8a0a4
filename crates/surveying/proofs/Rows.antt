-- Slots in an order that was guessed: they are a row, and a file of which all used slots stand in a row is sound.
use Rattle.model.proofs.Prelude.{List, Memᴰ, [], ◌*◌, ◌+◌, ◌<◌, ◌^◌, ◌∙◌, ◌∷◌, ◌≡◌, ◌≤◌, ap, arith, get_or, get_or-take, length, length-take-le, refl, some, subst, suc, sym, take, true, zero, zero-add, ℕ}
use Rattle.model.specs.Order.{Low, at, none}
use Rattle.model.specs.Tests.{is_legal_bound}
use Rattle.model.specs.Files.{Chain, IsUsed, RangeTable, Slot, Sound, Well, free, head, lower_of, ranges, slot_at, upper_of, used, well_free}
use Rattle.model.specs.Checks.{is_sound}
use Rattle.model.specs.Format.{bytes_at_slot, entry_length, joined, low_of, read_slot, read_slots, slot_size}
use Rattle.model.proofs.Checks.{check_sound}
use Rattle.model.proofs.Files.{order_right}
use Rattle.model.proofs.Format.{read_slots_each}
use Rattle.model.proofs.Strings.{mem_at}
use Rattle.model.proofs.Surveys.{Follows, follows_chain}
use Rattle.model.specs.Searches.{order_of}
use Rattle.digits.specs.Keys.{continued, is_all_zero, low_value, value}
use Rattle.bucket.specs.Forms.{Framed}
use Rattle.bucket.specs.Slots.{HighTold, OfSize, high_in, low_in}
use Rattle.bucket.proofs.Frames.{Upper, following_low, framed_tested, limit_of, tested_standing}
use Rattle.bucket.proofs.Reading.{bound_legal, by_bound}
use Rattle.bucket.proofs.Slots.{zero_free}
use Rattle.file.specs.declared.Size.{Size}
use Rattle.file.specs.Maps.{bit_of, map_of}
use Rattle.file.specs.Sizes.{Below}
use Rattle.file.specs.Surveys.{check_of_slots}
use Rattle.surveying.specs.Rows.{AllFramed, AllNamed, FramedAt, Rowed, Tallied, edge, place_before, placed}
use Rattle.file.proofs.Chains.{mem_listed}
use Rattle.file.proofs.Maps.{map_lt}
use Rattle.file.proofs.Verdicts.{Mapped, Ordered, check_slots}

-- The slot at place j, as the code sees it: ys and zs are the bytes of the slot and of the one before.
pub framed_at : (xs : List ℕ) (size : Size) (order : List ℕ) (count j : ℕ) (ys zs : List ℕ) (low high : ℕ) → ys ≡ placed xs size order j → zs ≡ placed xs size order (place_before count j)
    → OfSize ys size.layout → low ≡ edge xs size order j → HighTold ys high → Framed (entry_length size.layout) size.layout.b ys zs low high
    → FramedAt xs size order count j × (high ≡ edge xs size order (suc j))
framed_at xs size order count j ys zs low high e f whole l told F =
    let h : high ≡ edge xs size order (suc j) = by_bound 32 (get_or ys 3 0) ys F.upper told ∙ ap (λ (v : List ℕ). value (continued (high_in v))) e in
    (record { whole = rw e at whole; framed = rw (e, f, l, h) at F }, h)

-- Slots that are framed, with names that rise, are a row.
before_inside : (count j : ℕ) → j < count → place_before count j < count
before_inside count zero h = omega arith
before_inside count (suc j) h = omega arith

module _ (xs : List ℕ) (size : Size) (order : List ℕ) (count : ℕ) (some_there : 0 < count) (F : AllFramed xs size order count) where
  upper : (j : ℕ) → j < count → Upper (placed xs size order j)
  upper j h = (F.1 j h).framed.upper

  legal : (j : ℕ) (h : j < count) → is_legal_bound (high_in (placed xs size order j)) ≡ true
  legal j h = bound_legal 32 (get_or (placed xs size order j) 3 0) (placed xs size order j) (upper j h)

  -- The lower bound is empty at first, and is then the upper bound before.
  first_low : low_in (placed xs size order 0) ≡ none
  unfolding low_of
  first_low = let e : get_or (placed xs size order 0) 2 0 ≡ 0 = (F.1 0 some_there).framed.follows.0 ∙ F.0 in rw e

  next_low : (j : ℕ) → suc j < count → low_in (placed xs size order (suc j)) ≡ at (high_in (placed xs size order j))
  next_low j h =
      let G = (F.1 (suc j) h).framed in
      ap low_of (following_low (placed xs size order (suc j)) (placed xs size order j) G.follows (upper j (omega arith)))
      ∙ limit_of (high_in (placed xs size order j)) (high_in (placed xs size order (suc j))) (legal j (omega arith)) (legal (suc j) h) G.ranged

  low_is : (j : ℕ) → j < count → edge xs size order j ≡ low_value (low_in (placed xs size order j))
  unfolding low_value
  low_is zero h = sym (ap low_value first_low)
  low_is (suc j) h = sym (ap low_value (next_low j h))

  pub row_of : AllNamed xs size order count → Rowed xs size order count
  row_of named = record {
    some_there = some_there;
    stands = λ j h. tested_standing size.layout (placed xs size order j) (F.1 j h).whole.0 (F.1 j h).framed.stocked.bytes
        (framed_tested (entry_length size.layout) size.layout.b (placed xs size order j) (placed xs size order (place_before count j)) (edge xs size order j) (F.1 j h).framed
        (upper (place_before count j) (before_inside count j h)) (low_is j h) (named j h));
    begins = first_low;
    links = next_low;
    ends = λ j e. let z : get_or (placed xs size order j) 3 0 ≡ 0 = subst (λ (k : ℕ). get_or (placed xs size order k) 3 0 ≡ 0) (omega arith) F.0 in rw z;
  }

-- Nothing is passed yet; and one slot more.
pub tallied_start : (xs : List ℕ) (size : Size) (order : List ℕ) (count : ℕ) → Tallied xs size order count size.slots 0
unfolding read_slots map_of
tallied_start xs size order count = record {
  rest = 0;
  fits = omega arith;
  slots = [];
  read = refl;
  long = refl;
  well = λ B. none_well B;
  listed = λ B u. absurd (none_used B u);
  map_is = refl;
}
  where
    none_well : (B : ℕ) → Well size.layout.b (slot_at [] B)
    none_well B = well_free

    none_used : (B : ℕ) → IsUsed (head (slot_at [] B)) → ⊥
    none_used B u = u

module _ {xs : List ℕ} {size : Size} {order : List ℕ} {count k map : ℕ} (T : Tallied xs size order count (suc k) map) (most : size.slots ≤ 64) (s : Slot)
    (r : read_slot size.layout (bytes_at_slot size.layout k xs) ≡ some s) (w : Well size.layout.b s) (l : IsUsed (head s) → Memᴰ k (take count order)) where
  pub tallied_next : (v : ℕ) → (2 * map + bit_of s < 2 ^ 64 → v ≡ 2 * map + bit_of s) → Tallied xs size order count k v
  unfolding read_slots joined map_of
  tallied_next v f =
      let n : length T.slots ≡ T.rest = T.long in
      let m : map_of (s ∷ T.slots) < 2 ^ 64 = map_lt 64 (s ∷ T.slots) (omega (arith, T.fits)) in
      let i : map ≡ map_of T.slots = T.map_is in
      record {
        rest = suc T.rest;
        fits = omega (arith, T.fits);
        slots = s ∷ T.slots;
        read = rw (r, T.read);
        long = ap suc n;
        well = each;
        listed = all;
        map_is = f (rw i m) ∙ rw i;
      }
    where
      each : (B : ℕ) → Well size.layout.b (slot_at (s ∷ T.slots) B)
      each zero = w
      each (suc B) = T.well B

      all : (B : ℕ) → IsUsed (head (slot_at (s ∷ T.slots) B)) → Memᴰ (k + B) (take count order)
      all zero u = subst (λ (C : ℕ). Memᴰ C (take count order)) (omega arith) (l u)
      all (suc B) u = subst (λ (C : ℕ). Memᴰ C (take count order)) (omega arith) (T.listed B u)

pub free_read : (size : Size) (ys : List ℕ) → OfSize ys size.layout → is_all_zero ys ≡ true → read_slot size.layout ys ≡ some free
unfolding slot_size
free_read size ys whole z = zero_free size.layout ys whole.0 z

-- A slot at a place of the order.
pub placed_mem : (order : List ℕ) (count place k : ℕ) → place < count → count ≤ length order → get_or order place 0 ≡ k → Memᴰ k (take count order)
placed_mem order count place k h l e =
    subst (λ (B : ℕ). Memᴰ B (take count order)) (get_or-take count order place 0 h ∙ e) (mem_at 0 (take count order) place (omega (arith, length-take-le count order l)))

-- A row of them.
row_follows : (F : RangeTable) (Bs : List ℕ) (l : Low) → 0 < length Bs → F.lower (get_or Bs 0 0) ≡ l
    → ((j : ℕ) → suc j < length Bs → F.lower (get_or Bs (suc j) 0) ≡ at (F.upper (get_or Bs j 0))) → ((j : ℕ) → suc j ≡ length Bs → F.upper (get_or Bs j 0) ≡ [])
    → Follows F l Bs
row_follows F [] l p e h t = absurd (omega arith)
row_follows F (B ∷ []) l p e h t = (e, ap at (t 0 refl))
row_follows F (B ∷ C ∷ Bs) l p e h t = (e, row_follows F (C ∷ Bs) (at (F.upper B)) (omega arith) (h 0 (omega arith)) (λ j q. h (suc j) (omega arith)) (λ j q. t (suc j) (omega arith)))

-- A file whose slots are a row, all of them, is sound.
module _ {xs : List ℕ} {size : Size} {order : List ℕ} {count map : ℕ} (T : Tallied xs size order count 0 map) (R : Rowed xs size order count) (inside : Below order size.slots)
    (short : count ≤ length order) where
  row_read : read_slots size.layout size.slots 0 xs ≡ some T.slots
  row_read = subst (λ (n : ℕ). read_slots size.layout n 0 xs ≡ some T.slots) (omega (arith, T.fits)) T.read

  one : (fs : List Slot) → read_slots size.layout size.slots 0 xs ≡ some fs → fs ≡ T.slots
  one fs e = let i = row_read in cc

  here : (j : ℕ) (h : j < count) → slot_at T.slots (get_or order j 0) ≡ used (low_in (placed xs size order j)) (high_in (placed xs size order j)) (R.stands j h).entries
  here j h =
      let e : read_slot size.layout (placed xs size order j) ≡ some (slot_at T.slots (get_or order j 0)) = rw zero-add at (read_slots_each size.layout size.slots 0 (get_or order j 0) xs (inside j) row_read) in
      let f = (R.stands j h).read in
      cc

  row_listed : (j : ℕ) → j < count → IsUsed (head (slot_at T.slots (get_or order j 0)))
  row_listed j h = rw (here j h) tt

  lower_here : (j : ℕ) (h : j < count) → lower_of (head (slot_at T.slots (get_or order j 0))) ≡ low_in (placed xs size order j)
  lower_here j h = ap (λ (s : Slot). lower_of (head s)) (here j h)

  upper_here : (j : ℕ) (h : j < count) → upper_of (head (slot_at T.slots (get_or order j 0))) ≡ high_in (placed xs size order j)
  upper_here j h = ap (λ (s : Slot). upper_of (head s)) (here j h)

  row_chain : Chain (ranges T.slots) none (take count order)
  row_chain =
      let n : length (take count order) ≡ count = length-take-le count order short in
      let g : (j : ℕ) → j < count → get_or (take count order) j 0 ≡ get_or order j 0 = λ j h. get_or-take count order j 0 h in
      let p : 0 < count = R.some_there in
      follows_chain size.layout.b T.slots T.well (take count order) (mem_listed T.slots order count short row_listed)
      (row_follows (ranges T.slots) (take count order) none (omega arith)
      (rw (g 0 p) (lower_here 0 p ∙ R.begins))
      (λ j h. let q : suc j < count = omega arith in let o : j < count = omega arith in rw (g j o, g (suc j) q) (lower_here (suc j) q ∙ R.links j q ∙ ap at (sym (upper_here j o))))
      (λ j h. let q : suc j ≡ count = omega arith in let o : j < count = omega arith in rw (g j o) (upper_here j o ∙ R.ends j q)))

  row_sound : Sound size.layout.b T.slots
  row_sound = record { order = take count order; chain = row_chain; listed = λ B u. rw zero-add at (T.listed B u); well = T.well }

  pub row_said : is_sound ≡ check_of_slots size.layout size.slots xs
  row_said = sym (check_slots size.layout size.slots xs T.slots row_read ∙ check_sound size.layout.b T.slots row_sound)

  pub row_order : Ordered xs size order count
  unfolding row_sound
  row_order fs e Z =
      let q : take count order ≡ order_of fs = sym (ap order_of (one fs e) ∙ order_right size.layout.b row_sound) in
      (sym (length-take-le count order short) ∙ ap length q, q)

  pub row_map : Mapped xs size map
  row_map fs e Z = T.map_is ∙ ap map_of (sym (one fs e))
