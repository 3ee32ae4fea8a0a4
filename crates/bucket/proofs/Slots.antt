-- A slot of any layout as it is read: free, or used and well formed, with its range and its entries.
use Rattle.model.proofs.Prelude.{Bool, List, [], ◌&&◌, ◌*◌, ◌++◌, ◌+◌, ◌-◌, ◌∙◌, ◌∷◌, ◌≡◌, ◌≤◌, ap, ap₂, arith, clash, cond, drop, eqb, false, get_or, length, length-drop, lt-ltb, ne_eqb, not, nothing, refl, replicate, some, suc, sym, take, true, zero, ℕ}
use Rattle.model.specs.Checks.{is_well_formed}
use Rattle.model.specs.Entries.{Entry, Row}
use Rattle.model.specs.Files.{IsUsed, Slot, Well, entries_of, free, head, lower_of, upper_of, used}
use Rattle.model.specs.Format.{bytes_of_entries, bytes_of_slot, digits_of_low, entry_length, low_of, padded, read_entries, read_slot, read_used_slot, slot_size, used_of}
use Rattle.model.specs.Names.{broken}
use Rattle.model.specs.Order.{Low, Str, diff}
use Rattle.model.specs.declared.Layout.{Layout}
use Rattle.model.specs.Tests.{is_above, is_at_most, is_legal_bound, is_legal_low, same_str}
use Rattle.model.proofs.Tests.{same_str_equal}
use Rattle.model.proofs.Checks.{is_well_formed_well, well_is_well_formed, wells}
use Rattle.model.proofs.Files.{well_parts}
use Rattle.model.proofs.Format.{Contents, bytes_of_slot-read_slot, entries_read, entry_size, length-bytes_of_entries, length-bytes_of_slot, padded_short}
use Rattle.digits.specs.Keys.{continued, is_all_zero, low_value, value}
use Rattle.entries.proofs.Products.{part_least}
use Rattle.bucket.proofs.Layouts.{Tested, count_at_slot, entries_slot, lower_bytes_slot, upper_bytes_slot, well_tested}
use Rattle.bucket.proofs.Reading.{are_zeros, by_bound, low_digits}
use Rattle.bucket.specs.Forms.{Formed, WellRead, ranged, vacant}
use Rattle.bucket.specs.Slots.{HighTold, LowTold, count_at, high_in, low_in, lower_bytes, upper_bytes}
use Rattle.bucket.specs.declared.Bucket.{Bucket}
use Rattle.model.proofs.Names.{is_legal_bound_bound, within_is_at_most}
use Rattle.digits.proofs.Bounds.{low_legal}
use Rattle.std.specs.Prelude.{Err, None, Ok, Result}
use Rattle.bucket.specs.declared.Vacancy.TheVariants.{Free, Taken}

-- What is read was written.
pub read_written : (y : Layout) (xs : List ℕ) (s : Slot) → read_used_slot y xs ≡ some s → (used_of (entry_length y) xs ≡ s) × (xs ≡ bytes_of_slot y s)
unfolding read_used_slot
read_written y xs s = go (same_str xs (bytes_of_slot y (used_of (entry_length y) xs))) refl
  where
    go : (t : Bool) → same_str xs (bytes_of_slot y (used_of (entry_length y) xs)) ≡ t → cond t (some (used_of (entry_length y) xs)) nothing ≡ some s → (used_of (entry_length y) xs ≡ s) × (xs ≡ bytes_of_slot y s)
    go true e h = let i : used_of (entry_length y) xs ≡ s = cc in (i, same_str_equal xs (bytes_of_slot y (used_of (entry_length y) xs)) e ∙ ap (bytes_of_slot y) i)
    go false e h = clash cc

-- All zero, and not.
pub zero_same : (k : ℕ) (xs : List ℕ) → length xs ≡ k → same_str xs (replicate k 0) ≡ is_all_zero xs
unfolding same_str is_all_zero
zero_same zero [] e = refl
zero_same zero (x ∷ xs) e = absurd (omega arith)
zero_same (suc k) [] e = absurd (omega arith)
zero_same (suc k) (x ∷ xs) e = ap (λ (t : Bool). eqb x 0 && t) (zero_same k xs (omega arith))

pub zero-not : (xs : List ℕ) → get_or xs 0 0 ≡ 1 → is_all_zero xs ≡ false
unfolding is_all_zero
zero-not [] e = absurd (omega arith)
zero-not (x ∷ xs) e = rw (ne_eqb x 0 (λ z. omega arith))

-- A slot is free where it is all zero; else it is read as used.
pub read_by_zero : (y : Layout) (xs : List ℕ) → length xs ≡ slot_size y → read_slot y xs ≡ cond (is_all_zero xs) (some free) (read_used_slot y xs)
unfolding read_slot bytes_of_slot
read_by_zero y xs h = rw (zero_same (slot_size y) xs h)

pub read_used : (y : Layout) (xs : List ℕ) {l : Low} {u : Str} {es : List Entry} → read_used_slot y xs ≡ some (used l u es) → read_slot y xs ≡ some (used l u es)
unfolding bytes_of_slot
read_used y xs {l} {u} {es} e =
    let i = (read_written y xs (used l u es) e).1 in
    let z : is_all_zero xs ≡ false = zero-not xs (ap (λ (x : List ℕ). get_or x 0 0) i) in
    read_by_zero y xs (ap length i ∙ length-bytes_of_slot y (used l u es)) ∙ rw z e

-- A slot that reads as used and is well formed.
pub record Reads (y : Layout) (xs : List ℕ) (l : Low) (u : Str) (es : List Entry) : Type 0 where
  pub is : xs ≡ bytes_of_slot y (used l u es)
  pub tested : Tested (entry_length y) y.b xs
  pub first : get_or xs 0 0 ≡ 1
  pub count : get_or xs 1 0 ≡ length es
  pub lower : low_in xs ≡ l
  pub upper : high_in xs ≡ u
  pub low : is_legal_low l ≡ true
  pub high : is_legal_bound u ≡ true
  pub row : Row l es u
  pub most : length es ≤ y.b
  pub unused : ℕ
  pub behind : drop 64 xs ≡ bytes_of_entries (entry_length y) es ++ replicate unused 0

pub reads : (y : Layout) (xs : List ℕ) {l : Low} {u : Str} {es : List Entry} → read_used_slot y xs ≡ some (used l u es) → Well y.b (used l u es) → Reads y xs l u es
unfolding used_of bytes_of_slot
reads y xs {l} {u} {es} e w =
    let p = read_written y xs (used l u es) e in
    let s = bytes_of_slot y (used l u es) in
    let t = wells y.b l u es (well_is_well_formed y.b w) in
    let v = well_parts y.b w in
    let i : xs ≡ s = p.1 in
    let k = entry_length y * y.b - length (bytes_of_entries (entry_length y) es) in
    let f : padded (entry_length y * y.b) (bytes_of_entries (entry_length y) es) ≡ bytes_of_entries (entry_length y) es ++ replicate k 0 = padded_short (entry_length y * y.b) (bytes_of_entries (entry_length y) es) (omega (arith, length-bytes_of_entries (entry_length y) (omega (arith, (entry_size y).least)) v.3, part_least (entry_length y) (length es) y.b v.4)) in
    record {
      is = i;
      tested = rw i (well_tested y l u es (well_is_well_formed y.b w));
      first = ap (λ (x : List ℕ). get_or x 0 0) i;
      count = ap (λ (x : List ℕ). get_or x 1 0) i;
      lower = let q = p.0 in cc;
      upper = let q = p.0 in cc;
      low = t.low;
      high = t.high;
      row = v.3;
      most = v.4;
      unused = k;
      behind = ap (drop 64) i ∙ entries_slot y l u es ∙ f;
    }

-- The same of any slot that is used.
pub used_reads : (y : Layout) (xs : List ℕ) (s : Slot) → IsUsed (head s) → read_used_slot y xs ≡ some s → Well y.b s → Reads y xs (lower_of (head s)) (upper_of (head s)) (entries_of s)
used_reads y xs free u e w = absurd u
used_reads y xs (used l v es) u e w = reads y xs e w

-- The lower limit's number, as it is told of any slot.
pub read_low : (y : Layout) (xs : List ℕ) {l : Low} {u : Str} {es : List Entry} (k : ℕ) → Reads y xs l u es
    → LowTold xs k → k ≡ low_value l
read_low y xs k R f = by_bound 8 (get_or xs 2 0) xs R.tested.lower f ∙ ap low_value R.lower

pub read_high : (y : Layout) (xs : List ℕ) {l : Low} {u : Str} {es : List Entry} (k : ℕ) → Reads y xs l u es
    → HighTold xs k → k ≡ value (continued u)
read_high y xs k R f = by_bound 32 (get_or xs 3 0) xs R.tested.upper f ∙ ap (λ (u : Str). value (continued u)) R.upper

-- A slot is free where it is all zero.
module _ (y : Layout) (xs : List ℕ) (size : length xs ≡ slot_size y) where
  pub zero_free : is_all_zero xs ≡ true → read_slot y xs ≡ some free
  zero_free e = read_by_zero y xs size ∙ rw e

  pub taken_read : is_all_zero xs ≡ false → read_slot y xs ≡ read_used_slot y xs
  taken_read e = read_by_zero y xs size ∙ rw e

  -- What is not free and not well formed reads as nothing that is well formed.
  pub ill_read : is_all_zero xs ≡ false → Formed y xs None → (s : Slot) → read_slot y xs ≡ some s → is_well_formed y.b s ≡ false
  ill_read e f s h = f s (sym (taken_read e) ∙ h)

pub free_zero : (y : Layout) (xs : List ℕ) → read_slot y xs ≡ some free → is_all_zero xs ≡ true
unfolding bytes_of_slot
free_zero y xs e = ap is_all_zero (bytes_of_slot-read_slot y xs e) ∙ are_zeros (slot_size y)

pub vacant_free : (t : Bool) → Free ≡ vacant t → t ≡ true
vacant_free true e = refl
vacant_free false e = clash cc

pub vacant_taken : (t : Bool) → Taken ≡ vacant t → t ≡ false
vacant_taken true e = clash cc
vacant_taken false e = refl

-- A slot that form_of finds well formed.
pub well_reads : {y : Layout} {xs : List ℕ} {k : Bucket} (W : WellRead y xs k) → Reads y xs W.lower W.upper W.entries
well_reads {y} {xs} W = reads y xs W.is (is_well_formed_well y.b (used W.lower W.upper W.entries) W.well)

pub count_is : {y : Layout} {xs : List ℕ} {l : Low} {u : Str} {es : List Entry} → Reads y xs l u es → count_at y.b xs ≡ length es
count_is {y} {xs} {l} {u} {es} R = ap (count_at y.b) R.is ∙ count_at_slot y l u es R.most

-- Its bounds, as their digits are read.
pub read_lower : {y : Layout} {xs : List ℕ} {l : Low} {u : Str} {es : List Entry} → Reads y xs l u es → lower_bytes xs ≡ digits_of_low l
read_lower {y} {xs} {l} {u} {es} R = ap lower_bytes R.is ∙ lower_bytes_slot y l u es (is_legal_bound_bound (digits_of_low l) (low_legal l R.low)).fits

pub read_upper : {y : Layout} {xs : List ℕ} {l : Low} {u : Str} {es : List Entry} → Reads y xs l u es → upper_bytes xs ≡ u
read_upper {y} {xs} {l} {u} {es} R = ap upper_bytes R.is ∙ upper_bytes_slot y l u es (is_legal_bound_bound u R.high).fits

-- The range test as the code makes it: the name is in the range, or which bound it breaks and how far it agrees with that.
range_is : (z u n : Str) → length z ≤ length n → length u ≤ length n
    → ranged z u n ≡ cond (is_above (low_of z) n && is_at_most n u) (Ok tt) (Err (broken (low_of z) u n))
unfolding is_above broken low_of
range_is [] u n h k = rw (within_is_at_most n u k)
range_is (d ∷ z) u n h k = rw (lt-ltb 0 (length (d ∷ z)) (omega arith), within_is_at_most n (d ∷ z) h, within_is_at_most n u k) (go (is_at_most n (d ∷ z)) (is_at_most n u))
  where
    go : (q p : Bool) → ◌≡◌ {A = Result Unit ℕ} (cond q (Err (diff n (d ∷ z))) (cond p (Ok tt) (Err (diff n u)))) (cond (not q && p) (Ok tt) (Err (cond q (diff n (d ∷ z)) (diff n u))))
    go true p = refl
    go false true = refl
    go false false = refl

pub range_told : {y : Layout} {xs : List ℕ} {k : Bucket} (W : WellRead y xs k) (n : Str) → length n ≡ 24
    → ranged (lower_bytes xs) (upper_bytes xs) n ≡ cond (is_above W.lower n && is_at_most n W.upper) (Ok tt) (Err (broken W.lower W.upper n))
range_told {xs = xs} W n h =
    let R = well_reads W in
    let z : Str = take (get_or xs 2 0) (drop 8 xs) in
    let l : low_of (lower_bytes xs) ≡ W.lower = ap low_of (read_lower R ∙ sym (ap digits_of_low R.lower) ∙ low_digits z) ∙ R.lower in
    range_is (lower_bytes xs) (upper_bytes xs) n
    (omega (arith, h, ap length (read_lower R), (is_legal_bound_bound (digits_of_low W.lower) (low_legal W.lower R.low)).fits))
    (omega (arith, h, ap length (read_upper R), (is_legal_bound_bound W.upper R.high).fits))
    ∙ ap₂ (λ (m : Low) (u : Str). cond (is_above m n && is_at_most n u) (Ok tt) (Err (broken m u n))) l (read_upper R)

-- The entries are those that are read behind the bounds.
pub entries_are : {y : Layout} {xs : List ℕ} {l : Low} {u : Str} {es : List Entry} → Reads y xs l u es → Contents (entry_length y) es
    → read_entries (entry_length y) (length es) (drop 64 xs) ≡ es
entries_are {y} {es = es} R c =
    ap (read_entries (entry_length y) (length es)) R.behind ∙ entries_read (entry_length y) (omega (arith, (entry_size y).least)) (replicate R.unused 0) R.row c

pub row_read : {y : Layout} {xs : List ℕ} {l : Low} {u : Str} {es : List Entry} → Reads y xs l u es → Contents (entry_length y) es
    → read_entries (entry_length y) (count_at y.b xs) (drop 64 xs) ≡ es
row_read {y} {xs} R c = ap (λ (k : ℕ). read_entries (entry_length y) k (drop 64 xs)) (count_is R) ∙ entries_are R c

pub entries_fit : {y : Layout} (xs : List ℕ) {l : Low} {u : Str} {es : List Entry} → length xs ≡ 64 + entry_length y * y.b → Reads y xs l u es
    → entry_length y * count_at y.b xs ≤ length (drop 64 xs)
entries_fit {y} xs k R = omega (arith, length-drop 64 xs, part_least (entry_length y) (count_at y.b xs) y.b (omega (arith, count_is R, R.most)))
