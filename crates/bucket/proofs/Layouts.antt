-- A slot of any layout: its parts as they are read, and that the code's tests of a used slot hold exactly of the slots that were written and
-- are well formed.
use Rattle.model.proofs.Prelude.{Bool, List, [], ◌&&◌, ◌*◌, ◌++◌, ◌+◌, ◌-◌, ◌<◌, ◌∙◌, ◌∷◌, ◌≡◌, ◌≤◌, ap, append_assoc, ap₂, arith, clash, cond, drop, drop_at, drop-drop, false, get_or, le-leb, le-ltb, leb-true, length, length-append, length-drop, length-take-le, ltb, ltb-true, nothing, refl, replicate, some, sym, take, take-add, take-append-drop, take_at, true, ℕ}
use Rattle.model.specs.Checks.{is_row, is_well_formed}
use Rattle.model.specs.Entries.{Entry}
use Rattle.model.specs.Files.{Slot, used}
use Rattle.model.specs.Format.{bytes_of_entries, bytes_of_entry, bytes_of_slot, digits_of_low, entry_length, little_endian, low_of, padded, read_entries, read_used_slot, used_of}
use Rattle.model.specs.Order.{Low, Str, at}
use Rattle.model.specs.declared.Layout.{Layout}
use Rattle.model.specs.Tests.{is_above, is_at_most, is_legal_bound, is_legal_filled, is_legal_low, same_str}
use Rattle.model.proofs.Tests.{both_true, is_above_above, same_str_equal, same_str_self}
use Rattle.model.proofs.Checks.{Wells, is_row_row, wells}
use Rattle.model.proofs.Format.{bytes_drop, bytes_each, entry_size, length-bytes_of_entries, length_little_endian, length_padded, low_of_digits_of_low, padded_front, padded_short}
use Rattle.model.proofs.Lists.{drop_past}
use Rattle.model.proofs.Names.{is_legal_bound_bound, is_legal_filled_legal, legal_length}
use Rattle.digits.proofs.Bounds.{low_above, low_legal, name_high, name_legal, name_low, name_value}
use Rattle.digits.specs.Keys.{continued, is_all_zero, key_value, low_value, value}
use Rattle.entries.proofs.Lists.{bytes_entries, length-read_entries}
use Rattle.entries.proofs.Products.{part_least}
use Rattle.entries.proofs.Tested.{entries_is_row}
use Rattle.entries.specs.Rows.{are_entries}
use Rattle.bucket.proofs.Reading.{are_zeros, bound_legal, bound_short, bounded, first_four, low_digits, padded_bound, padded_part, take_bound, zeros_are}
use Rattle.bucket.specs.Forms.{Formed, WellRead, is_all_clear}
use Rattle.bucket.specs.Slots.{bound_bytes_at, count_at, high_in, is_a_bound, low_in, lower_bytes, upper_bytes}
use Rattle.bucket.specs.declared.Bucket.{Bucket}
use Rattle.std.specs.Prelude.{None, Some}

-- The parts of a slot's bytes as they are read.
module _ (y : Layout) (l : Low) (u : Str) (es : List Entry) where
  pub lower_bytes_slot : length (digits_of_low l) ≤ 24 → lower_bytes (bytes_of_slot y (used l u es)) ≡ digits_of_low l
  unfolding bound_bytes_at bytes_of_slot
  lower_bytes_slot h = rw (le-ltb 24 (length (digits_of_low l)) h)
      (padded_front 24 (digits_of_low l) (padded 24 u ++ (replicate 8 0 ++ padded (entry_length y * y.b) (bytes_of_entries (entry_length y) es))) h)

  pub upper_bytes_slot : length u ≤ 24 → upper_bytes (bytes_of_slot y (used l u es)) ≡ u
  unfolding bound_bytes_at bytes_of_slot
  upper_bytes_slot h =
      let w : List ℕ = padded 24 u ++ (replicate 8 0 ++ padded (entry_length y * y.b) (bytes_of_entries (entry_length y) es)) in
      rw (le-ltb 24 (length u) h, drop_at (padded 24 (digits_of_low l)) w 24 (length_padded 24 (digits_of_low l)))
      (padded_front 24 u (replicate 8 0 ++ padded (entry_length y * y.b) (bytes_of_entries (entry_length y) es)) h)

  pub count_at_slot : length es ≤ y.b → count_at y.b (bytes_of_slot y (used l u es)) ≡ length es
  unfolding count_at bytes_of_slot
  count_at_slot h = rw (le-ltb y.b (length es) h)

  pub entries_slot : drop 64 (bytes_of_slot y (used l u es)) ≡ padded (entry_length y * y.b) (bytes_of_entries (entry_length y) es)
  unfolding bytes_of_slot
  entries_slot =
      let x = padded 24 (digits_of_low l) in
      let w = padded 24 u in
      let z = padded (entry_length y * y.b) (bytes_of_entries (entry_length y) es) in
      drop_past x (w ++ (replicate 8 0 ++ z)) 56 32 (omega (arith, length_padded 24 (digits_of_low l)))
      ∙ drop_past w (replicate 8 0 ++ z) 32 8 (omega (arith, length_padded 24 u))

-- What the code tests of a used slot of b entries of e bytes.
pub record Tested (e b : ℕ) (xs : List ℕ) : Type 0 where
  pub first : get_or xs 0 0 ≡ 1
  pub fits : get_or xs 1 0 ≤ b
  pub clear : is_all_clear xs (64 + e * get_or xs 1 0) ≡ true
  pub lower : is_a_bound (get_or xs 2 0) (take 24 (drop 8 xs)) ≡ true
  pub upper : is_a_bound (get_or xs 3 0) (take 24 (drop 32 xs)) ≡ true
  pub ranged : ltb (low_value (low_in xs)) (value (continued (high_in xs))) ≡ true
  pub rowed : are_entries e (get_or xs 1 0) (drop 64 xs) (low_value (low_in xs)) (value (continued (high_in xs))) ≡ true

-- A row passes the code's test of the names.
row_entries : (e : ℕ) → 24 ≤ e → (es : List Entry) (ys : List ℕ) (l : Low) (u : Str) → is_legal_low l ≡ true → is_legal_bound u ≡ true → low_value l ≤ value (continued u)
    → is_row l es u ≡ true → are_entries e (length es) (bytes_of_entries e es ++ ys) (low_value l) (value (continued u)) ≡ true
unfolding are_entries is_row bytes_of_entries bytes_of_entry is_legal_low low_value
row_entries e big [] ys l u g h k q = rw (le-ltb (value (continued u)) (low_value l) k)
row_entries e big (x ∷ es) ys l u g h k true_row =
    let n = x.0 in
    let hi = value (continued u) in
    let p = both_true (is_legal_filled n && is_above l n && is_at_most n u) (is_row (at n) es u) true_row in
    let q = both_true (is_legal_filled n && is_above l n) (is_at_most n u) p.0 in
    let s = both_true (is_legal_filled n) (is_above l n) q.0 in
    let len : length n ≡ 24 = legal_length (is_legal_filled_legal n s.0) in
    let w = little_endian (e - 24) x.1 in
    let z : List ℕ = bytes_of_entries e es ++ ys in
    let i : n ++ w ++ bytes_of_entries e es ++ ys ≡ n ++ (w ++ z) = rw (append_assoc, append_assoc) in
    let t : take 24 (n ++ (w ++ z)) ≡ n = take_at n (w ++ z) 24 len in
    let d : drop e (n ++ (w ++ z)) ≡ z = sym (ap (drop e) (append_assoc n w z)) ∙ drop_at (n ++ w) z e (omega (arith, length-append n w, length_little_endian (e - 24) x.1)) in
    let a : ltb (low_value l) (value n) ≡ true = name_low l n g s.0 ∙ s.1 in
    let m : value n ≤ hi = leb-true (value n) hi (name_high n u s.0 h ∙ q.1) in
    let r : are_entries e (length es) z (value (continued n)) hi ≡ true =
    row_entries e big es ys (at n) u (name_legal n s.0) h (omega (arith, name_value n s.0)) p.1 in
    let r' : are_entries e (length es) z (value n) hi ≡ true = ap (λ (v : ℕ). are_entries e (length es) z v hi) (sym (name_value n s.0)) ∙ r in
    rw (i, t, d, s.0, a) r'

-- A slot that passes was written, and is well formed.
module _ (y : Layout) (xs : List ℕ) (size : length xs ≡ 64 + entry_length y * y.b) (bytes : (i : ℕ) → get_or xs i 0 < 256) (t : Tested (entry_length y) y.b xs) where
  abbrev n : ℕ
  n = get_or xs 1 0

  abbrev low : Str
  low = take (get_or xs 2 0) (drop 8 xs)

  abbrev es : List Entry
  es = read_entries (entry_length y) n (drop 64 xs)

  split : (k m : ℕ) (ys : List ℕ) → drop k ys ≡ take m (drop k ys) ++ drop (k + m) ys
  split k m ys = sym (take-append-drop m (drop k ys)) ∙ ap (λ (r : List ℕ). take m (drop k ys) ++ r) (drop-drop m k ys)

  join : (a b c d e A B C D E : List ℕ) → xs ≡ a ++ (b ++ (c ++ (d ++ e))) → a ≡ A → b ≡ B → c ≡ C → d ≡ D → e ≡ E → xs ≡ A ++ (B ++ (C ++ (D ++ E)))
  join a b c d e A B C D E p ea eb ec ed ee = p ∙ rw (ea, eb, ec, ed, ee)

  whole : xs ≡ take 8 xs ++ (take 24 (drop 8 xs) ++ (take 24 (drop 32 xs) ++ (take 8 (drop 56 xs) ++ drop 64 xs)))
  whole =
      sym (take-append-drop 8 xs) ∙ ap (λ (r : List ℕ). take 8 xs ++ r) (split 8 24 xs
      ∙ ap (λ (r : List ℕ). take 24 (drop 8 xs) ++ r) (split 32 24 xs
      ∙ ap (λ (r : List ℕ). take 24 (drop 32 xs) ++ r) (split 56 8 xs)))

  length_low : length low ≡ get_or xs 2 0
  length_low = length-take-le (get_or xs 2 0) (drop 8 xs) (omega (arith, length-drop 8 xs, bound_short 8 (get_or xs 2 0) xs t.lower))

  length_high : length (high_in xs) ≡ get_or xs 3 0
  length_high = length-take-le (get_or xs 3 0) (drop 32 xs) (omega (arith, length-drop 32 xs, bound_short 32 (get_or xs 3 0) xs t.upper))

  clears : (is_all_zero (take 4 (drop 4 xs)) ≡ true) × (is_all_zero (take 8 (drop 56 xs)) ≡ true) × (is_all_zero (drop (64 + entry_length y * n) xs) ≡ true)
  unfolding is_all_clear
  clears =
      let p = both_true (is_all_zero (take 4 (drop 4 xs)) && is_all_zero (take 8 (drop 56 xs))) (is_all_zero (drop (64 + entry_length y * n) xs)) t.clear in
      let q = both_true (is_all_zero (take 4 (drop 4 xs))) (is_all_zero (take 8 (drop 56 xs))) p.0 in
      (q.0, q.1, p.1)

  zeros_at : (k from : ℕ) → from + k ≤ length xs → is_all_zero (take k (drop from xs)) ≡ true → take k (drop from xs) ≡ replicate k 0
  zeros_at k from h z = zeros_are (take k (drop from xs)) z ∙ ap (λ (m : ℕ). replicate m 0) (length-take-le k (drop from xs) (omega (arith, length-drop from xs)))

  header : take 8 xs ≡ 1 ∷ length es ∷ length (digits_of_low (low_of low)) ∷ length (high_in xs) ∷ replicate 4 0
  header =
      let ll : length (digits_of_low (low_of low)) ≡ get_or xs 2 0 = ap length (low_digits low) ∙ length_low in
      take-add 4 4 xs ∙ ap₂ (λ (p q : List ℕ). p ++ q) (first_four xs (omega arith)) (zeros_at 4 4 (omega arith) clears.0)
      ∙ rw (t.first, length-read_entries (entry_length y) n (drop 64 xs), ll, length_high)

  bound_at : (from len : ℕ) → from + 24 ≤ length xs → is_a_bound len (take 24 (drop from xs)) ≡ true → take 24 (drop from xs) ≡ padded 24 (take len (drop from xs))
  bound_at from len h e =
      let l : length (take 24 (drop from xs)) ≡ 24 = length-take-le 24 (drop from xs) (omega (arith, length-drop from xs)) in
      padded_part len 24 (take 24 (drop from xs)) l (bound_short from len xs e) (bounded len (take 24 (drop from xs)) e).zeros
      ∙ ap (padded 24) (take_bound from len xs e)

  rest_entries : drop 64 xs ≡ padded (entry_length y * y.b) (bytes_of_entries (entry_length y) es)
  rest_entries =
      let z = drop 64 xs in
      let l : length z ≡ entry_length y * y.b = omega (arith, length-drop 64 xs) in
      let d : is_all_zero (drop (entry_length y * n) z) ≡ true = ap is_all_zero (drop-drop (entry_length y * n) 64 xs) ∙ clears.2 in
      padded_part (entry_length y * n) (entry_length y * y.b) z l (part_least (entry_length y) n y.b t.fits) d
      ∙ ap (padded (entry_length y * y.b)) (sym (bytes_entries (entry_length y) n z (omega (arith, (entry_size y).least)) (omega (arith, part_least (entry_length y) n y.b t.fits)) (bytes_drop 64 xs (bytes_each xs bytes))))

  is_written : xs ≡ bytes_of_slot y (used_of (entry_length y) xs)
  unfolding bytes_of_slot used_of
  is_written =
      join (take 8 xs) (take 24 (drop 8 xs)) (take 24 (drop 32 xs)) (take 8 (drop 56 xs)) (drop 64 xs)
      (1 ∷ length es ∷ length (digits_of_low (low_of low)) ∷ length (high_in xs) ∷ replicate 4 0)
      (padded 24 (digits_of_low (low_of low))) (padded 24 (high_in xs)) (replicate 8 0) (padded (entry_length y * y.b) (bytes_of_entries (entry_length y) es))
      whole header (bound_at 8 (get_or xs 2 0) (omega arith) t.lower ∙ ap (padded 24) (sym (low_digits low)))
      (bound_at 32 (get_or xs 3 0) (omega arith) t.upper) (zeros_at 8 56 (omega arith) clears.1) rest_entries

  legal_low : (x : Str) → is_legal_bound x ≡ true → is_legal_low (low_of x) ≡ true
  unfolding is_legal_low low_of
  legal_low [] e = refl
  legal_low (d ∷ x) e = e

  pub is_well : is_well_formed y.b (used (low_of low) (high_in xs) es) ≡ true
  unfolding is_well_formed
  is_well =
      let g = legal_low low (bound_legal 8 (get_or xs 2 0) xs t.lower) in
      let h = bound_legal 32 (get_or xs 3 0) xs t.upper in
      let a : is_above (low_of low) (high_in xs) ≡ true = sym (low_above (low_of low) (high_in xs) g h) ∙ t.ranged in
      let k : low_value (low_of low) ≤ value (continued (high_in xs)) = omega (arith, ltb-true (low_value (low_of low)) (value (continued (high_in xs))) t.ranged) in
      let r = sym (entries_is_row (entry_length y) n (drop 64 xs) (low_of low) (high_in xs) g h k) ∙ t.rowed in
      rw (g, h, a, r, length-read_entries (entry_length y) n (drop 64 xs)) (le-leb n y.b t.fits)

  pub is_read : read_used_slot y xs ≡ some (used (low_in xs) (high_in xs) es)
  unfolding read_used_slot used_of
  is_read =
      let same : same_str xs (bytes_of_slot y (used_of (entry_length y) xs)) ≡ true = ap (same_str xs) (sym is_written) ∙ same_str_self xs in
      rw same

  pub well_read : (k : Bucket) → key_value k.low ≡ low_value (low_in xs) → key_value k.high ≡ value (continued (high_in xs)) → WellRead y xs k
  well_read k f g =
      record {
        lower = low_of low;
        upper = high_in xs;
        entries = es;
        is = is_read;
        well = is_well;
        low_is = f;
        high_is = g;
      }

module _ (y : Layout) (l : Low) (u : Str) (es : List Entry) (w : is_well_formed y.b (used l u es) ≡ true) where
  abbrev x : List ℕ
  x = padded 24 (digits_of_low l)

  abbrev upper_part : List ℕ
  upper_part = padded 24 u

  abbrev z : List ℕ
  z = replicate 8 0 ++ padded (entry_length y * y.b) (bytes_of_entries (entry_length y) es)

  abbrev xs : List ℕ
  xs = bytes_of_slot y (used l u es)

  parts : Wells y.b l u es
  parts = wells y.b l u es w

  low_fits : length (digits_of_low l) ≤ 24
  low_fits = (is_legal_bound_bound (digits_of_low l) (low_legal l parts.low)).fits

  high_fits : length u ≤ 24
  high_fits = (is_legal_bound_bound u parts.high).fits

  from_low : drop 8 xs ≡ x ++ (upper_part ++ z)
  unfolding bytes_of_slot
  from_low = refl

  from_high : drop 32 xs ≡ upper_part ++ z
  from_high = sym (drop-drop 24 8 xs) ∙ ap (drop 24) from_low ∙ drop_at x (upper_part ++ z) 24 (length_padded 24 (digits_of_low l))

  from_zeros : drop 56 xs ≡ z
  from_zeros = sym (drop-drop 24 32 xs) ∙ ap (drop 24) from_high ∙ drop_at upper_part z 24 (length_padded 24 u)

  head_is : (get_or xs 0 0 ≡ 1) × (get_or xs 1 0 ≡ length es) × (get_or xs 2 0 ≡ length (digits_of_low l)) × (get_or xs 3 0 ≡ length u) × (take 4 (drop 4 xs) ≡ replicate 4 0)
  unfolding bytes_of_slot
  head_is = (refl, refl, refl, refl, refl)

  low_is : low_in xs ≡ l
  low_is =
      ap₂ (λ (k : ℕ) (v : List ℕ). low_of (take k v)) head_is.2 from_low
      ∙ ap low_of (padded_front 24 (digits_of_low l) (upper_part ++ z) low_fits) ∙ low_of_digits_of_low (is_above_above l u parts.above)

  high_is : high_in xs ≡ u
  high_is = ap₂ (λ (k : ℕ) (v : List ℕ). take k v) head_is.3 from_high ∙ padded_front 24 u z high_fits

  length_row : length (bytes_of_entries (entry_length y) es) ≡ entry_length y * length es
  length_row = length-bytes_of_entries (entry_length y) (omega (arith, (entry_size y).least)) (is_row_row l es u parts.row)

  padded_row : padded (entry_length y * y.b) (bytes_of_entries (entry_length y) es) ≡ bytes_of_entries (entry_length y) es ++ replicate (entry_length y * y.b - length (bytes_of_entries (entry_length y) es)) 0
  padded_row = padded_short (entry_length y * y.b) (bytes_of_entries (entry_length y) es) (omega (arith, length_row, part_least (entry_length y) (length es) y.b parts.most))

  unused : is_all_zero (drop (64 + entry_length y * length es) xs) ≡ true
  unused =
      let k = entry_length y * y.b - length (bytes_of_entries (entry_length y) es) in
      ap is_all_zero (sym (drop-drop (entry_length y * length es) 64 xs) ∙ ap (drop (entry_length y * length es)) (entries_slot y l u es ∙ padded_row)
      ∙ drop_at (bytes_of_entries (entry_length y) es) (replicate k 0) (entry_length y * length es) length_row)
      ∙ are_zeros k

  is_clear : is_all_clear xs (64 + entry_length y * get_or xs 1 0) ≡ true
  unfolding is_all_clear
  is_clear =
      let e : take 8 (drop 56 xs) ≡ replicate 8 0 = ap (take 8) from_zeros in
      rw (head_is.1, head_is.4, e, are_zeros 4, are_zeros 8) unused

  bound_part : (from len : ℕ) (p q : List ℕ) → len ≡ length p → drop from xs ≡ padded 24 p ++ q → is_legal_bound p ≡ true → is_a_bound len (take 24 (drop from xs)) ≡ true
  bound_part from len p q c d e =
      ap₂ is_a_bound c (ap (take 24) d ∙ take_at (padded 24 p) q 24 (length_padded 24 p)) ∙ padded_bound p e

  pub well_tested : Tested (entry_length y) y.b xs
  well_tested =
      let lo = low_value l in
      let hi = value (continued u) in
      let r : ltb lo hi ≡ true = low_above l u parts.low parts.high ∙ parts.above in
      let k : lo ≤ hi = omega (arith, ltb-true lo hi r) in
      record {
        first = head_is.0;
        fits = omega (arith, head_is.1, parts.most);
        clear = is_clear;
        lower = bound_part 8 (get_or xs 2 0) (digits_of_low l) (upper_part ++ z) head_is.2 from_low (low_legal l parts.low);
        upper = bound_part 32 (get_or xs 3 0) u z head_is.3 from_high parts.high;
        ranged = ap₂ (λ (m : Low) (v : Str). ltb (low_value m) (value (continued v))) low_is high_is ∙ r;
        rowed =
            ap₂ (λ (m : Low) (v : Str). are_entries (entry_length y) (get_or xs 1 0) (drop 64 xs) (low_value m) (value (continued v))) low_is high_is
            ∙ ap₂ (λ (m : ℕ) (v : List ℕ). are_entries (entry_length y) m v lo hi) head_is.1 (entries_slot y l u es ∙ padded_row)
            ∙ row_entries (entry_length y) (omega (arith, (entry_size y).least)) es (replicate (entry_length y * y.b - length (bytes_of_entries (entry_length y) es)) 0) l u parts.low parts.high k parts.row;
      }

passes : (y : Layout) (xs : List ℕ) → xs ≡ bytes_of_slot y (used_of (entry_length y) xs) → is_well_formed y.b (used_of (entry_length y) xs) ≡ true → Tested (entry_length y) y.b xs
unfolding used_of
passes y xs e w = rw (sym e) at (well_tested y (low_in xs) (high_in xs) (read_entries (entry_length y) (get_or xs 1 0) (drop 64 xs)) w)

-- So a slot that does not pass is none that was written and is well formed.
pub not_read : (y : Layout) (xs : List ℕ) → (Tested (entry_length y) y.b xs → ⊥) → (s : Slot) → read_used_slot y xs ≡ some s → is_well_formed y.b s ≡ false
unfolding read_used_slot
not_read y xs f s = go (same_str xs (bytes_of_slot y (used_of (entry_length y) xs))) (is_well_formed y.b s) refl refl
  where
    go : (t r : Bool) → same_str xs (bytes_of_slot y (used_of (entry_length y) xs)) ≡ t → is_well_formed y.b s ≡ r → cond t (some (used_of (entry_length y) xs)) nothing ≡ some s → r ≡ false
    go t false e w h = refl
    go false true e w h = clash cc
    go true true e w h =
        let i : used_of (entry_length y) xs ≡ s = cc in
        absurd (f (passes y xs (same_str_equal xs (bytes_of_slot y (used_of (entry_length y) xs)) e) (ap (is_well_formed y.b) i ∙ w)))

-- As the code says it, which knows the entry size and b.
module _ (e b : ℕ) (xs : List ℕ) where
  pub ill : (Tested e b xs → ⊥) → (y : Layout) → entry_length y ≡ e → y.b ≡ b → Formed y xs None
  ill f y p q = not_read y xs (λ t. f (rw (p, q) at t))

  pub well_formed : length xs ≡ 64 + e * b → ((i : ℕ) → get_or xs i 0 < 256) → Tested e b xs → (k : Bucket) → key_value k.low ≡ low_value (low_in xs)
      → key_value k.high ≡ value (continued (high_in xs)) → (y : Layout) → entry_length y ≡ e → y.b ≡ b → Formed y xs (Some k)
  well_formed size bytes t k f g y p q = well_read y xs (rw (p, q) size) bytes (rw (p, q) t) k f g

pub same_entries : (e : ℕ) {m n : ℕ} {x y : List ℕ} {p q v w : ℕ} → m ≡ n → x ≡ y → p ≡ q → v ≡ w → are_entries e m x p v ≡ are_entries e n y q w
same_entries e i f g h = rw (i, f, g, h)
