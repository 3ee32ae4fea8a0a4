-- List, put together from its stages: the entries between two names stand in the buckets from the first name's to the second's.
use Rattle.model.proofs.Prelude.{Bool, List, [], ◌&&◌, ◌*◌, ◌++◌, ◌+◌, ◌-◌, ◌/◌, ◌<◌, ◌∙◌, ◌∷◌, ◌≡◌, ◌≤◌, ap, append_assoc, append-nil, ap₂, arith, cond, dec_lt, drop, drop-cons, false, get_or, get_or-drop, get_or-take, le-ltb, length, length-append, length-drop, length-take, lt-ltb, ltb, ltb-true, refl, some, suc, sym, take, take-append-drop, true, zero, ℕ}
use native.Mathlib.Nat.{mul-div_cancel_left, mul-zero}
use Rattle.model.specs.declared.Cause.{Cause}
use Rattle.model.specs.declared.Cause.TheVariants.{IllegalName, ShortOutput}
use Rattle.model.specs.Results.{ListAnswer, ListRefused as Refused, Listed}
use Rattle.model.specs.declared.Trie.{Trie}
use Rattle.model.specs.Order.{Low, Str, ◌⊑◌}
use Rattle.model.specs.Names.{Legal, filled}
use Rattle.model.specs.Entries.{Entry, Row, entry, name_at, no_entries}
use Rattle.model.specs.Files.{IsUsed, Slot, entries_of, free, head, lower_of, slot_at, upper_of, used}
use Rattle.model.specs.Searches.{order_of}
use Rattle.model.specs.Format.{AreBytes, bytes_at_slot, bytes_of_entries, bytes_of_entry, entry_length, read_slot, slot_size}
use Rattle.model.specs.Calls.{between, entries_in, fine, list_entries, list_of, list_on_looked, looked_of, refusing}
use Rattle.model.proofs.Order.{le_trans, low_lower, lt_le}
use Rattle.model.specs.declared.Layout.{Layout}
use Rattle.model.specs.Tests.{is_at_most, is_legal_name}
use Rattle.model.proofs.Deciding.{le?, over}
use Rattle.model.proofs.Tests.{both_true, le_is_at_most, lt_is_at_most}
use Rattle.model.proofs.Format.{bytes_bytes_at_slot, entry_size, length-bytes_of_entry, length-bytes_of_slot, read_file_read, read_slot-read_file}
use Rattle.model.proofs.Names.{legal_length}
use Rattle.model.proofs.Entries.{row_at}
use Rattle.model.proofs.Files.{slot_row, used_inside}
use Rattle.model.proofs.Removals.{entries_in_append}
use Rattle.digits.specs.Keys.{key_value, value}
use Rattle.slots.specs.Parts.{all_of, part_of as searched}
use Rattle.slots.proofs.Spots.{all_listed, part_listed}
use Rattle.file.specs.Holders.{Holder, Ordered, placed, upper_at}
use Rattle.file.proofs.Holding.{place_number, place_used, places_apart}
use Rattle.file.proofs.Readings.{used_read}
use Rattle.bucket.specs.Forms.{ReadAs}
use Rattle.bucket.specs.Slots.{OfSize}
use Rattle.bucket.proofs.Slots.{read_written}
use Rattle.reading.specs.Outcomes.{listed}
use Rattle.reading.specs.declared.span.Span.{Span}
use Rattle.reading.specs.Listings.{Written, bytes_of, part_of, parts}

-- What lies between two names, of entries put together.
between_append : (n m : Str) (es fs : List Entry) → between n m (es ++ fs) ≡ between n m es ++ between n m fs
unfolding between
between_append n m [] fs = refl
between_append n m (e ∷ es) fs = go (is_at_most n e.0 && is_at_most e.0 m) (between_append n m es fs)
  where
    go : (t : Bool) → between n m (es ++ fs) ≡ between n m es ++ between n m fs
        → cond t (e ∷ between n m (es ++ fs)) (between n m (es ++ fs)) ≡ cond t (e ∷ between n m es) (between n m es) ++ between n m fs
    go true i = ap (λ (x : List Entry). e ∷ x) i
    go false i = i

between_none : (n m : Str) (es : List Entry) → ((i : ℕ) → i < length es → n ⊑ name_at es i → name_at es i ⊑ m → ⊥) → between n m es ≡ []
unfolding between
between_none n m [] f = refl
between_none n m (e ∷ es) f =
    let rest : between n m es ≡ [] = between_none n m es (λ i h. f (suc i) (omega arith)) in
    elim (le? n e.0) [
      | no p ↦ rw (lt_is_at_most n e.0 p) rest
      | yes p ↦ rw (le_is_at_most n e.0 p, lt_is_at_most e.0 m (f 0 (omega arith) p)) rest
    ]

between_all : (n m : Str) (es : List Entry) → ((i : ℕ) → i < length es → (n ⊑ name_at es i) × (name_at es i ⊑ m)) → between n m es ≡ es
unfolding between
between_all n m [] f = refl
between_all n m (e ∷ es) f =
    let rest : between n m es ≡ es = between_all n m es (λ i h. f (suc i) (omega arith)) in
    let p = f 0 (omega arith) in
    rw (le_is_at_most n e.0 p.0, le_is_at_most e.0 m p.1, rest)

entries_append : (z : ℕ) (es fs : List Entry) → bytes_of_entries z (es ++ fs) ≡ bytes_of_entries z es ++ bytes_of_entries z fs
unfolding bytes_of_entries
entries_append z [] fs = refl
entries_append z (e ∷ es) fs = ap (λ (x : List ℕ). bytes_of_entry z e ++ x) (entries_append z es fs) ∙ sym (append_assoc (bytes_of_entry z e) (bytes_of_entries z es) (bytes_of_entries z fs))

-- Each entry has as many bytes as the layout says.
between_length : (z : ℕ) → 24 ≤ z → {l : Low} {u : Str} {es : List Entry} (n m : Str) → Row l es u → length (bytes_of_entries z (between n m es)) ≡ z * length (between n m es)
unfolding between bytes_of_entries
between_length z h n m no_entries = sym (mul-zero z)
between_length z h n m (entry {e = e} {es = es} g a c r) = go (is_at_most n e.0 && is_at_most e.0 m) (between_length z h n m r)
  where
    go : (t : Bool) → length (bytes_of_entries z (between n m es)) ≡ z * length (between n m es)
        → length (bytes_of_entries z (cond t (e ∷ between n m es) (between n m es))) ≡ z * length (cond t (e ∷ between n m es) (between n m es))
    go true i = omega (arith, length-append (bytes_of_entry z e) (bytes_of_entries z (between n m es)), length-bytes_of_entry z h e (legal_length g))
    go false i = i

in_none : (n m : Str) (fs : List Slot) (Bs : List ℕ) → ((i : ℕ) → i < length Bs → between n m (entries_of (slot_at fs (get_or Bs i 0))) ≡ []) → between n m (entries_in fs Bs) ≡ []
unfolding entries_in between
in_none n m fs [] f = refl
in_none n m fs (B ∷ Bs) f =
    between_append n m (entries_of (slot_at fs B)) (entries_in fs Bs) ∙ ap₂ (λ (x y : List Entry). x ++ y) (f 0 (omega arith)) (in_none n m fs Bs (λ i h. f (suc i) (omega arith)))

module _ (s : Span) {count : ℕ} {fs : List Slot} (O : Ordered s.file.now s.size s.order.now count fs) where
  abbrev xs : List ℕ
  xs = s.file.now

  abbrev order : List ℕ
  order = s.order.now

  abbrev y : Layout
  y = s.size.layout

  abbrev z : ℕ
  z = entry_length y

  least : 24 ≤ z
  least = omega (arith, (entry_size y).least)

  place_row : (i : ℕ) → i < count → Row (lower_of (head (placed fs i))) (entries_of (placed fs i)) (upper_at fs i)
  place_row i h = slot_row y.b (placed fs i) (O.sound.well (get_or (order_of fs) i 0)) (place_used O i h)

  -- The slot at a place, as its bytes are read.
  abbrev slot_bytes : ℕ → List ℕ
  slot_bytes i = bytes_at_slot y (get_or order i 0) xs

  place_read : (i : ℕ) → i < count → ReadAs y (slot_bytes i) (lower_of (head (placed fs i))) (upper_at fs i) (entries_of (placed fs i))
  place_read i h = go (placed fs i) refl (place_used O i h)
    where
      go : (x : Slot) → placed fs i ≡ x → IsUsed (head x) → ReadAs y (slot_bytes i) (lower_of (head x)) (upper_of (head x)) (entries_of x)
      go free e u = absurd u
      go (used l v es) e u =
          let B = get_or (order_of fs) i 0 in
          let r : read_slot y (slot_bytes i) ≡ some (used l v es) = rw (place_number O i h) (read_slot-read_file xs O.is B (used_inside fs B (place_used O i h)) ∙ ap some e) in
          (used_read y (slot_bytes i) (used l v es) tt r, rw e at (O.sound.well B))

  place_size : (i : ℕ) → i < count → OfSize (slot_bytes i) y
  unfolding slot_size
  place_size i h =
      let r = read_written y (slot_bytes i) (used (lower_of (head (placed fs i))) (upper_at fs i) (entries_of (placed fs i))) (place_read i h).0 in
      (ap length r.1 ∙ length-bytes_of_slot y (used (lower_of (head (placed fs i))) (upper_at fs i) (entries_of (placed fs i))), (read_file_read xs O.is).headed.sizes.b_most)

  module _ (bytes : AreBytes xs) (n m : Str) (f : Legal n) (g : Legal m) where
    parts_length : (k j : ℕ) → j + k ≤ count
        → length (bytes_of_entries z (between n m (entries_in fs (take k (drop j (order_of fs)))))) ≡ z * length (between n m (entries_in fs (take k (drop j (order_of fs)))))
    unfolding entries_in bytes_of_entries between
    parts_length zero j h = sym (mul-zero z)
    parts_length (suc k) j h =
        let es = between n m (entries_of (placed fs j)) in
        let Cs = take k (drop (suc j) (order_of fs)) in
        let ds = between n m (entries_in fs Cs) in
        let c : take (suc k) (drop j (order_of fs)) ≡ get_or (order_of fs) j 0 ∷ Cs = ap (take (suc k)) (drop-cons (order_of fs) j 0 (omega (arith, O.count_is))) in
        let e : between n m (entries_in fs (take (suc k) (drop j (order_of fs)))) ≡ es ++ ds =
        ap (λ (x : List ℕ). between n m (entries_in fs x)) c ∙ between_append n m (entries_of (placed fs j)) (entries_in fs Cs) in
        rw (e, entries_append z es ds, length-append (bytes_of_entries z es) (bytes_of_entries z ds), length-append es ds) (omega (arith, between_length z least n m (place_row j (omega arith)), parts_length k (suc j) (omega arith)))

    -- The buckets before the first name's have names below it, those behind the second name's names above it.
    module _ (P : Holder fs n s.from) (Q : Holder fs m s.to) where
      abbrev from : ℕ
      from = s.from

      abbrev to : ℕ
      to = s.to

      before_none : (i : ℕ) → i < from → between n m (entries_of (placed fs i)) ≡ []
      before_none i h =
          between_none n m (entries_of (placed fs i))
          (λ k j a c. P.before i h (le_trans a (row_at (place_row i (omega (arith, P.inside, O.count_is))) k j).2))

      behind_none : (i : ℕ) → to < i → i < count → between n m (entries_of (placed fs i)) ≡ []
      behind_none i h d =
          between_none n m (entries_of (placed fs i))
          (λ k j a c. over (low_lower (places_apart O to i h d) (row_at (place_row i d) k j).1) (le_trans c Q.range.2))

      -- Those of the buckets inside lie between the two.
      inside_all : (i : ℕ) → from < i → i < to → between n m (entries_of (placed fs i)) ≡ entries_of (placed fs i)
      inside_all i h d =
          let r : i < count = omega (arith, Q.inside, O.count_is) in
          between_all n m (entries_of (placed fs i)) (λ k j.
          let e = row_at (place_row i r) k j in
          (le_trans P.range.2 (lt_le (over (low_lower (places_apart O from i h r) e.1))), le_trans e.2 (lt_le (Q.before i d))))

      module _ (p : key_value s.low ≡ value n) (q : key_value s.high ≡ value m) where
        -- So the bytes of the slot at a place are those of its entries between the names.
        part_entries : (j : ℕ) → j < count → part_of s j ≡ bytes_of_entries z (between n m (entries_of (placed fs j)))
        unfolding part_of
        part_entries j h = go (ltb from j && ltb j to) refl
          where
            ys : List ℕ
            ys = slot_bytes j

            b : AreBytes ys
            b = bytes_bytes_at_slot y (get_or order j 0) xs bytes

            go : (t : Bool) → (ltb from j && ltb j to) ≡ t
                → cond t (all_of y ys) (searched y ys (key_value s.low) (key_value s.high)) ≡ bytes_of_entries z (between n m (entries_of (placed fs j)))
            go true e =
                let c = both_true (ltb from j) (ltb j to) e in
                all_listed y ys (place_size j h) b (place_read j h) ∙ ap (bytes_of_entries z) (sym (inside_all j (ltb-true from j c.0) (ltb-true j to c.1)))
            go false e = part_listed y ys (place_size j h) b (place_read j h) n m (key_value s.low) (key_value s.high) f g p q

        -- And those of the slots at places one after another are the entries there.
        parts_entries : (k j : ℕ) → j + k ≤ count → parts s k j ≡ bytes_of_entries z (between n m (entries_in fs (take k (drop j (order_of fs)))))
        unfolding parts entries_in bytes_of_entries between
        parts_entries zero j h = refl
        parts_entries (suc k) j h =
            let es = entries_of (placed fs j) in
            let Cs = take k (drop (suc j) (order_of fs)) in
            let c : take (suc k) (drop j (order_of fs)) ≡ get_or (order_of fs) j 0 ∷ Cs = ap (take (suc k)) (drop-cons (order_of fs) j 0 (omega (arith, O.count_is))) in
            ap₂ (λ (x y : List ℕ). x ++ y) (part_entries j (omega arith)) (parts_entries k (suc j) (omega arith))
            ∙ sym (ap (λ (x : List ℕ). bytes_of_entries z (between n m (entries_in fs x))) c ∙ ap (bytes_of_entries z) (between_append n m es (entries_in fs Cs)) ∙ entries_append z (between n m es) (between n m (entries_in fs Cs)))

      abbrev listing : ℕ → List Entry
      listing k = between n m (entries_in fs (take k (drop from (order_of fs))))

      within_all : from ≤ to → listing (to + 1 - from) ≡ between n m (entries_in fs (order_of fs))
      within_all h =
          let Bs = order_of fs in
          let k = to + 1 - from in
          let As = take from Bs in
          let Cs = take k (drop from Bs) in
          let Ds = drop k (drop from Bs) in
          let e : As ++ (Cs ++ Ds) ≡ Bs = ap (λ (x : List ℕ). As ++ x) (take-append-drop k (drop from Bs)) ∙ take-append-drop from Bs in
          let a : between n m (entries_in fs As) ≡ [] = in_none n m fs As (λ i d.
          let z : i < from = omega (arith, length-take from Bs) in rw (get_or-take from Bs i 0 z) (before_none i z)) in
          let d : between n m (entries_in fs Ds) ≡ [] = in_none n m fs Ds (λ i d.
          rw (get_or-drop k (drop from Bs) i 0, get_or-drop from Bs (k + i) 0) (behind_none (from + (k + i)) (omega arith) (omega (arith, O.count_is, length-drop k (drop from Bs), length-drop from Bs)))) in
          sym (
          ap (λ (x : List ℕ). between n m (entries_in fs x)) (sym e)
          ∙ ap (between n m) (entries_in_append fs As (Cs ++ Ds) ∙ ap (λ (x : List Entry). entries_in fs As ++ x) (entries_in_append fs Cs Ds))
          ∙ between_append n m (entries_in fs As) (entries_in fs Cs ++ entries_in fs Ds)
          ∙ ap₂ (λ (x y : List Entry). x ++ y) a (between_append n m (entries_in fs Cs) (entries_in fs Ds) ∙ ap (λ (x : List Entry). between n m (entries_in fs Cs) ++ x) d ∙ append-nil (between n m (entries_in fs Cs)))
          )

      -- Where the second name's bucket is before the first's, the second name is below the first.
      within_none : to < from → (es : List Entry) → between n m es ≡ []
      within_none h es = between_none n m es (λ i d a c. P.before to h (le_trans (le_trans a c) Q.range.2))

      all_between : listing (to + 1 - from) ≡ between n m (entries_in fs (order_of fs))
      all_between = elim (dec_lt to from) [
        | no h ↦ within_all (omega arith)
        | yes h ↦ within_none h (entries_in fs (take (to + 1 - from) (drop from (order_of fs)))) ∙ sym (within_none h (entries_in fs (order_of fs)))
      ]

      pub bytes_are : key_value s.low ≡ value n → key_value s.high ≡ value m → bytes_of s ≡ bytes_of_entries z (between n m (entries_in fs (order_of fs)))
      bytes_are p q = parts_entries p q (to + 1 - from) from (omega (arith, P.inside, Q.inside, O.count_is)) ∙ ap (bytes_of_entries z) all_between

      pub all_length : length (bytes_of_entries z (between n m (entries_in fs (order_of fs)))) ≡ z * length (between n m (entries_in fs (order_of fs)))
      all_length = rw all_between at (parts_length (to + 1 - from) from (omega (arith, P.inside, Q.inside, O.count_is)))

-- R10.7; else the entries are written over the beginning of the output, and their number is given (R9.8).
module _ (s : Span) {len : ℕ} (l : len ≡ length (bytes_of s)) {count : ℕ} {fs : List Slot} (O : Ordered s.file.now s.size s.order.now count fs)
    (given : AreBytes s.file.now) (n m : Str) (f : Legal n) (g : Legal m) (P : Holder fs n s.from) (Q : Holder fs m s.to)
    (p : key_value s.low ≡ value n) (q : key_value s.high ≡ value m) (out : List ℕ) where
  abbrev all : List Entry
  all = between n m (entries_in fs (order_of fs))

  written : bytes_of s ≡ bytes_of_entries (entry_length s.size.layout) all
  written = bytes_are s O given n m f g P Q p q

  length_is : len ≡ entry_length s.size.layout * length all
  length_is = l ∙ ap length written ∙ all_length s O given n m f g P Q

  pub list_short : length out < len → listed (Refused ShortOutput) out ≡ list_entries (entry_length s.size.layout) all out
  unfolding list_entries
  list_short h = rw (lt-ltb (length out) (entry_length s.size.layout * length all) (omega (arith, length_is)))

  pub list_all : {left : List ℕ} → len ≤ length out → Written (bytes_of s) out left → {k : ℕ} → k ≡ len / entry_length s.size.layout
      → listed (Listed k) left ≡ list_entries (entry_length s.size.layout) all out
  unfolding list_entries
  list_all {left} h u {k} r =
      let i : k ≡ length all = r ∙ ap (λ (n : ℕ). n / entry_length s.size.layout) length_is ∙ mul-div_cancel_left (length all) (omega (arith, (entry_size s.size.layout).least)) in
      let a : left ≡ bytes_of_entries (entry_length s.size.layout) all ++ drop (entry_length s.size.layout * length all) out =
      u ∙ ap₂ (λ (x : List ℕ) (n : ℕ). x ++ drop n out) written (sym l ∙ length_is) in
      rw (le-ltb (length out) (entry_length s.size.layout * length all) (omega (arith, length_is)), a, i)

-- List, in the order 1, 2, 3, 4, 7 (R10.9).
module _ (xs : List ℕ) (t : Trie) (low high out : List ℕ) where
  pub first_illegal : is_legal_name low ≡ false → listed (Refused IllegalName) out ≡ list_of xs t low high out
  unfolding list_of
  first_illegal e = rw e

  pub second_illegal : is_legal_name low ≡ true → is_legal_name high ≡ false → listed (Refused IllegalName) out ≡ list_of xs t low high out
  unfolding list_of
  second_illegal e f = rw (e, f)

  pub list_refused : {c : Cause} → is_legal_name low ≡ true → is_legal_name high ≡ true → looked_of xs t ≡ refusing c → listed (Refused c) out ≡ list_of xs t low high out
  unfolding list_of list_on_looked
  list_refused e f g = rw (e, f, g)

  pub list_fine : {y : Layout} {fs : List Slot} (r : ListAnswer) (left : List ℕ) → is_legal_name low ≡ true → is_legal_name high ≡ true → looked_of xs t ≡ fine y fs
      → listed r left ≡ list_entries (entry_length y) (between (filled low) (filled high) (entries_in fs (order_of fs))) out → listed r left ≡ list_of xs t low high out
  unfolding list_of list_on_looked
  list_fine r left e f g h = h ∙ rw (e, f, g)
