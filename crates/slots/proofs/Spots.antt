-- A slot that is used and well formed, read: the spot of a name, what is held there, and the entries from one name to another.
use Rattle.model.proofs.Prelude.{Bool, List, Option, [], ◌&&◌, ◌*◌, ◌++◌, ◌+◌, ◌-◌, ◌<◌, ◌^◌, ◌∙◌, ◌≡◌, ◌≤◌, ap, ap₂, arith, clash, cond, drop, eqb, false, length, ltb, ltb-true, nothing, refl, some, sub-zero, suc, sym, take, take-length, true, ℕ}
use Rattle.model.specs.declared.Layout.{Layout}
use Rattle.model.specs.Order.{Low, Str, at}
use Rattle.model.specs.Calls.{between}
use Rattle.model.specs.Entries.{Entry, Row, find, insert, without}
use Rattle.model.specs.Format.{AreBytes, bytes_of_entries, bytes_of_entry, entry_length, padded, read_entries, value_of}
use Rattle.model.specs.Names.{Legal}
use Rattle.model.proofs.Deciding.{over}
use Rattle.model.proofs.Format.{Contents, bytes_drop, contents_read_slot, entry_size, length_padded}
use Rattle.model.proofs.Files.{well_parts}
use Rattle.model.proofs.Merging.{row_join}
use Rattle.model.proofs.Order.{low_at, lt_le}
use Rattle.model.proofs.Tests.{both_true}
use Rattle.digits.specs.Keys.{value}
use Rattle.entries.specs.Rows.{below, held_at, held_under, is_at, place, room, spliced_bytes, values}
use Rattle.entries.proofs.Lists.{content_there, held_find, joined_list, length-read_entries, part_between, part_row, rank_place, spliced_held, spliced_new, spliced_without}
use Rattle.entries.proofs.Products.{room_most}
use Rattle.entries.proofs.Places.{place_found}
use Rattle.bucket.specs.Forms.{ReadAs}
use Rattle.bucket.specs.Slots.{OfSize, count_at}
use Rattle.bucket.proofs.Slots.{Reads, count_is, entries_fit, read_used, reads, row_read}
use Rattle.slots.specs.Parts.{all_of, part_of}
use Rattle.slots.specs.Spots.{RowOf, SpotIn, is_some_value}
use Rattle.slots.specs.declared.spot.Spot.{Spot}

-- A name that is held at a place is one of the entries.
pub held_inside : (e : ℕ) (xs : List ℕ) (count i v : ℕ) → is_at e xs count i v ≡ true → i < count
unfolding is_at
held_inside e xs count i v h = ltb-true i count (both_true (ltb i count) (eqb (value (take 24 (drop (e * i) xs))) v) h).0

-- Held or not is whether something is held.
some_held : (e : ℕ) (xs : List ℕ) (count i v : ℕ) → is_at e xs count i v ≡ is_some_value (held_at e i xs count v)
unfolding is_at held_at is_some_value
some_held e xs count i v = go (ltb i count && eqb (value (take 24 (drop (e * i) xs))) v)
  where
    go : (t : Bool) → t ≡ is_some_value (cond t (some (value_of (take (e - 24) (drop (e * i + 24) xs)))) nothing)
    go true = refl
    go false = refl

-- Entries read at the beginning of a row are as many as are read.
pub row_of : (y : Layout) {ws : List Entry} (n : ℕ) (row : List ℕ) → read_entries (entry_length y) n row ≡ ws → RowOf y row ws × (length ws ≡ n)
row_of y n row q =
    let k = sym (ap length q) ∙ length-read_entries (entry_length y) n row in
    (ap (λ (m : ℕ). read_entries (entry_length y) m row) k ∙ q, k)

module _ (y : Layout) (xs : List ℕ) (size : OfSize xs y) (bytes : AreBytes xs) {l : Low} {u : Str} {es : List Entry} (r : ReadAs y xs l u es) where
  abbrev e : ℕ
  e = entry_length y

  abbrev count : ℕ
  count = count_at y.b xs

  abbrev behind : List ℕ
  behind = drop 64 xs

  pub slot_reads : Reads y xs l u es
  slot_reads = reads y xs r.0 r.1

  pub slot_contents : Contents e es
  slot_contents = contents_read_slot y xs bytes (read_used y xs r.0)

  pub slot_count : count ≡ length es
  slot_count = count_is slot_reads

  pub slot_row : read_entries e count behind ≡ es
  slot_row = row_read slot_reads slot_contents

  pub slot_fits : e * count ≤ length behind
  slot_fits = entries_fit xs size.0 slot_reads

  pub slot_is_row : Row l (read_entries e count behind) u
  slot_is_row = rw slot_row slot_reads.row

  module _ (n : Str) (g : Legal n) (v : ℕ) (q : v ≡ value n) where
    ranked : below v (values e count behind) ≡ place n es
    ranked = rank_place e count behind n v slot_is_row g q ∙ ap (place n) slot_row

    pub held_found : held_under e behind count v ≡ find n es
    held_found = held_find e count behind n v slot_is_row g q ∙ ap (find n) slot_row

    -- The spot as the code finds it.
    pub spot_is : (s : Spot) → s.count ≡ count → s.place ≡ below v (values e count behind) → s.held ≡ is_at e behind count s.place v → SpotIn s n es
    spot_is s a b c = record {
      counted = a ∙ slot_count;
      placed = b ∙ ranked;
      held_is = c ∙ ap (λ (i : ℕ). is_at e behind count i v) b ∙ some_held e behind count (below v (values e count behind)) v ∙ ap is_some_value held_found;
    }

  -- The content at the spot of a name that is held.
  pub content_held : (s : Spot) (n : Str) → SpotIn s n es → (w : ℕ) → find n es ≡ some w → value_of (take (e - 24) (drop (e * s.place + 24) behind)) ≡ w
  content_held s n S w f =
      let p = place_found n w slot_reads.row f in
      sym (content_there e s.place count behind (omega (arith, p.0, S.placed, slot_count)))
      ∙ rw (slot_row, S.placed) (ap (λ (x : Entry). x.1) p.1)

  -- The entries with that at a spot replaced, with one more there, and without that there.
  module _ (s : Spot) (n : Str) (S : SpotIn s n es) where
    counted : s.count ≡ count
    counted = S.counted ∙ sym slot_count

    placed : s.place ≡ place n (read_entries e count behind)
    placed = S.placed ∙ sym (ap (place n) slot_row)

    found : {o : Option ℕ} → find n es ≡ o → find n (read_entries e count behind) ≡ o
    found f = ap (find n) slot_row ∙ f

    least : 24 ≤ e
    least = omega (arith, (entry_size y).least)

    slot_most : e * count ≤ 640
    slot_most = room_most e count (entry_size y).most (omega (arith, slot_count, slot_reads.most, size.1))

    pub entry_replaced : (c w : ℕ) → Legal n → c < 256 ^ (e - 24) → find n es ≡ some w
        → read_entries e s.count (padded room (spliced_bytes e behind s.count s.place 1 (bytes_of_entry e (n, c)))) ≡ insert n c es
    entry_replaced c w g h f =
        rw (counted, placed) (spliced_held e count behind least (entry_size y).most slot_fits slot_most slot_is_row n w (found f) c g h ∙ ap (insert n c) slot_row)

    pub entry_added : (c : ℕ) → Legal n → c < 256 ^ (e - 24) → find n es ≡ nothing
        → read_entries e (s.count + 1) (padded room (spliced_bytes e behind s.count s.place 0 (bytes_of_entry e (n, c)))) ≡ insert n c es
    entry_added c g h f =
        let a : s.count + 1 ≡ suc count = omega (arith, counted) in
        rw (a, counted, placed) (spliced_new e count behind least (entry_size y).most slot_fits slot_most slot_is_row n c g h (found f) ∙ ap (insert n c) slot_row)

    pub entry_gone : (w : ℕ) → find n es ≡ some w → read_entries e (s.count - 1) (padded room (spliced_bytes e behind s.count s.place 1 [])) ≡ without n es
    entry_gone w f =
        rw (counted, placed) (spliced_without e count behind least (entry_size y).most slot_fits slot_most slot_is_row n w (found f) ∙ ap (without n) slot_row)

  -- The bytes from one name to another are those of the entries between them, and all bytes those of all entries.
  pub part_listed : (n m : Str) (v w : ℕ) → Legal n → Legal m → v ≡ value n → w ≡ value m → part_of y xs v w ≡ bytes_of_entries e (between n m es)
  unfolding part_of
  part_listed n m v w f g p q =
      part_between e count behind n m v w (omega (arith, (entry_size y).least)) slot_fits (bytes_drop 64 xs bytes) slot_is_row f g p q
      ∙ ap (λ (x : List Entry). bytes_of_entries e (between n m x)) slot_row

  pub all_listed : all_of y xs ≡ bytes_of_entries e es
  unfolding all_of
  all_listed =
      let k : length (read_entries e count behind) ≡ count = length-read_entries e count behind in
      part_row e count 0 count behind (omega (arith, (entry_size y).least)) slot_fits (bytes_drop 64 xs bytes) (omega arith) (omega arith)
      ∙ ap (bytes_of_entries e) (ap (λ (i : ℕ). take i (read_entries e count behind)) (sub-zero count ∙ sym k) ∙ take-length (read_entries e count behind) ∙ slot_row)

-- Two neighbours: the entries of both, in one row, and this row without a name.
module _ (y : Layout) (xs zs : List ℕ) (size_x : OfSize xs y) (size_z : OfSize zs y) (bytes_x : AreBytes xs) (bytes_z : AreBytes zs)
    {l : Low} {s u : Str} {es gs : List Entry} (r : ReadAs y xs l s es) (q : ReadAs y zs (at s) u gs)
    (m n : ℕ) (h : m ≡ length es) (k : n ≡ length gs) (few : m + n ≤ 16) where
  abbrev z : ℕ
  z = entry_length y

  abbrev both : List ℕ
  both = padded room (take (z * m) (drop 64 xs) ++ take (z * n) (drop 64 zs))

  some_most : z * (m + n) ≤ 640
  some_most = room_most z (m + n) (entry_size y).most few

  both_read : read_entries z (m + n) both ≡ es ++ gs
  both_read =
      let a : m ≡ count_at y.b xs = h ∙ sym (slot_count y xs size_x bytes_x r) in
      let b : n ≡ count_at y.b zs = k ∙ sym (slot_count y zs size_z bytes_z q) in
      let f : z * m ≤ length (drop 64 xs) = rw a (slot_fits y xs size_x bytes_x r) in
      let g : z * n ≤ length (drop 64 zs) = rw b (slot_fits y zs size_z bytes_z q) in
      let c : read_entries z m (drop 64 xs) ≡ es = rw a (slot_row y xs size_x bytes_x r) in
      let d : read_entries z n (drop 64 zs) ≡ gs = rw b (slot_row y zs size_z bytes_z q) in
      joined_list z m n (drop 64 xs) (drop 64 zs) (omega (arith, (entry_size y).least)) f g (omega (arith, some_most)) ∙ ap₂ (λ (v w : List Entry). v ++ w) c d

  both_row : Row l (read_entries z (m + n) both) u
  both_row =
      let a = well_parts y.b r.1 in let b = well_parts y.b q.1 in
      rw both_read (row_join a.3 b.3 (low_at a.2) (lt_le (over b.2)))

  pub both_without : (i : ℕ) (x : Str) (w : ℕ) → find x (es ++ gs) ≡ some w → i ≡ place x (es ++ gs)
      → read_entries z (m + n - 1) (padded room (spliced_bytes z both (m + n) i 1 [])) ≡ without x (es ++ gs)
  both_without i x w f e =
      rw (e, ← both_read)
      (spliced_without z (m + n) both (omega (arith, (entry_size y).least)) (entry_size y).most (omega (arith, some_most, length_padded room (take (z * m) (drop 64 xs) ++ take (z * n) (drop 64 zs)))) some_most both_row x w
      (ap (find x) both_read ∙ f))

-- Whether a name is held, by its spot.
module _ {s : Spot} {n : Str} {es : List Entry} (P : SpotIn s n es) where
  pub spot_lost : s.held ≡ false → find n es ≡ nothing
  unfolding is_some_value
  spot_lost t = go (find n es) refl
    where
      go : (o : Option ℕ) → find n es ≡ o → o ≡ nothing
      go nothing f = refl
      go (some w) f = let z : ◌≡◌ {A = Bool} true false = sym (P.held_is ∙ ap is_some_value f) ∙ t in clash cc

  pub spot_held : s.held ≡ true → (w : ℕ) × (find n es ≡ some w)
  unfolding is_some_value
  spot_held t = go (find n es) refl
    where
      go : (o : Option ℕ) → find n es ≡ o → (w : ℕ) × (find n es ≡ some w)
      go nothing f = let z : ◌≡◌ {A = Bool} false true = sym (P.held_is ∙ ap is_some_value f) ∙ t in clash cc
      go (some w) f = (w, f)
