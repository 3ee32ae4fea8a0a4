-- The bytes of a file: their lengths, reading and writing undo each other, and a store changes exactly one slot.
use Rattle.model.proofs.Prelude.{Bool, List, get_or_eq_default, Option, [], ◌%◌, ◌&&◌, ◌*◌, ◌++◌, ◌+◌, ◌-◌, ◌/◌, ◌<◌, ◌^◌, ◌∙◌, ◌∷◌, ◌≡◌, ◌≢◌, ◌≤◌, add-zero, ap, append_assoc, ap₂, arith, clash, cond, dec_lt, drop, drop_at, drop-cons, drop-drop, drop-nil, drop_of_length-le, drop-paste, eq-eqb, eqb, eqb-true, false, get_or, le-leb, leb, leb-true, length, length-append, length-replicate, length-set, length-take-le, mul-le-mul_left, mul-le-mul_right, nothing, paste, pow-suc, pow-zero, refl, replicate, set, some, suc, suc-mul, sym, take, take_all, take-append-drop, take-append-le, take-append_seam, take_at, take-take, true, zero, zero-add, zero-mul, ℕ}
use Rattle.model.specs.declared.Layout.{Layout}
use Rattle.model.specs.Order.{Low, Str, ◌◁◌, above, least, top}
use Rattle.model.specs.Tests.{same_str}
use Rattle.model.specs.Names.{BoundLow, Digits, Legal, filled, limit, unlimited}
use Rattle.model.specs.Entries.{Entry, Row, content_from, entry, find, no_entries, run_of_content, value_of_content}
use Rattle.model.specs.Files.{Slot, Well, entries_of, free, slot_at, used, well_used}
use Rattle.model.specs.Format.{AreBytes, EntrySize, Sizes, are_legal_sizes, bytes_at_slot, bytes_of_entries, bytes_of_entry, bytes_of_slot, digits_of_low, entry_length, file_bytes, file_size, header_bytes, header_of, is_offered, is_right_header, joined, kept_run, laid_out, layout_of, little_endian, low_of, padded, read_by, read_entries, read_file, read_slot, read_slots, read_used_slot, slot_size, slots_bytes, store_bytes, used_of, value_of}
use Rattle.model.proofs.Deciding.{str?}
use Rattle.model.proofs.Tests.{both_true, equal_same_str, same_str_equal, same_str_other, same_str_self}
use Rattle.model.proofs.Lists.{at_taken, drop_past, drop-take, length_made, made_short, take_past}
use Rattle.model.proofs.Names.{legal_length}

pub entry_size : (y : Layout) → EntrySize (entry_length y)
unfolding entry_length
entry_size y = go (eqb y.version 3)
  where
    go : (t : Bool) → EntrySize (cond t 40 32)
    go true = record { least = omega arith; most = omega arith; eights = refl }
    go false = record { least = omega arith; most = omega arith; eights = refl }

both_below : (a b v r : ℕ) → v < a → r < b → v + a * r < a * b
both_below a b v r h k = let l : suc r ≤ b = k in omega (arith, mul-le-mul_left a l)

-- The content of a put fits every entry: a value and a run of eight bytes each, of which versions 1 and 2 keep the value alone.
pub put_fits : (y : Layout) (v r : ℕ) → v < 2 ^ 64 → r < 2 ^ 64 → content_from v (kept_run y r) < 256 ^ (entry_length y - 24)
unfolding entry_length kept_run content_from
put_fits y v r h k = go (eqb y.version 3)
  where
    go : (t : Bool) → v + 2 ^ 64 * cond t r 0 < 256 ^ (cond t 40 32 - 24)
    go true = let z : 256 ^ 16 ≡ 2 ^ 64 * 2 ^ 64 = refl in rw z (both_below (2 ^ 64) (2 ^ 64) v r h k)
    go false = omega arith

-- The two parts of a content.
pub value_part : (v r : ℕ) → v < 2 ^ 64 → value_of_content (content_from v r) ≡ v
unfolding value_of_content content_from
value_part v r h = omega arith

pub run_part : (v r : ℕ) → v < 2 ^ 64 → run_of_content (content_from v r) ≡ r
unfolding run_of_content content_from
run_part v r h = omega arith

-- Versions 1 and 2 keep no run: what fits their entries has none.
pub no_run : (y : Layout) (c : ℕ) → eqb y.version 3 ≡ false → c < 256 ^ (entry_length y - 24) → run_of_content c ≡ 0
unfolding entry_length run_of_content
no_run y c e h = let k : c < 256 ^ (32 - 24) = rw e at h in omega arith

-- Contents that the bytes behind a name hold. The content of an entry is one number, its value and its run.
abbrev pub Contents : ℕ → List Entry → Type 0
Contents e [] = Unit {0}
Contents e (x ∷ es) = (x.1 < 256 ^ (e - 24)) × Contents e es

-- What is found under a name has room behind it.
pub contents_find : (e : ℕ) (n : Str) (es : List Entry) (w : ℕ) → Contents e es → find n es ≡ some w → w < 256 ^ (e - 24)
unfolding find
contents_find e n [] w c h = clash cc
contents_find e n (x ∷ es) w c h = elim (str? n x.0) [
  | yes p ↦ let z : ◌≡◌ {A = Option ℕ} (some x.1) (some w) = rw (equal_same_str n x.0 p) at h in
      let q : x.1 ≡ w = cc in
      rw (← q) c.0
  | no p ↦ contents_find e n es w c.1 (rw (same_str_other n x.0 p) at h)
]

pub value_of_little_endian : (n v : ℕ) → v < 256 ^ n → value_of (little_endian n v) ≡ v
unfolding value_of little_endian
value_of_little_endian zero v h = omega (arith, pow-zero 256)
value_of_little_endian (suc n) v h =
    let p : 256 ^ suc n ≡ 256 ^ n * 256 = pow-suc 256 n in
    rw (value_of_little_endian n (v / 256) (omega arith)) (omega arith)

pub little_endian_value_of : (xs : List ℕ) → AreBytes xs → little_endian (length xs) (value_of xs) ≡ xs
unfolding value_of little_endian
little_endian_value_of [] h = refl
little_endian_value_of (x ∷ xs) h =
    let lt : x < 256 = h.0 in
    let p : (x + 256 * value_of xs) % 256 ≡ x = omega arith in
    let q : (x + 256 * value_of xs) / 256 ≡ value_of xs = omega arith in
    rw (p, q, little_endian_value_of xs h.1)

-- The first bytes of a list as a content.
value_of_below : (n : ℕ) (xs : List ℕ) → AreBytes xs → value_of (take n xs) < 256 ^ n
unfolding value_of
value_of_below zero xs h = omega (arith, pow-zero 256)
value_of_below (suc n) [] h = omega (arith, pow-suc 256 n, value_of_below n [] tt)
value_of_below (suc n) (x ∷ xs) h = omega (arith, h.0, pow-suc 256 n, value_of_below n xs h.1)

-- Numbers that are bytes at each place.
pub bytes_each : (xs : List ℕ) → ((i : ℕ) → get_or xs i 0 < 256) → AreBytes xs
bytes_each [] f = tt
bytes_each (x ∷ xs) f = (f 0, bytes_each xs (λ i. f (suc i)))

-- Lengths.
pub length_little_endian : (n v : ℕ) → length (little_endian n v) ≡ n
unfolding little_endian
length_little_endian zero v = refl
length_little_endian (suc n) v = ap suc (length_little_endian n (v / 256))

pub length_padded : (k : ℕ) (xs : List ℕ) → length (padded k xs) ≡ k
unfolding padded
length_padded k xs = length_made k 0 xs

pub padded_short : (k : ℕ) (xs : List ℕ) → length xs ≤ k → padded k xs ≡ xs ++ replicate (k - length xs) 0
unfolding padded
padded_short k xs h = made_short k 0 xs h

pub length-bytes_of_entry : (e : ℕ) → 24 ≤ e → (x : Entry) → length x.0 ≡ 24 → length (bytes_of_entry e x) ≡ e
unfolding bytes_of_entry
length-bytes_of_entry e h x k =
    omega (arith, length-append x.0 (little_endian (e - 24) x.1), length_little_endian (e - 24) x.1)

pub length-bytes_of_entries : (e : ℕ) → 24 ≤ e → {l : Low} {u : Str} {es : List Entry} → Row l es u → length (bytes_of_entries e es) ≡ e * length es
unfolding bytes_of_entries
length-bytes_of_entries e h no_entries = omega arith
length-bytes_of_entries e h (entry {e = x} {es = es} g a c r) =
    omega (arith, length-append (bytes_of_entry e x) (bytes_of_entries e es), length-bytes_of_entry e h x (legal_length g), length-bytes_of_entries e h r)

pub length-bytes_of_slot : (y : Layout) (s : Slot) → length (bytes_of_slot y s) ≡ slot_size y
unfolding bytes_of_slot slot_size
length-bytes_of_slot y free = length-replicate (64 + entry_length y * y.b) 0
length-bytes_of_slot y (used l u es) =
    let x = padded 24 (digits_of_low l) in
    let up = padded 24 u in
    let z : List ℕ = replicate 8 0 ++ padded (entry_length y * y.b) (bytes_of_entries (entry_length y) es) in
    omega (arith, length-append x (up ++ z), length-append up z, length_padded 24 (digits_of_low l), length_padded 24 u, length_padded (entry_length y * y.b) (bytes_of_entries (entry_length y) es))

length-slots_bytes : (y : Layout) (fs : List Slot) → length (slots_bytes y fs) ≡ length fs * slot_size y
unfolding slots_bytes
length-slots_bytes y [] = omega arith
length-slots_bytes y (s ∷ fs) =
    omega (arith, length-append (bytes_of_slot y s) (slots_bytes y fs), length-bytes_of_slot y s, length-slots_bytes y fs, suc-mul (length fs) (slot_size y))

pub length-header_bytes : (y : Layout) (slots : ℕ) → length (header_bytes y slots) ≡ 16
unfolding header_bytes
length-header_bytes y slots = refl

pub length-file_bytes : (y : Layout) (fs : List Slot) → length (file_bytes y fs) ≡ file_size y (length fs)
unfolding file_bytes file_size
length-file_bytes y fs =
    omega (arith, length-append (header_bytes y (length fs)) (slots_bytes y fs), length-header_bytes y (length fs), length-slots_bytes y fs)

-- What is written reads back.
pub low_of_digits_of_low : {l : Low} {u : Str} → l ◁ u → low_of (digits_of_low l) ≡ l
unfolding low_of digits_of_low
low_of_digits_of_low least = refl
low_of_digits_of_low (above {l = []} p) = absurd (p top)
low_of_digits_of_low (above {l = d ∷ x} p) = refl

pub fits_low : {l : Low} → BoundLow l → length (digits_of_low l) ≤ 24
unfolding digits_of_low
fits_low unlimited = omega arith
fits_low (limit g) = g.fits

-- A string stands in front of its padding.
pub padded_front : (k : ℕ) (xs ys : List ℕ) → length xs ≤ k → take (length xs) (padded k xs ++ ys) ≡ xs
padded_front k xs ys h =
    rw (padded_short k xs h, append_assoc) (take-append_seam xs (replicate (k - length xs) 0 ++ ys))

pub entries_read : (e : ℕ) → 24 ≤ e → {l : Low} {u : Str} {es : List Entry} (ys : List ℕ) → Row l es u → Contents e es
    → read_entries e (length es) (bytes_of_entries e es ++ ys) ≡ es
unfolding read_entries bytes_of_entries bytes_of_entry
entries_read e h ys no_entries v = refl
entries_read e h ys (entry {e = x} {es = es} g a c r) v =
    let n = x.0 in
    let m = e - 24 in
    let w = little_endian m x.1 in
    let q : List ℕ = bytes_of_entries e es ++ ys in
    let i : n ++ w ++ bytes_of_entries e es ++ ys ≡ n ++ (w ++ q) = rw (append_assoc, append_assoc) in
    let f : take 24 (n ++ (w ++ q)) ≡ n = take_at n (w ++ q) 24 (legal_length g) in
    let d : drop 24 (n ++ (w ++ q)) ≡ w ++ q = drop_at n (w ++ q) 24 (legal_length g) in
    let t : take m (w ++ q) ≡ w = take_at w q m (length_little_endian m x.1) in
    let k : drop e (n ++ (w ++ q)) ≡ q =
    drop_past n (w ++ q) e m (omega (arith, legal_length g)) ∙ drop_at w q m (length_little_endian m x.1) in
    rw (i, f, d, t, k, value_of_little_endian m x.1 v.0, entries_read e h ys r v.1)

used_of-bytes_of_slot : (y : Layout) {l : Low} {u : Str} {es : List Entry} → Well y.b (used l u es) → Contents (entry_length y) es
    → used_of (entry_length y) (bytes_of_slot y (used l u es)) ≡ used l u es
unfolding used_of bytes_of_slot
used_of-bytes_of_slot y {l = l} {u = u} {es = es} (well_used g h c r few) v =
    let x = padded 24 (digits_of_low l) in
    let up = padded 24 u in
    let z = padded (entry_length y * y.b) (bytes_of_entries (entry_length y) es) in
    let t : List ℕ = replicate 8 0 ++ z in
    let a : take (length (digits_of_low l)) (x ++ (up ++ t)) ≡ digits_of_low l = padded_front 24 (digits_of_low l) (up ++ t) (fits_low g) in
    let d : drop 24 (x ++ (up ++ t)) ≡ up ++ t = drop_at x (up ++ t) 24 (length_padded 24 (digits_of_low l)) in
    let p : take (length u) (up ++ t) ≡ u = padded_front 24 u t h.fits in
    let e : drop 56 (x ++ (up ++ t)) ≡ z = drop_past x (up ++ t) 56 32 (omega (arith, length_padded 24 (digits_of_low l))) ∙ drop_past up t 32 8 (omega (arith, length_padded 24 u)) in
    let k : 24 ≤ entry_length y = omega (arith, (entry_size y).least) in
    let ws = bytes_of_entries (entry_length y) es in
    let n = length-bytes_of_entries (entry_length y) k r in
    let m = mul-le-mul_left {m = length es} {n = y.b} (entry_length y) few in
    let q : z ≡ ws ++ replicate (entry_length y * y.b - length ws) 0 = padded_short (entry_length y * y.b) ws (omega arith) in
    rw (a, d, p, e, q, low_of_digits_of_low c, entries_read (entry_length y) k (replicate (entry_length y * y.b - length ws) 0) r v)

not_free : (y : Layout) (l : Low) (u : Str) (es : List Entry) → same_str (bytes_of_slot y (used l u es)) (bytes_of_slot y free) ≡ false
unfolding bytes_of_slot slot_size same_str
not_free y l u es = let e : 64 + entry_length y * y.b ≡ suc (63 + entry_length y * y.b) = omega arith in rw e

pub read_slot-bytes_of_slot : (y : Layout) {s : Slot} → Well y.b s → Contents (entry_length y) (entries_of s) → read_slot y (bytes_of_slot y s) ≡ some s
unfolding read_slot read_used_slot
read_slot-bytes_of_slot y {s = free} w v = rw (same_str_self (bytes_of_slot y free))
read_slot-bytes_of_slot y {s = used l u es} w v =
    rw (not_free y l u es, used_of-bytes_of_slot y w v, same_str_self (bytes_of_slot y (used l u es)))

-- What is read was written.
pub bytes_of_slot-read_slot : (y : Layout) (xs : List ℕ) {s : Slot} → read_slot y xs ≡ some s → xs ≡ bytes_of_slot y s
unfolding read_slot read_used_slot
bytes_of_slot-read_slot y xs {s} = as_free (same_str xs (bytes_of_slot y free)) (same_str xs (bytes_of_slot y (used_of (entry_length y) xs))) refl refl
  where
    as_free : (t r : Bool) → same_str xs (bytes_of_slot y free) ≡ t → same_str xs (bytes_of_slot y (used_of (entry_length y) xs)) ≡ r
        → cond t (some free) (cond r (some (used_of (entry_length y) xs)) nothing) ≡ some s → xs ≡ bytes_of_slot y s
    as_free true r e f h = let i : free ≡ s = cc in rw (← i) (same_str_equal xs (bytes_of_slot y free) e)
    as_free false true e f h = let i : used_of (entry_length y) xs ≡ s = cc in rw (← i) (same_str_equal xs (bytes_of_slot y (used_of (entry_length y) xs)) f)
    as_free false false e f h = clash cc

-- Slots of a file, and its header, where the writer put them.
drop-slots_bytes : (y : Layout) (k : ℕ) (fs : List Slot) → drop (k * slot_size y) (slots_bytes y fs) ≡ slots_bytes y (drop k fs)
unfolding slots_bytes
drop-slots_bytes y zero fs = rw zero-mul
drop-slots_bytes y (suc k) [] = drop-nil (suc k * slot_size y)
drop-slots_bytes y (suc k) (s ∷ fs) =
    drop_past (bytes_of_slot y s) (slots_bytes y fs) (suc k * slot_size y) (k * slot_size y) (omega (arith, suc-mul k (slot_size y), length-bytes_of_slot y s)) ∙ drop-slots_bytes y k fs

drop-file_bytes : (y : Layout) (k : ℕ) (fs : List Slot) → drop (16 + k * slot_size y) (file_bytes y fs) ≡ slots_bytes y (drop k fs)
unfolding file_bytes
drop-file_bytes y k fs =
    drop_past (header_bytes y (length fs)) (slots_bytes y fs) (16 + k * slot_size y) (k * slot_size y) (omega (arith, length-header_bytes y (length fs))) ∙ drop-slots_bytes y k fs

pub bytes_at_slot-file_bytes : (y : Layout) (k : ℕ) (fs : List Slot) → k < length fs → bytes_at_slot y k (file_bytes y fs) ≡ bytes_of_slot y (slot_at fs k)
unfolding bytes_at_slot slots_bytes
bytes_at_slot-file_bytes y k fs h =
    rw (drop-file_bytes y k fs, drop-cons fs k free h) (take_at (bytes_of_slot y (slot_at fs k)) (slots_bytes y (drop (suc k) fs)) (slot_size y) (length-bytes_of_slot y (slot_at fs k)))

pub take-file_bytes : (y : Layout) (fs : List Slot) → take 16 (file_bytes y fs) ≡ header_bytes y (length fs)
unfolding file_bytes
take-file_bytes y fs = take_at (header_bytes y (length fs)) (slots_bytes y fs) 16 (length-header_bytes y (length fs))

pub sizes_are_legal_sizes : {y : Layout} {slots : ℕ} → Sizes y slots → are_legal_sizes y slots ≡ true
unfolding are_legal_sizes
sizes_are_legal_sizes {y} {slots} g =
    rw (g.offered, le-leb 2 y.b g.b_least, le-leb y.b 16 g.b_most, le-leb 1 slots g.slots_least, le-leb slots 64 g.slots_most)

pub are_legal_sizes_sizes : (y : Layout) (slots : ℕ) → are_legal_sizes y slots ≡ true → Sizes y slots
unfolding are_legal_sizes
are_legal_sizes_sizes y slots e =
    let o = is_offered y.version in
    let p = both_true (o && leb 2 y.b && leb y.b 16 && leb 1 slots) (leb slots 64) e in
    let q = both_true (o && leb 2 y.b && leb y.b 16) (leb 1 slots) p.0 in
    let r = both_true (o && leb 2 y.b) (leb y.b 16) q.0 in
    let s = both_true o (leb 2 y.b) r.0 in
    record {
      offered = s.0;
      b_least = leb-true 2 y.b s.1;
      b_most = leb-true y.b 16 r.1;
      slots_least = leb-true 1 slots q.1;
      slots_most = leb-true slots 64 p.1;
    }

-- The versions that are offered are bytes, and below the greatest.
pub offered_small : (v : ℕ) → is_offered v ≡ true → v < 255
unfolding is_offered
offered_small v e = omega (arith, leb-true v 3 (both_true (leb 1 v) (leb v 3) e).1)

-- What a header that is right says.
pub record Headed (y : Layout) (slots : ℕ) (xs : List ℕ) : Type 0 where
  pub sizes : Sizes y slots
  pub whole : length xs ≡ file_size y slots
  pub header : take 16 xs ≡ header_bytes y slots

-- Bytes 3 and 4 are the version, byte 5 is b.
pub headed_layout : {y : Layout} {slots : ℕ} {xs : List ℕ} → Headed y slots xs → layout_of xs ≡ y
unfolding header_bytes layout_of
headed_layout {y} {xs = xs} g =
    let low : get_or xs 3 0 ≡ y.version % 256 = at_taken 16 xs 3 g.header (omega arith) in
    let high : get_or xs 4 0 ≡ y.version / 256 = at_taken 16 xs 4 g.header (omega arith) in
    let v : get_or xs 3 0 + 256 * get_or xs 4 0 ≡ y.version = omega arith in
    let c : get_or xs 5 0 ≡ y.b = at_taken 16 xs 5 g.header (omega arith) in
    ap₂ (λ (m n : ℕ). record { version = m; b = n }) v c

-- Byte 6 is slots.
pub headed_slots : {y : Layout} {slots : ℕ} {xs : List ℕ} → Headed y slots xs → get_or xs 6 0 ≡ slots
unfolding header_bytes
headed_slots {xs = xs} g = at_taken 16 xs 6 g.header (omega arith)

pub headed_header_of : {y : Layout} {slots : ℕ} {xs : List ℕ} → Headed y slots xs → header_of xs ≡ some (y, slots)
unfolding header_of is_right_header
headed_header_of {y} {slots} {xs} g =
    rw (headed_layout g, headed_slots g, sizes_are_legal_sizes g.sizes, eq-eqb (length xs) (file_size y slots) g.whole, g.header, same_str_self (header_bytes y slots))

read_slots-file_bytes : (y : Layout) (n k : ℕ) (fs : List Slot) → ((B : ℕ) → Well y.b (slot_at fs B)) → ((B : ℕ) → Contents (entry_length y) (entries_of (slot_at fs B)))
    → k + n ≡ length fs → read_slots y n k (file_bytes y fs) ≡ some (drop k fs)
unfolding read_slots joined
read_slots-file_bytes y zero k fs w v e = rw (drop_of_length-le fs {i = k} (omega arith))
read_slots-file_bytes y (suc n) k fs w v e =
    rw (bytes_at_slot-file_bytes y k fs (omega arith), read_slot-bytes_of_slot y (w k) (v k), read_slots-file_bytes y n (suc k) fs w v (omega arith), drop-cons fs k free (omega arith))

pub read_file-file_bytes : (y : Layout) (fs : List Slot) → Sizes y (length fs) → ((B : ℕ) → Well y.b (slot_at fs B)) → ((B : ℕ) → Contents (entry_length y) (entries_of (slot_at fs B)))
    → read_file (file_bytes y fs) ≡ some (y, fs)
unfolding read_file read_by laid_out
read_file-file_bytes y fs g w v = rw (headed_header_of (record { sizes = g; whole = length-file_bytes y fs; header = take-file_bytes y fs }), read_slots-file_bytes y (length fs) 0 fs w v (omega arith))

slots_bytes-read_slots : (y : Layout) (n k : ℕ) (xs : List ℕ) {fs : List Slot} → length xs ≡ 16 + (k + n) * slot_size y → read_slots y n k xs ≡ some fs
    → (length fs ≡ n) × (drop (16 + k * slot_size y) xs ≡ slots_bytes y fs)
unfolding read_slots joined bytes_at_slot slots_bytes
slots_bytes-read_slots y zero k xs {fs} e h =
    let i : [] ≡ fs = cc in
    let z : k + 0 ≡ k = omega arith in
    let f : length xs ≡ 16 + k * slot_size y = rw z at e in
    rw (← i) (refl, drop_of_length-le xs {i = 16 + k * slot_size y} (omega arith))
slots_bytes-read_slots y (suc n) k xs {fs} e h =
    go (read_slot y (bytes_at_slot y k xs)) (read_slots y n (suc k) xs) refl refl
    (λ gs f. let i : suc k + n ≡ k + suc n = omega arith in slots_bytes-read_slots y n (suc k) xs (rw i e) f) h
  where
    go : (a : Option Slot) (r : Option (List Slot)) → read_slot y (bytes_at_slot y k xs) ≡ a → read_slots y n (suc k) xs ≡ r
        → ((gs : List Slot) → read_slots y n (suc k) xs ≡ some gs → (length gs ≡ n) × (drop (16 + suc k * slot_size y) xs ≡ slots_bytes y gs))
        → joined a r ≡ some fs → (length fs ≡ suc n) × (drop (16 + k * slot_size y) xs ≡ slots_bytes y fs)
    go nothing r p q f h = clash cc
    go (some s) nothing p q f h = clash cc
    go (some s) (some gs) p q f h =
        let z = slot_size y in
        let m = 16 + k * slot_size y in
        let i : s ∷ gs ≡ fs = cc in
        let j : 16 + suc k * z ≡ m + z = omega (arith, suc-mul k z) in
        let t : take z (drop m xs) ≡ bytes_of_slot y s = bytes_of_slot-read_slot y (bytes_at_slot y k xs) p in
        let d : drop z (drop m xs) ≡ slots_bytes y gs = drop-drop z m xs ∙ (rw j at (f gs q).1) in
        rw (← i) (ap suc (f gs q).0, sym (take-append-drop z (drop m xs)) ∙ ap₂ (λ (x z : List ℕ). x ++ z) t d)

is_right_header_headed : (y : Layout) (slots : ℕ) (xs : List ℕ) → is_right_header y slots xs ≡ true → Headed y slots xs
unfolding is_right_header
is_right_header_headed y slots xs e =
    let p = both_true (are_legal_sizes y slots && eqb (length xs) (file_size y slots)) (same_str (take 16 xs) (header_bytes y slots)) e in
    let q = both_true (are_legal_sizes y slots) (eqb (length xs) (file_size y slots)) p.0 in
    record { sizes = are_legal_sizes_sizes y slots q.0; whole = eqb-true (length xs) (file_size y slots) q.1; header = same_str_equal (take 16 xs) (header_bytes y slots) p.1 }

pub header_of_headed : (xs : List ℕ) {y : Layout} {slots : ℕ} → header_of xs ≡ some (y, slots) → Headed y slots xs
unfolding header_of
header_of_headed xs {y} {slots} = go (is_right_header (layout_of xs) (get_or xs 6 0) xs) refl
  where
    go : (t : Bool) → is_right_header (layout_of xs) (get_or xs 6 0) xs ≡ t → cond {A = Option (Layout × ℕ)} t (some (layout_of xs, get_or xs 6 0)) nothing ≡ some (y, slots) → Headed y slots xs
    go true e h =
        let p : ◌≡◌ {A = Layout × ℕ} (layout_of xs, get_or xs 6 0) (y, slots) = cc in
        let i : layout_of xs ≡ y = ap (λ (q : Layout × ℕ). q.0) p in
        let j : get_or xs 6 0 ≡ slots = ap (λ (q : Layout × ℕ). q.1) p in
        rw (i, j) at (is_right_header_headed (layout_of xs) (get_or xs 6 0) xs e)
    go false e h = clash cc

listed_slots : {y : Layout} {slots : ℕ} {xs : List ℕ} {fs : List Slot} → Headed y slots xs → read_slots y slots 0 xs ≡ some fs → (length fs ≡ slots) × (drop 16 xs ≡ slots_bytes y fs)
unfolding file_size
listed_slots {y} {slots} {xs} g e =
    let d = slots_bytes-read_slots y slots 0 xs (rw zero-add g.whole) e in
    (d.0, rw zero-mul at d.1)

-- What a file that is read says: its header, then its slots.
pub record Read (y : Layout) (fs : List Slot) (xs : List ℕ) : Type 0 where
  pub headed : Headed y (length fs) xs
  pub listed : read_slots y (length fs) 0 xs ≡ some fs

pub read_file_read : (xs : List ℕ) {y : Layout} {fs : List Slot} → read_file xs ≡ some (y, fs) → Read y fs xs
unfolding read_file read_by laid_out
read_file_read xs {y} {fs} = header (header_of xs) refl
  where
    header : (h : Option (Layout × ℕ)) → header_of xs ≡ h → read_by h xs ≡ some (y, fs) → Read y fs xs
    header nothing e f = clash cc
    header (some (c, slots)) e f = slots_of (read_slots c slots 0 xs) refl f
      where
        slots_of : (r : Option (List Slot)) → read_slots c slots 0 xs ≡ r → laid_out c r ≡ some (y, fs) → Read y fs xs
        slots_of nothing p f = clash cc
        slots_of (some gs) p f =
            let o : ◌≡◌ {A = Layout × List Slot} (c, gs) (y, fs) = cc in
            let i : c ≡ y = ap (λ (x : Layout × List Slot). x.0) o in
            let j : gs ≡ fs = ap (λ (x : Layout × List Slot). x.1) o in
            let g = header_of_headed xs e in
            let m : length gs ≡ slots = (listed_slots g p).0 in
            rw (← i, ← j) (record { headed = rw m g; listed = rw m p })

pub file_bytes-read_file : (xs : List ℕ) {y : Layout} {fs : List Slot} → read_file xs ≡ some (y, fs) → (xs ≡ file_bytes y fs) × Sizes y (length fs)
unfolding file_bytes
file_bytes-read_file xs e =
    let r = read_file_read xs e in
    (sym (take-append-drop 16 xs) ∙ rw (r.headed.header, (listed_slots r.headed r.listed).1), r.headed.sizes)

-- Each slot of a file that is read, read by itself.
pub read_slots_each : (y : Layout) (n k j : ℕ) (xs : List ℕ) {fs : List Slot} → j < n → read_slots y n k xs ≡ some fs → read_slot y (bytes_at_slot y (k + j) xs) ≡ some (slot_at fs j)
unfolding read_slots joined
read_slots_each y zero k j xs h e = absurd (omega arith)
read_slots_each y (suc n) k j xs {fs} h e =
    go j h (read_slot y (bytes_at_slot y k xs)) (read_slots y n (suc k) xs) refl refl (λ i gs q f. read_slots_each y n (suc k) i xs q f) e
  where
    go : (j : ℕ) → j < suc n → (a : Option Slot) (r : Option (List Slot)) → read_slot y (bytes_at_slot y k xs) ≡ a → read_slots y n (suc k) xs ≡ r
        → ((i : ℕ) (gs : List Slot) → i < n → read_slots y n (suc k) xs ≡ some gs → read_slot y (bytes_at_slot y (suc k + i) xs) ≡ some (slot_at gs i))
        → joined a r ≡ some fs → read_slot y (bytes_at_slot y (k + j) xs) ≡ some (slot_at fs j)
    go j h nothing r p q f e = clash cc
    go j h (some s) nothing p q f e = clash cc
    go zero h (some s) (some gs) p q f e = let i : s ∷ gs ≡ fs = cc in rw (add-zero, ← i) p
    go (suc j) h (some s) (some gs) p q f e =
        let i : s ∷ gs ≡ fs = cc in
        let m : k + suc j ≡ suc k + j = omega arith in
        rw (m, ← i) (f j gs (omega arith) q)

pub read_slot-read_file : (xs : List ℕ) {y : Layout} {fs : List Slot} → read_file xs ≡ some (y, fs) → (k : ℕ) → k < length fs → read_slot y (bytes_at_slot y k xs) ≡ some (slot_at fs k)
read_slot-read_file xs {y} {fs} e k h = rw zero-add at (read_slots_each y (length fs) 0 k xs h (read_file_read xs e).listed)

-- Contents read from bytes fit the bytes.
pub bytes_drop : (n : ℕ) (xs : List ℕ) → AreBytes xs → AreBytes (drop n xs)
bytes_drop zero xs h = h
bytes_drop (suc n) [] h = tt
bytes_drop (suc n) (x ∷ xs) h = bytes_drop n xs h.1

pub bytes_take : (n : ℕ) (xs : List ℕ) → AreBytes xs → AreBytes (take n xs)
bytes_take zero xs h = tt
bytes_take (suc n) [] h = tt
bytes_take (suc n) (x ∷ xs) h = (h.0, bytes_take n xs h.1)

-- A slot of a file of bytes has bytes.
pub bytes_bytes_at_slot : (y : Layout) (k : ℕ) (xs : List ℕ) → AreBytes xs → AreBytes (bytes_at_slot y k xs)
unfolding bytes_at_slot
bytes_bytes_at_slot y k xs h = bytes_take (slot_size y) (drop (16 + k * slot_size y) xs) (bytes_drop (16 + k * slot_size y) xs h)

contents_read_entries : (e n : ℕ) (xs : List ℕ) → AreBytes xs → Contents e (read_entries e n xs)
unfolding read_entries
contents_read_entries e zero xs h = tt
contents_read_entries e (suc n) xs h =
    (value_of_below (e - 24) (drop 24 xs) (bytes_drop 24 xs h), contents_read_entries e n (drop e xs) (bytes_drop e xs h))

pub contents_read_slot : (y : Layout) (xs : List ℕ) {s : Slot} → AreBytes xs → read_slot y xs ≡ some s → Contents (entry_length y) (entries_of s)
unfolding read_slot read_used_slot used_of
contents_read_slot y xs {s} k = go (same_str xs (bytes_of_slot y free)) (same_str xs (bytes_of_slot y (used_of (entry_length y) xs)))
  where
    go : (t r : Bool) → cond t (some free) (cond r (some (used_of (entry_length y) xs)) nothing) ≡ some s → Contents (entry_length y) (entries_of s)
    go true r h = let i : free ≡ s = cc in rw (← i) tt
    go false true h = let i : used_of (entry_length y) xs ≡ s = cc in rw (← i) (contents_read_entries (entry_length y) (get_or xs 1 0) (drop 64 xs) (bytes_drop 64 xs k))
    go false false h = clash cc

pub contents_read_file : (xs : List ℕ) {y : Layout} {fs : List Slot} → AreBytes xs → read_file xs ≡ some (y, fs) → (B : ℕ) → Contents (entry_length y) (entries_of (slot_at fs B))
contents_read_file xs {y} {fs} k e B = elim (dec_lt B (length fs)) [
  | yes h ↦ contents_read_slot y (bytes_at_slot y B xs) (bytes_bytes_at_slot y B xs k) (read_slot-read_file xs e B h)
  | no h ↦ rw (get_or_eq_default fs free {n = B} (omega arith)) tt
]

-- What is written is bytes.
pub bytes_append : (xs ys : List ℕ) → AreBytes xs → AreBytes ys → AreBytes (xs ++ ys)
bytes_append [] ys h k = k
bytes_append (x ∷ xs) ys h k = (h.0, bytes_append xs ys h.1 k)

pub bytes_same : (k x : ℕ) → x < 256 → AreBytes (replicate k x)
bytes_same zero x h = tt
bytes_same (suc k) x h = (h, bytes_same k x h)

pub bytes_made : (k a : ℕ) (xs : List ℕ) → a < 256 → AreBytes xs → AreBytes (take k (xs ++ replicate k a))
bytes_made k a xs h g = bytes_take k (xs ++ replicate k a) (bytes_append xs (replicate k a) g (bytes_same k a h))

bytes_padded : (k : ℕ) (xs : List ℕ) → AreBytes xs → AreBytes (padded k xs)
unfolding padded
bytes_padded k xs h = bytes_made k 0 xs (omega arith) h

bytes_little_endian : (n v : ℕ) → AreBytes (little_endian n v)
unfolding little_endian
bytes_little_endian zero v = tt
bytes_little_endian (suc n) v = (omega arith, bytes_little_endian n (v / 256))

bytes_digits : (lo : ℕ) (x : Str) → Digits lo x → AreBytes x
bytes_digits lo [] h = tt
bytes_digits lo (d ∷ x) h = (omega (arith, h.1), bytes_digits lo x h.2)

bytes_legal : {n : Str} → Legal n → AreBytes n
unfolding filled
bytes_legal g = rw g.is (bytes_made 24 0x20 g.name (omega arith) (bytes_digits 0x20 g.name g.digits))

bytes_low : {l : Low} → BoundLow l → AreBytes (digits_of_low l)
unfolding digits_of_low
bytes_low unlimited = tt
bytes_low (limit {x = x} g) = bytes_digits 0x20 x g.digits

bytes_entries : (e : ℕ) {l : Low} {u : Str} {es : List Entry} → Row l es u → AreBytes (bytes_of_entries e es)
unfolding bytes_of_entries bytes_of_entry
bytes_entries e no_entries = tt
bytes_entries e (entry {e = x} {es = es} g a c r) =
    bytes_append (bytes_of_entry e x) (bytes_of_entries e es)
    (bytes_append x.0 (little_endian (e - 24) x.1) (bytes_legal g) (bytes_little_endian (e - 24) x.1)) (bytes_entries e r)

bytes_bytes_of_slot : (y : Layout) → y.b ≤ 16 → {s : Slot} → Well y.b s → AreBytes (bytes_of_slot y s)
unfolding bytes_of_slot
bytes_bytes_of_slot y h {s = free} w = bytes_same (slot_size y) 0 (omega arith)
bytes_bytes_of_slot y h {s = used l u es} (well_used g p c r k) =
    let z : List ℕ = padded (entry_length y * y.b) (bytes_of_entries (entry_length y) es) in
    let up : List ℕ = replicate 8 0 ++ z in
    let x : List ℕ = padded 24 u ++ up in
    let w : List ℕ = padded 24 (digits_of_low l) ++ x in
    let bz : AreBytes z = bytes_padded (entry_length y * y.b) (bytes_of_entries (entry_length y) es) (bytes_entries (entry_length y) r) in
    let by : AreBytes up = bytes_append (replicate 8 0) z (bytes_same 8 0 (omega arith)) bz in
    let bx : AreBytes x = bytes_append (padded 24 u) up (bytes_padded 24 u (bytes_digits 0x20 u p.digits)) by in
    let bw : AreBytes w = bytes_append (padded 24 (digits_of_low l)) x (bytes_padded 24 (digits_of_low l) (bytes_low g)) bx in
    (omega arith, (omega arith, (omega (arith, fits_low g), (omega (arith, p.fits), bytes_append (replicate 4 0) w (bytes_same 4 0 (omega arith)) bw))))

bytes_slots_bytes : (y : Layout) → y.b ≤ 16 → (fs : List Slot) → ((B : ℕ) → Well y.b (slot_at fs B)) → AreBytes (slots_bytes y fs)
unfolding slots_bytes
bytes_slots_bytes y h [] w = tt
bytes_slots_bytes y h (s ∷ fs) w = bytes_append (bytes_of_slot y s) (slots_bytes y fs) (bytes_bytes_of_slot y h (w 0)) (bytes_slots_bytes y h fs (λ B. w (suc B)))

pub bytes_file_bytes : (y : Layout) (fs : List Slot) → Sizes y (length fs) → ((B : ℕ) → Well y.b (slot_at fs B)) → AreBytes (file_bytes y fs)
unfolding file_bytes header_bytes
bytes_file_bytes y fs g w =
    bytes_append (header_bytes y (length fs)) (slots_bytes y fs)
    (omega arith, (omega arith, (omega arith, (omega arith, (omega (arith, offered_small y.version g.offered), (omega (arith, g.b_most), (omega (arith, g.slots_most), bytes_same 9 0 (omega arith))))))))
    (bytes_slots_bytes y g.b_most fs w)

-- A store changes exactly one slot.
paste_behind : (p xs s : List ℕ) (n m w : ℕ) → length p ≡ n → paste (p ++ xs) (n + m) s w ≡ p ++ paste xs m s w
paste_behind p xs s n m w h =
    rw (take_past p xs (n + m) m (omega arith), drop_past p xs (n + m + w) (m + w) (omega arith)) (simp append_assoc)

paste-slots_bytes : (y : Layout) (k : ℕ) (s : Slot) (fs : List Slot) → k < length fs
    → paste (slots_bytes y fs) (k * slot_size y) (bytes_of_slot y s) (slot_size y) ≡ slots_bytes y (set fs k s)
unfolding slots_bytes
paste-slots_bytes y k s [] h = absurd (omega arith)
paste-slots_bytes y zero s (x ∷ fs) h =
    rw (zero-mul, zero-add, take_all (slot_size y) (bytes_of_slot y s) (omega (arith, length-bytes_of_slot y s)), drop_at (bytes_of_slot y x) (slots_bytes y fs) (slot_size y) (length-bytes_of_slot y x))
paste-slots_bytes y (suc k) s (x ∷ fs) h =
    let e : suc k * slot_size y ≡ slot_size y + k * slot_size y = omega (arith, suc-mul k (slot_size y)) in
    rw e (paste_behind (bytes_of_slot y x) (slots_bytes y fs) (bytes_of_slot y s) (slot_size y) (k * slot_size y) (slot_size y) (length-bytes_of_slot y x)
    ∙ ap (λ (r : List ℕ). bytes_of_slot y x ++ r) (paste-slots_bytes y k s fs (omega arith)))

pub store_bytes_file_bytes : (y : Layout) (k : ℕ) (s : Slot) (fs : List Slot) → k < length fs → store_bytes y k s (file_bytes y fs) ≡ file_bytes y (set fs k s)
unfolding store_bytes file_bytes
store_bytes_file_bytes y k s fs h =
    rw length-set (paste_behind (header_bytes y (length fs)) (slots_bytes y fs) (bytes_of_slot y s) 16 (k * slot_size y) (slot_size y) (length-header_bytes y (length fs))
    ∙ ap (λ (r : List ℕ). header_bytes y (length fs) ++ r) (paste-slots_bytes y k s fs h))

-- The same of any bytes that are long enough to hold slot k.
module _ (y : Layout) (k : ℕ) (s : Slot) (xs : List ℕ) (fits : 16 + k * slot_size y + slot_size y ≤ length xs) where
  take_stored : (n : ℕ) → n ≤ 16 + k * slot_size y → take n (store_bytes y k s xs) ≡ take n xs
  unfolding store_bytes
  take_stored n h =
      let m = 16 + k * slot_size y in
      let z = slot_size y in
      rw append_assoc (take-append-le n (take m xs) (take z (bytes_of_slot y s) ++ drop (m + z) xs) (omega (arith, length-take-le m xs (omega arith))) ∙ take-take n m xs h)

  pub bytes_at_slot_store_bytes : bytes_at_slot y k (store_bytes y k s xs) ≡ bytes_of_slot y s
  unfolding bytes_at_slot store_bytes
  bytes_at_slot_store_bytes =
      let m = 16 + k * slot_size y in
      let z = slot_size y in
      let w : take z (bytes_of_slot y s) ≡ bytes_of_slot y s = take_all z (bytes_of_slot y s) (omega (arith, length-bytes_of_slot y s)) in
      rw (w, append_assoc, drop_at (take m xs) (bytes_of_slot y s ++ drop (m + z) xs) m (length-take-le m xs (omega arith))) (take_at (bytes_of_slot y s) (drop (m + z) xs) z (length-bytes_of_slot y s))

  before_stored : (j : ℕ) → j < k → bytes_at_slot y j (store_bytes y k s xs) ≡ bytes_at_slot y j xs
  unfolding bytes_at_slot
  before_stored j h =
      let z = slot_size y in
      let n = 16 + j * slot_size y in
      let f : n + z ≤ 16 + k * z = omega (arith, suc-mul j z, mul-le-mul_right {m = suc j} {n = k} z h) in
      part n z (store_bytes y k s xs) ∙ ap (λ (l : List ℕ). drop n l) (take_stored (n + z) f) ∙ sym (part n z xs)
    where
      part : (n z : ℕ) (l : List ℕ) → take z (drop n l) ≡ drop n (take (n + z) l)
      part n z l = let e : n + z - n ≡ z = omega arith in sym (drop-take n (n + z) l ∙ rw e)

  behind_stored : (j : ℕ) → k < j → bytes_at_slot y j (store_bytes y k s xs) ≡ bytes_at_slot y j xs
  unfolding bytes_at_slot store_bytes
  behind_stored j h =
      let z = slot_size y in
      let m = 16 + k * slot_size y in
      let n = 16 + j * slot_size y in
      let f : m + z ≤ n = omega (arith, suc-mul k z, mul-le-mul_right {m = suc k} {n = j} z h) in
      let i : n ≡ m + z + (n - (m + z)) = omega arith in
      rw i (ap (take z) (sym (drop-drop (n - (m + z)) (m + z) (paste xs m (bytes_of_slot y s) z))
      ∙ ap (λ (l : List ℕ). drop (n - (m + z)) l) (drop-paste xs m (bytes_of_slot y s) z (omega arith) (omega (arith, length-bytes_of_slot y s)))
      ∙ drop-drop (n - (m + z)) (m + z) xs))

  pub others_store_bytes : (j : ℕ) → j ≢ k → bytes_at_slot y j (store_bytes y k s xs) ≡ bytes_at_slot y j xs
  others_store_bytes j h = elim (dec_lt j k) [ yes q ↦ before_stored j q | no q ↦ behind_stored j (omega arith) ]
