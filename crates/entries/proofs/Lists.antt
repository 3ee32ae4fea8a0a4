-- Bytes and lists of entries: what is read, what is written, the place of a name, and a splice as an insertion or a removal.
use Rattle.model.proofs.Prelude.{List, Option, [], ◌*◌, ◌++◌, ◌+◌, ◌-◌, ◌<◌, ◌^◌, ◌∙◌, ◌∷◌, ◌≡◌, ◌≤◌, ap, append_assoc, ap₂, arith, dec_lt, drop, drop-append-le, drop_at, drop-drop, eq-eqb, get_or, length, length-append, length-drop, length-take-le, ne_eqb, nothing, refl, replicate, some, sub-zero, suc, sym, take, take-add, take_all, take-append-drop, take-append-le, take_at, zero, ℕ}
use native.Mathlib.Nat.{mul-zero}
use Rattle.model.specs.Calls.{between}
use Rattle.model.specs.Entries.{Entry, Row, find, insert, name_at, without}
use Rattle.model.specs.Format.{AreBytes, bytes_of_entries, bytes_of_entry, little_endian, padded, read_entries, value_of}
use Rattle.model.specs.Names.{Legal}
use Rattle.model.specs.Order.{Low, Str}
use Rattle.model.proofs.Entries.{row_at}
use Rattle.model.proofs.Format.{bytes_drop, bytes_take, length-bytes_of_entry, length_little_endian, little_endian_value_of, padded_short, value_of_little_endian}
use Rattle.model.proofs.Names.{legal_length}
use Rattle.digits.proofs.Bounds.{names_same}
use Rattle.digits.specs.Keys.{value}
use Rattle.entries.specs.Rows.{below, entries_from, held_at, held_under, is_not_above, part_in_between, place, room, spliced_bytes, values}
use Rattle.entries.proofs.Parts.{below_row, insert_held, insert_new, parted, without_held}
use Rattle.entries.proofs.Places.{between_part, is_not_above_most, numbers, place_found, place_lost, place_most}
use Rattle.entries.proofs.Products.{next_is, part_least, parts_are, rest_is}
use Rattle.entries.proofs.Searches.{drop_next, held_behind, held_here, held_other}
use Rattle.entries.proofs.Splices.{length_back, length_front, length_spliced}

pub length-read_entries : (e n : ℕ) (xs : List ℕ) → length (read_entries e n xs) ≡ n
unfolding read_entries
length-read_entries e zero xs = refl
length-read_entries e (suc n) xs = ap suc (length-read_entries e n (drop e xs))

-- The first of the entries that are read, and those behind them.
pub take-read_entries : (e i n : ℕ) (xs : List ℕ) → i ≤ n → take i (read_entries e n xs) ≡ read_entries e i xs
unfolding read_entries
take-read_entries e zero n xs h = refl
take-read_entries e (suc i) zero xs h = absurd (omega arith)
take-read_entries e (suc i) (suc n) xs h =
    ap (λ (es : List Entry). (take 24 xs, value_of (take (e - 24) (drop 24 xs))) ∷ es) (take-read_entries e i n (drop e xs) (omega arith))

pub drop-read_entries : (e i n : ℕ) (xs : List ℕ) → i ≤ n → drop i (read_entries e n xs) ≡ read_entries e (n - i) (drop (e * i) xs)
unfolding read_entries
drop-read_entries e zero n xs h = rw (sub-zero, mul-zero e)
drop-read_entries e (suc i) zero xs h = absurd (omega arith)
drop-read_entries e (suc i) (suc n) xs h =
    let s : suc n - suc i ≡ n - i = omega arith in
    drop-read_entries e i n (drop e xs) (omega arith) ∙ ap₂ (read_entries e) (sym s) (drop_next e i xs)

pub read_entries_add : (e i n : ℕ) (xs : List ℕ) → read_entries e (i + n) xs ≡ read_entries e i xs ++ read_entries e n (drop (e * i) xs)
unfolding read_entries
read_entries_add e zero n xs = let z : 0 + n ≡ n = omega arith in rw (z, mul-zero e)
read_entries_add e (suc i) n xs =
    let s : suc i + n ≡ suc (i + n) = omega arith in
    ap (λ (k : ℕ). read_entries e k xs) s
    ∙ ap (λ (es : List Entry). (take 24 xs, value_of (take (e - 24) (drop 24 xs))) ∷ es) (read_entries_add e i n (drop e xs)
    ∙ ap (λ (ys : List ℕ). read_entries e i (drop e xs) ++ read_entries e n ys) (drop_next e i xs))

-- What stands behind the entries is not read.
pub read_entries_front : (e n : ℕ) (p ys : List ℕ) → 24 ≤ e → e * n ≤ length p → read_entries e n (p ++ ys) ≡ read_entries e n p
unfolding read_entries
read_entries_front e zero p ys h k = refl
read_entries_front e (suc n) p ys h k =
    let l : e + e * n ≤ length p = omega arith in
    let a : take 24 (p ++ ys) ≡ take 24 p = take-append-le 24 p ys (omega arith) in
    let b : drop 24 (p ++ ys) ≡ drop 24 p ++ ys = drop-append-le 24 p ys (omega arith) in
    let c : take (e - 24) (drop 24 p ++ ys) ≡ take (e - 24) (drop 24 p) = take-append-le (e - 24) (drop 24 p) ys (omega (arith, length-drop 24 p)) in
    let d : drop e (p ++ ys) ≡ drop e p ++ ys = drop-append-le e p ys (omega arith) in
    rw (a, b, c, d, read_entries_front e n (drop e p) ys h (omega (arith, length-drop e p)))

pub read_entries-take : (e n : ℕ) (xs : List ℕ) → 24 ≤ e → e * n ≤ length xs → read_entries e n (take (e * n) xs) ≡ read_entries e n xs
read_entries-take e n xs h k =
    sym (read_entries_front e n (take (e * n) xs) (drop (e * n) xs) h (omega (arith, length-take-le (e * n) xs k)))
    ∙ ap (read_entries e n) (take-append-drop (e * n) xs)

read_entries_parts : (e i n : ℕ) (p ys : List ℕ) → 24 ≤ e → length p ≡ e * i → read_entries e (i + n) (p ++ ys) ≡ read_entries e i p ++ read_entries e n ys
read_entries_parts e i n p ys h k =
    read_entries_add e i n (p ++ ys)
    ∙ ap₂ (λ (a b : List Entry). a ++ b) (read_entries_front e i p ys h (omega arith)) (ap (read_entries e n) (drop_at p ys (e * i) k))

-- The entries of two rows, one after the other, in the room that the code has.
pub joined_list : (e m n : ℕ) (xs ys : List ℕ) → 24 ≤ e → e * m ≤ length xs → e * n ≤ length ys → e * m + e * n ≤ room
    → read_entries e (m + n) (padded room (take (e * m) xs ++ take (e * n) ys)) ≡ read_entries e m xs ++ read_entries e n ys
joined_list e m n xs ys least hx hy most =
    let p = take (e * m) xs in
    let q = take (e * n) ys in
    let lp : length p ≡ e * m = length-take-le (e * m) xs hx in
    let lq : length q ≡ e * n = length-take-le (e * n) ys hy in
    let z : List ℕ = replicate (room - length (p ++ q)) 0 in
    ap (read_entries e (m + n)) (padded_short room (p ++ q) (omega (arith, length-append p q, lp, lq)) ∙ append_assoc p q z)
    ∙ read_entries_parts e m n p (q ++ z) least lp
    ∙ ap₂ (λ (a b : List Entry). a ++ b) (read_entries-take e m xs least hx)
    (read_entries_front e n q z least (omega (arith, lq)) ∙ read_entries-take e n ys least hy)

-- The entries of a part, as the code cuts it.
pub part_is : (e i j at end : ℕ) (xs : List ℕ) → at ≡ e * i → end ≡ e * j → take (end - at) (drop at xs) ≡ entries_from e i j xs
unfolding entries_from
part_is e i j at end xs p q = rw (p, q, rest_is e i j)

pub part_none : (e i j p q : ℕ) (xs : List ℕ) → i ≡ p → j ≡ q → j ≤ i → [] ≡ entries_from e p q xs
unfolding entries_from
part_none e i j p q xs f g h = let z : q - p ≡ 0 = omega arith in rw (z, mul-zero e)

pub part_list : (e count i j : ℕ) (xs : List ℕ) → 24 ≤ e → e * count ≤ length xs → i ≤ j → j ≤ count
    → read_entries e (j - i) (take (e * (j - i)) (drop (e * i) xs)) ≡ take (j - i) (drop i (read_entries e count xs))
part_list e count i j xs least fits h k =
    let l : e * (j - i) ≤ length (drop (e * i) xs) = omega (arith, length-drop (e * i) xs, parts_are e i j h, part_least e j count k) in
    read_entries-take e (j - i) (drop (e * i) xs) least l
    ∙ sym (take-read_entries e (j - i) (count - i) (drop (e * i) xs) (omega arith))
    ∙ ap (take (j - i)) (sym (drop-read_entries e i count xs (omega arith)))

-- The place of a name: what `rank` counts, where the entries are a row.
pub values_are : (e n : ℕ) (xs : List ℕ) → values e n xs ≡ numbers (read_entries e n xs)
unfolding values read_entries
values_are e zero xs = refl
values_are e (suc n) xs = ap (λ (ws : List ℕ). value (take 24 xs) ∷ ws) (values_are e n (drop e xs))

pub rank_place : (e count : ℕ) (xs : List ℕ) {l : Low} {u : Str} (n : Str) (v : ℕ) → Row l (read_entries e count xs) u → Legal n → v ≡ value n
    → below v (values e count xs) ≡ place n (read_entries e count xs)
rank_place e count xs n v r g q = ap₂ below q (values_are e count xs) ∙ below_row n r g

-- A splice replaces the entries from one place on by those of the middle, k of them.
module _ (e count i taken : ℕ) (xs middle : List ℕ) (least : 24 ≤ e) (fits : e * count ≤ length xs) (inside : i + taken ≤ count) where
  abbrev es : List Entry
  es = read_entries e count xs

  pub splice_list : (k : ℕ) (ys : List ℕ) → length middle ≡ e * k
      → read_entries e (i + (k + (count - (i + taken)))) (spliced_bytes e xs count i taken middle ++ ys) ≡ parted es i taken (read_entries e k middle)
  unfolding spliced_bytes
  splice_list k ys h =
      let front = take (e * i) xs in
      let rest = count - (i + taken) in
      let back = take (e * rest) (drop (e * (i + taken)) xs) in
      let a : read_entries e i front ≡ take i es = read_entries-take e i xs least (omega (arith, part_least e i count (omega arith))) ∙ sym (take-read_entries e i count xs (omega arith)) in
      let b : read_entries e rest (back ++ ys) ≡ drop (i + taken) es =
      read_entries_front e rest back ys least (omega (arith, length_back e count i taken xs middle fits inside))
      ∙ read_entries-take e rest (drop (e * (i + taken)) xs) least (omega (arith, length-drop (e * (i + taken)) xs, length_back e count i taken xs middle fits inside, back_fits))
      ∙ sym (drop-read_entries e (i + taken) count xs inside) in
      let s : (front ++ (middle ++ back)) ++ ys ≡ front ++ (middle ++ (back ++ ys)) = simp append_assoc in
      ap (read_entries e (i + (k + rest))) s
      ∙ read_entries_parts e i (k + rest) front (middle ++ (back ++ ys)) least (length_front e count i taken xs middle fits inside)
      ∙ ap₂ (λ (p q : List Entry). p ++ q) a (read_entries_parts e k rest middle (back ++ ys) least h ∙ ap (λ (q : List Entry). read_entries e k middle ++ q) b)
    where
      back_fits : e * (count - (i + taken)) ≤ length (drop (e * (i + taken)) xs)
      back_fits = omega (arith, length-drop (e * (i + taken)) xs, parts_are e (i + taken) count inside)

  -- The same in the room that the code has.
  pub splice_room : (k n : ℕ) → e * count ≤ 640 → length middle ≤ 40 → length middle ≡ e * k → i + (k + (count - (i + taken))) ≡ n
      → read_entries e n (padded room (spliced_bytes e xs count i taken middle)) ≡ parted es i taken (read_entries e k middle)
  splice_room k n most short h q =
      let s = spliced_bytes e xs count i taken middle in
      let l : length s ≤ room = omega (arith, length_spliced e count i taken xs middle fits inside) in
      ap₂ (read_entries e) (sym q) (padded_short room s l) ∙ splice_list k (replicate (room - length s) 0) h

-- An entry that is written reads back.
pub entry_read : (e : ℕ) (x : Entry) → length x.0 ≡ 24 → x.1 < 256 ^ (e - 24) → read_entries e 1 (bytes_of_entry e x) ≡ x ∷ []
unfolding read_entries bytes_of_entry
entry_read e x h k =
    let w = little_endian (e - 24) x.1 in
    let t : take (e - 24) w ≡ w = take_all (e - 24) w (omega (arith, length_little_endian (e - 24) x.1)) in
    rw (take_at x.0 w 24 h, drop_at x.0 w 24 h, t, value_of_little_endian (e - 24) x.1 k)

-- Where the entries that are read are a row: `spliced` at the place of a name is an insertion or a removal.
module _ (e count : ℕ) (xs : List ℕ) {l : Low} {u : Str} (least : 24 ≤ e) (small : e ≤ 40) (fits : e * count ≤ length xs) (most : e * count ≤ 640)
    (r : Row l (read_entries e count xs) u) where
  abbrev row : List Entry
  row = read_entries e count xs

  pub spliced_new : (n : Str) (c : ℕ) → Legal n → c < 256 ^ (e - 24) → find n row ≡ nothing
      → read_entries e (suc count) (padded room (spliced_bytes e xs count (place n row) 0 (bytes_of_entry e (n, c)))) ≡ insert n c row
  spliced_new n c g h f =
      let i = place n row in
      let m : i ≤ count = omega (arith, place_most n row, length-read_entries e count xs) in
      let b : length (bytes_of_entry e (n, c)) ≡ e = length-bytes_of_entry e least (n, c) (legal_length g) in
      splice_room e count i 0 xs (bytes_of_entry e (n, c)) least fits (omega arith) 1 (suc count) most (omega arith) (omega arith) (omega arith)
      ∙ ap (parted row i 0) (entry_read e (n, c) (legal_length g) h) ∙ sym (insert_new n c r f)

  module _ (n : Str) (o : ℕ) (f : find n row ≡ some o) where
    there : place n row + 1 ≤ count
    there = omega (arith, (place_found n o r f).0, length-read_entries e count xs)

    pub spliced_held : (c : ℕ) → Legal n → c < 256 ^ (e - 24)
        → read_entries e count (padded room (spliced_bytes e xs count (place n row) 1 (bytes_of_entry e (n, c)))) ≡ insert n c row
    spliced_held c g h =
        let i = place n row in
        let t = there in
        let b : length (bytes_of_entry e (n, c)) ≡ e = length-bytes_of_entry e least (n, c) (legal_length g) in
        splice_room e count i 1 xs (bytes_of_entry e (n, c)) least fits t 1 count most (omega arith) (omega arith) (omega arith)
        ∙ ap (parted row i 1) (entry_read e (n, c) (legal_length g) h) ∙ sym (insert_held n c o r f)

    pub spliced_without : read_entries e (count - 1) (padded room (spliced_bytes e xs count (place n row) 1 [])) ≡ without n row
    unfolding read_entries
    spliced_without =
        let i = place n row in
        let t = there in
        splice_room e count i 1 xs [] least fits t 0 (count - 1) most (omega arith) (sym (mul-zero e)) (omega arith)
        ∙ sym (without_held n o r f)

-- The name at a place.
pub name_there : (e i n : ℕ) (xs : List ℕ) → i < n → name_at (read_entries e n xs) i ≡ take 24 (drop (e * i) xs)
unfolding read_entries
name_there e i zero xs h = absurd (omega arith)
name_there e zero (suc n) xs h = rw (mul-zero e)
name_there e (suc i) (suc n) xs h = name_there e i n (drop e xs) (omega arith) ∙ ap (take 24) (drop_next e i xs)

pub content_there : (e i n : ℕ) (xs : List ℕ) → i < n → (get_or (read_entries e n xs) i ([], 0)).1 ≡ value_of (take (e - 24) (drop (e * i + 24) xs))
unfolding read_entries
content_there e i zero xs h = absurd (omega arith)
content_there e zero (suc n) xs h = let z : e * 0 + 24 ≡ 24 = omega (arith, mul-zero e) in rw z
content_there e (suc i) (suc n) xs h =
    let k : e + (e * i + 24) ≡ e * suc i + 24 = omega arith in
    content_there e i n (drop e xs) (omega arith)
    ∙ ap (λ (ys : List ℕ). value_of (take (e - 24) ys)) (drop-drop (e * i + 24) e xs ∙ ap (λ (m : ℕ). drop m xs) k)

-- What is held under a name is what the model finds.
pub held_find : (e count : ℕ) (xs : List ℕ) {l : Low} {u : Str} (n : Str) (v : ℕ) → Row l (read_entries e count xs) u → Legal n → v ≡ value n
    → held_under e xs count v ≡ find n (read_entries e count xs)
held_find e count xs n v r g q = go (find n es) refl
  where
    es : List Entry
    es = read_entries e count xs

    i : ℕ
    i = place n es

    b : ℕ
    b = below v (values e count xs)

    here : i ≡ b
    here = sym (rank_place e count xs n v r g q)

    there : i < count → value (take 24 (drop (e * i) xs)) ≡ value (name_at es i)
    there h = ap value (sym (name_there e i count xs h))

    go : (o : Option ℕ) → find n es ≡ o → held_at e b xs count v ≡ o
    go (some x) f =
        let p = place_found n x r f in
        let h : i < count = omega (arith, p.0, length-read_entries e count xs) in
        let t : value (take 24 (drop (e * i) xs)) ≡ v = there h ∙ ap (λ (y : Entry). value y.0) p.1 ∙ sym q in
        sym (held_here e i b xs count v here h (eq-eqb (value (take 24 (drop (e * i) xs))) v t))
        ∙ ap some (sym (content_there e i count xs h) ∙ ap (λ (y : Entry). y.1) p.1)
    go nothing f = sym (elim (dec_lt i count) [
      | no h ↦ held_behind e i b xs count v here (omega arith)
      | yes h ↦ let k : i < length es = omega (arith, length-read_entries e count xs) in
          held_other e i b xs count v here h
          (ne_eqb (value (take 24 (drop (e * i) xs))) v (λ t. place_lost n es f i k (names_same (name_at es i) n (row_at r i k).0 g (sym (there h) ∙ t ∙ q))))
    ])

-- What is read was written, and what is written reads back.
pub bytes_entries : (e n : ℕ) (xs : List ℕ) → 24 ≤ e → e * n ≤ length xs → AreBytes xs → bytes_of_entries e (read_entries e n xs) ≡ take (e * n) xs
unfolding bytes_of_entries read_entries bytes_of_entry
bytes_entries e zero xs h k g = rw (mul-zero e)
bytes_entries e (suc n) xs h k g =
    let l : e + e * n ≤ length xs = omega arith in
    let w = take (e - 24) (drop 24 xs) in
    let m : length w ≡ e - 24 = length-take-le (e - 24) (drop 24 xs) (omega (arith, length-drop 24 xs)) in
    let v : little_endian (e - 24) (value_of w) ≡ w = ap (λ (z : ℕ). little_endian z (value_of w)) (sym m) ∙ little_endian_value_of w (bytes_take (e - 24) (drop 24 xs) (bytes_drop 24 xs g)) in
    let r : bytes_of_entries e (read_entries e n (drop e xs)) ≡ take (e * n) (drop e xs) = bytes_entries e n (drop e xs) h (omega (arith, length-drop e xs)) (bytes_drop e xs g) in
    let d : 24 + (e - 24) ≡ e = omega arith in
    ap₂ (λ (p q : List ℕ). (take 24 xs ++ p) ++ q) v r
    ∙ ap (λ (p : List ℕ). p ++ take (e * n) (drop e xs)) (sym (take-add 24 (e - 24) xs) ∙ ap (λ (z : ℕ). take z xs) d)
    ∙ sym (take-add e (e * n) xs) ∙ ap (λ (z : ℕ). take z xs) (next_is e n)

-- Bytes from which entries are read are the bytes of these.
pub read_bytes : (e n : ℕ) (xs : List ℕ) (es : List Entry) → 24 ≤ e → e * n ≤ length xs → AreBytes xs → read_entries e n xs ≡ es → take (e * n) xs ≡ bytes_of_entries e es
read_bytes e n xs es h k g q = sym (bytes_entries e n xs h k g) ∙ ap (bytes_of_entries e) q

-- The bytes from the place of one name to that of another are those of the entries between them.
pub part_row : (e count i j : ℕ) (xs : List ℕ) → 24 ≤ e → e * count ≤ length xs → AreBytes xs → i ≤ count → j ≤ count
    → entries_from e i j xs ≡ bytes_of_entries e (take (j - i) (drop i (read_entries e count xs)))
unfolding entries_from
part_row e count i j xs least fits bytes h k =
    let z : e * (j - i) ≤ length (drop (e * i) xs) = omega (arith, length-drop (e * i) xs, parts_are e i count h, part_least e (j - i) (count - i) (omega arith)) in
    let y : read_entries e (j - i) (drop (e * i) xs) ≡ take (j - i) (drop i (read_entries e count xs)) =
    sym (take-read_entries e (j - i) (count - i) (drop (e * i) xs) (omega arith)) ∙ ap (take (j - i)) (sym (drop-read_entries e i count xs h)) in
    sym (bytes_entries e (j - i) (drop (e * i) xs) least z (bytes_drop (e * i) xs bytes)) ∙ ap (bytes_of_entries e) y

pub part_between : (e count : ℕ) (xs : List ℕ) {l : Low} {u : Str} (n m : Str) (v w : ℕ) → 24 ≤ e → e * count ≤ length xs → AreBytes xs
    → Row l (read_entries e count xs) u → Legal n → Legal m → v ≡ value n → w ≡ value m
    → part_in_between e xs count v w ≡ bytes_of_entries e (between n m (read_entries e count xs))
part_between e count xs n m v w least fits bytes r f g p q =
    let es = read_entries e count xs in
    let i = place n es in
    let j = is_not_above (value m) (numbers es) in
    ap₂ (λ (x y : ℕ). entries_from e x y xs) (rank_place e count xs n v r f p) (ap₂ is_not_above q (values_are e count xs))
    ∙ part_row e count i j xs least fits bytes (omega (arith, place_most n es, length-read_entries e count xs)) (omega (arith, is_not_above_most (value m) es, length-read_entries e count xs))
    ∙ ap (bytes_of_entries e) (between_part n m r f g)
