-- Entries of z bytes that are the upper part of others, or those and one more: the code's test of it.
use Rattle.model.proofs.Prelude.{Bool, List, [], ◌&&◌, ◌*◌, ◌++◌, ◌+◌, ◌-◌, ◌<◌, ◌^◌, ◌∙◌, ◌∷◌, ◌≡◌, ◌≤◌, ap, ap₂, arith, clash, dec_le, drop, drop_at, le-leb, leb, leb-true, length, length-drop, length-take-le, refl, suc, sym, take, take-add, take_at, true, zero, ℕ}
use Rattle.model.specs.Entries.{Entry, Row, entry, name_at, no_entries, without}
use Rattle.model.specs.Files.{Copied, exactly, one_more}
use Rattle.model.specs.Format.{AreBytes, bytes_of_entry, little_endian, read_entries, value_of}
use Rattle.model.specs.Names.{Legal}
use Rattle.model.specs.Order.{Low, Str, at}
use Rattle.model.proofs.Deciding.{over, str?}
use Rattle.model.proofs.Format.{Contents, bytes_drop, bytes_take, little_endian_value_of, value_of_little_endian}
use Rattle.model.proofs.Names.{legal_length}
use Rattle.model.proofs.Order.{le_refl}
use Rattle.model.proofs.Tests.{both_join, both_true, equal_same_str, same_str_other, same_str_self}
use Rattle.entries.specs.Rows.{are_among, pieces}
use Rattle.entries.proofs.Copies.{among_self, without_head, without_tail}

-- The bytes of each entry.
abbrev pub each : ℕ → List Entry → List (List ℕ)
each z [] = []
each z (e ∷ es) = bytes_of_entry z e ∷ each z es

-- What is read of an entry's bytes is written so.
pub entry_bytes : (z : ℕ) (xs : List ℕ) → 24 ≤ z → z ≤ length xs → AreBytes xs → take z xs ≡ bytes_of_entry z (take 24 xs, value_of (take (z - 24) (drop 24 xs)))
unfolding bytes_of_entry
entry_bytes z xs h k g =
    let w = take (z - 24) (drop 24 xs) in
    let m : length w ≡ z - 24 = length-take-le (z - 24) (drop 24 xs) (omega (arith, length-drop 24 xs)) in
    let v : little_endian (z - 24) (value_of w) ≡ w = ap (λ (n : ℕ). little_endian n (value_of w)) (sym m) ∙ little_endian_value_of w (bytes_take (z - 24) (drop 24 xs) (bytes_drop 24 xs g)) in
    let d : z ≡ 24 + (z - 24) = omega arith in
    ap (λ (n : ℕ). take n xs) d ∙ take-add 24 (z - 24) xs ∙ ap (λ (y : List ℕ). take 24 xs ++ y) (sym v)

pub pieces_are : (z n : ℕ) (xs : List ℕ) → 24 ≤ z → z * n ≤ length xs → AreBytes xs → pieces z n xs ≡ each z (read_entries z n xs)
unfolding pieces read_entries
pieces_are z zero xs h k g = refl
pieces_are z (suc n) xs h k g =
    let l : z + z * n ≤ length xs = omega arith in
    ap₂ (λ (y : List ℕ) (ys : List (List ℕ)). y ∷ ys) (entry_bytes z xs h (omega arith) g)
    (pieces_are z n (drop z xs) h (omega (arith, length-drop z xs)) (bytes_drop z xs g))

module _ (z : ℕ) where
  -- Entries are equal where their bytes are.
  name_in : (e : Entry) → Legal e.0 → take 24 (bytes_of_entry z e) ≡ e.0
  unfolding bytes_of_entry
  name_in e g = take_at e.0 (little_endian (z - 24) e.1) 24 (legal_length g)

  value_in : (e : Entry) → Legal e.0 → drop 24 (bytes_of_entry z e) ≡ little_endian (z - 24) e.1
  unfolding bytes_of_entry
  value_in e g = drop_at e.0 (little_endian (z - 24) e.1) 24 (legal_length g)

  same_name : (e f : Entry) → Legal e.0 → Legal f.0 → bytes_of_entry z e ≡ bytes_of_entry z f → e.0 ≡ f.0
  same_name e f g h q = sym (name_in e g) ∙ ap (take 24) q ∙ name_in f h

  same_both : (e f : Entry) → Legal e.0 → Legal f.0 → e.1 < 256 ^ (z - 24) → f.1 < 256 ^ (z - 24) → bytes_of_entry z e ≡ bytes_of_entry z f → e ≡ f
  same_both e f g h v w q =
      let i : little_endian (z - 24) e.1 ≡ little_endian (z - 24) f.1 = sym (value_in e g) ∙ ap (drop 24) q ∙ value_in f h in
      ap₂ (λ (n : Str) (x : ℕ). (n, x)) (same_name e f g h q) (sym (value_of_little_endian (z - 24) e.1 v) ∙ ap value_of i ∙ value_of_little_endian (z - 24) f.1 w)

  -- What is met among as many entries is the same.
  among_same : {l m : Low} {u v : Str} {es ns : List Entry} → Row l es u → Row m ns v → Contents z es → Contents z ns
      → are_among (each z ns) (each z es) ≡ true → length ns ≤ length es → es ≡ ns
  unfolding are_among
  among_same no_entries no_entries p q t h = refl
  among_same (entry g a c r) no_entries p q t h = clash cc
  among_same no_entries (entry g a c r) p q t h = absurd (omega arith)
  among_same (entry {e = e} {es = es} g a c r) (entry {e = n} {es = ns} g' a' c' r') p q t h = elim (str? (bytes_of_entry z e) (bytes_of_entry z n)) [
    | yes s ↦ ap₂ (λ (x : Entry) (xs : List Entry). x ∷ xs) (same_both e n g g' p.0 q.0 s)
        (among_same r r' p.1 q.1 (rw (equal_same_str (bytes_of_entry z e) (bytes_of_entry z n) s) at t) (omega arith))
    | no s ↦ let i = among_same (entry g a c r) r' p q.1 (rw (same_str_other (bytes_of_entry z e) (bytes_of_entry z n) s) at t) (omega arith) in
        absurd (omega (arith, ap length i))
  ]

  -- What is met among one more is those without one.
  among_one : {l m : Low} {u v : Str} {es ns : List Entry} → Row l es u → Row m ns v → Contents z es → Contents z ns
      → are_among (each z ns) (each z es) ≡ true → length ns ≡ suc (length es) → (i : ℕ) × (i < length ns) × (without (name_at ns i) ns ≡ es)
  unfolding are_among
  among_one r no_entries p q t h = absurd (omega arith)
  among_one no_entries (entry {u = v} {e = n} g a c no_entries) p q t h = (0, omega arith, without_head {u = v} n no_entries)
  among_one no_entries (entry g a c (entry g' a' c' r)) p q t h = absurd (omega arith)
  among_one (entry {e = e} {es = es} g a c r) (entry {e = n} {es = ns} g' a' c' r') p q t h = elim (str? (bytes_of_entry z e) (bytes_of_entry z n)) [
    | yes s ↦ let i = among_one r r' p.1 q.1 (rw (equal_same_str (bytes_of_entry z e) (bytes_of_entry z n) s) at t) (omega arith) in
        (suc i.0, omega (arith, i.1), without_tail n r' i.0 i.1 ∙ ap₂ (λ (x : Entry) (xs : List Entry). x ∷ xs) (sym (same_both e n g g' p.0 q.0 s)) i.2)
    | no s ↦ let i = among_same (entry g a c r) r' p q.1 (rw (same_str_other (bytes_of_entry z e) (bytes_of_entry z n) s) at t) (omega arith) in
        (0, omega arith, without_head n r' ∙ sym i)
  ]

  -- A row is met behind a lower name.
  among_next : {v : Str} (n : Entry) {ns : List Entry} → Legal n.0 → Row (at n.0) ns v → are_among (bytes_of_entry z n ∷ each z ns) (each z ns) ≡ true
  unfolding are_among
  among_next n g no_entries = refl
  among_next n g (entry {e = e} {es = es} g' a c r) =
      rw (same_str_other (bytes_of_entry z e) (bytes_of_entry z n) (λ q. over a (rw (same_name e n g' g q) (le_refl n.0)))) (among_self (each z (e ∷ es)))

  among_without : {m : Low} {v : Str} {ns : List Entry} → Row m ns v → (i : ℕ) → i < length ns
      → (are_among (each z ns) (each z (without (name_at ns i) ns)) ≡ true) × (length ns ≡ suc (length (without (name_at ns i) ns)))
  unfolding are_among
  among_without no_entries i h = absurd (omega arith)
  among_without (entry {e = e} g a c r) zero h = rw (without_head e r) (among_next e g r, refl)
  among_without (entry {e = e} {es = es} g a c r) (suc i) h =
      let k = among_without r i (omega arith) in
      rw (without_tail e r i (omega arith), same_str_self (bytes_of_entry z e)) (k.0, ap suc k.1)

  -- R4.13: exactly A's entries in N's range, or these and one more.
  abbrev pub met : List Entry → List Entry → Bool
  met es ns = are_among (each z ns) (each z es) && leb (length ns) (length es + 1)

  pub met_copied : {l m : Low} {u v : Str} {es ns : List Entry} → Row l es u → Row m ns v → Contents z es → Contents z ns → met es ns ≡ true → Copied es ns
  met_copied {es = es} {ns = ns} r s p q t =
      let w = both_true (are_among (each z ns) (each z es)) (leb (length ns) (length es + 1)) t in
      let k : length ns ≤ length es + 1 = leb-true (length ns) (length es + 1) w.1 in
      elim (dec_le (length ns) (length es)) [
        | yes h ↦ rw (← among_same r s p q w.0 h) exactly
        | no h ↦ let i = among_one r s p q w.0 (omega arith) in one_more i.0 i.1 i.2
      ]

  pub copied_met : {m : Low} {v : Str} {es ns : List Entry} → Row m ns v → Copied es ns → met es ns ≡ true
  copied_met {ns = ns} s exactly = rw (among_self (each z ns), le-leb (length ns) (length ns + 1) (omega arith))
  copied_met {ns = ns} s (one_more i h q) =
      let k = among_without s i h in
      let w = without (name_at ns i) ns in
      rw (← q) (both_join (are_among (each z ns) (each z w)) (leb (length ns) (length w + 1)) k.0 (le-leb (length ns) (length w + 1) (omega (arith, k.1))))

-- What `is_copied` tests, of the entries that are read.
pub copies_read : (z m n : ℕ) (xs ys : List ℕ) → 24 ≤ z → z * m ≤ length xs → z * n ≤ length ys → AreBytes xs → AreBytes ys
    → (are_among (pieces z n ys) (pieces z m xs) && leb n (m + 1)) ≡ (are_among (each z (read_entries z n ys)) (each z (read_entries z m xs)) && leb n (m + 1))
copies_read z m n xs ys h j k f g = rw (pieces_are z n ys h k g, pieces_are z m xs h j f)
