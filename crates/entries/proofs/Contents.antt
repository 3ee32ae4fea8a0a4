-- Little-endian numbers, one after the other, are the sum; the content of an entry as value and run; and an entry as the code writes it.
use Rattle.model.proofs.Prelude.{List, [], ◌%◌, ◌*◌, ◌++◌, ◌+◌, ◌-◌, ◌/◌, ◌<◌, ◌^◌, ◌∙◌, ◌∷◌, ◌≡◌, ◌≤◌, ap, append_assoc, arith, drop, length, length-append, mul_assoc, paste, pow-succ', pow-zero, refl, replicate, suc, sym, take, zero, ℕ}
use Rattle.model.specs.Entries.{Entry, run_of_content, value_of_content}
use Rattle.model.specs.Format.{EntrySize, bytes_of_entry, little_endian, padded, value_of}
use Rattle.model.proofs.Format.{length-bytes_of_entry, length_little_endian, run_part, value_part}
use Rattle.digits.proofs.Bytes.{value_of_split}
use Rattle.entries.specs.Rows.{content_number}
use Rattle.model.specs.declared.Content.{Content}
use Rattle.entries.proofs.Padding.{copied, take_padded_whole, zeros_padded}

-- Writing m bytes and then n bytes is writing the sum.
pub little_endian_sum : (m n v r : ℕ) → v < 256 ^ m → little_endian (m + n) (v + 256 ^ m * r) ≡ little_endian m v ++ little_endian n r
unfolding little_endian
little_endian_sum zero n v r h =
    let z : 0 + n ≡ n = omega arith in
    let s : v + 256 ^ 0 * r ≡ r = omega (arith, pow-zero 256) in
    rw (z, s)
little_endian_sum (suc m) n v r h =
    let p : 256 ^ suc m ≡ 256 * 256 ^ m = pow-succ' 256 m in
    let x : 256 ^ suc m * r ≡ 256 * (256 ^ m * r) = rw p (mul_assoc 256 (256 ^ m) r) in
    let a : (v + 256 ^ suc m * r) % 256 ≡ v % 256 = omega arith in
    let b : (v + 256 ^ suc m * r) / 256 ≡ v / 256 + 256 ^ m * r = omega arith in
    let z : suc m + n ≡ suc (m + n) = omega arith in
    ap (λ (k : ℕ). little_endian k (v + 256 ^ suc m * r)) z ∙ rw (a, b, little_endian_sum m n (v / 256) r (omega arith))

-- What lies above the bytes that are written is not written.
pub little_endian_low : (m v r : ℕ) → little_endian m (v + 256 ^ m * r) ≡ little_endian m v
unfolding little_endian
little_endian_low zero v r = refl
little_endian_low (suc m) v r =
    let p : 256 ^ suc m ≡ 256 * 256 ^ m = pow-succ' 256 m in
    let x : 256 ^ suc m * r ≡ 256 * (256 ^ m * r) = rw p (mul_assoc 256 (256 ^ m) r) in
    let a : (v + 256 ^ suc m * r) % 256 ≡ v % 256 = omega arith in
    let b : (v + 256 ^ suc m * r) / 256 ≡ v / 256 + 256 ^ m * r = omega arith in
    rw (a, b, little_endian_low m (v / 256) r)

-- The eight bytes of a number as the code writes them.
pub eight_bytes : (v : ℕ)
    → v % 256 ∷ v / 256 % 256 ∷ v / 65536 % 256 ∷ v / 16777216 % 256 ∷ v / 4294967296 % 256 ∷ v / 1099511627776 % 256
    ∷ v / 281474976710656 % 256 ∷ v / 72057594037927936 % 256 ∷ [] ≡ little_endian 8 v
unfolding little_endian
eight_bytes v =
    let b : v / 256 / 256 ≡ v / 65536 = omega arith in
    let c : v / 65536 / 256 ≡ v / 16777216 = omega arith in
    let d : v / 16777216 / 256 ≡ v / 4294967296 = omega arith in
    let e : v / 4294967296 / 256 ≡ v / 1099511627776 = omega arith in
    let f : v / 1099511627776 / 256 ≡ v / 281474976710656 = omega arith in
    let g : v / 281474976710656 / 256 ≡ v / 72057594037927936 = omega arith in
    rw (b, c, d, e, f, g)

-- Value and run of a content, and back.
pub value_is : (c : Content) → c.value < 2 ^ 64 → value_of_content (content_number c) ≡ c.value
unfolding content_number
value_is c h = value_part c.value c.run h

pub run_is : (c : Content) → c.value < 2 ^ 64 → run_of_content (content_number c) ≡ c.run
unfolding content_number
run_is c h = run_part c.value c.run h

-- The content as the code reads it.
module _ (e at : ℕ) (xs : List ℕ) (s : EntrySize e) (h : at + e ≤ length xs) where
  pub content_short : (v : ℕ) → e < 40 → v ≡ value_of (take 8 (drop (at + 24) xs)) → v + 2 ^ 64 * 0 ≡ value_of (take (e - 24) (drop (at + 24) xs))
  content_short v k q = let d : e - 24 ≡ 8 = omega arith in rw d (omega arith)

  pub content_long : (v r : ℕ) → 40 ≤ e → v ≡ value_of (take 8 (drop (at + 24) xs)) → r ≡ value_of (take 8 (drop (at + 32) xs))
      → v + 2 ^ 64 * r ≡ value_of (take (e - 24) (drop (at + 24) xs))
  content_long v r k p q =
      let d : e - 24 ≡ 16 = omega arith in
      let a : at + 24 + 8 ≡ at + 32 = omega arith in
      let w = value_of_split (at + 24) 8 8 xs (omega arith) in
      rw (d, p, q, ← a) (sym w)

-- The bytes of an entry as the code writes them.
module _ (e : ℕ) (name : List ℕ) (v r : ℕ) (s : EntrySize e) (h : length name ≡ 24) (k : v < 2 ^ 64) where
  pub entry_short : e < 40 → name ++ little_endian 8 v ≡ bytes_of_entry e (name, v + 2 ^ 64 * r)
  unfolding bytes_of_entry
  entry_short l = let d : e - 24 ≡ 8 = omega arith in rw d (ap (λ (z : List ℕ). name ++ z) (sym (little_endian_low 8 v r)))

  pub entry_long : 40 ≤ e → (name ++ little_endian 8 v) ++ little_endian 8 r ≡ bytes_of_entry e (name, v + 2 ^ 64 * r)
  unfolding bytes_of_entry
  entry_long l =
      let d : e - 24 ≡ 16 = omega arith in
      rw (d, append_assoc) (ap (λ (z : List ℕ). name ++ z) (sym (little_endian_sum 8 8 v r k)))

  -- The copies of which the code makes it.
  module _ (w m₁ m₂ : List ℕ) (j : w ≡ little_endian 8 v) (q₁ : m₁ ≡ paste (replicate 40 0) 0 name (length name)) (q₂ : m₂ ≡ paste m₁ 24 w (length w)) where
    value_copied : m₂ ≡ padded 40 (name ++ little_endian 8 v)
    value_copied =
        let e₁ : m₁ ≡ padded 40 name = copied 0 [] name name (zeros_padded 40) refl refl (omega arith) q₁ in
        copied 24 name w (little_endian 8 v) e₁ h j (omega (arith, length_little_endian 8 v)) q₂

    pub short_copies : e < 40 → m₂ ≡ padded 40 (bytes_of_entry e (name, v + 2 ^ 64 * r))
    short_copies l = value_copied ∙ ap (padded 40) (entry_short l)

    pub long_copies : (x m₃ : List ℕ) → 40 ≤ e → x ≡ little_endian 8 r → m₃ ≡ paste m₂ 32 x (length x)
        → m₃ ≡ padded 40 (bytes_of_entry e (name, v + 2 ^ 64 * r))
    long_copies x m₃ l i q₃ =
        let n : length (name ++ little_endian 8 v) ≡ 32 = omega (arith, length-append name (little_endian 8 v), length_little_endian 8 v) in
        copied 32 (name ++ little_endian 8 v) x (little_endian 8 r) value_copied n i (omega (arith, length_little_endian 8 r)) q₃
        ∙ ap (padded 40) (entry_long l)

-- An entry without the zeros behind it.
pub entry_part : (e : ℕ) (x : Entry) (ys : List ℕ) → EntrySize e → length x.0 ≡ 24 → ys ≡ padded 40 (bytes_of_entry e x) → take (e - 0) ys ≡ bytes_of_entry e x
entry_part e x ys s h q =
    let z : e - 0 ≡ e = omega arith in
    rw (z, q) (take_padded_whole e 40 (bytes_of_entry e x) (length-bytes_of_entry e (omega arith) x h) (omega arith))
