-- Bytes by their highest bits: sums over all bytes of a word at once, and what zero tells.
use Rattle.model.proofs.Prelude.{List, [], ◌%◌, ◌*◌, ◌+◌, ◌-◌, ◌/◌, ◌<◌, ◌^◌, ◌∙◌, ◌∷◌, ◌≡◌, ◌≤◌, ap, arith, dec_lt, drop, get_or, get_or-drop, get_or-replicate, get_or-take, length, refl, replicate, suc, sym, take, zero, ℕ}
use lib.Bits.{and_block, and_high, and_mask, and_shr, bit_and, bit_or}
use Rattle.digits.proofs.Bytes.{or_zero}
use Rattle.model.specs.Format.{AreBytes, value_of}
use Rattle.digits.proofs.Keys.{bytes_part, length_part}
use Rattle.gathering.specs.Names.{AreLow, Clean}

-- One byte in each of n places.
abbrev pub every : ℕ → ℕ → ℕ
every c zero = 0
every c (suc n) = c + 256 * every c n

-- The lowest byte apart from the others.
and_first : (d e x y : ℕ) → d < 256 → e < 256 → bit_and (d + 256 * x) (e + 256 * y) ≡ bit_and x y * 256 + bit_and d e
and_first d e x y f g =
    let p : d + 256 * x ≡ x * 256 + d = omega arith in
    let q : e + 256 * y ≡ y * 256 + e = omega arith in
    ap (λ (k : ℕ). bit_and k (e + 256 * y)) p ∙ ap (bit_and (x * 256 + d)) q ∙ and_block 8 x y d e f g

-- A byte's highest bit.
top_high : (d : ℕ) → 0x80 ≤ d → d < 256 → bit_and d 0x80 ≡ 0x80
top_high d h l = and_high d 1 7 ∙ omega arith

top_low : (d : ℕ) → d < 0x80 → bit_and d 0x80 ≡ 0
top_low d h = and_high d 1 7 ∙ omega arith

low_byte : (d : ℕ) → d < 256 → bit_and d 0x80 ≡ 0 → d < 0x80
low_byte d h e = elim (dec_lt d 0x80) [ yes l ↦ l | no n ↦ absurd (omega (arith, e, top_high d (omega arith) h)) ]

high_low : (w : ℕ) → w < 2 ^ 64 → bit_and w 0x8080808080808080 ≡ 0 → w < 2 ^ 63
high_low w h e =
    let p : bit_and (w / 2 ^ 63) 1 ≡ 0 = sym (and_shr w 0x8080808080808080 63) ∙ ap (λ (k : ℕ). k / 2 ^ 63) e in
    omega (arith, p, and_mask (w / 2 ^ 63) 1)

-- One byte more in front: no highest bit is set where none was and that byte has none.
bits_first : (d v n : ℕ) → d < 256 → bit_and (d + 256 * v) (every 0x80 (suc n)) ≡ 0 → (d < 0x80) × (bit_and v (every 0x80 n) ≡ 0)
bits_first d v n h e =
    let p : bit_and v (every 0x80 n) * 256 + bit_and d 0x80 ≡ 0 = sym (and_first d 0x80 v (every 0x80 n) h (omega arith)) ∙ e in
    (low_byte d h (omega (arith, p)), omega (arith, p))

first_bits : (d v n : ℕ) → d < 0x80 → bit_and v (every 0x80 n) ≡ 0 → bit_and (d + 256 * v) (every 0x80 (suc n)) ≡ 0
first_bits d v n h e = and_first d 0x80 v (every 0x80 n) (omega arith) (omega arith) ∙ omega (arith, e, top_low d h)

-- Two added to each byte.
above_bytes : (x : List ℕ) → AreBytes x → bit_and (value_of x) (every 0x80 (length x)) ≡ 0 → bit_and (value_of x + every 2 (length x)) (every 0x80 (length x)) ≡ 0 → (j : ℕ) → get_or x j 0 ≤ 0x7D
unfolding value_of
above_bytes [] f p q j = omega arith
above_bytes (d ∷ x) f p q j =
    let v = value_of x in
    let n = length x in
    let k = bits_first d v n f.0 p in
    let low : d < 0x80 = k.0 in
    let e : d + 2 + 256 * (v + every 2 n) ≡ d + 256 * v + (2 + 256 * every 2 n) = omega arith in
    let m = bits_first (d + 2) (v + every 2 n) n (omega arith) (ap (λ (w : ℕ). bit_and w (every 0x80 (suc n))) e ∙ q) in
    let raised : d + 2 < 0x80 = m.0 in
    go j (omega arith) (above_bytes x f.1 k.1 m.1)
  where
    go : (j : ℕ) → d ≤ 0x7D → ((j : ℕ) → get_or x j 0 ≤ 0x7D) → get_or (d ∷ x) j 0 ≤ 0x7D
    go zero h r = h
    go (suc j) h r = r j

bytes_above : (x : List ℕ) → ((j : ℕ) → j < length x → get_or x j 0 ≤ 0x7D)
    → (bit_and (value_of x) (every 0x80 (length x)) ≡ 0) × (bit_and (value_of x + every 2 (length x)) (every 0x80 (length x)) ≡ 0)
unfolding value_of
bytes_above [] f = (refl, refl)
bytes_above (d ∷ x) f =
    let v = value_of x in
    let n = length x in
    let h : d ≤ 0x7D = f 0 (omega arith) in
    let r = bytes_above x (λ j l. f (suc j) (omega arith)) in
    let e : d + 256 * v + (2 + 256 * every 2 n) ≡ d + 2 + 256 * (v + every 2 n) = omega arith in
    (first_bits d v n (omega arith) r.0, ap (λ (w : ℕ). bit_and w (every 0x80 (suc n))) e ∙ first_bits (d + 2) (v + every 2 n) n (omega arith) r.1)

-- The bytes of y taken from those of x.
under_bytes : (x y : List ℕ) (v : ℕ) → AreBytes x → AreLow y → length x ≡ length y → value_of x ≡ v + value_of y → bit_and v (every 0x80 (length x)) ≡ 0
    → (j : ℕ) → get_or y j 0 ≤ get_or x j 0
unfolding value_of
under_bytes [] [] v f g l e p j = omega arith
under_bytes [] (c ∷ y) v f g l e p j = absurd (omega arith)
under_bytes (d ∷ x) [] v f g l e p j = absurd (omega arith)
under_bytes (d ∷ x) (c ∷ y) v f g l e p j =
    let s : v ≡ v % 256 + 256 * (v / 256) = omega arith in
    let k = bits_first (v % 256) (v / 256) (length x) (omega arith) (rw s at p) in
    let h : v % 256 < 0x80 = k.0 in
    let b : d < 256 = f.0 in
    let o : c < 0x80 = g.0 in
    go j (omega arith) (under_bytes x y (v / 256) f.1 g.1 (omega arith) (omega arith) k.1)
  where
    go : (j : ℕ) → c ≤ d → ((j : ℕ) → get_or y j 0 ≤ get_or x j 0) → get_or (c ∷ y) j 0 ≤ get_or (d ∷ x) j 0
    go zero h r = h
    go (suc j) h r = r j

bytes_under : (x y : List ℕ) (v : ℕ) → length x ≡ length y → ((j : ℕ) → j < length x → (get_or y j 0 ≤ get_or x j 0) × (get_or x j 0 < 0x80)) → value_of x ≡ v + value_of y
    → bit_and v (every 0x80 (length x)) ≡ 0
unfolding value_of
bytes_under [] [] v l f e = let z : v ≡ 0 = omega arith in rw z
bytes_under [] (c ∷ y) v l f e = absurd (omega arith)
bytes_under (d ∷ x) [] v l f e = absurd (omega arith)
bytes_under (d ∷ x) (c ∷ y) v l f e =
    let h : (c ≤ d) × (d < 0x80) = f 0 (omega arith) in
    let s : v % 256 + 256 * (v / 256) ≡ v = omega arith in
    let r = bytes_under x y (v / 256) (omega arith) (λ j k. f (suc j) (omega arith)) (omega (arith, h.0, h.1)) in
    ap (λ (w : ℕ). bit_and w (every 0x80 (suc (length x)))) (sym s) ∙ first_bits (v % 256) (v / 256) (length x) (omega (arith, h.0, h.1)) r

-- Where no byte of y is above that of x, y is not above x.
value_of_least : (x y : List ℕ) → length x ≡ length y → ((j : ℕ) → j < length x → get_or y j 0 ≤ get_or x j 0) → value_of y ≤ value_of x
unfolding value_of
value_of_least [] [] l f = omega arith
value_of_least [] (c ∷ y) l f = absurd (omega arith)
value_of_least (d ∷ x) [] l f = absurd (omega arith)
value_of_least (d ∷ x) (c ∷ y) l f =
    let h : c ≤ d = f 0 (omega arith) in
    omega (arith, value_of_least x y (omega arith) (λ j k. f (suc j) (omega arith)))

low_bits : (y : List ℕ) → AreLow y → bit_and (value_of y) (every 0x80 (length y)) ≡ 0
unfolding value_of
low_bits [] g = refl
low_bits (c ∷ y) g = first_bits c (value_of y) (length y) g.0 (low_bits y g.1)

-- The eight bytes from `at` on.
module _ (s : List ℕ) (at : ℕ) (room : at + 8 ≤ length s) (bytes : (i : ℕ) → get_or s i 0 < 256) (w : ℕ) (e : w ≡ value_of (take 8 (drop at s))) (l : w < 2 ^ 64) where
  abbrev x : List ℕ
  x = take 8 (drop at s)

  eight : length x ≡ 8
  eight = length_part s at 8 room

  place : (j : ℕ) → j < 8 → get_or x j 0 ≡ get_or s (at + j) 0
  place j h = get_or-take 8 (drop at s) j 0 h ∙ get_or-drop at s j 0

  module _ (r : ℕ) (q : r ≡ (w + 0x0202020202020202) % 2 ^ 64) where
    pub none_above : bit_and w 0x8080808080808080 ≡ 0 → bit_and r 0x8080808080808080 ≡ 0 → (j : ℕ) → j < 8 → get_or s (at + j) 0 ≤ 0x7D
    none_above p z j h =
        let k : r ≡ w + 0x0202020202020202 = omega (arith, high_low w l p, q) in
        let p' : bit_and (value_of x) (every 0x80 (length x)) ≡ 0 = rw (eight, ← e) p in
        let q' : bit_and (value_of x + every 2 (length x)) (every 0x80 (length x)) ≡ 0 = rw (eight, ← e) (rw k at z) in
        omega (arith, place j h, above_bytes x (bytes_part s 8 at bytes) p' q' j)

    pub above_none : ((j : ℕ) → j < 8 → get_or s (at + j) 0 ≤ 0x7D) → (bit_and w 0x8080808080808080 ≡ 0) × (bit_and r 0x8080808080808080 ≡ 0)
    above_none f =
        let b = bytes_above x (λ j h. omega (arith, eight, place j (omega (arith, eight)), f j (omega (arith, eight)))) in
        let p : bit_and w 0x8080808080808080 ≡ 0 = rw (eight, ← e) at b.0 in
        let k : r ≡ w + 0x0202020202020202 = omega (arith, high_low w l p, q) in
        (p, rw k (rw (eight, ← e) at b.1))

  module _ (y : List ℕ) (low : AreLow y) (full : length y ≡ 8) (from : ℕ) (m : from ≡ value_of y) (fits : from < 2 ^ 64) (r : ℕ) (q : (r + from) % 2 ^ 64 ≡ w) (o : r < 2 ^ 64) where
    same : length x ≡ length y
    same = eight ∙ sym full

    from_low : from < 2 ^ 63
    from_low = high_low from fits (rw (full, ← m) at (low_bits y low))

    pub none_under : bit_and r 0x8080808080808080 ≡ 0 → (j : ℕ) → j < 8 → get_or y j 0 ≤ get_or s (at + j) 0
    none_under z j h =
        let k : w ≡ r + from = omega (arith, high_low r o z, from_low, q) in
        let p : value_of x ≡ r + value_of y = sym e ∙ k ∙ ap (λ (n : ℕ). r + n) m in
        let z' : bit_and r (every 0x80 (length x)) ≡ 0 = rw eight z in
        omega (arith, place j h, under_bytes x y r (bytes_part s 8 at bytes) low same p z' j)

    pub under_none : ((j : ℕ) → j < 8 → (get_or y j 0 ≤ get_or s (at + j) 0) × (get_or s (at + j) 0 < 0x80)) → bit_and r 0x8080808080808080 ≡ 0
    under_none f =
        let g : (j : ℕ) → j < length x → (get_or y j 0 ≤ get_or x j 0) × (get_or x j 0 < 0x80) =
        λ j h. let t = f j (omega (arith, eight)) in (omega (arith, place j (omega (arith, eight)), t.0), omega (arith, place j (omega (arith, eight)), t.1)) in
        let b : from ≤ w = omega (arith, e, m, value_of_least x y same (λ j h. (g j h).0)) in
        let k : w ≡ r + from = omega (arith, b, q) in
        rw eight at (bytes_under x y r same g (sym e ∙ k ∙ ap (λ (n : ℕ). r + n) m))

-- Three words.
module _ (P : ℕ → Type 0) (s : List ℕ) (f : (j : ℕ) → j < 8 → P (get_or s (0 + j) 0)) (g : (j : ℕ) → j < 8 → P (get_or s (8 + j) 0)) (h : (j : ℕ) → j < 8 → P (get_or s (16 + j) 0)) where
  in_three : (j : ℕ) → j < 24 → P (get_or s j 0)
  in_three j l = elim (dec_lt j 8) [
    | yes a ↦ let e : 0 + j ≡ j = omega arith in rw e at (f j a)
    | no a ↦ elim (dec_lt j 16) [
      | yes b ↦ let e : 8 + (j - 8) ≡ j = omega arith in rw e at (g (j - 8) (omega arith))
      | no b ↦ let e : 16 + (j - 16) ≡ j = omega arith in rw e at (h (j - 16) (omega arith))
    ]
  ]

-- The least bytes of a name, its first word and any other.
abbrev pub begins : List ℕ
begins = 0x21 ∷ replicate 7 0x20

abbrev pub blanks : List ℕ
blanks = replicate 8 0x20

low_replicate : (n c : ℕ) → c < 0x80 → AreLow (replicate n c)
low_replicate zero c h = tt
low_replicate (suc n) c h = (h, low_replicate n c h)

pub begins_low : AreLow begins
begins_low = (omega arith, low_replicate 7 0x20 (omega arith))

pub blanks_low : AreLow blanks
blanks_low = low_replicate 8 0x20 (omega arith)

pub blank_at : (n j : ℕ) → j < n → ◌≡◌ {A = ℕ} (get_or (replicate n 0x20) j 0) 0x20
blank_at n j h = get_or-replicate {A = ℕ} n j 0x20 0 h

begins_least : (j : ℕ) → j < 8 → 0x20 ≤ get_or begins j 0
begins_least zero h = omega arith
begins_least (suc j) h = omega (arith, blank_at 7 j (omega arith))

begins_at : (m j : ℕ) → j < 8 → 0x20 ≤ m → (j ≡ 0 → 0x21 ≤ m) → get_or begins j 0 ≤ m
begins_at m zero h k f = f refl
begins_at m (suc j) h k f = omega (arith, blank_at 7 j (omega arith))

-- What all six words tell; the sign is another's.
module _ (most least : List ℕ) (ascents a₁ a₂ a₃ u₁ u₂ u₃ : ℕ) where
  abbrev all : ℕ
  all = bit_or (bit_or (bit_or a₁ a₂) a₃) (bit_or (bit_or u₁ u₂) u₃)

  pub clean : 2 ^ 63 ≤ ascents → all ≡ 0
      → (a₁ ≡ 0 → (j : ℕ) → j < 8 → get_or most (0 + j) 0 ≤ 0x7D) → (a₂ ≡ 0 → (j : ℕ) → j < 8 → get_or most (8 + j) 0 ≤ 0x7D) → (a₃ ≡ 0 → (j : ℕ) → j < 8 → get_or most (16 + j) 0 ≤ 0x7D)
      → (u₁ ≡ 0 → (j : ℕ) → j < 8 → get_or begins j 0 ≤ get_or least (0 + j) 0)
      → (u₂ ≡ 0 → (j : ℕ) → j < 8 → get_or blanks j 0 ≤ get_or least (8 + j) 0) → (u₃ ≡ 0 → (j : ℕ) → j < 8 → get_or blanks j 0 ≤ get_or least (16 + j) 0)
      → Clean most least ascents
  clean r z f₁ f₂ f₃ g₁ g₂ g₃ =
      let q = or_zero (bit_or (bit_or a₁ a₂) a₃) (bit_or (bit_or u₁ u₂) u₃) z in
      let a = or_zero (bit_or a₁ a₂) a₃ q.0 in
      let b = or_zero a₁ a₂ a.0 in
      let u = or_zero (bit_or u₁ u₂) u₃ q.1 in
      let v = or_zero u₁ u₂ u.0 in
      record {
        above = in_three (λ d. d ≤ 0x7D) most (f₁ b.0) (f₂ b.1) (f₃ a.1);
        under = in_three (λ d. 0x20 ≤ d) least
            (λ j h. omega (arith, begins_least j h, g₁ v.0 j h))
            (λ j h. omega (arith, blank_at 8 j h, g₂ v.1 j h))
            (λ j h. omega (arith, blank_at 8 j h, g₃ u.1 j h));
        begun = g₁ v.0 0 (omega arith);
        rising = r;
      }

  pub no_faults : Clean most least ascents → ((j : ℕ) → get_or least j 0 ≤ 0x7D)
      → (((j : ℕ) → j < 8 → get_or most (0 + j) 0 ≤ 0x7D) → a₁ ≡ 0) → (((j : ℕ) → j < 8 → get_or most (8 + j) 0 ≤ 0x7D) → a₂ ≡ 0) → (((j : ℕ) → j < 8 → get_or most (16 + j) 0 ≤ 0x7D) → a₃ ≡ 0)
      → (((j : ℕ) → j < 8 → (get_or begins j 0 ≤ get_or least (0 + j) 0) × (get_or least (0 + j) 0 < 0x80)) → u₁ ≡ 0)
      → (((j : ℕ) → j < 8 → (get_or blanks j 0 ≤ get_or least (8 + j) 0) × (get_or least (8 + j) 0 < 0x80)) → u₂ ≡ 0)
      → (((j : ℕ) → j < 8 → (get_or blanks j 0 ≤ get_or least (16 + j) 0) × (get_or least (16 + j) 0 < 0x80)) → u₃ ≡ 0)
      → all ≡ 0
  no_faults C L f₁ f₂ f₃ g₁ g₂ g₃ =
      let first : (j : ℕ) → j ≡ 0 → 0x21 ≤ get_or least (0 + j) 0 =
      λ j z. let o : 0 + j ≡ 0 = omega arith in rw o C.begun in
      let x₁ = f₁ (λ j h. C.above (0 + j) (omega arith)) in
      let x₂ = f₂ (λ j h. C.above (8 + j) (omega arith)) in
      let x₃ = f₃ (λ j h. C.above (16 + j) (omega arith)) in
      let y₁ = g₁ (λ j h. (begins_at (get_or least (0 + j) 0) j h (C.under (0 + j) (omega arith)) (first j), omega (arith, L (0 + j)))) in
      let y₂ = g₂ (λ j h. (omega (arith, blank_at 8 j h, C.under (8 + j) (omega arith)), omega (arith, L (8 + j)))) in
      let y₃ = g₃ (λ j h. (omega (arith, blank_at 8 j h, C.under (16 + j) (omega arith)), omega (arith, L (16 + j)))) in
      rw (x₁, x₂, x₃, y₁, y₂, y₃) refl

  -- The word that has the sign too: it is 0 just where `all` is 0 and the names ascend.
  abbrev signed : ℕ
  signed = bit_or all (1 - ascents / 2 ^ 63)

  pub signed_zero : signed ≡ 0 → (2 ^ 63 ≤ ascents) × (all ≡ 0)
  signed_zero z = let p = or_zero all (1 - ascents / 2 ^ 63) z in (omega (arith, p.1), p.0)

  pub zero_signed : ascents < 2 ^ 64 → 2 ^ 63 ≤ ascents → all ≡ 0 → signed ≡ 0
  zero_signed fits r z = let s : ascents / 2 ^ 63 ≡ 1 = omega (arith, r) in rw (s, z) refl
