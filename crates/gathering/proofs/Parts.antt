-- A part of a bound in one word: k digits, and zeros behind them.
use Rattle.model.proofs.Prelude.{List, [], ◌%◌, ◌*◌, ◌++◌, ◌+◌, ◌-◌, ◌/◌, ◌<◌, ◌^◌, ◌∙◌, ◌∷◌, ◌≡◌, ◌≤◌, ap, arith, drop, eq-eqb, get_or, length, length-append, length-replicate, pow-suc, refl, replicate, suc, sym, take, take_all, true, zero, ℕ}
use Rattle.std.proofs.Common.{mul_comm, mul-zero, mul-suc, pow-add}
use lib.Bits.{bit_and, bit_or, or_shifted_r}
use Rattle.model.specs.Names.{Digits}
use Rattle.model.specs.Format.{AreBytes, value_of}
use Rattle.model.proofs.Format.{bytes_append, bytes_same}
use Rattle.digits.specs.Keys.{is_all_zero}
use Rattle.digits.proofs.Bytes.{value_of_append, value_of_split}
use Rattle.digits.proofs.Keys.{bytes_part, length_part}
use Rattle.gathering.proofs.Bits.{blank_at, blanks, blanks_low, every, none_above, none_under}
use Rattle.gathering.proofs.Names.{digits_each}

-- Bytes whose number is zero.
pub value_zero : (x : List ℕ) → value_of x ≡ 0 → is_all_zero x ≡ true
unfolding value_of is_all_zero
value_zero [] e = refl
value_zero (d ∷ x) e = rw (eq-eqb d 0 (omega arith)) (value_zero x (omega arith))

-- A part of a bound: k digits, and zeros behind them.
blanks_are : (k : ℕ) → k ≤ 8 → 0x2020202020202020 * 2 ^ (4 * k) % 2 ^ 64 * 2 ^ (4 * k) % 2 ^ 64 ≡ every 0x20 (8 - k) * 2 ^ (8 * k)
blanks_are zero h = refl
blanks_are (suc zero) h = refl
blanks_are (suc (suc zero)) h = refl
blanks_are (suc (suc (suc zero))) h = refl
blanks_are (suc (suc (suc (suc zero)))) h = refl
blanks_are (suc (suc (suc (suc (suc zero))))) h = refl
blanks_are (suc (suc (suc (suc (suc (suc zero)))))) h = refl
blanks_are (suc (suc (suc (suc (suc (suc (suc zero))))))) h = refl
blanks_are (suc (suc (suc (suc (suc (suc (suc (suc zero)))))))) h = refl
blanks_are (suc (suc (suc (suc (suc (suc (suc (suc (suc k))))))))) h = absurd (omega arith)

nothing_behind : (k w : ℕ) → k ≤ 8 → w < 2 ^ 64 → w / 2 ^ (4 * k) / 2 ^ (4 * k) ≡ 0 → w < 2 ^ (8 * k)
nothing_behind zero w h l e = omega arith
nothing_behind (suc zero) w h l e = omega arith
nothing_behind (suc (suc zero)) w h l e = omega arith
nothing_behind (suc (suc (suc zero))) w h l e = omega arith
nothing_behind (suc (suc (suc (suc zero)))) w h l e = omega arith
nothing_behind (suc (suc (suc (suc (suc zero))))) w h l e = omega arith
nothing_behind (suc (suc (suc (suc (suc (suc zero)))))) w h l e = omega arith
nothing_behind (suc (suc (suc (suc (suc (suc (suc zero))))))) w h l e = omega arith
nothing_behind (suc (suc (suc (suc (suc (suc (suc (suc zero)))))))) w h l e = omega arith
nothing_behind (suc (suc (suc (suc (suc (suc (suc (suc (suc k))))))))) w h l e = absurd (omega arith)

value_every : (c n : ℕ) → value_of (replicate n c) ≡ every c n
unfolding value_of
value_every c zero = refl
value_every c (suc n) = ap (λ (v : ℕ). c + 256 * v) (value_every c n)

byte_powers : (n : ℕ) → 256 ^ n ≡ 2 ^ (8 * n)
byte_powers zero = refl
byte_powers (suc n) =
    let e : 8 * suc n ≡ 8 * n + 8 = omega arith in
    rw (e, pow-add 2 (8 * n) 8, ← byte_powers n) (omega (arith, pow-suc 256 n))

-- A multiple of m below m.
no_multiple : (a m v : ℕ) → a + m * v < m → v ≡ 0
no_multiple a m zero h = refl
no_multiple a m (suc v) h = absurd (omega (arith, mul-suc m v))

byte_at : (x : List ℕ) → AreBytes x → (i : ℕ) → get_or x i 0 < 256
byte_at [] f i = omega arith
byte_at (d ∷ x) f zero = f.0
byte_at (d ∷ x) f (suc i) = byte_at x f.1 i

getD_first : (x y : List ℕ) (j : ℕ) → j < length x → get_or (x ++ y) j 0 ≡ get_or x j 0
getD_first [] y j h = absurd (omega arith)
getD_first (d ∷ x) y zero h = refl
getD_first (d ∷ x) y (suc j) h = getD_first x y j (omega arith)

module _ (s : List ℕ) (at k : ℕ) (room : at + 8 ≤ length s) (fits : k ≤ 8) (bytes : (i : ℕ) → get_or s i 0 < 256) (w : ℕ) (e : w ≡ value_of (take 8 (drop at s))) (l : w < 2 ^ 64)
    (z : w / 2 ^ (4 * k) / 2 ^ (4 * k) ≡ 0) where
  abbrev p : List ℕ
  p = take k (drop at s)

  abbrev q : List ℕ
  q = take (8 - k) (drop (at + k) s)

  abbrev made : List ℕ
  made = p ++ replicate (8 - k) 0x20

  length_p : length p ≡ k
  length_p = length_part s at k (omega arith)

  parts : w ≡ value_of p + 256 ^ k * value_of q
  parts =
      let n : k + (8 - k) ≡ 8 = omega arith in
      e ∙ rw n at (value_of_split at k (8 - k) s (omega arith))

  rest_zero : value_of q ≡ 0
  rest_zero = no_multiple (value_of p) (256 ^ k) (value_of q) (omega (arith, parts, byte_powers k, nothing_behind k w fits l z))

  pub part_zero : is_all_zero q ≡ true
  part_zero = value_zero q rest_zero

  first_is : w ≡ value_of p
  first_is = parts ∙ rw (rest_zero, mul-zero) (omega arith)

  length_made : length made ≡ 8
  length_made = omega (arith, length-append p (replicate (8 - k) 0x20), length_p, length-replicate {A = ℕ} (8 - k) 0x20)

  bytes_made : AreBytes made
  bytes_made = bytes_append p (replicate (8 - k) 0x20) (bytes_part s k at bytes) (bytes_same (8 - k) 0x20 (omega arith))

  made_bytes : (i : ℕ) → get_or made i 0 < 256
  made_bytes i = byte_at made bytes_made i

  value_made : bit_or w (0x2020202020202020 * 2 ^ (4 * k) % 2 ^ 64 * 2 ^ (4 * k) % 2 ^ 64) ≡ value_of made
  value_made =
      rw (blanks_are k fits)
      (or_shifted_r (every 0x20 (8 - k)) (8 * k) w (nothing_behind k w fits l z)
      ∙ rw (value_of_append p (replicate (8 - k) 0x20), value_every, length_p, byte_powers k, ← first_is) (omega (arith, mul_comm (2 ^ (8 * k)) (every 0x20 (8 - k)))))

  pub part_digits : (v r t : ℕ) → v ≡ bit_or w (0x2020202020202020 * 2 ^ (4 * k) % 2 ^ 64 * 2 ^ (4 * k) % 2 ^ 64) → v < 2 ^ 64 → bit_and v 0x8080808080808080 ≡ 0
      → r ≡ (v + 0x0202020202020202) % 2 ^ 64 → bit_and r 0x8080808080808080 ≡ 0 → (t + 0x2020202020202020) % 2 ^ 64 ≡ v → t < 2 ^ 64 → bit_and t 0x8080808080808080 ≡ 0 → Digits 0x20 p
  unfolding value_of
  part_digits v r t f m a b c d n g =
      let o : v ≡ value_of (take 8 (drop 0 made)) = f ∙ value_made ∙ ap value_of (sym (take_all 8 made (omega (arith, length_made)))) in
      let room' : 0 + 8 ≤ length made = omega (arith, length_made) in
      let z : (j : ℕ) → get_or made (0 + j) 0 ≡ get_or made j 0 = λ j. ap (λ (i : ℕ). get_or made i 0) (omega arith) in
      digits_each 0x20 p (λ j h.
      let l : j < 8 = omega (arith, length_p) in
      let y = getD_first p (replicate (8 - k) 0x20) j h in (
        omega (arith, y, z j, blank_at 8 j l, none_under made 0 room' made_bytes v o m blanks blanks_low refl 0x2020202020202020 refl (omega arith) t d n g j l),
        omega (arith, y, z j, none_above made 0 room' made_bytes v o m r b a c j l),
      ))
