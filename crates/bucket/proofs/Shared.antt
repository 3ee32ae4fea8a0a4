-- The digits that two upper bounds share: by the lowest byte in which two words differ, where the bounds differ in their first word.
use Rattle.model.proofs.Prelude.{List, [], ◌%◌, ◌*◌, ◌++◌, ◌+◌, ◌/◌, ◌<◌, ◌^◌, ◌∙◌, ◌∷◌, ◌≡◌, ◌≢◌, ◌≤◌, ap, ap₂, arith, cond, drop, drop_at, eq-eqb, eqb, length, length-replicate, length-take-le, mul_assoc, ne_eqb, pow-suc, pow-succ', pow-zero, refl, replicate, suc, sym, take, take-append-le, take-take, zero, zero-add, ℕ, ℕ_discrete}
use lib.Bits.{and_le_l, and_le_r, bit_xor, xor_add_and, xor_block, xor_lt, xor_self}
use lib.Count.{count_trailing_zeros, under}
use Rattle.model.specs.Entries.{Entry}
use Rattle.model.specs.Files.{used}
use Rattle.model.specs.Format.{AreBytes, bytes_of_entries, bytes_of_slot, digits_of_low, entry_length, padded, value_of}
use Rattle.model.specs.Names.{Digits}
use Rattle.model.specs.Order.{Low, Str, diff}
use Rattle.model.specs.declared.Layout.{Layout}
use Rattle.model.proofs.Format.{length_padded}
use Rattle.bucket.specs.Slots.{Uppered, upper_bytes}
use Rattle.bucket.proofs.Layouts.{upper_bytes_slot}

-- The lowest binary digit that is set: behind zeros, and among the lowest j.
behind_zeros : (j m d : ℕ) → count_trailing_zeros (j + m) (2 ^ j * d) ≡ j + count_trailing_zeros m d
unfolding count_trailing_zeros
behind_zeros zero m d = let e : 1 * d ≡ d = omega arith in rw (zero-add m, pow-zero, e) (sym (zero-add (count_trailing_zeros m d)))
behind_zeros (suc j) m d =
    let e : suc j + m ≡ suc (j + m) = omega arith in
    let p : 2 ^ suc j * d ≡ 2 * (2 ^ j * d) = rw (pow-succ', mul_assoc) refl in
    let even : 2 ^ suc j * d % 2 ≡ 0 = omega (arith, p) in
    let half : 2 ^ suc j * d / 2 ≡ 2 ^ j * d = omega (arith, p) in
    rw (e, even, half, behind_zeros j m d) (omega arith)

among_lowest : (j m c d : ℕ) → 0 < c → c < 2 ^ j → count_trailing_zeros (j + m) (c + 2 ^ j * d) < j
unfolding count_trailing_zeros
among_lowest zero m c d h l = absurd (omega (arith, pow-zero 2))
among_lowest (suc j) m c d h l =
    let e : suc j + m ≡ suc (j + m) = omega arith in
    let p : 2 ^ suc j * d ≡ 2 * (2 ^ j * d) = rw (pow-succ', mul_assoc) refl in
    let odd : (c + 2 ^ suc j * d) % 2 ≡ c % 2 = omega (arith, p) in
    let half : (c + 2 ^ suc j * d) / 2 ≡ c / 2 + 2 ^ j * d = omega (arith, p) in
    rw (e, odd, half) (go (c % 2) refl (λ k i. among_lowest j m (c / 2) d k i))
  where
    go : (b : ℕ) → c % 2 ≡ b → (0 < c / 2 → c / 2 < 2 ^ j → count_trailing_zeros (j + m) (c / 2 + 2 ^ j * d) < j)
        → under b (count_trailing_zeros (j + m) (c / 2 + 2 ^ j * d)) < suc j
    go zero q f = omega (arith, f (omega arith) (omega (arith, pow-suc 2 j)))
    go (suc b) q f = omega arith

xor_some : (a b : ℕ) → a ≢ b → 0 < bit_xor a b
xor_some a b n = elim (ℕ_discrete (bit_xor a b) 0) [
  | yes e ↦ absurd (n (omega (arith, xor_add_and a b, and_le_l a b, and_le_r a b)))
  | no e ↦ omega arith
]

none_counted : (n : ℕ) → count_trailing_zeros 0 n ≡ 0
unfolding count_trailing_zeros
none_counted n = refl

-- The first byte in which two words differ.
pub words_diff : (x y : Str) (n : ℕ) → AreBytes x → AreBytes y → length x ≡ n → length y ≡ n → count_trailing_zeros (8 * n) (bit_xor (value_of x) (value_of y)) / 8 ≡ diff x y
unfolding value_of
words_diff [] [] n g h e f = rw (← e) (ap (λ (k : ℕ). k / 8) (none_counted (bit_xor 0 0)))
words_diff [] (b ∷ y) n g h e f = absurd (omega arith)
words_diff (a ∷ x) [] n g h e f = absurd (omega arith)
words_diff (a ∷ x) (b ∷ y) zero g h e f = absurd (omega arith)
words_diff (a ∷ x) (b ∷ y) (suc n) g h e f = rw (count, number) (go (ℕ_discrete a b) (words_diff x y n g.1 h.1 (omega arith) (omega arith)))
  where
    D : ℕ
    D = bit_xor (value_of x) (value_of y)

    count : 8 * suc n ≡ 8 + 8 * n
    count = omega arith

    first : (c v : ℕ) → c + 256 * v ≡ v * 2 ^ 8 + c
    first c v = omega arith

    number : bit_xor (a + 256 * value_of x) (b + 256 * value_of y) ≡ bit_xor a b + 2 ^ 8 * D
    number = rw (first a (value_of x), first b (value_of y)) (xor_block 8 (value_of x) (value_of y) a b g.0 h.0 ∙ omega arith)

    go : (d : Dec (a ≡ b)) → count_trailing_zeros (8 * n) D / 8 ≡ diff x y → count_trailing_zeros (8 + 8 * n) (bit_xor a b + 2 ^ 8 * D) / 8 ≡ cond (eqb a b) (suc (diff x y)) 0
    go (yes q) r =
        let z : bit_xor a b + 2 ^ 8 * D ≡ 2 ^ 8 * D = rw (q, xor_self b) (omega arith) in
        rw (eq-eqb a b q, z, behind_zeros 8 (8 * n) D) (omega (arith, r))
    go (no q) r = rw (ne_eqb a b q) (omega (arith, among_lowest 8 (8 * n) (bit_xor a b) D (xor_some a b q) (xor_lt 8 a b g.0 h.0)))

diff_itself : (x : Str) → diff x x ≡ length x
diff_itself [] = refl
diff_itself (a ∷ x) = go (ℕ_discrete a a) (diff_itself x)
  where
    go : (d : Dec (a ≡ a)) → diff x x ≡ length x → cond (eqb a a) (suc (diff x x)) 0 ≡ suc (length x)
    go (yes e) f = rw (eq-eqb a a e) (ap suc f)
    go (no n) f = absurd (n refl)

-- Zeros behind two strings of digits change nothing, where the strings differ before.
shared_padded : (n m : ℕ) (u v : Str) → Digits 0x20 u → Digits 0x20 v → n ≤ m → diff (take n (u ++ replicate m 0)) (take n (v ++ replicate m 0)) < n
    → diff (take n (u ++ replicate m 0)) (take n (v ++ replicate m 0)) ≡ diff u v
shared_padded zero m u v g h l d = absurd (omega arith)
shared_padded (suc n) zero u v g h l d = absurd (omega arith)
shared_padded (suc n) (suc m) [] [] g h l d =
    let z : List ℕ = replicate (suc m) 0 in
    absurd (omega (arith, d, diff_itself (take (suc n) z), length-take-le (suc n) z (omega (arith, length-replicate {A = ℕ} (suc m) 0)), l))
shared_padded (suc n) (suc m) [] (e ∷ v) g h l d = go (ℕ_discrete 0 e)
  where
    go : (q : Dec (0 ≡ e)) → cond (eqb 0 e) (suc (diff (take n (replicate m 0)) (take n (v ++ replicate (suc m) 0)))) 0 ≡ 0
    go (yes q) = absurd (omega (arith, h.0))
    go (no q) = rw (ne_eqb 0 e q)
shared_padded (suc n) (suc m) (c ∷ u) [] g h l d = go (ℕ_discrete c 0)
  where
    go : (q : Dec (c ≡ 0)) → cond (eqb c 0) (suc (diff (take n (u ++ replicate (suc m) 0)) (take n (replicate m 0)))) 0 ≡ 0
    go (yes q) = absurd (omega (arith, g.0))
    go (no q) = rw (ne_eqb c 0 q)
shared_padded (suc n) (suc m) (c ∷ u) (e ∷ v) g h l d = go (ℕ_discrete c e) (shared_padded n (suc m) u v g.2 h.2 (omega arith)) d
  where
    s : ℕ
    s = diff (take n (u ++ replicate (suc m) 0)) (take n (v ++ replicate (suc m) 0))

    go : (q : Dec (c ≡ e)) → (s < n → s ≡ diff u v) → cond (eqb c e) (suc s) 0 < suc n → cond (eqb c e) (suc s) 0 ≡ cond (eqb c e) (suc (diff u v)) 0
    go (yes q) f k = let i : suc s < suc n = rw (eq-eqb c e q) at k in rw (eq-eqb c e q) (ap suc (f (omega arith)))
    go (no q) f k = rw (ne_eqb c e q)

-- The first word of an upper bound.
first_word : (y : Layout) (l : Low) (u : Str) (es : List Entry) → take 8 (drop 32 (bytes_of_slot y (used l u es))) ≡ take 8 (u ++ replicate 24 0)
unfolding bytes_of_slot padded
first_word y l u es =
    let z : List ℕ = replicate 8 0 ++ padded (entry_length y * y.b) (bytes_of_entries (entry_length y) es) in
    ap (take 8) (drop_at (padded 24 (digits_of_low l)) (padded 24 u ++ z) 24 (length_padded 24 (digits_of_low l)))
    ∙ take-append-le 8 (padded 24 u) z (omega (arith, length_padded 24 u)) ∙ take-take 8 24 (u ++ replicate 24 0) (omega arith)

pub shared_by_word : {xs ys : List ℕ} {u v : Str} → Uppered xs u → Uppered ys v → diff (take 8 (drop 32 xs)) (take 8 (drop 32 ys)) < 8
    → diff (take 8 (drop 32 xs)) (take 8 (drop 32 ys)) ≡ diff u v
shared_by_word {xs} {ys} {u} {v} U W h =
    let e : take 8 (drop 32 xs) ≡ take 8 (u ++ replicate 24 0) = ap (λ (zs : List ℕ). take 8 (drop 32 zs)) U.is ∙ first_word U.layout U.low u U.entries in
    let f : take 8 (drop 32 ys) ≡ take 8 (v ++ replicate 24 0) = ap (λ (zs : List ℕ). take 8 (drop 32 zs)) W.is ∙ first_word W.layout W.low v W.entries in
    ap₂ diff e f ∙ shared_padded 8 24 u v U.bound.digits W.bound.digits (omega arith) (rw (e, f) at h)

-- By the bounds, digit after digit.
pub uppered_bytes : {xs : List ℕ} {u : Str} → Uppered xs u → upper_bytes xs ≡ u
uppered_bytes {u = u} U = ap upper_bytes U.is ∙ upper_bytes_slot U.layout U.low u U.entries U.bound.fits

pub shared_by_digits : {xs ys : List ℕ} {u v : Str} → Uppered xs u → Uppered ys v → diff (upper_bytes xs) (upper_bytes ys) ≡ diff u v
shared_by_digits U W = ap₂ diff (uppered_bytes U) (uppered_bytes W)
