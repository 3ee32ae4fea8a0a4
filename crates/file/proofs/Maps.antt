-- The map of the used slots: its ones are counted, and the zeros of its complement end at the lowest free slot.
use Rattle.std.specs.Prelude.{Some, None}
use Rattle.model.proofs.Prelude.{List, [], ◌%◌, ◌*◌, ◌+◌, ◌-◌, ◌/◌, ◌<◌, ◌^◌, ◌∙◌, ◌∷◌, ◌≡◌, ◌≤◌, ap, arith, le-ltb, length, lt-ltb, pow-suc, refl, suc, zero, ℕ}
use lib.Count.{ones, ones-le, ones_step, count_trailing_zeros}
use Rattle.std.proofs.Common.{pow_pos}
use Rattle.model.specs.Files.{Slot, free, used}
use Rattle.model.specs.Searches.{first, is_free}
use Rattle.file.specs.Maps.{map_of, room_of}

pub map_lt : (k : ℕ) (fs : List Slot) → length fs ≤ k → map_of fs < 2 ^ k
unfolding map_of
map_lt k [] h = pow_pos k
map_lt zero (x ∷ fs) h = absurd (omega arith)
map_lt (suc k) (free ∷ fs) h = omega (arith, pow-suc 2 k, map_lt k fs (omega arith))
map_lt (suc k) (used l u es ∷ fs) h = omega (arith, pow-suc 2 k, map_lt k fs (omega arith))

-- Where as many slots are used as there are, none is free.
pub all_used : (fs : List Slot) → length fs ≤ ones (map_of fs) → length fs ≤ first is_free fs
unfolding map_of first is_free
all_used [] h = omega arith
all_used (free ∷ fs) h =
    let m = map_of fs in
    let o : (2 * m + 0) % 2 ≡ 0 = omega arith in
    let d : (2 * m + 0) / 2 ≡ m = omega arith in
    absurd (omega (arith, ones_step (2 * m + 0), ap ones d, ones-le (length fs) m (map_lt (length fs) fs (omega arith))))
all_used (used l u es ∷ fs) h =
    let m = map_of fs in
    let o : (2 * m + 1) % 2 ≡ 1 = omega arith in
    let d : (2 * m + 1) / 2 ≡ m = omega arith in
    omega (arith, all_used fs (omega (arith, ones_step (2 * m + 1), ap ones d)))

pub lowest_is : (k : ℕ) (fs : List Slot) → length fs ≤ k → count_trailing_zeros k (2 ^ k - 1 - map_of fs) ≡ first is_free fs
unfolding map_of first is_free count_trailing_zeros
lowest_is zero [] h = refl
lowest_is (suc k) [] h = let e : (2 ^ suc k - 1 - 0) % 2 ≡ 1 = omega (arith, pow-suc 2 k, pow_pos k) in rw e
lowest_is zero (x ∷ fs) h = absurd (omega arith)
lowest_is (suc k) (free ∷ fs) h =
    let e : (2 ^ suc k - 1 - (2 * map_of fs + 0)) % 2 ≡ 1 = omega (arith, pow-suc 2 k, map_lt k fs (omega arith)) in
    rw e
lowest_is (suc k) (used l u es ∷ fs) h =
    let e : (2 ^ suc k - 1 - (2 * map_of fs + 1)) % 2 ≡ 0 = omega (arith, pow-suc 2 k, map_lt k fs (omega arith)) in
    let d : (2 ^ suc k - 1 - (2 * map_of fs + 1)) / 2 ≡ 2 ^ k - 1 - map_of fs = omega (arith, pow-suc 2 k, map_lt k fs (omega arith)) in
    rw (e, d) (ap suc (lowest_is k fs (omega arith)))

pub room_none : (fs : List Slot) → length fs ≤ first is_free fs → None ≡ room_of fs
unfolding room_of
room_none fs h = rw (le-ltb (first is_free fs) (length fs) h)

pub room_some : (fs : List Slot) (k : ℕ) → k ≡ first is_free fs → k < length fs → Some k ≡ room_of fs
unfolding room_of
room_some fs k e h = rw (← e, lt-ltb k (length fs) h)

pub lowest_of : (map k : ℕ) (fs : List Slot) → k ≡ count_trailing_zeros 64 (2 ^ 64 - 1 - map) → map ≡ map_of fs → length fs ≤ 64 → k ≡ first is_free fs
lowest_of map k fs e m h = e ∙ ap (λ (n : ℕ). count_trailing_zeros 64 (2 ^ 64 - 1 - n)) m ∙ lowest_is 64 fs h
