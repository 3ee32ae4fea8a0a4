-- Laws of a file's sizes, and of lists of slot numbers.
use Rattle.model.proofs.Prelude.{List, [], ◌*◌, ◌++◌, ◌+◌, ◌-◌, ◌<◌, ◌∙◌, ◌∷◌, ◌≡◌, ◌≤◌, add-sub_cancel_left, ap, arith, drop, get_or, le_of_eq, length, length-drop, length-take, length-take-le, mul-le-mul, paste, refl, replicate, set, suc, suc-mul, sym, take, zero, ℕ}
use Rattle.std.specs.List.{copy_within}
use Rattle.model.specs.Format.{slot_size}
use Rattle.file.specs.declared.Size.{Size}
use Rattle.file.specs.Sizes.{Below, Sized}

-- all the slots of a file together are small
pub slots_fit : (k n : ℕ) → k ≤ 64 → n ≤ 704 → k * n ≤ 45056
slots_fit k n h p = mul-le-mul h p

-- slot k lies within the file, and the file is small
pub record Within (len k n : ℕ) : Type 0 where
  pub slot_end : 16 + k * n + n ≤ len
  pub small : len ≤ 45072

pub room : (len k n : ℕ) (s : Size) → Sized len s → k < s.slots → (n ≡ slot_size s.layout) × (64 ≤ n) × (n ≤ 704) → Within len k n
room len k n s z h e =
    let w : len ≡ 16 + s.slots * n = z.whole ∙ ap (λ (m : ℕ). 16 + s.slots * m) (sym e.0) in
    let l = z.legal in
    let u : suc k * n ≤ s.slots * n = mul-le-mul h (le_of_eq refl) in
    record {
      slot_end = omega (arith, suc-mul k n);
      small = omega (arith, slots_fit s.slots n l.slots_most e.2);
    }

-- a store of a number below n
pub below_set : (l : List ℕ) (i a n : ℕ) → Below l n → a < n → Below (set l i a) n
below_set [] i a n h p j = h j
below_set (x ∷ xs) zero a n h p zero = p
below_set (x ∷ xs) zero a n h p (suc j) = h (suc j)
below_set (x ∷ xs) (suc i) a n h p zero = h zero
below_set (x ∷ xs) (suc i) a n h p (suc j) = below_set xs i a n (λ m. h (suc m)) p j

-- a part moved elsewhere in a list of such numbers
below_some : (xs : List ℕ) (n : ℕ) → Below xs n → 0 < n
below_some [] n h = h 0
below_some (x ∷ xs) n h = below_some xs n (λ j. h (suc j))

below_take : (k : ℕ) (xs : List ℕ) (n : ℕ) → Below xs n → Below (take k xs) n
below_take zero xs n h j = below_some xs n h
below_take (suc k) [] n h j = h j
below_take (suc k) (x ∷ xs) n h zero = h zero
below_take (suc k) (x ∷ xs) n h (suc j) = below_take k xs n (λ i. h (suc i)) j

below_drop : (k : ℕ) (xs : List ℕ) (n : ℕ) → Below xs n → Below (drop k xs) n
below_drop zero xs n h j = h j
below_drop (suc k) [] n h j = h j
below_drop (suc k) (x ∷ xs) n h j = below_drop k xs n (λ i. h (suc i)) j

below_append : (xs ys : List ℕ) (n : ℕ) → Below xs n → Below ys n → Below (xs ++ ys) n
below_append [] ys n g h j = h j
below_append (x ∷ xs) ys n g h zero = g zero
below_append (x ∷ xs) ys n g h (suc j) = below_append xs ys n (λ i. g (suc i)) h j

pub below_moved : (xs : List ℕ) (i j k n : ℕ) → Below xs n → Below (copy_within xs i j k) n
below_moved xs i j k n h =
    below_append (take k xs ++ take (j - i) (drop i xs)) (drop (k + (j - i)) xs) n
    (below_append (take k xs) (take (j - i) (drop i xs)) n (below_take k xs n h) (below_take (j - i) (drop i xs) n (below_drop i xs n h)))
    (below_drop (k + (j - i)) xs n h)

-- the part of n bytes from slot k's start, where n is m under another name
pub part_is : (xs : List ℕ) (k n m : ℕ) → n ≡ m → take (16 + k * n + n - (16 + k * n)) (drop (16 + k * n) xs) ≡ take m (drop (16 + k * m) xs)
part_is xs k n m e = rw (e, add-sub_cancel_left)

pub part_length : (xs : List ℕ) (at n : ℕ) → at + n ≤ length xs → length (take (at + n - at) (drop at xs)) ≡ n
part_length xs at n h = simp (add-sub_cancel_left, length-take, length-drop) (omega arith)

-- an array's first n bytes
pub first_length : (s : List ℕ) (n : ℕ) → n ≤ length s → length (take (n - 0) s) ≡ n
first_length s n h = let z : n - 0 ≡ n = omega arith in rw z (length-take-le n s h)

-- their paste, where n is m under another name
pub first_pasted : (d s : List ℕ) (k n m : ℕ) → n ≡ m → m ≤ length s → paste d (16 + k * n) (take (n - 0) s) (length (take (n - 0) s)) ≡ paste d (16 + k * m) (take m s) m
first_pasted d s k n m e h =
    let z : n - 0 ≡ m = omega arith in
    let l : length (take m s) ≡ m = length-take-le m s h in
    rw (z, e, l)

-- a list of zeros, of any length
pub below_zeros : (m n : ℕ) → 0 < n → Below (replicate m 0) n
below_zeros zero n h j = h
below_zeros (suc m) n h zero = h
below_zeros (suc m) n h (suc j) = below_zeros m n h j

-- a file has a slot 0, and so room for its header and one slot
pub some_slot : (len : ℕ) (s : Size) → Sized len s → (0 < s.slots) × (64 < len)
unfolding slot_size
some_slot len s z =
    let y = s.layout in
    let h : 1 * slot_size y ≤ s.slots * slot_size y = mul-le-mul z.legal.slots_least (le_of_eq refl) in
    (z.legal.slots_least, omega (arith, h, z.whole))

-- Each item of a part of bytes is a byte.
each_taken : (n : ℕ) (xs : List ℕ) → ((i : ℕ) → get_or xs i 0 < 256) → (i : ℕ) → get_or (take n xs) i 0 < 256
each_taken zero xs f i = omega arith
each_taken (suc n) [] f i = omega arith
each_taken (suc n) (x ∷ xs) f zero = f 0
each_taken (suc n) (x ∷ xs) f (suc i) = each_taken n xs (λ (j : ℕ). f (suc j)) i

each_behind : (n : ℕ) (xs : List ℕ) → ((i : ℕ) → get_or xs i 0 < 256) → (i : ℕ) → get_or (drop n xs) i 0 < 256
each_behind zero xs f i = f i
each_behind (suc n) [] f i = omega arith
each_behind (suc n) (x ∷ xs) f i = each_behind n xs (λ (j : ℕ). f (suc j)) i

pub each_in : (at n : ℕ) (xs : List ℕ) → ((i : ℕ) → get_or xs i 0 < 256) → (i : ℕ) → get_or (take n (drop at xs)) i 0 < 256
each_in at n xs f = each_taken n (drop at xs) (each_behind at xs f)
