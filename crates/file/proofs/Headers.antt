-- The header as it is tested, byte by byte, is the header that a writer writes; and what create writes is a new file.
use Rattle.std.specs.Prelude.{Option as Maybe, Some, None}
use Rattle.model.proofs.Prelude.{Bool, List, Option, [], ◌%◌, ◌&&◌, ◌*◌, ◌++◌, ◌+◌, ◌-◌, ◌/◌, ◌<◌, ◌∙◌, ◌∷◌, ◌≡◌, ◌≤◌, ap, arith, drop, eq-eqb, eqb, eqb-true, false, get_or, length, length-drop, length-replicate, length-take-le, nothing, refl, replicate, replicate-append-replicate, set, some, suc, suc-mul, sym, take, take_all, true, zero, zero-mul, ℕ}
use Rattle.std.proofs.lemmas.Slice.{take-put_mid}
use borrow.Rule.Slice.PartMut.{mid_of, put_mid, same_len_mid}
use Rattle.model.specs.Order.{none}
use Rattle.model.specs.Files.{created, free, used}
use Rattle.model.specs.declared.Layout.{Layout}
use Rattle.model.specs.Tests.{same_str}
use Rattle.model.specs.Format.{Sizes, are_legal_sizes, bytes_of_entries, bytes_of_slot, digits_of_low, entry_length, file_bytes, file_size, header_bytes, header_of, layout_of, padded, slot_size, slots_bytes}
use Rattle.model.proofs.Tests.{both_join, never_both, same_str_equal, same_str_other, same_str_self}
use Rattle.model.proofs.Lists.{at_taken, take-replicate}
use Rattle.model.proofs.Format.{Headed, are_legal_sizes_sizes, headed_header_of, headed_layout, headed_slots, header_of_headed, offered_small, sizes_are_legal_sizes}
use Rattle.digits.specs.Keys.{is_all_zero}
use Rattle.bucket.proofs.Slots.{zero_same}
use Rattle.file.specs.declared.Size.{Size}
use Rattle.file.specs.Sizes.{Fitting, Saying, Sized, Told}

-- A byte of the header that differs.
pub not_marked : (xs : List ℕ) (i : ℕ) (y : Layout) (slots : ℕ) {d : ℕ} → i < 16 → get_or (header_bytes y slots) i 0 ≡ d → (get_or xs i 0 ≡ d → ⊥)
    → same_str (take 16 xs) (header_bytes y slots) ≡ false
not_marked xs i y slots h e n = same_str_other (take 16 xs) (header_bytes y slots) (λ f. n (at_taken 16 xs i f h ∙ e))

-- The first seven bytes are right: the others decide.
pub marked_last : (xs : List ℕ) → 16 ≤ length xs → get_or xs 0 0 ≡ 0x54 → get_or xs 1 0 ≡ 0x4B → get_or xs 2 0 ≡ 0x46 → get_or xs 3 0 < 256
    → is_all_zero (take 9 (drop 7 xs)) ≡ same_str (take 16 xs) (header_bytes (layout_of xs) (get_or xs 6 0))
unfolding same_str header_bytes layout_of
marked_last [] h p q r s = absurd (omega arith)
marked_last (a ∷ []) h p q r s = absurd (omega arith)
marked_last (a ∷ b ∷ []) h p q r s = absurd (omega arith)
marked_last (a ∷ b ∷ c ∷ []) h p q r s = absurd (omega arith)
marked_last (a ∷ b ∷ c ∷ d ∷ []) h p q r s = absurd (omega arith)
marked_last (a ∷ b ∷ c ∷ d ∷ e ∷ []) h p q r s = absurd (omega arith)
marked_last (a ∷ b ∷ c ∷ d ∷ e ∷ f ∷ []) h p q r s = absurd (omega arith)
marked_last (a ∷ b ∷ c ∷ d ∷ e ∷ f ∷ g ∷ xs) h p q r s =
    let low : (d + 256 * e) % 256 ≡ d = omega arith in
    let high : (d + 256 * e) / 256 ≡ e = omega arith in
    rw (eq-eqb a 0x54 p, eq-eqb b 0x4B q, eq-eqb c 0x46 r, low, high, eq-eqb d d refl, eq-eqb e e refl, eq-eqb f f refl, eq-eqb g g refl) (sym (zero_same 9 (take 9 xs) (length-take-le 9 xs (omega arith))))

pub no_header : (xs : List ℕ) → (Headed (layout_of xs) (get_or xs 6 0) xs → ⊥) → header_of xs ≡ nothing
no_header xs n = go (header_of xs) refl
  where
    go : (o : Option (Layout × ℕ)) → header_of xs ≡ o → o ≡ nothing
    go nothing e = refl
    go (some (y, slots)) e = (let h = header_of_headed xs e in absurd (n (rw (headed_layout h, headed_slots h) h)))

pub too_short : (xs : List ℕ) → length xs < 16 → header_of xs ≡ nothing
unfolding file_size
too_short xs h = no_header xs (λ g. omega (arith, g.whole))

pub ill_marked : (xs : List ℕ) → same_str (take 16 xs) (header_bytes (layout_of xs) (get_or xs 6 0)) ≡ false → header_of xs ≡ nothing
ill_marked xs e = no_header xs (λ g.
    let h : List ℕ = header_bytes (layout_of xs) (get_or xs 6 0) in
    never_both (same_str (take 16 xs) h) (ap (λ (l : List ℕ). same_str l h) g.header ∙ same_str_self h) e)

pub ill_sized : (xs : List ℕ) → (are_legal_sizes (layout_of xs) (get_or xs 6 0) && eqb (length xs) (file_size (layout_of xs) (get_or xs 6 0))) ≡ false → header_of xs ≡ nothing
ill_sized xs e = no_header xs (λ g.
    let t = are_legal_sizes (layout_of xs) (get_or xs 6 0) in
    let u = eqb (length xs) (file_size (layout_of xs) (get_or xs 6 0)) in
    never_both (t && u) (both_join t u (sizes_are_legal_sizes g.sizes) (eq-eqb (length xs) (file_size (layout_of xs) (get_or xs 6 0)) g.whole)) e)

-- Legal sizes, and a length that fits them.
pub said : (xs : List ℕ) (s : Size) → same_str (take 16 xs) (header_bytes (layout_of xs) (get_or xs 6 0)) ≡ true
    → Sized (length xs) s → s.layout ≡ layout_of xs → s.slots ≡ get_or xs 6 0 → Saying s xs
unfolding file_size
said xs s e z p q =
    record {
      sized = z;
      header = headed_header_of (record {
        sizes = z.legal;
        whole = z.whole;
        header = rw (p, q) (same_str_equal (take 16 xs) (header_bytes (layout_of xs) (get_or xs 6 0)) e);
      });
    }

pub told : (xs : List ℕ) (h : Maybe Size) (y : Layout) (slots : ℕ) → same_str (take 16 xs) (header_bytes (layout_of xs) (get_or xs 6 0)) ≡ true
    → y ≡ layout_of xs → slots ≡ get_or xs 6 0 → Fitting h (length xs) y slots → Told h xs
told xs (Some s) y slots e p q f = said xs s e f.0 (f.1 ∙ p) (f.2 ∙ q)
told xs None y slots e p q f = ill_sized xs (rw (← p, ← q) f)

-- What does not fit: a size that is not legal, or another length.
pub illegal : (n : ℕ) (y : Layout) (slots : ℕ) → (Sizes y slots → n ≡ 16 + slots * slot_size y → ⊥) → (are_legal_sizes y slots && eqb n (file_size y slots)) ≡ false
unfolding file_size
illegal n y slots h = go (are_legal_sizes y slots) (eqb n (16 + slots * slot_size y)) refl refl
  where
    go : (t u : Bool) → are_legal_sizes y slots ≡ t → eqb n (16 + slots * slot_size y) ≡ u → (t && u) ≡ false
    go false u e f = refl
    go true false e f = refl
    go true true e f = absurd (h (are_legal_sizes_sizes y slots e) (eqb-true n (16 + slots * slot_size y) f))

-- Free slots are zeros.
frees : (y : Layout) (k : ℕ) → slots_bytes y (replicate k free) ≡ replicate (k * slot_size y) 0
unfolding slots_bytes bytes_of_slot
frees y zero = rw zero-mul
frees y (suc k) =
    let e : slot_size y + k * slot_size y ≡ suc k * slot_size y = omega (arith, suc-mul k (slot_size y)) in
    rw (frees y k, replicate-append-replicate, e)

-- A bucket without limits and entries is a 1 and zeros.
empty : (y : Layout) → bytes_of_slot y (used none [] []) ≡ 1 ∷ replicate (slot_size y - 1) 0
unfolding bytes_of_slot slot_size padded digits_of_low bytes_of_entries
empty y =
    let n = entry_length y * y.b in
    let e : 64 + n - 1 ≡ 63 + n = omega arith in
    rw (e, take-replicate {A = ℕ} n n 0 (omega arith)) (ap (λ (r : List ℕ). 1 ∷ r) (replicate-append-replicate {A = ℕ} 63 n 0))

-- The bytes that create writes over zeros.
abbrev pub marks : Layout → ℕ → List ℕ → List ℕ
marks y slots zs = set (set (set (set (set (set (set zs 0 0x54) 1 0x4B) 2 0x46) 3 y.version) 5 y.b) 6 slots) 16 1

-- All bytes cleared, from the first one on.
pub cleared_whole : (xs zs : List ℕ) → zs ≡ replicate (length (mid_of 0 (length xs - 0) xs)) 0 → put_mid 0 (length xs - 0) xs zs ≡ replicate (length xs) 0
cleared_whole xs zs z =
    let part : length (mid_of 0 (length xs - 0) xs) ≡ length xs = length-take-le (length xs - 0) (drop 0 xs) (omega (arith, length-drop 0 xs)) ∙ (omega arith) in
    let zeros : zs ≡ replicate (length xs) 0 = z ∙ ap (λ (m : ℕ). replicate {A = ℕ} m 0) part in
    let size : length zs ≡ length xs = ap length zeros ∙ length-replicate {A = ℕ} (length xs) 0 in
    sym (take_all (length xs) (put_mid 0 (length xs - 0) xs zs) (omega (arith, same_len_mid 0 (length xs - 0) xs zs (size ∙ sym part))))
    ∙ take-put_mid 0 (length xs - 0) xs zs (length xs) (omega (arith, size)) (omega arith) ∙ zeros

slot_size-some : (y : Layout) → 1 ≤ slot_size y
unfolding slot_size
slot_size-some y = omega arith

pub created_bytes : (n : ℕ) (s : Size) → Sized n s → marks s.layout s.slots (replicate n 0) ≡ file_bytes s.layout (created s.slots)
unfolding file_bytes header_bytes slots_bytes
created_bytes n s h =
    let y = s.layout in
    let w = slot_size y in
    let k = s.slots - 1 in
    let v = offered_small y.version h.legal.offered in
    let low : y.version % 256 ≡ y.version = omega arith in
    let high : y.version / 256 ≡ 0 = omega arith in
    let f : n ≡ 17 + (w - 1 + k * w) = omega (arith, h.whole, split s.slots w h.legal.slots_least, slot_size-some y) in
    let z : replicate {A = ℕ} n 0 ≡ replicate 17 0 ++ (replicate (w - 1) 0 ++ replicate (k * w) 0)
    = ap (λ (m : ℕ). replicate {A = ℕ} m 0) f ∙ sym (replicate-append-replicate 17 (w - 1 + k * w) 0)
    ∙ ap (λ (r : List ℕ). replicate 17 0 ++ r) (sym (replicate-append-replicate (w - 1) (k * w) 0)) in
    let l : length (created s.slots) ≡ s.slots = ap suc (length-replicate k free) ∙ (omega (arith, h.legal.slots_least)) in
    rw (z, l, low, high, empty y, frees y k)
  where
    split : (k w : ℕ) → 1 ≤ k → k * w ≡ w + (k - 1) * w
    split zero w h = absurd (omega arith)
    split (suc k) w h =
        let e : suc k - 1 ≡ k = omega arith in
        rw e (omega (arith, suc-mul k w))
