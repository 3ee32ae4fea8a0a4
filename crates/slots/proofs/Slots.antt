-- The stores and copies of which the code makes a slot, whatever the size of its entries.
use Rattle.model.proofs.Prelude.{List, [], ◌*◌, ◌++◌, ◌+◌, ◌-◌, ◌∙◌, ◌∷◌, ◌≡◌, ◌≤◌, ap, append_assoc, arith, length, length-append, length-take-le, paste, refl, replicate, set, sym, take, take_all, ℕ}
use Rattle.model.specs.Entries.{Entry}
use Rattle.model.specs.Files.{used}
use Rattle.model.specs.Format.{AreBytes, bytes_of_entries, bytes_of_slot, digits_of_low, entry_length, padded, read_entries, slot_size}
use Rattle.model.specs.Order.{Low, Str}
use Rattle.model.specs.declared.Layout.{Layout}
use Rattle.model.proofs.Format.{entry_size, length_padded, padded_short}
use Rattle.model.proofs.Lists.{take_past}
use Rattle.model.proofs.Names.{is_legal_bound_bound}
use Rattle.digits.proofs.Bounds.{low_legal}
use Rattle.entries.proofs.Lists.{length-read_entries, read_bytes, read_entries-take}
use Rattle.entries.proofs.Products.{room_most}
use Rattle.bucket.specs.Slots.{lower_bytes, upper_bytes}
use Rattle.bucket.proofs.Layouts.{lower_bytes_slot, upper_bytes_slot}
use Rattle.bucket.proofs.Slots.{Reads}
use Rattle.slots.specs.Spots.{Begins}
use Rattle.slots.specs.Written.{entries_room, written_bytes}
use Rattle.entries.proofs.Padding.{copied, padded_append, padded_padded, padded_zeros, take_padded}

pub written_copies : (lower upper entries m₁ m₂ m₃ : List ℕ) (count : ℕ)
    → length lower ≤ 24 → length upper ≤ 24 → length entries ≤ entries_room
    → m₁ ≡ paste (set (set (set (set (replicate 704 0) 0 1) 1 count) 2 (length lower)) 3 (length upper)) 8 lower (length lower)
    → m₂ ≡ paste m₁ 32 upper (length upper)
    → m₃ ≡ paste m₂ 64 entries (length entries)
    → m₃ ≡ written_bytes lower upper count entries
unfolding written_bytes
written_copies lower upper entries m₁ m₂ m₃ count hl hu he q₁ q₂ q₃ =
    let p₀ : List ℕ = 1 ∷ count ∷ length lower ∷ length upper ∷ [] in
    let p₁ : List ℕ = p₀ ++ replicate 4 0 in
    let p₂ = p₁ ++ padded 24 lower in
    let p₃ = p₂ ++ padded 24 upper in
    let p₄ = p₃ ++ replicate 8 0 in
    let l₂ : length p₂ ≡ 32 = omega (arith, length-append p₁ (padded 24 lower), length_padded 24 lower) in
    let l₃ : length p₃ ≡ 56 = omega (arith, length-append p₂ (padded 24 upper), length_padded 24 upper) in
    let l₄ : length p₄ ≡ 64 = omega (arith, length-append p₃ (replicate 8 0)) in
    let e₀ : ◌≡◌ {A = List ℕ} (p₀ ++ replicate 700 0) (padded 704 p₁) = sym (padded_zeros 704 4 p₀ ∙ padded_short 704 p₀ (omega arith)) in
    let e₁ : m₁ ≡ padded 704 p₂ = copied 8 p₁ lower lower e₀ refl refl (omega arith) q₁ ∙ sym (padded_padded 704 24 p₁ lower hl) in
    let e₂ : m₂ ≡ padded 704 p₄ = copied 32 p₂ upper upper e₁ l₂ refl (omega arith) q₂ ∙ sym (padded_zeros 704 8 p₃ ∙ padded_padded 704 24 p₂ upper hu) in
    let e₃ : m₃ ≡ padded 704 (p₄ ++ entries) = copied 64 p₄ entries entries e₂ l₄ refl (omega arith) q₃ in
    e₃ ∙ padded_append 704 entries_room p₄ entries (omega arith) ∙ joined p₁ (padded 24 lower) (padded 24 upper) (replicate 8 0) (padded entries_room entries)
  where
    joined : (u x y z w : List ℕ) → u ++ x ++ y ++ z ++ w ≡ u ++ (x ++ (y ++ (z ++ w)))
    joined u x y z w = simp append_assoc

-- A slot that is written whole is the slot's bytes, as far as its entries reach.
pub written_slot : (y : Layout) (l : Low) (u : Str) (es : List Entry) → y.b ≤ 16
    → take (slot_size y) (written_bytes (digits_of_low l) u (length es) (bytes_of_entries (entry_length y) es)) ≡ bytes_of_slot y (used l u es)
unfolding written_bytes bytes_of_slot slot_size
written_slot y l u es h =
    let e = entry_length y in
    let n = e * y.b in
    let x = padded 24 (digits_of_low l) in
    let w = padded 24 u in
    let z = padded entries_room (bytes_of_entries e es) in
    let q : List ℕ = 1 ∷ length es ∷ length (digits_of_low l) ∷ length u ∷ replicate 4 0 in
    let lx : length x ≡ 24 = length_padded 24 (digits_of_low l) in
    let lw : length w ≡ 24 = length_padded 24 u in
    let f : n ≤ entries_room = room_most e y.b (entry_size y).most h in
    let t : take n z ≡ padded n (bytes_of_entries e es) = take_padded n entries_room (bytes_of_entries e es) f in
    take_past q (x ++ (w ++ (replicate 8 0 ++ z))) (64 + n) (56 + n) (omega arith)
    ∙ ap (λ (r : List ℕ). q ++ r) (take_past x (w ++ (replicate 8 0 ++ z)) (56 + n) (32 + n) (omega arith)
    ∙ ap (λ (r : List ℕ). x ++ r) (take_past w (replicate 8 0 ++ z) (32 + n) (8 + n) (omega arith)
    ∙ ap (λ (r : List ℕ). w ++ r) (take_past (replicate 8 0) z (8 + n) n (omega arith) ∙ ap (λ (r : List ℕ). replicate 8 0 ++ r) t)))

-- A slot that is written of its two bounds and of the bytes of its entries.
pub slot_written : (y : Layout) (l : Low) (u : Str) (es : List Entry) (lower upper part : List ℕ) (count : ℕ) (r : List ℕ) → y.b ≤ 16
    → lower ≡ digits_of_low l → upper ≡ u → length part ≡ entry_length y * count → AreBytes part → read_entries (entry_length y) count part ≡ es
    → r ≡ written_bytes lower upper count part → Begins r y (used l u es)
slot_written y l u es lower upper part count r h p q k g i j =
    let e = entry_length y in
    let least : 24 ≤ e = omega (arith, (entry_size y).least) in
    let n : count ≡ length es = sym (length-read_entries e count part) ∙ ap length i in
    let w : part ≡ bytes_of_entries e es = sym (take_all (e * count) part (omega arith)) ∙ read_bytes e count part es least (omega arith) g i in
    ap (take (slot_size y)) (j ∙ rw (p, q, n, w)) ∙ written_slot y l u es h

-- The same of the first entries of a row, as the code cuts them.
pub slot_cut : (y : Layout) (l : Low) (u : Str) (ws : List Entry) (lower upper row : List ℕ) (count end : ℕ) (r : List ℕ) → y.b ≤ 16
    → lower ≡ digits_of_low l → upper ≡ u → end ≡ entry_length y * count → end ≤ length row → AreBytes (take (end - 0) row)
    → read_entries (entry_length y) count row ≡ ws → r ≡ written_bytes lower upper count (take (end - 0) row) → Begins r y (used l u ws)
slot_cut y l u ws lower upper row count end r h p o q k g i j =
    let e = entry_length y in
    let least : 24 ≤ e = omega (arith, (entry_size y).least) in
    let z : end - 0 ≡ e * count = omega arith in
    let m : length (take (e * count) row) ≡ e * count = length-take-le (e * count) row (omega arith) in
    slot_written y l u ws lower upper (take (end - 0) row) count r h p o
    (ap (λ (n : ℕ). length (take n row)) z ∙ m) g (ap (λ (n : ℕ). read_entries e count (take n row)) z ∙ read_entries-take e count row least (omega arith) ∙ i) j

-- The bounds of a slot that is read.
module _ (y : Layout) (xs : List ℕ) {l : Low} {u : Str} {es : List Entry} (R : Reads y xs l u es) where
  pub lower_is : lower_bytes xs ≡ digits_of_low l
  lower_is = ap lower_bytes R.is ∙ lower_bytes_slot y l u es (is_legal_bound_bound (digits_of_low l) (low_legal l R.low)).fits

  pub upper_is : upper_bytes xs ≡ u
  upper_is = ap upper_bytes R.is ∙ upper_bytes_slot y l u es (is_legal_bound_bound u R.high).fits
