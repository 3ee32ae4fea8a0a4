-- Slots read one by one are the file's slots.
use Rattle.model.proofs.Prelude.{Bool, List, [], ◌+◌, ◌<◌, ◌∷◌, ◌≡◌, add-zero, arith, clash, cond, false, length, refl, some, suc, true, zero, ℕ}
use Rattle.model.specs.declared.Layout.{Layout}
use Rattle.model.specs.Tests.{same_str}
use Rattle.model.specs.Files.{IsUsed, Slot, free, head, slot_at, used}
use Rattle.model.specs.Format.{bytes_at_slot, bytes_of_slot, joined, read_slot, read_slots, read_used_slot}

pub each_read_slots : (y : Layout) (n k : ℕ) (xs : List ℕ) (fs : List Slot) → length fs ≡ n
    → ((j : ℕ) → j < n → read_slot y (bytes_at_slot y (k + j) xs) ≡ some (slot_at fs j)) → read_slots y n k xs ≡ some fs
unfolding read_slots joined
each_read_slots y zero k xs [] e f = refl
each_read_slots y zero k xs (s ∷ fs) e f = absurd (omega arith)
each_read_slots y (suc n) k xs [] e f = absurd (omega arith)
each_read_slots y (suc n) k xs (s ∷ fs) e f =
    let g : read_slot y (bytes_at_slot y k xs) ≡ some s = rw add-zero at (f 0 (omega arith)) in
    let h : read_slots y n (suc k) xs ≡ some fs =
    each_read_slots y n (suc k) xs fs (omega arith) (λ j i. let m : suc k + j ≡ k + suc j = omega arith in rw m (f (suc j) (omega arith))) in
    rw (g, h)

-- A slot that is read as used is not read as free.
pub used_read : (y : Layout) (ys : List ℕ) (s : Slot) → IsUsed (head s) → read_slot y ys ≡ some s → read_used_slot y ys ≡ some s
unfolding read_slot
used_read y ys free u e = absurd u
used_read y ys (used l v es) u e = go (same_str ys (bytes_of_slot y free)) e
  where
    go : (t : Bool) → cond t (some free) (read_used_slot y ys) ≡ some (used l v es) → read_used_slot y ys ≡ some (used l v es)
    go true e = clash cc
    go false e = e
