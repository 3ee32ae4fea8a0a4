-- A plan committed: the file after so many of its stores, and what each way out of `commit` leaves.
use Rattle.model.proofs.Prelude.{List, [], ◌*◌, ◌+◌, ◌<◌, ◌∙◌, ◌∷◌, ◌≡◌, ◌≤◌, ap, arith, false, le-ltb, length, lt-ltb, mul-le-mul, paste, refl, replicate, sym, take, take_all, true, ℕ}
use Rattle.model.specs.declared.Layout.{Layout}
use Rattle.model.specs.Changes.{Store}
use Rattle.model.specs.Files.{free}
use Rattle.model.specs.Format.{bytes_of_slot, entry_length, slot_size, store_bytes}
use Rattle.model.specs.Calls.{stores_bytes}
use Rattle.model.proofs.Format.{entry_size}
use Rattle.model.proofs.Lists.{take-replicate}
use Rattle.file.specs.declared.Plan.{Plan}
use Rattle.file.specs.Plans.{Committed, Holds, Planned}

-- An array of zeros as long as the largest slot begins with the bytes of a free one.
slot_size_most : (y : Layout) → y.b ≤ 16 → slot_size y ≤ 704
unfolding slot_size
slot_size_most y h =
    let m : entry_length y * y.b ≤ 40 * 16 = mul-le-mul (entry_size y).most h in
    omega arith

pub free_begins : (y : Layout) → y.b ≤ 16 → take (slot_size y) (replicate 704 0) ≡ bytes_of_slot y free
unfolding bytes_of_slot
free_begins y h = take-replicate {A = ℕ} (slot_size y) 704 0 (slot_size_most y h)

-- The bytes of one store.
store_is : (y : Layout) (k : ℕ) (bytes xs ys : List ℕ) (s : Store) → Holds y k bytes s
    → ys ≡ paste xs (16 + k * slot_size y) (take (slot_size y) bytes) (slot_size y) → ys ≡ store_bytes y s.0 s.1 xs
unfolding store_bytes
store_is y k bytes xs ys s h e = rw (← h.0, ← h.1) e

planned_length : (y : Layout) (p : Plan) (ss : List Store) → Planned p y ss → length ss ≡ p.stores
planned_length y p [] q = sym q
planned_length y p (s ∷ []) q = sym q.0
planned_length y p (s ∷ t ∷ []) q = sym q.0
planned_length y p (s ∷ t ∷ u ∷ ss) q = absurd q

-- The file is that of the first stores of a plan.
abbrev pub Made : Layout → Plan → ℕ → List ℕ → List ℕ → Type 0
Made y p made xs ys = (ss : List Store) → Planned p y ss → ys ≡ stores_bytes y (take made ss) xs

module _ (y : Layout) (p : Plan) (xs : List ℕ) where
  pub made_none : Made y p 0 xs xs
  unfolding stores_bytes
  made_none ss q = refl

  module _ (made : ℕ) (ys zs : List ℕ) (more : made < p.stores) (M : Made y p made xs ys) where
    pub made_first : made ≡ 0 → zs ≡ paste ys (16 + p.first * slot_size y) (take (slot_size y) p.one) (slot_size y) → Made y p (made + 1) xs zs
    unfolding stores_bytes
    made_first h e [] q = absurd (omega (arith, more, q))
    made_first h e (s ∷ []) q =
        let f : ys ≡ xs = rw h at (M (s ∷ []) q) in
        rw (h, ← f) (store_is y p.first p.one ys zs s q.1 e)
    made_first h e (s ∷ t ∷ []) q =
        let f : ys ≡ xs = rw h at (M (s ∷ t ∷ []) q) in
        rw (h, ← f) (store_is y p.first p.one ys zs s q.1 e)
    made_first h e (s ∷ t ∷ u ∷ ss) q = absurd q

    pub made_second : (made ≡ 0 → ⊥) → zs ≡ paste ys (16 + p.second * slot_size y) (take (slot_size y) p.two) (slot_size y) → Made y p (made + 1) xs zs
    unfolding stores_bytes
    made_second h e [] q = absurd (omega (arith, more, q))
    made_second h e (s ∷ []) q = absurd (h (omega (arith, more, q.0)))
    made_second h e (s ∷ t ∷ []) q =
        let z : made ≡ 1 = omega (arith, h, more, q.0) in
        let f : ys ≡ store_bytes y s.0 s.1 xs = rw z at (M (s ∷ t ∷ []) q) in
        rw (z, ← f) (store_is y p.second p.two ys zs t q.2 e)
    made_second h e (s ∷ t ∷ u ∷ ss) q = absurd q

  module _ (limit made : ℕ) (ys : List ℕ) (within : made ≤ limit) (M : Made y p made xs ys) where
    pub made_stopped : made < p.stores → limit ≤ made → Committed true xs ys y p limit
    made_stopped h l ss q =
        let e : made ≡ limit = omega arith in
        (rw e at (M ss q), sym (lt-ltb limit (length ss) (omega (arith, planned_length y p ss q))))

    pub made_all : p.stores ≤ made → Committed false xs ys y p limit
    made_all h ss q =
        let n = planned_length y p ss q in
        let e : take made ss ≡ take limit ss = take_all made ss (omega arith) ∙ sym (take_all limit ss (omega arith)) in
        (M ss q ∙ ap (λ (ts : List Store). stores_bytes y ts xs) e, sym (le-ltb limit (length ss) (omega arith)))
