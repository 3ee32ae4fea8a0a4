-- A plan and the stores that it holds, and what committing it leaves.
use Rattle.std.specs.Prelude.{◌≡◌, ℕ, ◌<◌, Bool, List, [], ◌∷◌, length, take, nat_lt}
use Rattle.model.specs.declared.Layout.{Layout}
use Rattle.model.specs.Changes.{Store}
use Rattle.model.specs.Format.{bytes_of_slot, slot_size}
use Rattle.model.specs.Calls.{stores_bytes}
use Rattle.file.specs.declared.Plan.{Plan}
use Rattle.file.specs.declared.Size.{Size}

-- The slots that a plan names are the file's.
abbrev pub Fits : Plan → Size → Type 0
Fits p s = (p.first < s.slots) × (p.second < s.slots)

-- One store: the slot's number, and an array that begins with its bytes.
abbrev pub Holds : Layout → ℕ → List ℕ → Store → Type 0
Holds y k bytes s = (k ≡ s.0) × (take (slot_size y) bytes ≡ bytes_of_slot y s.1)

-- The stores that a plan holds, in order: at most two.
abbrev pub Planned : Plan → Layout → List Store → Type 0
Planned p y [] = p.stores ≡ 0
Planned p y (s ∷ []) = (p.stores ≡ 1) × Holds y p.first p.one s
Planned p y (s ∷ t ∷ []) = (p.stores ≡ 2) × Holds y p.first p.one s × Holds y p.second p.two t
Planned p y (s ∷ t ∷ u ∷ ss) = ⊥

-- R7.12, of any stores that the plan holds: xs is the file before, ys after, and r tells whether the limit is below them.
abbrev pub Committed : Bool → List ℕ → List ℕ → Layout → Plan → ℕ → Type 0
Committed r xs ys y p limit =
    (ss : List Store) → Planned p y ss → (ys ≡ stores_bytes y (take limit ss) xs) × (r ≡ nat_lt limit (length ss))
