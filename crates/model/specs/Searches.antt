-- What is looked for: the first slot that passes a test, a file's range order, its strings in ascending order, the position that wins.
-- `Tests` and `Separators` in the promises say what is found.
use Rattle.std.specs.Prelude.{Bool, ◌&&◌, cond, false, true, List, [], ◌++◌, ◌∷◌, suc, zero, ℕ, ltb, drop, length, take}
use Rattle.model.specs.Order.{Low, Str, at, diff, none}
use Rattle.model.specs.Tests.{is_above, is_at_most, same_low, same_str}
use Rattle.model.specs.Files.{RangeTable, Slot, free, head, ranges, slot_at, upper_of, used}

-- The number of the first slot that passes a test; of none, the number of slots.
unfoldable pub first : (Slot → Bool) → List Slot → ℕ
first t [] = 0
first t (x ∷ xs) = cond (t x) 0 (suc (first t xs))

-- A slot is free; it is used and has this lower limit; it is used and has this upper bound; it has this name in its range (R1.8).
unfoldable pub is_free : Slot → Bool
is_free free = true
is_free (used l u es) = false

unfoldable pub has_lower : Low → Slot → Bool
has_lower l free = false
has_lower l (used m u es) = same_low m l

unfoldable pub has_upper : Str → Slot → Bool
has_upper u free = false
has_upper u (used l v es) = same_str v u

unfoldable pub is_in_range : Str → Slot → Bool
is_in_range n free = false
is_in_range n (used l u es) = is_above l n && is_at_most n u

-- The range order: the slot with this lower limit, then the one whose lower is its upper, and so on.
unfoldable pub order_from : ℕ → Low → List Slot → List ℕ
order_from zero l fs = []
order_from (suc f) l fs =
    let B = first (has_lower l) fs in
    let u = upper_of (head (slot_at fs B)) in
    let r = order_from f (at u) fs in
    B ∷ cond (same_str u []) [] r

abbrev pub order_of : List Slot → List ℕ
order_of fs = order_from (length fs) none fs

module _ (F : RangeTable) where
  -- The non-empty bounds of slots in such an order, ascending: all uppers but the last.
  abbrev pub bounds : List ℕ → List Str
  bounds [] = []
  bounds (B ∷ []) = []
  bounds (B ∷ C ∷ Bs) = F.upper B ∷ bounds (C ∷ Bs)

-- R5.7: the strings of a file, in ascending order. A beginning comes after all that it begins: the beginnings of p ++ ds that are
-- longer than p, longest first;
abbrev pub longer : Str → Str → List Str
longer p [] = []
longer p (d ∷ ds) = longer (p ++ (d ∷ [])) ds ++ ((p ++ (d ∷ [])) ∷ [])

-- the beginnings of s that are longer than what s and p share;
abbrev pub fresh : Str → Str → List Str
fresh s p = longer (take (diff s p) s) (drop (diff s p) s)

-- after a bound x, before the next: the beginnings of x longer than what the two share.
abbrev pub all : List Str → List Str
all [] = []
all (x ∷ []) = fresh x []
all (x ∷ y ∷ ys) = fresh x y ++ all (y ∷ ys)

abbrev pub strings_of : List Slot → List Str
strings_of fs = all (bounds (ranges fs) (order_of fs))

unfoldable pub string_count : List Slot → ℕ
string_count fs = length (strings_of fs)

-- R7.3: of some positions the first whose number is least: p, unless a later one has a lower number than all before it.
unfoldable pub shortest : (ℕ → ℕ) → ℕ → List ℕ → ℕ
shortest f p [] = p
shortest f p (q ∷ qs) = shortest f (cond (ltb (f q) (f p)) q p) qs

unfoldable pub winner : (ℕ → ℕ) → List ℕ → ℕ
winner f [] = 1
winner f (p ∷ ps) = shortest f p ps
