-- Check: sound, cut or bad, by tests that compute.
use Rattle.std.specs.Prelude.{Bool, ◌&&◌, ◌||◌, cond, false, not, true, List, [], ◌∷◌, suc, zero, ℕ, eqb, leb, length, set}
use Rattle.model.specs.Order.{Low, Str, at, none}
use Rattle.model.specs.Tests.{is_above, is_at_most, is_legal_bound, is_legal_filled, is_legal_low, same_str}
use Rattle.model.specs.Entries.{Entry, move, name_at, without}
use Rattle.model.specs.Files.{Slot, free, head, slot_at, upper_of, used}
use Rattle.model.specs.Searches.{has_lower, is_free, order_of}

-- R3.13 to R3.16: legal names, ascending, each in the range. What depends on the rule of names takes the test that it rests
-- on (`With`): an older build is the same with another.
abbrev pub is_row_with : (Str → Bool) → Low → List Entry → Str → Bool
is_row_with legal l [] u = true
is_row_with legal l (e ∷ es) u = legal e.0 && is_above l e.0 && is_at_most e.0 u && is_row_with legal (at e.0) es u

unfoldable pub is_row : Low → List Entry → Str → Bool
is_row l es u = is_row_with is_legal_filled l es u

-- R4.2: each slot is free or well formed.
abbrev pub is_well_with : (Low → List Entry → Str → Bool) → ℕ → Slot → Bool
is_well_with row b free = true
is_well_with row b (used l u es) = is_legal_low l && is_legal_bound u && is_above l u && row l es u && leb (length es) b

unfoldable pub is_well_formed : ℕ → Slot → Bool
is_well_formed b x = is_well_with is_row b x

abbrev pub all_well_with : (Slot → Bool) → List Slot → Bool
all_well_with well [] = true
all_well_with well (x ∷ xs) = well x && all_well_with well xs

unfoldable pub all_well : ℕ → List Slot → Bool
all_well b fs = all_well_with (is_well_formed b) fs

-- The slots in this order are a chain.
unfoldable pub is_chain : List Slot → Low → List ℕ → Bool
is_chain fs l [] = false
is_chain fs l (B ∷ []) =
    has_lower l (slot_at fs B) && same_str (upper_of (head (slot_at fs B))) []
is_chain fs l (B ∷ C ∷ Bs) =
    let u = upper_of (head (slot_at fs B)) in
    has_lower l (slot_at fs B) && is_above l u && not (is_at_most [] u) && is_chain fs (at u) (C ∷ Bs)

-- Each used slot is in the order; slots are counted from i.
unfoldable pub is_in : ℕ → List ℕ → Bool
is_in B [] = false
is_in B (C ∷ Bs) = eqb B C || is_in B Bs

unfoldable pub is_listed : ℕ → List ℕ → List Slot → Bool
is_listed i Bs [] = true
is_listed i Bs (x ∷ xs) = (is_free x || is_in i Bs) && is_listed (suc i) Bs xs

abbrev pub is_sound_with : (List Slot → Bool) → List Slot → Bool
is_sound_with well fs = well fs && is_chain fs none (order_of fs) && is_listed 0 (order_of fs) fs

unfoldable pub is_sound_file : ℕ → List Slot → Bool
is_sound_file b fs = is_sound_with (all_well b) fs

-- R4.13: exactly A's entries in N's range, or these and the one at a place below i.
unfoldable pub are_same_entries : List Entry → List Entry → Bool
are_same_entries [] [] = true
are_same_entries [] (f ∷ fs) = false
are_same_entries (e ∷ es) [] = false
are_same_entries (e ∷ es) (f ∷ fs) = same_str e.0 f.0 && eqb e.1 f.1 && are_same_entries es fs

unfoldable pub has_one_more : ℕ → List Entry → List Entry → Bool
has_one_more zero es ns = false
has_one_more (suc i) es ns = are_same_entries (without (name_at ns i) ns) es || has_one_more i es ns

unfoldable pub is_copied : List Entry → List Entry → Bool
is_copied es ns = are_same_entries ns es || has_one_more (length ns) es ns

-- R4.9 to R4.11: A beside N.
unfoldable pub is_twin : Str → Str → List Entry → Slot → Bool
is_twin low up ns free = false
is_twin low up ns (used l u es) = same_str u up && is_above l low && is_copied (move low es) ns

unfoldable pub has_twin : Str → Str → List Entry → List Slot → Bool
has_twin low up ns [] = false
has_twin low up ns (x ∷ xs) = is_twin low up ns x || has_twin low up ns xs

-- R4.8: without N the file is sound; the slot is x.
abbrev pub is_cut_by_with : (Slot → Bool) → (List Slot → Bool) → List Slot → ℕ → Slot → Bool
is_cut_by_with well sound fs N free = false
is_cut_by_with well sound fs N (used none up ns) = false
is_cut_by_with well sound fs N (used (at low) up ns) =
    well (used (at low) up ns) && has_twin low up ns (set fs N free) && sound (set fs N free)

unfoldable pub is_cut_by : ℕ → List Slot → ℕ → Slot → Bool
is_cut_by b fs N x = is_cut_by_with (is_well_formed b) (is_sound_file b) fs N x

-- R9.2: sound, cut or bad. Only one slot can be the one to free (R4.15).
pub data Kind : Type 0 where
  is_sound : Kind
  is_cut : ℕ → Kind
  is_bad : Kind

abbrev pub cut_below_with : (ℕ → Bool) → ℕ → Kind
cut_below_with cut zero = is_bad
cut_below_with cut (suc N) =
    let r = cut_below_with cut N in
    cond (cut N) (is_cut N) r

unfoldable pub cut_among : ℕ → ℕ → List Slot → Kind
cut_among N b fs = cut_below_with (λ (k : ℕ). is_cut_by b fs k (slot_at fs k)) N

abbrev pub check_with : (List Slot → Bool) → (List Slot → Kind) → List Slot → Kind
check_with sound cut fs = let r = cut fs in cond (sound fs) is_sound r

unfoldable pub check : ℕ → List Slot → Kind
check b fs = check_with (is_sound_file b) (cut_among (length fs) b) fs
