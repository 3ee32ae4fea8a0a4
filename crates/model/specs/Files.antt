-- The file as a list of slots: well formed, sound, cut, bad; its strings.
use Rattle.std.specs.Prelude.{◌≡◌, ◌-◌, ◌<◌, ◌≤◌, ℕ, get_or, length, replicate, set, take}
use mathlib.Core.List.{List, Memᴰ, [], ◌∷◌}
use Rattle.model.specs.Order.{Low, Str, ◌≺◌, ◌⊑◌, ◌◁◌, at, none}
use Rattle.model.specs.Names.{Bound, BoundLow}
use Rattle.model.specs.Entries.{Entry, Row, move, name_at, without}

-- A slot is free, or used with a lower and an upper bound and entries.
pub data Slot : Type 0 where
  free : Slot
  used : Low → Str → List Entry → Slot

abbrev pub entries_of : Slot → List Entry
entries_of free = []
entries_of (used l u es) = es

-- The slot with a number. Behind the last there is none, which reads as free.
abbrev pub slot_at : List Slot → ℕ → Slot
slot_at fs B = get_or fs B free

-- What a slot's header says: no range, or the two bounds.
pub data SlotHead : Type 0 where
  no_range : SlotHead
  range : Low → Str → SlotHead

abbrev pub head : Slot → SlotHead
head free = no_range
head (used l u es) = range l u

abbrev pub IsUsed : SlotHead → Type 0
IsUsed no_range = ⊥
IsUsed (range l u) = Unit {0}

abbrev pub lower_of : SlotHead → Low
lower_of no_range = none
lower_of (range l u) = l

abbrev pub upper_of : SlotHead → Str
upper_of no_range = []
upper_of (range l u) = u

-- R1.8: within the upper bound and not within the lower.
abbrev pub In : SlotHead → Str → Type 0
In h n = IsUsed h × (lower_of h ◁ n) × (n ⊑ upper_of h)

-- All that a trie needs of a file: which slots are used, and their bounds.
pub record RangeTable : Type 1 where
  pub Used : ℕ → Type 0
  pub lower : ℕ → Low
  pub upper : ℕ → Str

abbrev pub by_heads : (ℕ → SlotHead) → RangeTable
by_heads h = record { Used = λ B. IsUsed (h B); lower = λ B. lower_of (h B); upper = λ B. upper_of (h B) }

abbrev pub ranges : List Slot → RangeTable
ranges fs = by_heads (λ B. head (slot_at fs B))

module _ (F : RangeTable) where
  -- R4.4 to R4.7: used slots in range order, from a lower limit on.
  pub data Chain : Low → List ℕ → Type 0 where
    last : {l : Low} {B : ℕ} → F.Used B → F.lower B ≡ l → F.upper B ≡ [] → Chain l (B ∷ [])
    next : {l : Low} {B : ℕ} {Bs : List ℕ} → F.Used B → F.lower B ≡ l → l ◁ F.upper B → F.upper B ≺ []
        → Chain (at (F.upper B)) Bs → Chain l (B ∷ Bs)

-- R4.13: exactly A's entries in N's range, or these and one more.
pub data Copied (es : List Entry) : List Entry → Type 0 where
  exactly : Copied es es
  one_more : (i : ℕ) {ns : List Entry} → i < length ns → without (name_at ns i) ns ≡ es → Copied es ns

module _ (b : ℕ) where
  -- R3.18: well formed, as far as bounds and entries go. b is the bucket capacity.
  pub data Well : Slot → Type 0 where
    well_free : Well free
    well_used : {l : Low} {u : Str} {es : List Entry} → BoundLow l → Bound u → l ◁ u → Row l es u → length es ≤ b
        → Well (used l u es)

  -- R4.2 to R4.7: sound.
  pub record Sound (fs : List Slot) : Type 0 where
    pub order : List ℕ
    pub chain : Chain (ranges fs) none order
    pub listed : (B : ℕ) → IsUsed (head (slot_at fs B)) → Memᴰ B order
    pub well : (B : ℕ) → Well (slot_at fs B)

  -- R4.8 to R4.13: cut; since request 03 A may have any number of entries. N's lower is not empty (R4.12), since no slot with
  -- an empty lower string is well formed.
  pub record Cut (fs : List Slot) (N : ℕ) : Type 0 where
    pub low : Str
    pub up : Str
    pub new : List Entry
    pub n_is : slot_at fs N ≡ used (at low) up new
    pub n_well : Well (slot_at fs N)
    pub freed : Sound (set fs N free)
    pub A : ℕ
    pub a_low : Low
    pub old : List Entry
    pub a_is : slot_at (set fs N free) A ≡ used a_low up old
    pub below : a_low ◁ low
    pub copied : Copied (move low old) new

  -- R4.14: neither sound nor cut.
  abbrev pub Bad : List Slot → Type 0
  Bad fs = (¬ Sound fs) × ((N : ℕ) → ¬ Cut fs N)

-- R9.1: slot 0 without limits and entries, and the other slots free.
abbrev pub created : ℕ → List Slot
created slots = used none [] [] ∷ replicate (slots - 1) free

-- x is a non-empty beginning of s.
pub record Begins (s x : Str) : Type 0 where
  pub count : ℕ
  pub some : 0 < count
  pub fits : count ≤ length s
  pub is : x ≡ take count s

-- R5.7: the strings of a file.
pub data BoundOf : SlotHead → Str → Type 0 where
  lower_bound : {l u : Str} → BoundOf (range (at l) u) l
  upper_bound : {l : Low} {u : Str} → BoundOf (range l u) u

pub record IsString (fs : List Slot) (x : Str) : Type 0 where
  pub bucket : ℕ
  pub bound : Str
  pub is_bound : BoundOf (head (slot_at fs bucket)) bound
  pub begins : Begins bound x
