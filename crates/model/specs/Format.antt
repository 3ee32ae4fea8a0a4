-- The bytes of a file, said once, by a writer; what is read is what the writer would have written.
use Rattle.std.specs.Prelude.{Bool, ◌&&◌, cond, true, ◌≡◌, List, [], ◌++◌, ◌∷◌, ◌%◌, ◌*◌, ◌+◌, ◌-◌, ◌/◌, ◌<◌, ◌≤◌, suc, zero, ℕ, eqb, leb, drop, get_or, length, replicate, take}
use Rattle.std.proofs.Math.Option.{Option, none as nothing, some}
use Rattle.std.proofs.Math.Seq.{paste}
use Rattle.model.specs.declared.Layout.{Layout}
use Rattle.model.specs.Order.{Low, Str, at, none}
use Rattle.model.specs.Tests.{same_str}
use Rattle.model.specs.Entries.{Entry}
use Rattle.model.specs.Files.{Cut, Slot, Sound, free, used}
use Rattle.model.specs.Checks.{Kind, check, is_bad}

-- R2.3: the versions that are offered.
unfoldable pub is_offered : ℕ → Bool
is_offered v = leb 1 v && leb v 3

-- How many bytes an entry has follows from the version (section 3): version 3 has room for the run.
unfoldable pub entry_length : Layout → ℕ
entry_length y = cond (eqb y.version 3) 40 32

-- The run that is kept of the one given: versions 1 and 2 keep none.
unfoldable pub kept_run : Layout → ℕ → ℕ
kept_run y r = cond (eqb y.version 3) r 0

-- What laws ask of the number of an entry's bytes: it is 32 or 40.
pub record EntrySize (e : ℕ) : Type 0 where
  pub least : 32 ≤ e
  pub most : e ≤ 40
  pub eights : e % 8 ≡ 0

-- R2.7: the length of a file.
unfoldable pub slot_size : Layout → ℕ
slot_size y = 64 + entry_length y * y.b

unfoldable pub file_size : Layout → ℕ → ℕ
file_size y slots = 16 + slots * slot_size y

-- R2.3, R2.4, R2.5: a version that is offered, b from 2 to 16, slots from 1 to 64.
pub record Sizes (y : Layout) (slots : ℕ) : Type 0 where
  pub offered : is_offered y.version ≡ true
  pub b_least : 2 ≤ y.b
  pub b_most : y.b ≤ 16
  pub slots_least : 1 ≤ slots
  pub slots_most : slots ≤ 64

unfoldable pub are_legal_sizes : Layout → ℕ → Bool
are_legal_sizes y slots = is_offered y.version && leb 2 y.b && leb y.b 16 && leb 1 slots && leb slots 64

-- R2.2 to R2.6: the header.
unfoldable pub header_bytes : Layout → ℕ → List ℕ
header_bytes y slots =
    0x54 ∷ 0x4B ∷ 0x46 ∷ y.version % 256 ∷ y.version / 256 ∷ y.b ∷ slots ∷ replicate 9 0

-- R3.8, R3.10 and R3.17: k bytes, those behind the string zero.
unfoldable pub padded : ℕ → List ℕ → List ℕ
padded k xs = take k (xs ++ replicate k 0)

-- R3.13: a number, its lowest byte first; the value has eight bytes, and so has the run.
unfoldable pub little_endian : ℕ → ℕ → List ℕ
little_endian zero v = []
little_endian (suc n) v = v % 256 ∷ little_endian n (v / 256)

unfoldable pub value_of : List ℕ → ℕ
value_of [] = 0
value_of (x ∷ xs) = x + 256 * value_of xs

-- Numbers that are bytes.
abbrev pub AreBytes : List ℕ → Type 0
AreBytes [] = Unit {0}
AreBytes (x ∷ xs) = (x < 256) × AreBytes xs

-- An entry of e bytes: the filled name and, behind it, the content.
unfoldable pub bytes_of_entry : ℕ → Entry → List ℕ
bytes_of_entry e x = x.0 ++ little_endian (e - 24) x.1

unfoldable pub bytes_of_entries : ℕ → List Entry → List ℕ
bytes_of_entries e [] = []
bytes_of_entries e (x ∷ es) = bytes_of_entry e x ++ bytes_of_entries e es

-- R1.8: an empty lower bound is no lower limit.
unfoldable pub digits_of_low : Low → Str
digits_of_low none = []
digits_of_low (at x) = x

unfoldable pub low_of : Str → Low
low_of [] = none
low_of (d ∷ x) = at (d ∷ x)

-- R3.1 to R3.17: the bytes of a slot, free or used.
unfoldable pub bytes_of_slot : Layout → Slot → List ℕ
bytes_of_slot y free = replicate (slot_size y) 0
bytes_of_slot y (used l u es) =
    1 ∷ length es ∷ length (digits_of_low l) ∷ length u ∷ (replicate 4 0
    ++ (padded 24 (digits_of_low l) ++ (padded 24 u ++ (replicate 8 0 ++ padded (entry_length y * y.b) (bytes_of_entries (entry_length y) es)))))

unfoldable pub slots_bytes : Layout → List Slot → List ℕ
slots_bytes y [] = []
slots_bytes y (s ∷ fs) = bytes_of_slot y s ++ slots_bytes y fs

unfoldable pub file_bytes : Layout → List Slot → List ℕ
file_bytes y fs = header_bytes y (length fs) ++ slots_bytes y fs

-- The parts of a slot, by the count and the lengths that stand there.
unfoldable pub read_entries : ℕ → ℕ → List ℕ → List Entry
read_entries e zero xs = []
read_entries e (suc n) xs = (take 24 xs, value_of (take (e - 24) (drop 24 xs))) ∷ read_entries e n (drop e xs)

unfoldable pub used_of : ℕ → List ℕ → Slot
used_of e xs =
    used (low_of (take (get_or xs 2 0) (drop 8 xs))) (take (get_or xs 3 0) (drop 32 xs)) (read_entries e (get_or xs 1 0) (drop 64 xs))

-- The slot that is written so, if there is one.
unfoldable pub read_used_slot : Layout → List ℕ → Option Slot
read_used_slot y xs =
    let s = used_of (entry_length y) xs in
    cond (same_str xs (bytes_of_slot y s)) (some s) nothing

unfoldable pub read_slot : Layout → List ℕ → Option Slot
read_slot y xs = let r = read_used_slot y xs in cond (same_str xs (bytes_of_slot y free)) (some free) r

-- The bytes of slot k, and a file's slots from k on, n of them.
unfoldable pub bytes_at_slot : Layout → ℕ → List ℕ → List ℕ
bytes_at_slot y k xs = take (slot_size y) (drop (16 + k * slot_size y) xs)

unfoldable pub joined : Option Slot → Option (List Slot) → Option (List Slot)
joined nothing r = nothing
joined (some s) nothing = nothing
joined (some s) (some fs) = some (s ∷ fs)

unfoldable pub read_slots : Layout → ℕ → ℕ → List ℕ → Option (List Slot)
read_slots y zero k xs = some []
read_slots y (suc n) k xs = joined (read_slot y (bytes_at_slot y k xs)) (read_slots y n (suc k) xs)

-- R2.1 to R2.7: the length and the header are right. Then the layout and slots: bytes 3 and 4 are the version, byte 5
-- is b, byte 6 slots.
unfoldable pub is_right_header : Layout → ℕ → List ℕ → Bool
is_right_header y slots xs =
    are_legal_sizes y slots && eqb (length xs) (file_size y slots) && same_str (take 16 xs) (header_bytes y slots)

unfoldable pub layout_of : List ℕ → Layout
layout_of xs = record { version = get_or xs 3 0 + 256 * get_or xs 4 0; b = get_or xs 5 0 }

unfoldable pub header_of : List ℕ → Option (Layout × ℕ)
header_of xs = cond (is_right_header (layout_of xs) (get_or xs 6 0) xs) (some (layout_of xs, get_or xs 6 0)) nothing

-- The file: its layout, and its slots.
unfoldable pub laid_out : Layout → Option (List Slot) → Option (Layout × List Slot)
laid_out y nothing = nothing
laid_out y (some fs) = some (y, fs)

unfoldable pub read_by : Option (Layout × ℕ) → List ℕ → Option (Layout × List Slot)
read_by nothing xs = nothing
read_by (some h) xs = laid_out h.0 (read_slots h.0 h.1 0 xs)

unfoldable pub read_file : List ℕ → Option (Layout × List Slot)
read_file xs = read_by (header_of xs) xs

-- Section 4 of the rules, of bytes: sound, cut, bad.
pub record SoundFile (xs : List ℕ) : Type 0 where
  pub layout : Layout
  pub slots : List Slot
  pub is : read_file xs ≡ some (layout, slots)
  pub sound : Sound layout.b slots

pub record CutFile (xs : List ℕ) (N : ℕ) : Type 0 where
  pub layout : Layout
  pub slots : List Slot
  pub is : read_file xs ≡ some (layout, slots)
  pub cut : Cut layout.b slots N

abbrev pub BadFile : List ℕ → Type 0
BadFile xs = (¬ SoundFile xs) × ((N : ℕ) → ¬ CutFile xs N)

-- R9.2: sound, cut or bad. What no writer wrote is bad.
abbrev pub check_read_with : (ℕ → List Slot → Kind) → Option (Layout × List Slot) → Kind
check_read_with kind nothing = is_bad
check_read_with kind (some f) = kind f.0.b f.1

unfoldable pub check_read : Option (Layout × List Slot) → Kind
check_read f = check_read_with check f

unfoldable pub check_file : List ℕ → Kind
check_file xs = check_read (read_file xs)

-- R7.1: a store replaces one whole slot.
unfoldable pub store_bytes : Layout → ℕ → Slot → List ℕ → List ℕ
store_bytes y k s xs = paste xs (16 + k * slot_size y) (bytes_of_slot y s) (slot_size y)
