-- Where in a slot a name is or would be, and the slot with the name put in, given another content, or taken out.
use Rattle.std.specs.Prelude.{Option as Maybe, Bool, false, true, List, ◌++◌, ◌≡◌, ◌+◌, ◌-◌, ◌<◌, ◌^◌, ℕ, length, take}
use Rattle.std.proofs.Math.Option.{Option, none as nothing, some}
use Rattle.model.specs.declared.Layout.{Layout}
use Rattle.model.specs.Order.{Low, Str, at}
use Rattle.model.specs.Names.{Legal}
use Rattle.model.specs.Entries.{Entry, find, insert, without}
use Rattle.model.specs.Files.{Slot, used}
use Rattle.model.specs.Format.{bytes_of_slot, entry_length, read_entries, slot_size}
use Rattle.digits.specs.declared.Key.{Key}
use Rattle.digits.specs.Keys.{key_value, value}
use Rattle.model.specs.declared.Content.{Content}
use Rattle.entries.specs.Rows.{content_number, held_number, place}
use Rattle.bucket.specs.Forms.{ReadAs}
use Rattle.slots.specs.declared.spot.Spot.{Spot}

unfoldable pub is_some_value : Option ℕ → Bool
is_some_value nothing = false
is_some_value (some c) = true

-- The spot of the name n among the entries es.
pub record SpotIn (s : Spot) (n : Str) (es : List Entry) : Type 0 where
  pub counted : s.count ≡ length es
  pub placed : s.place ≡ place n es
  pub held_is : s.held ≡ is_some_value (find n es)

abbrev pub SpotTold : Spot → Layout → List ℕ → Key → Type 0
SpotTold r y xs name =
    (l : Low) (u : Str) (es : List Entry) → ReadAs y xs l u es → (n : Str) → Legal n → key_value name ≡ value n → SpotIn r n es

abbrev pub HeldTold : Maybe Content → Layout → List ℕ → Key → Type 0
HeldTold r y xs name =
    (l : Low) (u : Str) (es : List Entry) → ReadAs y xs l u es → (n : Str) → Legal n → key_value name ≡ value n → held_number r ≡ find n es

abbrev pub ContentTold : Content → Layout → List ℕ → Spot → Type 0
ContentTold r y xs s =
    (l : Low) (u : Str) (es : List Entry) → ReadAs y xs l u es → (n : Str) → Legal n → SpotIn s n es
    → (w : ℕ) → find n es ≡ some w → content_number r ≡ w

-- An array that begins with the bytes of a slot.
abbrev pub Begins : List ℕ → Layout → Slot → Type 0
Begins r y s = take (slot_size y) r ≡ bytes_of_slot y s

-- A content that has room behind a name.
abbrev pub Fits : Layout → Content → Type 0
Fits y c = content_number c < 256 ^ (entry_length y - 24)

abbrev pub ReplacedTold : List ℕ → Layout → List ℕ → Spot → Str → Content → Type 0
ReplacedTold r y xs s n c =
    (l : Low) (u : Str) (es : List Entry) → ReadAs y xs l u es → Legal n → SpotIn s n es → (w : ℕ) → find n es ≡ some w
    → Fits y c → Begins r y (used l u (insert n (content_number c) es))

abbrev pub AddedTold : List ℕ → Layout → List ℕ → Spot → Str → Content → Type 0
AddedTold r y xs s n c =
    (l : Low) (u : Str) (es : List Entry) → ReadAs y xs l u es → Legal n → SpotIn s n es → find n es ≡ nothing
    → Fits y c → Begins r y (used l u (insert n (content_number c) es))

abbrev pub LessenedTold : List ℕ → Layout → List ℕ → Spot → Type 0
LessenedTold r y xs s =
    (l : Low) (u : Str) (es : List Entry) → ReadAs y xs l u es → (n : Str) → Legal n → SpotIn s n es → (w : ℕ) → find n es ≡ some w
    → Begins r y (used l u (without n es))

-- The slot with the first entries of a row, so many.
abbrev pub RewrittenTold : List ℕ → Layout → List ℕ → List ℕ → ℕ → Type 0
RewrittenTold r y xs row n =
    (l : Low) (u : Str) (es ws : List Entry) → ReadAs y xs l u es → read_entries (entry_length y) n row ≡ ws → Begins r y (used l u ws)

-- Two neighbours as one, without a name that one of them holds: m and n are their counts, i the name's place in both rows.
abbrev pub WidenedTold : List ℕ → Layout → List ℕ → ℕ → List ℕ → ℕ → ℕ → Type 0
WidenedTold r y xs m zs n i =
    (l : Low) (s u : Str) (es gs : List Entry) → ReadAs y xs l s es → ReadAs y zs (at s) u gs → m ≡ length es → n ≡ length gs
    → (k : Str) (w : ℕ) → find k (es ++ gs) ≡ some w → i ≡ place k (es ++ gs) → Begins r y (used l u (without k (es ++ gs)))

-- The entries that are read at the beginning of a row.
abbrev pub RowOf : Layout → List ℕ → List Entry → Type 0
RowOf y row ws = read_entries (entry_length y) (length ws) row ≡ ws

abbrev pub OverfullTold : List ℕ → Layout → List ℕ → Spot → Str → Content → Type 0
OverfullTold r y xs s n c =
    (l : Low) (u : Str) (es : List Entry) → ReadAs y xs l u es → Legal n → SpotIn s n es → find n es ≡ nothing
    → Fits y c → (RowOf y r (insert n (content_number c) es)) × (length (insert n (content_number c) es) ≡ s.count + 1)
