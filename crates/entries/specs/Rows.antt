-- Rows of entries of e bytes each: where one stands, its content, the place of a name, what is held under it, which entries are met
-- among others, and a row of which a part is replaced.
use Rattle.std.specs.Prelude.{Option as Maybe, Some, None, Bool, ◌&&◌, ◌||◌, cond, false, not, true, List, [], ◌++◌, ◌∷◌, ◌≡◌, ◌*◌, ◌+◌, ◌-◌, ◌<◌, ◌^◌, ◌≤◌, suc, zero, ℕ, eqb, ltb, drop, take}
use Rattle.std.proofs.Math.Option.{Option, none as nothing, some}
use Rattle.model.specs.Entries.{Entry, content_from}
use Rattle.model.specs.Format.{value_of}
use Rattle.model.specs.Order.{Str}
use Rattle.model.specs.Tests.{is_at_most, is_legal_filled, same_str}
use Rattle.digits.specs.Keys.{value}
use Rattle.model.specs.declared.Content.{Content}

-- The most bytes that the entries of one bucket and one more have: 17 of 40.
abbrev pub room : ℕ
room = 680

-- Where entry i of so many begins.
pub record Stands (e i count r : ℕ) : Type 0 where
  pub is : r ≡ e * i
  pub inside : r ≤ e * count
  pub each : e * count ≤ 40 * count
  pub most : e * count ≤ room
  pub whole : i < count → r + e ≤ e * count

-- Value and run as one number.
unfoldable pub content_number : Content → ℕ
content_number c = content_from c.value c.run

-- What is held, as a number.
abbrev pub held_number : Maybe Content → Option ℕ
held_number (Some c) = some (content_number c)
held_number None = nothing

-- Its value has 64 bits, so that it is a part of that number.
abbrev pub Valued : Maybe Content → Type 0
Valued (Some c) = c.value < 2 ^ 64
Valued None = Unit {0}

-- The place of a name: how many entries are below it.
unfoldable pub place : Str → List Entry → ℕ
place n [] = 0
place n (e ∷ es) = cond (is_at_most n e.0) 0 (suc (place n es))

-- The numbers of the first names.
unfoldable pub values : ℕ → ℕ → List ℕ → List ℕ
values e zero xs = []
values e (suc n) xs = value (take 24 xs) ∷ values e n (drop e xs)

-- How many there are up to the last that passes.
unfoldable pub last_of : (ℕ → Bool) → List ℕ → ℕ
last_of t [] = 0
last_of t (w ∷ ws) = let r = last_of t ws in cond (ltb 0 r || t w) (suc r) 0

-- How many there are up to the last that is below v.
abbrev pub below : ℕ → List ℕ → ℕ
below v ws = last_of (λ w. ltb w v) ws

-- How many there are up to the last that is not above v.
abbrev pub is_not_above : ℕ → List ℕ → ℕ
is_not_above v ws = last_of (λ w. not (ltb v w)) ws

-- Of so many entries, the one at a place is there and has the name looked for.
unfoldable pub is_at : ℕ → List ℕ → ℕ → ℕ → ℕ → Bool
is_at e xs count i v = ltb i count && eqb (value (take 24 (drop (e * i) xs))) v

-- The content of the entry at a place, where its name is the one looked for.
unfoldable pub held_at : ℕ → ℕ → List ℕ → ℕ → ℕ → Option ℕ
held_at e i xs count v =
    cond (ltb i count && eqb (value (take 24 (drop (e * i) xs))) v) (some (value_of (take (e - 24) (drop (e * i + 24) xs)))) nothing

abbrev pub held_under : ℕ → List ℕ → ℕ → ℕ → Option ℕ
held_under e xs count v = held_at e (below v (values e count xs)) xs count v

-- Names are legal, strictly ascending and in the range: above `last`, and the last not above `high`.
unfoldable pub are_entries : ℕ → ℕ → List ℕ → ℕ → ℕ → Bool
are_entries e zero xs last high = not (ltb high last)
are_entries e (suc n) xs last high =
    is_legal_filled (take 24 xs) && ltb last (value (take 24 xs)) && are_entries e n (drop e xs) (value (take 24 xs)) high

-- The ends alone: the first name is above `low`, the last not above `high`.
unfoldable pub are_between : ℕ → ℕ → List ℕ → ℕ → ℕ → Bool
are_between e zero xs low high = not (ltb high low)
are_between e (suc n) xs low high = ltb low (value (take 24 xs)) && not (ltb high (value (take 24 (drop (e * n) xs))))

-- The bytes of the entries from one place on to another, and from one name to another.
unfoldable pub entries_from : ℕ → ℕ → ℕ → List ℕ → List ℕ
entries_from e i j xs = take (e * (j - i)) (drop (e * i) xs)

abbrev pub part_in_between : ℕ → List ℕ → ℕ → ℕ → ℕ → List ℕ
part_in_between e xs count v w = entries_from e (below v (values e count xs)) (is_not_above w (values e count xs)) xs

-- Entries, each by its bytes.
unfoldable pub pieces : ℕ → ℕ → List ℕ → List (List ℕ)
pieces e zero xs = []
pieces e (suc n) xs = take e xs ∷ pieces e n (drop e xs)

-- Whether the second entries are all met among the first, in order.
unfoldable pub are_among : List (List ℕ) → List (List ℕ) → Bool
are_among [] [] = true
are_among [] (e ∷ es) = false
are_among (n ∷ ns) [] = true
are_among (n ∷ ns) (e ∷ es) =
    let r = are_among ns es in
    let s = are_among ns (e ∷ es) in
    cond (same_str e n) r s

-- Of so many entries, those before place i, the middle, and those behind the ones that are taken out.
unfoldable pub spliced_bytes : ℕ → List ℕ → ℕ → ℕ → ℕ → List ℕ → List ℕ
spliced_bytes e xs count i taken middle =
    take (e * i) xs ++ (middle ++ take (e * (count - (i + taken))) (drop (e * (i + taken)) xs))
