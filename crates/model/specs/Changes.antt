-- Changing the file: put and remove as lists of whole-slot stores, and what refuses them.
use Rattle.std.specs.Prelude.{◌≡◌, ◌≢◌, Bool, cond, false, true, List, [], ◌++◌, ◌∷◌, ◌/◌, ◌<◌, suc, zero, ℕ, leb, ltb, length, set}
use Rattle.std.proofs.Math.Option.{Option, none as nothing, some}
use Rattle.model.specs.declared.Trie.{Trie}
use Rattle.model.specs.Order.{Low, Str, ◌⊑◌, ◌◁◌, at, none}
use Rattle.model.specs.Tests.{same_str}
use Rattle.model.specs.Names.{split_beginning}
use Rattle.model.specs.Entries.{Entry, find, insert, move, name_at, stay, without}
use Rattle.model.specs.Files.{In, Slot, entries_of, free, head, slot_at, used}
use Rattle.model.specs.Searches.{first, has_lower, has_upper, is_free, is_in_range, string_count}
use Rattle.model.specs.Rebuilding.{rebuilt_trie}

-- Put of a filled name with its value, and remove.
pub data Request : Type 0 where
  put : Str → ℕ → Request
  remove : Str → Request

-- R7.1: a store replaces one slot. Stores are made in order.
abbrev pub Store : Type 0
Store = ℕ × Slot

abbrev pub stored : List Store → List Slot → List Slot
stored [] fs = fs
stored (p ∷ ps) fs = stored ps (set fs p.0 p.1)

-- R7.6: the lowest free slot.
pub record Lowest (fs : List Slot) (N : ℕ) : Type 0 where
  pub inside : N < length fs
  pub is_free : slot_at fs N ≡ free
  pub lowest : (B : ℕ) → B < N → slot_at fs B ≢ free

-- The neighbours of a bucket: the right one's lower is its upper, the left one's upper is its lower. Where there is none,
-- the number is that of no slot, which reads as free.
unfoldable pub right_of : Str → List Slot → ℕ
right_of u fs = first (has_lower (at u)) fs

unfoldable pub left_of : Low → List Slot → ℕ
left_of none fs = length fs
left_of (at s) fs = first (has_upper s) fs

-- "the left one takes everything in, then the right slot is freed": "Two stores: the widened slot, without the removed name,
-- then the freed one." L is the left slot, with lower l and entries es, R the right one, with upper u and entries gs.
abbrev pub merged : Str → ℕ → ℕ → Low → Str → List Entry → List Entry → List Store
merged n L R l u es gs = (L, used l u (without n (es ++ gs))) ∷ (R, free) ∷ []

-- "The trie after a merge is the rebuilt one." Two stores are a merge; with fewer the trie stays.
unfoldable pub trie_removed : List Slot → List Store → Trie → Trie
trie_removed fs [] t = t
trie_removed fs (x ∷ []) t = t
trie_removed fs (x ∷ y ∷ ss) t = rebuilt_trie (stored (x ∷ y ∷ ss) fs)

module _ (b : ℕ) where
  -- "When a removal leaves a bucket and its right neighbour with at most b/2 entries together (rounded down)": x is what the
  -- left slot L holds, y what the right slot R holds; else the stores ss.
  unfoldable pub merged_or : Str → ℕ → Slot → ℕ → Slot → List Store → List Store
  merged_or n L free R y ss = ss
  merged_or n L (used l s es) R free ss = ss
  merged_or n L (used l s es) R (used m u gs) ss = cond (leb (length (without n (es ++ gs))) (b / 2)) (merged n L R l u es gs) ss

  -- The stores of a removal from slot A: with the right neighbour, "If that doesn't apply, the same is tried with the left
  -- neighbour and the bucket", else one store.
  unfoldable pub removal : List Slot → Str → ℕ → Low → Str → List Entry → List Store
  removal fs n A l u es =
      let L = left_of l fs in
      let R = right_of u fs in
      let ss = merged_or n L (slot_at fs L) A (used l u es) ((A, used l u (without n es)) ∷ []) in
      merged_or n A (used l u es) R (slot_at fs R) ss

-- The split string of the names at two places, counted from 0.
abbrev pub split_string : ℕ → ℕ → List Entry → Str
split_string i j ws = split_beginning (name_at ws i) (name_at ws j)

-- Over any rule that names, of b + 1 sorted entries, the place of the split key, counted from 0: its position less one.
module _ (b : ℕ) (place : List Entry → ℕ) where
  -- The split string of the split key, against the last name.
  abbrev pub split_of : List Entry → Str
  split_of ws = split_string (place ws) b ws

  -- R7.8: two stores, the new slot first; R7.7: their bounds.
  abbrev pub halves : ℕ → ℕ → Low → Str → List Entry → List Store
  halves N A l u ws =
      let s = split_of ws in
      (N, used (at s) u (move s ws)) ∷ (A, used l s (stay s ws)) ∷ []

  -- R10.5 and R10.6.
  pub data Denied (fs : List Slot) : Request → ℕ → Type 0 where
    no_room : (A : ℕ) {l : Low} {u : Str} (es : List Entry) {n : Str} {v : ℕ} → slot_at fs A ≡ used l u es → l ◁ n → n ⊑ u
        → b < length (insert n v es) → ((B : ℕ) → B < length fs → slot_at fs B ≢ free) → Denied fs (put n v) 5
    too_many : (A N : ℕ) {l : Low} {u : Str} (es : List Entry) {n : Str} {v : ℕ} → slot_at fs A ≡ used l u es → l ◁ n → n ⊑ u
        → b < length (insert n v es) → Lowest fs N → 256 < string_count (stored (halves N A l u (insert n v es)) fs)
        → Denied fs (put n v) 6

-- What a request takes: its stores, or the number of what refuses it.
pub data Result : Type 0 where
  refuse : ℕ → Result
  stores : List Store → Result

unfoldable pub stores_if : Option ℕ → List Store → List Store
stores_if nothing ss = []
stores_if (some v) ss = ss

module _ (b : ℕ) (place : List Entry → ℕ) (fs : List Slot) where
  -- One store where a name finds room (R7.2), to replace (R7.9), to remove without a merge (R7.10); two to split (R7.8) and to
  -- merge; else none (R7.11).
  unfoldable pub put_in : Str → ℕ → ℕ → Slot → Result
  put_in n v A free = refuse 2
  put_in n v A (used l u es) =
      let ws = insert n v es in
      let N = first is_free fs in
      let ss = halves b place N A l u ws in
      let split = cond (ltb N (length fs)) (cond (leb (string_count (stored ss fs)) 256) (stores ss) (refuse 6)) (refuse 5) in
      cond (leb (length ws) b) (stores ((A, used l u ws) ∷ [])) split

  unfoldable pub remove_in : Str → ℕ → Slot → Result
  remove_in n A free = refuse 2
  remove_in n A (used l u es) = let ss = removal b fs n A l u es in stores (stores_if (find n es) ss)

  unfoldable pub call : Request → Result
  call (put n v) = let A = first (is_in_range n) fs in put_in n v A (slot_at fs A)
  call (remove n) = let A = first (is_in_range n) fs in remove_in n A (slot_at fs A)

-- What a file's entries say, and what a request makes of it.
abbrev pub Map : Type 0
Map = Str → Option ℕ

abbrev pub meant : Request → Map → Map
meant (put n v) m k = cond (same_str k n) (some v) (m k)
meant (remove n) m k = cond (same_str k n) nothing (m k)

-- R13.3: a call stopped before its last store counts as never made, but "a merging removal counts as made from its first store
-- on": does a call that was stopped after j stores count as made?
unfoldable pub counts : Request → ℕ → Bool
counts (put n v) j = false
counts (remove n) zero = false
counts (remove n) (suc j) = true

-- Each name is found with the map's value in every bucket whose range holds it.
abbrev pub Means : List Slot → Map → Type 0
Means fs m = (k : Str) (B : ℕ) → In (head (slot_at fs B)) k → find k (entries_of (slot_at fs B)) ≡ m k
