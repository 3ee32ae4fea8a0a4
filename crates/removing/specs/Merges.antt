-- What is planned for a remove of a file that is read, alone or with a merge, and the trie of what a merge leaves.
use Rattle.std.specs.Prelude.{Option as Maybe, Some, None, ◌≡◌, List, [], ◌++◌, ◌/◌, ◌<◌, ◌≤◌, suc, ℕ, drop, get_or, length, take}
use Rattle.std.proofs.Math.Option.{some}
use Rattle.model.specs.declared.Layout.{Layout}
use Rattle.model.specs.Order.{Low, Str, ◌⊑◌, ◌◁◌, at}
use Rattle.model.specs.Names.{Legal}
use Rattle.model.specs.Entries.{Entry, find, without}
use Rattle.model.specs.Files.{Slot, Sound, entries_of, used}
use Rattle.model.specs.Searches.{order_of, string_count}
use Rattle.model.specs.Rebuilding.{rebuilt_trie}
use Rattle.model.specs.Changes.{Result, Store, call, merged, refuse, removal, remove, stored, stores}
use Rattle.model.specs.Format.{bytes_at_slot, read_file}
use Rattle.model.specs.Places.{place_of}
use Rattle.entries.specs.Rows.{place}
use Rattle.slots.specs.declared.spot.Spot.{Spot}
use Rattle.slots.specs.Spots.{SpotIn}
use Rattle.file.specs.Holders.{placed}
use Rattle.file.specs.Plans.{Planned}
use Rattle.file.specs.Sizes.{Below, Sized}
use Rattle.image.specs.Images.{image_of}
use Rattle.checking.specs.declared.Checked.{Checked}
use Rattle.removing.specs.declared.RemovePlan.{RemovePlan}

-- The entries of the bucket at a place in order.
abbrev pub CountTold : ℕ → Checked → List ℕ → ℕ → Type 0
CountTold r c xs p = (fs : List Slot) → read_file xs ≡ some (c.size.layout, fs) → r ≡ length (entries_of (placed fs p))

-- What the two stores of a merge leave: a sound file with no more strings, whose order lacks the slot that is freed.
pub record Joined (b : ℕ) (fs : List Slot) (ss : List Store) (right : ℕ) : Type 0 where
  pub inside : right < length (order_of fs)
  pub sound : Sound b (stored ss fs)
  pub order : order_of (stored ss fs) ≡ take right (order_of fs) ++ drop (suc right) (order_of fs)
  pub few : string_count (stored ss fs) ≤ string_count fs

-- The place of the slot that is freed, where there are the two stores of a merge.
abbrev pub Frees : Maybe ℕ → ℕ → List Slot → List Store → Type 0
Frees None b fs ss = length ss ≡ 1
Frees (Some right) b fs ss = (length ss ≡ 2) × Joined b fs ss right

-- The removal of a name that is held.
abbrev pub RemovePlanned : RemovePlan → Layout → List Slot → Result → Type 0
RemovePlanned p y fs (refuse c) = ⊥
RemovePlanned p y fs (stores ss) = Planned p.plan y ss × Frees p.right y.b fs ss

-- A merge of the buckets at places p and p + 1 in order, in which k is found at place i of both their entries.
abbrev pub MergeTold : RemovePlan → Checked → List ℕ → ℕ → ℕ → ℕ → ℕ → Type 0
MergeTold r c xs right m n i =
    (fs : List Slot) → read_file xs ≡ some (c.size.layout, fs) → (p : ℕ) → suc p ≡ right → (l : Low) (s u : Str) (es gs : List Entry)
    → placed fs p ≡ used l s es → placed fs (suc p) ≡ used (at s) u gs → m ≡ length es → n ≡ length gs → (k : Str) → l ◁ k → k ⊑ u
    → length (without k (es ++ gs)) ≤ c.size.layout.b / 2 → (w : ℕ) → find k (es ++ gs) ≡ some w → i ≡ place k (es ++ gs)
    → RemovePlanned r c.size.layout fs (stores (merged k (get_or (order_of fs) p 0) (get_or (order_of fs) (suc p) 0) l u es gs))

-- A spot in the slot at a place in order.
abbrev pub StandsAt : Spot → Checked → List ℕ → ℕ → Type 0
StandsAt s c xs p = (s.slot.layout ≡ c.size.layout) × (s.slot.bytes.now ≡ bytes_at_slot c.size.layout (get_or c.survey.order p 0) xs)

-- A name that the bucket at a place in order holds.
abbrev pub RemovalTold : RemovePlan → Checked → List ℕ → ℕ → Spot → Type 0
RemovalTold r c xs p s =
    (fs : List Slot) → read_file xs ≡ some (c.size.layout, fs) → (n : Str) → Legal n → (l : Low) (u : Str) (es : List Entry)
    → placed fs p ≡ used l u es → l ◁ n → n ⊑ u → SpotIn s n es → (w : ℕ) → find n es ≡ some w
    → RemovePlanned r c.size.layout fs (stores (removal c.size.layout.b fs n (get_or (order_of fs) p 0) l u es))

-- A name that is held or not: an absent one needs no store.
abbrev pub RemoveAsked : Maybe RemovePlan → Layout → List Slot → Result → Type 0
RemoveAsked None y fs r = r ≡ stores []
RemoveAsked (Some p) y fs r = RemovePlanned p y fs r

abbrev pub RemoveTold : Maybe RemovePlan → Checked → List ℕ → Str → Type 0
RemoveTold r c xs n =
    (fs : List Slot) → read_file xs ≡ some (c.size.layout, fs)
    → RemoveAsked r c.size.layout fs (call c.size.layout.b (place_of c.size.layout) fs (remove n))

-- A sound file whose order is the one that was found, without a place.
pub record Left (c : Checked) (xs : List ℕ) (right : ℕ) : Type 0 where
  pub slots : List Slot
  pub is : read_file xs ≡ some (c.size.layout, slots)
  pub sized : Sized (length xs) c.size
  pub sound : Sound c.size.layout.b slots
  pub as_many : length slots ≡ c.size.slots
  pub slots_inside : Below c.survey.order c.size.slots
  pub count_most : c.survey.count ≤ 64
  pub inside : right < c.survey.count
  pub fewer : c.survey.count ≡ suc (length (order_of slots))
  pub order : order_of slots ≡ take right (take c.survey.count c.survey.order) ++ drop (suc right) (take c.survey.count c.survey.order)
  pub few : string_count slots ≤ 256

-- The image of its trie.
abbrev pub RebuildTold : List ℕ → Checked → List ℕ → ℕ → Type 0
RebuildTold image c xs right = (L : Left c xs right) → image ≡ image_of (rebuilt_trie L.slots)
