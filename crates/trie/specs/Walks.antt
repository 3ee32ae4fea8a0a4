-- The walk on its way over any trie, damaged ones too, and where it ends.
use Rattle.std.specs.Prelude.{◌≡◌, cond, List, ◌<◌, ◌≤◌, ℕ, eqb, leb, length, take}
use Rattle.std.proofs.Math.Option.{Option, none as nothing, some}
use Rattle.model.specs.declared.Cell.{Cell}
use Rattle.model.specs.declared.Side.{Side}
use Rattle.model.specs.declared.Side.TheVariants.{Cell as further, Slot as slot}
use Rattle.model.specs.Order.{Str}
use Rattle.model.specs.Tries.{Spot, at_cell, left, right, root, walk_run}
use Rattle.trie.specs.declared.Hand.{Hand}
use Rattle.trie.specs.declared.Hand.TheVariants.{Left, Right}
use Rattle.trie.specs.declared.Place.{Place}
use Rattle.trie.specs.declared.Place.TheVariants.{Cell as before_cell, Slot as at_slot, Stale as stale}
use Rattle.trie.specs.declared.Walk.{Walk}

-- A side leads on to a cell below the count while cells may be met.
unfoldable pub place_ahead : Side → ℕ → ℕ → Place
place_ahead (slot s) count more = at_slot s
place_ahead (further i) count more = cond (eqb more 0) stale (cond (leb count i) stale (before_cell i))

-- The side of a cell on this hand.
abbrev pub side_on : Hand → Cell → Side
side_on Left c = c.left
side_on Right c = c.right

-- The walk came by this side. At the root there was none.
abbrev pub By : Spot → Walk → Type 0
By root w = Unit {0}
By (left m) w = (w.cell ≡ m) × (w.hand ≡ Left)
By (right m) w = (w.cell ≡ m) × (w.hand ≡ Right)

-- What is ahead of a walk at a place, to which it came by the side k: it will end as `o`.
abbrev pub Ahead : Place → Option (Str × Spot × ℕ) → List Cell → Str → Walk → Spot → Type 0
Ahead (before_cell i) o cs n w k =
    (0 < w.more) × (i < w.count) × (w.count ≤ 256) × (o ≡ walk_run w.more w.count cs n (take w.len w.path) k (further i))
Ahead (at_slot s) o cs n w k = o ≡ some (take w.len w.path, k, s)
Ahead stale o cs n w k = o ≡ nothing

-- The walk of a name on its way over cells. The digits behind the path's length say nothing.
pub record Underway (o : Option (Str × Spot × ℕ)) (cs : List Cell) (n : Str) (w : Walk) : Type 0 where
  pub short : w.len ≤ 24
  pub full : length w.path ≡ 24
  pub spot : Spot
  pub by : By spot w
  pub ahead : Ahead w.place o cs n w spot

-- One step over the cell with this number: whatever the walk will end as, it still will.
abbrev pub Steps : Str → Walk → ℕ → Cell → Walk → Type 0
Steps n w i c r =
    (o : Option (Str × Spot × ℕ)) (cs : List Cell) → w.place ≡ before_cell i → at_cell cs i ≡ c → Underway o cs n w → Underway o cs n r

-- Nothing is ahead of it.
pub record Strayed (w : Walk) : Type 0 where
  pub len : w.len ≡ 0
  pub full : length w.path ≡ 24
  pub place : w.place ≡ stale
  pub more : w.more ≡ 0

-- The walk ended at this leaf.
pub record Ended (r : Walk) (p : Str) (k : Spot) (s : ℕ) : Type 0 where
  pub len : r.len ≡ length p
  pub path : take r.len r.path ≡ p
  pub by : By k r
  pub place : r.place ≡ at_slot s

abbrev pub Walks : Walk → Option (Str × Spot × ℕ) → Type 0
Walks r nothing = r.place ≡ stale
Walks r (some (p, k, s)) = Ended r p k s

-- The place at which a walk stands that has ended.
abbrev pub place_reached : Option (Str × Spot × ℕ) → Place
place_reached nothing = stale
place_reached (some (p, k, s)) = at_slot s
