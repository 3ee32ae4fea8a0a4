-- The walk of a name on its way over cells, with what is known of its path: the length, and how many digits the name shares with it.
use Rattle.std.specs.Prelude.{◌≡◌, true, List, ◌<◌, Option as Maybe, Some, None, suc, ℕ, length}
use Rattle.std.proofs.Math.Option.{Option, none as nothing}
use Rattle.model.specs.declared.Cell.{Cell}
use Rattle.model.specs.declared.Side.{Side}
use Rattle.model.specs.declared.Side.TheVariants.{Cell as further}
use Rattle.model.specs.Order.{Str, diff}
use Rattle.model.specs.Tests.{is_at_most}
use Rattle.model.specs.Tries.{Spot, at_cell, walk_run}
use Rattle.image.specs.declared.place.Turn.{Turn}
use Rattle.image.specs.Images.{side_from}

-- The walk of n is at a side of a cell, with so many cells left to meet, and will end as `o`. It went left at the path's last digit,
-- or the path is empty: so n is not above the path.
pub record Course (o : Option (Str × Spot × ℕ)) (cs : List Cell) (n : Str) (count more : ℕ) (a : Side) (len same : ℕ) : Type 0 where
  pub path : Str
  pub spot : Spot
  pub len_is : length path ≡ len
  pub within : is_at_most n path ≡ true
  pub same_is : diff n path ≡ same
  pub ahead : o ≡ walk_run more count cs n path spot a

-- After one more cell, or one that no agreeing trie has.
abbrev pub After : Maybe Turn → Option (Str × Spot × ℕ) → List Cell → Str → ℕ → ℕ → Type 0
After None o cs n count more = o ≡ nothing
After (Some t) o cs n count more = Course o cs n count more (side_from t.side) t.len t.same

-- One step over a cell: whatever the walk will end as, it still will.
abbrev pub Steps : Maybe Turn → Str → Cell → ℕ → ℕ → Type 0
Steps r n c len same =
    (o : Option (Str × Spot × ℕ)) (cs : List Cell) (count more i : ℕ) → i < count → at_cell cs i ≡ c
    → Course o cs n count (suc more) (further i) len same → After r o cs n count more
