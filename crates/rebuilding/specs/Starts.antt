-- The strings before a string that are longer than it, and the shortest strings of a run, all by their lengths.
use Rattle.std.specs.Prelude.{◌≡◌, List, ◌-◌, ◌<◌, ◌≤◌, suc, ℕ, get_or}
use Rattle.rebuilding.specs.Roots.{many, run}

-- All from one place on and below another are longer than d.
abbrev pub Longer : List ℕ → ℕ → ℕ → ℕ → Type 0
Longer lens d from to = (j : ℕ) → from ≤ j → j < to → d < get_or lens j 0

-- From s on all strings before the one at i are longer than it, and the one before s is not.
pub record Start (lens : List ℕ) (i s : ℕ) : Type 0 where
  pub inside : s ≤ i
  pub longer : Longer lens (get_or lens i 0) s i
  pub stops : 0 < s → get_or lens (s - 1) 0 ≤ get_or lens i 0

-- The starts of the first n strings.
abbrev pub Starts : List ℕ → List ℕ → ℕ → Type 0
Starts lens starts n = (i : ℕ) → i < n → Start lens i (get_or starts i 0)

-- The last of a run's shortest strings, and how many there are.
pub record Found (lens : List ℕ) (from to last count : ℕ) : Type 0 where
  pub least_place : from ≤ last
  pub most_place : last < to
  pub short : get_or lens last 0 ≤ 255
  pub low : (j : ℕ) → from ≤ j → j < to → get_or lens last 0 ≤ get_or lens j 0
  pub past : Longer lens (get_or lens last 0) (suc last) to
  pub counted : count ≡ suc (many 0 (get_or lens last 0) (run from last lens))
