-- A number as it is, or 255 where it is more.
use Rattle.std.specs.Prelude.{◌≡◌, ◌<◌, ◌≤◌, ℕ}

pub record Small (r x : ℕ) : Type 0 where
  pub most : r ≤ 255
  pub same : x ≤ 255 → r ≡ x
  pub cut : 255 < x → r ≡ 255
