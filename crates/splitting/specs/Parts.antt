-- What every split has: a string of 1 to 24 digits, in 24 bytes, and parts of 1 to b entries.
use Rattle.std.specs.Prelude.{◌≡◌, ◌≤◌, ℕ, length}
use Rattle.splitting.specs.declared.Split.{Split}

pub record Parted (s : Split) (b : ℕ) : Type 0 where
  pub string_whole : length s.string ≡ 24
  pub len_least : 1 ≤ s.len
  pub len_most : s.len ≤ 24
  pub stay_least : 1 ≤ s.stay
  pub stay_most : s.stay ≤ b
  pub shared_most : s.shared ≤ s.len
