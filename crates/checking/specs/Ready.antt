-- What is known of a file and a trie once put's, remove's and list's checks have passed; and which cause holds where not.
use Rattle.std.specs.Prelude.{Result, Ok, Err, ◌≡◌, List, ◌≤◌, ℕ, length, take}
use Rattle.std.proofs.Math.Option.{some}
use Rattle.model.specs.declared.Trie.{Trie}
use Rattle.model.specs.Files.{Slot, Sound}
use Rattle.model.specs.Tries.{Agrees}
use Rattle.model.specs.Format.{read_file}
use Rattle.model.specs.Calls.{fine, looked_of, refusing}
use Rattle.model.specs.Searches.{order_of, strings_of}
use Rattle.file.specs.Sizes.{Below, Saying}
use Rattle.file.specs.Maps.{map_of}
use Rattle.checking.specs.declared.Checked.{Checked}
use Rattle.model.specs.declared.Cause.{Cause}

-- The file is sound; its slots are read, in range order and as a map; its strings are not too many.
pub record Ready (c : Checked) (xs : List ℕ) : Type 0 where
  pub said : Saying c.size xs
  pub slots : List Slot
  pub is : read_file xs ≡ some (c.size.layout, slots)
  pub sound : Sound c.size.layout.b slots
  pub slots_inside : Below c.survey.order c.size.slots
  pub count_most : c.survey.count ≤ 64
  pub count_is : c.survey.count ≡ length (order_of slots)
  pub order_is : take c.survey.count c.survey.order ≡ order_of slots
  pub used_is : c.survey.used ≡ map_of slots
  pub few : length (strings_of slots) ≤ 256

-- And the trie agrees with it.
pub record Agreed (c : Checked) (xs : List ℕ) (t : Trie) : Type 0 where
  pub ready : Ready c xs
  pub agrees : Agrees ready.slots t
  pub looked : looked_of xs t ≡ fine c.size.layout ready.slots

-- What the checks found, or why they refuse.
abbrev pub Passed : Result Checked Cause → List ℕ → Trie → Type 0
Passed (Ok c) xs t = Agreed c xs t
Passed (Err cause) xs t = looked_of xs t ≡ refusing cause
