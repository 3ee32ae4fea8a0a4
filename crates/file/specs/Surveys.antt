-- What a look at a whole file finds: sound, cut or bad as check says, and of a sound file its range order and its map.
use Rattle.std.specs.Prelude.{Result, Ok, Err, ◌≡◌, ℕ, ◌<◌, ◌≤◌, List, length, take}
use Rattle.std.proofs.Math.Option.{some}
use Rattle.model.specs.Files as files
use Rattle.model.specs.Searches.{order_of}
use Rattle.model.specs.Checks.{Kind, is_bad, is_cut, is_sound}
use Rattle.model.specs.Format.{check_read, laid_out, read_slots}
use Rattle.model.specs.declared.Layout.{Layout}
use Rattle.model.specs.declared.Cause.{Cause}
use Rattle.model.specs.declared.Cause.TheVariants.{BadFile, CutFile}
use Rattle.file.specs.declared.Size.{Size}
use Rattle.file.specs.declared.survey.Fault.{Fault}
use Rattle.file.specs.declared.survey.Fault.TheVariants.{Bad, Cut}
use Rattle.file.specs.declared.survey.Survey.{Survey}
use Rattle.file.specs.Sizes.{Below}
use Rattle.file.specs.Maps.{map_of}

-- Check of a file whose header is right, with its layout and slots.
unfoldable pub check_of_slots : Layout → ℕ → List ℕ → Kind
check_of_slots y slots xs = check_read (laid_out y (read_slots y slots 0 xs))

-- Of a sound file: its used slots in range order and as a map.
pub record Sounded (s : Survey) (xs : List ℕ) (size : Size) : Type 0 where
  pub slots_inside : Below s.order size.slots
  pub count_most : s.count ≤ 64
  pub kind_is : is_sound ≡ check_of_slots size.layout size.slots xs
  pub order_is : {fs : List files.Slot} → read_slots size.layout size.slots 0 xs ≡ some fs → files.Sound size.layout.b fs
      → (s.count ≡ length (order_of fs)) × (take s.count s.order ≡ order_of fs)
  pub used_is : {fs : List files.Slot} → read_slots size.layout size.slots 0 xs ≡ some fs → files.Sound size.layout.b fs → s.used ≡ map_of fs

-- Of one that is not: check's word, with the slot to free of a cut one.
abbrev pub Faulty : Fault → List ℕ → Size → Type 0
Faulty Bad xs size = is_bad ≡ check_of_slots size.layout size.slots xs
Faulty (Cut N) xs size = (N < size.slots) × (is_cut N ≡ check_of_slots size.layout size.slots xs)

abbrev pub Surveyed : Result Survey Fault → List ℕ → Size → Type 0
Surveyed (Ok s) xs size = Sounded s xs size
Surveyed (Err f) xs size = Faulty f xs size

-- The code's word for check's.
abbrev pub verdict : Result Survey Fault → Kind
verdict (Ok s) = is_sound
verdict (Err Bad) = is_bad
verdict (Err (Cut N)) = is_cut N

-- Why a call refuses a file that is not sound.
abbrev pub cause_of : Fault → Cause
cause_of Bad = BadFile
cause_of (Cut N) = CutFile
