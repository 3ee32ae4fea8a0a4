-- The order and the strings of a sound file, by its survey.
use Rattle.std.specs.Prelude.{Option as Maybe}
use Rattle.model.proofs.Prelude.{List, ◌≡◌, length, take, ℕ}
use Rattle.model.specs.Order.{none}
use Rattle.model.specs.Searches.{order_of, strings_of}
use Rattle.model.specs.Agreeing.{slots_between}
use Rattle.file.specs.declared.Size.{Size}
use Rattle.file.specs.declared.survey.Survey.{Survey}
use Rattle.file.specs.Surveys.{Sounded}
use Rattle.trie.specs.declared.Strings.{Strings}
use Rattle.trie.specs.Strung.{Strung}
use Rattle.strings.specs.Arrays.{Listed}
use Rattle.file.proofs.Surveying.{Read}

module _ {xs : List ℕ} {s : Size} {v : Survey} (R : Read s xs) (z : Sounded v xs s) where
  pub counted : (v.count ≡ length (order_of R.slots)) × (take v.count v.order ≡ order_of R.slots)
  counted = z.order_is R.listed R.sound

  pub strung : {g : Maybe Strings} → Listed g xs s v.order v.count → Strung g (strings_of R.slots) (slots_between R.slots none (strings_of R.slots))
  strung l = l.strung R.slots R.listed R.sound counted.0 counted.1
