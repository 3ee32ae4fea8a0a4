-- A call's outcome put together from what the code gives: the answer, and the bytes lent as they are left.
use Rattle.std.specs.Prelude.{Err, Ok, Result, ◌≡◌, List, ℕ}
use Rattle.model.specs.Results.{Given, RecoverAnswer, TrieAnswer, TrieRefused}
use Rattle.model.specs.Calls.{CreateDone, RecoverDone, new_trie, rebuild_of}
use Rattle.model.specs.Checks.{Kind, is_bad, is_cut, is_sound}
use Rattle.file.specs.declared.survey.Fault.{Fault}
use Rattle.file.specs.declared.survey.Fault.TheVariants.{Bad, Cut}
use Rattle.image.specs.Images.{image_of}

-- The answer, the file, and the image of the trie.
abbrev pub Creates : TrieAnswer → List ℕ → List ℕ → CreateDone → Type 0
Creates r file image o = (r ≡ o.answer) × (file ≡ o.file) × (image ≡ image_of o.trie)

-- R9.2: sound, cut or bad.
abbrev pub found : Kind → Result (Unit {0}) Fault
found is_sound = Ok tt
found (is_cut N) = Err (Cut N)
found is_bad = Err Bad

abbrev pub recovered : RecoverAnswer → List ℕ → RecoverDone
recovered r xs = record { answer = r; file = xs }

-- The answer, and the image of the trie.
abbrev pub Rebuilds : TrieAnswer → List ℕ → List ℕ → Type 0
Rebuilds r image xs = (r ≡ (rebuild_of xs).answer) × (image ≡ image_of (rebuild_of xs).trie)

-- The image at the end: as it was left, or, after a refusal, that of the trie without cells.
abbrev pub left_by : TrieAnswer → List ℕ → List ℕ
left_by Given image = image
left_by (TrieRefused cause) image = image_of new_trie
