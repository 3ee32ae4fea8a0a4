-- What a remove leaves: its answer, the file, and the image in place of the trie.
use Rattle.std.specs.Prelude.{cond, List, ℕ, ltb}
use Rattle.model.specs.Results.{NotHeld, RemoveAnswer, RemoveRefused, RemoveStopped, Removed}
use Rattle.model.specs.declared.Trie.{Trie}
use Rattle.model.specs.Calls.{RemoveDone}
use Rattle.image.specs.Images.{image_of}

-- Two stores are a merge, after which the image is that of the rebuilt trie; else every byte of it is left.
abbrev pub image_removed : RemoveAnswer → Trie → List ℕ → List ℕ
image_removed (Removed stores) t image = cond (ltb 1 stores) (image_of t) image
image_removed NotHeld t image = image
image_removed (RemoveStopped n) t image = image
image_removed (RemoveRefused c) t image = image

abbrev pub remove_left : List ℕ → RemoveDone → RemoveAnswer × List ℕ × List ℕ
remove_left image d = (d.answer, d.file, image_removed d.answer d.trie image)
