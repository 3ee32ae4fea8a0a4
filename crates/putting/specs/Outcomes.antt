-- What a put leaves: its answer, the file, and the image in place of the trie.
use Rattle.std.specs.Prelude.{List, ℕ}
use Rattle.model.specs.Results.{Added, PutAnswer, PutRefused, PutStopped, ReplacedContent}
use Rattle.model.specs.declared.Trie.{Trie}
use Rattle.model.specs.Calls.{PutDone}
use Rattle.image.specs.Images.{image_of}

-- A refused or stopped call leaves every byte of the image; a replaced value leaves the trie.
abbrev pub image_after : PutAnswer → Trie → List ℕ → List ℕ
image_after Added t image = image_of t
image_after (ReplacedContent c) t image = image
image_after (PutStopped n) t image = image
image_after (PutRefused c) t image = image

abbrev pub put_left : List ℕ → PutDone → PutAnswer × List ℕ × List ℕ
put_left image d = (d.answer, d.file, image_after d.answer d.trie image)
