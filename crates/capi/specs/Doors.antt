-- The eight calls of the C interface: for every input the answer's number and all bytes and words lent.
use Rattle.std.specs.Prelude.{cond, List, ℕ, eqb, length}
use Rattle.std.proofs.lemmas.List.Edits.{sets}
use Rattle.model.specs.Calls.{create_of, list_of, look_up_of, put_of, rebuild_of, recover_of, remove_of}
use Rattle.model.specs.Format.{check_file}
use Rattle.model.specs.Sayings.{Saying, said_by_check, said_by_create, said_by_list, said_by_look_up, said_by_put, said_by_rebuild, said_by_recover, said_by_remove}
use Rattle.image.specs.Images.{image_length, image_of, trie_from}
use Rattle.putting.specs.Outcomes.{image_after}
use Rattle.removing.specs.Outcomes.{image_removed}

-- An image that is not exactly 1,540 bytes long is a malformed call, which comes before every refusal and changes
-- nothing: then the second, else the first.
abbrev pub whole : {A : Type 0} → List ℕ → A → A → A
whole image a b = cond (eqb (length image) image_length) a b

abbrev pub malformed : ℕ
malformed = 255

-- The words of `out` that an answer does not name stay as they were.
abbrev pub out_after : Saying → List ℕ → List ℕ
out_after s out = sets out 0 s.1

-- The number, the file, the image.
unfoldable pub pal_create_of : List ℕ → ℕ → ℕ → ℕ → List ℕ → ℕ × List ℕ × List ℕ
pal_create_of file version b slots image =
    let o = create_of file version b slots in
    whole image ((said_by_create o.answer).0, o.file, image_of o.trie) (malformed, file, image)

-- The number.
unfoldable pub pal_check_of : List ℕ → ℕ
pal_check_of file = (said_by_check (check_file file)).0

-- The number, the file, `out`.
unfoldable pub pal_recover_of : List ℕ → ℕ → List ℕ → ℕ × List ℕ × List ℕ
pal_recover_of file limit out =
    let o = recover_of file limit in
    let s = said_by_recover o.answer in
    (s.0, o.file, out_after s out)

-- The number, the image.
unfoldable pub pal_rebuild_of : List ℕ → List ℕ → ℕ × List ℕ
pal_rebuild_of file image =
    let o = rebuild_of file in
    whole image ((said_by_rebuild o.answer).0, image_of o.trie) (malformed, image)

-- The number, `out`.
unfoldable pub pal_look_up_of : List ℕ → List ℕ → List ℕ → List ℕ → ℕ × List ℕ
pal_look_up_of file image name out =
    let s = said_by_look_up (look_up_of file (trie_from image) name) in
    whole image (s.0, out_after s out) (malformed, out)

-- The number, the file, the image, `out`.
unfoldable pub pal_put_of : List ℕ → List ℕ → List ℕ → ℕ → ℕ → ℕ → List ℕ → ℕ × List ℕ × List ℕ × List ℕ
pal_put_of file image name value run limit out =
    let o = put_of file (trie_from image) name value run limit in
    let s = said_by_put o.answer in
    whole image (s.0, o.file, image_after o.answer o.trie image, out_after s out) (malformed, file, image, out)

-- The number, the file, the image, `out`.
unfoldable pub pal_remove_of : List ℕ → List ℕ → List ℕ → ℕ → List ℕ → ℕ × List ℕ × List ℕ × List ℕ
pal_remove_of file image name limit out =
    let o = remove_of file (trie_from image) name limit in
    let s = said_by_remove o.answer in
    whole image (s.0, o.file, image_removed o.answer o.trie image, out_after s out) (malformed, file, image, out)

-- The number, the output, `out`.
unfoldable pub pal_list_of : List ℕ → List ℕ → List ℕ → List ℕ → List ℕ → List ℕ → ℕ × List ℕ × List ℕ
pal_list_of file image first second output out =
    let o = list_of file (trie_from image) first second output in
    let s = said_by_list o.answer in
    whole image (s.0, o.output, out_after s out) (malformed, output, out)
