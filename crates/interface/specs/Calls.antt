-- The eight calls of the C interface as one value, so that a demand can be put to any eight, right or wrong.
use Rattle.std.specs.Prelude.{ℕ, ◌≡◌, List, length}
use Rattle.image.specs.Images.{image_length}
use Rattle.capi.specs.Doors.{pal_check_of, pal_create_of, pal_list_of, pal_look_up_of, pal_put_of, pal_rebuild_of, pal_recover_of, pal_remove_of}

-- Each takes what it is lent and gives its number, then the file, the image or output and the words of `out`, as far as it may
-- change them. The ignored `run` of put is left out.
pub record CCalls : Type 0 where
  pub create : List ℕ → ℕ → ℕ → ℕ → List ℕ → ℕ × List ℕ × List ℕ
  pub check : List ℕ → ℕ
  pub recover : List ℕ → ℕ → List ℕ → ℕ × List ℕ × List ℕ
  pub rebuild : List ℕ → List ℕ → ℕ × List ℕ
  pub look_up : List ℕ → List ℕ → List ℕ → List ℕ → ℕ × List ℕ
  pub put : List ℕ → List ℕ → List ℕ → ℕ → ℕ → ℕ → List ℕ → ℕ × List ℕ × List ℕ × List ℕ
  pub remove : List ℕ → List ℕ → List ℕ → ℕ → List ℕ → ℕ × List ℕ × List ℕ × List ℕ
  pub list : List ℕ → List ℕ → List ℕ → List ℕ → List ℕ → List ℕ → ℕ × List ℕ × List ℕ

-- Ours: what the contracts of `pal_create` to `pal_list` equate with what the code does.
abbrev pub our_c_calls : CCalls
our_c_calls = record {
  create = pal_create_of;
  check = pal_check_of;
  recover = pal_recover_of;
  rebuild = pal_rebuild_of;
  look_up = pal_look_up_of;
  put = pal_put_of;
  remove = pal_remove_of;
  list = pal_list_of;
}

-- A trie image has exactly 1,540 bytes.
abbrev pub IsImage : List ℕ → Type 0
IsImage image = length image ≡ image_length

-- `out` has four words.
abbrev pub IsOut : List ℕ → Type 0
IsOut out = length out ≡ 4
