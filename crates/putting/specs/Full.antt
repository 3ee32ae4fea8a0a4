-- A new name whose bucket is full: its split, and what that leaves.
use Rattle.std.specs.Prelude.{◌≡◌, List, ℕ, length, take}
use Rattle.std.proofs.Math.Option.{none as nothing, some}
use Rattle.model.specs.declared.Layout.{Layout}
use Rattle.model.specs.Results.{PutAnswer}
use Rattle.model.specs.declared.Trie.{Trie}
use Rattle.model.specs.Order.{Low, Str}
use Rattle.model.specs.Names.{Legal}
use Rattle.model.specs.Entries.{Entry, find, insert}
use Rattle.model.specs.Files.{Slot, Sound}
use Rattle.model.specs.Changes.{call, halves, put as asked}
use Rattle.model.specs.Calls.{put_by_stores}
use Rattle.model.specs.Format.{read_file}
use Rattle.model.specs.Places.{place_of}
use Rattle.model.specs.Searches.{strings_of}
use Rattle.trie.specs.Places.{Placed}
use Rattle.trie.specs.Strung.{lengths}
use Rattle.slots.specs.Spots.{RowOf}
use Rattle.image.specs.Images.{trie_from}
use Rattle.file.specs.declared.Plan.{Plan}
use Rattle.file.specs.declared.Size.{Size}
use Rattle.file.specs.Plans.{Planned}
use Rattle.checking.specs.declared.Checked.{Checked}
use Rattle.checking.specs.Homes.{Home}
use Rattle.splitting.specs.declared.Split.{Split}
use Rattle.splitting.specs.Divides.{Divides}
use Rattle.putting.specs.declared.Standing.{Standing}
use Rattle.putting.specs.Outcomes.{put_left}

-- A new name n, with its content c, whose bucket is full: slot A. The row has the bucket's entries and the new one.
pub record Full (y : Layout) (fs : List Slot) (A : ℕ) (n : Str) (c : ℕ) (l : Low) (u : Str) (es : List Entry) (row : List ℕ) : Type 0 where
  pub legal : Legal n
  pub home : Home A fs n l u es
  pub new : find n es ≡ nothing
  pub counted : length es ≡ y.b
  pub row_is : RowOf y row (insert n c es)

-- R7.8: two stores, first the new slot, N, then A.
abbrev pub DivideTold : Plan → List ℕ → Size → ℕ → ℕ → List ℕ → Split → Type 0
DivideTold r xs size A N row s =
    (fs : List Slot) → read_file xs ≡ some (size.layout, fs) → Sound size.layout.b fs → (n : Str) (c : ℕ) (l : Low) (u : Str) (es : List Entry)
    → Full size.layout fs A n c l u es row → (t : Trie) → Divides s size.layout t (insert n c es)
    → Planned r size.layout (halves size.layout.b (place_of size.layout) N A l u (insert n c es))

-- Where the cells of a trie that agrees stand among the file's strings, and how long these are.
abbrev pub StandingTold : Standing → Checked → List ℕ → Trie → Type 0
StandingTold r checked xs t =
    (fs : List Slot) → read_file xs ≡ some (checked.size.layout, fs)
    → Placed t r.places × (take (length (strings_of fs)) r.lens ≡ lengths (strings_of fs))

-- What the whole split leaves.
abbrev pub SplitTold : PutAnswer × List ℕ × List ℕ → List ℕ → List ℕ → Size → ℕ → List ℕ → ℕ → Type 0
SplitTold o xs image size A row limit =
    (fs : List Slot) → read_file xs ≡ some (size.layout, fs) → (n : Str) (c : ℕ) (l : Low) (u : Str) (es : List Entry)
    → Full size.layout fs A n c l u es row
    → o ≡ put_left image (put_by_stores xs (trie_from image) size.layout fs n c limit (call size.layout.b (place_of size.layout) fs (asked n c)))
