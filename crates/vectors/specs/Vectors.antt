-- Cases of the definitions, each with what is expected, and one test that computes whether a case holds.
use Rattle.std.specs.Prelude.{Bool, ◌&&◌, false, true, List, [], ◌++◌, ◌∷◌, ◌-◌, suc, ℕ, eqb, length, replicate}
use Rattle.std.proofs.Math.Option.{Option, none as nothing, some}
use Prim.Native.Char.{code}
use Prim.Native.String.{String}
use Prim.Native.String as S
use Rattle.model.specs.declared.Layout.{Layout}
use Rattle.model.specs.declared.Cell.{Cell}
use Rattle.model.specs.declared.Side.{Side}
use Rattle.model.specs.declared.Trie.{Trie}
use Rattle.model.specs.Order.{Str}
use Rattle.model.specs.Tests.{is_at_most, is_legal_name, same_str}
use Rattle.model.specs.Names.{filled, split_beginning, within}
use Rattle.model.specs.Files.{Slot}
use Rattle.model.specs.Searches.{order_of, strings_of}
use Rattle.model.specs.Tries.{zero_cell}
use Rattle.model.specs.Agreeing.{is_agreeing, same_side, same_strs}
use Rattle.model.specs.Format.{check_file, read_file}
use Rattle.model.specs.Sayings.{Saying, said_by_check, said_by_create, said_by_list, said_by_look_up, said_by_put, said_by_rebuild, said_by_recover, said_by_remove}
use Rattle.model.specs.Calls.{create_of, list_of, look_up_of, put_of, rebuild_of, recover_of, remove_of}

-- Bytes, written in parts: a text, so many zeros, so many blanks, or one byte.
pub data Part : Type 0 where
  text : String → Part
  zeros blanks byte : ℕ → Part

abbrev pub Parts : Type 0
Parts = List Part

unfoldable pub codes : String → List ℕ
codes S.[] = []
codes (S.◌∷◌ c cs) = code c ∷ codes cs

unfoldable pub bytes_of_part : Part → List ℕ
bytes_of_part (text t) = codes t
bytes_of_part (zeros n) = replicate n 0
bytes_of_part (blanks n) = replicate n 0x20
bytes_of_part (byte x) = x ∷ []

unfoldable pub bytes : Parts → List ℕ
bytes [] = []
bytes (p ∷ ps) = bytes_of_part p ++ bytes ps

unfoldable pub all_bytes : List Parts → List (List ℕ)
all_bytes [] = []
all_bytes (p ∷ ps) = bytes p ∷ all_bytes ps

-- A cell, and a trie of these first cells, whose other cells are zero.
abbrev pub cell : ℕ → ℕ → Side → Side → Cell
cell d i l r = record { digit = d; number = i; left = l; right = r }

abbrev pub trie : ℕ → ℕ → List Cell → Trie
trie count first cs =
    record { cells = cs ++ replicate (256 - length cs) zero_cell; count = count; first = first }

-- One case: the input, then the answer's number and values, then the bytes and the trie after it.
pub data Case : Type 0 where
  -- A name is legal, or not.
  legal : (name : Parts) → Bool → Case
  -- A name is within a bound, or not.
  inside : (name bound : Parts) → Bool → Case
  -- A bound is not above another, or is.
  ordered : (bound other : Parts) → Bool → Case
  -- The split string of the split key and the last name.
  splits : (key last string : Parts) → Case
  -- A sound file's slots in range order, and its strings, ascending.
  arranged : (file : Parts) (order : List ℕ) (strings : List Parts) → Case
  -- A trie agrees with a sound file, or not.
  agrees : (file : Parts) (t : Trie) → Bool → Case
  -- The eight calls.
  checks : (file : Parts) → Saying → Case
  creates : (file : Parts) (version b slots : ℕ) → Saying → (after : Parts) → Trie → Case
  recovers : (file : Parts) (limit : ℕ) → Saying → (after : Parts) → Case
  rebuilds : (file : Parts) → Saying → Trie → Case
  looks_up : (file : Parts) (t : Trie) (name : Parts) → Saying → Case
  puts : (file : Parts) (t : Trie) (name : Parts) (value run limit : ℕ) → Saying → (after : Parts) → Trie → Case
  removes : (file : Parts) (t : Trie) (name : Parts) (limit : ℕ) → Saying → (after : Parts) → Trie → Case
  lists : (file : Parts) (t : Trie) (low high output : Parts) → Saying → (after : Parts) → Case
  -- Create, then a put of each of these names, with the values 1, 2 and so on and the run 0.
  grows : (file : Parts) (b slots : ℕ) (names : List Parts) (after : Parts) → Trie → Case

unfoldable pub same_bool : Bool → Bool → Bool
same_bool true b = b
same_bool false true = false
same_bool false false = true

unfoldable pub same_said : Saying → Saying → Bool
same_said s r = eqb s.0 r.0 && same_str s.1 r.1

unfoldable pub are_same_cells : List Cell → List Cell → Bool
are_same_cells [] [] = true
are_same_cells [] (d ∷ ds) = false
are_same_cells (c ∷ cs) [] = false
are_same_cells (c ∷ cs) (d ∷ ds) =
    eqb c.digit d.digit && eqb c.number d.number && same_side c.left d.left
    && same_side c.right d.right && are_same_cells cs ds

unfoldable pub same_trie : Trie → Trie → Bool
same_trie t u = eqb t.count u.count && eqb t.first u.first && are_same_cells t.cells u.cells

unfoldable pub is_arranged : List ℕ → List Str → Option (Layout × List Slot) → Bool
is_arranged order xs nothing = false
is_arranged order xs (some f) = same_str (order_of f.1) order && same_strs (strings_of f.1) xs

unfoldable pub agrees_with : Trie → Option (Layout × List Slot) → Bool
agrees_with t nothing = false
agrees_with t (some f) = is_agreeing f.1 t

-- Puts one after the other, the values counted from i on.
unfoldable pub put_all : ℕ → List Parts → List ℕ → Trie → List ℕ × Trie
put_all i [] xs t = (xs, t)
put_all i (n ∷ ns) xs t = let d = put_of xs t (bytes n) i 0 2 in put_all (suc i) ns d.file d.trie

-- The test.
unfoldable pub holds : Case → Bool
holds (legal n r) = same_bool (is_legal_name (bytes n)) r
holds (inside n p r) = same_bool (within (filled (bytes n)) (bytes p)) r
holds (ordered p q r) = same_bool (is_at_most (bytes p) (bytes q)) r
holds (splits c z s) = same_str (split_beginning (filled (bytes c)) (filled (bytes z))) (bytes s)
holds (arranged f order xs) = is_arranged order (all_bytes xs) (read_file (bytes f))
holds (agrees f t r) = same_bool (agrees_with t (read_file (bytes f))) r
holds (checks f s) = same_said (said_by_check (check_file (bytes f))) s
holds (creates f v b n s g u) =
    let d = create_of (bytes f) v b n in
    same_said (said_by_create d.answer) s && same_str d.file (bytes g) && same_trie d.trie u
holds (recovers f j s g) =
    let d = recover_of (bytes f) j in
    same_said (said_by_recover d.answer) s && same_str d.file (bytes g)
holds (rebuilds f s u) =
    let d = rebuild_of (bytes f) in
    same_said (said_by_rebuild d.answer) s && same_trie d.trie u
holds (looks_up f t n s) = same_said (said_by_look_up (look_up_of (bytes f) t (bytes n))) s
holds (puts f t n v r j s g u) =
    let d = put_of (bytes f) t (bytes n) v r j in
    same_said (said_by_put d.answer) s && same_str d.file (bytes g) && same_trie d.trie u
holds (removes f t n j s g u) =
    let d = remove_of (bytes f) t (bytes n) j in
    same_said (said_by_remove d.answer) s && same_str d.file (bytes g) && same_trie d.trie u
holds (lists f t m n o s g) =
    let d = list_of (bytes f) t (bytes m) (bytes n) (bytes o) in
    same_said (said_by_list d.answer) s && same_str d.output (bytes g)
holds (grows f b n ws g u) =
    let c = create_of (bytes f) 1 b n in
    let d = put_all 1 ws c.file c.trie in
    same_str d.0 (bytes g) && same_trie d.1 u

unfoldable pub cases_hold : List Case → Bool
cases_hold [] = true
cases_hold (c ∷ cs) = holds c && cases_hold cs
