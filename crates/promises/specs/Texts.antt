-- A text as its bytes, and the name that it spells.
use Rattle.std.specs.Prelude.{List, [], ◌∷◌, ℕ}
use Prim.Native.Char.{code}
use Prim.Native.String.{String}
use Prim.Native.String as S
use Rattle.model.specs.Order.{Str}
use Rattle.model.specs.Names.{filled}

unfoldable pub bytes : String → List ℕ
bytes S.[] = []
bytes (S.◌∷◌ c cs) = code c ∷ bytes cs

abbrev pub name : String → Str
name w = filled (bytes w)
