-- The entries of one bucket: find, insert, keep.
use Rattle.std.specs.Prelude.{Bool, cond, false, not, List, [], ◌∷◌, ◌%◌, ◌*◌, ◌+◌, ◌/◌, ◌^◌, ℕ, ltb, get_or}
use Rattle.std.proofs.Math.Option.{Option, none as nothing, some}
use Rattle.model.specs.Order.{Low, Str, ◌⊑◌, ◌◁◌, at}
use Rattle.model.specs.Tests.{is_at_most, same_str}
use Rattle.model.specs.Names.{Legal}

-- R3.13: an entry is the filled name and the content: value and run as one number.
abbrev pub Entry : Type 0
Entry = Str × ℕ

unfoldable pub content_from : ℕ → ℕ → ℕ
content_from v r = v + 2 ^ 64 * r

unfoldable pub value_of_content : ℕ → ℕ
value_of_content c = c % 2 ^ 64

unfoldable pub run_of_content : ℕ → ℕ
run_of_content c = c / 2 ^ 64

-- R10.14: what is held has a higher run than the one that is to write.
unfoldable pub is_older : ℕ → Option ℕ → Bool
is_older r nothing = false
is_older r (some w) = ltb r (run_of_content w)

abbrev pub name_at : List Entry → ℕ → Str
name_at es i = (get_or es i ([], 0)).0

-- R11.11: the content, or none.
unfoldable pub find : Str → List Entry → Option ℕ
find n [] = nothing
find n (e ∷ es) = cond (same_str n e.0) (some e.1) (find n es)

-- R7.2: a new name in its place; R7.9: a new content for a name that is held.
unfoldable pub insert : Str → ℕ → List Entry → List Entry
insert n v [] = (n, v) ∷ []
insert n v (e ∷ es) =
    cond (is_at_most n e.0) (cond (same_str n e.0) ((n, v) ∷ es) ((n, v) ∷ e ∷ es)) (e ∷ insert n v es)

-- Those whose names pass a test.
unfoldable pub keep : (Str → Bool) → List Entry → List Entry
keep t [] = []
keep t (e ∷ es) = let r = keep t es in cond (t e.0) (e ∷ r) r

-- What a removal leaves.
abbrev pub without : Str → List Entry → List Entry
without n es = keep (λ k. not (same_str k n)) es

-- R7.5: names within s stay, the others move.
abbrev pub stay : Str → List Entry → List Entry
stay s es = keep (λ k. is_at_most k s) es

abbrev pub move : Str → List Entry → List Entry
move s es = keep (λ k. not (is_at_most k s)) es

-- R3.13 to R3.16: legal names, ascending, each above l and within u.
pub data Row : Low → List Entry → Str → Type 0 where
  no_entries : {l : Low} {u : Str} → Row l [] u
  entry : {l : Low} {u : Str} {e : Entry} {es : List Entry}
      → Legal e.0 → l ◁ e.0 → e.0 ⊑ u → Row (at e.0) es u → Row l (e ∷ es) u
