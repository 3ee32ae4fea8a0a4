-- The place of a name in a row, and the entries from one name to another.
use Rattle.model.proofs.Prelude.{Bool, List, Option, [], ◌++◌, ◌+◌, ◌-◌, ◌<◌, ◌||◌, ◌∙◌, ◌∷◌, ◌≡◌, ◌≤◌, and-false, ap, ap₂, arith, clash, cond, drop, false, get_or, length, ltb, not, nothing, refl, some, suc, sym, take, true, ℕ}
use mathlib.Core.Bool.{or-true}
use Rattle.model.specs.Calls.{between}
use Rattle.model.specs.Entries.{Entry, Row, entry, find, name_at, no_entries}
use Rattle.model.specs.Names.{Legal}
use Rattle.model.specs.Order.{Low, Str, ◌⊑◌, ◌◁◌, at, at as after}
use Rattle.model.specs.Tests.{is_at_most}
use Rattle.model.proofs.Deciding.{le?, over, str?}
use Rattle.model.proofs.Entries.{at_find}
use Rattle.model.proofs.Order.{le_refl, le_trans, low_at, low_lower, lt_le}
use Rattle.model.proofs.Tests.{equal_same_str, le_is_at_most, lt_is_at_most, same_str_other}
use Rattle.digits.proofs.Bounds.{names_over}
use Rattle.digits.specs.Keys.{value}
use Rattle.entries.specs.Rows.{is_not_above, place, last_of}

-- The numbers of the names.
abbrev pub numbers : List Entry → List ℕ
numbers [] = []
numbers (e ∷ es) = value e.0 ∷ numbers es

-- A name that is not above a row's lower limit is not held.
pub find_not_over : {l : Low} {u : Str} {es : List Entry} (n : Str) → Row l es u → ¬ (l ◁ n) → find n es ≡ nothing
unfolding find
find_not_over n no_entries h = refl
find_not_over n (entry {e = e} g a b r) h =
    rw (same_str_other n e.0 (λ q. h (rw q a))) (find_not_over n r (λ c. h (low_lower (low_at a) c)))

-- A name above the first of a row is looked for behind it; one that is not, and is held, is the first.
pub find_behind : (n : Str) (e : Entry) (es : List Entry) → ¬ (n ⊑ e.0) → find n es ≡ find n (e ∷ es)
unfolding find
find_behind n e es q = sym (rw (same_str_other n e.0 (λ p. q (rw (← p) (le_refl n)))))

pub find_first : {u : Str} (n : Str) (e : Entry) {es : List Entry} {w : ℕ} → Row (after e.0) es u → n ⊑ e.0 → find n (e ∷ es) ≡ some w → n ≡ e.0
unfolding find
find_first n e {w = w} r q h = elim (str? n e.0) [
  | yes p ↦ p
  | no p ↦ let z : ◌≡◌ {A = Option ℕ} nothing (some w) = sym (find_not_over n r (λ c. over c q)) ∙ (rw (same_str_other n e.0 p) at h) in
      clash cc
]

-- The place of a name.
pub place_most : (n : Str) (es : List Entry) → place n es ≤ length es
unfolding place
place_most n [] = omega arith
place_most n (e ∷ es) = elim (le? n e.0) [
  | yes p ↦ rw (le_is_at_most n e.0 p) (omega arith)
  | no p ↦ rw (lt_is_at_most n e.0 p) (omega (arith, place_most n es))
]

-- The place in two rows, one after the other.
pub place_left : (n : Str) (es gs : List Entry) {w : ℕ} → find n es ≡ some w → place n (es ++ gs) ≡ place n es
unfolding place find
place_left n [] gs h = clash cc
place_left n (e ∷ es) gs h = elim (le? n e.0) [
  | yes p ↦ rw (le_is_at_most n e.0 p)
  | no p ↦ rw (lt_is_at_most n e.0 p, place_left n es gs (find_behind n e es p ∙ h))
]

pub place_right : {l : Low} {s : Str} {es : List Entry} (n : Str) (gs : List Entry) → Row l es s → ¬ (n ⊑ s) → place n (es ++ gs) ≡ length es + place n gs
unfolding place
place_right n gs no_entries h = omega arith
place_right n gs (entry {e = e} {es = es} g a b r) h =
    rw (lt_is_at_most n e.0 (λ p. h (le_trans p b))) (omega (arith, place_right n gs r h))

-- A name that is held stands at its place, and one that is not held does not.
pub place_found : {l : Low} {u : Str} {es : List Entry} (n : Str) (w : ℕ) → Row l es u → find n es ≡ some w
    → (place n es < length es) × (get_or es (place n es) ([], 0) ≡ (n, w))
unfolding place find
place_found n w no_entries h = clash cc
place_found n w (entry {e = e} {es = es} g a c r) h = elim (le? n e.0) [
  | no q ↦ let i = place_found n w r (find_behind n e es q ∙ h) in
      rw (lt_is_at_most n e.0 q) (omega (arith, i.0), i.1)
  | yes q ↦ let p : n ≡ e.0 = find_first n e r q h in
      let s : ◌≡◌ {A = Option ℕ} (some e.1) (some w) = rw (equal_same_str n e.0 p) at h in
      let k : e.1 ≡ w = cc in
      rw (le_is_at_most n e.0 q) (omega arith, ap₂ (λ (x : Str) (y : ℕ). (x, y)) (sym p) k)
]

pub place_lost : (n : Str) (es : List Entry) → find n es ≡ nothing → (i : ℕ) → i < length es → ¬ (name_at es i ≡ n)
place_lost n es h i k q =
    let f = at_find es i k in
    let z : ◌≡◌ {A = Option ℕ} nothing (some f.0) = sym h ∙ ap (λ (x : Str). find x es) (sym q) ∙ f.1 in
    clash cc

-- The entries from one name to another stand together.
between_none : {u x : Str} {es : List Entry} (n m : Str) → Row (at x) es u → ¬ (x ⊑ m) → between n m es ≡ []
unfolding between
between_none n m no_entries h = refl
between_none n m (entry {e = e} g a c r) h =
    let k : ¬ (e.0 ⊑ m) = λ p. h (le_trans (lt_le (over a)) p) in
    rw (lt_is_at_most e.0 m k, and-false (is_at_most n e.0)) (between_none n m r k)

pub place_first : {u x : Str} {es : List Entry} (n : Str) → Row (at x) es u → n ⊑ x → place n es ≡ 0
unfolding place
place_first n no_entries h = refl
place_first n (entry {e = e} g a c r) h = rw (le_is_at_most n e.0 (le_trans h (lt_le (over a))))

pub is_not_above_most : (w : ℕ) (es : List Entry) → is_not_above w (numbers es) ≤ length es
unfolding last_of
is_not_above_most w [] = omega arith
is_not_above_most w (e ∷ es) = go (ltb 0 (is_not_above w (numbers es)) || not (ltb w (value e.0))) (is_not_above_most w es)
  where
    go : (t : Bool) → is_not_above w (numbers es) ≤ length es → cond t (suc (is_not_above w (numbers es))) 0 ≤ suc (length es)
    go true h = omega arith
    go false h = omega arith

-- Behind a name that is above m all are.
all_above : {u x : Str} {es : List Entry} (m : Str) → Legal m → Row (at x) es u → ¬ (x ⊑ m) → is_not_above (value m) (numbers es) ≡ 0
unfolding last_of
all_above m g no_entries h = refl
all_above m g (entry {e = e} k a c r) h =
    let i : ¬ (e.0 ⊑ m) = λ p. h (le_trans (lt_le (over a)) p) in
    let t : ltb (value m) (value e.0) ≡ true = names_over m e.0 g k ∙ ap not (lt_is_at_most e.0 m i) in
    rw (all_above m g r i, t)

take_none : (k : ℕ) (es : List Entry) → take (0 - k) es ≡ []
take_none k es = let z : 0 - k ≡ 0 = omega arith in rw z

pub between_part : {l : Low} {u : Str} {es : List Entry} (n m : Str) → Row l es u → Legal n → Legal m
    → take (is_not_above (value m) (numbers es) - place n es) (drop (place n es) es) ≡ between n m es
unfolding last_of place between
between_part n m no_entries f g = refl
between_part n m (entry {e = e} {es = es} k a c r) f g = elim (le? e.0 m) [
  | no p ↦ let t : ltb (value m) (value e.0) ≡ true = names_over m e.0 g k ∙ ap not (lt_is_at_most e.0 m p) in
      rw (all_above m g r p, t, lt_is_at_most e.0 m p, and-false (is_at_most n e.0)) (take_none (place n (e ∷ es)) (drop (place n (e ∷ es)) (e ∷ es)) ∙ sym (between_none n m r p))
  | yes p ↦ let t : ltb (value m) (value e.0) ≡ false = names_over m e.0 g k ∙ ap not (le_is_at_most e.0 m p) in
      let j = is_not_above (value m) (numbers es) in
      let i : take (j - place n es) (drop (place n es) es) ≡ between n m es = between_part n m r f g in
      elim (le? n e.0) [
        | yes q ↦ let z : j - place n es ≡ j = omega (arith, place_first n r q) in
            let w : suc j - 0 ≡ suc j = omega arith in
            let y : take j es ≡ between n m es = ap₂ (λ (x y : ℕ). take x (drop y es)) (sym z) (sym (place_first n r q)) ∙ i in
            rw (t, or-true (ltb 0 j), le_is_at_most n e.0 q, le_is_at_most e.0 m p, w) (ap (λ (x : List Entry). e ∷ x) y)
        | no q ↦ let z : suc j - suc (place n es) ≡ j - place n es = omega arith in
            rw (t, or-true (ltb 0 j), lt_is_at_most n e.0 q, z) i
      ]
]
