-- A trie's strings are determined by a number and a digit a cell, in order, if no number in the right part of a cell is
-- smaller than the cell's own: so a pass that compares these two alone decides which strings a trie has.
use Rattle.model.proofs.Prelude.{List, Memᴰ, mem_head, mem_append_left, mem_append_right, [], ◌++◌, ◌<◌, ◌∙◌, ◌∷◌, ◌≡◌, ◌≤◌, ap, arith, dec_lt, length, length-take-le, refl, sym, take, take_all, take-append-le, take-take, ℕ}
use Rattle.model.specs.Order.{Low, Str, ◌≺◌, ◌⊑◌, ◌◁◌, at}
use Rattle.model.specs.Tries.{NumbersFit, Tree, cell, leaf, node, strings}
use Rattle.model.proofs.Deciding.{over}
use Rattle.model.proofs.Order.{le_take, le_trans, lt_le, sandwich}
use Rattle.model.proofs.Tries.{Spans, cell_length, cut, inside, tip}

-- A number and a digit a cell, left to right.
abbrev pub shapes : Tree → List (ℕ × ℕ)
shapes (leaf s) = []
shapes (node d i L R) = shapes L ++ ((i, d) ∷ shapes R)

-- No number is below f, and in the right part of a cell none is below the cell's own.
abbrev pub Floors : ℕ → Tree → Type 0
Floors f (leaf s) = Unit {0}
Floors f (node d i L R) = (f ≤ i) × Floors f L × Floors i R

-- The first string, or what stands behind them all.
abbrev pub head_or : List Str → Str → Str
head_or [] u = u
head_or (x ∷ xs) u = x

-- The strings made of the shapes alone, from the right: each takes its first digits from the next.
abbrev pub made : List (ℕ × ℕ) → Str → List Str
made [] u = []
made (s ∷ ss) u = cell s.1 s.0 (head_or (made ss u) u) ∷ made ss u

head_append : (xs : List Str) (q : Str) (ys : List Str) (u : Str) → head_or (xs ++ (q ∷ ys)) u ≡ head_or xs q
head_append [] q ys u = refl
head_append (x ∷ xs) q ys u = refl

made_append : (ss rs : List (ℕ × ℕ)) (u : Str) → made (ss ++ rs) u ≡ made ss (head_or (made rs u) u) ++ made rs u
made_append [] rs u = refl
made_append (s ∷ ss) rs u =
    rw (made_append ss rs u) (ap (λ (x : Str). cell s.1 s.0 x ∷ (made ss (head_or (made rs u) u) ++ made rs u)) (behind (made ss (head_or (made rs u) u))))
  where
    behind : (xs : List Str) → head_or (xs ++ made rs u) u ≡ head_or xs (head_or (made rs u) u)
    behind [] = refl
    behind (x ∷ xs) = refl

take_cell : (k d i : ℕ) (u : Str) → k ≤ i → i ≤ length u → take k (cell d i u) ≡ take k u
take_cell k d i u h g =
    take-append-le k (take i u) (d ∷ []) (omega (arith, length-take-le i u g)) ∙ take-take k i u h

-- With a floor, the first string begins as the path does.
pub floor_begins : (f : ℕ) (u : Str) (t : Tree) → NumbersFit u t → Floors f t → take f (head_or (strings u t) u) ≡ take f u
floor_begins f u (leaf s) n h = refl
floor_begins f u (node d i L R) n h =
    ap (take f) (head_append (strings (cell d i u) L) (cell d i u) (strings u R) u)
    ∙ floor_begins f (cell d i u) L n.1 h.1 ∙ take_cell f d i u h.0 n.0

-- The strings of a trie with a floor are those made of its shapes.
pub strings_made : (f : ℕ) (u : Str) (t : Tree) → NumbersFit u t → Floors f t → strings u t ≡ made (shapes t) u
strings_made f u (leaf s) n h = refl
strings_made f u (node d i L R) n h =
    let q : Str = cell d i u in
    let right : strings u R ≡ made (shapes R) u = strings_made i u R n.2 h.2 in
    let begin : take i (head_or (made (shapes R) u) u) ≡ take i u = rw (← right) (floor_begins i u R n.2 h.2) in
    let here : cell d i (head_or (made (shapes R) u) u) ≡ q = ap (λ (x : Str). x ++ (d ∷ [])) begin in
    let left : strings q L ≡ made (shapes L) q = strings_made f q L n.1 h.1 in
    rw (made_append (shapes L) ((i, d) ∷ shapes R) u, here, ← left, ← right)

-- Two tries with floors and the same shapes have the same strings.
pub same_shapes : (f : ℕ) (u : Str) (t r : Tree) → NumbersFit u t → Floors f t → NumbersFit u r → Floors f r → shapes t ≡ shapes r → strings u t ≡ strings u r
same_shapes f u t r n h m k e =
    strings_made f u t n h ∙ ap (λ (ss : List (ℕ × ℕ)). made ss u) e ∙ sym (strings_made f u r m k)

-- Between a cell's string and the path all strings are longer than the cell's number.
long : (d i : ℕ) (u x : Str) → i ≤ length u → at (cell d i u) ◁ x → x ≺ u → i < length x
long d i u x hi lo up =
    let q : Str = cell d i u in
    let begin : take i q ≡ take i u = take_cell i d i u (omega arith) hi in
    let under : x ⊑ take i q = rw begin (le_trans (lt_le up) (le_take i u)) in
    let s = sandwich i q (lt_le (over lo)) under (omega (arith, cell_length d i u hi)) in
    elim (dec_lt i (length x)) [
      | yes h ↦ h
      | no h ↦
          let whole : x ≡ take i u = sym (take_all i x (omega (arith, s.1))) ∙ s.0 ∙ begin in
          absurd (up (rw whole (le_take i u)))
    ]

-- A trie of an interval has floors.
pub spans_floors : {P : Low → Str → ℕ → Type 0} {l : Low} {u : Str} {t : Tree} {ss : List Str} → Spans P l u t ss → (f : ℕ)
    → ((x : Str) → Memᴰ x ss → f < length x) → Floors f t
spans_floors (tip h) f g = tt
spans_floors (cut {u = u} {d = d} {i = i} {xs = xs} {ys = ys} hi lo up L R) f g =
    let q : Str = cell d i u in
    let here : f < length q = g q (mem_append_right xs (mem_head refl)) in (
      omega (arith, here, cell_length d i u hi),
      spans_floors L f (λ x m. g x (mem_append_left (q ∷ ys) m)),
      spans_floors R i (λ x m. long d i u x hi (inside R x m).0 (inside R x m).1),
    )
