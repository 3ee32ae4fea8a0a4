-- A tree that fits the arrays: its shapes and leaves are the arrays', and a tree with the strings that they hold fits them.
use Rattle.model.proofs.Prelude.{List, get_or_append, [], ◌++◌, ◌+◌, ◌-◌, ◌<◌, ◌∙◌, ◌∷◌, ◌≡◌, ◌≤◌, add-zero, ap, ap₂, arith, get_or, get_or-append-add, get_or_at, get_or-take, length, length-append, length-take-le, refl, suc, sym, take, zero, zero-add, ℕ}
use Rattle.model.specs.Order.{Str, last_digit}
use Rattle.model.specs.Tries.{NumbersFit, Tree, cell, leaf, leaves, node, size, strings}
use Rattle.model.proofs.Shapes.{shapes}
use Rattle.model.proofs.Tries.{cell_length}
use Rattle.trie.specs.declared.Strings.{Strings}
use Rattle.trie.specs.Strung.{Holds}
use Rattle.trie.proofs.Strung.{last_digits_at, lengths_at}
use Rattle.agreement.proofs.Parts.{Fits}

cell_last : (d i : ℕ) (p : Str) → i ≤ length p → last_digit (cell d i p) ≡ d
cell_last d i p h =
    let e : length (cell d i p) - 1 ≡ i = omega (arith, cell_length d i p h) in
    rw e (get_or_at (take i p) d [] 0 i (length-take-le i p h))

size_strings : (p : Str) (t : Tree) → length (strings p t) ≡ size t
size_strings p (leaf x) = refl
size_strings p (node d i L R) =
    length-append (strings (cell d i p) L) (cell d i p ∷ strings p R) ∙ omega (arith, size_strings (cell d i p) L, size_strings p R)

size_leaves : (t : Tree) → length (leaves t) ≡ suc (size t)
size_leaves (leaf x) = refl
size_leaves (node d i L R) = length-append (leaves L) (leaves R) ∙ omega (arith, size_leaves L, size_leaves R)

module _ (s : Strings) where
  -- The numbers and digits of n strings, and n slots, from a place on.
  abbrev shapes_at : ℕ → ℕ → List (ℕ × ℕ)
  shapes_at at zero = []
  shapes_at at (suc n) = (get_or s.lens at 0 - 1, get_or s.digits at 0) ∷ shapes_at (suc at) n

  abbrev slots_at : ℕ → ℕ → List ℕ
  slots_at at zero = []
  slots_at at (suc n) = get_or s.slots at 0 ∷ slots_at (suc at) n

  shapes_append : (n at m : ℕ) → shapes_at at (n + m) ≡ shapes_at at n ++ shapes_at (at + n) m
  shapes_append zero at m = rw (zero-add m, add-zero at)
  shapes_append (suc n) at m =
      let e : suc n + m ≡ suc (n + m) = omega arith in
      let f : at + suc n ≡ suc at + n = omega arith in
      rw (e, f, shapes_append n (suc at) m)

  slots_append : (n at m : ℕ) → slots_at at (n + m) ≡ slots_at at n ++ slots_at (at + n) m
  slots_append zero at m = rw (zero-add m, add-zero at)
  slots_append (suc n) at m =
      let e : suc n + m ≡ suc (n + m) = omega arith in
      let f : at + suc n ≡ suc at + n = omega arith in
      rw (e, f, slots_append n (suc at) m)

  fits_shapes : (at : ℕ) (t : Tree) → Fits s at t → shapes t ≡ shapes_at at (size t)
  fits_shapes at (leaf x) f = refl
  fits_shapes at (node d i L R) f =
      let e : suc (size L + size R) ≡ size L + suc (size R) = omega arith in
      let n : i ≡ get_or s.lens (at + size L) 0 - 1 = omega (arith, f.1) in
      let here : ◌≡◌ {A = ℕ × ℕ} (i, d) (get_or s.lens (at + size L) 0 - 1, get_or s.digits (at + size L) 0) = ap₂ (λ (x y : ℕ). (x, y)) n f.2 in
      rw (fits_shapes at L f.0, fits_shapes (suc (at + size L)) R f.3, here) (sym (ap (shapes_at at) e ∙ shapes_append (size L) at (suc (size R))))

  fits_leaves : (at : ℕ) (t : Tree) → Fits s at t → leaves t ≡ slots_at at (suc (size t))
  fits_leaves at (leaf x) f = ap (λ (y : ℕ). y ∷ []) f
  fits_leaves at (node d i L R) f =
      let e : suc (suc (size L + size R)) ≡ suc (size L) + suc (size R) = omega arith in
      let g : at + suc (size L) ≡ suc (at + size L) = omega arith in
      ap₂ (λ (xs ys : List ℕ). xs ++ ys) (fits_leaves at L f.0) (fits_leaves (suc (at + size L)) R f.3)
      ∙ sym (ap (slots_at at) e ∙ slots_append (suc (size L)) at (suc (size R)) ∙ rw g)

  -- Two trees that fit have the same shapes and leaves.
  module _ (at : ℕ) (t r : Tree) (e : size t ≡ size r) (f : Fits s at t) (g : Fits s at r) where
    pub same_fits : shapes t ≡ shapes r
    same_fits = fits_shapes at t f ∙ ap (shapes_at at) e ∙ sym (fits_shapes at r g)

    pub same_leaves : leaves t ≡ leaves r
    same_leaves = fits_leaves at t f ∙ ap (λ (n : ℕ). slots_at at (suc n)) e ∙ sym (fits_leaves at r g)

  -- The arrays hold this string at a place.
  abbrev HoldsAt : ℕ → Str → Type 0
  HoldsAt k x = (get_or s.lens k 0 ≡ length x) × (get_or s.digits k 0 ≡ last_digit x)

  fits_of : (p : Str) (at : ℕ) (t : Tree) → NumbersFit p t → ((j : ℕ) → j < size t → HoldsAt (at + j) (get_or (strings p t) j []))
      → ((j : ℕ) → j ≤ size t → get_or s.slots (at + j) 0 ≡ get_or (leaves t) j 0) → Fits s at t
  fits_of p at (leaf x) n f g = sym (rw (add-zero at) at (g 0 (omega arith)))
  fits_of p at (node d i L R) n f g =
      (fits_of q at L n.1 left left_leaf, sym (h.0 ∙ cell_length d i p n.0), sym (h.1 ∙ cell_last d i p n.0), fits_of p (suc (at + size L)) R n.2 right right_leaf)
    where
      q : Str
      q = cell d i p

      ls : length (strings q L) ≡ size L
      ls = size_strings q L

      ll : length (leaves L) ≡ suc (size L)
      ll = size_leaves L

      h : HoldsAt (at + size L) q
      h =
          let e : get_or (strings q L ++ (q ∷ strings p R)) (size L) [] ≡ q = get_or_at (strings q L) q (strings p R) [] (size L) ls in
          rw e at (f (size L) (omega arith))

      left : (j : ℕ) → j < size L → HoldsAt (at + j) (get_or (strings q L) j [])
      left j k =
          let e : get_or (strings q L ++ (q ∷ strings p R)) j [] ≡ get_or (strings q L) j [] = get_or_append (strings q L) (q ∷ strings p R) [] j (omega (arith, ls)) in
          rw e at (f j (omega arith))

      left_leaf : (j : ℕ) → j ≤ size L → get_or s.slots (at + j) 0 ≡ get_or (leaves L) j 0
      left_leaf j k = g j (omega arith) ∙ get_or_append (leaves L) (leaves R) 0 j (omega (arith, ll))

      right : (j : ℕ) → j < size R → HoldsAt (suc (at + size L) + j) (get_or (strings p R) j [])
      right j k =
          let m : suc (at + size L) + j ≡ at + (size L + suc j) = omega arith in
          let e : get_or (strings q L ++ (q ∷ strings p R)) (size L + suc j) [] ≡ get_or (strings p R) j [] = rw ls at (get_or-append-add (strings q L) (q ∷ strings p R) (suc j) []) in
          rw (m, ← e) (f (size L + suc j) (omega arith))

      right_leaf : (j : ℕ) → j ≤ size R → get_or s.slots (suc (at + size L) + j) 0 ≡ get_or (leaves R) j 0
      right_leaf j k =
          let m : suc (at + size L) + j ≡ at + (suc (size L) + j) = omega arith in
          let e : get_or (leaves L ++ leaves R) (suc (size L) + j) 0 ≡ get_or (leaves R) j 0 = rw ll at (get_or-append-add (leaves L) (leaves R) j 0) in
          rw m (g (suc (size L) + j) (omega arith) ∙ e)

-- A tree with the strings and leaves that the arrays hold fits them.
pub holds_fits : (s : Strings) (t : Tree) (ss : List Str) (Bs : List ℕ) → Holds s ss Bs → NumbersFit [] t → strings [] t ≡ ss → leaves t ≡ Bs → Fits s 0 t
holds_fits s t ss Bs H n es el = fits_of s [] 0 t n string slot
  where
    count : size t ≡ length ss
    count = sym (size_strings [] t) ∙ ap length es

    string : (j : ℕ) → j < size t → HoldsAt s (0 + j) (get_or (strings [] t) j [])
    string j h =
        let i : j < length ss = omega (arith, count) in
        rw (zero-add j, es) (
          sym (get_or-take (length ss) s.lens j 0 i) ∙ ap (λ (xs : List ℕ). get_or xs j 0) H.lens_are ∙ lengths_at ss j,
          sym (get_or-take (length ss) s.digits j 0 i) ∙ ap (λ (xs : List ℕ). get_or xs j 0) H.digits_are ∙ last_digits_at ss j,
        )

    slot : (j : ℕ) → j ≤ size t → get_or s.slots (0 + j) 0 ≡ get_or (leaves t) j 0
    slot j h =
        let i : j < suc (length ss) = omega (arith, count) in
        rw (zero-add j, el) (sym (get_or-take (suc (length ss)) s.slots j 0 i) ∙ ap (λ (xs : List ℕ). get_or xs j 0) H.slots_are)
