-- The copies of which the code makes a splice.
use Rattle.model.proofs.Prelude.{List, [], ◌*◌, ◌++◌, ◌+◌, ◌-◌, ◌∙◌, ◌≡◌, ◌≤◌, append_assoc, ap₂, arith, drop, length, length-append, length-drop, length-take-le, paste, refl, replicate, sym, take, ℕ}
use Rattle.model.specs.Format.{padded}
use Rattle.entries.specs.Rows.{room, spliced_bytes}
use Rattle.entries.proofs.Padding.{copied, zeros_padded}
use Rattle.entries.proofs.Products.{part_least, parts_are, rest_is}

module _ (e count i taken : ℕ) (xs middle : List ℕ) (fits : e * count ≤ length xs) (inside : i + taken ≤ count) where
  abbrev front : List ℕ
  front = take (e * i) xs

  abbrev back : List ℕ
  back = take (e * (count - (i + taken))) (drop (e * (i + taken)) xs)

  pub length_front : length front ≡ e * i
  length_front = length-take-le (e * i) xs (omega (arith, part_least e i count (omega arith)))

  pub length_back : length back ≡ e * (count - (i + taken))
  length_back =
      length-take-le (e * (count - (i + taken))) (drop (e * (i + taken)) xs)
      (omega (arith, length-drop (e * (i + taken)) xs, parts_are e (i + taken) count inside))

  pub length_spliced : length (spliced_bytes e xs count i taken middle) + e * taken ≡ e * count + length middle
  unfolding spliced_bytes
  length_spliced =
      omega (arith, length-append front (middle ++ back), length-append middle back, length_front, length_back, parts_are e (i + taken) count inside)

  pub splice_copies : (at next end : ℕ) (m₁ m₂ m₃ : List ℕ) → at ≡ e * i → next ≡ e * (i + taken) → end ≡ e * count → e * count ≤ 640 → length middle ≤ 40
      → m₁ ≡ paste (replicate room 0) 0 (take (at - 0) (drop 0 xs)) (length (take (at - 0) (drop 0 xs)))
      → m₂ ≡ paste m₁ at middle (length middle)
      → m₃ ≡ paste m₂ (at + length middle) (take (end - next) (drop next xs)) (length (take (end - next) (drop next xs)))
      → m₃ ≡ padded room (spliced_bytes e xs count i taken middle)
  unfolding spliced_bytes
  splice_copies at next end m₁ m₂ m₃ a b c most short q₁ q₂ q₃ =
      let z : at - 0 ≡ e * i = omega arith in
      let d : end - next ≡ e * (count - (i + taken)) = ap₂ (λ (x y : ℕ). x - y) c b ∙ rest_is e (i + taken) count in
      let p = parts_are e (i + taken) count inside in
      let e₁ : m₁ ≡ padded room front = copied 0 [] (take (at - 0) (drop 0 xs)) front (zeros_padded room) refl (rw z) (omega (arith, length_front)) q₁ in
      let e₂ : m₂ ≡ padded room (front ++ middle) = copied at front middle middle e₁ (length_front ∙ sym a) refl (omega arith) q₂ in
      let e₃ : m₃ ≡ padded room (front ++ middle ++ back) =
      copied (at + length middle) (front ++ middle) (take (end - next) (drop next xs)) back e₂ (omega (arith, length-append front middle, length_front)) (rw (d, b)) (omega (arith, length_back)) q₃ in
      e₃ ∙ simp append_assoc

-- The copies of which the code joins two rows.
pub join_copies : (e m n : ℕ) (xs ys : List ℕ) → e * m ≤ length xs → e * n ≤ length ys → e * m + e * n ≤ room → (at end : ℕ) (m₁ m₂ : List ℕ) → at ≡ e * m → end ≡ e * n
    → m₁ ≡ paste (replicate room 0) 0 (take (at - 0) (drop 0 xs)) (length (take (at - 0) (drop 0 xs)))
    → m₂ ≡ paste m₁ at (take (end - 0) (drop 0 ys)) (length (take (end - 0) (drop 0 ys)))
    → m₂ ≡ padded room (take (e * m) xs ++ take (e * n) ys)
join_copies e m n xs ys hx hy most at end m₁ m₂ a b q₁ q₂ =
    let z : at - 0 ≡ e * m = omega arith in
    let w : end - 0 ≡ e * n = omega arith in
    let lx : length (take (e * m) xs) ≡ e * m = length-take-le (e * m) xs hx in
    let ly : length (take (e * n) ys) ≡ e * n = length-take-le (e * n) ys hy in
    let e₁ : m₁ ≡ padded room (take (e * m) xs) = copied 0 [] (take (at - 0) (drop 0 xs)) (take (e * m) xs) (zeros_padded room) refl (rw z) (omega (arith, lx)) q₁ in
    copied at (take (e * m) xs) (take (end - 0) (drop 0 ys)) (take (e * n) ys) e₁ (lx ∙ sym a) (rw w) (omega (arith, ly)) q₂
