-- The parts that list counts and writes, one after another.
use Rattle.model.proofs.Prelude.{List, [], ◌&&◌, ◌++◌, ◌+◌, ◌-◌, ◌<◌, ◌∙◌, ◌≡◌, ◌≤◌, ap, append_assoc, arith, drop, drop-append_seam, drop_at, drop-drop, false, get_or, length, length-append, length-drop, length-take, ltb, paste, refl, suc, sym, take, take-add, take-append_seam, take_at, take-length, true, ℕ}
use Rattle.model.specs.Format.{bytes_at_slot}
use Rattle.digits.specs.Keys.{key_value}
use Rattle.slots.specs.Parts.{all_of, part_of as searched}
use Rattle.reading.specs.declared.span.Span.{Span}
use Rattle.reading.specs.Listings.{Written, part_of, parts}

module _ (s : Span) where
  -- A slot between the first place and the last, and one that is not.
  pub part_inside : (j : ℕ) {xs p : List ℕ} → (ltb s.from j && ltb j s.to) ≡ true → xs ≡ bytes_at_slot s.size.layout (get_or s.order.now j 0) s.file.now
      → p ≡ all_of s.size.layout xs → p ≡ part_of s j
  unfolding part_of
  part_inside j t f g = g ∙ rw (f, t)

  pub part_searched : (j : ℕ) {xs p : List ℕ} → (ltb s.from j && ltb j s.to) ≡ false → xs ≡ bytes_at_slot s.size.layout (get_or s.order.now j 0) s.file.now
      → p ≡ searched s.size.layout xs (key_value s.low) (key_value s.high) → p ≡ part_of s j
  unfolding part_of
  part_searched j t f g = g ∙ rw (f, t)

  -- The slots from place j to the last.
  abbrev pub rest : ℕ → List ℕ
  rest j = parts s (s.to + 1 - j) j

  pub rest_none : (j : ℕ) → s.to < j → rest j ≡ []
  unfolding parts
  rest_none j h = let e : s.to + 1 - j ≡ 0 = omega arith in rw e

  pub rest_step : (j : ℕ) {p : List ℕ} → j ≤ s.to → p ≡ part_of s j → rest j ≡ p ++ rest (j + 1)
  unfolding parts
  rest_step j h e =
      let i : s.to + 1 - j ≡ suc (s.to + 1 - (j + 1)) = omega arith in
      let n : j + 1 ≡ suc j = omega arith in
      rw (i, n, e)

  pub rest_length : (j : ℕ) {p : List ℕ} → j ≤ s.to → p ≡ part_of s j → length (rest j) ≡ length p + length (rest (j + 1))
  rest_length j {p} h e = ap length (rest_step j h e) ∙ length-append p (rest (j + 1))

-- The output with the first of all bytes written, and what is still to be written.
pub record Writing (all rest out left : List ℕ) (done : ℕ) : Type 0 where
  pub within : done ≤ length all
  pub room : length all ≤ length out
  pub coming : drop done all ≡ rest
  pub is : left ≡ take done all ++ drop done out

pub writing_start : (all out : List ℕ) → length all ≤ length out → Writing all all out out 0
writing_start all out h = record { within = omega arith; room = h; coming = refl; is = refl }

module _ {all rest out left : List ℕ} {done : ℕ} (W : Writing all rest out left done) where
  pub writing_length : length left ≡ length out
  writing_length =
      ap length W.is ∙ length-append (take done all) (drop done out) ∙ omega (arith, length-take done all, length-drop done out, W.within, W.room)

  pub writing_rest : done + length rest ≡ length all
  writing_rest = omega (arith, ap length W.coming, length-drop done all, W.within)

  pub writing_step : (p more next : List ℕ) → rest ≡ p ++ more → next ≡ paste left done p (length p) → Writing all more out next (done + length p)
  writing_step p more next e f =
      let d : drop done all ≡ p ++ more = W.coming ∙ e in
      let k : length (take done all) ≡ done = omega (arith, length-take done all, W.within) in
      let t : take done left ≡ take done all = ap (take done) W.is ∙ take_at (take done all) (drop done out) done k in
      let u : drop (done + length p) left ≡ drop (done + length p) out =
      sym (drop-drop (length p) done left) ∙ ap (drop (length p)) (ap (drop done) W.is ∙ drop_at (take done all) (drop done out) done k) ∙ drop-drop (length p) done out in
      let a : take (done + length p) all ≡ take done all ++ p = take-add done (length p) all ∙ ap (λ (x : List ℕ). take done all ++ x) (ap (take (length p)) d ∙ take-append_seam p more) in
      record {
        within = omega (arith, writing_rest, ap length e, length-append p more);
        room = W.room;
        coming = sym (drop-drop (length p) done all) ∙ ap (drop (length p)) d ∙ drop-append_seam p more;
        is = f ∙ rw (t, u, take-length p, a, append_assoc);
      }

  pub writing_end : rest ≡ [] → Written all out left
  writing_end e =
      let k : done ≡ length all = omega (arith, ap length (W.coming ∙ e), length-drop done all, W.within) in
      W.is ∙ rw (k, take-length all)
