-- Create, put together from the sizes that it takes.
use Rattle.std.specs.Prelude.{None, Option as Maybe, Some}
use Rattle.model.proofs.Prelude.{Bool, List, ◌&&◌, ◌<◌, ◌∙◌, ◌≡◌, ap₂, arith, dec_le, eq-eqb, eqb, false, length, refl, subst, true, ℕ}
use Rattle.model.specs.declared.Cause.TheVariants.{WrongSize}
use Rattle.model.specs.declared.Layout.{Layout}
use Rattle.model.specs.Results.{Given, TrieRefused}
use Rattle.model.specs.Files.{created as new_file}
use Rattle.model.specs.Format.{Sizes, are_legal_sizes, file_bytes, file_size}
use Rattle.model.specs.Calls.{create_of, new_trie}
use Rattle.model.proofs.Format.{are_legal_sizes_sizes, offered_small, sizes_are_legal_sizes}
use Rattle.file.specs.declared.Size.{Size}
use Rattle.file.specs.Sizes.{Fitting, Sized}
use Rattle.image.specs.Images.{image_of}
use Rattle.whole.specs.Outcomes.{Creates}
use Rattle.whole.specs.Small.{Small}

-- Sizes that fit a length, and sizes that do not.
pub fitting_right : {h : Maybe Size} {s : Size} {n : ℕ} {y : Layout} {slots : ℕ} → h ≡ Some s → Fitting h n y slots → Sized n s × (s.layout ≡ y) × (s.slots ≡ slots)
fitting_right {h} {s} {n} {y} {slots} e t = subst (λ (x : Maybe Size). Fitting x n y slots) e t

pub fitting_wrong : {h : Maybe Size} (n : ℕ) (y : Layout) (slots : ℕ) → h ≡ None → Fitting h n y slots → (are_legal_sizes y slots && eqb n (file_size y slots)) ≡ false
fitting_wrong {h} n y slots e t = subst (λ (x : Maybe Size). Fitting x n y slots) e t

-- A version, a capacity and slots as they are asked for and as they are taken. Numbers above 255 are no sizes.
module _ (xs : List ℕ) (v b slots : ℕ) {w c n : ℕ} (p : Small w v) (q : Small c b) (u : Small n slots) where
  abbrev asked : Layout
  asked = record { version = v; b = b }

  abbrev taken : Layout
  taken = record { version = w; b = c }

  -- What is refused.
  pub sizes_refused : {image : List ℕ} → image ≡ image_of new_trie → (are_legal_sizes taken n && eqb (length xs) (file_size taken n)) ≡ false
      → Creates (TrieRefused WrongSize) xs image (create_of xs v b slots)
  unfolding create_of
  sizes_refused t e = rw (go (are_legal_sizes asked slots) refl) (refl, refl, t)
    where
      go : (t : Bool) → are_legal_sizes asked slots ≡ t → (t && eqb (length xs) (file_size asked slots)) ≡ false
      go false f = refl
      go true f =
          let g = are_legal_sizes_sizes asked slots f in
          let i : w ≡ v = p.same (omega (arith, offered_small v g.offered)) in
          let j : c ≡ b = q.same (omega (arith, g.b_most)) in
          let k : n ≡ slots = u.same (omega (arith, g.slots_most)) in
          rw (i, j, k, f) at e

  small_same : {i x : ℕ} → Small i x → i < 255 → i ≡ x
  small_same {i} {x} s h = elim (dec_le x 255) [ yes k ↦ s.same k | no k ↦ absurd (omega (arith, s.cut (omega arith))) ]

  -- What is created.
  pub create_given : {ys image : List ℕ} (s : Size) → image ≡ image_of new_trie → Sized (length xs) s → s.layout ≡ taken → s.slots ≡ n
      → ys ≡ file_bytes s.layout (new_file s.slots) → Creates Given ys image (create_of xs v b slots)
  unfolding create_of file_size
  create_given s t z f g d =
      let l : Sizes taken n = rw (f, g) at z.legal in
      let i : w ≡ v = small_same p (offered_small w l.offered) in
      let j : c ≡ b = small_same q (omega (arith, l.b_most)) in
      let k : n ≡ slots = small_same u (omega (arith, l.slots_most)) in
      let y : s.layout ≡ asked = f ∙ ap₂ (λ (x z : ℕ). record { version = x; b = z }) i j in
      let m : s.slots ≡ slots = g ∙ k in
      let o : are_legal_sizes asked slots ≡ true = sizes_are_legal_sizes (rw (y, m) at z.legal) in
      let e : eqb (length xs) (file_size asked slots) ≡ true = eq-eqb (length xs) (file_size asked slots) (rw (y, m) at z.whole) in
      rw (o, e) (refl, rw (y, m) at d, t)
