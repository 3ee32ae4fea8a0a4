-- Slots in range order: each name in the range of one slot, each leaf with one slot; the bounds ascend.
use Rattle.model.proofs.Prelude.{List, Memᴰ, mem_cases_cons, mem_head, mem_not_nil, mem_tail, mem_cast, [], ◌<◌, ◌∙◌, ◌∷◌, ◌≡◌, ◌≢◌, ◌⊎◌, ap, arith, inl, inr, length, refl, sym, take-length, ℕ}
use Rattle.model.specs.Order.{Low, Str, ◌≺◌, ◌⊑◌, ◌⊴◌, ◌◁◌, at, top}
use Rattle.model.specs.Files.{Chain, RangeTable, last, next}
use Rattle.model.specs.Searches.{all, bounds}
use Rattle.model.specs.Tries.{Leads}
use Rattle.model.specs.Rebuilding.{label}
use Rattle.model.proofs.Deciding.{low?, over}
use Rattle.model.proofs.Order.{Asc, end, le_refl, low_at, low_lower, low_refl, low_trans, lt_or_ge, not_over, step}
use Rattle.model.proofs.Tests.{above_is_above, not-is_above}
use Rattle.model.proofs.Tries.{Gap}
use Rattle.model.proofs.Strings.{asc_mem, begins_all}

module _ (F : RangeTable) where
  pub chain_some : {l : Low} → Chain F l [] → ⊥
  chain_some c = elim c [ ]

  pub chain_length : {l : Low} {Bs : List ℕ} → Chain F l Bs → 0 < length Bs
  chain_length (last u e f) = omega arith
  chain_length (next u e a b c) = omega arith

  pub bounds_asc : (Bs : List ℕ) (l : Low) → Chain F l Bs → Asc l (bounds F Bs) []
  bounds_asc [] l c = end
  bounds_asc (B ∷ []) l c = end
  bounds_asc (B ∷ C ∷ Bs) l (next u e a b c) = step a b (bounds_asc (C ∷ Bs) (at (F.upper B)) c)

  pub label_leads : (Bs : List ℕ) (m : Low) → Chain F m Bs → (l : Low) (u : Str) → m ⊴ l → Gap (bounds F Bs) l u → Leads F l u (label F Bs l)
  label_leads [] m c l u a gap = absurd (chain_some c)
  label_leads (B ∷ []) m (last us e f) l u a gap = record { used = us; under = rw e a; within = rw f top }
  label_leads (B ∷ []) m (next us e h b c) l u a gap = absurd (chain_some c)
  label_leads (B ∷ C ∷ Bs) m (next us e h b c) l u a gap = go (low? l (F.upper B)) (λ a'. label_leads (C ∷ Bs) (at (F.upper B)) c l u a' (λ x m. gap x (mem_tail m)))
    where
      go : Dec (l ◁ F.upper B) → (at (F.upper B) ⊴ l → Leads F l u (label F (C ∷ Bs) l)) → Leads F l u (label F (B ∷ C ∷ Bs) l)
      go (yes h) f = rw (above_is_above h) record { used = us; under = rw e a; within = elim (lt_or_ge (F.upper B) u) [ inl p ↦ absurd (gap (F.upper B) (mem_head refl) h p) | inr p ↦ p ] }
      go (no h) f = rw (not-is_above l (F.upper B) h) (f (not_over l (F.upper B) h))

  pub bounds_all : (Bs : List ℕ) (l : Low) → Chain F l Bs → (x : Str) → Memᴰ x (bounds F Bs) → Memᴰ x (all (bounds F Bs))
  bounds_all Bs l c [] m = absurd ((asc_mem (bounds_asc Bs l c) m).1 top)
  bounds_all Bs l c (d ∷ x) m = mem_cast (sym (take-length (d ∷ x))) (begins_all (bounds F Bs) (d ∷ x) m (length (d ∷ x)) (omega arith) (omega arith))

  pub chain_above : {l : Low} {Bs : List ℕ} → Chain F l Bs → (B : ℕ) → Memᴰ B Bs → l ⊴ F.lower B
  chain_above {l} (last u e f) B (mem_head q) = rw (q, e) (low_refl l)
  chain_above {l} (last u e f) B (mem_tail m) = absurd (mem_not_nil m)
  chain_above {l} (next u e a b c) B (mem_head q) = rw (q, e) (low_refl l)
  chain_above {l} (next u e a b c) B (mem_tail m) = low_trans (low_at a) (chain_above c B m)

  apart : {m : Low} {u : Str} {B C : ℕ} → m ◁ u → Leads F m u B → Leads F m u C → at (F.upper B) ⊴ F.lower C → ⊥
  apart h x y o = over (low_lower (low_trans o y.under) h) x.within

  pub leads_unique : {l : Low} {Bs : List ℕ} → Chain F l Bs → {m : Low} {u : Str} → m ◁ u → {B C : ℕ} → Memᴰ B Bs → Memᴰ C Bs
      → Leads F m u B → Leads F m u C → B ≡ C
  leads_unique (last u e f) h (mem_head p) (mem_head q) x y = p ∙ sym q
  leads_unique (last u e f) h (mem_head p) (mem_tail q) x y = absurd (mem_not_nil q)
  leads_unique (last u e f) h (mem_tail p) q x y = absurd (mem_not_nil p)
  leads_unique (next u e a b c) h (mem_head p) (mem_head q) x y = p ∙ sym q
  leads_unique (next u e a b c) h {C = C} (mem_head p) (mem_tail q) x y = absurd (apart h x y (rw p (chain_above c C q)))
  leads_unique (next u e a b c) h {B = B} (mem_tail p) (mem_head q) x y = absurd (apart h y x (rw q (chain_above c B p)))
  leads_unique (next u e a b c) h (mem_tail p) (mem_tail q) x y = leads_unique c h p q x y

module _ (F : RangeTable) where
  -- A name lies in the range of one slot only.
  pub range_unique : {l : Low} {Bs : List ℕ} → Chain F l Bs → (n : Str) {B C : ℕ} → Memᴰ B Bs → Memᴰ C Bs
      → F.lower B ◁ n → n ⊑ F.upper B → F.lower C ◁ n → n ⊑ F.upper C → B ≡ C
  range_unique (last u e f) n (mem_head p) (mem_head q) x x' y y' = p ∙ sym q
  range_unique (last u e f) n (mem_head p) (mem_tail q) x x' y y' = absurd (mem_not_nil q)
  range_unique (last u e f) n (mem_tail p) q x x' y y' = absurd (mem_not_nil p)
  range_unique (next u e a b c) n (mem_head p) (mem_head q) x x' y y' = p ∙ sym q
  range_unique (next u e a b c) n {C = C} (mem_head p) (mem_tail q) x x' y y' = absurd (over (low_lower (chain_above F c C q) y) (rw p at x'))
  range_unique (next u e a b c) n {B = B} (mem_tail p) (mem_head q) x x' y y' = absurd (over (low_lower (chain_above F c B p) x) (rw q at y'))
  range_unique (next u e a b c) n (mem_tail p) (mem_tail q) x x' y y' = range_unique c n p q x x' y y'

  pub chain_used : {l : Low} {Bs : List ℕ} → Chain F l Bs → (B : ℕ) → Memᴰ B Bs → F.Used B
  chain_used (last u e f) B (mem_head p) = rw p u
  chain_used (last u e f) B (mem_tail p) = absurd (mem_not_nil p)
  chain_used (next u e a b c) B (mem_head p) = rw p u
  chain_used (next u e a b c) B (mem_tail p) = chain_used c B p

  -- What comes later is another slot.
  pub chain_other : {l : Low} (B : ℕ) (Bs : List ℕ) → Chain F l (B ∷ Bs) → (C : ℕ) → Memᴰ C Bs → C ≢ B
  chain_other B [] c C m e = mem_not_nil m
  chain_other B (D ∷ Bs) (next u e a b c) C m q =
      over (low_lower (rw (q, e) at (chain_above F c C m)) a) (le_refl (F.upper B))

  pub bounds_from : (Bs : List ℕ) (x : Str) → Memᴰ x (bounds F Bs) → (B : ℕ) × Memᴰ B Bs × (x ≡ F.upper B)
  bounds_from [] x m = absurd (mem_not_nil m)
  bounds_from (B ∷ []) x m = absurd (mem_not_nil m)
  bounds_from (B ∷ C ∷ Bs) x m = go (mem_cases_cons m) (λ m. bounds_from (C ∷ Bs) x m)
    where
      go : (x ≡ F.upper B) ⊎ Memᴰ x (bounds F (C ∷ Bs)) → (Memᴰ x (bounds F (C ∷ Bs)) → (D : ℕ) × Memᴰ D (C ∷ Bs) × (x ≡ F.upper D)) → (D : ℕ) × Memᴰ D (B ∷ C ∷ Bs) × (x ≡ F.upper D)
      go (inl e) f = (B, mem_head refl, e)
      go (inr m) f = ((f m).0, mem_tail (f m).1, (f m).2)

  pub bounds_to : (Bs : List ℕ) (l : Low) → Chain F l Bs → (x : Str) (B : ℕ) → Memᴰ B Bs → x ≡ F.upper B → x ≺ [] → Memᴰ x (bounds F Bs)
  bounds_to [] l c x B m e h = absurd (mem_not_nil m)
  bounds_to (C ∷ []) l (last u e' f) x B (mem_head p) e h = absurd (h (rw (e, p, f) top))
  bounds_to (C ∷ []) l c x B (mem_tail m) e h = absurd (mem_not_nil m)
  bounds_to (C ∷ []) l (next u e' a b c) x B (mem_head p) e h = absurd (chain_some F c)
  bounds_to (C ∷ D ∷ Bs) l (next u e' a b c) x B (mem_head p) e h = mem_head (rw p at e)
  bounds_to (C ∷ D ∷ Bs) l (next u e' a b c) x B (mem_tail m) e h = mem_tail (bounds_to (D ∷ Bs) (at (F.upper C)) c x B m e h)

  -- A lower limit that is a string is a bound, or the limit that the order starts from.
  pub chain_lower : (Bs : List ℕ) (m : Low) → Chain F m Bs → (B : ℕ) (y : Str) → Memᴰ B Bs → F.lower B ≡ at y → (m ≡ at y) ⊎ Memᴰ y (bounds F Bs)
  chain_lower [] m c B y k e = absurd (mem_not_nil k)
  chain_lower (C ∷ []) m (last u q f) B y (mem_head p) e = inl (sym q ∙ ap F.lower (sym p) ∙ e)
  chain_lower (C ∷ []) m (next u q a b c) B y (mem_head p) e = inl (sym q ∙ ap F.lower (sym p) ∙ e)
  chain_lower (C ∷ []) m c B y (mem_tail k) e = absurd (mem_not_nil k)
  chain_lower (C ∷ D ∷ Bs) m (next u q a b c) B y (mem_head p) e = inl (sym q ∙ ap F.lower (sym p) ∙ e)
  chain_lower (C ∷ D ∷ Bs) m (next u q a b c) B y (mem_tail k) e = go (chain_lower (D ∷ Bs) (at (F.upper C)) c B y k e)
    where
      go : (at (F.upper C) ≡ at y) ⊎ Memᴰ y (bounds F (D ∷ Bs)) → (m ≡ at y) ⊎ Memᴰ y (bounds F (C ∷ D ∷ Bs))
      go (inl e) = let p : y ≡ F.upper C = cc in inr (mem_head p)
      go (inr k) = inr (mem_tail k)
