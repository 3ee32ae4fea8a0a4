-- The entries to be listed are one list, and the buckets in range order give it.
use Rattle.model.proofs.Prelude.{Bool, List, Memᴰ, mem_append_cases, mem_cases_cons, mem_head, mem_not_nil, mem_tail, mem_append_left, mem_append_right, [], ◌&&◌, ◌++◌, ◌∷◌, ◌≡◌, ◌⊎◌, ap₂, cond, false, inl, inr, refl, sym, true, ℕ}
use Rattle.model.specs.Order.{Low, Str, ◌⊑◌, ◌⊴◌, ◌◁◌, at, below, top}
use Rattle.model.specs.Tests.{is_at_most}
use Rattle.model.specs.Entries.{Entry, Row, entry, no_entries}
use Rattle.model.specs.Files.{Chain, IsUsed, Slot, Sound, Well, entries_of, free, head, last, lower_of, next, ranges, slot_at, upper_of, used}
use Rattle.model.specs.Searches.{order_of}
use Rattle.model.specs.Calls.{between, entries_in}
use Rattle.model.proofs.Deciding.{over}
use Rattle.model.proofs.Order.{le_refl, le_trans, low_at, low_lower, lt_le}
use Rattle.model.proofs.Tests.{both_true, is_at_most_le, le_is_at_most}
use Rattle.model.proofs.Files.{order_right, slot_row, well_head}
use Rattle.model.proofs.Merging.{row_lower}
use Rattle.promises.specs.Demand1.{Listing}

row_append : {l : Low} {u w : Str} {es gs : List Entry} → Row l es u → l ⊴ at u → u ⊑ w → Row (at u) gs w → Row l (es ++ gs) w
row_append no_entries h k s = row_lower h s
row_append (entry g a c r) h k s = entry g a (le_trans c k) (row_append r (below c) k s)

-- An entry's name is above the row's lower end.
mem_over : {l : Low} {u : Str} {es : List Entry} {e : Entry} → Row l es u → Memᴰ e es → l ◁ e.0
mem_over no_entries m = absurd (mem_not_nil m)
mem_over (entry g a c r) m = elim (mem_cases_cons m) [ inl q ↦ rw q a | inr k ↦ low_lower (low_at a) (mem_over r k) ]

-- Ascending entries are one list.
rows_same : {l m : Low} {u w : Str} {es gs : List Entry} → Row l es u → Row m gs w → ((e : Entry) → Memᴰ e es → Memᴰ e gs)
    → ((e : Entry) → Memᴰ e gs → Memᴰ e es) → es ≡ gs
rows_same no_entries no_entries f g = refl
rows_same no_entries (entry {e = d} y b k s) f g = absurd (mem_not_nil (g d (mem_head refl)))
rows_same (entry {e = e} x a c r) no_entries f g = absurd (mem_not_nil (f e (mem_head refl)))
rows_same (entry {e = e} {es = es} x a c r) (entry {e = d} {es = ds} y b k s) f g =
    ap₂ (λ (z : Entry) (zs : List Entry). z ∷ zs) same (rows_same r s there back)
  where
    first : (e ≡ d) ⊎ Memᴰ e ds → (d ≡ e) ⊎ Memᴰ d es → e ≡ d
    first (inl q) z = q
    first (inr p) (inl q) = sym q
    first (inr p) (inr q) = absurd (over (mem_over s p) (lt_le (over (mem_over r q))))

    same : e ≡ d
    same = first (mem_cases_cons (f e (mem_head refl))) (mem_cases_cons (g d (mem_head refl)))

    there : (z : Entry) → Memᴰ z es → Memᴰ z ds
    there z m = elim (mem_cases_cons (f z (mem_tail m))) [
      | inl q ↦ absurd (over (mem_over r m) (rw (q, ← same) (le_refl e.0)))
      | inr k ↦ k
    ]

    back : (z : Entry) → Memᴰ z ds → Memᴰ z es
    back z m = elim (mem_cases_cons (g z (mem_tail m))) [
      | inl q ↦ absurd (over (mem_over s m) (rw (q, same) (le_refl d.0)))
      | inr k ↦ k
    ]

-- Those between two names.
module _ (low high : Str) where
  abbrev inside : Entry → Bool
  inside d = is_at_most low d.0 && is_at_most d.0 high

  between_row : {l : Low} {u : Str} {es : List Entry} → Row l es u → Row l (between low high es) u
  unfolding between
  between_row no_entries = no_entries
  between_row {l} {u} (entry {e = d} {es = es} g a c r) = go (inside d) (between_row r)
    where
      go : (t : Bool) → Row (at d.0) (between low high es) u → Row l (cond t (d ∷ between low high es) (between low high es)) u
      go true k = entry g a c k
      go false k = row_lower (low_at a) k

  between_only : (es : List Entry) (e : Entry) → Memᴰ e (between low high es) → Memᴰ e es × (low ⊑ e.0) × (e.0 ⊑ high)
  unfolding between
  between_only [] e m = absurd (mem_not_nil m)
  between_only (d ∷ es) e m = go (inside d) refl (between_only es e) m
    where
      rest : Memᴰ e es × (low ⊑ e.0) × (e.0 ⊑ high) → Memᴰ e (d ∷ es) × (low ⊑ e.0) × (e.0 ⊑ high)
      rest (k, p, q) = (mem_tail k, p, q)

      go : (t : Bool) → inside d ≡ t → (Memᴰ e (between low high es) → Memᴰ e es × (low ⊑ e.0) × (e.0 ⊑ high))
          → Memᴰ e (cond t (d ∷ between low high es) (between low high es)) → Memᴰ e (d ∷ es) × (low ⊑ e.0) × (e.0 ⊑ high)
      go true h f m =
          let p = both_true (is_at_most low d.0) (is_at_most d.0 high) h in
          elim (mem_cases_cons m) [
            | inl q ↦ (mem_head q, rw q (is_at_most_le low d.0 p.0), rw q (is_at_most_le d.0 high p.1))
            | inr k ↦ rest (f k)
          ]
      go false h f m = rest (f m)

  between_every : (es : List Entry) (e : Entry) → Memᴰ e es → low ⊑ e.0 → e.0 ⊑ high → Memᴰ e (between low high es)
  unfolding between
  between_every [] e m p q = absurd (mem_not_nil m)
  between_every (d ∷ es) e m p q = elim (mem_cases_cons m) [
    | inl s ↦ rw (le_is_at_most low d.0 (rw s at p), le_is_at_most d.0 high (rw s at q)) (mem_head s)
    | inr k ↦ go (inside d) (between_every es e k p q)
  ]
    where
      go : (t : Bool) → Memᴰ e (between low high es) → Memᴰ e (cond t (d ∷ between low high es) (between low high es))
      go true k = mem_tail k
      go false k = k

-- Those of all buckets, in range order.
module _ (fs : List Slot) where
  in_only : (Bs : List ℕ) (e : Entry) → Memᴰ e (entries_in fs Bs) → (B : ℕ) × Memᴰ e (entries_of (slot_at fs B))
  unfolding entries_in
  in_only [] e m = absurd (mem_not_nil m)
  in_only (B ∷ Bs) e m = elim (mem_append_cases (entries_of (slot_at fs B)) m) [ inl k ↦ (B, k) | inr k ↦ in_only Bs e k ]

  in_every : (Bs : List ℕ) (e : Entry) {B : ℕ} → Memᴰ B Bs → Memᴰ e (entries_of (slot_at fs B)) → Memᴰ e (entries_in fs Bs)
  unfolding entries_in
  in_every [] e m k = absurd (mem_not_nil m)
  in_every (C ∷ Bs) e m k = elim (mem_cases_cons m) [
    | inl q ↦ mem_append_left (entries_in fs Bs) (rw q at k)
    | inr n ↦ mem_append_right (entries_of (slot_at fs C)) (in_every Bs e n k)
  ]

  holder_used : (x : Slot) (e : Entry) → Memᴰ e (entries_of x) → IsUsed (head x)
  holder_used free e m = absurd (mem_not_nil m)
  holder_used (used l u es) e m = tt

  module _ (b : ℕ) (well : (B : ℕ) → Well b (slot_at fs B)) where
    bucket_row : (B : ℕ) {gs : List Entry} → IsUsed (head (slot_at fs B)) → Row (at (upper_of (head (slot_at fs B)))) gs []
        → Row (lower_of (head (slot_at fs B))) (entries_of (slot_at fs B) ++ gs) []
    bucket_row B h r = row_append (slot_row b (slot_at fs B) (well B) h) (low_at (well_head b (well B) h)) top r

    chain_row : {l : Low} {Bs : List ℕ} → Chain (ranges fs) l Bs → Row l (entries_in fs Bs) []
    unfolding entries_in
    chain_row (last {B = B} h e f) = rw e at (bucket_row B h no_entries)
    chain_row (next {B = B} h e a f c) = rw e at (bucket_row B h (chain_row c))

-- R9.8: list writes the entries in the range, ascending.
module _ (b : ℕ) {fs : List Slot} (S : Sound b fs) (low high : Str) where
  pub listed_right : Listing fs low high (between low high (entries_in fs (order_of fs)))
  listed_right = rw (order_right b S) (record {
    ascending = between_row low high (chain_row fs b S.well S.chain);
    only = λ e m. let k = between_only low high (entries_in fs S.order) e m in (in_only fs S.order e k.0, k.1, k.2);
    every = λ e B m p q. between_every low high (entries_in fs S.order) e (in_every fs S.order e (S.listed B (holder_used fs (slot_at fs B) e m)) m) p q;
  })

pub listings_same : {fs : List Slot} {low high : Str} {es gs : List Entry} → Listing fs low high es → Listing fs low high gs → es ≡ gs
listings_same L K =
    rows_same L.ascending K.ascending (λ e m. let k = L.only e m in K.every e k.0.0 k.0.1 k.1 k.2)
    (λ e m. let k = K.only e m in L.every e k.0.0 k.0.1 k.1 k.2)
