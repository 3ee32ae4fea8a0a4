-- A name has one bucket; sound and cut exclude each other; the slot to free and the range order are determined; the strings.
use Rattle.model.proofs.Prelude.{Bool, List, Memᴰ, get_or_eq_default, [], ◌+◌, ◌<◌, ◌∙◌, ◌∷◌, ◌≡◌, ◌≢◌, ◌≤◌, ◌⊎◌, ap, arith, clash, cond, dec_lt, eqb, eqb-true, false, get_or-set_other, get_or-set_same, inl, inr, length, refl, set, set_out, subst, suc, sym, true, zero, ℕ, ℕ_discrete}
use Rattle.model.specs.Order.{Low, Str, ◌≺◌, ◌◁◌, at, none}
use Rattle.model.specs.Tests.{is_above, is_at_most}
use Rattle.model.specs.Names.{Bound, BoundLow}
use Rattle.model.specs.Entries.{Entry, Row}
use Rattle.model.specs.Files.{Begins, BoundOf, Chain, Cut, In, IsString, IsUsed, RangeTable, Slot, SlotHead, Sound, Well, entries_of, free, head, last, lower_bound, lower_of, next, no_range, range, ranges, slot_at, upper_bound, upper_of, used, well_free, well_used}
use Rattle.model.specs.Searches.{all, bounds, first, has_lower, has_upper, is_free, is_in_range, order_from, order_of, string_count, strings_of}
use Rattle.model.specs.Tries.{occ}
use Rattle.model.specs.Rebuilding.{rebuilt}
use Rattle.model.proofs.Deciding.{le?, nil_not_le, over}
use Rattle.model.proofs.Order.{Asc, le_refl, low_at, low_lower, lt_le}
use Rattle.model.proofs.Tests.{above_is_above, both_join, both_true, equal_same_str, is_above_above, is_at_most_le, le_is_at_most, same_low_equal, same_low_self, same_str_equal, same_str_other, true_or_false}
use Rattle.model.proofs.Strings.{all_asc, all_begins, begins_in}
use Rattle.model.proofs.Ranges.{bounds_asc, bounds_from, bounds_to, chain_lower, chain_other, chain_used, range_unique}
use Rattle.model.proofs.Cells.{occ_mem, total_all, total_le}
use Rattle.model.proofs.Rebuilding.{rebuilt_agrees, walk_right}
use Rattle.model.proofs.Tries.{walk}

pub used_inside : (fs : List Slot) (A : ℕ) → IsUsed (head (slot_at fs A)) → A < length fs
used_inside fs A h = elim (dec_lt A (length fs)) [ yes k ↦ k | no k ↦ absurd (rw (get_or_eq_default fs free {n = A} (omega arith)) at h) ]

-- What a store at A leaves: the new slot at A, the old ones elsewhere.
pub at_set : (P : ℕ → Slot → Type 0) (fs : List Slot) (A : ℕ) (x : Slot) → A < length fs → P A x → ((B : ℕ) → B ≢ A → P B (slot_at fs B)) → (B : ℕ) → P B (slot_at (set fs A x) B)
at_set P fs A x h p f B = elim (ℕ_discrete B A) [
  | yes e ↦ subst (λ C. P C (slot_at (set fs A x) C)) (sym e) (rw (get_or-set_same fs A x free h) p)
  | no e ↦ rw (get_or-set_other fs A B x free e) (f B e)
]

-- The first slot that passes a test.
pub first_right : (t : Slot → Bool) (fs : List Slot) (B : ℕ) → t (slot_at fs B) ≡ true → t (slot_at fs (first t fs)) ≡ true
unfolding first
first_right t [] B p = p
first_right t (x ∷ xs) zero p = rw p p
first_right t (x ∷ xs) (suc B) p = elim (true_or_false (t x)) [ inl h ↦ rw h h | inr h ↦ rw h (first_right t xs B p) ]

pub first_passes : (t : Slot → Bool) (fs : List Slot) → first t fs < length fs → t (slot_at fs (first t fs)) ≡ true
unfolding first
first_passes t [] h = absurd (omega arith)
first_passes t (x ∷ xs) h = elim (true_or_false (t x)) [
  | inl p ↦ rw p p
  | inr p ↦ rw p (first_passes t xs (lower (first t xs) (length xs) (rw p at h)))
]
  where
    lower : (i j : ℕ) → suc i < suc j → i < j
    lower i j h = omega arith

pub first_inside : (t : Slot → Bool) (fs : List Slot) → first t fs ≤ length fs
unfolding first
first_inside t [] = omega arith
first_inside t (x ∷ xs) = elim (true_or_false (t x)) [ inl p ↦ rw p (omega arith) | inr p ↦ rw p (omega (arith, first_inside t xs)) ]

pub first_before : (t : Slot → Bool) (fs : List Slot) (B : ℕ) → B < first t fs → t (slot_at fs B) ≡ false
unfolding first
first_before t [] B h = absurd (omega arith)
first_before t (x ∷ xs) zero h = elim (true_or_false (t x)) [ inl p ↦ absurd (none_below (rw p at h)) | inr p ↦ p ]
  where
    none_below : 0 < 0 → ⊥
    none_below h = omega arith
first_before t (x ∷ xs) (suc B) h = elim (true_or_false (t x)) [
  | inl p ↦ absurd (none_below (rw p at h))
  | inr p ↦ first_before t xs B (lower (first t xs) (rw p at h))
]
  where
    none_below : suc B < 0 → ⊥
    none_below h = omega arith

    lower : (i : ℕ) → suc B < suc i → B < i
    lower i h = omega arith

-- The tests of slots are what they test.
pub free_is_free : (x : Slot) → x ≡ free → is_free x ≡ true
unfolding is_free
free_is_free x e = rw e

pub is_free_free : (x : Slot) → is_free x ≡ true → x ≡ free
unfolding is_free
is_free_free free e = refl
is_free_free (used l u es) e = clash cc

pub used_is_free : (x : Slot) → IsUsed (head x) → is_free x ≡ false
unfolding is_free
used_is_free free h = absurd h
used_is_free (used l u es) h = refl

pub has_lower_lower : (l : Low) (x : Slot) → has_lower l x ≡ true → IsUsed (head x) × (lower_of (head x) ≡ l)
unfolding has_lower
has_lower_lower l free e = clash cc
has_lower_lower l (used m u es) e = (tt, same_low_equal m l e)

pub lower_has_lower : (l : Low) (x : Slot) → IsUsed (head x) → lower_of (head x) ≡ l → has_lower l x ≡ true
unfolding has_lower
lower_has_lower l free h e = absurd h
lower_has_lower l (used m u es) h e = rw e (same_low_self l)

pub has_upper_upper : (u : Str) (x : Slot) → has_upper u x ≡ true → IsUsed (head x) × (upper_of (head x) ≡ u)
unfolding has_upper
has_upper_upper u free e = clash cc
has_upper_upper u (used l v es) e = (tt, same_str_equal v u e)

pub upper_has_upper : (u : Str) (x : Slot) → IsUsed (head x) → upper_of (head x) ≡ u → has_upper u x ≡ true
unfolding has_upper
upper_has_upper u free h e = absurd h
upper_has_upper u (used l v es) h e = equal_same_str v u e

pub is_in_range_in : (n : Str) (x : Slot) → is_in_range n x ≡ true → In (head x) n
unfolding is_in_range
is_in_range_in n free e = clash cc
is_in_range_in n (used l u es) e =
    let p = both_true (is_above l n) (is_at_most n u) e in
    (tt, is_above_above l n p.0, is_at_most_le n u p.1)

pub in_is_in_range : (n : Str) (x : Slot) → In (head x) n → is_in_range n x ≡ true
unfolding is_in_range
in_is_in_range n free h = absurd h.0
in_is_in_range n (used l u es) h = both_join (is_above l n) (is_at_most n u) (above_is_above h.1) (le_is_at_most n u h.2)

-- Where some slot has a name in its range, so has the first that is found.
pub found_in : (n : Str) (fs : List Slot) (B : ℕ) → In (head (slot_at fs B)) n → In (head (slot_at fs (first (is_in_range n) fs))) n
found_in n fs B h = is_in_range_in n (slot_at fs (first (is_in_range n) fs)) (first_right (is_in_range n) fs B (in_is_in_range n (slot_at fs B) h))

pub chain_once : (F : RangeTable) (Bs : List ℕ) {l : Low} → Chain F l Bs → (i : ℕ) → occ i Bs ≤ 1
chain_once F Bs (last {B = B} u e f) i = go (eqb i B) refl
  where
    go : (t : Bool) → eqb i B ≡ t → cond t 1 0 + 0 ≤ 1
    go true e = omega arith
    go false e = omega arith
chain_once F (B ∷ Bs) (next u e a b c) i = go (eqb i B) refl (chain_once F Bs c i)
  where
    go : (t : Bool) → eqb i B ≡ t → occ i Bs ≤ 1 → cond t 1 0 + occ i Bs ≤ 1
    go false n h = omega arith
    go true q h = elim (ℕ_discrete (occ i Bs) 0) [
      | yes z ↦ omega arith
      | no z ↦ absurd (chain_other F B Bs (next u e a b c) i (occ_mem i Bs (omega arith)) (eqb-true i B q))
    ]

module _ (b : ℕ) where
  -- A name lies in the range of one slot only.
  pub one_range : {fs : List Slot} → Sound b fs → (n : Str) {B C : ℕ} → In (head (slot_at fs B)) n → In (head (slot_at fs C)) n → B ≡ C
  one_range {fs} S n {B} {C} h k = range_unique (ranges fs) S.chain n (S.listed B h.0) (S.listed C k.0) h.1 h.2 k.1 k.2

  -- Two used slots with one upper are one.
  pub one_upper : {fs : List Slot} → Sound b fs → {B C : ℕ} {l m : Low} {u : Str} {xs ys : List Entry}
      → slot_at fs B ≡ used l u xs → slot_at fs C ≡ used m u ys → l ◁ u → m ◁ u → B ≡ C
  one_upper S {u = u} e f h k = one_range S u (rw e (tt, h, le_refl u)) (rw f (tt, k, le_refl u))

  pub slot_freed : (fs : List Slot) (N : ℕ) → slot_at (set fs N free) N ≡ free
  slot_freed fs N = elim (dec_lt N (length fs)) [
    | yes h ↦ get_or-set_same fs N free free h
    | no h ↦ rw (set_out fs N free (omega arith)) (get_or_eq_default fs free (omega arith))
  ]

  pub well_parts : {l : Low} {u : Str} {es : List Entry} → Well b (used l u es) → BoundLow l × Bound u × (l ◁ u) × Row l es u × (length es ≤ b)
  well_parts (well_used a c h r k) = (a, c, h, r, k)

  pub slot_row : (x : Slot) → Well b x → IsUsed (head x) → Row (lower_of (head x)) (entries_of x) (upper_of (head x))
  slot_row free w h = absurd h
  slot_row (used l u es) w h = (well_parts w).3

  module _ {fs : List Slot} {N : ℕ} (C : Cut b fs N) where
    pub other : C.A ≢ N
    other e = let z : ◌≡◌ {A = Slot} free (used C.a_low C.up C.old) = sym (slot_freed fs N) ∙ ap (slot_at (set fs N free)) (sym e) ∙ C.a_is in
        clash cc

    pub a_there : slot_at fs C.A ≡ used C.a_low C.up C.old
    a_there = sym (get_or-set_other fs N C.A free free other) ∙ C.a_is

    pub n_low : at C.low ◁ C.up
    n_low = (well_parts (rw C.n_is at C.n_well)).2

    pub a_below : C.a_low ◁ C.up
    a_below = low_lower (low_at C.below) n_low

    pub cut_not_sound : Sound b fs → ⊥
    cut_not_sound S = other (one_upper S a_there C.n_is a_below n_low)

    pub cut_inside : N < length fs
    cut_inside = used_inside fs N (rw C.n_is tt)

    pub cut_well : (B : ℕ) → Well b (slot_at fs B)
    cut_well B = elim (ℕ_discrete B N) [
      | yes e ↦ rw e C.n_well
      | no e ↦ rw (get_or-set_other fs N B free free e) at (C.freed.well B)
    ]

    -- Freeing another slot leaves the pair: so that slot is A.
    pub other_freed : (M : ℕ) → M ≢ N → Sound b (set fs M free) → C.A ≡ M
    other_freed M d S = elim (ℕ_discrete C.A M) [
      | yes e ↦ e
      | no e ↦ absurd (other (one_upper S (get_or-set_other fs M C.A free free e ∙ a_there) (get_or-set_other fs M N free free (λ q. d (sym q)) ∙ C.n_is) a_below n_low))
    ]

  low_is : {fs : List Slot} {M N : ℕ} (C : Cut b fs M) (D : Cut b fs N) → C.A ≡ N → C.a_low ≡ at D.low
  low_is {fs} C D p = ap (λ x. lower_of (head x)) (sym (a_there C) ∙ ap (slot_at fs) p ∙ D.n_is)

  pub cut_unique : {fs : List Slot} {M N : ℕ} → Cut b fs M → Cut b fs N → M ≡ N
  cut_unique {fs} {M} {N} C D = elim (ℕ_discrete M N) [
    | yes e ↦ e
    | no e ↦ absurd (go (other_freed C N (λ q. e (sym q)) D.freed) (other_freed D M e C.freed))
  ]
    where
      go : C.A ≡ N → D.A ≡ M → ⊥
      go p q = over (rw (low_is C D p) at C.below) (lt_le (over (rw (low_is D C q) at D.below)))

  pub well_head : {x : Slot} → Well b x → IsUsed (head x) → lower_of (head x) ◁ upper_of (head x)
  well_head well_free u = absurd u
  well_head (well_used a c h r k) u = h

  module _ {fs : List Slot} (S : Sound b fs) where
    pub one_lower : (B C : ℕ) → IsUsed (head (slot_at fs B)) → IsUsed (head (slot_at fs C)) → lower_of (head (slot_at fs B)) ≡ lower_of (head (slot_at fs C)) → B ≡ C
    one_lower B C u v e = elim (le? (upper_of (head (slot_at fs B))) (upper_of (head (slot_at fs C)))) [
      | yes p ↦ one_range S (upper_of (head (slot_at fs B))) (u, well_head (S.well B) u, le_refl _) (v, subst (λ l. l ◁ upper_of (head (slot_at fs B))) e (well_head (S.well B) u), p)
      | no p ↦ one_range S (upper_of (head (slot_at fs C))) (u, subst (λ l. l ◁ upper_of (head (slot_at fs C))) (sym e) (well_head (S.well C) v), lt_le p) (v, well_head (S.well C) v, le_refl _)
    ]

    -- Each name is in the range of some slot.
    pub bucket : (n : Str) → (A : ℕ) × In (head (slot_at fs A)) n
    bucket n = (walk n [] (rebuilt (ranges fs) S.order), walk_right (ranges fs) (rebuilt_agrees (ranges fs) S.order S.chain) n)

  module _ {fs : List Slot} (S : Sound b fs) where
    pub starts_one : (l : Low) (B : ℕ) → IsUsed (head (slot_at fs B)) → lower_of (head (slot_at fs B)) ≡ l → first (has_lower l) fs ≡ B
    starts_one l B u e =
        let h = has_lower_lower l (slot_at fs (first (has_lower l) fs)) (first_right (has_lower l) fs B (lower_has_lower l (slot_at fs B) u e)) in
        one_lower S (first (has_lower l) fs) B h.0 u (h.1 ∙ sym e)

    order_chain : (f : ℕ) {l : Low} {Bs : List ℕ} → Chain (ranges fs) l Bs → length Bs ≤ f → order_from f l fs ≡ Bs
    unfolding order_from
    order_chain zero (last u e g) h = absurd (omega arith)
    order_chain zero (next u e a c d) h = absurd (omega arith)
    order_chain (suc f) {l} (last {B = B} u e g) h = rw (starts_one l B u e, equal_same_str (upper_of (head (slot_at fs B))) [] g)
    order_chain (suc f) {l} (next {B = B} u e a c d) h =
        rw (starts_one l B u e, same_str_other (upper_of (head (slot_at fs B))) [] (λ q. c (rw q (le_refl []))), order_chain f d (omega arith))

    order_short : length S.order ≤ length fs
    order_short = omega (arith, total_all (length fs) S.order (λ B m. used_inside fs B (chain_used (ranges fs) S.chain B m)), total_le (length fs) S.order (chain_once (ranges fs) S.order S.chain))

    -- The order of a sound file is the computed one.
    pub order_right : order_of fs ≡ S.order
    order_right = order_chain (length fs) S.chain order_short

    pub chain_right : Chain (ranges fs) none (order_of fs)
    chain_right = rw order_right S.chain

    pub strings_right : strings_of fs ≡ all (bounds (ranges fs) S.order)
    strings_right = ap (λ Bs. all (bounds (ranges fs) Bs)) order_right

    pub count_right : string_count fs ≡ length (all (bounds (ranges fs) S.order))
    unfolding string_count
    count_right = ap length strings_right

    -- The strings are ascending, and exactly those of R5.7.
    pub strings_asc : Asc none (strings_of fs) []
    strings_asc = rw strings_right (all_asc (bounds (ranges fs) S.order) none (bounds_asc (ranges fs) S.order none S.chain))

    pub strings_only : (x : Str) → Memᴰ x (strings_of fs) → IsString fs x
    strings_only x m = go (all_begins (bounds (ranges fs) S.order) x (rw strings_right at m))
      where
        upper : (h : SlotHead) → IsUsed h → BoundOf h (upper_of h)
        upper no_range u = absurd u
        upper (range l u) h = upper_bound

        by : (y : Str) → Begins y x → (B : ℕ) × Memᴰ B S.order × (y ≡ upper_of (head (slot_at fs B))) → IsString fs x
        by y g (B, k, e) =
            record { bucket = B; bound = y; is_bound = rw e (upper (head (slot_at fs B)) (chain_used (ranges fs) S.chain B k)); begins = g }

        go : (y : Str) × Memᴰ y (bounds (ranges fs) S.order) × Begins y x → IsString fs x
        go (y, k, g) = by y g (bounds_from (ranges fs) S.order y k)

    pub strings_every : (x : Str) → IsString fs x → Memᴰ x (strings_of fs)
    strings_every x i = rw strings_right (begins_in (bounds (ranges fs) S.order) i.bound x (go (parts (head (slot_at fs i.bucket)) i.bound i.is_bound)) i.begins)
      where
        parts : (h : SlotHead) (y : Str) → BoundOf h y → IsUsed h × ((lower_of h ≡ at y) ⊎ (y ≡ upper_of h))
        parts (range (at l) u) y lower_bound = (tt, inl refl)
        parts (range l u) y upper_bound = (tt, inr refl)
        parts no_range y x'' = elim x'' [ ]

        some_digit : (y : Str) → Begins y x → y ≺ []
        some_digit [] k = absurd (omega (arith, k.some, k.fits))
        some_digit (d ∷ y) k = nil_not_le

        go : IsUsed (head (slot_at fs i.bucket)) × ((lower_of (head (slot_at fs i.bucket)) ≡ at i.bound) ⊎ (i.bound ≡ upper_of (head (slot_at fs i.bucket))))
            → Memᴰ i.bound (bounds (ranges fs) S.order)
        go (u, inr e) = bounds_to (ranges fs) S.order none S.chain i.bound i.bucket (S.listed i.bucket u) e (some_digit i.bound i.begins)
        go (u, inl e) = elim (chain_lower (ranges fs) S.order none S.chain i.bucket i.bound (S.listed i.bucket u) e)
            [ inl q ↦ (clash cc) | inr m ↦ m ]
