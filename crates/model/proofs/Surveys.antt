-- The used slots listed by upper bound, and where two are equal by lower limit, decide whether a file is sound, cut or bad.
use Rattle.model.proofs.Prelude.{List, Memᴰ, mem_cases_cons, mem_head, mem_not_nil, mem_tail, mem_append_right, mem_cast, [], ◌++◌, ◌<◌, ◌∙◌, ◌∷◌, ◌≡◌, ◌≢◌, ◌≤◌, ◌⊎◌, ap, arith, clash, get_or-set_other, inl, inr, refl, set, subst, sym, ℕ, ℕ_discrete}
use Rattle.model.specs.Order.{Low, Str, ◌≺◌, ◌⊴◌, ◌◁◌, at, below, least, none, top}
use Rattle.model.specs.Entries.{Entry, move}
use Rattle.model.specs.Files.{Bad, Chain, Copied, Cut, IsUsed, RangeTable, Slot, Sound, Well, free, head, last, lower_of, next, ranges, slot_at, upper_of, used, well_free}
use Rattle.model.specs.Tries.{occ}
use Rattle.model.proofs.Deciding.{over}
use Rattle.model.proofs.Lists.{mem_insert, mem_leave, mem_parts}
use Rattle.model.proofs.Order.{le_antisym, le_refl, low_at, low_trans, lt_le, lt_le_trans, lt_trans}
use Rattle.model.proofs.Ranges.{chain_some, chain_used}
use Rattle.model.proofs.Cells.{occ_mem, one_if_equal}
use Rattle.model.proofs.Files.{a_below, a_there, chain_once, n_low, one_lower, one_range, slot_freed, well_head}

-- Each used slot stands in the list once, and each number in the list is a used slot.
pub record Lists (fs : List Slot) (Bs : List ℕ) : Type 0 where
  pub once : (B : ℕ) → IsUsed (head (slot_at fs B)) → occ B Bs ≡ 1
  pub only : (B : ℕ) → Memᴰ B Bs → IsUsed (head (slot_at fs B))

-- Any two neighbours are related: from one number on, and in a list.
abbrev pub From : (ℕ → ℕ → Type 0) → ℕ → List ℕ → Type 0
From R B [] = Unit {0}
From R B (C ∷ Bs) = R B C × From R C Bs

abbrev pub Neighbours : (ℕ → ℕ → Type 0) → List ℕ → Type 0
Neighbours R [] = Unit {0}
Neighbours R (B ∷ Bs) = From R B Bs

-- The first range stands before the second, or is equal to it.
abbrev pub Before : RangeTable → ℕ → ℕ → Type 0
Before F B C = (F.upper B ≺ F.upper C) ⊎ ((F.upper B ≡ F.upper C) × (F.lower B ⊴ F.lower C))

abbrev pub Sorted : List Slot → List ℕ → Type 0
Sorted fs Bs = Neighbours (Before (ranges fs)) Bs

-- No two neighbours have the same upper.
abbrev pub Differ : RangeTable → ℕ → ℕ → Type 0
Differ F B C = F.upper B ≢ F.upper C

abbrev pub Apart : List Slot → List ℕ → Type 0
Apart fs Bs = Neighbours (Differ (ranges fs)) Bs

-- R4.5 and R4.6: the chain of bounds, from a lower limit on.
abbrev pub Follows : RangeTable → Low → List ℕ → Type 0
Follows F l [] = l ≡ at []
Follows F l (B ∷ Bs) = (F.lower B ≡ l) × Follows F (at (F.upper B)) Bs

-- Lists of numbers: neighbours, repeats, members.
module _ (R : ℕ → ℕ → Type 0) where
  from_join : (B : ℕ) (Xs : List ℕ) (A : ℕ) (Ys : List ℕ) → From R B (Xs ++ (A ∷ [])) → From R A Ys → From R B (Xs ++ (A ∷ Ys))
  from_join B [] A Ys h k = (h.0, k)
  from_join B (X ∷ Xs) A Ys h k = (h.0, from_join X Xs A Ys h.1 k)

  pub neighbours_join : (Xs : List ℕ) (A : ℕ) (Ys : List ℕ) → Neighbours R (Xs ++ (A ∷ [])) → From R A Ys → Neighbours R (Xs ++ (A ∷ Ys))
  neighbours_join [] A Ys h k = k
  neighbours_join (X ∷ Xs) A Ys h k = from_join X Xs A Ys h k

  from_split : (B : ℕ) (Xs : List ℕ) (A : ℕ) (Ys : List ℕ) → From R B (Xs ++ (A ∷ Ys)) → From R B (Xs ++ (A ∷ [])) × From R A Ys
  from_split B [] A Ys h = ((h.0, tt), h.1)
  from_split B (X ∷ Xs) A Ys h = let r = from_split X Xs A Ys h.1 in ((h.0, r.0), r.1)

  pub neighbours_split : (Xs : List ℕ) (A : ℕ) (Ys : List ℕ) → Neighbours R (Xs ++ (A ∷ Ys)) → Neighbours R (Xs ++ (A ∷ [])) × From R A Ys
  neighbours_split [] A Ys h = (tt, h)
  neighbours_split (X ∷ Xs) A Ys h = from_split X Xs A Ys h

  from_rest : (B : ℕ) (Bs : List ℕ) → From R B Bs → Neighbours R Bs
  from_rest B [] h = tt
  from_rest B (C ∷ Bs) h = h.1

  module _ (S : ℕ → ℕ → Type 0) where
    from_map : (B : ℕ) (Bs : List ℕ) → ((C D : ℕ) → Memᴰ C (B ∷ Bs) → Memᴰ D (B ∷ Bs) → R C D → S C D) → From R B Bs → From S B Bs
    from_map B [] f h = tt
    from_map B (C ∷ Bs) f h =
        (f B C (mem_head refl) (mem_tail (mem_head refl)) h.0, from_map C Bs (λ D E m k. f D E (mem_tail m) (mem_tail k)) h.1)

    pub neighbours_map : (Bs : List ℕ) → ((C D : ℕ) → Memᴰ C Bs → Memᴰ D Bs → R C D → S C D) → Neighbours R Bs → Neighbours S Bs
    neighbours_map [] f h = tt
    neighbours_map (B ∷ Bs) f h = from_map B Bs f h

-- No number stands twice.
abbrev Distinct : List ℕ → Type 0
Distinct [] = Unit {0}
Distinct (B ∷ Bs) = (¬ Memᴰ B Bs) × Distinct Bs

pub mem_occ : (i : ℕ) (vs : List ℕ) → Memᴰ i vs → 0 < occ i vs
mem_occ i [] m = absurd (mem_not_nil m)
mem_occ i (v ∷ vs) (mem_head e) = omega (arith, one_if_equal i v e)
mem_occ i (v ∷ vs) (mem_tail m) = omega (arith, mem_occ i vs m)

once_distinct : (Bs : List ℕ) → ((i : ℕ) → occ i Bs ≤ 1) → Distinct Bs
once_distinct [] h = tt
once_distinct (B ∷ Bs) h =
    (λ m. omega (arith, h B, one_if_equal B B refl, mem_occ B Bs m), once_distinct Bs (λ i. omega (arith, h i)))

distinct_insert : (Xs : List ℕ) (A N : ℕ) (Ys : List ℕ) → Distinct (Xs ++ (A ∷ Ys)) → ¬ Memᴰ N (Xs ++ (A ∷ Ys)) → Distinct (Xs ++ (A ∷ N ∷ Ys))
distinct_insert [] A N Ys d n =
    (λ m. elim (mem_cases_cons m) [ inl e ↦ n (mem_head (sym e)) | inr k ↦ d.0 k ], (λ m. n (mem_tail m), d.1))
distinct_insert (X ∷ Xs) A N Ys d n =
    (λ m. elim (mem_leave Xs A N Ys m) [ inl e ↦ n (mem_head (sym e)) | inr k ↦ d.0 k ], distinct_insert Xs A N Ys d.1 (λ m. n (mem_tail m)))

distinct_leave : (Xs : List ℕ) (A N : ℕ) (Ys : List ℕ) → Distinct (Xs ++ (A ∷ N ∷ Ys)) → ¬ Memᴰ N (Xs ++ (A ∷ Ys))
distinct_leave [] A N Ys d m = elim (mem_cases_cons m) [ inl e ↦ d.0 (mem_head (sym e)) | inr k ↦ d.1.0 k ]
distinct_leave (X ∷ Xs) A N Ys d m = elim (mem_cases_cons m) [
  | inl e ↦ d.0 (mem_append_right Xs (mem_tail (mem_head (sym e))))
  | inr k ↦ distinct_leave Xs A N Ys d.1 k
]

pub lists_mem : {fs : List Slot} {Bs : List ℕ} → Lists fs Bs → (B : ℕ) → IsUsed (head (slot_at fs B)) → Memᴰ B Bs
lists_mem {Bs = Bs} L B u = occ_mem B Bs (omega (arith, L.once B u))

lists_distinct : {fs : List Slot} {Bs : List ℕ} → Lists fs Bs → Distinct Bs
lists_distinct {Bs = Bs} L = once_distinct Bs go
  where
    go : (i : ℕ) → occ i Bs ≤ 1
    go i = elim (ℕ_discrete (occ i Bs) 0) [
      | yes e ↦ omega arith
      | no n ↦ omega (arith, L.once i (L.only i (occ_mem i Bs (omega arith))))
    ]

low_antisym : {l m : Low} → l ⊴ m → m ⊴ l → l ≡ m
low_antisym least least = refl
low_antisym (below p) (below q) = ap at (le_antisym p q)

module _ (F : RangeTable) where
  before_trans : {A B C : ℕ} → Before F A B → Before F B C → Before F A C
  before_trans (inl p) (inl q) = inl (lt_trans p q)
  before_trans (inl p) (inr q) = inl (rw (← q.0) p)
  before_trans (inr p) (inl q) = inl (rw p.0 q)
  before_trans (inr p) (inr q) = inr (p.0 ∙ q.0, low_trans p.1 q.1)

  before_antisym : {B C : ℕ} → Before F B C → Before F C B → (F.upper B ≡ F.upper C) × (F.lower B ≡ F.lower C)
  before_antisym (inl p) (inl q) = absurd (q (lt_le p))
  before_antisym {B} (inl p) (inr q) = absurd (p (rw q.0 (le_refl (F.upper B))))
  before_antisym {B} {C} (inr p) (inl q) = absurd (q (rw p.0 (le_refl (F.upper C))))
  before_antisym (inr p) (inr q) = (p.0, low_antisym p.1 q.1)

  first_before : (B : ℕ) (Bs : List ℕ) → From (Before F) B Bs → (C : ℕ) → Memᴰ C Bs → Before F B C
  first_before B [] s C m = absurd (mem_not_nil m)
  first_before B (D ∷ Bs) s C m = elim (mem_cases_cons m) [
    | inl e ↦ rw e s.0
    | inr k ↦ before_trans {B = D} s.0 (first_before D Bs s.1 C k)
  ]

  -- Two sorted lists with the same members, where no two members have the same range, are equal.
  sorted_unique : (Bs Cs : List ℕ) → Neighbours (Before F) Bs → Neighbours (Before F) Cs → Distinct Bs → Distinct Cs
      → ((B : ℕ) → Memᴰ B Bs → Memᴰ B Cs) → ((B : ℕ) → Memᴰ B Cs → Memᴰ B Bs)
      → ((B C : ℕ) → Memᴰ B Bs → Memᴰ C Bs → F.upper B ≡ F.upper C → F.lower B ≡ F.lower C → B ≡ C) → Bs ≡ Cs
  sorted_unique [] [] s t p q f g a = refl
  sorted_unique [] (C ∷ Cs) s t p q f g a = absurd (mem_not_nil (g C (mem_head refl)))
  sorted_unique (B ∷ Bs) [] s t p q f g a = absurd (mem_not_nil (f B (mem_head refl)))
  sorted_unique (B ∷ Bs) (C ∷ Cs) s t p q f g a =
      let e : B ≡ C = elim (mem_cases_cons (g C (mem_head refl))) [
        | inl e ↦ sym e
        | inr m ↦ elim (mem_cases_cons (f B (mem_head refl))) [
          | inl e ↦ e
          | inr k ↦ (let h = before_antisym (first_before B Bs s C m) (first_before C Cs t B k) in a B C (mem_head refl) (mem_tail m) h.0 h.1)
        ]
      ] in
      let r : Bs ≡ Cs = sorted_unique Bs Cs (from_rest (Before F) B Bs s) (from_rest (Before F) C Cs t) p.1 q.1
      (λ D m. elim (mem_cases_cons (f D (mem_tail m))) [ inl d ↦ absurd (p.0 (mem_cast (e ∙ sym d) m)) | inr k ↦ k ])
      (λ D m. elim (mem_cases_cons (g D (mem_tail m))) [ inl d ↦ absurd (q.0 (mem_cast (sym e ∙ sym d) m)) | inr k ↦ k ])
      (λ D E m k. a D E (mem_tail m) (mem_tail k)) in
      cc

  -- In a chain uppers strictly ascend.
  abbrev pub Rises : ℕ → ℕ → Type 0
  Rises B C = F.upper B ≺ F.upper C

  pub chain_rises : (B : ℕ) (Bs : List ℕ) {l : Low} → Chain F l (B ∷ Bs) → From Rises B Bs
  chain_rises B [] c = tt
  chain_rises B (C ∷ []) (next u e a b (last v g h)) = (rw h b, tt)
  chain_rises B (C ∷ []) (next u e a b (next v g h i c)) = absurd (chain_some F c)
  chain_rises B (C ∷ D ∷ Bs) (next u e a b (next v g h i c)) = (over h, chain_rises C (D ∷ Bs) (next v g h i c))

  chain_neighbours : (Bs : List ℕ) {l : Low} → Chain F l Bs → Neighbours Rises Bs
  chain_neighbours [] c = tt
  chain_neighbours (B ∷ Bs) c = chain_rises B Bs c

  chain_distinct : (Bs : List ℕ) {l : Low} → Chain F l Bs → Distinct Bs
  chain_distinct Bs c = once_distinct Bs (chain_once F Bs c)

  rises_apart : {B C : ℕ} → Rises B C → Differ F B C
  rises_apart {B} {C} p e = p (rw e (le_refl (F.upper C)))

  pub chain_follows : (Bs : List ℕ) {l : Low} → Chain F l Bs → Follows F l Bs
  chain_follows [] c = absurd (chain_some F c)
  chain_follows (B ∷ []) (last u e f) = (e, ap at f)
  chain_follows (B ∷ []) (next u e a b c) = absurd (chain_some F c)
  chain_follows (B ∷ C ∷ Bs) (next u e a b c) = (e, chain_follows (C ∷ Bs) c)

-- Slots that are the same follow on each other alike.
pub follows_same : (fs gs : List Slot) (Bs : List ℕ) (l : Low) → ((B : ℕ) → Memᴰ B Bs → slot_at gs B ≡ slot_at fs B) → Follows (ranges gs) l Bs → Follows (ranges fs) l Bs
follows_same fs gs [] l f h = h
follows_same fs gs (B ∷ Bs) l f h =
    let e : slot_at gs B ≡ slot_at fs B = f B (mem_head refl) in (
      sym (ap (λ x. lower_of (head x)) e) ∙ h.0,
      subst (λ x. Follows (ranges fs) (at (upper_of (head x))) Bs) e (follows_same fs gs Bs (at ((ranges gs).upper B)) (λ C m. f C (mem_tail m)) h.1),
    )

-- The first two neighbours with the same upper.
pub record Twins (fs : List Slot) (Bs : List ℕ) (A N : ℕ) : Type 0 where
  pub before : List ℕ
  pub after : List ℕ
  pub is : Bs ≡ before ++ (A ∷ N ∷ after)
  pub apart : Apart fs (before ++ (A ∷ []))
  pub same : (ranges fs).upper A ≡ (ranges fs).upper N

pub apart_no_twins : {fs : List Slot} {Bs : List ℕ} {A N : ℕ} → Apart fs Bs → Twins fs Bs A N → ⊥
apart_no_twins {fs} {Bs} {A} {N} h T =
    (neighbours_split (Differ (ranges fs)) T.before A (N ∷ T.after) (subst (λ Cs. Apart fs Cs) T.is h)).1.0 T.same

module _ (b : ℕ) where
  -- N is a copy, not yet cut out, of the upper part of A.
  pub record Copy (fs : List Slot) (A N : ℕ) : Type 0 where
    pub low : Str
    pub up : Str
    pub new : List Entry
    pub n_is : slot_at fs N ≡ used (at low) up new
    pub a_low : Low
    pub old : List Entry
    pub a_is : slot_at fs A ≡ used a_low up old
    pub below : a_low ◁ low
    pub copied : Copied (move low old) new

  module _ (fs : List Slot) (w : (B : ℕ) → Well b (slot_at fs B)) where
    follows_from : (B : ℕ) (Bs : List ℕ) (l : Low) → ((C : ℕ) → Memᴰ C (B ∷ Bs) → IsUsed (head (slot_at fs C))) → Follows (ranges fs) l (B ∷ Bs) → Chain (ranges fs) l (B ∷ Bs)
    follows_from B [] l u h =
        let q : at ((ranges fs).upper B) ≡ at [] = h.1 in
        let p : (ranges fs).upper B ≡ [] = cc in
        last (u B (mem_head refl)) h.0 p
    follows_from B (C ∷ Bs) l u h =
        let rest : (D : ℕ) → Memᴰ D (C ∷ Bs) → IsUsed (head (slot_at fs D)) = λ D m. u D (mem_tail m) in
        let own : (D : ℕ) → IsUsed (head (slot_at fs D)) → (ranges fs).lower D ◁ (ranges fs).upper D = λ D k. well_head b (w D) k in
        next (u B (mem_head refl)) h.0
        (subst (λ m. m ◁ (ranges fs).upper B) h.0 (own B (u B (mem_head refl))))
        (lt_le_trans (over (subst (λ m. m ◁ (ranges fs).upper C) h.1.0 (own C (rest C (mem_head refl))))) top)
        (follows_from C Bs (at ((ranges fs).upper B)) rest h.1)

    -- Slots that follow on each other are a chain.
    pub follows_chain : (Bs : List ℕ) → ((B : ℕ) → Memᴰ B Bs → IsUsed (head (slot_at fs B))) → Follows (ranges fs) none Bs → Chain (ranges fs) none Bs
    follows_chain [] u h = clash cc
    follows_chain (B ∷ Bs) u h = follows_from B Bs none u h

    pub chain_sound : {Bs : List ℕ} → Lists fs Bs → Chain (ranges fs) none Bs → Sound b fs
    chain_sound {Bs} L c = record { order = Bs; chain = c; listed = lists_mem L; well = w }

    pub follows_sound : {Bs : List ℕ} → Lists fs Bs → Follows (ranges fs) none Bs → Sound b fs
    follows_sound {Bs} L h = chain_sound L (follows_chain Bs L.only h)

    well_freed : (N B : ℕ) → Well b (slot_at (set fs N free) B)
    well_freed N B = elim (ℕ_discrete B N) [
      | yes e ↦ rw (e, slot_freed b fs N) well_free
      | no n ↦ rw (get_or-set_other fs N B free free n) (w B)
    ]

  module _ {fs : List Slot} (S : Sound b fs) {Bs : List ℕ} (L : Lists fs Bs) (s : Sorted fs Bs) where
    -- In a sound file the sorted slots are its order, and no two have the same upper.
    pub sound_sorted : Bs ≡ S.order
    sound_sorted = sorted_unique (ranges fs) Bs S.order s
        (neighbours_map (Rises (ranges fs)) (Before (ranges fs)) S.order (λ B C m k p. inl p) (chain_neighbours (ranges fs) S.order S.chain))
        (lists_distinct L)
        (chain_distinct (ranges fs) S.order S.chain)
        (λ B m. S.listed B (L.only B m))
        (λ B m. lists_mem L B (chain_used (ranges fs) S.chain B m))
        (λ B C m k e f. one_lower b S B C (L.only B m) (L.only C k) f)

    pub sound_chain : Chain (ranges fs) none Bs
    sound_chain = subst (λ Cs. Chain (ranges fs) none Cs) (sym sound_sorted) S.chain

    pub sound_apart : Apart fs Bs
    sound_apart = neighbours_map (Rises (ranges fs)) (Differ (ranges fs)) Bs (λ B C m k p. rises_apart (ranges fs) p) (chain_neighbours (ranges fs) Bs sound_chain)

  -- N's slot freed: the others are as they were.
  module _ (fs : List Slot) (N : ℕ) where
    kept : (B : ℕ) → B ≢ N → slot_at (set fs N free) B ≡ slot_at fs B
    kept B n = get_or-set_other fs N B free free n

    freed_other : (B : ℕ) → IsUsed (head (slot_at (set fs N free) B)) → B ≢ N
    freed_other B u e = rw (e, slot_freed b fs N) at u

  -- Of two neighbours with the same upper the second is the slot to free, where it is a copy and the rest is a chain.
  module _ (fs : List Slot) (w : (B : ℕ) → Well b (slot_at fs B)) {Bs : List ℕ} (L : Lists fs Bs) (Xs : List ℕ) (A N : ℕ) (Ys : List ℕ) (is : Bs ≡ Xs ++ (A ∷ N ∷ Ys)) where
    rest_sound : Chain (ranges (set fs N free)) none (Xs ++ (A ∷ Ys)) → Sound b (set fs N free)
    rest_sound c = record {
      order = Xs ++ (A ∷ Ys);
      chain = c;
      listed = λ B u. let n : B ≢ N = freed_other fs N B u in
          elim (mem_leave Xs A N Ys (subst (λ Cs. Memᴰ B Cs) is (lists_mem L B (rw (kept fs N B n) at u)))) [ inl e ↦ absurd (n e) | inr m ↦ m ];
      well = well_freed fs w N;
    }

    pub twin_cut : Copy fs A N → Chain (ranges (set fs N free)) none (Xs ++ (A ∷ Ys)) → Cut b fs N
    twin_cut c d = record {
      low = c.low;
      up = c.up;
      new = c.new;
      n_is = c.n_is;
      n_well = w N;
      freed = rest_sound d;
      A = A;
      a_low = c.a_low;
      old = c.old;
      a_is = kept fs N A (freed_other fs N A (chain_used (ranges (set fs N free)) d A (mem_append_right Xs (mem_head refl)))) ∙ c.a_is;
      below = c.below;
      copied = c.copied;
    }

  -- In a cut file the sorted slots have A and the slot to free as the first neighbours with the same upper, and the rest is a chain.
  module _ {fs : List Slot} {N : ℕ} (C : Cut b fs N) where
    abbrev F : RangeTable
    F = ranges fs

    abbrev G : RangeTable
    G = ranges (set fs N free)

    place : (Xs : List ℕ) × (Ys : List ℕ) × (C.freed.order ≡ Xs ++ (C.A ∷ Ys))
    place = mem_parts C.freed.order (C.freed.listed C.A (rw C.a_is tt))

    same_upper : F.upper C.A ≡ F.upper N
    same_upper = ap (λ x. upper_of (head x)) (a_there b C) ∙ sym (ap (λ x. upper_of (head x)) C.n_is)

    low_under : F.lower C.A ⊴ F.lower N
    low_under = rw (a_there b C, C.n_is) (low_at C.below)

    -- No other slot has N's range.
    n_alone : (B : ℕ) → B ≢ N → IsUsed (head (slot_at fs B)) → F.upper B ≡ F.upper N → F.lower B ≡ F.lower N → ⊥
    n_alone B n u e f =
        let l : F.lower B ≡ at C.low = f ∙ ap (λ x. lower_of (head x)) C.n_is in
        let v : F.upper B ≡ C.up = e ∙ ap (λ x. upper_of (head x)) C.n_is in
        let p : B ≡ C.A = one_range b C.freed C.up (rw (kept fs N B n) (u, rw l (n_low b C), rw v (le_refl C.up))) (rw C.a_is (tt, a_below b C, le_refl C.up)) in
        let q : at C.low ≡ C.a_low = sym l ∙ ap (λ D. F.lower D) p ∙ ap (λ x. lower_of (head x)) (a_there b C) in
        over (rw (← q) at C.below) (le_refl C.low)

    no_equal : (B D : ℕ) → IsUsed (head (slot_at fs B)) → IsUsed (head (slot_at fs D)) → F.upper B ≡ F.upper D → F.lower B ≡ F.lower D → B ≡ D
    no_equal B D u v e f = elim (ℕ_discrete B N) [
      | yes p ↦ elim (ℕ_discrete D N) [
        | yes q ↦ p ∙ sym q
        | no q ↦ absurd (n_alone D q v (sym e ∙ ap F.upper p) (sym f ∙ ap F.lower p))
      ]
      | no p ↦ elim (ℕ_discrete D N) [
        | yes q ↦ absurd (n_alone B p u (e ∙ ap F.upper q) (f ∙ ap F.lower q))
        | no q ↦ one_lower b C.freed B D (rw (kept fs N B p) u) (rw (kept fs N D q) v) (rw (kept fs N B p, kept fs N D q) f)
      ]
    ]

    module _ (Xs Ys : List ℕ) (c : Chain G none (Xs ++ (C.A ∷ Ys))) where
      rest_other : (B : ℕ) → Memᴰ B (Xs ++ (C.A ∷ Ys)) → B ≢ N
      rest_other B m = freed_other fs N B (chain_used G c B m)

      rest_rises : Neighbours (Rises F) (Xs ++ (C.A ∷ Ys))
      rest_rises = neighbours_map (Rises G) (Rises F) (Xs ++ (C.A ∷ Ys))
          (λ B D m k p. rw (kept fs N B (rest_other B m), kept fs N D (rest_other D k)) at p) (chain_neighbours G (Xs ++ (C.A ∷ Ys)) c)

      rises_to : Neighbours (Rises F) (Xs ++ (C.A ∷ []))
      rises_to = (neighbours_split (Rises F) Xs C.A Ys rest_rises).0

      n_before : (Zs : List ℕ) → From (Rises F) C.A Zs → From (Before F) N Zs
      n_before [] h = tt
      n_before (Z ∷ Zs) h = (inl (rw (← same_upper) h.0), from_map (Rises F) (Before F) Z Zs (λ B D m k p. inl p) h.1)

      whole_sorted : Neighbours (Before F) (Xs ++ (C.A ∷ N ∷ Ys))
      whole_sorted = neighbours_join (Before F) Xs C.A (N ∷ Ys)
          (neighbours_map (Rises F) (Before F) (Xs ++ (C.A ∷ [])) (λ B D m k p. inl p) rises_to)
          (inr (same_upper, low_under), n_before Ys (neighbours_split (Rises F) Xs C.A Ys rest_rises).1)

      whole_used : (B : ℕ) → Memᴰ B (Xs ++ (C.A ∷ N ∷ Ys)) → IsUsed (head (slot_at fs B))
      whole_used B m = elim (mem_leave Xs C.A N Ys m) [
        | inl e ↦ rw (e, C.n_is) tt
        | inr k ↦ rw (kept fs N B (rest_other B k)) at (chain_used G c B k)
      ]

    pub cut_sorted : {Bs : List ℕ} → Lists fs Bs → Sorted fs Bs → (T : Twins fs Bs C.A N) × Chain (ranges (set fs N free)) none (T.before ++ (C.A ∷ T.after))
    cut_sorted {Bs} L s = (
      record {
        before = Xs;
        after = Ys;
        is = sorted_unique F Bs (Xs ++ (C.A ∷ N ∷ Ys)) s (whole_sorted Xs Ys c) (lists_distinct L)
            (distinct_insert Xs C.A N Ys (chain_distinct G (Xs ++ (C.A ∷ Ys)) c) (λ m. rest_other Xs Ys c N m refl))
            (λ B m. whole_listed B (L.only B m))
            (λ B m. lists_mem L B (whole_used Xs Ys c B m))
            (λ B D m k e f. no_equal B D (L.only B m) (L.only D k) e f);
        apart = neighbours_map (Rises F) (Differ F) (Xs ++ (C.A ∷ [])) (λ B D m k p. rises_apart F p) (rises_to Xs Ys c);
        same = same_upper;
      },
      c,
    )
      where
        Xs : List ℕ
        Xs = place.0

        Ys : List ℕ
        Ys = place.1

        c : Chain G none (Xs ++ (C.A ∷ Ys))
        c = subst (λ Ds. Chain G none Ds) place.2 C.freed.chain

        whole_listed : (B : ℕ) → IsUsed (head (slot_at fs B)) → Memᴰ B (Xs ++ (C.A ∷ N ∷ Ys))
        whole_listed B u = elim (ℕ_discrete B N) [
          | yes e ↦ mem_append_right Xs (mem_tail (mem_head e))
          | no n ↦ mem_insert Xs C.A N Ys (subst (λ Ds. Memᴰ B Ds) place.2 (C.freed.listed B (rw (kept fs N B n) u)))
        ]

-- The first neighbours with the same upper are determined.
module _ (fs : List Slot) where
  not_earlier : (X : ℕ) (Xs : List ℕ) (A : ℕ) (Ys : List ℕ) (B N : ℕ) (Zs : List ℕ) → B ∷ N ∷ Zs ≡ X ∷ (Xs ++ (A ∷ Ys))
      → From (Differ (ranges fs)) X (Xs ++ (A ∷ [])) → (ranges fs).upper B ≡ (ranges fs).upper N → ⊥
  not_earlier X [] A Ys B N Zs e h q =
      let f : B ≡ X = cc in
      let g : N ≡ A = cc in
      h.0 (sym (ap (ranges fs).upper f) ∙ q ∙ ap (ranges fs).upper g)
  not_earlier X (Y ∷ Xs) A Ys B N Zs e h q =
      let f : B ≡ X = cc in
      let g : N ≡ Y = cc in
      h.0 (sym (ap (ranges fs).upper f) ∙ q ∙ ap (ranges fs).upper g)

  one_place : (Xs : List ℕ) (A N : ℕ) (Ys Xs' : List ℕ) (A' N' : ℕ) (Ys' : List ℕ) → Xs ++ (A ∷ N ∷ Ys) ≡ Xs' ++ (A' ∷ N' ∷ Ys')
      → Apart fs (Xs ++ (A ∷ [])) → Apart fs (Xs' ++ (A' ∷ [])) → (ranges fs).upper A ≡ (ranges fs).upper N → (ranges fs).upper A' ≡ (ranges fs).upper N'
      → (Xs ≡ Xs') × (A ≡ A') × (N ≡ N') × (Ys ≡ Ys')
  one_place [] A N Ys [] A' N' Ys' e h k p q = (refl, (cc), (cc), (cc))
  one_place [] A N Ys (X ∷ Xs') A' N' Ys' e h k p q = absurd (not_earlier X Xs' A' (N' ∷ Ys') A N Ys e k p)
  one_place (X ∷ Xs) A N Ys [] A' N' Ys' e h k p q = absurd (not_earlier X Xs A (N ∷ Ys) A' N' Ys' (sym e) h q)
  one_place (X ∷ Xs) A N Ys (X' ∷ Xs') A' N' Ys' e h k p q =
      let x : X ≡ X' = cc in
      let t : Xs ++ (A ∷ N ∷ Ys) ≡ Xs' ++ (A' ∷ N' ∷ Ys') = cc in
      let r = one_place Xs A N Ys Xs' A' N' Ys' t (from_rest (Differ (ranges fs)) X (Xs ++ (A ∷ [])) h) (from_rest (Differ (ranges fs)) X' (Xs' ++ (A' ∷ [])) k) p q in
      let xs : Xs ≡ Xs' = r.0 in
      ((cc), r.1, r.2, r.3)

pub one_twins : {fs : List Slot} {Bs : List ℕ} {A N A' N' : ℕ} (T : Twins fs Bs A N) (U : Twins fs Bs A' N')
    → (T.before ≡ U.before) × (A ≡ A') × (N ≡ N') × (T.after ≡ U.after)
one_twins {fs} {A = A} {N = N} {A' = A'} {N' = N'} T U =
    one_place fs T.before A N T.after U.before A' N' U.after (sym T.is ∙ U.is) T.apart U.apart T.same U.same

module _ (b : ℕ) where
  cut_copy : {fs : List Slot} {N : ℕ} (C : Cut b fs N) → Copy b fs C.A N
  cut_copy C = record {
    low = C.low;
    up = C.up;
    new = C.new;
    n_is = C.n_is;
    a_low = C.a_low;
    old = C.old;
    a_is = a_there b C;
    below = C.below;
    copied = C.copied;
  }

  -- The verdicts, from comparisons in the file as it is: N need not be freed to see whether the rest is a chain.
  module _ {fs : List Slot} {Bs : List ℕ} (L : Lists fs Bs) where
    module _ {A N : ℕ} (T : Twins fs Bs A N) where
      abbrev rest : List ℕ
      rest = T.before ++ (A ∷ T.after)

      not_in_rest : (B : ℕ) → Memᴰ B rest → B ≢ N
      not_in_rest B m e = distinct_leave T.before A N T.after (subst (λ Cs. Distinct Cs) T.is (lists_distinct L)) (mem_cast (sym e) m)

      pub copy_cut : ((B : ℕ) → Well b (slot_at fs B)) → Copy b fs A N → Follows (ranges fs) none (T.before ++ (A ∷ T.after)) → Cut b fs N
      copy_cut w c h = twin_cut b fs w L T.before A N T.after T.is c
          (follows_chain b (set fs N free) (well_freed b fs w N) rest
          (λ B m. rw (kept b fs N B (not_in_rest B m)) (L.only B (subst (λ Cs. Memᴰ B Cs) (sym T.is) (mem_insert T.before A N T.after m))))
          (follows_same (set fs N free) fs rest none (λ B m. sym (kept b fs N B (not_in_rest B m))) h))

      pub twin_bad : Sorted fs Bs → ¬ (Copy b fs A N × Follows (ranges fs) none (T.before ++ (A ∷ T.after))) → Bad b fs
      twin_bad s n = (λ S. apart_no_twins (sound_apart b S L s) T, λ M C. n (go M C (cut_sorted b C L s)))
        where
          go : (M : ℕ) (C : Cut b fs M) → (U : Twins fs Bs C.A M) × Chain (ranges (set fs M free)) none (U.before ++ (C.A ∷ U.after))
              → Copy b fs A N × Follows (ranges fs) none rest
          go M C (U, c) =
              let e = one_twins T U in
              let h : Follows (ranges fs) none (U.before ++ (C.A ∷ U.after)) = follows_same fs (set fs M free) (U.before ++ (C.A ∷ U.after)) none
              (λ B m. kept b fs M B (freed_other b fs M B (chain_used (ranges (set fs M free)) c B m)))
              (chain_follows (ranges (set fs M free)) (U.before ++ (C.A ∷ U.after)) c) in
              (rw (e.1, e.2) (cut_copy C), rw (e.0, e.1, e.3) h)

    pub apart_bad : Sorted fs Bs → Apart fs Bs → ¬ Follows (ranges fs) none Bs → Bad b fs
    apart_bad s a n = (λ S. n (chain_follows (ranges fs) Bs (sound_chain b S L s)), λ N C. apart_no_twins a (cut_sorted b C L s).0)
