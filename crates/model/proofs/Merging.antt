-- A merge of two neighbours: the file is sound, says the same without the removed name, and has no more strings; after the
-- first store it is cut, and the slot to free is the right one.
use Rattle.model.proofs.Prelude.{Bool, List, Memᴰ, mem_cases_cons, mem_head, mem_not_nil, mem_tail, get_or_eq_default, mem_append_right, [], ◌++◌, ◌+◌, ◌/◌, ◌<◌, ◌∙◌, ◌∷◌, ◌≡◌, ◌≢◌, ◌≤◌, ◌⊎◌, ap, arith, clash, dec_le, false, get_or-set_other, get_or-set_same, inl, inr, le-leb, length, length-append, length-set, lt-leb, not, nothing, refl, set, some, subst, suc, sym, true, ℕ}
use Rattle.model.specs.Order.{Low, Str, ◌≺◌, ◌⊑◌, ◌⊴◌, ◌◁◌, above, at, below, none, top}
use Rattle.model.specs.Tests.{is_at_most, same_str}
use Rattle.model.specs.Names.{Bound, BoundLow}
use Rattle.model.specs.Entries.{Entry, Row, entry, find, keep, move, name_at, no_entries, without}
use Rattle.model.specs.Files.{BoundOf, Chain, Copied, Cut, In, IsString, IsUsed, RangeTable, Slot, Sound, Well, entries_of, exactly, free, head, last, lower_bound, lower_of, next, no_range, one_more, range, ranges, slot_at, upper_bound, upper_of, used, well_free, well_used}
use Rattle.model.specs.Searches.{first, has_lower, has_upper, order_of, string_count}
use Rattle.model.specs.Changes.{Map, Means, Store, left_of, meant, merged, merged_or, removal, remove, right_of}
use Rattle.model.proofs.Deciding.{le?, over, str?}
use Rattle.model.proofs.Lists.{mem_leave, mem_parts}
use Rattle.model.proofs.Order.{Asc, end, le_refl, le_trans, low_at, low_lower, lt_le, step}
use Rattle.model.proofs.Tests.{equal_same_str, le_is_at_most, lt_is_at_most, same_str_other, same_str_self, true_or_false}
use Rattle.model.proofs.Entries.{find_at, find_drop, find_keep, keep_all, keep_comm, row_keep}
use Rattle.model.proofs.Strings.{asc_mem}
use Rattle.model.proofs.Ranges.{chain_other, chain_some}
use Rattle.model.proofs.Files.{at_set, chain_right, first_passes, first_right, has_lower_lower, has_upper_upper, one_lower, one_range, order_right, starts_one, strings_asc, strings_every, strings_only, upper_has_upper, used_inside, well_head, well_parts}

-- Two rows, one after the other.
pub row_lower : {l m : Low} {u : Str} {es : List Entry} → l ⊴ m → Row m es u → Row l es u
row_lower h no_entries = no_entries
row_lower h (entry g a b r) = entry g (low_lower h a) b r

pub row_join : {l : Low} {s u : Str} {es gs : List Entry} → Row l es s → Row (at s) gs u → l ⊴ at s → s ⊑ u → Row l (es ++ gs) u
row_join no_entries r h k = row_lower h r
row_join (entry g a b q) r h k = entry g a (le_trans b k) (row_join q r (below b) k)

-- A name outside of a row's range is not found in it.
pub find_above : {m : Low} {u : Str} {gs : List Entry} → Row m gs u → (k : Str) → ¬ (m ◁ k) → find k gs ≡ nothing
unfolding find
find_above no_entries k n = refl
find_above (entry {e = e} g a b r) k n = rw (same_str_other k e.0 (λ q. n (rw q a))) (find_above r k (λ h. n (low_lower (low_at a) h)))

pub find_right : {l : Low} {s : Str} {es : List Entry} → Row l es s → (gs : List Entry) (k : Str) → ¬ (k ⊑ s) → find k (es ++ gs) ≡ find k gs
unfolding find
find_right no_entries gs k n = refl
find_right (entry {e = e} g a b r) gs k n = rw (same_str_other k e.0 (λ q. n (rw q b))) (find_right r gs k n)

pub find_left : (es gs : List Entry) (k : Str) → find k gs ≡ nothing → find k (es ++ gs) ≡ find k es
unfolding find
find_left [] gs k h = h
find_left (e ∷ es) gs k h = rw (find_left es gs k h)

module _ (t : Str → Bool) where
  pub keep_append : (es gs : List Entry) → keep t (es ++ gs) ≡ keep t es ++ keep t gs
  unfolding keep
  keep_append [] gs = refl
  keep_append (e ∷ es) gs = elim (true_or_false (t e.0)) [ inl h ↦ rw (h, keep_append es gs) | inr h ↦ rw (h, keep_append es gs) ]

  pub keep_none : {l : Low} {s : Str} {es : List Entry} → Row l es s → ((k : Str) → k ⊑ s → t k ≡ false) → keep t es ≡ []
  unfolding keep
  keep_none no_entries f = refl
  keep_none (entry {e = e} g a b r) f = rw (f e.0 b) (keep_none r f)

pub keep_row : (t : Str → Bool) {l : Low} {u : Str} {es : List Entry} → Row l es u → ((k : Str) → l ◁ k → k ⊑ u → t k ≡ true) → keep t es ≡ es
unfolding keep
keep_row t no_entries f = refl
keep_row t (entry {e = e} g a b r) f = rw (f e.0 a b, keep_row t r (λ k c d. f k (low_lower (low_at a) c) d))

-- A name that is found is one entry.
pub without_held : {l : Low} {u : Str} {es : List Entry} → Row l es u → (n : Str) {w : ℕ} → find n es ≡ some w → suc (length (without n es)) ≡ length es
unfolding find keep
without_held no_entries n h = clash cc
without_held (entry {e = e} {es = es} g a b r) n {w} h = elim (str? n e.0) [
  | yes q ↦ rw (equal_same_str e.0 n (sym q), keep_all (λ k. not (same_str k n)) r (λ k c. ap not (same_str_other k n (λ d. over c (rw (d ∙ q) (le_refl e.0))))))
  | no q ↦ (let p : suc (length (without n es)) ≡ length es = without_held r n (rw (same_str_other n e.0 q) at h) in
      rw (same_str_other e.0 n (λ d. q (sym d))) (omega arith))
]

pub find_held : (es gs : List Entry) (k : Str) {w : ℕ} → find k es ≡ some w → find k (es ++ gs) ≡ some w
unfolding find
find_held [] gs k h = clash cc
find_held (e ∷ es) gs k h = elim (str? k e.0) [
  | yes q ↦ rw (equal_same_str k e.0 q) (rw (equal_same_str k e.0 q) at h)
  | no q ↦ rw (same_str_other k e.0 q) (find_held es gs k (rw (same_str_other k e.0 q) at h))
]

-- Of two ascending lists, one with all members of the other is no shorter.
pub asc_shorter : {ys : List Str} {m : Low} {u : Str} → Asc m ys u → {xs : List Str} {l : Low} → Asc l xs u → ((x : Str) → Memᴰ x xs → Memᴰ x ys) → length xs ≤ length ys
asc_shorter end end f = omega arith
asc_shorter (step c d t) end f = omega arith
asc_shorter end (step {x = x} a b s) f = absurd (mem_not_nil (f x (mem_head refl)))
asc_shorter {u = u} (step {x = y} {xs = ys} c d t) (step {x = x} {xs = xs} a b s) f = elim (mem_cases_cons (f x (mem_head refl))) [
  | inl e ↦ (let h : length xs ≤ length ys = asc_shorter t s (λ z m. other z (λ q. over (asc_mem s m).0 (rw (q ∙ sym e) (le_refl x))) (f z (mem_tail m))) in omega arith)
  | inr k ↦ (let h : suc (length xs) ≤ length ys = asc_shorter t (step (asc_mem t k).0 b s) (λ z m. other z (λ q. later z m k q) (f z m)) in omega arith)
]
  where
    other : (z : Str) → z ≢ y → Memᴰ z (y ∷ ys) → Memᴰ z ys
    other z n m = elim (mem_cases_cons m) [ inl e ↦ absurd (n e) | inr k ↦ k ]

    later : (z : Str) → Memᴰ z (x ∷ xs) → Memᴰ x ys → z ≡ y → ⊥
    later z m k q = elim (mem_cases_cons m) [
      | inl e ↦ over (asc_mem t k).0 (rw (sym e ∙ q) (le_refl y))
      | inr j ↦ over (asc_mem t k).0 (lt_le (rw q at (over (asc_mem s j).0)))
    ]

-- The file after both stores of a merge: L has taken in R's range.
pub record Joins (F G : RangeTable) (L R : ℕ) : Type 0 where
  pub left_used : G.Used L
  pub left_lower : G.lower L ≡ F.lower L
  pub left_upper : G.upper L ≡ F.upper R
  pub other : (B : ℕ) → B ≢ L → B ≢ R → F.Used B → (G.Used B) × (G.lower B ≡ F.lower B) × (G.upper B ≡ F.upper B)

-- What comes right after L in a chain, where L's upper is not empty.
pub chain_next : (F : RangeTable) (Xs : List ℕ) (L : ℕ) (Ys : List ℕ) {m : Low} → Chain F m (Xs ++ (L ∷ Ys)) → F.upper L ≺ []
    → (R : ℕ) × (Zs : List ℕ) × (Ys ≡ R ∷ Zs) × F.Used R × (F.lower R ≡ at (F.upper L))
chain_next F [] L Ys (last u e f) h = absurd (h (rw f top))
chain_next F [] L Ys (next u e a b (last {B = R} u' e' f')) h = (R, [], refl, u', e')
chain_next F [] L Ys (next u e a b (next {B = R} {Bs = Zs} u' e' a' b' c')) h = (R, Zs, refl, u', e')
chain_next F (X ∷ []) L Ys (next u e a b c) h = chain_next F [] L Ys c h
chain_next F (X ∷ Y ∷ Xs) L Ys (next u e a b c) h = chain_next F (Y ∷ Xs) L Ys c h

-- Two slots that stand beside each other in a chain, the last one and the first.
pub chain_pair : (F : RangeTable) (Xs : List ℕ) (L R : ℕ) (Ys : List ℕ) {m : Low} → Chain F m (Xs ++ (L ∷ R ∷ Ys)) → F.Used L × F.Used R × (F.lower R ≡ at (F.upper L))
chain_pair F [] L R Ys (next u e a b (last u' e' f')) = (u, u', e')
chain_pair F [] L R Ys (next u e a b (next u' e' a' b' c')) = (u, u', e')
chain_pair F (X ∷ []) L R Ys (next u e a b c) = chain_pair F [] L R Ys c
chain_pair F (X ∷ Y ∷ Xs) L R Ys (next u e a b c) = chain_pair F (Y ∷ Xs) L R Ys c

pub chain_end : (F : RangeTable) (Xs : List ℕ) (L : ℕ) {m : Low} → Chain F m (Xs ++ (L ∷ [])) → F.upper L ≡ []
chain_end F [] L (last u e f) = f
chain_end F [] L (next u e a b c) = absurd (chain_some F c)
chain_end F (X ∷ []) L (next u e a b c) = chain_end F [] L c
chain_end F (X ∷ Y ∷ Xs) L (next u e a b c) = chain_end F (Y ∷ Xs) L c

pub chain_start : (F : RangeTable) (L : ℕ) (Ys : List ℕ) {m : Low} → Chain F m (L ∷ Ys) → F.lower L ≡ m
chain_start F L Ys (last u e f) = e
chain_start F L Ys (next u e a b c) = e

module _ (F G : RangeTable) (L R : ℕ) (J : Joins F G L R) where
  chain_kept : {l : Low} {Bs : List ℕ} → Chain F l Bs → ((B : ℕ) → Memᴰ B Bs → (B ≢ L) × (B ≢ R)) → Chain G l Bs
  chain_kept (last {B = B} u e f) n = let d = n B (mem_head refl) in let o = J.other B d.0 d.1 u in last o.0 (o.1 ∙ e) (o.2 ∙ f)
  chain_kept (next {B = B} u e a b c) n =
      let d = n B (mem_head refl) in let o = J.other B d.0 d.1 u in
      next o.0 (o.1 ∙ e) (rw (← o.2) at a) (rw (← o.2) at b) (rw (← o.2) at (chain_kept c (λ C m. n C (mem_tail m))))

  -- The order without R.
  pub chain_join : (Xs Ys : List ℕ) {l : Low} → Chain F l (Xs ++ (L ∷ R ∷ Ys)) → Chain G l (Xs ++ (L ∷ Ys))
  chain_join [] Ys (next u e a b (last u' e' f')) = last J.left_used (J.left_lower ∙ e) (J.left_upper ∙ f')
  chain_join [] Ys (next u e a b (next u' e' a' b' c)) =
      next {Bs = Ys} J.left_used (J.left_lower ∙ e) (rw J.left_upper (low_lower (low_at a) a')) (rw J.left_upper b')
      (rw J.left_upper (chain_kept c (λ C m. (chain_other F L (R ∷ Ys) (next u e a b (next u' e' a' b' c)) C (mem_tail m), chain_other F R Ys (next u' e' a' b' c) C m))))
  chain_join (B ∷ []) Ys (next u e a b c) =
      let o = J.other B (λ q. chain_other F B (L ∷ R ∷ Ys) (next u e a b c) L (mem_head refl) (sym q))
      (λ q. chain_other F B (L ∷ R ∷ Ys) (next u e a b c) R (mem_tail (mem_head refl)) (sym q)) u in
      next o.0 (o.1 ∙ e) (rw (← o.2) at a) (rw (← o.2) at b) (rw (← o.2) at (chain_join [] Ys c))
  chain_join (B ∷ X ∷ Xs) Ys (next u e a b c) =
      let o = J.other B (λ q. chain_other F B (X ∷ (Xs ++ (L ∷ R ∷ Ys))) (next u e a b c) L (mem_append_right (X ∷ Xs) (mem_head refl)) (sym q))
      (λ q. chain_other F B (X ∷ (Xs ++ (L ∷ R ∷ Ys))) (next u e a b c) R (mem_append_right (X ∷ Xs) (mem_tail (mem_head refl))) (sym q)) u in
      next o.0 (o.1 ∙ e) (rw (← o.2) at a) (rw (← o.2) at b) (rw (← o.2) at (chain_join (X ∷ Xs) Ys c))

bound_parts : {l : Low} {u y : Str} → BoundOf (range l u) y → (l ≡ at y) ⊎ (y ≡ u)
bound_parts lower_bound = inl refl
bound_parts upper_bound = inr refl

bound_free : {y : Str} → BoundOf no_range y → ⊥
bound_free p = elim p [ ]

-- L and R are neighbours of a sound file, with the bound s between them.
module _ (b : ℕ) (fs : List Slot) (S : Sound b fs) (L R : ℕ) (l : Low) (s u : Str) (es gs : List Entry)
    (l_is : slot_at fs L ≡ used l s es) (r_is : slot_at fs R ≡ used (at s) u gs) where
  pub well_l : BoundLow l × Bound s × (l ◁ s) × Row l es s × (length es ≤ b)
  well_l = well_parts b (rw l_is at (S.well L))

  pub well_r : BoundLow (at s) × Bound u × (at s ◁ u) × Row (at s) gs u × (length gs ≤ b)
  well_r = well_parts b (rw r_is at (S.well R))

  inside_l : L < length fs
  inside_l = used_inside fs L (rw l_is tt)

  inside_r : R < length fs
  inside_r = used_inside fs R (rw r_is tt)

  s_under : s ≺ u
  s_under = over well_r.2

  pub whole_low : l ◁ u
  whole_low = low_lower (low_at well_l.2) well_r.2

  pub left_not_right : L ≢ R
  left_not_right e =
      let q : l ≡ at s = ap (λ x. lower_of (head x)) (sym l_is ∙ ap (slot_at fs) e ∙ r_is) in
      over (rw q at well_l.2) (le_refl s)

  -- R comes right after L.
  pub neighbours : (Xs : List ℕ) × (Ys : List ℕ) × (S.order ≡ Xs ++ (L ∷ R ∷ Ys))
  neighbours = go (mem_parts S.order (S.listed L (rw l_is tt)))
    where
      upper_l : upper_of (head (slot_at fs L)) ≡ s
      upper_l = ap (λ x. upper_of (head x)) l_is

      not_last : (ranges fs).upper L ≺ []
      not_last h = s_under (le_trans top (rw upper_l at h))

      by : (Xs Ys : List ℕ) → S.order ≡ Xs ++ (L ∷ Ys) → (C : ℕ) × (Zs : List ℕ) × (Ys ≡ C ∷ Zs) × (ranges fs).Used C × ((ranges fs).lower C ≡ at ((ranges fs).upper L))
          → (Xs : List ℕ) × (Ys : List ℕ) × (S.order ≡ Xs ++ (L ∷ R ∷ Ys))
      by Xs Ys e (C, Zs, y, k, lo) =
          let q : C ≡ R = one_lower b S C R k (rw r_is tt) (lo ∙ ap at upper_l ∙ sym (ap (λ x. lower_of (head x)) r_is)) in
          (Xs, Zs, e ∙ ap (λ (Bs : List ℕ). Xs ++ (L ∷ Bs)) (y ∙ ap (λ D. D ∷ Zs) q))

      go : (Xs : List ℕ) × (Ys : List ℕ) × (S.order ≡ Xs ++ (L ∷ Ys)) → (Xs : List ℕ) × (Ys : List ℕ) × (S.order ≡ Xs ++ (L ∷ R ∷ Ys))
      go (Xs, Ys, e) = by Xs Ys e (chain_next (ranges fs) Xs L Ys (rw e at S.chain) not_last)

  -- L takes in R's range, and the entries ws.
  module _ (ws : List Entry) where
    abbrev pub widened : List Slot
    widened = set fs L (used l u ws)

    abbrev pub joined : List Slot
    joined = set widened R free

    pub in_joined : (P : ℕ → Slot → Type 0) → P L (used l u ws) → P R free → ((B : ℕ) → B ≢ L → B ≢ R → P B (slot_at fs B)) → (B : ℕ) → P B (slot_at joined B)
    in_joined P p q f = at_set P widened R free (rw (length-set fs L (used l u ws)) inside_r) q
        (λ B d. at_set (λ C x. C ≢ R → P C x) fs L (used l u ws) inside_l (λ e. p) (λ C e d. f C e d) B d)

    pub joined_left : slot_at joined L ≡ used l u ws
    joined_left = get_or-set_other widened R L free free left_not_right ∙ get_or-set_same fs L (used l u ws) free inside_l

    pub widened_right : slot_at widened R ≡ used (at s) u gs
    widened_right = get_or-set_other fs L R (used l u ws) free (λ e. left_not_right (sym e)) ∙ r_is

    pub joins : Joins (ranges fs) (ranges joined) L R
    joins = record {
      left_used = rw joined_left tt;
      left_lower = rw (joined_left, l_is);
      left_upper = rw (joined_left, r_is);
      other = λ B d c h. let e : slot_at joined B ≡ slot_at fs B = get_or-set_other widened R B free free c ∙ get_or-set_other fs L B (used l u ws) free d in
          (rw e h, rw e, rw e);
    }

    unfoldable pub join_at : (Xs Ys : List ℕ) → S.order ≡ Xs ++ (L ∷ R ∷ Ys) → Row l ws u → length ws ≤ b → Sound b joined
    join_at Xs Ys e r k = record {
      order = Xs ++ (L ∷ Ys);
      chain = chain_join (ranges fs) (ranges joined) L R joins Xs Ys (rw e at S.chain);
      listed = in_joined (λ B x. IsUsed (head x) → Memᴰ B (Xs ++ (L ∷ Ys)))
          (λ h. mem_append_right Xs (mem_head refl))
          (λ h. absurd h)
          (λ B d c h. elim (mem_leave Xs L R Ys (rw e at (S.listed B h))) [ inl q ↦ absurd (c q) | inr m ↦ m ]);
      well = in_joined (λ B x. Well b x) (well_used well_l.0 well_r.1 whole_low r k) well_free (λ B d c. S.well B);
    }

    pub join_sound : Row l ws u → length ws ≤ b → Sound b joined
    join_sound r k = let p = neighbours in join_at p.0 p.1 p.2 r k

    -- The range order after the merge is the one before it, without R.
    pub join_order : (Xs Ys : List ℕ) → order_of fs ≡ Xs ++ (L ∷ R ∷ Ys) → Row l ws u → length ws ≤ b → order_of joined ≡ Xs ++ (L ∷ Ys)
    unfolding join_at
    join_order Xs Ys e r k = order_right b (join_at Xs Ys (sym (order_right b S) ∙ e) r k)

    -- After the first store the file is cut, and freeing R leaves the file after both.
    pub join_cut : Row l ws u → length ws ≤ b → Copied (move s ws) gs → Cut b widened R
    join_cut r k c = record {
      low = s;
      up = u;
      new = gs;
      n_is = widened_right;
      n_well = rw widened_right (rw r_is at (S.well R));
      freed = join_sound r k;
      A = L;
      a_low = l;
      old = ws;
      a_is = joined_left;
      below = well_l.2;
      copied = c;
    }

    pub join_means : (m m' : Map) → Means fs m → ((k : Str) → l ◁ k → k ⊑ u → find k ws ≡ m' k) → ((k : Str) → ¬ (In (range l u) k) → m k ≡ m' k) → Means joined m'
    join_means m m' M f g k = in_joined (λ B x. In (head x) k → find k (entries_of x) ≡ m' k)
        (λ h. f k h.1 h.2)
        (λ h. absurd h.0)
        (λ B d c h. M k B h ∙ g k (λ q. elim (le? k s) [
          | yes p ↦ d (one_range b S k h (rw l_is (tt, q.1, p)))
          | no p ↦ c (one_range b S k h (rw r_is (tt, above p, q.2)))
        ]))

    -- No string is new.
    pub join_count : Row l ws u → length ws ≤ b → string_count joined ≤ string_count fs
    unfolding string_count
    join_count r k = asc_shorter (strings_asc b S) (strings_asc b (join_sound r k)) (λ x m. strings_every b S x (old x (strings_only b (join_sound r k) x m)))
      where
        found : (B : ℕ) (y : Str) → BoundOf (head (slot_at joined B)) y → (C : ℕ) × BoundOf (head (slot_at fs C)) y
        found B y = in_joined (λ B x. BoundOf (head x) y → (C : ℕ) × BoundOf (head (slot_at fs C)) y)
            (λ h. elim (bound_parts h) [ inl q ↦ (L, rw (l_is, q) lower_bound) | inr q ↦ (R, rw (r_is, q) upper_bound) ])
            (λ h. absurd (bound_free h))
            (λ B d c h. (B, h)) B

        old : (x : Str) → IsString joined x → IsString fs x
        old x i = let f = found i.bucket i.bound i.is_bound in record { bucket = f.0; bound = i.bound; is_bound = f.1; begins = i.begins }

  -- The merge of a removal: n is a name of either range.
  module _ (n : Str) (lo : l ◁ n) (up : n ⊑ u) where
    abbrev pub left_over : List Entry
    left_over = without n (es ++ gs)

    -- The file after the first store, and after both.
    abbrev pub after_first : List Slot
    after_first = widened left_over

    abbrev pub after_second : List Slot
    after_second = joined left_over

    pub row_both : Row l (es ++ gs) u
    row_both = row_join well_l.3 well_r.3 (low_at well_l.2) (lt_le s_under)

    pub row_merged : Row l left_over u
    row_merged = row_keep (λ k. not (same_str k n)) l u row_both (λ k p c d. (c, d))

    -- What L holds in R's range is what R holds, without the name.
    pub move_both : move s (es ++ gs) ≡ gs
    move_both = keep_append (λ k. not (is_at_most k s)) es gs
        ∙ rw (keep_none (λ k. not (is_at_most k s)) well_l.3 (λ k h. ap not (le_is_at_most k s h)), keep_all (λ k. not (is_at_most k s)) well_r.3 (λ k h. ap not (lt_is_at_most k s (over h))))

    pub move_merged : move s left_over ≡ without n gs
    move_merged = keep_comm (λ k. not (is_at_most k s)) (λ k. not (same_str k n)) (es ++ gs) ∙ ap (without n) move_both

    -- With the right neighbour (the name is the left slot's): R is an exact copy.
    pub right_copied : n ⊑ s → move s left_over ≡ gs
    right_copied h = move_merged ∙ keep_all (λ k. not (same_str k n)) well_r.3 (λ k a. ap not (same_str_other k n (λ e. over a (rw e h))))

    -- With the left neighbour (the name is the right slot's): R has one more, the removed name.
    pub left_copied : {w : ℕ} → find n gs ≡ some w → (i : ℕ) × (i < length gs) × (name_at gs i ≡ n) × (without (name_at gs i) gs ≡ move s left_over)
    left_copied {w} h = go (find_at n gs w h)
      where
        go : (i : ℕ) × (i < length gs) × (name_at gs i ≡ n) → (i : ℕ) × (i < length gs) × (name_at gs i ≡ n) × (without (name_at gs i) gs ≡ move s left_over)
        go (i, k, e) = (i, k, e, rw e (sym move_merged))

    pub copied : (n ⊑ s) ⊎ ((w : ℕ) × (find n gs ≡ some w)) → Copied (move s left_over) gs
    copied held = elim held [ inl h ↦ subst (λ x. Copied x gs) (sym (right_copied h)) exactly | inr h ↦ more (left_copied h.1) ]
      where
        more : (i : ℕ) × (i < length gs) × (name_at gs i ≡ n) × (without (name_at gs i) gs ≡ move s left_over) → Copied (move s left_over) gs
        more (i, k, e, q) = one_more i k q

    pub find_both : (m : Map) → Means fs m → (k : Str) → l ◁ k → k ⊑ u → find k (es ++ gs) ≡ m k
    find_both m M k a c = elim (le? k s) [
      | yes h ↦ find_left es gs k (find_above well_r.3 k (λ q. over q h)) ∙ (rw l_is at (M k L (rw l_is (tt, a, h))))
      | no h ↦ find_right well_l.3 gs k h ∙ (rw r_is at (M k R (rw r_is (tt, above h, c))))
    ]

    pub find_merged : (m : Map) → Means fs m → (k : Str) → l ◁ k → k ⊑ u → find k left_over ≡ meant (remove n) m k
    find_merged m M k a c = elim (str? k n) [
      | yes e ↦ rw (e, same_str_self n) (find_drop (λ k. not (same_str k n)) n (es ++ gs) (ap not (same_str_self n)))
      | no e ↦ rw (same_str_other k n e) (find_keep (λ k. not (same_str k n)) k (es ++ gs) (ap not (same_str_other k n e)) ∙ find_both m M k a c)
    ]

    -- What each name finds: what it found before, without the removed one.
    pub merge_means : (m : Map) → Means fs m → Means after_second (meant (remove n) m)
    merge_means m M = join_means left_over m (meant (remove n) m) M (find_merged m M) (λ k h. sym (rw (same_str_other k n (λ e. h (rw e (tt, lo, up))))))

    -- The merged entries, and their number, by the slot that held the name: one less than both slots had.
    pub entries_right : n ⊑ s → left_over ≡ without n es ++ gs
    entries_right h = keep_append (λ k. not (same_str k n)) es gs ∙ rw (keep_all (λ k. not (same_str k n)) well_r.3 (λ k a. ap not (same_str_other k n (λ e. over a (rw e h)))))

    pub entries_left : s ≺ n → left_over ≡ es ++ without n gs
    entries_left h = keep_append (λ k. not (same_str k n)) es gs ∙ rw (keep_row (λ k. not (same_str k n)) well_l.3 (λ k c a. ap not (same_str_other k n (λ e. h (rw e at a)))))

    pub size_right : {w : ℕ} → find n es ≡ some w → suc (length left_over) ≡ length es + length gs
    size_right h = without_held row_both n (find_held es gs n h) ∙ length-append es gs

    pub size_left : {w : ℕ} → s ≺ n → find n gs ≡ some w → suc (length left_over) ≡ length es + length gs
    size_left k h = without_held row_both n (find_right well_l.3 gs n k ∙ h) ∙ length-append es gs

    pub merge_frees : slot_at after_second R ≡ free
    merge_frees = get_or-set_same after_first R free free (rw (length-set fs L (used l u left_over)) inside_r)

    -- At most b/2 entries together: so at most b.
    module _ (few : length left_over ≤ b / 2) where
      fits : length left_over ≤ b
      fits = omega (arith, few)

      pub merge_sound : Sound b after_second
      merge_sound = join_sound left_over row_merged fits

      pub merge_cut : (n ⊑ s) ⊎ ((w : ℕ) × (find n gs ≡ some w)) → Cut b after_first R
      merge_cut held = join_cut left_over row_merged fits (copied held)

      pub merge_order : (Xs Ys : List ℕ) → order_of fs ≡ Xs ++ (L ∷ R ∷ Ys) → order_of after_second ≡ Xs ++ (L ∷ Ys)
      merge_order Xs Ys e = join_order left_over Xs Ys e row_merged fits

      pub merge_few : string_count after_second ≤ string_count fs
      merge_few = join_count left_over row_merged fits

left_ends : (fs : List Slot) (l : Low) → IsUsed (head (slot_at fs (left_of l fs))) → l ≡ at (upper_of (head (slot_at fs (left_of l fs))))
unfolding left_of
left_ends fs none h = absurd (rw (get_or_eq_default fs free {n = length fs} (omega arith)) at h)
left_ends fs (at s) h = ap at (sym (has_upper_upper s (slot_at fs (first (has_upper s) fs)) (first_passes (has_upper s) fs (used_inside fs (first (has_upper s) fs) h))).1)

-- Two slots with at most b/2 entries together, without the name.
abbrev pub Few : ℕ → Str → Slot → Slot → Type 0
Few b n free y = ⊥
Few b n (used l s es) free = ⊥
Few b n (used l s es) (used m u gs) = length (without n (es ++ gs)) ≤ b / 2

-- The stores of a removal: those of a merge with the right neighbour; where that does not apply, with the left one; else one.
module _ (b : ℕ) (fs : List Slot) (n : Str) (A : ℕ) (l : Low) (u : Str) (es : List Entry) where
  abbrev pub ToRight : Type 0
  ToRight = Few b n (used l u es) (slot_at fs (right_of u fs))

  abbrev pub ToLeft : Type 0
  ToLeft = Few b n (slot_at fs (left_of l fs)) (used l u es)

  pub data Removal : List Store → Type 0 where
    rightward : {R : ℕ} {v : Str} {gs : List Entry} → slot_at fs R ≡ used (at u) v gs → length (without n (es ++ gs)) ≤ b / 2 → Removal (merged n A R l v es gs)
    leftward : {L : ℕ} {k : Low} {s : Str} {ds : List Entry} → ¬ ToRight → l ≡ at s → slot_at fs L ≡ used k s ds → length (without n (ds ++ es)) ≤ b / 2
        → Removal (merged n L A k u ds es)
    alone : ¬ ToRight → ¬ ToLeft → Removal ((A, used l u (without n es)) ∷ [])

  to_right : (R : ℕ) (y : Slot) → slot_at fs R ≡ y → (IsUsed (head y) → lower_of (head y) ≡ at u) → {ss : List Store} → (¬ Few b n (used l u es) y → Removal ss)
      → Removal (merged_or b n A (used l u es) R y ss)
  unfolding merged_or
  to_right R free e h r = r (λ q. q)
  to_right R (used m v gs) e h r = elim (dec_le (length (without n (es ++ gs))) (b / 2)) [
    | yes k ↦ rw (le-leb (length (without n (es ++ gs))) (b / 2) k) (rightward (e ∙ ap (λ x. used x v gs) (h tt)) k)
    | no k ↦ rw (lt-leb (length (without n (es ++ gs))) (b / 2) (omega (arith, k))) (r k)
  ]

  to_left : ¬ ToRight → (L : ℕ) (x : Slot) → slot_at fs L ≡ x → (IsUsed (head x) → l ≡ at (upper_of (head x))) → {ss : List Store} → (¬ Few b n x (used l u es) → Removal ss)
      → Removal (merged_or b n L x A (used l u es) ss)
  unfolding merged_or
  to_left c L free e h r = r (λ q. q)
  to_left c L (used k s ds) e h r = elim (dec_le (length (without n (ds ++ es))) (b / 2)) [
    | yes q ↦ rw (le-leb (length (without n (ds ++ es))) (b / 2) q) (leftward c (h tt) e q)
    | no q ↦ rw (lt-leb (length (without n (ds ++ es))) (b / 2) (omega (arith, q))) (r q)
  ]

  right_starts : IsUsed (head (slot_at fs (right_of u fs))) → lower_of (head (slot_at fs (right_of u fs))) ≡ at u
  unfolding right_of
  right_starts h =
      (has_lower_lower (at u) (slot_at fs (first (has_lower (at u)) fs)) (first_passes (has_lower (at u)) fs (used_inside fs (first (has_lower (at u)) fs) h))).1

  pub removal_is : Removal (removal b fs n A l u es)
  unfolding removal
  removal_is = to_right (right_of u fs) (slot_at fs (right_of u fs)) refl right_starts
      (λ c. to_left c (left_of l fs) (slot_at fs (left_of l fs)) refl (left_ends fs l) (λ d. alone c d))

  -- One store, or two.
  pub removal_some : {ss : List Store} → Removal ss → (0 < length ss) × (length ss ≤ 2)
  removal_some (rightward is k) = (omega arith, omega arith)
  removal_some (leftward c q is k) = (omega arith, omega arith)
  removal_some (alone c d) = (omega arith, omega arith)

  -- The same for a caller that knows the neighbours.
  pub removal_right : {R : ℕ} {m : Low} {v : Str} {gs : List Entry} → right_of u fs ≡ R → slot_at fs R ≡ used m v gs → length (without n (es ++ gs)) ≤ b / 2
      → removal b fs n A l u es ≡ merged n A R l v es gs
  unfolding removal merged_or
  removal_right {gs = gs} e is k = rw (e, is) (rw (le-leb (length (without n (es ++ gs))) (b / 2) k))

  merged_not : (L : ℕ) (x : Slot) (R : ℕ) (y : Slot) (ss : List Store) → ¬ Few b n x y → merged_or b n L x R y ss ≡ ss
  unfolding merged_or
  merged_not L free R y ss h = refl
  merged_not L (used k s ds) R free ss h = refl
  merged_not L (used k s ds) R (used m v gs) ss h = rw (lt-leb (length (without n (ds ++ gs))) (b / 2) (omega (arith, h)))

  pub removal_left : ¬ ToRight → {L : ℕ} {k : Low} {s : Str} {ds : List Entry} → left_of l fs ≡ L → slot_at fs L ≡ used k s ds → length (without n (ds ++ es)) ≤ b / 2
      → removal b fs n A l u es ≡ merged n L A k u ds es
  unfolding removal merged_or
  removal_left c {ds = ds} e is k = merged_not A (used l u es) (right_of u fs) (slot_at fs (right_of u fs)) _ c
      ∙ rw (e, is) (rw (le-leb (length (without n (ds ++ es))) (b / 2) k))

  pub removal_alone : ¬ ToRight → ¬ ToLeft → removal b fs n A l u es ≡ (A, used l u (without n es)) ∷ []
  unfolding removal
  removal_alone c d = merged_not A (used l u es) (right_of u fs) (slot_at fs (right_of u fs)) _ c
      ∙ merged_not (left_of l fs) (slot_at fs (left_of l fs)) A (used l u es) _ d

-- The neighbours of A by the range order.
module _ (b : ℕ) {fs : List Slot} (S : Sound b fs) (A : ℕ) (l : Low) (u : Str) (es : List Entry) (is : slot_at fs A ≡ used l u es) where
  abbrev F : RangeTable
  F = ranges fs

  lower_a : F.lower A ≡ l
  lower_a = ap (λ x. lower_of (head x)) is

  upper_a : F.upper A ≡ u
  upper_a = ap (λ x. upper_of (head x)) is

  used_as : (x : Slot) → IsUsed (head x) → (gs : List Entry) × (x ≡ used (lower_of (head x)) (upper_of (head x)) gs)
  used_as free h = absurd h
  used_as (used m v gs) h = (gs, refl)

  ends_one : (s : Str) (B : ℕ) → IsUsed (head (slot_at fs B)) → F.upper B ≡ s → first (has_upper s) fs ≡ B
  ends_one s B k e =
      let h = has_upper_upper s (slot_at fs (first (has_upper s) fs)) (first_right (has_upper s) fs B (upper_has_upper s (slot_at fs B) k e)) in
      one_range b S s
      (h.0, subst (λ v. F.lower (first (has_upper s) fs) ◁ v) h.1 (well_head b (S.well (first (has_upper s) fs)) h.0), rw h.1 (le_refl s))
      (k, subst (λ v. F.lower B ◁ v) e (well_head b (S.well B) k), rw e (le_refl s))

  pub right_next : (Xs : List ℕ) (R : ℕ) (Ys : List ℕ) → order_of fs ≡ Xs ++ (A ∷ R ∷ Ys)
      → (right_of u fs ≡ R) × ((gs : List Entry) × (slot_at fs R ≡ used (at u) (F.upper R) gs))
  unfolding right_of
  right_next Xs R Ys e =
      let p = chain_pair F Xs A R Ys (rw e at (chain_right b S)) in
      let q : F.lower R ≡ at u = p.2 ∙ ap at upper_a in
      let r = used_as (slot_at fs R) p.1 in
      (starts_one b S (at u) R p.1 q, (r.0, r.1 ∙ ap (λ m. used m (F.upper R) r.0) q))

  pub right_none : (Xs : List ℕ) → order_of fs ≡ Xs ++ (A ∷ []) → slot_at fs (right_of u fs) ≡ free
  right_none Xs e = go (slot_at fs (right_of u fs)) (S.well (right_of u fs)) (λ h. right_starts b fs [] A l u es h ∙ ap at last_upper)
    where
      last_upper : u ≡ []
      last_upper = sym upper_a ∙ chain_end F Xs A (rw e at (chain_right b S))

      go : (x : Slot) → Well b x → (IsUsed (head x) → lower_of (head x) ≡ at []) → x ≡ free
      go free w h = refl
      go (used m v gs) w h = absurd (over (rw (h tt) at (well_head b w tt)) top)

  pub left_next : (Xs : List ℕ) (L : ℕ) (Ys : List ℕ) → order_of fs ≡ Xs ++ (L ∷ A ∷ Ys)
      → (left_of l fs ≡ L) × (l ≡ at (F.upper L)) × ((ds : List Entry) × (slot_at fs L ≡ used (F.lower L) (F.upper L) ds))
  unfolding left_of
  left_next Xs L Ys e =
      let p = chain_pair F Xs L A Ys (rw e at (chain_right b S)) in
      let q : l ≡ at (F.upper L) = sym lower_a ∙ p.2 in
      (rw q (found (F.upper L) refl p.0), q, used_as (slot_at fs L) p.0)
    where
      found : (s : Str) → F.upper L ≡ s → IsUsed (head (slot_at fs L)) → left_of (at s) fs ≡ L
      found s e k = ends_one s L k e

  pub left_none : (Ys : List ℕ) → order_of fs ≡ A ∷ Ys → slot_at fs (left_of l fs) ≡ free
  unfolding left_of
  left_none Ys e = let q : l ≡ none = sym lower_a ∙ chain_start F A Ys (rw e at (chain_right b S)) in rw q none_left
    where
      none_left : slot_at fs (left_of none fs) ≡ free
      none_left = get_or_eq_default fs free {n = length fs} (omega arith)

  -- A removal by the range order and the numbers of entries before it: two slots merge with at most b/2 and the name.
  module _ (n : Str) (lo : l ◁ n) (up : n ⊑ u) {w : ℕ} (held : find n es ≡ some w) where
    module _ (Xs : List ℕ) (R : ℕ) (Ys : List ℕ) (e : order_of fs ≡ Xs ++ (A ∷ R ∷ Ys)) {m : Low} {v : Str} {gs : List Entry} (r_is : slot_at fs R ≡ used m v gs) where
      right_is : slot_at fs R ≡ used (at u) v gs
      right_is = let p = chain_pair F Xs A R Ys (rw e at (chain_right b S)) in
          r_is ∙ ap (λ x. used x v gs) (sym (ap (λ x. lower_of (head x)) r_is) ∙ p.2 ∙ ap at upper_a)

      right_size : suc (length (without n (es ++ gs))) ≡ length es + length gs
      right_size = size_right b fs S A R l u v es gs is right_is n lo (le_trans up (lt_le (over (well_r b fs S A R l u v es gs is right_is).2))) held

      pub by_right : length es + length gs ≤ suc (b / 2) → removal b fs n A l u es ≡ merged n A R l v es gs
      by_right k = removal_right b fs n A l u es (right_next Xs R Ys e).0 r_is (omega (arith, right_size, k))

      pub not_right : suc (b / 2) < length es + length gs → ¬ ToRight b fs n A l u es
      not_right k h = omega (arith, right_size, k, rw ((right_next Xs R Ys e).0, r_is) at h)

    pub last_not_right : (Xs : List ℕ) → order_of fs ≡ Xs ++ (A ∷ []) → ¬ ToRight b fs n A l u es
    last_not_right Xs e h = rw (right_none Xs e) at h

    module _ (Xs : List ℕ) (L : ℕ) (Ys : List ℕ) (e : order_of fs ≡ Xs ++ (L ∷ A ∷ Ys)) {k : Low} {s : Str} {ds : List Entry} (l_is : slot_at fs L ≡ used k s ds) where
      low_s : l ≡ at s
      low_s = (left_next Xs L Ys e).1 ∙ ap at (ap (λ x. upper_of (head x)) l_is)

      left_is : slot_at fs A ≡ used (at s) u es
      left_is = is ∙ ap (λ x. used x u es) low_s

      left_size : suc (length (without n (ds ++ es))) ≡ length ds + length es
      left_size = size_left b fs S L A k s u ds es l_is left_is n (low_lower (low_at (well_l b fs S L A k s u ds es l_is left_is).2) (rw low_s at lo)) up (over (rw low_s at lo)) held

      pub by_left : ¬ ToRight b fs n A l u es → length ds + length es ≤ suc (b / 2) → removal b fs n A l u es ≡ merged n L A k u ds es
      by_left c h = removal_left b fs n A l u es c (left_next Xs L Ys e).0 l_is (omega (arith, left_size, h))

      pub not_left : suc (b / 2) < length ds + length es → ¬ ToLeft b fs n A l u es
      not_left h c = omega (arith, left_size, h, rw ((left_next Xs L Ys e).0, l_is) at c)

    pub first_not_left : (Ys : List ℕ) → order_of fs ≡ A ∷ Ys → ¬ ToLeft b fs n A l u es
    first_not_left Ys e h = rw (left_none Ys e) at h
