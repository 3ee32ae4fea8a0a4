-- Of a run, any string with fewest digits serves as root; the middle one has fewest; so the rebuilt trie leads every leaf to its bucket.
use Rattle.model.proofs.Prelude.{Bool, List, Memᴰ, mem_append_cases, mem_cases_cons, mem_head, mem_not_nil, mem_tail, mem_append_left, mem_append_right, [], ◌++◌, ◌+◌, ◌-◌, ◌/◌, ◌<◌, ◌∙◌, ◌∷◌, ◌≡◌, ◌≤◌, ◌⊎◌, ap, arith, cond, drop, eq-eqb, eqb, eqb-false, eqb-true, false, get_or, inl, inr, length, length-drop, length-take, min, refl, split_at, sub-zero, subst, suc, sym, take, take_all, take-suc, true, zero, ℕ}
use Rattle.model.specs.Order.{Low, Str, ◌≺◌, ◌⊑◌, ◌◁◌, at, last_digit, least, none, top}
use Rattle.model.specs.Files.{Chain, RangeTable}
use Rattle.model.specs.Searches.{all, bounds}
use Rattle.model.specs.Tries.{Leads, Tree, cell}
use Rattle.model.specs.Rebuilding.{build, fewest, label, pick, places, rebuilt}
use Rattle.model.proofs.Deciding.{over}
use Rattle.model.proofs.Order.{Asc, le_refl, le_take, le_trans, low_lower, lt_le, lt_le_trans, sandwich}
use Rattle.model.proofs.Tries.{Spans, cast, cut_at, relabel_same, relabel_trie, tip, walk, walk_ends}
use Rattle.model.proofs.Strings.{Closed, all_asc, all_closed, asc_mem, asc_split}
use Rattle.model.proofs.Ranges.{bounds_all, bounds_asc, label_leads}

module _ {l : Low} {u : Str} (xs : List Str) (r : Str) (ys : List Str)
    (asc : Asc l (xs ++ (r ∷ ys)) u) (closed : Closed (xs ++ (r ∷ ys)) u) where
  closed_left : Closed xs r
  closed_left x m k = elim (closed x (mem_append_left (r ∷ ys) m) k) [
    | inl m ↦ elim (mem_append_cases xs m) [
      | inl m ↦ inl m
      | inr m ↦ inr (elim (mem_cases_cons m) [ inl e ↦ rw e (le_refl r) | inr m ↦ lt_le (over (asc_mem (asc_split xs asc).3 m).0) ])
    ]
    | inr h ↦ inr (le_trans (lt_le (asc_split xs asc).2) h)
  ]

  closed_right : Closed ys u
  closed_right x m k =
      let up : r ≺ take k x = lt_le_trans (over (asc_mem (asc_split xs asc).3 m).0) (le_take k x) in
      elim (closed x (mem_append_right xs (mem_tail m)) k) [
        | inl m ↦ elim (mem_append_cases xs m) [
          | inl m ↦ absurd ((asc_mem (asc_split xs asc).0 m).1 (lt_le up))
          | inr m ↦ elim (mem_cases_cons m) [ inl e ↦ absurd (up (rw e (le_refl r))) | inr m ↦ inl m ]
        ]
        | inr h ↦ inr h
      ]

-- The cell of a root r with fewest digits has the string r under the path u.
root_cell : (r u : Str) → r ≺ u → u ⊑ take (length r - 1) r → (cell (last_digit r) (length r - 1) u ≡ r) × (length r - 1 ≤ length u)
root_cell [] u p q = absurd (p top)
root_cell (a ∷ r) u p q =
    let k : ℕ = length (a ∷ r) - 1 in
    let h = sandwich k (a ∷ r) (lt_le p) q (omega arith) in
    (rw h.0 (sym (take-suc (a ∷ r) k 0 (omega arith)) ∙ take_all (suc k) (a ∷ r) (omega arith)), h.1)

-- Its parent lies outside the run, and above.
parent_above : (ss : List Str) (r u : Str) → Memᴰ r ss → r ≺ u → ((x : Str) → Memᴰ x ss → length r ≤ length x) → Closed ss u
    → u ⊑ take (length r - 1) r
parent_above ss [] u m p few closed = absurd (p top)
parent_above ss (a ∷ r) u m p few closed = elim (closed (a ∷ r) m (length (a ∷ r) - 1))
    [ inl m ↦ absurd (omega (arith, few (take (length (a ∷ r) - 1) (a ∷ r)) m, length-take (length (a ∷ r) - 1) (a ∷ r))) | inr h ↦ h ]

module _ (pick : List Str → ℕ) (label : Low → Str → ℕ)
    (fits : (x : Str) (xs : List Str) → pick (x ∷ xs) < length (x ∷ xs))
    (fewest : (ss : List Str) (x : Str) → Memᴰ x ss → length (get_or ss (pick ss) []) ≤ length x) where
  pub build_trie : (n : ℕ) (ss : List Str) (l : Low) (u : Str) → length ss ≤ n → Asc l ss u → Closed ss u
      → Spans (λ l u B. B ≡ label l u) l u (build pick label n l u ss) ss
  build_trie zero [] l u h asc closed = tip refl
  build_trie zero (x ∷ xs) l u h asc closed = absurd (omega arith)
  build_trie (suc n) [] l u h asc closed = tip refl
  build_trie (suc n) (x ∷ xs) l u h asc closed =
      let ss : List Str = x ∷ xs in
      let m : ℕ = pick ss in
      let r : Str = get_or ss m [] in
      let hm : m < length ss = fits x xs in
      let e : ss ≡ take m ss ++ (r ∷ drop (suc m) ss) = split_at ss m [] hm in
      let asc' : Asc l (take m ss ++ (r ∷ drop (suc m) ss)) u = rw e at asc in
      let closed' : Closed (take m ss ++ (r ∷ drop (suc m) ss)) u = rw e at closed in
      let s = asc_split (take m ss) asc' in
      let parent : u ⊑ take (length r - 1) r =
      parent_above ss r u (subst (λ (zs : List Str). Memᴰ r zs) (sym e) (mem_append_right (take m ss) (mem_head refl))) s.2 (fewest ss) closed in
      let c = root_cell r u s.2 parent in
      cast (λ l u B. B ≡ label l u) (sym e)
      (cut_at (λ l u B. B ≡ label l u) (last_digit r) (length r - 1) c.1 c.0 s.1 s.2
      (build_trie n (take m ss) l r (rw length-take (omega arith)) s.0 (closed_left (take m ss) r (drop (suc m) ss) asc' closed'))
      (build_trie n (drop (suc m) ss) (at r) u (rw length-drop (omega arith)) s.3 (closed_right (take m ss) r (drop (suc m) ss) asc' closed')))

fewest_le : (x : Str) (xs : List Str) (y : Str) → Memᴰ y (x ∷ xs) → fewest x xs ≤ length y
fewest_le x [] y m = elim (mem_cases_cons m) [ inl e ↦ omega (arith, ap length e) | inr m ↦ absurd (mem_not_nil m) ]
fewest_le x (z ∷ zs) y m = go (mem_cases_cons m) (λ m. fewest_le z zs y m)
  where
    go : (y ≡ x) ⊎ Memᴰ y (z ∷ zs) → (Memᴰ y (z ∷ zs) → fewest z zs ≤ length y) → min (length x) (fewest z zs) ≤ length y
    go (inl e) f = omega (arith, ap length e)
    go (inr m) f = omega (arith, f m)

-- Some string has as few.
places_some : (x : Str) (xs : List Str) (n i : ℕ) → n ≡ fewest x xs → 0 < length (places n i (x ∷ xs))
places_some x [] n i e = rw (eq-eqb (length x) n (sym e)) (omega arith)
places_some x (y ∷ ys) n i e = go (eqb (length x) n) refl (places_some y ys n (suc i))
  where
    go : (t : Bool) → eqb (length x) n ≡ t → (n ≡ fewest y ys → 0 < length (places n (suc i) (y ∷ ys)))
        → 0 < length (cond t (i ∷ places n (suc i) (y ∷ ys)) (places n (suc i) (y ∷ ys)))
    go true q f = omega arith
    go false q f = f (omega (arith, eqb-false (length x) n q))

-- Each place is that of a string with n digits.
abbrev Place : ℕ → ℕ → List Str → ℕ → Type 0
Place n i xs p = (i ≤ p) × (p < i + length xs) × (length (get_or xs (p - i) []) ≡ n)

place_tail : (n i : ℕ) (x : Str) (xs : List Str) (p : ℕ) → Place n (suc i) xs p → Place n i (x ∷ xs) p
place_tail n i x xs p h =
    let e : p - i ≡ suc (p - suc i) = omega arith in
    (omega arith, omega arith, rw e h.2)

places_right : (n i : ℕ) (xs : List Str) (j : ℕ) → j < length (places n i xs) → Place n i xs (get_or (places n i xs) j 0)
places_right n i [] j h = absurd (omega arith)
places_right n i (x ∷ xs) j h = go (eqb (length x) n) refl j h (λ j h. places_right n (suc i) xs j h)
  where
    go : (t : Bool) → eqb (length x) n ≡ t → (j : ℕ) → j < length (cond t (i ∷ places n (suc i) xs) (places n (suc i) xs))
        → ((j : ℕ) → j < length (places n (suc i) xs) → Place n (suc i) xs (get_or (places n (suc i) xs) j 0))
        → Place n i (x ∷ xs) (get_or (cond t (i ∷ places n (suc i) xs) (places n (suc i) xs)) j 0)
    go true e zero h f = let z : i - i ≡ 0 = omega arith in (omega arith, omega arith, rw z (eqb-true (length x) n e))
    go true e (suc j) h f = place_tail n i x xs (get_or (places n (suc i) xs) j 0) (f j (omega arith))
    go false e j h f = place_tail n i x xs (get_or (places n (suc i) xs) j 0) (f j h)

pick_place : (x : Str) (xs : List Str) → Place (fewest x xs) 0 (x ∷ xs) (pick (x ∷ xs))
pick_place x xs =
    let ps : List ℕ = places (fewest x xs) 0 (x ∷ xs) in
    places_right (fewest x xs) 0 (x ∷ xs) ((length ps - 1) / 2) (omega (arith, places_some x xs (fewest x xs) 0 refl))

pub pick_fits : (x : Str) (xs : List Str) → pick (x ∷ xs) < length (x ∷ xs)
pick_fits x xs = omega (arith, (pick_place x xs).1)

pub pick_fewest : (ss : List Str) (y : Str) → Memᴰ y ss → length (get_or ss (pick ss) []) ≤ length y
pick_fewest [] y m = absurd (mem_not_nil m)
pick_fewest (x ∷ xs) y m =
    let h : length (get_or (x ∷ xs) (pick (x ∷ xs)) []) ≡ fewest x xs = rw sub-zero at (pick_place x xs).2 in
    omega (arith, h, fewest_le x xs y m)

module _ (F : RangeTable) where
  pub rebuilt_agrees : (Bs : List ℕ) → Chain F none Bs → Spans (Leads F) none [] (rebuilt F Bs) (all (bounds F Bs))
  rebuilt_agrees Bs c =
      rw relabel_same at (relabel_trie (λ l u B. B ≡ label F Bs l) (Leads F) (λ u B. B)
      (build_trie pick (λ l u. label F Bs l) pick_fits pick_fewest (length (all (bounds F Bs))) (all (bounds F Bs)) none [] (omega arith)
      (all_asc (bounds F Bs) none (bounds_asc F Bs none c)) (all_closed (bounds F Bs)))
      least (λ l u B a b mv gap e. rw e (label_leads F Bs none c l u least (λ x m. gap x (bounds_all F Bs none c x m)))))

  -- Each name within its walk's leaf lies in the range of the slot that the leaf leads to.
  pub walk_right : {t : Tree} {ss : List Str} → Spans (Leads F) none [] t ss → (n : Str)
      → (F.Used (walk n [] t)) × (F.lower (walk n [] t) ◁ n) × (n ⊑ F.upper (walk n [] t))
  walk_right T n = let e = walk_ends (Leads F) T n least top in
      (e.holds.used, low_lower e.holds.under e.over, le_trans e.within e.holds.within)
