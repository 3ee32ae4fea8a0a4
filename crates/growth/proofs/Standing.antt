-- Where cells, leaves and the walk's end stand among the strings.
use Rattle.model.proofs.Prelude.{List, get_or_eq_default, [], ◌++◌, ◌+◌, ◌-◌, ◌<◌, ◌∙◌, ◌∷◌, ◌≡◌, ◌≤◌, arith, clash, dec_lt, get_or, length, length-append, refl, suc, zero, ℕ, ℕ_discrete}
use Rattle.model.specs.declared.Cell.{Cell}
use Rattle.model.specs.declared.Side.{Side}
use Rattle.model.specs.declared.Side.TheVariants.{Slot as slot}
use Rattle.model.specs.Order.{Low, Str, ◌≺◌, ◌⊑◌, ◌◁◌, above, top}
use Rattle.model.specs.Tries.{Reads, Spot, Tree, at_cell, here, left, right, there}
use Rattle.model.proofs.Deciding.{le?, over}
use Rattle.model.proofs.Lists.{at_behind}
use Rattle.model.proofs.Order.{Asc, end, le_refl, low_at, low_lower, lt_le, lt_trans, step}
use Rattle.model.proofs.Strings.{trie_asc}
use Rattle.model.proofs.Tries.{Spans, cells_count, cut, tip}
use Rattle.model.proofs.Walks.{path_at, spot}
use Rattle.trie.specs.Places.{InOrder, cells, no_cells}
use Rattle.trie.proofs.Strung.{order_size}
use Rattle.growth.proofs.Meeting.{Met, at_once, on_left, on_right, string_of}

-- A list that goes on with q: up to its end q is what comes next.
module _ {A : Type 0} where
  pub up_to : (xs : List A) (q : A) (ys : List A) (d : A) (j : ℕ) → j ≤ length xs → get_or (xs ++ (q ∷ ys)) j d ≡ get_or xs j q
  up_to [] q ys d zero h = refl
  up_to [] q ys d (suc j) h = absurd (omega arith)
  up_to (x ∷ xs) q ys d zero h = refl
  up_to (x ∷ xs) q ys d (suc j) h = up_to xs q ys d j (omega arith)

  pub any_default : (xs : List A) (d e : A) (j : ℕ) → j < length xs → get_or xs j d ≡ get_or xs j e
  any_default [] d e j h = absurd (omega arith)
  any_default (x ∷ xs) d e zero h = refl
  any_default (x ∷ xs) d e (suc j) h = any_default xs d e j (omega arith)

-- Strings ascend from place to place, and behind the last stands the upper end.
asc_low : {l : Low} {ss : List Str} {u : Str} → Asc l ss u → l ◁ u → (j : ℕ) → l ◁ get_or ss j u
asc_low end h j = h
asc_low (step a b s) h zero = a
asc_low (step a b s) h (suc j) = low_lower (low_at a) (asc_low s (above b) j)

pub asc_lt : {l : Low} {ss : List Str} {u : Str} → Asc l ss u → (i j : ℕ) → i < j → i < length ss → get_or ss i u ≺ get_or ss j u
asc_lt end i j h k = absurd (omega arith)
asc_lt (step a b s) i zero h k = absurd (omega arith)
asc_lt (step a b s) zero (suc j) h k = over (asc_low s (above b) j)
asc_lt (step a b s) (suc i) (suc j) h k = asc_lt s i j (omega arith) (omega arith)

pub asc_le : {l : Low} {ss : List Str} → Asc l ss [] → (i j : ℕ) → i ≤ j → get_or ss i [] ⊑ get_or ss j []
asc_le {ss = ss} s i j h = elim (dec_lt i (length ss)) [
  | no n ↦ rw (get_or_eq_default ss [] {n = j} (omega arith)) top
  | yes k ↦ elim (ℕ_discrete i j) [ yes e ↦ rw e (le_refl (get_or ss j [])) | no n ↦ lt_le (asc_lt s i j (omega arith) k) ]
]

pub order_below : {cs : List Cell} {a : Side} {os : List ℕ} → InOrder cs a os → (j : ℕ) → j < length os → get_or os j 0 < length cs
order_below no_cells j h = absurd (omega arith)
order_below {cs} (cells {m = m} {vs = ns} {ws = ks} k x y) j h = go (dec_lt j (length ns)) (ℕ_discrete j (length ns)) (λ b. order_below x j b) (λ b. order_below y (j - suc (length ns)) b)
  where
    go : Dec (j < length ns) → Dec (j ≡ length ns) → (j < length ns → get_or ns j 0 < length cs) → (j - suc (length ns) < length ks → get_or ks (j - suc (length ns)) 0 < length cs)
        → get_or (ns ++ (m ∷ ks)) j 0 < length cs
    go (yes b) d f g = rw (up_to ns m ks 0 j (omega arith), any_default ns m 0 j b) (f b)
    go (no b) (yes e) f g = rw (up_to ns m ks 0 j (omega arith), get_or_eq_default ns m {n = j} (omega arith)) k
    go (no b) (no e) f g = rw (at_behind ns m ks 0 (j - suc (length ns)) j (omega arith)) (g (omega (arith, h, length-append ns (m ∷ ks))))

-- A leaf has no strings.
none_below : {P : Low → Str → ℕ → Type 0} {cs : List Cell} {a : Side} {t : Tree} {vs : List ℕ} {l : Low} {u : Str} {ss : List Str} (s : ℕ)
    → a ≡ slot s → Reads cs a t vs → Spans P l u t ss → ss ≡ []
none_below s e here (tip h) = refl
none_below s e (there h l r) (cut i a b x y) = clash cc

-- The place of a met cell: its string stands there, and one further what the leaf on its right has ns its path.
pub record Stands (cs : List Cell) (u : Str) (ss : List Str) (os : List ℕ) (m : ℕ) (r : Str) : Type 0 where
  pub place : ℕ
  pub fits : place < length ss
  pub is : get_or os place 0 ≡ m
  pub string : get_or ss place u ≡ string_of (at_cell cs m) r
  pub next : (s : ℕ) → (at_cell cs m).right ≡ slot s → get_or ss (suc place) u ≡ r

pub met_stands : {P : Low → Str → ℕ → Type 0} {cs : List Cell} {a : Side} {t : Tree} {vs os : List ℕ} {l : Low} {u : Str} {ss : List Str} {m : ℕ} {r : Str}
    → Reads cs a t vs → Spans P l u t ss → InOrder cs a os → Met cs u a m r → Stands cs u ss os m r
met_stands {cs = cs} {u = u} (there {n = m} h x y) (cut {xs = xs} {ys = ys} i a b X Y) (cells {vs = ns} {ws = ks} k o o') at_once =
    let len : length ns ≡ length xs = order_size x o ∙ cells_count X in
    let q : Str = string_of (at_cell cs m) u in
    record {
      place = length xs;
      fits = omega (arith, length-append xs (q ∷ ys));
      is = rw (up_to ns m ks 0 (length xs) (omega arith)) (get_or_eq_default ns m (omega arith));
      string = rw (up_to xs q ys u (length xs) (omega arith)) (get_or_eq_default xs q (omega arith));
      next = λ s e. rw (at_behind xs q ys u 0 (suc (length xs)) (omega arith), none_below s e y Y);
    }
met_stands {cs = cs} {u = u} (there {n = m} h x y) (cut {xs = xs} {ys = ys} i a b X Y) (cells {vs = ns} {ws = ks} k o o') (on_left z) =
    let len : length ns ≡ length xs = order_size x o ∙ cells_count X in
    let q : Str = string_of (at_cell cs m) u in
    let S = met_stands x X o z in
    record {
      place = S.place;
      fits = omega (arith, S.fits, length-append xs (q ∷ ys));
      is = rw (up_to ns m ks 0 S.place (omega (arith, S.fits)), any_default ns m 0 S.place (omega (arith, S.fits))) S.is;
      string = rw (up_to xs q ys u S.place (omega (arith, S.fits))) S.string;
      next = λ s e. rw (up_to xs q ys u (suc S.place) (omega (arith, S.fits))) (S.next s e);
    }
met_stands {P = P} {cs = cs} {os = os} {l = l} {u = u} {ss = ss} {m = m} {r = r} (here {s = s}) _ _ x15 = elim x15 [ ]
met_stands {cs = cs} {u = u} (there {n = m} h x y) (cut {xs = xs} {ys = ys} i a b X Y) (cells {vs = ns} {ws = ks} k o o') (on_right z) =
    let len : length ns ≡ length xs = order_size x o ∙ cells_count X in
    let q : Str = string_of (at_cell cs m) u in
    let S = met_stands y Y o' z in
    let at : ℕ = suc (length xs + S.place) in
    record {
      place = at;
      fits = omega (arith, S.fits, length-append xs (q ∷ ys));
      is = rw (at_behind ns m ks 0 S.place at (omega arith)) S.is;
      string = rw (at_behind xs q ys u S.place at (omega arith)) S.string;
      next = λ s e. rw (at_behind xs q ys u (suc S.place) (suc at) (omega arith)) (S.next s e);
    }

-- The spot that the walk comes by, from the place of its leaf.
pub data SideBy (k : Spot) (os : List ℕ) : ℕ → Spot → Type 0 where
  no_cell : length os ≡ 0 → SideBy k os 0 k
  left_of : (j : ℕ) → j < length os → SideBy k os j (left (get_or os j 0))
  right_of : (j : ℕ) → j < length os → SideBy k os (suc j) (right (get_or os j 0))

left_as : {k : Spot} {os : List ℕ} (j m : ℕ) → j < length os → get_or os j 0 ≡ m → SideBy k os j (left m)
left_as j m h e = rw (← e) (left_of j h)

right_as : {k : Spot} {os : List ℕ} (j m : ℕ) → j < length os → get_or os j 0 ≡ m → SideBy k os (suc j) (right m)
right_as j m h e = rw (← e) (right_of j h)

-- The place of the leaf that c reaches. No other leaf stands there.
pub record Ends (cs : List Cell) (u : Str) (ss : List Str) (os : List ℕ) (c : Str) (k sp : Spot) (path : Str) : Type 0 where
  pub place : ℕ
  pub fits : place ≤ length ss
  pub path_is : get_or ss place u ≡ path
  pub within : c ⊑ path
  pub before : (j : ℕ) → j < place → get_or ss j u ≺ c
  pub by : SideBy k os place sp
  pub left_only : (s : ℕ) → place < length os → (at_cell cs (get_or os place 0)).left ≡ slot s → sp ≡ left (get_or os place 0)
  pub right_only : (j s : ℕ) → place ≡ suc j → (at_cell cs (get_or os j 0)).right ≡ slot s → sp ≡ right (get_or os j 0)

module _ (cs : List Cell) (u q : Str) (xs ys : List Str) (ns ks : List ℕ) (m : ℕ) (len : length ns ≡ length xs) where
  middle : (j : ℕ) → j ≡ length xs → get_or (ns ++ (m ∷ ks)) j 0 ≡ m
  middle j e = up_to ns m ks 0 j (omega arith) ∙ get_or_eq_default ns m {n = j} (omega arith)

  first : (j : ℕ) → j < length xs → get_or (ns ++ (m ∷ ks)) j 0 ≡ get_or ns j 0
  first j h = up_to ns m ks 0 j (omega arith) ∙ any_default ns m 0 j (omega arith)

  second : (j i : ℕ) → i ≡ suc (length xs + j) → get_or (ns ++ (m ∷ ks)) i 0 ≡ get_or ks j 0
  second j i e = at_behind ns m ks 0 j i (omega arith)

  by_first : {k : Spot} {j : ℕ} {sp : Spot} → SideBy (left m) ns j sp → SideBy k (ns ++ (m ∷ ks)) j sp
  by_first (no_cell e) = left_as 0 m (omega (arith, length-append ns (m ∷ ks))) (middle 0 (omega arith))
  by_first (left_of j h) = left_as j (get_or ns j 0) (omega (arith, length-append ns (m ∷ ks))) (first j (omega arith))
  by_first (right_of j h) = right_as j (get_or ns j 0) (omega (arith, length-append ns (m ∷ ks))) (first j (omega arith))

  by_second : {k : Spot} {j : ℕ} {sp : Spot} → SideBy (right m) ks j sp → SideBy k (ns ++ (m ∷ ks)) (suc (length xs + j)) sp
  by_second (no_cell e) = right_as (length xs + 0) m (omega (arith, length-append ns (m ∷ ks))) (middle (length xs + 0) (omega arith))
  by_second (left_of j h) = left_as (suc (length xs + j)) (get_or ks j 0) (omega (arith, length-append ns (m ∷ ks))) (second j (suc (length xs + j)) refl)
  by_second (right_of j h) = right_as (length xs + suc j) (get_or ks j 0) (omega (arith, length-append ns (m ∷ ks))) (second j (length xs + suc j) (omega arith))

  ends_left : {c : Str} {k sp : Spot} {path : Str} → ((s : ℕ) → (at_cell cs m).left ≡ slot s → sp ≡ left m) → Ends cs q xs ns c (left m) sp path
      → Ends cs u (xs ++ (q ∷ ys)) (ns ++ (m ∷ ks)) c k sp path
  ends_left only E = record {
    place = E.place;
    fits = omega (arith, E.fits, length-append xs (q ∷ ys));
    path_is = rw (up_to xs q ys u E.place E.fits) E.path_is;
    within = E.within;
    before = λ j h. rw (up_to xs q ys u j (omega (arith, h, E.fits))) (E.before j h);
    by = by_first E.by;
    left_only = λ s h e. elim (dec_lt E.place (length xs)) [
      | yes b ↦ (let g = first E.place b in rw g (E.left_only s (omega (arith, b, len)) (rw g at e)))
      | no b ↦ (let g = middle E.place (omega (arith, b, E.fits)) in rw g (only s (rw g at e)))
    ];
    right_only = λ j s h e. let g = first j (omega (arith, h, E.fits)) in rw g (E.right_only j s h (rw g at e));
  }

  ends_right : {c : Str} {k sp : Spot} {path : Str} → ((s : ℕ) → (at_cell cs m).right ≡ slot s → sp ≡ right m) → ((j : ℕ) → j ≤ length xs → get_or xs j q ≺ c) → Ends cs u ys ks c (right m) sp path
      → Ends cs u (xs ++ (q ∷ ys)) (ns ++ (m ∷ ks)) c k sp path
  ends_right only low E = record {
    place = suc (length xs + E.place);
    fits = omega (arith, E.fits, length-append xs (q ∷ ys));
    path_is = rw (at_behind xs q ys u E.place (suc (length xs + E.place)) refl) E.path_is;
    within = E.within;
    before = λ j h. elim (dec_lt (length xs) j) [
      | yes b ↦ rw (at_behind xs q ys u (j - suc (length xs)) j (omega arith)) (E.before (j - suc (length xs)) (omega arith))
      | no b ↦ rw (up_to xs q ys u j (omega arith)) (low j (omega arith))
    ];
    by = by_second E.by;
    left_only = λ s h e. let g = second E.place (suc (length xs + E.place)) refl in rw g (E.left_only s (omega (arith, h, length-append ns (m ∷ ks), len)) (rw g at e));
    right_only = λ j s h e. elim (dec_lt 0 E.place) [
      | yes b ↦ (let g = second (E.place - 1) j (omega arith) in rw g (E.right_only (E.place - 1) s (omega arith) (rw g at e)))
      | no b ↦ (let g = middle j (omega arith) in rw g (only s (rw g at e)))
    ];
  }

spot_slot : {cs : List Cell} {a : Side} {t : Tree} {vs : List ℕ} (n p : Str) (k : Spot) (s : ℕ) → a ≡ slot s → (x : Reads cs a t vs) → spot n p k x ≡ k
spot_slot n p k s e here = refl
spot_slot n p k s e (there h l r) = clash cc

pub walk_stands : {P : Low → Str → ℕ → Type 0} {cs : List Cell} {a : Side} {t : Tree} {vs os : List ℕ} {l : Low} {u : Str} {ss : List Str} (c : Str) (k : Spot)
    (x : Reads cs a t vs) → Spans P l u t ss → InOrder cs a os → l ◁ c → c ⊑ u → Ends cs u ss os c k (spot c u k x) (path_at c u t)
walk_stands c k here (tip h) no_cells lo up =
    record {
      place = 0;
      fits = omega arith;
      path_is = refl;
      within = up;
      before = λ j h. absurd (omega arith);
      by = no_cell refl;
      left_only = λ s h e. absurd (omega arith);
      right_only = λ j s h e. absurd (omega arith);
    }
walk_stands {cs = cs} {u = u} c k (there {n = m} {L = L} {R = R} h x y) (cut {xs = xs} {ys = ys} i a b X Y) (cells {vs = ns} {ws = ks} e o o') lo up =
    go (le? c q) (λ h. walk_stands c (left m) x X o lo h) (λ h. walk_stands c (right m) y Y o' (above h) up)
  where
    q : Str
    q = string_of (at_cell cs m) u

    len : length ns ≡ length xs
    len = order_size x o ∙ cells_count X

    low : q ≺ c → (j : ℕ) → j ≤ length xs → get_or xs j q ≺ c
    low w j h = elim (dec_lt j (length xs)) [
      | yes b ↦ lt_trans (rw (get_or_eq_default xs q {n = length xs} (omega arith)) at (asc_lt (trie_asc X) j (length xs) b b)) w
      | no b ↦ rw (get_or_eq_default xs q {n = j} (omega arith)) w
    ]

    go : (d : Dec (c ⊑ q)) → (c ⊑ q → Ends cs q xs ns c (left m) (spot c q (left m) x) (path_at c q L)) → (q ≺ c → Ends cs u ys ks c (right m) (spot c u (right m) y) (path_at c u R))
        → Ends cs u (xs ++ (q ∷ ys)) (ns ++ (m ∷ ks)) c k (elim d [ yes h ↦ spot c q (left m) x | no h ↦ spot c u (right m) y ]) (elim d [ yes h ↦ path_at c q L | no h ↦ path_at c u R ])
    go (yes h) f g = ends_left cs u q xs ys ns ks m len (λ s e. spot_slot c q (left m) s e x) (f h)
    go (no h) f g = ends_right cs u q xs ys ns ks m len (λ s e. spot_slot c u (right m) s e y) (low h) (g h)
