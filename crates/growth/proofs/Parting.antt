-- The place up to which leaves' paths are not above s.
use Rattle.model.proofs.Prelude.{List, Memᴰ, get_or_eq_default, [], ◌<◌, ◌∙◌, ◌≡◌, ◌≤◌, ◌⊎◌, add-one, ap, arith, dec_lt, get_or, get_or-take, inl, inr, length, length-take, length-take-le, lt-leb, some, subst, suc, sym, take, take_all, take-length, ℕ}
use Rattle.model.specs.declared.Trie.{Trie}
use Rattle.model.specs.Order.{Str, ◌⊑◌, diff, least, none, top}
use Rattle.model.specs.Files.{ranges}
use Rattle.model.specs.Searches.{all, bounds}
use Rattle.model.specs.Tries.{Spot, root, walk_trie}
use Rattle.model.proofs.Lists.{mem_place}
use Rattle.model.proofs.Order.{Asc, diff_le_right, le_refl, le_take, le_trans, lt_le, sandwich, take_diff}
use Rattle.model.proofs.Strings.{all_closed, mem_at, not_top, trie_asc}
use Rattle.model.proofs.Tries.{cells_count, walk}
use Rattle.model.proofs.Cells.{reads_size, visits_count}
use Rattle.model.proofs.Files.{strings_right}
use Rattle.model.proofs.Agreement.{CellsAgree, agrees_cells}
use Rattle.model.proofs.GrownCells.{diff_begin}
use Rattle.model.proofs.Walks.{live_cells, path_at, path_cells, path_reads, spot, spot_cells, spot_reads, top_side, walk_cells, walk_reads}
use Rattle.model.proofs.GrownTries.{agreed_walk, walk_live}
use Rattle.trie.specs.declared.Hand.TheVariants.{Left, Right}
use Rattle.trie.specs.declared.Walk.{Walk}
use Rattle.trie.specs.Strung.{lengths}
use Rattle.trie.specs.Walks.{By}
use Rattle.trie.proofs.Strung.{lengths_at, order_size}
use Rattle.growth.specs.Grows.{Asked}
use Rattle.growth.specs.Parts.{FirstPlace, leaf_place}
use Rattle.growth.proofs.Standing.{Ends, SideBy, asc_le, asc_lt, left_of, no_cell, order_below, right_of, walk_stands}

leaf_on_left : (w : Walk) (places : List ℕ) (m : ℕ) → w.cell ≡ m → w.hand ≡ Left → m < 256 → leaf_place w places ≡ get_or places m 0
unfolding leaf_place
leaf_on_left w places m e l h = rw (e, lt-leb 256 m h, l)

leaf_on_right : (w : Walk) (places : List ℕ) (m : ℕ) → w.cell ≡ m → w.hand ≡ Right → m < 256 → leaf_place w places ≡ suc (get_or places m 0)
unfolding leaf_place
leaf_on_right w places m e l h = rw (e, lt-leb 256 m h, l) (add-one (get_or places m 0))

-- What is not above s stands at the last place or before it.
abbrev pub Parted : Str → ℕ → Str → ℕ → Type 0
Parted s last p j = (p ⊑ s → j ≤ last) × (j ≤ last → p ⊑ s)

module _ {t : Trie} {places lens : List ℕ} {w : Walk} {c s : Str} {shared a : ℕ} (K : Asked t places lens w c s shared a) where
  -- The trie's cells agree with the file's strings, ss; os has the cells in the strings' order.
  pub C : CellsAgree (ranges K.fs) K.sound.order (live_cells t) (top_side t)
  C = agrees_cells K.b K.sound K.agrees

  abbrev pub ss : List Str
  ss = all (bounds (ranges K.fs) K.sound.order)

  abbrev pub os : List ℕ
  os = K.placed.order

  pub live : length (live_cells t) ≡ t.count
  live = length-take-le t.count t.cells (omega (arith, K.agrees.few, K.agrees.whole))

  pub visits : length C.visits ≡ length (live_cells t)
  visits = visits_count C.reads C.each

  pub strings_count : length ss ≡ t.count
  strings_count = sym (cells_count C.trie) ∙ sym (reads_size C.reads) ∙ visits ∙ live

  pub order_count : length os ≡ t.count
  order_count = order_size C.reads K.placed.in_order ∙ sym (reads_size C.reads) ∙ visits ∙ live

  -- The walk of c, in the tree: the leaf's path, the side by which it is reached, its slot and its place.
  abbrev pub path : Str
  path = path_at c [] C.tree

  abbrev pub sp : Spot
  sp = spot c [] root C.reads

  pub path_is : path_cells (live_cells t) c (suc (length (live_cells t))) [] (top_side t) ≡ path
  path_is = path_reads c (suc (length (live_cells t))) [] C.reads (omega (arith, visits))

  pub spot_is : spot_cells (live_cells t) c (suc (length (live_cells t))) [] root (top_side t) ≡ sp
  spot_is = spot_reads c (suc (length (live_cells t))) [] root C.reads (omega (arith, visits))

  pub walk_is : walk_cells (live_cells t) c (suc (length (live_cells t))) [] (top_side t) ≡ walk c [] C.tree
  walk_is = walk_reads c (suc (length (live_cells t))) [] C.reads (omega (arith, visits))

  pub ends : Ends (live_cells t) [] ss os c root sp path
  ends = walk_stands c root C.reads C.trie K.placed.in_order least top

  asc : Asc none ss []
  asc = trie_asc C.trie

  -- The walk that was asked with is this one.
  same_leaf : (K.path ≡ path) × (K.spot ≡ sp) × (a ≡ walk_trie t c)
  same_leaf =
      let x : Str × Spot × ℕ = (K.path, K.spot, a) in
      let y : Str × Spot × ℕ = (path, sp, walk_trie t c) in
      let f : some x ≡ some y = sym K.walked ∙ (rw (path_is, spot_is) at (agreed_walk K.sound K.agrees c)) in
      let e : x ≡ y = cc in
      (ap (λ (z : Str × Spot × ℕ). z.0) e, ap (λ (z : Str × Spot × ℕ). z.1) e, ap (λ (z : Str × Spot × ℕ). z.2) e)

  pub shares : shared ≡ diff s path
  shares = K.shares ∙ ap (diff s) same_leaf.0

  pub by_is : By sp w
  by_is = subst (λ (k : Spot). By k w) same_leaf.1 K.by

  pub slot_is : a ≡ walk c [] C.tree
  slot_is = same_leaf.2 ∙ walk_live K.sound K.agrees c ∙ walk_is

  fits : length s ≤ length c
  fits = omega (arith, ap length K.begins, length-take (length s) c)

  -- The code's place is the leaf's.
  pub leaf_place_is : 0 < t.count → leaf_place w places ≡ ends.place
  leaf_place_is h = go ends.by by_is
    where
      below : (j : ℕ) → j < length os → get_or os j 0 < 256
      below j h = omega (arith, order_below K.placed.in_order j h, live, K.agrees.few)

      go : {j : ℕ} {p : Spot} → SideBy root os j p → By p w → leaf_place w places ≡ j
      go (no_cell e) b = absurd (omega (arith, order_count))
      go (left_of j i) b = leaf_on_left w places (get_or os j 0) b.0 b.1 (below j i) ∙ K.placed.place_is j i
      go (right_of j i) b = leaf_on_right w places (get_or os j 0) b.0 b.1 (below j i) ∙ ap suc (K.placed.place_is j i)

  -- The lengths are those of the strings.
  lens_at : (j : ℕ) → j < length ss → get_or lens j 0 ≡ length (get_or ss j [])
  lens_at j h =
      let e : take (length ss) lens ≡ lengths ss = rw (strings_right K.b K.sound) at K.lens_are in
      sym (get_or-take (length ss) lens j 0 h) ∙ ap (λ (l : List ℕ). get_or l j 0) e ∙ lengths_at ss j

  -- s is a string already: the first place with as many digits is its own.
  module _ (same : shared ≡ length s) where
    pub is_some : 0 < length path
    is_some = omega (arith, same, shares, K.some, diff_le_right s path)

    begin : take (length s) path ≡ s
    begin =
        let e : diff s path ≡ length s = omega (arith, same, shares) in
        sym (rw e at (take_diff s path)) ∙ take-length s

    inside : ends.place < length ss
    inside = elim (dec_lt ends.place (length ss)) [
      | yes h ↦ h
      | no n ↦ (let e : path ≡ [] = sym ends.path_is ∙ get_or_eq_default ss [] {n = ends.place} (omega arith) in absurd (omega (arith, is_some, ap length e)))
    ]

    pub some_cells : 0 < t.count
    some_cells = omega (arith, inside, strings_count)

    mine : (j : ℕ) × (j < length ss) × (get_or ss j [] ≡ s)
    mine = mem_place [] ss (go (all_closed (bounds (ranges K.fs) K.sound.order) path (rw ends.path_is at (mem_at [] ss ends.place inside)) (length s)))
      where
        go : Memᴰ (take (length s) path) ss ⊎ ([] ⊑ take (length s) path) → Memᴰ s ss
        go (inl m) = rw begin at m
        go (inr h) = absurd (not_top (length s) path K.some (omega (arith, same, shares, diff_le_right s path)) h)

    module _ (last : ℕ) (F : FirstPlace lens ends.place (length s) last) where
      up : ends.place ≤ mine.0
      up = elim (dec_lt mine.0 ends.place) [
        | no n ↦ omega arith
        | yes h ↦ absurd (asc_lt asc mine.0 ends.place h mine.1 (rw (ends.path_is, mine.2) (rw begin at (le_take (length s) path))))
      ]

      not_past : last ≤ mine.0
      not_past = elim (dec_lt mine.0 last) [
        | no n ↦ omega arith
        | yes h ↦ absurd (F.before mine.0 h up (lens_at mine.0 mine.1 ∙ ap length mine.2))
      ]

      as_long : length (get_or ss last []) ≡ length s
      as_long = sym (lens_at last (omega (arith, not_past, mine.1))) ∙ F.found (omega (arith, not_past, mine.1, strings_count, K.agrees.few))

      last_is : last ≡ mine.0
      last_is = elim (dec_lt last mine.0) [
        | no n ↦ omega (arith, not_past)
        | yes h ↦ absurd (asc_lt asc last mine.0 h (omega (arith, not_past, mine.1)) (rw (mine.2, as_s) (le_refl s)))
      ]
        where
          low : path ⊑ get_or ss last []
          low = rw ends.path_is at (asc_le asc ends.place last F.from_on)

          high : get_or ss last [] ⊑ take (length s) path
          high = rw begin (rw mine.2 at (asc_le asc last mine.0 not_past))

          as_s : get_or ss last [] ≡ s
          as_s = sym (take_all (length s) (get_or ss last []) (omega (arith, as_long)))
              ∙ (sandwich (length s) path low high (omega (arith, same, shares, diff_le_right s path))).0 ∙ begin

      pub old_parted : (j : ℕ) → Parted s last (get_or ss j []) j
      old_parted j = (
        λ h. elim (dec_lt last j) [
          | no n ↦ omega arith
          | yes k ↦ absurd (asc_lt asc mine.0 j (omega (arith, k, last_is)) mine.1 (rw mine.2 h))
        ],
        λ h. rw mine.2 at (asc_le asc j mine.0 (omega (arith, h, last_is))),
      )

  -- s is none: the leaf that c reaches parts the strings.
  module _ (new : shared < length s) where
    pub path_above : ¬ (path ⊑ s)
    path_above h =
        let e : take (length s) path ≡ s = (sandwich (length s) c ends.within (subst (λ (x : Str). path ⊑ x) K.begins h) fits).0 ∙ sym K.begins in
        omega (arith, new, shares, diff_begin s path e)

    pub below_leaf : (j : ℕ) → j < ends.place → get_or ss j [] ⊑ s
    below_leaf j h = le_trans (lt_le (ends.before j h)) (rw (← K.begins) at (le_take (length s) c))

    pub above_leaf : (j : ℕ) → ends.place ≤ j → ¬ (get_or ss j [] ⊑ s)
    above_leaf j h k = path_above (le_trans (rw ends.path_is at (asc_le asc ends.place j h)) k)
