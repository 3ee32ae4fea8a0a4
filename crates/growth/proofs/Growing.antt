-- The code's cells are the grown trie's.
use Rattle.model.proofs.Prelude.{List, get_or_append, [], ◌++◌, ◌+◌, ◌-◌, ◌<◌, ◌∙◌, ◌∷◌, ◌≡◌, ◌≢◌, ◌≤◌, add-one, and-false, ap, append-nil, ap₂, arith, clash, dec_le, dec_lt, drop, drop-length, eq-eqb, eqb, ext_get_or, get_or, get_or-append-add, get_or-set_other, get_or-set_same, get_or-take, le-leb, length, length-append, length-drop, length-replicate, length-set, lt-leb, ne_eqb, refl, replicate, set, subst, suc, sym, take, take_all, zero, ℕ, ℕ_discrete}
use Rattle.model.specs.declared.Cell.{Cell}
use Rattle.model.specs.declared.Side.{Side}
use Rattle.model.specs.declared.Side.TheVariants.{Cell as further, Slot as slot}
use Rattle.model.specs.declared.Trie.{Trie}
use Rattle.model.specs.Order.{Str, ◌⊑◌, diff}
use Rattle.model.specs.Tries.{Reads, Spot, Tree, at_cell, first_leaf_of, leaf, left, occ, right, root, root_side, trie_of, zero_cell}
use Rattle.model.specs.Rebuilding.{lay, side_of}
use Rattle.model.specs.Growth.{cell_of, changed, grow_cells, grown, grown_trie, placed, turn, turn_cell, turn_cells, turn_side}
use Rattle.model.proofs.Deciding.{le?}
use Rattle.model.proofs.Order.{le_refl}
use Rattle.model.proofs.Tests.{le_is_at_most, lt_is_at_most}
use Rattle.model.proofs.Cells.{each_once, height, length_lay, reads_height, visits_count}
use Rattle.model.proofs.GrownCells.{Turned, cells_grown, cells_turned, grow_reads, new_cells, replace, root_grown, root_turned, turn_reads}
use Rattle.model.proofs.Tries.{walk}
use Rattle.model.proofs.GrownTries.{grown_trie_is}
use Rattle.model.proofs.Walks.{live_cells, top_side}
use Rattle.trie.specs.declared.Hand.{Hand}
use Rattle.trie.specs.declared.Hand.TheVariants.{Left, Right}
use Rattle.trie.specs.declared.Walk.{Walk}
use Rattle.trie.specs.Walks.{By}
use Rattle.growth.specs.Grows.{Asked}
use Rattle.growth.specs.Parts.{Appended, FirstPlace, Redirected, cell_turned, leaf_place, new_cell, next_side, side_joined, side_turned, walk_joined}
use Rattle.growth.proofs.Meeting.{Comes, Kept, Met, met_left, string_of, turn_met, visited_met, walk_comes}
use Rattle.growth.proofs.Standing.{SideBy, Stands, left_of, met_stands, no_cell, order_below, right_of}
use Rattle.growth.proofs.Parting.{C, Parted, above_leaf, below_leaf, by_is, ends, leaf_place_is, live, old_parted, order_count, os, path, path_above, path_is, shares, slot_is, some_cells, sp, spot_is, ss, strings_count, visits, walk_is}
use Rattle.growth.proofs.Chains.{chain_side, chain_size, graft_kept, graft_none, grown_at, met_first, met_old, next_further, next_slot, path_on, path_to, proper_above}

-- A trie is its cells, its count and its first leaf; a cell its digit, its number and its sides.
trie_same : {r r' : Trie} → r.cells ≡ r'.cells → r.count ≡ r'.count → r.first ≡ r'.first → r ≡ r'
trie_same {r} {r'} e f g =
    ap (λ (x : List Cell). record { cells = x; count = r.count; first = r.first }) e
    ∙ ap₂ (λ (x y : ℕ). record { cells = r'.cells; count = x; first = y }) f g

cell_same : {c c' : Cell} → c.digit ≡ c'.digit → c.number ≡ c'.number → c.left ≡ c'.left → c.right ≡ c'.right → c ≡ c'
cell_same {c} {c'} d i l r =
    ap₂ (λ (x y : ℕ). record { digit = x; number = y; left = c.left; right = c.right }) d i
    ∙ ap₂ (λ (x y : Side). record { digit = c'.digit; number = c'.number; left = x; right = y }) l r

padded : (xs : List Cell) (n i : ℕ) → length xs ≤ i → at_cell (xs ++ replicate n zero_cell) i ≡ zero_cell
padded [] zero i h = refl
padded [] (suc n) zero h = refl
padded [] (suc n) (suc i) h = padded [] n i (omega arith)
padded (x ∷ xs) n zero h = absurd (omega arith)
padded (x ∷ xs) n (suc i) h = padded xs n i (omega arith)

-- Cells that hold these, and zero cells behind them, are these cells' trie.
made : (r : Trie) (T : List Cell) (x : Side) → length r.cells ≡ 256 → length T ≤ 256 → ((i : ℕ) → i < length T → at_cell r.cells i ≡ at_cell T i)
    → ((i : ℕ) → length T ≤ i → at_cell r.cells i ≡ zero_cell) → r.count ≡ length T → r.first ≡ first_leaf_of x → r ≡ trie_of T x
made r T x full few same past count first = trie_same (ext_get_or zero_cell r.cells (T ++ replicate (256 - length T) zero_cell) lens each) count first
  where
    lens : length r.cells ≡ length (T ++ replicate (256 - length T) zero_cell)
    lens = omega (arith, full, few, length-append T (replicate (256 - length T) zero_cell), length-replicate (256 - length T) zero_cell)

    each : (i : ℕ) → i < length r.cells → at_cell r.cells i ≡ at_cell (T ++ replicate (256 - length T) zero_cell) i
    each i h = elim (dec_lt i (length T)) [
      | yes b ↦ same i b ∙ sym (get_or_append T (replicate (256 - length T) zero_cell) zero_cell i b)
      | no b ↦ past i (omega arith) ∙ sym (padded T (256 - length T) i (omega arith))
    ]

-- A side is turned by its path as by its place, where the place that parts is right about the path.
side_same : (s : Str) (A N : ℕ) (p : Str) (j last : ℕ) (x : Side) → ((B : ℕ) → x ≡ slot B → Parted s last p j) → side_turned x j last A N ≡ turn_side (turn s A N) p x
unfolding side_turned
side_same s A N p j last (further m) f = refl
side_same s A N p j last (slot B) f = go (ℕ_discrete B A) (le? p s) (f B refl)
  where
    go : Dec (B ≡ A) → Dec (p ⊑ s) → Parted s last p j → side_turned (slot B) j last A N ≡ slot (turn s A N p B)
    go (no n) e h = rw (ne_eqb B A n)
    go (yes q) (yes e) h = rw (eq-eqb B A q, le-leb j last (h.0 e), le_is_at_most p s e)
    go (yes q) (no e) h =
        elim (dec_le j last) [ yes k ↦ absurd (e (h.1 k)) | no k ↦ rw (eq-eqb B A q, lt-leb j last (omega arith), lt_is_at_most p s e) ]

-- Where the code joins the new cells.
join_none : (r : Trie) (n : ℕ) (w : Walk) → n ≤ w.cell → walk_joined r n w ≡ r
unfolding walk_joined
join_none r n w h = rw (le-leb n w.cell h)

join_cells : (r : Trie) (n : ℕ) (w : Walk) → w.cell < n → (walk_joined r n w).cells ≡ set r.cells w.cell (side_joined (at_cell r.cells w.cell) w.hand n)
unfolding walk_joined
join_cells r n w h = rw (lt-leb n w.cell h)

join_length : (r : Trie) (n : ℕ) (w : Walk) → length (walk_joined r n w).cells ≡ length r.cells
join_length r n w = elim (dec_le n w.cell) [
  | yes h ↦ ap (λ (x : Trie). length x.cells) (join_none r n w h)
  | no h ↦ ap length (join_cells r n w (omega arith)) ∙ length-set r.cells w.cell _
]

join_behind : (r : Trie) (n : ℕ) (w : Walk) (i : ℕ) → n ≤ i → at_cell (walk_joined r n w).cells i ≡ at_cell r.cells i
join_behind r n w i b = elim (dec_le n w.cell) [
  | yes h ↦ ap (λ (x : Trie). at_cell x.cells i) (join_none r n w h)
  | no h ↦ ap (λ (x : List Cell). at_cell x i) (join_cells r n w (omega arith)) ∙ get_or-set_other r.cells w.cell i _ zero_cell (λ e. omega (arith, e, b, h))
]

join_other : (r : Trie) (n : ℕ) (w : Walk) (m i : ℕ) → w.cell ≡ m → m < n → i ≢ m → at_cell (walk_joined r n w).cells i ≡ at_cell r.cells i
join_other r n w m i e h d =
    ap (λ (x : List Cell). at_cell x i) (join_cells r n w (omega arith)) ∙ get_or-set_other r.cells w.cell i _ zero_cell (λ q. d (q ∙ e))

join_same : (r : Trie) (n : ℕ) (w : Walk) (m : ℕ) → w.cell ≡ m → m < n → m < length r.cells → at_cell (walk_joined r n w).cells m ≡ side_joined (at_cell r.cells m) w.hand n
join_same r n w m e h l =
    ap (λ (x : List Cell). at_cell x m) (join_cells r n w (omega arith))
    ∙ subst (λ (k : ℕ). at_cell (set r.cells k (side_joined (at_cell r.cells k) w.hand n)) m ≡ side_joined (at_cell r.cells m) w.hand n) (sym e)
    (get_or-set_same r.cells m (side_joined (at_cell r.cells m) w.hand n) zero_cell l)

-- What a leaf leads to, by whether its path is above s.
turn_stays : (s : Str) (A N : ℕ) (p : Str) (B : ℕ) → p ⊑ s → turn s A N p B ≡ B
turn_stays s A N p B h = rw (le_is_at_most p s h, and-false (eqb B A))

turn_goes : (s : Str) (A N : ℕ) (p : Str) (B : ℕ) → B ≡ A → ¬ (p ⊑ s) → turn s A N p B ≡ N
turn_goes s A N p B b h = rw (eq-eqb B A b, lt_is_at_most p s h)

placed_top : (n first : ℕ) (x : Side) → 0 < n → placed (root_side n first) x ≡ root_side n first
placed_top zero first x h = absurd (omega arith)
placed_top (suc n) first x h = refl

top_first : (f : Str → ℕ → ℕ) (n first : ℕ) → 0 < n → first_leaf_of (turn_side f [] (root_side n first)) ≡ 0
top_first f zero first h = absurd (omega arith)
top_first f (suc n) first h = refl

placed_first : (f : Str → ℕ → ℕ) (x : Side) (n : ℕ) → first_leaf_of (turn_side f [] (placed x (further n))) ≡ 0
placed_first f (slot s) n = refl
placed_first f (further m) n = refl

-- A cell below the count: the path that it is met with, and its place.
record Here (t : Trie) (places : List ℕ) (ss : List Str) (os : List ℕ) (i : ℕ) : Type 0 where
  path : Str
  met : Met (live_cells t) [] (top_side t) i path
  stands : Stands (live_cells t) [] ss os i path
  place_is : get_or places i 0 ≡ stands.place

module _ {t : Trie} {places lens : List ℕ} {w : Walk} {c s : Str} {shared a : ℕ} (K : Asked t places lens w c s shared a) (N : ℕ) where
  here_at : (i : ℕ) → i < length (live_cells t) → Here t places (ss K) (os K) i
  here_at i h =
      let m = visited_met (C K).reads [] i (omega (arith, (C K).each i h)) in
      let S = met_stands (C K).reads (C K).trie K.placed.in_order m.1 in
      record {
        path = m.0;
        met = m.1;
        stands = S;
        place_is = rw S.is at (K.placed.place_is S.place (omega (arith, S.fits, strings_count K, order_count K)));
      }

  once : (i : ℕ) → occ i (C K).visits ≤ 1
  once = each_once (C K).reads (C K).each

  old_at : (i : ℕ) → i < length (live_cells t) → at_cell t.cells i ≡ at_cell (live_cells t) i
  old_at i h = sym (get_or-take t.count t.cells i zero_cell (omega (arith, h, live K)))

  -- What the code makes of a cell, by its place.
  redirected_at : (last : ℕ) (r : Trie) → Redirected t places (length (live_cells t)) last a N r → (i : ℕ) (h : i < length (live_cells t))
      → at_cell r.cells i ≡ cell_turned (at_cell (live_cells t) i) (here_at i h).stands.place last a N
  redirected_at last r R i h =
      R.turned i h (omega (arith, h, live K, K.agrees.few, K.agrees.whole))
      ∙ ap₂ (λ (x : Cell) (y : ℕ). cell_turned x y last a N) (old_at i h) (here_at i h).place_is

  -- No cell is added.
  module _ (same : shared ≡ length s) where
    none_new : new_cells (live_cells t) (top_side t) c s a N ≡ leaf (walk c [] (C K).tree)
    none_new =
        let e : diff s (path K) ≡ length s = omega (arith, same, shares K) in
        rw (path_is K, walk_is K, e, drop-length s)

    none_grown : cells_grown (live_cells t) (top_side t) c s a N ≡ live_cells t
    none_grown = rw (none_new, spot_is K) (append-nil _ ∙ graft_none (walk_comes c [] root (C K).reads))

    root_same : root_grown (live_cells t) (top_side t) c s a N ≡ top_side t
    root_same = placed_top t.count t.first _ (some_cells K same)

    abbrev T : List Cell
    T = turn_cells (turn s a N) (suc (length (live_cells t))) [] (top_side t) (live_cells t)

    tall : height (C K).tree ≤ suc (length (live_cells t))
    tall = omega (arith, reads_height (C K).reads, visits K)

    U : Turned (turn s a N) (live_cells t) T [] (top_side t) (C K).tree (C K).visits
    U = turn_reads (turn s a N) (suc (length (live_cells t))) (C K).tree [] (C K).reads once tall

    pub string_grown : (last : ℕ) (r : Trie) → FirstPlace lens (leaf_place w places) (length s) last → Redirected t places (length (live_cells t)) last a N r
        → r ≡ grown_trie t c s a N
    unfolding cell_turned
    string_grown last r F R =
        made r T (turn_side (turn s a N) [] (top_side t)) (R.full ∙ K.agrees.whole) (omega (arith, size, live K, K.agrees.few)) each past
        (R.count_is ∙ sym (live K) ∙ sym size) (R.first_is ∙ K.agrees.first_leaf (some_cells K same) ∙ sym (top_first (turn s a N) t.count t.first (some_cells K same)))
        ∙ sym (grown_trie_is K.sound K.agrees c s a N ∙ ap₂ (λ (y : List Cell) (z : Side). trie_of y z) cells_are (ap (turn_side (turn s a N) []) root_same))
      where
        size : length T ≡ length (live_cells t)
        size = U.size

        F' : FirstPlace lens (ends K).place (length s) last
        F' = subst (λ (j : ℕ). FirstPlace lens j (length s) last) (leaf_place_is K (some_cells K same)) F

        cells_are : cells_turned (live_cells t) (top_side t) c s a N ≡ T
        cells_are = ap₂ (λ (y : List Cell) (z : Side). turn_cells (turn s a N) (suc (length y)) [] z y) none_grown root_same

        each : (i : ℕ) → i < length T → at_cell r.cells i ≡ at_cell T i
        each i h =
            let b : i < length (live_cells t) = omega (arith, h, size) in
            let H = here_at i b in
            let S = H.stands in
            let x : Cell = at_cell (live_cells t) i in
            redirected_at last r R i b
            ∙ cell_same refl refl
            (side_same s a N (string_of x H.path) S.place last x.left (λ B e. rw S.string at (old_parted K same last F' S.place)))
            (ap (λ (j : ℕ). side_turned x.right j last a N) (add-one S.place)
            ∙ side_same s a N H.path (suc S.place) last x.right (λ B e. rw (S.next B e) at (old_parted K same last F' (suc S.place))))
            ∙ sym (turn_met (turn s a N) (suc (length (live_cells t))) (C K).tree [] (C K).reads once tall i H.path H.met)

        past : (i : ℕ) → length T ≤ i → at_cell r.cells i ≡ zero_cell
        past i h = R.rest i (omega (arith, h, size)) ∙ K.agrees.past i (omega (arith, h, size, live K))

  -- Cells are added: X stands at the leaf that c reaches, whose slot is W; G are the cells with it, Q those turned.
  module _ (new : shared < length s) where
    abbrev W : ℕ
    W = walk c [] (C K).tree

    slot_same : W ≡ a
    slot_same = sym (slot_is K)

    abbrev X : Tree
    X = grown s (path K) W

    abbrev n : ℕ
    n = length (live_cells t)

    abbrev G : List Cell
    G = grow_cells (live_cells t) (sp K) X

    abbrev top_grown : Side
    top_grown = placed (top_side t) (side_of n X)

    abbrev Q : List Cell
    Q = turn_cells (turn s a N) (suc (length G)) [] top_grown G

    new_is : new_cells (live_cells t) (top_side t) c s a N ≡ X
    new_is = rw (path_is K, walk_is K)

    grown_is : cells_turned (live_cells t) (top_side t) c s a N ≡ Q
    grown_is = rw (new_is, spot_is K)

    root_is : root_turned (live_cells t) (top_side t) c s a N ≡ turn_side (turn s a N) [] top_grown
    root_is = rw new_is

    some_new : diff s (path K) < length s
    some_new = omega (arith, new, shares K)

    side_new : side_of n X ≡ further n
    side_new = chain_side (diff s (path K)) n (drop (diff s (path K)) s) W (omega (arith, some_new, length-drop (diff s (path K)) s))

    size_new : length (lay n X) ≡ length s - diff s (path K)
    size_new = length_lay n X ∙ chain_size (diff s (path K)) (drop (diff s (path K)) s) W ∙ length-drop (diff s (path K)) s

    abbrev front : List Cell
    front = set (live_cells t) (cell_of (sp K)) (changed (at_cell (live_cells t) (cell_of (sp K))) (sp K) (side_of n X))

    front_length : length front ≡ n
    front_length = length-set (live_cells t) (cell_of (sp K)) (changed (at_cell (live_cells t) (cell_of (sp K))) (sp K) (side_of n X))

    size_grown : length G ≡ n + (length s - diff s (path K))
    size_grown = length-append front (lay n X) ∙ ap₂ (λ (x y : ℕ). x + y) front_length size_new

    grown_other : (i : ℕ) → i < n → i ≢ cell_of (sp K) → at_cell G i ≡ at_cell (live_cells t) i
    grown_other i h d = get_or_append front (lay n X) zero_cell i (omega (arith, h, front_length)) ∙ get_or-set_other (live_cells t) (cell_of (sp K)) i _ zero_cell d

    grown_there : cell_of (sp K) < n → at_cell G (cell_of (sp K)) ≡ changed (at_cell (live_cells t) (cell_of (sp K))) (sp K) (further n)
    grown_there h =
        get_or_append front (lay n X) zero_cell (cell_of (sp K)) (omega (arith, h, front_length)) ∙ get_or-set_same (live_cells t) (cell_of (sp K)) _ zero_cell h
        ∙ ap (changed (at_cell (live_cells t) (cell_of (sp K))) (sp K)) side_new

    comes : Comes (live_cells t) (top_side t) [] root W (sp K) (path K)
    comes = walk_comes c [] root (C K).reads

    keep : (m : ℕ) → m < n → Kept (at_cell (live_cells t) m) (at_cell G m)
    keep m h = elim (ℕ_discrete m (cell_of (sp K))) [
      | no d ↦ subst (λ (x : Cell). Kept (at_cell (live_cells t) m) x) (sym (grown_other m h d)) (record { digit = refl; number = refl; left = λ j q. q; right = λ j q. q })
      | yes e ↦ subst (λ (i : ℕ). Kept (at_cell (live_cells t) i) (at_cell G i)) (sym e)
          (subst (λ (x : Cell). Kept (at_cell (live_cells t) (cell_of (sp K))) x) (sym (grown_there (omega (arith, h, e)))) (graft_kept (further n) comes))
    ]

    -- Each new cell is met with its path.
    new_at : (i : ℕ) → diff s (path K) + i < length s → at_cell G (n + i) ≡ new_cell s (diff s (path K) + i) (n + i) (n + (length s - diff s (path K))) W W
    new_at i h =
        ap (λ (j : ℕ). at_cell G (j + i)) (sym front_length) ∙ get_or-append-add front (lay n X) i zero_cell ∙ grown_at n s (path K) W i h

    new_left : (i : ℕ) → diff s (path K) + suc i < length s → (at_cell G (n + i)).left ≡ further (n + suc i)
    unfolding new_cell
    new_left i h =
        let e : suc (n + i) ≡ n + suc i = omega arith in
        ap (λ (x : Cell). x.left) (new_at i (omega arith)) ∙ next_further (n + i) (n + (length s - diff s (path K))) W (omega arith) ∙ ap (λ (j : ℕ). further j) e

    new_string : (i : ℕ) → diff s (path K) + i < length s → string_of (at_cell G (n + i)) (path_to s (path K) i) ≡ take (suc (diff s (path K) + i)) s
    unfolding new_cell
    new_string i h = ap (λ (x : Cell). string_of x (path_to s (path K) i)) (new_at i h) ∙ path_on s (path K) i h

    new_met : (i : ℕ) → diff s (path K) + i < length s → Met G [] top_grown (n + i) (path_to s (path K) i)
    new_met zero h =
        let e : n ≡ n + 0 = omega arith in
        subst (λ (j : ℕ). Met G [] top_grown j (path K)) e
        (subst (λ (x : Side). Met G [] (placed (top_side t) x) n (path K)) (sym side_new) (met_first (C K).reads G n keep comes grown_there))
    new_met (suc i) h =
        subst (λ (p : Str). Met G [] top_grown (n + suc i) p) (new_string i (omega arith)) (met_left (new_met i (omega arith)) (new_left i h))

    -- The grown cells read as the grown tree, so each is turned by its path.
    grows : (ws : List ℕ) × Reads G top_grown (replace c X [] (C K).tree) ws × ((i : ℕ) → i < length G → occ i ws ≡ 1)
    grows = grow_reads (live_cells t) c X (C K).tree (top_side t) (C K).visits (C K).reads (C K).each

    tall_grown : height (replace c X [] (C K).tree) ≤ suc (length G)
    tall_grown = omega (arith, reads_height grows.1, visits_count grows.1 grows.2)

    size_turned : length Q ≡ n + (length s - diff s (path K))
    size_turned = (turn_reads (turn s a N) (suc (length G)) (replace c X [] (C K).tree) [] grows.1 (each_once grows.1 grows.2) tall_grown).size ∙ size_grown

    turned_at : (i : ℕ) (r : Str) → Met G [] top_grown i r → at_cell Q i ≡ turn_cell (turn s a N) r (at_cell G i)
    turned_at = turn_met (turn s a N) (suc (length G)) (replace c X [] (C K).tree) [] grows.1 (each_once grows.1 grows.2) tall_grown

    -- The new cells as the code writes them.
    path_over : (i : ℕ) → diff s (path K) + i < length s → ¬ (path_to s (path K) i ⊑ s)
    path_over zero h = path_above K new
    path_over (suc i) h = proper_above (suc (diff s (path K) + i)) s (omega arith)

    left_new : (i : ℕ) → diff s (path K) + i < length s
        → next_side (n + i) (n + (length s - diff s (path K))) a ≡ turn_side (turn s a N) (take (suc (diff s (path K) + i)) s) (next_side (n + i) (n + (length s - diff s (path K))) W)
    left_new i h = elim (dec_lt (suc (diff s (path K) + i)) (length s)) [
      | yes b ↦ next_further (n + i) (n + (length s - diff s (path K))) a (omega arith)
          ∙ ap (turn_side (turn s a N) (take (suc (diff s (path K) + i)) s)) (sym (next_further (n + i) (n + (length s - diff s (path K))) W (omega arith)))
      | no b ↦ next_slot (n + i) (n + (length s - diff s (path K))) a (omega arith)
          ∙ ap (λ (B : ℕ). slot B) (sym (turn_stays s a N (take (suc (diff s (path K) + i)) s) W (whole (omega arith)) ∙ slot_same))
          ∙ ap (turn_side (turn s a N) (take (suc (diff s (path K) + i)) s)) (sym (next_slot (n + i) (n + (length s - diff s (path K))) W (omega arith)))
    ]
      where
        whole : length s ≤ suc (diff s (path K) + i) → take (suc (diff s (path K) + i)) s ⊑ s
        whole b = subst (λ (x : Str). x ⊑ s) (sym (take_all (suc (diff s (path K) + i)) s b)) (le_refl s)

    new_same : (i : ℕ) → diff s (path K) + i < length s → new_cell s (diff s (path K) + i) (n + i) (n + (length s - diff s (path K))) a N ≡ at_cell Q (n + i)
    unfolding new_cell
    new_same i h =
        cell_same refl refl
        (left_new i h ∙ ap (λ (p : Str). turn_side (turn s a N) p (next_side (n + i) (n + (length s - diff s (path K))) W)) (sym (path_on s (path K) i h)))
        (ap (λ (B : ℕ). slot B) (sym (turn_goes s a N (path_to s (path K) i) W slot_same (path_over i h))))
        ∙ ap (turn_cell (turn s a N) (path_to s (path K) i)) (sym (new_at i h))
        ∙ sym (turned_at (n + i) (path_to s (path K) i) (new_met i h))

    -- The old cells: only the leaf that c reaches stands at the place that parts.
    left_parted : (i : ℕ) (h : i < n) (B : ℕ) → (at_cell (live_cells t) i).left ≡ slot B → sp K ≢ left i
        → Parted s (ends K).place (get_or (ss K) (here_at i h).stands.place []) (here_at i h).stands.place
    left_parted i h B e d = elim (dec_lt j (ends K).place) [
      | yes b ↦ (λ q. omega arith, λ q. below_leaf K new j b)
      | no b ↦ elim (dec_lt (ends K).place j) [
        | yes b' ↦ (λ q. absurd (above_leaf K new j (omega arith) q), λ q. absurd (omega arith))
        | no b' ↦ absurd (d (there (omega arith)))
      ]
    ]
      where
        j : ℕ
        j = (here_at i h).stands.place

        there : (ends K).place ≡ j → sp K ≡ left i
        there q =
            let g : get_or (os K) (ends K).place 0 ≡ i = ap (λ (k : ℕ). get_or (os K) k 0) q ∙ (here_at i h).stands.is in
            (ends K).left_only B (omega (arith, q, (here_at i h).stands.fits, strings_count K, order_count K)) (subst (λ (k : ℕ). (at_cell (live_cells t) k).left ≡ slot B) (sym g) e)
            ∙ ap (λ (k : ℕ). left k) g

    right_parted : (i : ℕ) (h : i < n) (B : ℕ) → (at_cell (live_cells t) i).right ≡ slot B → sp K ≢ right i
        → Parted s (ends K).place (get_or (ss K) (suc (here_at i h).stands.place) []) (suc (here_at i h).stands.place)
    right_parted i h B e d = elim (dec_lt (suc j) (ends K).place) [
      | yes b ↦ (λ q. omega arith, λ q. below_leaf K new (suc j) b)
      | no b ↦ elim (dec_lt (ends K).place (suc j)) [
        | yes b' ↦ (λ q. absurd (above_leaf K new (suc j) (omega arith) q), λ q. absurd (omega arith))
        | no b' ↦ absurd (d (there (omega arith)))
      ]
    ]
      where
        j : ℕ
        j = (here_at i h).stands.place

        there : (ends K).place ≡ suc j → sp K ≡ right i
        there q =
            let g : get_or (os K) j 0 ≡ i = (here_at i h).stands.is in
            (ends K).right_only j B q (subst (λ (k : ℕ). (at_cell (live_cells t) k).right ≡ slot B) (sym g) e) ∙ ap (λ (k : ℕ). right k) g

    left_same : (i : ℕ) (h : i < n) → sp K ≢ left i
        → side_turned (at_cell (live_cells t) i).left (here_at i h).stands.place (ends K).place a N
        ≡ turn_side (turn s a N) (string_of (at_cell (live_cells t) i) (here_at i h).path) (at_cell (live_cells t) i).left
    left_same i h d =
        let S = (here_at i h).stands in
        side_same s a N (string_of (at_cell (live_cells t) i) (here_at i h).path) S.place (ends K).place (at_cell (live_cells t) i).left
        (λ B e. subst (λ (p : Str). Parted s (ends K).place p S.place) S.string (left_parted i h B e d))

    right_same : (i : ℕ) (h : i < n) → sp K ≢ right i
        → side_turned (at_cell (live_cells t) i).right ((here_at i h).stands.place + 1) (ends K).place a N ≡ turn_side (turn s a N) (here_at i h).path (at_cell (live_cells t) i).right
    right_same i h d =
        let S = (here_at i h).stands in
        ap (λ (j : ℕ). side_turned (at_cell (live_cells t) i).right j (ends K).place a N) (add-one S.place)
        ∙ side_same s a N (here_at i h).path (suc S.place) (ends K).place (at_cell (live_cells t) i).right
        (λ B e. subst (λ (p : Str). Parted s (ends K).place p (suc S.place)) (S.next B e) (right_parted i h B e d))

    turned_old : (i : ℕ) (h : i < n) → at_cell Q i ≡ turn_cell (turn s a N) (here_at i h).path (at_cell G i)
    turned_old i h = turned_at i (here_at i h).path (met_old (C K).reads G n keep (side_of n X) (here_at i h).met)

    there_at : (m : ℕ) → cell_of (sp K) ≡ m → m < n → at_cell G m ≡ changed (at_cell (live_cells t) m) (sp K) (further n)
    there_at m e h = subst (λ (k : ℕ). at_cell G k ≡ changed (at_cell (live_cells t) k) (sp K) (further n)) e (grown_there (omega (arith, e, h)))

    module _ (r : Trie) (R : Redirected t places n (ends K).place a N r) where
      abbrev J : List Cell
      J = (walk_joined r n w).cells

      long : (m : ℕ) → m < n → m < length r.cells
      long m h = omega (arith, h, R.full, K.agrees.whole, K.agrees.few, live K)

      -- A cell that the graft leaves.
      other_same : (i : ℕ) (h : i < n) (m : ℕ) → w.cell ≡ m → m < n → i ≢ m → cell_of (sp K) ≡ m → sp K ≢ left i → sp K ≢ right i → at_cell J i ≡ at_cell Q i
      unfolding cell_turned
      other_same i h m e b d q dl dr =
          join_other r n w m i e b d
          ∙ redirected_at (ends K).place r R i h
          ∙ cell_same refl refl (left_same i h dl) (right_same i h dr)
          ∙ ap (turn_cell (turn s a N) (here_at i h).path) (sym (grown_other i h (λ x. d (x ∙ q))))
          ∙ sym (turned_old i h)

      left_joined : (i : ℕ) (h : i < n) → w.cell ≡ i → w.hand ≡ Left → sp K ≡ left i → sp K ≢ right i → at_cell J i ≡ at_cell Q i
      unfolding cell_turned side_joined
      left_joined i h e l q d =
          join_same r n w i e h (long i h)
          ∙ ap₂ (λ (x : Cell) (h : Hand). side_joined x h n) (redirected_at (ends K).place r R i h) l
          ∙ cell_same refl refl refl (right_same i h d)
          ∙ ap (turn_cell (turn s a N) (here_at i h).path) (sym (there_at i (ap cell_of q) h ∙ ap (λ (p : Spot). changed (at_cell (live_cells t) i) p (further n)) q))
          ∙ sym (turned_old i h)

      right_joined : (i : ℕ) (h : i < n) → w.cell ≡ i → w.hand ≡ Right → sp K ≡ right i → sp K ≢ left i → at_cell J i ≡ at_cell Q i
      unfolding cell_turned side_joined
      right_joined i h e l q d =
          join_same r n w i e h (long i h)
          ∙ ap₂ (λ (x : Cell) (h : Hand). side_joined x h n) (redirected_at (ends K).place r R i h) l
          ∙ cell_same refl refl (left_same i h d) refl
          ∙ ap (turn_cell (turn s a N) (here_at i h).path) (sym (there_at i (ap cell_of q) h ∙ ap (λ (p : Spot). changed (at_cell (live_cells t) i) p (further n)) q))
          ∙ sym (turned_old i h)

      old_same : (i : ℕ) → i < n → at_cell J i ≡ at_cell Q i
      old_same i h = go (ends K).by refl (by_is K)
        where
          below : (j : ℕ) → j < length (os K) → get_or (os K) j 0 < n
          below j b = order_below K.placed.in_order j b

          to_left : (m : ℕ) → m < n → sp K ≡ left m → (w.cell ≡ m) × (w.hand ≡ Left) → Dec (i ≡ m) → at_cell J i ≡ at_cell Q i
          to_left m b q y (yes e) =
              left_joined i h (y.0 ∙ sym e) y.1 (q ∙ ap (λ (k : ℕ). left k) (sym e)) (λ x. clash cc)
          to_left m b q y (no d) =
              other_same i h m y.0 b d (ap cell_of q) (λ x. let z : i ≡ m = cc in d z) (λ x. clash cc)

          to_right : (m : ℕ) → m < n → sp K ≡ right m → (w.cell ≡ m) × (w.hand ≡ Right) → Dec (i ≡ m) → at_cell J i ≡ at_cell Q i
          to_right m b q y (yes e) =
              right_joined i h (y.0 ∙ sym e) y.1 (q ∙ ap (λ (k : ℕ). right k) (sym e)) (λ x. clash cc)
          to_right m b q y (no d) =
              other_same i h m y.0 b d (ap cell_of q) (λ x. clash cc) (λ x. let z : i ≡ m = cc in d z)

          go : {j : ℕ} {p : Spot} → SideBy root (os K) j p → sp K ≡ p → By p w → at_cell J i ≡ at_cell Q i
          go (no_cell e) q y = absurd (omega (arith, e, h, order_count K, live K))
          go (left_of j b) q y = to_left (get_or (os K) j 0) (below j b) q y (ℕ_discrete i (get_or (os K) j 0))
          go (right_of j b) q y = to_right (get_or (os K) j 0) (below j b) q y (ℕ_discrete i (get_or (os K) j 0))

    pub new_grown : (r r' : Trie) → n + length s ≤ 256 + shared → Redirected t places n (leaf_place w places) a N r → Appended (walk_joined r n w) n s shared a N r' → r' ≡ grown_trie t c s a N
    new_grown r r' room R P =
        made r' Q (turn_side (turn s a N) [] top_grown) full (omega (arith, size_turned, room, shares K)) each past
        (P.count_is ∙ ap (λ (k : ℕ). n + (length s - k)) (shares K) ∙ sym size_turned)
        (P.first_is ∙ sym (ap (λ (x : Side). first_leaf_of (turn_side (turn s a N) [] (placed (top_side t) x))) side_new ∙ placed_first (turn s a N) (top_side t) n))
        ∙ sym (grown_trie_is K.sound K.agrees c s a N ∙ ap₂ (λ (y : List Cell) (z : Side). trie_of y z) grown_is root_is)
      where
        full : length r'.cells ≡ 256
        full = P.written.full ∙ join_length r n w ∙ R.full ∙ K.agrees.whole

        added : (j : ℕ) → diff s (path K) + j < length s → at_cell r'.cells (n + j) ≡ at_cell Q (n + j)
        added j h =
            P.written.new j (omega (arith, h, shares K, new)) (omega (arith, h, shares K, new, room, full, P.written.full))
            ∙ ap (λ (k : ℕ). new_cell s (k + j) (n + j) (n + (length s - k)) a N) (shares K)
            ∙ new_same j h

        each : (i : ℕ) → i < length Q → at_cell r'.cells i ≡ at_cell Q i
        each i h = elim (dec_lt i n) [
          | yes b ↦ P.written.before i b
              ∙ old_same r (subst (λ (j : ℕ). Redirected t places n j a N r) (leaf_place_is K (omega (arith, b, live K))) R) i b
          | no b ↦ subst (λ (k : ℕ). at_cell r'.cells k ≡ at_cell Q k) (omega arith) (added (i - n) (omega (arith, h, size_turned)))
        ]

        past : (i : ℕ) → length Q ≤ i → at_cell r'.cells i ≡ zero_cell
        past i h =
            P.written.behind i (omega (arith, h, size_turned, shares K)) ∙ join_behind r n w i (omega (arith, h, size_turned))
            ∙ R.rest i (omega (arith, h, size_turned)) ∙ K.agrees.past i (omega (arith, h, size_turned, live K))

  -- As the code has them.
  pub grown_string : {m place last : ℕ} {r : Trie} → shared ≡ length s → m ≡ t.count → place ≡ leaf_place w places → FirstPlace lens place shared last
      → Redirected t places m last a N r → r ≡ grown_trie t c s a N
  grown_string {m} {place} {last} {r} same em ep F R =
      string_grown same last r (subst (λ (k : ℕ). FirstPlace lens (leaf_place w places) k last) same (subst (λ (k : ℕ). FirstPlace lens k shared last) ep F))
      (subst (λ (k : ℕ). Redirected t places k last a N r) (em ∙ sym (live K)) R)

  pub grown_new : {m place : ℕ} {r r' r'' : Trie} → shared < length s → t.count + length s ≤ 256 + shared → m ≡ t.count → place ≡ leaf_place w places
      → Redirected t places m place a N r → r' ≡ walk_joined r m w → Appended r' m s shared a N r'' → r'' ≡ grown_trie t c s a N
  grown_new {m} {place} {r} {r'} {r''} new room em ep R e P =
      let q : m ≡ length (live_cells t) = em ∙ sym (live K) in
      new_grown new r r'' (omega (arith, room, live K)) (subst (λ (k : ℕ). Redirected t places k (leaf_place w places) a N r) q (subst (λ (k : ℕ). Redirected t places m k a N r) ep R))
      (subst (λ (k : ℕ). Appended (walk_joined r k w) k s shared a N r'') q (subst (λ (x : Trie). Appended x m s shared a N r'') e P))
