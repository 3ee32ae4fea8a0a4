-- Growth and redirection in the cells: cells that agree before a split agree after it.
use Rattle.model.proofs.Prelude.{Bool, List, Memᴰ, mem_append_cases, mem_cases_cons, mem_not_nil, get_or_append, [], ◌++◌, ◌+◌, ◌<◌, ◌∙◌, ◌∷◌, ◌≡◌, ◌≢◌, ◌≤◌, ◌⊎◌, ap, arith, cond, dec_le, drop-length, eqb, eqb-false, false, get_or-append-add, get_or-set_other, get_or-set_same, inl, inr, length, length-append, length-set, length-take-le, refl, set, suc, sym, take, true, zero, ℕ}
use Rattle.model.specs.declared.Cell.{Cell}
use Rattle.model.specs.declared.Side.{Side}
use Rattle.model.specs.declared.Side.TheVariants.{Cell as further}
use Rattle.model.specs.Order.{Low, Str, ◌≺◌, ◌⊑◌, ◌◁◌, above, diff, least, none, top}
use Rattle.model.specs.Files.{Chain, RangeTable}
use Rattle.model.specs.Searches.{all, bounds}
use Rattle.model.specs.Tries.{Leads, Reads, Spot, Tree, at_cell, cell, here, leaf, left, node, occ, right, root, size, there, zero_cell}
use Rattle.model.specs.Rebuilding.{lay, side_of}
use Rattle.model.specs.Growth.{cell_of, changed, grow_cells, grown, placed, turn, turn_cell, turn_cells, turn_side}
use Rattle.model.proofs.Deciding.{le?, over}
use Rattle.model.proofs.Order.{diff_lt_left, le_refl, le_take, le_trans, lt_le, sandwich}
use Rattle.model.proofs.Tries.{Spans, cut, inside, relabel, tip, walk}
use Rattle.model.proofs.Cells.{Stands, each_once, height, lay_reads, length_lay, not_visited, numbers_upto, occ_append, one_if_equal, reads_agree, reads_below, reads_height, reads_set, there_at, upto, upto_above, upto_once, visits_count}
use Rattle.model.proofs.Agreement.{CellsAgree}
use Rattle.model.proofs.Splitting.{SplitAt, split_agrees}
use Rattle.model.proofs.Growth.{graft, string?}
use Rattle.model.proofs.Walks.{path_at, path_cells, path_reads, spot, spot_cells, spot_reads, walk_cells, walk_reads}

-- In the tree, the leaf that n reaches is replaced by X.
abbrev pub replace : Str → Tree → Str → Tree → Tree
replace n X p (leaf s) = X
replace n X p (node d i L R) = elim (le? n (cell d i p)) [ yes h ↦ node d i (replace n X (cell d i p) L) R | no h ↦ node d i L (replace n X p R) ]

-- The spot lies among the cells visited, and the side stays; or no cell is visited, and the side is replaced.
abbrev pub Visited : Side → Spot → Spot → List ℕ → Type 0
Visited a k sp vs = ((sp ≡ k) × ((x : Side) → placed a x ≡ x)) ⊎ ((0 < occ (cell_of sp) vs) × ((x : Side) → placed a x ≡ a))

pub spot_visited : {cs : List Cell} {a : Side} {t : Tree} {vs : List ℕ} (n p : Str) (k : Spot) (r : Reads cs a t vs) → Visited a k (spot n p k r) vs
spot_visited n p k here = inl (refl, λ x. refl)
spot_visited {cs} n p k (there {n = m} {vs = vs} {ws = ws} h l r) = inr (go (le? n q) (spot_visited n q (left m) l) (spot_visited n p (right m) r), λ x. refl)
  where
    q : Str
    q = cell (at_cell cs m).digit (at_cell cs m).number p

    self : (k : ℕ) → k ≡ m → 0 < occ k (m ∷ (vs ++ ws))
    self k e = omega (arith, one_if_equal k m e)

    go : (d : Dec (n ⊑ q)) → Visited (at_cell cs m).left (left m) (spot n q (left m) l) vs → Visited (at_cell cs m).right (right m) (spot n p (right m) r) ws
        → 0 < occ (cell_of (elim d [ yes h ↦ spot n q (left m) l | no h ↦ spot n p (right m) r ])) (m ∷ (vs ++ ws))
    go (yes h) (inl e) g = self _ (ap cell_of e.0)
    go (yes h) (inr o) g = omega (arith, o.0, occ_append (cell_of (spot n q (left m) l)) vs ws)
    go (no h) f (inl e) = self _ (ap cell_of e.0)
    go (no h) f (inr o) = omega (arith, o.0, occ_append (cell_of (spot n p (right m) r)) vs ws)

-- cs' is cs with the spot's side set to new, which there leads to X by the cells xs.
module _ (cs cs' : List Cell) (n : Str) (new : Side) (X : Tree) (xs : List ℕ) (sp : Spot)
    (len : length cs ≤ length cs')
    (others : (m : ℕ) → m < length cs → m ≢ cell_of sp → at_cell cs' m ≡ at_cell cs m)
    (there' : cell_of sp < length cs → at_cell cs' (cell_of sp) ≡ changed (at_cell cs (cell_of sp)) sp new)
    (rx : Reads cs' new X xs) where
  reads_other : {a : Side} {t : Tree} {vs : List ℕ} → occ (cell_of sp) vs ≡ 0 → Reads cs a t vs → Reads cs' a t vs
  reads_other o here = here
  reads_other o (there {n = m} {vs = vs} {ws = ws} h l r) =
      let a = not_visited (cell_of sp) m vs ws o in
      there_at (omega arith) (others m h a.0) (reads_other a.1 l) (reads_other a.2 r)

  pub record Grafted (a : Side) (t : Tree) (vs : List ℕ) : Type 0 where
    pub visits : List ℕ
    pub reads : Reads cs' a t visits
    pub counts : (m : ℕ) → occ m visits ≡ occ m vs + occ m xs

  -- A visited spot stands at m or among vs, so not elsewhere.
  seen : (a : Side) (k : Spot) (vs : List ℕ) → Visited a k sp vs → 0 < cond (eqb (cell_of sp) (cell_of k)) 1 0 + occ (cell_of sp) vs
  seen a k vs (inl e) = omega (arith, one_if_equal (cell_of sp) (cell_of k) (ap cell_of e.0))
  seen a k vs (inr o) = omega (arith, o.0)

  -- The cell k is as it was, but for the side that was walked.
  moved : (m : ℕ) (a : Side) (vs : List ℕ) (k : Spot) (f : Side → Cell) → cell_of k ≡ m → changed (at_cell cs m) k new ≡ f new → at_cell cs m ≡ f a
      → m < length cs → cond (eqb (cell_of sp) m) 1 0 + occ (cell_of sp) vs ≤ 1 → Visited a k sp vs → at_cell cs' m ≡ f (placed a new)
  moved m a vs k f em ec ea h once (inl e) =
      let es : cell_of sp ≡ m = ap cell_of e.0 ∙ em in
      rw (e.1 new) (rw (es, e.0, ec) at (there' (rw es h)))
  moved m a vs k f em ec ea h once (inr o) =
      rw (o.1 new) (others m h (λ e. omega (arith, o.0, one_if_equal (cell_of sp) m (sym e))) ∙ ea)

  pub graft_reads : {a : Side} {t : Tree} {vs : List ℕ} (p : Str) (k : Spot) (r : Reads cs a t vs) → spot n p k r ≡ sp → ((m : ℕ) → occ m vs ≤ 1)
      → Grafted (placed a new) (replace n X p t) vs
  graft_reads p k here e once = record { visits = xs; reads = rx; counts = λ m. omega arith }
  graft_reads p k (there {n = m} {L = L} {R = R} {vs = vs} {ws = ws} h l r) e once =
      go (le? n q) e (λ e. graft_reads q (left m) l e (λ i. omega (arith, once i, occ_append i vs ws)))
      (λ e. graft_reads p (right m) r e (λ i. omega (arith, once i, occ_append i vs ws)))
    where
      c : Cell
      c = at_cell cs m

      q : Str
      q = cell c.digit c.number p

      go : (d : Dec (n ⊑ q)) → elim d [ yes h ↦ spot n q (left m) l | no h ↦ spot n p (right m) r ] ≡ sp
          → (spot n q (left m) l ≡ sp → Grafted (placed c.left new) (replace n X q L) vs)
          → (spot n p (right m) r ≡ sp → Grafted (placed c.right new) (replace n X p R) ws)
          → Grafted (further m) (elim d [ yes h ↦ node c.digit c.number (replace n X q L) R | no h ↦ node c.digit c.number L (replace n X p R) ]) (m ∷ (vs ++ ws))
      go (yes h') e f g =
          let s = f e in
          let v : Visited c.left (left m) sp vs = rw e at (spot_visited n q (left m) l) in
          let o : cond (eqb (cell_of sp) m) 1 0 + occ (cell_of sp) vs + occ (cell_of sp) ws ≤ 1 = omega (arith, once (cell_of sp), occ_append (cell_of sp) vs ws) in
          record {
            visits = m ∷ (s.visits ++ ws);
            reads = there_at (omega arith) (moved m c.left vs (left m) (λ x. record { digit = c.digit; number = c.number; left = x; right = c.right }) refl refl refl h (omega arith) v)
                s.reads (reads_other (omega (arith, seen c.left (left m) vs v)) r);
            counts = λ i. omega (arith, s.counts i, occ_append i s.visits ws, occ_append i vs ws);
          }
      go (no h') e f g =
          let s = g e in
          let v : Visited c.right (right m) sp ws = rw e at (spot_visited n p (right m) r) in
          let o : cond (eqb (cell_of sp) m) 1 0 + occ (cell_of sp) vs + occ (cell_of sp) ws ≤ 1 = omega (arith, once (cell_of sp), occ_append (cell_of sp) vs ws) in
          record {
            visits = m ∷ (vs ++ s.visits);
            reads = there_at (omega arith) (moved m c.right ws (right m) (λ x. record { digit = c.digit; number = c.number; left = c.left; right = x }) refl refl refl h (omega arith) v)
                (reads_other (omega (arith, seen c.right (right m) ws v)) l) s.reads;
            counts = λ i. omega (arith, s.counts i, occ_append i vs s.visits, occ_append i vs ws);
          }

pub graft_replace : (c s p : Str) (t : Tree) → graft c s p t ≡ replace c (grown s (path_at c p t) (walk c p t)) p t
graft_replace c s p (leaf A) = refl
graft_replace c s p (node d i L R) = go (le? c q) (graft_replace c s q L) (graft_replace c s p R)
  where
    q : Str
    q = cell d i p

    go : (x : Dec (c ⊑ q)) → graft c s q L ≡ replace c (grown s (path_at c q L) (walk c q L)) q L → graft c s p R ≡ replace c (grown s (path_at c p R) (walk c p R)) p R
        → ◌≡◌ {A = Tree} (elim x [ yes h ↦ node d i (graft c s q L) R | no h ↦ node d i L (graft c s p R) ])
        (let X : Tree = grown s (elim x [ yes h ↦ path_at c q L | no h ↦ path_at c p R ]) (elim x [ yes h ↦ walk c q L | no h ↦ walk c p R ]) in
        elim x [ yes h ↦ node d i (replace c X q L) R | no h ↦ node d i L (replace c X p R) ])
    go (yes h) e f = ap (λ (Y : Tree). node d i Y R) e
    go (no h) e f = ap (λ (Y : Tree). node d i L Y) f

pub grow_reads : (cs : List Cell) (c : Str) (X t : Tree) (a : Side) (vs : List ℕ) (r : Reads cs a t vs)
    → ((i : ℕ) → i < length cs → occ i vs ≡ 1)
    → (ws : List ℕ) × Reads (grow_cells cs (spot c [] root r) X) (placed a (side_of (length cs) X)) (replace c X [] t) ws
    × ((i : ℕ) → i < length (grow_cells cs (spot c [] root r) X) → occ i ws ≡ 1)
grow_reads cs c X t a vs r each = (g.visits, g.reads, count)
  where
    sp : Spot
    sp = spot c [] root r

    new : Side
    new = side_of (length cs) X

    top' : List Cell
    top' = set cs (cell_of sp) (changed (at_cell cs (cell_of sp)) sp new)

    cs' : List Cell
    cs' = top' ++ lay (length cs) X

    len : length top' ≡ length cs
    len = length-set cs (cell_of sp) (changed (at_cell cs (cell_of sp)) sp new)

    len' : length cs' ≡ length cs + size X
    len' = rw (length-append, len, length_lay)

    stands : Stands cs' (length cs) (lay (length cs) X)
    stands = (omega (arith, len', length_lay (length cs) X), λ j h. rw len at (get_or-append-add top' (lay (length cs) X) j zero_cell))

    rx : Reads cs' new X (upto (length cs) (size X))
    rx = rw numbers_upto at (lay_reads X cs' (length cs) stands)

    others : (i : ℕ) → i < length cs → i ≢ cell_of sp → at_cell cs' i ≡ at_cell cs i
    others i h n = get_or_append top' (lay (length cs) X) zero_cell i (omega (arith, len)) ∙ get_or-set_other cs (cell_of sp) i _ zero_cell n

    there' : cell_of sp < length cs → at_cell cs' (cell_of sp) ≡ changed (at_cell cs (cell_of sp)) sp new
    there' h = get_or_append top' (lay (length cs) X) zero_cell (cell_of sp) (omega (arith, len)) ∙ get_or-set_same cs (cell_of sp) _ zero_cell h

    g : Grafted cs cs' c new X (upto (length cs) (size X)) sp (omega (arith, len')) others there' rx (placed a new) (replace c X [] t) vs
    g = graft_reads cs cs' c new X (upto (length cs) (size X)) sp (omega (arith, len')) others there' rx [] root r refl (each_once r each)

    count : (i : ℕ) → i < length cs' → occ i g.visits ≡ 1
    count i h = elim (dec_le (length cs) i) [
      | yes b ↦ omega (arith, g.counts i, reads_below i b r, upto_once (size X) (length cs) i b (omega (arith, len')))
      | no b ↦ omega (arith, g.counts i, each i (omega arith), upto_above (size X) (length cs) i (omega arith))
    ]

module _ (f : Str → ℕ → ℕ) where
  pub record Turned (cs cs' : List Cell) (p : Str) (a : Side) (t : Tree) (vs : List ℕ) : Type 0 where
    pub size : length cs' ≡ length cs
    pub rest : (m : ℕ) → occ m vs ≡ 0 → at_cell cs' m ≡ at_cell cs m
    pub reads : Reads cs' (turn_side f p a) (relabel f p t) vs

  pub turn_reads : (fuel : ℕ) (t : Tree) {cs : List Cell} {a : Side} {vs : List ℕ} (p : Str) → Reads cs a t vs → ((m : ℕ) → occ m vs ≤ 1) → height t ≤ fuel
      → Turned cs (turn_cells f fuel p a cs) p a t vs
  turn_reads zero (leaf s) p here once k = absurd (omega arith)
  turn_reads zero (node d i L R) p (there h l r) once k = absurd (omega arith)
  turn_reads (suc fuel) (leaf s) p here once k = record { size = refl; rest = λ m o. refl; reads = here }
  turn_reads (suc fuel) (node d i L R) {cs} p (there {n = m} {vs = vs} {ws = ws} h l r) once k =
      let c : Cell = at_cell cs m in
      let q : Str = cell d i p in
      let cs₁ : List Cell = set cs m (turn_cell f p c) in
      let one : (i : ℕ) → cond (eqb i m) 1 0 + occ i vs + occ i ws ≤ 1 = λ i. omega (arith, once i, occ_append i vs ws) in
      let self = one_if_equal m m refl in
      let out : (occ m vs ≡ 0) × (occ m ws ≡ 0) = omega (arith, one m) in
      let cs₂ : List Cell = turn_cells f fuel q c.left cs₁ in
      let cs₃ : List Cell = turn_cells f fuel p c.right cs₂ in
      let l₁ : Reads cs₁ c.left L vs = reads_set m (turn_cell f p c) out.0 l in
      let x : Turned cs₁ cs₂ q c.left L vs = turn_reads fuel L q l₁ (λ i. omega (arith, one i)) (omega arith) in
      let r₂ : Reads cs₂ c.right R ws =
      reads_agree (omega (arith, x.size)) (λ i o. x.rest i (omega (arith, one i, o))) (reads_set m (turn_cell f p c) out.1 r) in
      let y : Turned cs₂ cs₃ p c.right R ws = turn_reads fuel R p r₂ (λ i. omega (arith, one i)) (omega arith) in
      let size : length cs₃ ≡ length cs = y.size ∙ x.size ∙ length-set cs m (turn_cell f p c) in
      let mid : at_cell cs₃ m ≡ turn_cell f p c = y.rest m out.1 ∙ x.rest m out.0 ∙ get_or-set_same cs m (turn_cell f p c) zero_cell h in
      record {
        size = size;
        rest = λ i o. let a = not_visited i m vs ws o in y.rest i a.2 ∙ x.rest i a.1 ∙ get_or-set_other cs m i (turn_cell f p c) zero_cell (λ e. a.0 (sym e));
        reads = there_at (omega (arith, size)) mid (reads_agree (omega (arith, y.size)) (λ i o. y.rest i (omega (arith, one i, o))) x.reads) y.reads;
      }

-- Where s is a string already, the leaf that c reaches has a path that begins with s: nothing is put there.
pub diff_begin : (s u : Str) → take (length s) u ≡ s → diff s u ≡ length s
diff_begin [] u e = refl
diff_begin (a ∷ s) [] e = cc
diff_begin (a ∷ s) (b ∷ u) e = go (eqb a b) refl (diff_begin s u)
  where
    go : (t : Bool) → eqb a b ≡ t → (take (length s) u ≡ s → diff s u ≡ length s) → cond t (suc (diff s u)) 0 ≡ suc (length s)
    go true q f = let t : take (length s) u ≡ s = cc in omega (arith, f t)
    go false n f = let q : a ≡ b = cc in absurd (eqb-false a b n q)

module _ (P : Low → Str → ℕ → Type 0) (c s : Str) (k : ℕ) (hk : k ≤ length c) (es : take k c ≡ s) where
  graft_same : {l : Low} {u : Str} {t : Tree} {ss : List Str} → Spans P l u t ss → l ◁ c → c ⊑ u → Memᴰ s ss ⊎ (u ⊑ s) → graft c s u t ≡ t
  graft_same (tip h) lo up (inl m) = absurd (mem_not_nil m)
  graft_same {u = u} (tip {s = A} h) lo up (inr q) =
      let len : length s ≡ k = ap length (sym es) ∙ length-take-le k c hk in
      let e : take (length s) u ≡ s = rw len ((sandwich k c up (rw es q) hk).0 ∙ es) in
      rw (diff_begin s u e, drop-length s)
  graft_same {l} {u} (cut {d = d} {i = i} {L = L} {R = R} {xs = xs} {ys = ys} hi a b x y) lo up m =
      go (le? c (cell d i u)) (λ h n. graft_same x lo h n) (λ h n. graft_same y (above h) up n)
    where
      q : Str
      q = cell d i u

      cs : c ⊑ s
      cs = rw es at (le_take k c)

      to_left : Memᴰ s (xs ++ (q ∷ ys)) ⊎ (u ⊑ s) → Memᴰ s xs ⊎ (q ⊑ s)
      to_left (inr h) = inr (le_trans (lt_le b) h)
      to_left (inl m) = elim (mem_append_cases xs m) [
        | inl m ↦ inl m
        | inr m ↦ inr (elim (mem_cases_cons m) [ inl e ↦ rw e (le_refl q) | inr m ↦ lt_le (over (inside y s m).0) ])
      ]

      to_right : q ≺ c → Memᴰ s (xs ++ (q ∷ ys)) ⊎ (u ⊑ s) → Memᴰ s ys ⊎ (u ⊑ s)
      to_right h (inr g) = inr g
      to_right h (inl m) = elim (mem_append_cases xs m) [
        | inl m ↦ absurd (h (le_trans cs (lt_le (inside x s m).1)))
        | inr m ↦ elim (mem_cases_cons m) [ inl e ↦ absurd (h (rw e at cs)) | inr m ↦ inl m ]
      ]

      go : (t : Dec (c ⊑ q)) → (c ⊑ q → Memᴰ s xs ⊎ (q ⊑ s) → graft c s q L ≡ L) → (q ≺ c → Memᴰ s ys ⊎ (u ⊑ s) → graft c s u R ≡ R)
          → ◌≡◌ {A = Tree} (elim t [ yes h ↦ node d i (graft c s q L) R | no h ↦ node d i L (graft c s u R) ]) (node d i L R)
      go (yes h) f g = ap (λ (X : Tree). node d i X R) (f h (to_left m))
      go (no h) f g = ap (λ (X : Tree). node d i L X) (g h (to_right h m))

-- Growth by the walk's parts. What stands at the leaf that c reaches; the cells and the root with it, and redirected.
module _ (cs : List Cell) (a : Side) (c s : Str) (A N : ℕ) where
  abbrev pub new_cells : Tree
  new_cells = grown s (path_cells cs c (suc (length cs)) [] a) (walk_cells cs c (suc (length cs)) [] a)

  abbrev pub cells_grown : List Cell
  cells_grown = grow_cells cs (spot_cells cs c (suc (length cs)) [] root a) new_cells

  abbrev pub root_grown : Side
  root_grown = placed a (side_of (length cs) new_cells)

  abbrev pub cells_turned : List Cell
  cells_turned = turn_cells (turn s A N) (suc (length cells_grown)) [] root_grown cells_grown

  abbrev pub root_turned : Side
  root_turned = turn_side (turn s A N) [] root_grown

-- c is the split key, z the last name, both in A's range.
module _ (F G : RangeTable) (A N : ℕ) (Xs Ys : List ℕ) (c z : Str) (chain : Chain F none (Xs ++ (A ∷ Ys)))
    (lo : F.lower A ◁ c) (cz : c ≺ z) (up : z ⊑ F.upper A) (S : SplitAt F G (take (suc (diff c z)) c) A N)
    (cs : List Cell) (a : Side) (agrees : CellsAgree F (Xs ++ (A ∷ Ys)) cs a) where
  abbrev s : Str
  s = take (suc (diff c z)) c

  -- The leaf is replaced by a chain, or by itself; then leaves are redirected.
  grown_spans : Spans (Leads G) none [] (relabel (turn s A N) [] (graft c s [] agrees.tree)) (all (bounds G (Xs ++ (A ∷ N ∷ Ys))))
  grown_spans = elim (string? s (all (bounds F (Xs ++ (A ∷ Ys))))) [
    | no n ↦ split_agrees F G A N Xs Ys c z agrees.tree chain lo cz up S agrees.trie (no n)
    | yes m ↦ rw (graft_same (Leads F) c s (suc (diff c z)) (diff_lt_left c z cz) refl agrees.trie least top (inl m))
        (split_agrees F G A N Xs Ys c z agrees.tree chain lo cz up S agrees.trie (yes m))
  ]

  pub grows : CellsAgree G (Xs ++ (A ∷ N ∷ Ys)) (cells_turned cs a c s A N) (root_turned cs a c s A N)
  grows =
      let t : Tree = agrees.tree in
      let short : length agrees.visits < suc (length cs) = omega (arith, visits_count agrees.reads agrees.each) in
      let X : Tree = grown s (path_at c [] t) (walk c [] t) in
      let new : new_cells cs a c s A N ≡ X = rw (path_reads c (suc (length cs)) [] agrees.reads short, walk_reads c (suc (length cs)) [] agrees.reads short) in
      let g = grow_reads cs c X t a agrees.visits agrees.reads agrees.each in
      let is : cells_grown cs a c s A N ≡ grow_cells cs (spot c [] root agrees.reads) X = rw (new, spot_reads c (suc (length cs)) [] root agrees.reads short) in
      let r : Reads (cells_grown cs a c s A N) (root_grown cs a c s A N) (graft c s [] t) g.0 = rw (is, new, graft_replace c s [] t) g.1 in
      let each : (i : ℕ) → i < length (cells_grown cs a c s A N) → occ i g.0 ≡ 1 = rw is g.2 in
      let u = turn_reads (turn s A N) (suc (length (cells_grown cs a c s A N))) (graft c s [] t) [] r (each_once r each) (omega (arith, reads_height r, visits_count r each)) in
      record { tree = relabel (turn s A N) [] (graft c s [] t); visits = g.0; reads = u.reads; each = λ i h. each i (omega (arith, u.size, h)); trie = grown_spans }
