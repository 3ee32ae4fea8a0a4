-- Over cells that read as a tree the walk ends, with the path, the side and the slot of the tree's own walk.
use Rattle.model.proofs.Prelude.{List, Memᴰ, mem_head, mem_tail, mem_append_left, mem_append_right, ◌<◌, ◌∷◌, ◌≡◌, ◌≤◌, arith, cond, dec_lt, get_or-take, le-leb, le-ltb, length, length-append, length-take, lt-ltb, refl, some, suc, take, zero, ℕ}
use Rattle.model.specs.declared.Cell.{Cell}
use Rattle.model.specs.declared.Side.{Side}
use Rattle.model.specs.declared.Side.TheVariants.{Cell as further, Slot as slot}
use Rattle.model.specs.declared.Trie.{Trie}
use Rattle.model.specs.Order.{Str, ◌⊑◌}
use Rattle.model.specs.Tests.{is_at_most}
use Rattle.model.specs.Names.{limit}
use Rattle.model.specs.Files.{BoundOf, IsString, Slot, Sound, Well, free, head, lower_bound, slot_at, upper_bound, used, well_used}
use Rattle.model.specs.Tries.{NumbersFit, Reads, Spot, Tree, at_cell, cell, here, leaf, left, node, occ, right, root_side, strings, there, walk_run, zero_cell}
use Rattle.model.proofs.Deciding.{le?}
use Rattle.model.proofs.Tests.{le_is_at_most, lt_is_at_most}
use Rattle.model.proofs.Tries.{cell_length, walk}
use Rattle.model.proofs.Cells.{occ_append, one_if_equal}

-- A trie's cells below the count, and its root.
abbrev pub live_cells : Trie → List Cell
live_cells t = take t.count t.cells

abbrev pub top_side : Trie → Side
top_side t = root_side t.count t.first

-- The walk in the tree: the path of the leaf that n reaches, and the last cell and the side taken there.
abbrev pub path_at : Str → Str → Tree → Str
path_at c p (leaf s) = p
path_at c p (node d i L R) = elim (le? c (cell d i p)) [ yes h ↦ path_at c (cell d i p) L | no h ↦ path_at c p R ]

abbrev pub spot : {cs : List Cell} {a : Side} {t : Tree} {vs : List ℕ} → Str → Str → Spot → Reads cs a t vs → Spot
spot n p k here = k
spot {cs} n p k (there {n = m} h l r) =
    elim (le? n (cell (at_cell cs m).digit (at_cell cs m).number p))
    [ yes h ↦ spot n (cell (at_cell cs m).digit (at_cell cs m).number p) (left m) l | no h ↦ spot n p (right m) r ]

-- Over cells, part by part, through fewer cells than the fuel says: the slot, the path, the side.
abbrev pub walk_cells : List Cell → Str → ℕ → Str → Side → ℕ
walk_cells cs n zero p a = 0
walk_cells cs n (suc fuel) p (slot s) = s
walk_cells cs n (suc fuel) p (further m) =
    elim (le? n (cell (at_cell cs m).digit (at_cell cs m).number p)) [
      | yes h ↦ walk_cells cs n fuel (cell (at_cell cs m).digit (at_cell cs m).number p) (at_cell cs m).left
      | no h ↦ walk_cells cs n fuel p (at_cell cs m).right
    ]

abbrev pub path_cells : List Cell → Str → ℕ → Str → Side → Str
path_cells cs c zero p a = p
path_cells cs c (suc fuel) p (slot s) = p
path_cells cs c (suc fuel) p (further m) =
    elim (le? c (cell (at_cell cs m).digit (at_cell cs m).number p)) [
      | yes h ↦ path_cells cs c fuel (cell (at_cell cs m).digit (at_cell cs m).number p) (at_cell cs m).left
      | no h ↦ path_cells cs c fuel p (at_cell cs m).right
    ]

abbrev pub spot_cells : List Cell → Str → ℕ → Str → Spot → Side → Spot
spot_cells cs c zero p k a = k
spot_cells cs c (suc fuel) p k (slot s) = k
spot_cells cs c (suc fuel) p k (further m) =
    elim (le? c (cell (at_cell cs m).digit (at_cell cs m).number p)) [
      | yes h ↦ spot_cells cs c fuel (cell (at_cell cs m).digit (at_cell cs m).number p) (left m) (at_cell cs m).left
      | no h ↦ spot_cells cs c fuel p (right m) (at_cell cs m).right
    ]

-- They give these.
pub walk_reads : {cs : List Cell} {a : Side} {t : Tree} {vs : List ℕ} (n : Str) (fuel : ℕ) (p : Str) → Reads cs a t vs → length vs < fuel → walk_cells cs n fuel p a ≡ walk n p t
walk_reads n zero p r h = absurd (omega arith)
walk_reads n (suc fuel) p here h = refl
walk_reads {cs} n (suc fuel) p (there {n = m} {L = L} {R = R} {vs = vs} {ws = ws} i l r) h =
    go (le? n q) (walk_reads n fuel q l (omega (arith, length-append vs ws))) (walk_reads n fuel p r (omega (arith, length-append vs ws)))
  where
    q : Str
    q = cell (at_cell cs m).digit (at_cell cs m).number p

    go : (d : Dec (n ⊑ q)) → walk_cells cs n fuel q (at_cell cs m).left ≡ walk n q L → walk_cells cs n fuel p (at_cell cs m).right ≡ walk n p R
        → ◌≡◌ {A = ℕ} (elim d [ yes h ↦ walk_cells cs n fuel q (at_cell cs m).left | no h ↦ walk_cells cs n fuel p (at_cell cs m).right ]) (elim d [ yes h ↦ walk n q L | no h ↦ walk n p R ])
    go (yes h) e f = e
    go (no h) e f = f

pub path_reads : {cs : List Cell} {a : Side} {t : Tree} {vs : List ℕ} (n : Str) (fuel : ℕ) (p : Str) → Reads cs a t vs → length vs < fuel → path_cells cs n fuel p a ≡ path_at n p t
path_reads n zero p r h = absurd (omega arith)
path_reads n (suc fuel) p here h = refl
path_reads {cs} n (suc fuel) p (there {n = m} {L = L} {R = R} {vs = vs} {ws = ws} i l r) h =
    go (le? n q) (path_reads n fuel q l (omega (arith, length-append vs ws))) (path_reads n fuel p r (omega (arith, length-append vs ws)))
  where
    q : Str
    q = cell (at_cell cs m).digit (at_cell cs m).number p

    go : (d : Dec (n ⊑ q)) → path_cells cs n fuel q (at_cell cs m).left ≡ path_at n q L → path_cells cs n fuel p (at_cell cs m).right ≡ path_at n p R
        → ◌≡◌ {A = Str} (elim d [ yes h ↦ path_cells cs n fuel q (at_cell cs m).left | no h ↦ path_cells cs n fuel p (at_cell cs m).right ]) (elim d [ yes h ↦ path_at n q L | no h ↦ path_at n p R ])
    go (yes h) e f = e
    go (no h) e f = f

pub spot_reads : {cs : List Cell} {a : Side} {t : Tree} {vs : List ℕ} (n : Str) (fuel : ℕ) (p : Str) (k : Spot) (x : Reads cs a t vs) → length vs < fuel → spot_cells cs n fuel p k a ≡ spot n p k x
spot_reads n zero p k x h = absurd (omega arith)
spot_reads n (suc fuel) p k here h = refl
spot_reads {cs} n (suc fuel) p k (there {n = m} {L = L} {R = R} {vs = vs} {ws = ws} i l r) h =
    go (le? n q) (spot_reads n fuel q (left m) l (omega (arith, length-append vs ws))) (spot_reads n fuel p (right m) r (omega (arith, length-append vs ws)))
  where
    q : Str
    q = cell (at_cell cs m).digit (at_cell cs m).number p

    go : (d : Dec (n ⊑ q)) → spot_cells cs n fuel q (left m) (at_cell cs m).left ≡ spot n q (left m) l → spot_cells cs n fuel p (right m) (at_cell cs m).right ≡ spot n p (right m) r
        → ◌≡◌ {A = Spot} (elim d [ yes h ↦ spot_cells cs n fuel q (left m) (at_cell cs m).left | no h ↦ spot_cells cs n fuel p (right m) (at_cell cs m).right ]) (elim d [ yes h ↦ spot n q (left m) l | no h ↦ spot n p (right m) r ])
    go (yes h) e f = e
    go (no h) e f = f

-- The cells past the count do not matter.
pub run_live : (f count : ℕ) (cs : List Cell) (n p : Str) (k : Spot) (a : Side) → walk_run f count cs n p k a ≡ walk_run f count (take count cs) n p k a
unfolding walk_run
run_live zero count cs n p k (slot s) = refl
run_live zero count cs n p k (further m) = refl
run_live (suc f) count cs n p k (slot s) = refl
run_live (suc f) count cs n p k (further m) =
    go (dec_lt m count) (run_live f count cs n (cell (at_cell cs m).digit (at_cell cs m).number p) (left m) (at_cell cs m).left) (run_live f count cs n p (right m) (at_cell cs m).right)
  where
    q : Str
    q = cell (at_cell cs m).digit (at_cell cs m).number p

    go : Dec (m < count) → walk_run f count cs n q (left m) (at_cell cs m).left ≡ walk_run f count (take count cs) n q (left m) (at_cell cs m).left
        → walk_run f count cs n p (right m) (at_cell cs m).right ≡ walk_run f count (take count cs) n p (right m) (at_cell cs m).right
        → walk_run (suc f) count cs n p k (further m) ≡ walk_run (suc f) count (take count cs) n p k (further m)
    go (yes h) e g = rw (get_or-take count cs m zero_cell h, e, g)
    go (no h) e g = rw (le-ltb m count (omega arith))

-- The walk that tests each step meets nothing that refuses it.
pub run_walk : (count : ℕ) {cs : List Cell} (n : Str) (f : ℕ) (p : Str) (k : Spot) {a : Side} {t : Tree} {vs : List ℕ} (x : Reads cs a t vs) → length vs ≤ f
    → ((m : ℕ) → 0 < occ m vs → m < count) → NumbersFit p t → ((y : Str) → Memᴰ y (strings p t) → length y ≤ 24)
    → walk_run f count cs n p k a ≡ some (path_at n p t, spot n p k x, walk n p t)
unfolding walk_run
run_walk count n zero p k here h below num short = refl
run_walk count n (suc f) p k here h below num short = refl
run_walk count n zero p k (there i l r) h below num short = absurd (omega arith)
run_walk count {cs} n (suc f) p k (there {n = m} {L = L} {R = R} {vs = vs} {ws = ws} i l r) h below num short =
    rw (lt-ltb m count (below m (omega (arith, one_if_equal m m refl))), le-leb c.number (length p) num.0, le-leb c.number 23 number)
    (go (le? n q)
    (run_walk count n f q (left m) l (omega (arith, length-append vs ws)) (λ j o. below j (omega (arith, o, occ_append j vs ws))) num.1 (λ y g. short y (mem_append_left (q ∷ strings p R) g)))
    (run_walk count n f p (right m) r (omega (arith, length-append vs ws)) (λ j o. below j (omega (arith, o, occ_append j vs ws))) num.2 (λ y g. short y (mem_append_right (strings q L) (mem_tail g)))))
  where
    c : Cell
    c = at_cell cs m

    q : Str
    q = cell c.digit c.number p

    number : c.number ≤ 23
    number = omega (arith, short q (mem_append_right (strings q L) (mem_head refl)), cell_length c.digit c.number p num.0)

    go : (d : Dec (n ⊑ q)) → walk_run f count cs n q (left m) c.left ≡ some (path_at n q L, spot n q (left m) l, walk n q L)
        → walk_run f count cs n p (right m) c.right ≡ some (path_at n p R, spot n p (right m) r, walk n p R)
        → cond (is_at_most n q) (walk_run f count cs n q (left m) c.left) (walk_run f count cs n p (right m) c.right)
        ≡ some (
          elim d [ yes h ↦ path_at n q L | no h ↦ path_at n p R ],
          elim d [ yes h ↦ spot n q (left m) l | no h ↦ spot n p (right m) r ],
          elim d [ yes h ↦ walk n q L | no h ↦ walk n p R ],
        )
    go (yes h) x y = rw (le_is_at_most n q h) x
    go (no h) x y = rw (lt_is_at_most n q h) y

-- The bounds and strings of a sound file have at most 24 digits.
pub bound_fits : (b : ℕ) (s : Slot) {y : Str} → Well b s → BoundOf (head s) y → length y ≤ 24
bound_fits b (used l u es) (well_used (limit a) c h r k) lower_bound = a.fits
bound_fits b (used l u es) (well_used a c h r k) upper_bound = c.fits
bound_fits b free _ x3 = elim x3 [ ]

pub string_fits : (b : ℕ) {fs : List Slot} → Sound b fs → (x : Str) → IsString fs x → length x ≤ 24
string_fits b {fs} S x g =
    rw g.begins.is (omega (arith, length-take g.begins.count g.bound, bound_fits b (slot_at fs g.bucket) (S.well g.bucket) g.is_bound))
