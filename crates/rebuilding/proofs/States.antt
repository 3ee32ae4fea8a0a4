-- The loop of rebuild: what holds before each cell is written, at the start, from one cell to the next, and at the end.
use Rattle.model.proofs.Prelude.{List, [], ◌*◌, ◌++◌, ◌+◌, ◌-◌, ◌<◌, ◌∙◌, ◌∷◌, ◌≡◌, ◌≤◌, add-one, add-zero, ap, append_assoc, append-nil, arith, cond, get_or, get_or-set_same, le-ltb, length, length-replicate, length-set, lt-ltb, ltb, refl, replicate, set, sets, sets-eq, sub-zero, subst, suc, sym, zero, zero-add, ℕ}
use Rattle.model.specs.declared.Cell.{Cell}
use Rattle.model.specs.declared.Side.TheVariants.{Cell as further}
use Rattle.model.specs.declared.Trie.{Trie}
use Rattle.model.specs.Tries.{zero_cell}
use Rattle.model.specs.Rebuilding.{lay, side_of}
use Rattle.model.proofs.Lists.{drop-replicate}
use Rattle.model.proofs.Cells.{length_lay}
use Rattle.image.specs.Clearing.{cleared}
use Rattle.image.specs.Images.{cell_bytes, image_of}
use Rattle.image.proofs.Storing.{cell_stored}
use Rattle.rebuilding.specs.declared.Run.{Run}
use Rattle.rebuilding.specs.Roots.{middle, run}
use Rattle.rebuilding.specs.Runs.{cell_at, rebuilt_of, run_tree, side_at}
use Rattle.rebuilding.proofs.Trees.{middle_within, side_tree, size_tree, tree, tree_node}
use Rattle.rebuilding.proofs.Stacks.{Fine, at_run, fine_pushed, fine_top, length_todo, pushed, pushed_le, sizes, sizes_pushed, todo, todo_pushed}

abbrev pub blank : List Cell
blank = replicate 256 zero_cell

sets_one : {A : Type 0} (xs : List A) (i : ℕ) (a : A) (ys : List A) → sets (set xs i a) (i + 1) ys ≡ sets xs i (a ∷ ys)
sets_one xs i a ys = rw (add-one i)

none_left : {A : Type 0} (xs : List A) → length xs ≡ 0 → xs ≡ []
none_left [] e = refl
none_left (x ∷ xs) e = absurd (omega arith)

module _ (lens digits slots : List ℕ) (n : ℕ) where
  abbrev whole : List Cell
  whole = lay 0 (run_tree n lens digits slots 0 n)

-- A run written on top is kept where it is not empty.
pub kept : (t a b : ℕ) → a < b → t + 1 ≡ t + cond (ltb a b) 1 0
kept t a b h = rw (lt-ltb a b h)

pub not_kept : (t a b : ℕ) → b ≤ a → t ≡ t + cond (ltb a b) 1 0
not_kept t a b h = rw (le-ltb a b h, add-zero t)

-- i cells are written; the stack has the runs of the others; all that is left to write makes the whole.
pub record State (lens digits slots : List ℕ) (n : ℕ) (cells : List Cell) (runs : List Run) (top i : ℕ) : Type 0 where
  pub rooms : length runs ≡ 512
  pub few : n ≤ 256
  pub fine : Fine top runs n
  pub rest : i + sizes top runs ≡ n
  pub makes : sets cells i (todo lens digits slots top i runs) ≡ sets blank 0 (whole lens digits slots n)

-- Of the run on top.
pub record Top (n : ℕ) (runs : List Run) (top i : ℕ) : Type 0 where
  pub some : 0 < top
  pub low : top ≤ 256
  pub full : (at_run runs (top - 1)).from < (at_run runs (top - 1)).to
  pub ends : (at_run runs (top - 1)).to ≤ n
  pub room : i + ((at_run runs (top - 1)).to - (at_run runs (top - 1)).from) ≤ n

-- The two runs that a root leaves.
abbrev right_of : ℕ → Run → Run
right_of m r = record { from = m + 1; to = r.to }

abbrev left_of : ℕ → Run → Run
left_of m r = record { from = r.from; to = m }

module _ {lens digits slots : List ℕ} {n : ℕ} where
  pub topped : {cells : List Cell} {runs : List Run} {top i : ℕ} → State lens digits slots n cells runs top i → i < n → Top n runs top i
  unfolding Fine sizes
  topped {top = zero} s h = absurd (omega (arith, s.rest))
  topped {runs = runs} {top = suc t} s h =
      let e : suc t - 1 ≡ t = omega arith in
      let f = s.fine in
      let g = fine_top t runs n f.2 in
      record {
        some = omega arith;
        low = omega (arith, s.rest, s.few);
        full = rw e f.0;
        ends = rw e f.1;
        room = rw e (omega (arith, s.rest));
      }

module _ (lens digits slots : List ℕ) (n : ℕ) where
  started : (runs : List Run) (r : Run) → length runs ≡ 512 → r ≡ record { from = 0; to = n } → 0 < n → n ≤ 256
      → State lens digits slots n blank (set runs 0 r) 1 0
  unfolding Fine sizes todo
  started runs r h e p q =
      let g : get_or (set runs 0 r) 0 (record { from = 0; to = 0 }) ≡ record { from = 0; to = n } = get_or-set_same runs 0 r _ (omega arith) ∙ e in
      record {
        rooms = length-set runs 0 r ∙ h;
        few = q;
        fine = rw g (p, omega arith, tt);
        rest = rw g (omega arith);
        makes = rw (g, sub-zero n, append-nil);
      }

  lay_next : (i m from to : ℕ) → from < to → m ≡ middle from (run from to lens)
      → lay i (tree lens digits slots from to)
      ≡ cell_at (get_or lens m 0) (get_or digits m 0) slots from m to i
      ∷ (lay (i + 1) (tree lens digits slots from m) ++ lay (i + 1 + (m - from)) (tree lens digits slots (m + 1) to))
  unfolding cell_at side_at
  lay_next i m from to h e =
      rw (side_tree lens digits slots (i + 1) from m, side_tree lens digits slots (i + 1 + (m - from)) (m + 1) to, add-one i, add-one m, tree_node lens digits slots from to h, ← e, size_tree)

  todo_next : (t i m : ℕ) (runs : List Run) → length runs ≡ 512 → t + 1 < 512 → (at_run runs t).from < (at_run runs t).to
      → m ≡ middle (at_run runs t).from (run (at_run runs t).from (at_run runs t).to lens)
      → todo lens digits slots (suc t) i runs
      ≡ cell_at (get_or lens m 0) (get_or digits m 0) slots (at_run runs t).from m (at_run runs t).to i
      ∷ todo lens digits slots (pushed (pushed t (right_of m (at_run runs t))) (left_of m (at_run runs t))) (i + 1)
      (set (set runs t (right_of m (at_run runs t))) (pushed t (right_of m (at_run runs t))) (left_of m (at_run runs t)))
  unfolding todo
  todo_next t i m runs l h f e =
      let r = at_run runs t in
      let right = right_of m r in
      let t1 = pushed t right in
      let w = middle_within r.from r.to lens f in
      let k : i + 1 + (m - r.from) + (r.to - (m + 1)) ≡ i + (r.to - r.from) = omega arith in
      let a : t < length runs = omega arith in
      let b : t1 < length (set runs t right) = rw length-set (omega (arith, pushed_le t right)) in
      rw (
        lay_next i m r.from r.to f e,
        todo_pushed lens digits slots t1 (i + 1) (set runs t right) (left_of m r) b,
        todo_pushed lens digits slots t (i + 1 + (m - r.from)) runs right a,
        k,
        append_assoc,
      )

  -- One more cell, and the two runs that its root leaves.
  next_at : (cells : List Cell) (runs : List Run) (t i m : ℕ) → State lens digits slots n cells runs (suc t) i → i < n
      → m ≡ middle (at_run runs t).from (run (at_run runs t).from (at_run runs t).to lens)
      → State lens digits slots n
      (set cells i (cell_at (get_or lens m 0) (get_or digits m 0) slots (at_run runs t).from m (at_run runs t).to i))
      (set (set runs t (right_of m (at_run runs t))) (pushed t (right_of m (at_run runs t))) (left_of m (at_run runs t)))
      (pushed (pushed t (right_of m (at_run runs t))) (left_of m (at_run runs t)))
      (i + 1)
  unfolding Fine sizes
  next_at cells runs t i m s h e =
      let r = at_run runs t in
      let right = right_of m r in
      let left = left_of m r in
      let t1 = pushed t right in
      let f = s.fine in
      let low : t ≤ 255 = omega (arith, s.rest, s.few, fine_top t runs n f.2) in
      let w = middle_within r.from r.to lens f.0 in
      let a : t < length runs = omega (arith, s.rooms) in
      let b : t1 < length (set runs t right) = rw length-set (omega (arith, s.rooms, pushed_le t right)) in
      let q = rw (todo_next t i m runs s.rooms (omega arith) f.0 e) at s.makes in
      record {
        rooms = length-set (set runs t right) t1 left ∙ length-set runs t right ∙ s.rooms;
        few = s.few;
        fine = fine_pushed t1 (set runs t right) left n b (omega (arith, f.1)) (fine_pushed t runs right n a f.1 f.2);
        rest = rw (sizes_pushed t1 (set runs t right) left b, sizes_pushed t runs right a) (omega (arith, s.rest));
        makes = rw (sets_one cells i) q;
      }

  next : (cells : List Cell) (runs : List Run) (top i m : ℕ) → State lens digits slots n cells runs top i → i < n
      → m ≡ middle (at_run runs (top - 1)).from (run (at_run runs (top - 1)).from (at_run runs (top - 1)).to lens)
      → State lens digits slots n
      (set cells i (cell_at (get_or lens m 0) (get_or digits m 0) slots (at_run runs (top - 1)).from m (at_run runs (top - 1)).to i))
      (set (set runs (top - 1) (right_of m (at_run runs (top - 1)))) (pushed (top - 1) (right_of m (at_run runs (top - 1)))) (left_of m (at_run runs (top - 1))))
      (pushed (pushed (top - 1) (right_of m (at_run runs (top - 1)))) (left_of m (at_run runs (top - 1))))
      (i + 1)
  next cells runs top i m s h e =
      let k : top ≡ suc (top - 1) = omega (arith, (topped s h).some) in
      next_at cells runs (top - 1) i m (subst (λ (x : ℕ). State lens digits slots n cells runs x i) k s) h e

  -- The same, of numbers and values that are known by equations.
  stepped : {cells : List Cell} {runs : List Run} {top i : ℕ} {from to root right left mid new : ℕ} {cell : Cell}
      → State lens digits slots n cells runs top i → i < n
      → from ≡ (at_run runs (top - 1)).from
      → to ≡ (at_run runs (top - 1)).to
      → root ≡ middle from (run from to lens)
      → cell ≡ cell_at (get_or lens root 0) (get_or digits root 0) slots from root to i
      → right ≡ root + 1
      → left ≡ root
      → mid ≡ top - 1 + cond (ltb (root + 1) to) 1 0
      → new ≡ mid + cond (ltb from root) 1 0
      → State lens digits slots n (set cells i cell)
      (set (set runs (top - 1) (record { from = right; to = (at_run runs (top - 1)).to })) mid (record { from = (at_run runs (top - 1)).from; to = left }))
      new (i + 1)
  stepped {cells} {runs} {top} {i} {root = root} s h ef et em ec er el emid enew =
      rw (enew, emid, ec, er, el, ef, et) (next cells runs top i root s h (rw (ef, et) at em))

  ended : (cells : List Cell) (runs : List Run) (top i : ℕ) → State lens digits slots n cells runs top i → n ≤ i → 0 < n
      → ◌≡◌ {A = Trie} (record { cells = cells; count = n; first = 0 }) (rebuilt_of lens digits slots n)
  unfolding rebuilt_of
  ended cells runs top i s h p =
      let t = run_tree n lens digits slots 0 n in
      let z : todo lens digits slots top i runs ≡ [] = none_left _ (length_todo lens digits slots top i runs ∙ omega (arith, s.rest)) in
      let l : length (lay 0 t) ≡ n = length_lay 0 t ∙ rw (sub-zero n) at (size_tree lens digits slots 0 n) in
      let g : 0 + length (lay 0 t) ≤ length blank = rw (length-replicate, l, zero-add) s.few in
      let c : cells ≡ lay 0 t ++ replicate (256 - length (lay 0 t)) zero_cell =
      rw z at s.makes ∙ sets-eq (lay 0 t) blank 0 g ∙ rw (zero-add, drop-replicate) in
      let f : side_of 0 t ≡ further 0 = sym (rw (lt-ltb 0 n p, sub-zero n) at (side_tree lens digits slots 0 0 n)) in
      rw (c, f, l)

-- The same with the cells in an image.
pub record Written (lens digits slots : List ℕ) (n : ℕ) (image : List ℕ) (runs : List Run) (top i : ℕ) : Type 0 where
  pub cells : List Cell
  pub whole : length cells ≡ 256
  pub image_is : image ≡ image_of (record { cells = cells; count = n; first = 0 })
  pub state : State lens digits slots n cells runs top i

module _ (lens digits slots : List ℕ) (n : ℕ) where
  pub none_written : (image : List ℕ) (s : ℕ) → n ≡ 0 → s ≡ get_or slots 0 0 → image ≡ image_of (cleared 0 s) → image ≡ image_of (rebuilt_of lens digits slots n)
  unfolding rebuilt_of run_tree cleared
  none_written image s e f g = rw (e, ← f) g

  pub written_first : (image : List ℕ) (runs : List Run) (r : Run) → image ≡ image_of (cleared n 0) → length runs ≡ 512 → r ≡ record { from = 0; to = n } → 0 < n → n ≤ 256
      → Written lens digits slots n image (set runs 0 r) 1 0
  unfolding cleared
  written_first image runs r f h e p q = record { cells = blank; whole = length-replicate 256 zero_cell; image_is = f; state = started lens digits slots n runs r h e p q }

  -- One more cell, of numbers and values that are known by equations.
  pub written_next : {image : List ℕ} {runs : List Run} {top i : ℕ} {from to root right left mid new : ℕ} {cell : Cell} (ys : List ℕ)
      → Written lens digits slots n image runs top i → i < n
      → from ≡ (at_run runs (top - 1)).from
      → to ≡ (at_run runs (top - 1)).to
      → root ≡ middle from (run from to lens)
      → cell ≡ cell_at (get_or lens root 0) (get_or digits root 0) slots from root to i
      → ys ≡ sets image (4 + 6 * i) (cell_bytes cell)
      → right ≡ root + 1
      → left ≡ root
      → mid ≡ top - 1 + cond (ltb (root + 1) to) 1 0
      → new ≡ mid + cond (ltb from root) 1 0
      → Written lens digits slots n ys
      (set (set runs (top - 1) (record { from = right; to = (at_run runs (top - 1)).to })) mid (record { from = (at_run runs (top - 1)).from; to = left }))
      new (i + 1)
  written_next {i = i} {cell = cell} ys w h ef et em ec ey er el emid enew = record {
    cells = set w.cells i cell;
    whole = length-set w.cells i cell ∙ w.whole;
    image_is = ey ∙ ap (λ (xs : List ℕ). sets xs (4 + 6 * i) (cell_bytes cell)) w.image_is ∙ cell_stored _ i cell w.whole (omega (arith, w.state.few));
    state = stepped lens digits slots n w.state h ef et em ec er el emid enew;
  }

  pub written_all : (image : List ℕ) (runs : List Run) (top i : ℕ) → Written lens digits slots n image runs top i → n ≤ i → 0 < n
      → image ≡ image_of (rebuilt_of lens digits slots n)
  written_all image runs top i w h p = w.image_is ∙ ap image_of (ended lens digits slots n w.cells runs top i w.state h p)
