-- The stack of runs whose cells are not written yet, the run to write next on top: its cells, its sizes, and a push.
use Rattle.model.proofs.Prelude.{Bool, List, [], ◌++◌, ◌+◌, ◌-◌, ◌<◌, ◌≡◌, ◌≤◌, add-one, add-zero, arith, cond, dec_lt, false, get_or, get_or-set_other, get_or-set_same, le-ltb, length, length-append, lt-ltb, ltb, refl, set, suc, true, zero, ℕ}
use Rattle.model.specs.declared.Cell.{Cell}
use Rattle.model.specs.Rebuilding.{lay}
use Rattle.model.proofs.Cells.{length_lay}
use Rattle.rebuilding.specs.declared.Run.{Run}
use Rattle.rebuilding.proofs.Trees.{size_tree, tree, tree_leaf}

abbrev pub no_run : Run
no_run = record { from = 0; to = 0 }

-- The run at a place of the stack.
abbrev pub at_run : List Run → ℕ → Run
at_run runs t = get_or runs t no_run

-- How many strings the first t runs have.
unfoldable pub sizes : ℕ → List Run → ℕ
sizes zero runs = 0
sizes (suc t) runs = ((at_run runs t).to - (at_run runs t).from) + sizes t runs

-- The first t runs are not empty and end at n or before.
unfoldable pub Fine : ℕ → List Run → ℕ → Type 0
Fine zero runs n = Unit {0}
Fine (suc t) runs n = ((at_run runs t).from < (at_run runs t).to) × ((at_run runs t).to ≤ n) × Fine t runs n

pub fine_top : (t : ℕ) (runs : List Run) (n : ℕ) → Fine t runs n → t ≤ sizes t runs
unfolding Fine sizes
fine_top zero runs n f = omega arith
fine_top (suc t) runs n f = omega (arith, fine_top t runs n f.2)

at_set : (runs : List Run) (t j : ℕ) (v : Run) → t < j → at_run (set runs j v) t ≡ at_run runs t
at_set runs t j v h = get_or-set_other runs j t v no_run (λ e. omega arith)

sizes_set : (t j : ℕ) (runs : List Run) (v : Run) → t ≤ j → sizes t (set runs j v) ≡ sizes t runs
unfolding sizes
sizes_set zero j runs v h = refl
sizes_set (suc t) j runs v h = rw (at_set runs t j v (omega arith), sizes_set t j runs v (omega arith))

fine_set : (t j : ℕ) (runs : List Run) (v : Run) (n : ℕ) → t ≤ j → Fine t runs n → Fine t (set runs j v) n
unfolding Fine
fine_set zero j runs v n h f = f
fine_set (suc t) j runs v n h f = rw (at_set runs t j v (omega arith)) (f.0, f.1, fine_set t j runs v n (omega arith) f.2)

-- The stack after a run is written on top, which is kept where it is not empty.
abbrev pub pushed : ℕ → Run → ℕ
pushed t v = t + cond (ltb v.from v.to) 1 0

pub pushed_le : (t : ℕ) (v : Run) → pushed t v ≤ t + 1
pushed_le t v = go (ltb v.from v.to)
  where
    go : (b : Bool) → t + cond b 1 0 ≤ t + 1
    go true = omega arith
    go false = omega arith

pub sizes_pushed : (t : ℕ) (runs : List Run) (v : Run) → t < length runs
    → sizes (pushed t v) (set runs t v) ≡ (v.to - v.from) + sizes t runs
unfolding sizes
sizes_pushed t runs v h = go (dec_lt v.from v.to)
  where
    go : Dec (v.from < v.to) → sizes (t + cond (ltb v.from v.to) 1 0) (set runs t v) ≡ (v.to - v.from) + sizes t runs
    go (yes l) = rw (lt-ltb _ _ l, add-one t, get_or-set_same runs t v no_run h, sizes_set t t runs v (omega arith))
    go (no l) =
        let g : v.to ≤ v.from = omega arith in
        rw (le-ltb _ _ g, add-zero t, sizes_set t t runs v (omega arith)) (omega arith)

pub fine_pushed : (t : ℕ) (runs : List Run) (v : Run) (n : ℕ) → t < length runs → v.to ≤ n → Fine t runs n
    → Fine (pushed t v) (set runs t v) n
unfolding Fine
fine_pushed t runs v n h k f = go (dec_lt v.from v.to)
  where
    go : Dec (v.from < v.to) → Fine (t + cond (ltb v.from v.to) 1 0) (set runs t v) n
    go (yes l) = rw (lt-ltb _ _ l, add-one t, get_or-set_same runs t v no_run h) (l, k, fine_set t t runs v n (omega arith) f)
    go (no l) =
        let g : v.to ≤ v.from = omega arith in
        rw (le-ltb _ _ g, add-zero t) (fine_set t t runs v n (omega arith) f)

module _ (lens digits slots : List ℕ) where
  -- The cells of the first t runs, the last run's first, numbered from k on.
  unfoldable pub todo : ℕ → ℕ → List Run → List Cell
  todo zero k runs = []
  todo (suc t) k runs =
      let r = at_run runs t in
      lay k (tree lens digits slots r.from r.to) ++ todo t (k + (r.to - r.from)) runs

  todo_set : (t k j : ℕ) (runs : List Run) (v : Run) → t ≤ j → todo t k (set runs j v) ≡ todo t k runs
  unfolding todo
  todo_set zero k j runs v h = refl
  todo_set (suc t) k j runs v h = rw (at_set runs t j v (omega arith), todo_set t _ j runs v (omega arith))

  pub todo_pushed : (t k : ℕ) (runs : List Run) (v : Run) → t < length runs
      → todo (pushed t v) k (set runs t v) ≡ lay k (tree lens digits slots v.from v.to) ++ todo t (k + (v.to - v.from)) runs
  unfolding todo
  todo_pushed t k runs v h = go (dec_lt v.from v.to)
    where
      go : Dec (v.from < v.to)
          → todo (t + cond (ltb v.from v.to) 1 0) k (set runs t v)
          ≡ lay k (tree lens digits slots v.from v.to) ++ todo t (k + (v.to - v.from)) runs
      go (yes l) = rw (lt-ltb _ _ l, add-one t, get_or-set_same runs t v no_run h, todo_set t _ t runs v (omega arith))
      go (no l) =
          let g : v.to ≤ v.from = omega arith in
          let e : k + (v.to - v.from) ≡ k = omega arith in
          rw (le-ltb _ _ g, add-zero t, tree_leaf lens digits slots _ _ g, e) (todo_set t k t runs v (omega arith))

  pub length_todo : (t k : ℕ) (runs : List Run) → length (todo t k runs) ≡ sizes t runs
  unfolding todo sizes
  length_todo zero k runs = refl
  length_todo (suc t) k runs =
      let r = at_run runs t in
      rw (length-append, length_lay, size_tree, length_todo t (k + (r.to - r.from)) runs)
