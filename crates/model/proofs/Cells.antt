-- What a side reads from cells: determined, kept by appended and changed cells, met by the walk; cells in a row.
use Rattle.model.proofs.Prelude.{Bool, List, Memᴰ, mem_head, mem_tail, get_or_append, [], ◌++◌, ◌+◌, ◌<◌, ◌∙◌, ◌∷◌, ◌≡◌, ◌≢◌, ◌≤◌, add-zero, arith, cond, dec_le, eq-eqb, eqb, eqb-false, eqb-true, false, get_or-append-add, get_or-set_other, length, length-append, length-set, max, ne_eqb, refl, set, suc, sym, true, zero, zero-add, ℕ, ℕ_discrete}
use Rattle.model.specs.declared.Cell.{Cell}
use Rattle.model.specs.declared.Side.{Side}
use Rattle.model.specs.declared.Side.TheVariants.{Cell as further}
use Rattle.model.specs.Tries.{Reads, Tree, at_cell, here, leaf, node, occ, size, there, zero_cell}
use Rattle.model.specs.Rebuilding.{lay, side_of}

pub occ_append : (m : ℕ) (xs ys : List ℕ) → occ m (xs ++ ys) ≡ occ m xs + occ m ys
occ_append m [] ys = omega arith
occ_append m (x ∷ xs) ys = omega (arith, occ_append m xs ys)

pub one_if_equal : (m n : ℕ) → m ≡ n → ◌≡◌ {A = ℕ} (cond (eqb m n) 1 0) 1
one_if_equal m n e = rw (eq-eqb m n e)

pub one_if_not : (m n : ℕ) → ¬ (m ≡ n) → ◌≡◌ {A = ℕ} (cond (eqb m n) 1 0) 0
one_if_not m n d = rw (ne_eqb m n d)

pub occ_snoc : (m : ℕ) (vs : List ℕ) → occ m vs ≡ 0 → ((i : ℕ) → occ i vs ≤ 1) → (i : ℕ) → occ i (vs ++ (m ∷ [])) ≤ 1
occ_snoc m vs o f i = go (ℕ_discrete i m)
  where
    go : Dec (i ≡ m) → occ i (vs ++ (m ∷ [])) ≤ 1
    go (yes e) = rw e (omega (arith, occ_append m vs (m ∷ []), o, one_if_equal m m refl))
    go (no n) = omega (arith, occ_append i vs (m ∷ []), f i, one_if_not i m n)

pub not_visited : (m n : ℕ) (vs ws : List ℕ) → occ m (n ∷ (vs ++ ws)) ≡ 0 → (n ≢ m) × (occ m vs ≡ 0) × (occ m ws ≡ 0)
not_visited m n vs ws o =
    (λ e. omega (arith, one_if_equal m n (sym e)), omega (arith, occ_append m vs ws), omega (arith, occ_append m vs ws))

-- The same, where the cell is known by an equation.
pub there_at : {cs : List Cell} {n : ℕ} {c : Cell} {L R : Tree} {vs ws : List ℕ} → n < length cs → at_cell cs n ≡ c → Reads cs c.left L vs → Reads cs c.right R ws
    → Reads cs (further n) (node c.digit c.number L R) (n ∷ (vs ++ ws))
there_at h e l r = rw (← e) (there h (rw (← e) at l) (rw (← e) at r))

pub reads_set : {cs : List Cell} {a : Side} {t : Tree} {vs : List ℕ} (m : ℕ) (c : Cell) → occ m vs ≡ 0 → Reads cs a t vs → Reads (set cs m c) a t vs
reads_set m c o here = here
reads_set {cs} m c o (there {n = n} {vs = vs} {ws = ws} h l r) =
    let a = not_visited m n vs ws o in
    there_at (rw length-set h) (get_or-set_other cs m n c zero_cell a.0) (reads_set m c a.1 l) (reads_set m c a.2 r)

-- What a side reads depends on the visited cells alone.
pub reads_agree : {cs cs' : List Cell} {a : Side} {t : Tree} {vs : List ℕ} → length cs ≤ length cs'
    → ((m : ℕ) → 0 < occ m vs → at_cell cs' m ≡ at_cell cs m) → Reads cs a t vs → Reads cs' a t vs
reads_agree len f here = here
reads_agree len f (there {n = m} {vs = vs} {ws = ws} h l r) =
    there_at (omega arith) (f m (omega (arith, one_if_equal m m refl)))
    (reads_agree len (λ i o. f i (omega (arith, o, occ_append i vs ws))) l)
    (reads_agree len (λ i o. f i (omega (arith, o, occ_append i vs ws))) r)

pub reads_size : {cs : List Cell} {a : Side} {t : Tree} {vs : List ℕ} → Reads cs a t vs → length vs ≡ size t
reads_size here = refl
reads_size (there {vs = vs} {ws = ws} h l r) = omega (arith, reads_size l, reads_size r, length-append vs ws)

abbrev pub height : Tree → ℕ
height (leaf s) = 1
height (node d i L R) = suc (max (height L) (height R))

pub reads_height : {cs : List Cell} {a : Side} {t : Tree} {vs : List ℕ} → Reads cs a t vs → height t ≤ suc (length vs)
reads_height here = omega arith
reads_height (there {vs = vs} {ws = ws} h l r) = omega (arith, reads_height l, reads_height r, length-append vs ws)

pub reads_below : {cs : List Cell} {a : Side} {t : Tree} {vs : List ℕ} (m : ℕ) → length cs ≤ m → Reads cs a t vs → occ m vs ≡ 0
reads_below m h here = refl
reads_below m h (there {n = n} {vs = vs} {ws = ws} b l r) = go (eqb m n) refl (reads_below m h l) (reads_below m h r)
  where
    go : (t : Bool) → eqb m n ≡ t → occ m vs ≡ 0 → occ m ws ≡ 0 → cond t 1 0 + occ m (vs ++ ws) ≡ 0
    go true e x y = absurd (omega (arith, eqb-true m n e))
    go false e x y = omega (arith, occ_append m vs ws)

-- Each cell once: none twice.
pub each_once : {cs : List Cell} {a : Side} {t : Tree} {vs : List ℕ} → Reads cs a t vs → ((i : ℕ) → i < length cs → occ i vs ≡ 1) → (i : ℕ) → occ i vs ≤ 1
each_once {cs} r each i = elim (dec_le (length cs) i) [ yes h ↦ omega (arith, reads_below i h r) | no h ↦ omega (arith, each i (omega arith)) ]

-- How many numbers below n, each counted as often as it stands.
abbrev pub total : ℕ → List ℕ → ℕ
total zero vs = 0
total (suc n) vs = occ n vs + total n vs

pub total_nil : (n : ℕ) → total n [] ≡ 0
total_nil zero = refl
total_nil (suc n) = omega (arith, total_nil n)

total_out : (n v : ℕ) (vs : List ℕ) → n ≤ v → total n (v ∷ vs) ≡ total n vs
total_out zero v vs h = refl
total_out (suc n) v vs h = go (eqb n v) refl (total_out n v vs (omega arith))
  where
    go : (t : Bool) → eqb n v ≡ t → total n (v ∷ vs) ≡ total n vs → cond t 1 0 + occ n vs + total n (v ∷ vs) ≡ occ n vs + total n vs
    go true e f = absurd (omega (arith, eqb-true n v e))
    go false e f = omega arith

pub total_cons : (n v : ℕ) (vs : List ℕ) → v < n → total n (v ∷ vs) ≡ suc (total n vs)
total_cons zero v vs h = absurd (omega arith)
total_cons (suc n) v vs h = go (eqb n v) refl (total_cons n v vs)
  where
    go : (t : Bool) → eqb n v ≡ t → (v < n → total n (v ∷ vs) ≡ suc (total n vs)) → cond t 1 0 + occ n vs + total n (v ∷ vs) ≡ suc (occ n vs + total n vs)
    go true e f = omega (arith, total_out n v vs (omega (arith, eqb-true n v e)))
    go false e f = omega (arith, f (omega (arith, eqb-false n v e)))

total_each : (n : ℕ) (vs : List ℕ) → ((i : ℕ) → i < n → occ i vs ≡ 1) → total n vs ≡ n
total_each zero vs f = refl
total_each (suc n) vs f = omega (arith, f n (omega arith), total_each n vs (λ i h. f i (omega arith)))

total_append : (n : ℕ) (vs ws : List ℕ) → total n (vs ++ ws) ≡ total n vs + total n ws
total_append zero vs ws = omega arith
total_append (suc n) vs ws = omega (arith, occ_append n vs ws, total_append n vs ws)

pub reads_total : {cs : List Cell} {a : Side} {t : Tree} {vs : List ℕ} → Reads cs a t vs → length vs ≡ total (length cs) vs
reads_total {cs} here = sym (total_nil (length cs))
reads_total {cs} (there {n = m} {vs = vs} {ws = ws} h l r) =
    omega (arith, reads_total l, reads_total r, length-append vs ws, total_append (length cs) vs ws, total_cons (length cs) m (vs ++ ws) h)

-- Each cell reached once: as many visits as cells, so the walk passes at most as many.
pub visits_count : {cs : List Cell} {a : Side} {t : Tree} {vs : List ℕ} → Reads cs a t vs → ((i : ℕ) → i < length cs → occ i vs ≡ 1) → length vs ≡ length cs
visits_count {cs} {vs = vs} r each = reads_total r ∙ total_each (length cs) vs each

-- Different numbers below n are at most n.
pub total_le : (n : ℕ) (vs : List ℕ) → ((i : ℕ) → occ i vs ≤ 1) → total n vs ≤ n
total_le zero vs f = omega arith
total_le (suc n) vs f = omega (arith, f n, total_le n vs f)

-- As many of them as there are: each is there.
pub total_once : (n : ℕ) (vs : List ℕ) → ((i : ℕ) → occ i vs ≤ 1) → total n vs ≡ n → (i : ℕ) → i < n → occ i vs ≡ 1
total_once zero vs f e i h = absurd (omega arith)
total_once (suc n) vs f e i h =
    let o : occ n vs ≡ 1 = omega (arith, f n, total_le n vs f) in
    elim (ℕ_discrete i n) [ yes q ↦ rw q o | no q ↦ total_once n vs f (omega arith) i (omega arith) ]

pub total_all : (n : ℕ) (vs : List ℕ) → ((v : ℕ) → Memᴰ v vs → v < n) → length vs ≡ total n vs
total_all n [] f = sym (total_nil n)
total_all n (v ∷ vs) f = omega (arith, total_all n vs (λ w m. f w (mem_tail m)), total_cons n v vs (f v (mem_head refl)))

pub occ_mem : (i : ℕ) (vs : List ℕ) → 0 < occ i vs → Memᴰ i vs
occ_mem i [] h = absurd (omega arith)
occ_mem i (v ∷ vs) h = go (eqb i v) refl (occ_mem i vs) h
  where
    go : (t : Bool) → eqb i v ≡ t → (0 < occ i vs → Memᴰ i vs) → 0 < cond t 1 0 + occ i vs → Memᴰ i (v ∷ vs)
    go true e f h = mem_head (eqb-true i v e)
    go false e f h = mem_tail (f (omega arith))

pub length_lay : (k : ℕ) (t : Tree) → length (lay k t) ≡ size t
length_lay k (leaf s) = refl
length_lay k (node d i L R) = simp (length-append, length_lay (suc k) L, length_lay (suc k + size L) R)

-- xs stands in cs from place k on.
abbrev pub Stands : List Cell → ℕ → List Cell → Type 0
Stands cs k xs = (k + length xs ≤ length cs) × ((j : ℕ) → j < length xs → at_cell cs (k + j) ≡ at_cell xs j)

stands_left : (cs : List Cell) (k : ℕ) (c : Cell) (xs ys : List Cell) → Stands cs k (c ∷ (xs ++ ys)) → Stands cs (suc k) xs
stands_left cs k c xs ys s = (
  omega (arith, s.0, length-append xs ys),
  λ j h.
      let e : suc k + j ≡ k + suc j = omega arith in
      rw e (s.1 (suc j) (omega (arith, length-append xs ys)) ∙ get_or_append xs ys zero_cell j h),
)

stands_right : (cs : List Cell) (k : ℕ) (c : Cell) (xs ys : List Cell) → Stands cs k (c ∷ (xs ++ ys)) → Stands cs (suc k + length xs) ys
stands_right cs k c xs ys s = (
  omega (arith, s.0, length-append xs ys),
  λ j h.
      let e : suc k + length xs + j ≡ k + suc (length xs + j) = omega arith in
      rw e (s.1 (suc (length xs + j)) (omega (arith, length-append xs ys)) ∙ get_or-append-add xs ys j zero_cell),
)

abbrev pub numbers : ℕ → Tree → List ℕ
numbers k (leaf s) = []
numbers k (node d i L R) = k ∷ (numbers (suc k) L ++ numbers (suc k + size L) R)

pub lay_reads : (t : Tree) (cs : List Cell) (k : ℕ) → Stands cs k (lay k t) → Reads cs (side_of k t) t (numbers k t)
lay_reads (leaf s) cs k st = here
lay_reads (node d i L R) cs k st =
    let xs : List Cell = lay (suc k) L in
    let ys : List Cell = lay (suc k + size L) R in
    let c : Cell = record { digit = d; number = i; left = side_of (suc k) L; right = side_of (suc k + size L) R } in
    there_at {c = c} (omega (arith, st.0)) (rw add-zero at (st.1 0 (omega arith)))
    (lay_reads L cs (suc k) (stands_left cs k c xs ys st))
    (lay_reads R cs (suc k + size L) (rw (length_lay (suc k) L) at (stands_right cs k c xs ys st)))

-- The cells are visited in the order of their numbers, each once.
abbrev pub upto : ℕ → ℕ → List ℕ
upto k zero = []
upto k (suc n) = k ∷ upto (suc k) n

upto_append : (a k b : ℕ) → upto k a ++ upto (k + a) b ≡ upto k (a + b)
upto_append zero k b = simp (add-zero, zero-add)
upto_append (suc a) k b =
    let e : k + suc a ≡ suc k + a = omega arith in
    let g : suc a + b ≡ suc (a + b) = omega arith in
    rw (e, g, upto_append a (suc k) b)

pub numbers_upto : (k : ℕ) (t : Tree) → numbers k t ≡ upto k (size t)
numbers_upto k (leaf s) = refl
numbers_upto k (node d i L R) = rw (numbers_upto (suc k) L, numbers_upto (suc k + size L) R, upto_append (size L) (suc k) (size R))

pub upto_above : (n k m : ℕ) → m < k → occ m (upto k n) ≡ 0
upto_above zero k m h = refl
upto_above (suc n) k m h = go (eqb m k) refl (upto_above n (suc k) m (omega arith))
  where
    go : (t : Bool) → eqb m k ≡ t → occ m (upto (suc k) n) ≡ 0 → cond t 1 0 + occ m (upto (suc k) n) ≡ 0
    go true e f = absurd (omega (arith, eqb-true m k e))
    go false e f = omega arith

pub upto_once : (n k m : ℕ) → k ≤ m → m < k + n → occ m (upto k n) ≡ 1
upto_once zero k m a b = absurd (omega arith)
upto_once (suc n) k m a b = go (eqb m k) refl (upto_once n (suc k) m)
  where
    go : (t : Bool) → eqb m k ≡ t → (suc k ≤ m → m < suc k + n → occ m (upto (suc k) n) ≡ 1) → cond t 1 0 + occ m (upto (suc k) n) ≡ 1
    go true e f = omega (arith, upto_above n (suc k) m (omega (arith, eqb-true m k e)))
    go false e f = omega (arith, f (omega (arith, eqb-false m k e)) (omega arith))

-- A tree laid out from cell 0 on.
pub laid_reads : (t : Tree) → Reads (lay 0 t) (side_of 0 t) t (upto 0 (size t))
laid_reads t = rw numbers_upto at (lay_reads t (lay 0 t) 0 (omega arith, λ j h. rw zero-add))

pub laid_each : (t : Tree) (i : ℕ) → i < length (lay 0 t) → occ i (upto 0 (size t)) ≡ 1
laid_each t i h = upto_once (size t) 0 i (omega arith) (omega (arith, h, length_lay 0 t))
