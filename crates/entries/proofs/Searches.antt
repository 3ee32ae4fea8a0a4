-- What the code counts and finds in entries of e bytes, entry by entry: going down for a name and for a string, and which rows of names pass.
use Rattle.model.proofs.Prelude.{Bool, add-one, List, [], ◌&&◌, ◌*◌, ◌++◌, ◌+◌, ◌-◌, ◌<◌, ◌∙◌, ◌∷◌, ◌≡◌, ◌≤◌, ap, arith, drop, drop-drop, eqb, eqb-false, eqb-true, false, le-ltb, length, lt-ltb, ltb, ltb-true, not, nothing, refl, some, suc, sym, take, true, zero, ℕ}
use Rattle.model.specs.Tests.{is_legal_filled}
use native.Mathlib.Nat.{mul-zero}
use Rattle.model.specs.Format.{value_of}
use Rattle.model.proofs.Tests.{both_true}
use Rattle.digits.specs.Keys.{value}
use Rattle.gathering.specs.Names.{Rising, names}
use Rattle.entries.specs.Rows.{are_between, are_entries, below, held_at, is_at, last_of, values}
use Rattle.entries.proofs.Products.{next_is}

pub length_values : (e n : ℕ) (xs : List ℕ) → length (values e n xs) ≡ n
unfolding values
length_values e zero xs = refl
length_values e (suc n) xs = ap suc (length_values e n (drop e xs))

-- The bytes behind an entry.
pub drop_next : (e i : ℕ) (xs : List ℕ) → drop (e * i) (drop e xs) ≡ drop (e * suc i) xs
drop_next e i xs = drop-drop (e * i) e xs ∙ ap (λ (n : ℕ). drop n xs) (next_is e i)

-- The name of the first entry.
pub first_name : (e : ℕ) (xs : List ℕ) → value (take 24 (drop (e * 0) xs)) ≡ value (take 24 xs)
first_name e xs = rw (mul-zero e)

values_last : (e i : ℕ) (xs : List ℕ) → values e (suc i) xs ≡ values e i xs ++ (value (take 24 (drop (e * i) xs)) ∷ [])
unfolding values
values_last e zero xs = rw (mul-zero e)
values_last e (suc i) xs =
    ap (λ (ws : List ℕ). value (take 24 xs) ∷ ws) (values_last e i (drop e xs)
    ∙ ap (λ (ys : List ℕ). values e i (drop e xs) ++ (value (take 24 ys) ∷ [])) (drop_next e i xs))

-- The number behind the others decides first.
last_here : (t : ℕ → Bool) (w : ℕ) (ws : List ℕ) → t w ≡ true → last_of t (ws ++ (w ∷ [])) ≡ suc (length ws)
unfolding last_of
last_here t w [] p = rw p
last_here t w (u ∷ ws) p = rw (last_here t w ws p, lt-ltb 0 (suc (length ws)) (omega arith))

last_there : (t : ℕ → Bool) (w : ℕ) (ws : List ℕ) → t w ≡ false → last_of t (ws ++ (w ∷ [])) ≡ last_of t ws
unfolding last_of
last_there t w [] p = rw p
last_there t w (u ∷ ws) p = rw (last_there t w ws p)

-- One turn of the search, from one entry more.
module _ (t : ℕ → Bool) (e k : ℕ) (xs : List ℕ) where
  pub last_found : t (value (take 24 (drop (e * k) xs))) ≡ true → last_of t (values e (k + 1) xs) ≡ k + 1
  last_found p = rw (add-one, values_last e k xs) (last_here t (value (take 24 (drop (e * k) xs))) (values e k xs) p ∙ ap suc (length_values e k xs))

  pub last_less : t (value (take 24 (drop (e * k) xs))) ≡ false → last_of t (values e (k + 1) xs) ≡ last_of t (values e k xs)
  last_less p = rw (add-one, values_last e k xs) (last_there t (value (take 24 (drop (e * k) xs))) (values e k xs) p)

pub last_none : (t : ℕ → Bool) (e i : ℕ) (xs : List ℕ) → i ≤ 0 → last_of t (values e i xs) ≡ 0
unfolding last_of values
last_none t e i xs h = let z : i ≡ 0 = omega arith in rw z

-- The same of the search for a name: one turn, from i entries to one less.
module _ (e i k : ℕ) (xs : List ℕ) (v : ℕ) (h : i ≡ suc k) where
  pub below_found : ltb (value (take 24 (drop (e * k) xs))) v ≡ true → below v (values e i xs) ≡ i
  below_found p = let q : i ≡ k + 1 = omega arith in rw q (last_found (λ w. ltb w v) e k xs p)

  pub below_less : ltb (value (take 24 (drop (e * k) xs))) v ≡ false → below v (values e i xs) ≡ below v (values e k xs)
  below_less p = let q : i ≡ k + 1 = omega arith in rw q (last_less (λ w. ltb w v) e k xs p)

pub below_none : (e i : ℕ) (xs : List ℕ) (v : ℕ) → i ≤ 0 → below v (values e i xs) ≡ 0
below_none e i xs v h = last_none (λ w. ltb w v) e i xs h

-- What is held at a place.
module _ (e i j : ℕ) (xs : List ℕ) (count v : ℕ) (q : i ≡ j) where
  pub held_behind : count ≤ i → nothing ≡ held_at e j xs count v
  unfolding held_at
  held_behind h = rw (← q, le-ltb i count h)

  pub held_other : i < count → eqb (value (take 24 (drop (e * i) xs))) v ≡ false → nothing ≡ held_at e j xs count v
  unfolding held_at
  held_other h t = rw (← q, lt-ltb i count h, t)

  pub held_here : i < count → eqb (value (take 24 (drop (e * i) xs))) v ≡ true → some (value_of (take (e - 24) (drop (e * i + 24) xs))) ≡ held_at e j xs count v
  unfolding held_at
  held_here h t = rw (← q, lt-ltb i count h, t)

-- The same by the test of the place.
module _ (e i j : ℕ) (xs : List ℕ) (count v : ℕ) (q : i ≡ j) where
  pub held_none : is_at e xs count i v ≡ false → nothing ≡ held_at e j xs count v
  unfolding held_at is_at
  held_none t = rw (← q, t)

  pub held_some : is_at e xs count i v ≡ true → some (value_of (take (e - 24) (drop (e * i + 24) xs))) ≡ held_at e j xs count v
  unfolding held_at is_at
  held_some t = rw (← q, t)

pub there : (e i count : ℕ) (xs : List ℕ) (v : ℕ) → is_at e xs count i v ≡ true → i < count
unfolding is_at
there e i count xs v t = ltb-true i count (both_true (ltb i count) (eqb (value (take 24 (drop (e * i) xs))) v) t).0

-- The test of the names: a row that rises passes by its ends, and no other row passes.
rising_entries : (e n : ℕ) (xs : List ℕ) (last high : ℕ) → Rising last (names e (suc n) xs) → are_entries e (suc n) xs last high ≡ not (ltb high (value (take 24 (drop (e * n) xs))))
unfolding are_entries names
rising_entries e zero xs last high r = rw (r.0, lt-ltb last (value (take 24 xs)) r.1, mul-zero e)
rising_entries e (suc n) xs last high r =
    rw (r.0, lt-ltb last (value (take 24 xs)) r.1) (rising_entries e n (drop e xs) (value (take 24 xs)) high r.2
    ∙ ap (λ (ys : List ℕ). not (ltb high (value (take 24 ys)))) (drop_next e n xs))

entries_rising : (e n : ℕ) (xs : List ℕ) (last high : ℕ) → are_entries e n xs last high ≡ true → Rising last (names e n xs)
unfolding are_entries names
entries_rising e zero xs last high h = tt
entries_rising e (suc n) xs last high h =
    let x = take 24 xs in
    let p = both_true (is_legal_filled x && ltb last (value x)) (are_entries e n (drop e xs) (value x) high) h in
    let q = both_true (is_legal_filled x) (ltb last (value x)) p.0 in
    (q.0, ltb-true last (value x) q.1, entries_rising e n (drop e xs) (value x) high p.1)

lowered : (e n : ℕ) (xs : List ℕ) (low : ℕ) → Rising low (names e n xs) → Rising 0 (names e n xs)
unfolding names
lowered e zero xs low r = tt
lowered e (suc n) xs low r = (r.0, omega (arith, r.1), r.2)

entries_faulty : (e count : ℕ) (xs : List ℕ) (low high : ℕ) → (Rising 0 (names e count xs) → ⊥) → are_entries e count xs low high ≡ false
entries_faulty e count xs low high n = go (are_entries e count xs low high) refl
  where
    go : (b : Bool) → are_entries e count xs low high ≡ b → b ≡ false
    go true h = absurd (n (lowered e count xs low (entries_rising e count xs low high h)))
    go false h = refl

pub entries_ends : (e count : ℕ) (xs : List ℕ) (low high : ℕ) → Rising 0 (names e count xs) → are_entries e count xs low high ≡ are_between e count xs low high
unfolding are_entries are_between names
entries_ends e zero xs low high r = refl
entries_ends e (suc n) xs low high r = go (ltb low (value (take 24 xs))) refl
  where
    go : (b : Bool) → ltb low (value (take 24 xs)) ≡ b
        → are_entries e (suc n) xs low high ≡ (ltb low (value (take 24 xs)) && not (ltb high (value (take 24 (drop (e * n) xs)))))
    go true t = rising_entries e n xs low high (r.0, ltb-true low (value (take 24 xs)) t, r.2) ∙ rw t
    go false t = rw (r.0, t)

-- A row that passes passes by its ends.
pub ends_faulty : (e count : ℕ) (xs : List ℕ) (low high : ℕ) → are_between e count xs low high ≡ false → are_entries e count xs low high ≡ false
ends_faulty e count xs low high f = go (are_entries e count xs low high) refl
  where
    go : (b : Bool) → are_entries e count xs low high ≡ b → b ≡ false
    go true h = let r = lowered e count xs low (entries_rising e count xs low high h) in sym h ∙ entries_ends e count xs low high r ∙ f
    go false h = refl

-- The code's test: f is 0 exactly where the row rises.
pub entries_tested : (e count : ℕ) (xs : List ℕ) (low high f : ℕ) → are_between e count xs low high ≡ true → (f ≡ 0 → Rising 0 (names e count xs)) → (Rising 0 (names e count xs) → f ≡ 0)
    → eqb f 0 ≡ are_entries e count xs low high
entries_tested e count xs low high f t rises none = go (eqb f 0) refl
  where
    go : (b : Bool) → eqb f 0 ≡ b → b ≡ are_entries e count xs low high
    go true z = sym (entries_ends e count xs low high (rises (eqb-true f 0 z)) ∙ t)
    go false z = sym (entries_faulty e count xs low high (λ r. eqb-false f 0 z (none r)))

-- The ends, as the code reads them.
module _ (e count : ℕ) (xs : List ℕ) (low high : ℕ) where
  pub between_none : count ≡ 0 → not (ltb high low) ≡ are_between e count xs low high
  unfolding are_between
  between_none z = rw z

  pub between_low : (n : ℕ) → count ≡ suc n → ltb low (value (take 24 xs)) ≡ false → false ≡ are_between e count xs low high
  unfolding are_between
  between_low n z t = rw (z, t)

  pub between_high : (n : ℕ) → count ≡ suc n → ltb low (value (take 24 xs)) ≡ true → not (ltb high (value (take 24 (drop (e * n) xs)))) ≡ are_between e count xs low high
  unfolding are_between
  between_high n z t = rw (z, t)
