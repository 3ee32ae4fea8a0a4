-- What the code's tests say of the definitions, and how its loops go on.
use Rattle.model.proofs.Prelude.{List, ◌*◌, ◌+◌, ◌-◌, ◌<◌, ◌∙◌, ◌≡◌, ◌≤◌, ap, arith, dec_le, dec_lt, eq-eqb, get_or, get_or-set_other, get_or-set_same, le-leb, le-ltb, length, length-set, lt-leb, lt-ltb, ne_eqb, refl, set, sets, subst, sym, ℕ, ℕ_discrete}
use Rattle.model.specs.declared.Cell.{Cell}
use Rattle.model.specs.declared.Side.{Side}
use Rattle.model.specs.declared.Side.TheVariants.{Cell as further, Slot as slot}
use Rattle.model.specs.declared.Trie.{Trie}
use Rattle.model.specs.Order.{Str}
use Rattle.model.specs.Tries.{at_cell, zero_cell}
use Rattle.trie.specs.declared.Hand.{Hand}
use Rattle.trie.specs.declared.Hand.TheVariants.{Left, Right}
use Rattle.trie.specs.declared.Walk.{Walk}
use Rattle.image.specs.Images.{Held, cell_bytes, cell_from, image_length, trie_from}
use Rattle.image.proofs.Images.{cell_of}
use Rattle.image.proofs.Imaging.{cell_put, left_held, right_held}
use Rattle.growth.specs.Parts.{Redirected, Written, cell_turned, new_cell, next_side, side_joined, side_turned, walk_joined}

module _ {side : Side} {s : ℕ} (place last a n : ℕ) where
  pub turned_other : side ≡ slot s → (s ≡ a → ⊥) → side_turned side place last a n ≡ slot s
  unfolding side_turned
  turned_other e h = rw (e, ne_eqb s a h)

  pub turned_stays : side ≡ slot s → s ≡ a → place ≤ last → side_turned side place last a n ≡ slot s
  unfolding side_turned
  turned_stays e h k = rw (e, eq-eqb s a h, le-leb place last k)

  pub turned_goes : side ≡ slot s → s ≡ a → last < place → side_turned side place last a n ≡ slot n
  unfolding side_turned
  turned_goes e h k = rw (e, eq-eqb s a h, lt-leb place last k)

  pub turned_further : side ≡ further s → side_turned side place last a n ≡ further s
  unfolding side_turned
  turned_further e = rw e

-- No cell is turned yet; one more is.
pub redirect_none : (t : Trie) (places : List ℕ) (last a n : ℕ) → Redirected t places 0 last a n t
redirect_none t places last a n =
    record { full = refl; turned = λ i h k. absurd (omega arith); rest = λ i h. refl; count_is = refl; first_is = refl }

redirect_next : {t r : Trie} {places : List ℕ} {i last a n : ℕ} {x : Cell} → Redirected t places i last a n r
    → x ≡ cell_turned (at_cell r.cells i) (get_or places i 0) last a n
    → Redirected t places (i + 1) last a n (record { cells = set r.cells i x; count = r.count; first = r.first })
redirect_next {t} {r} {places} {i} {last} {a} {n} {x} R e =
    record {
      full = length-set r.cells i x ∙ R.full;
      turned = λ j h k. elim (dec_lt j i) [
        | yes b ↦ get_or-set_other r.cells i j x zero_cell (λ q. omega (arith, b, q)) ∙ R.turned j b k
        | no b ↦ (let q : j ≡ i = omega arith in
            rw q (get_or-set_same r.cells i x zero_cell (omega (arith, k, q, R.full)) ∙ rw (← R.rest i (omega arith)) e))
      ];
      rest = λ j h. get_or-set_other r.cells i j x zero_cell (λ q. omega (arith, h, q)) ∙ R.rest j (omega arith);
      count_is = R.count_is;
      first_is = R.first_is;
    }

-- No new cell is written yet; one more is.
pub write_none : (t : Trie) (count : ℕ) (s : Str) (shared a n : ℕ) → Written t count s shared a n count t
write_none t count s shared a n =
    record { full = refl; new = λ j h k. absurd (omega arith); before = λ i h. refl; behind = λ i h. refl }

write_next : {t r : Trie} {count : ℕ} {s : Str} {shared a n i at : ℕ} {x : Cell} → Written t count s shared a n i r
    → count ≤ i → i - count ≡ at - shared → shared ≤ at → x ≡ new_cell s at i (count + (length s - shared)) a n
    → Written t count s shared a n (i + 1) (record { cells = set r.cells i x; count = r.count; first = r.first })
write_next {t} {r} {count} {s} {shared} {a} {n} {i} {at} {x} W b same b' e =
    record {
      full = length-set r.cells i x ∙ W.full;
      new = λ j h k. elim (dec_lt (count + j) i) [
        | yes l ↦ get_or-set_other r.cells i (count + j) x zero_cell (λ q. omega (arith, l, q)) ∙ W.new j l k
        | no l ↦ (let q : count + j ≡ i = omega arith in
            let q' : shared + j ≡ at = omega arith in
            rw (q, q') (get_or-set_same r.cells i x zero_cell (omega (arith, k, q, W.full)) ∙ e))
      ];
      before = λ j h. get_or-set_other r.cells i j x zero_cell (λ q. omega (arith, h, q)) ∙ W.before j h;
      behind = λ j h. get_or-set_other r.cells i j x zero_cell (λ q. omega (arith, h, q)) ∙ W.behind j (omega arith);
    }

-- Sides that an image holds stay so.
turned_held : (x : Side) (place last a n : ℕ) → n < 32768 → Held x → Held (side_turned x place last a n)
unfolding side_turned
turned_held (slot s) place last a n h k = go (ℕ_discrete s a) (dec_le place last)
  where
    go : Dec (s ≡ a) → Dec (place ≤ last) → Held (side_turned (slot s) place last a n)
    go (no d) e = rw (ne_eqb s a d) k
    go (yes d) (yes e) = rw (eq-eqb s a d, le-leb place last e) k
    go (yes d) (no e) = rw (eq-eqb s a d, lt-leb place last (omega arith)) h
turned_held (further i) place last a n h k = k

next_held : (i end a : ℕ) → end ≤ 256 → a < 32768 → Held (next_side i end a)
unfolding next_side
next_held i end a h k = go (dec_lt (i + 1) end)
  where
    go : Dec (i + 1 < end) → Held (next_side i end a)
    go (yes l) = rw (lt-ltb (i + 1) end l) (omega arith, omega arith)
    go (no l) = rw (le-ltb (i + 1) end (omega arith)) k

joined_held : (c : Cell) (h : Hand) (to : ℕ) → 1 ≤ to → to ≤ 256 → Held c.left → Held c.right → Held (side_joined c h to).left × Held (side_joined c h to).right
unfolding side_joined
joined_held c Left to h k l r = ((h, omega arith), r)
joined_held c Right to h k l r = (l, (h, omega arith))

-- What a cell, written over an image, makes of its trie.
module _ (xs ys : List ℕ) (i : ℕ) (h : i < 256) {x : Cell}
    (stored : Held x.left → Held x.right → trie_from ys ≡ record { cells = set (trie_from xs).cells i x; count = (trie_from xs).count; first = (trie_from xs).first }) where
  pub redirect_stored : {t : Trie} {places : List ℕ} {last a n : ℕ} {c : Cell} → Redirected t places i last a n (trie_from xs) → n < 32768
      → c ≡ cell_from xs (4 + 6 * i) → Held c.left × Held c.right → x ≡ cell_turned c (get_or places i 0) last a n → Redirected t places (i + 1) last a n (trie_from ys)
  unfolding cell_turned
  redirect_stored {t} {places} {last} {a} {n} {c} R k read held turned =
      let new : x ≡ cell_turned (at_cell (trie_from xs).cells i) (get_or places i 0) last a n =
      turned ∙ ap (λ (d : Cell). cell_turned d (get_or places i 0) last a n) (read ∙ sym (cell_of xs i h)) in
      subst (λ (r : Trie). Redirected t places (i + 1) last a n r)
      (sym (stored (rw turned (turned_held c.left (get_or places i 0) last a n k held.0)) (rw turned (turned_held c.right (get_or places i 0 + 1) last a n k held.1))))
      (redirect_next R new)

  pub write_stored : (at : ℕ) {t : Trie} {count : ℕ} {s : Str} {shared a n m f : ℕ} → Written t count s shared a n i (trie_from xs) × ((trie_from xs).count ≡ m) × ((trie_from xs).first ≡ f)
      → count ≤ i → i - count ≡ at - shared → shared ≤ at → count + (length s - shared) ≤ 256 → a < 32768 → n < 32768
      → x ≡ new_cell s at i (count + (length s - shared)) a n → Written t count s shared a n (i + 1) (trie_from ys) × ((trie_from ys).count ≡ m) × ((trie_from ys).first ≡ f)
  unfolding new_cell
  write_stored at {t} {count} {s} {shared} {a} {n} {m} {f} W b same b' room k k' new =
      subst (λ (r : Trie). Written t count s shared a n (i + 1) r × (r.count ≡ m) × (r.first ≡ f))
      (sym (stored (rw new (next_held i (count + (length s - shared)) a room k)) (rw new k'))) (write_next W.0 b same b' new, W.1, W.2)

  pub graft_stored : {c : Cell} {count : ℕ} (w : Walk) → count ≤ 256 → i ≡ w.cell → i < count
      → c ≡ cell_from xs (4 + 6 * i) → Held c.left × Held c.right → x ≡ side_joined c w.hand count → trie_from ys ≡ walk_joined (trie_from xs) count w
  unfolding walk_joined
  graft_stored {c} {count} w few at l read held new =
      let k : Held x.left × Held x.right = rw new (joined_held c w.hand count (omega arith) few held.0 held.1) in
      let joined : x ≡ side_joined (at_cell (trie_from xs).cells i) w.hand count =
      new ∙ ap (λ (d : Cell). side_joined d w.hand count) (read ∙ sym (cell_of xs i h)) in
      rw (← at, lt-leb count i l) (stored k.0 k.1 ∙ ap (λ (d : Cell). record { cells = set (trie_from xs).cells i d; count = (trie_from xs).count; first = (trie_from xs).first }) joined)

-- The same of a cell's bytes, written over any image: every side that is read from an image is held.
module _ (xs : List ℕ) {ys : List ℕ} (size : length xs ≡ image_length) (bytes : (j : ℕ) → get_or xs j 0 < 256) (i : ℕ) (x : Cell) (stored : ys ≡ sets xs (4 + 6 * i) (cell_bytes x)) (h : i < 256) where
  put : Held x.left → Held x.right → trie_from ys ≡ record { cells = set (trie_from xs).cells i x; count = (trie_from xs).count; first = (trie_from xs).first }
  put l r = ap trie_from stored ∙ cell_put xs size bytes i x h l r

  held : {c : Cell} → c ≡ cell_from xs (4 + 6 * i) → Held c.left × Held c.right
  held read = rw (read ∙ sym (cell_of xs i h)) (left_held xs size bytes i h, right_held xs size bytes i h)

  pub redirect_bytes : {t : Trie} {places : List ℕ} {last a n : ℕ} {c : Cell} → Redirected t places i last a n (trie_from xs) → n < 32768
      → c ≡ cell_from xs (4 + 6 * i) → x ≡ cell_turned c (get_or places i 0) last a n → Redirected t places (i + 1) last a n (trie_from ys)
  redirect_bytes R k read turned = redirect_stored xs ys i h put R k read (held read) turned

  pub write_bytes : {t : Trie} {count : ℕ} {s : Str} {shared a n at m f : ℕ} → Written t count s shared a n i (trie_from xs) × ((trie_from xs).count ≡ m) × ((trie_from xs).first ≡ f)
      → count ≤ i → i - count ≡ at - shared → shared ≤ at → count + (length s - shared) ≤ 256 → a < 32768 → n < 32768
      → x ≡ new_cell s at i (count + (length s - shared)) a n → Written t count s shared a n (i + 1) (trie_from ys) × ((trie_from ys).count ≡ m) × ((trie_from ys).first ≡ f)
  write_bytes {t} {count} {s} {shared} {a} {n} {at} W b same b' room k k' new = write_stored xs ys i h put at W b same b' room k k' new

  pub graft_bytes : {c : Cell} {count : ℕ} (w : Walk) → count ≤ 256 → i ≡ w.cell → i < count
      → c ≡ cell_from xs (4 + 6 * i) → x ≡ side_joined c w.hand count → trie_from ys ≡ walk_joined (trie_from xs) count w
  graft_bytes w few at l read new = graft_stored xs ys i h put w few at l read (held read) new
