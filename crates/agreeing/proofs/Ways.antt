-- The pass from one spot to another: nothing done, one part and then another, a cell entered, a string met.
use Rattle.std.specs.Prelude.{Option as Maybe, Some}
use Rattle.model.proofs.Prelude.{List, [], ◌++◌, ◌+◌, ◌-◌, ◌<◌, ◌∙◌, ◌∷◌, ◌≡◌, ◌≤◌, add-zero, ap, append_assoc, append-nil, arith, cond, eqb, get_or, get_or-set_other, get_or-set_same, le-ltb, length, length-append, length-set, ne_eqb, refl, set, subst, suc, sym, zero, ℕ, ℕ_discrete}
use Rattle.model.specs.declared.Cell.{Cell}
use Rattle.model.specs.declared.Side.{Side}
use Rattle.model.specs.declared.Side.TheVariants.{Cell as further, Slot as slot}
use Rattle.model.specs.Tries.{at_cell, occ}
use Rattle.model.proofs.Cells.{occ_append, one_if_equal, one_if_not}
use Rattle.trie.specs.declared.Strings.{Strings}
use Rattle.image.specs.Images.{side_from, trie_from}
use Rattle.image.proofs.Coding.{side_slot}
use Rattle.agreement.specs.Passes.{enters, leaves, stack}
use Rattle.agreement.proofs.Marks.{stack_pop, stack_push}
use Rattle.agreeing.specs.declared.Spot.{Spot}
use Rattle.agreeing.specs.Ways.{BoundAt, Goes, Kept, Onward, Roomy, Standing, StringAt, Whatever, goes, marked, standing}

-- A mark more.
pub marked_more : (ms : List ℕ) (k : ℕ) → k < length ms → get_or ms k 0 ≡ 0 → marked (set ms k 1) ≡ suc (marked ms)
unfolding marked
marked_more [] k h e = absurd (omega arith)
marked_more (zero ∷ ms) zero h e = refl
marked_more (suc m ∷ ms) zero h e = absurd (omega arith)
marked_more (zero ∷ ms) (suc k) h e = marked_more ms k (omega arith) e
marked_more (suc m ∷ ms) (suc k) h e = ap suc (marked_more ms k (omega arith) e)

pub marked_most : (ms : List ℕ) → marked ms ≤ length ms
unfolding marked
marked_most [] = omega arith
marked_most (zero ∷ ms) = omega (arith, marked_most ms)
marked_most (suc m ∷ ms) = omega (arith, marked_most ms)

module _ (marks seen ks : List ℕ) (k : ℕ) where
  -- A cell that is not marked goes on the stack.
  kept_push : k < length marks → get_or marks k 0 ≡ 0 → Kept marks seen ks → Kept (set marks k 1) seen (k ∷ ks)
  kept_push h e K = record {
    unmarked = λ i z. go (ℕ_discrete i k) i z refl;
    once = λ i. elim (ℕ_discrete i k) [
      | yes q ↦ omega (arith, K.unmarked i (rw q e), one_if_equal i k q)
      | no q ↦ omega (arith, K.once i, one_if_not i k q)
    ];
  }
    where
      go : {j : ℕ} → Dec (j ≡ k) → (i : ℕ) → get_or (set marks k 1) i 0 ≡ 0 → i ≡ j → occ i seen + occ i (k ∷ ks) ≡ 0
      go (yes q) i z r =
          let w : get_or (set marks k 1) k 0 ≡ 0 = rw (r ∙ q) at z in
          absurd (omega (arith, get_or-set_same marks k 1 0 h))
      go (no q) i z r =
          let n : i ≡ k → ⊥ = λ p. q (sym r ∙ p) in
          omega (arith, K.unmarked i (sym (get_or-set_other marks k i 1 0 n) ∙ z), one_if_not i k n)

  -- The cell on top of the stack meets its string.
  kept_pop : Kept marks seen (k ∷ ks) → Kept marks (seen ++ (k ∷ [])) ks
  kept_pop K = record {
    unmarked = λ i z. omega (arith, K.unmarked i z, occ_append i seen (k ∷ []));
    once = λ i. omega (arith, K.once i, occ_append i seen (k ∷ []));
  }

  kept_new : Kept marks seen (k ∷ ks) → occ k seen ≡ 0
  kept_new K = omega (arith, K.once k, one_if_equal k k refl)

module _ {cs : List Cell} {count : ℕ} where
  pub onward_none : {A : Strings → ℕ → Type 0} {f : Standing} (l : ℕ) → l ≡ 0 → Onward cs count A l f f
  onward_none {A} {f} l e = record {
    met = [];
    met_count = sym e;
    kept = λ seen K. rw append-nil K;
    back = λ s seen last e a K p. rw append-nil at p;
  }

  pub onward_then : {A B C : Strings → ℕ → Type 0} {n m : ℕ} {f g h : Standing} (l : ℕ) → Onward cs count A n f g → Onward cs count B m g h
      → l ≡ n + m → ((s : Strings) (d : ℕ) → C s d → A s d × B s (d + n)) → Onward cs count C l f h
  onward_then {A} {B} {C} {n} {m} {f} {g} {h} l P Q e split = record {
    met = P.met ++ Q.met;
    met_count = length-append P.met Q.met ∙ rw (P.met_count, Q.met_count) (sym e);
    kept = λ seen K. rw (← append_assoc seen P.met Q.met) (Q.kept (seen ++ P.met) (P.kept seen K));
    back = λ s seen last c a K p.
        let at_place : length (seen ++ P.met) ≡ length seen + n = length-append seen P.met ∙ ap (λ (x : ℕ). length seen + x) P.met_count in
        P.back s seen last c (split s (length seen) a).0 K (Q.back s (seen ++ P.met) last c (rw at_place (split s (length seen) a).1) (P.kept seen K) (rw append_assoc p));
  }

  -- A cell is entered: its left side is next.
  pub onward_enter : (marks ks : List ℕ) (a : Side) (k least : ℕ) → a ≡ further k → k < count → k < length marks → get_or marks k 0 ≡ 0 → least ≤ (at_cell cs k).number
      → Onward cs count Whatever 0 (record { marks = marks; on_stack = ks; side = a; least = least })
      (record { marks = set marks k 1; on_stack = k ∷ ks; side = (at_cell cs k).left; least = least })
  onward_enter marks ks a k least e c h z l = record {
    met = [];
    met_count = refl;
    kept = λ seen K. rw append-nil (kept_push marks seen ks k h z K);
    back = λ s seen last q w K p. rw e (enters {k = k} (omega arith) l (rw append-nil at p));
  }

  -- A leaf, and the cell on top of the stack meets its string: its right side is next.
  pub onward_meet : (marks ks : List ℕ) (a : Side) (x k least : ℕ) → a ≡ slot x
      → Onward cs count (StringAt x (at_cell cs k).number (at_cell cs k).digit) 1 (record { marks = marks; on_stack = k ∷ ks; side = a; least = least })
      (record { marks = marks; on_stack = ks; side = (at_cell cs k).right; least = (at_cell cs k).number })
  onward_meet marks ks a x k least e = record {
    met = k ∷ [];
    met_count = refl;
    kept = λ seen K. kept_pop marks seen ks k K;
    back = λ s seen last q w K p. rw e (leaves w.slot_is w.length_is w.digit_is (kept_new marks seen ks k K) p);
  }

side_further : (x : ℕ) → 32768 ≤ x → side_from x ≡ further (65536 - x)
unfolding side_from
side_further x h = rw (le-ltb x 32768 h)

-- What the turn of `entered` does.
module _ (marks cells : List ℕ) (count side top least k : ℕ) (R : Roomy marks cells (record { side = side; top = top; least = least }))
    (inside : k < count) (small : count ≤ 256) (new : get_or marks k 0 ≡ 0) where
  within : k < length marks
  within = omega (arith, R.marks_whole)

  pub marks_room : marked marks < 256
  marks_room = omega (arith, marked_more marks k within new, marked_most (set marks k 1), length-set marks k 1, R.marks_whole)

  pub marks_less : 256 - marked (set marks k 1) < 256 - marked marks
  marks_less = omega (arith, marked_more marks k within new, marks_room)

  pub entered_room : (byte left : ℕ) → left < 65536 → Roomy (set marks k 1) (set cells top byte) (record { side = left; top = top + 1; least = least })
  entered_room byte left l = record {
    marks_whole = length-set marks k 1 ∙ R.marks_whole;
    cells_whole = length-set cells top byte ∙ R.cells_whole;
    room = omega (arith, R.room, marked_more marks k within new);
    inside = omega arith;
  }

  pub entered_on : {cs : List Cell} {f : Standing} (byte left : ℕ) → 32768 ≤ side → k ≡ 65536 - side → byte ≡ k → least ≤ (at_cell cs k).number → side_from left ≡ (at_cell cs k).left
      → Onward cs count Whatever 0 f (standing marks cells (record { side = side; top = top; least = least }))
      → Onward cs count Whatever 0 f (standing (set marks k 1) (set cells top byte) (record { side = left; top = top + 1; least = least }))
  entered_on byte left h k_is e l q P =
      let push : stack (top + 1) (set cells top byte) ≡ k ∷ stack top cells = rw e (stack_push top cells k (omega (arith, R.room, marks_room, R.cells_whole))) in
      let side_is : side_from side ≡ further k = rw k_is (side_further side h) in
      rw (push, q) (onward_then 0 P (onward_enter marks (stack top cells) (side_from side) k least side_is inside within new l) refl (λ s d a. (tt, tt)))

-- What `string_met` does at a leaf.
module _ (marks cells : List ℕ) (leaf : Spot) where
  pub met_room : Roomy marks cells leaf → (number right : ℕ) → right < 65536 → Roomy marks cells (record { side = right; top = leaf.top - 1; least = number })
  met_room R number right h = record { marks_whole = R.marks_whole; cells_whole = R.cells_whole; room = omega (arith, R.room); inside = omega arith }

  pub top_room : Roomy marks cells leaf → (leaf.top ≡ 0 → ⊥) → leaf.top - 1 < 256
  top_room R t = omega (arith, R.room, marked_most marks, R.marks_whole, t)

  pub met_on : {cs : List Cell} {count : ℕ} {f : Standing} (x number digit k right : ℕ) → leaf.side ≡ x → x < 256 → (leaf.top ≡ 0 → ⊥)
      → k ≡ get_or cells (leaf.top - 1) 0 → (at_cell cs k).digit ≡ digit → (at_cell cs k).number ≡ number → side_from right ≡ (at_cell cs k).right
      → Onward cs count Whatever 0 f (standing marks cells leaf)
      → Onward cs count (StringAt x number digit) 1 f (standing marks cells (record { side = right; top = leaf.top - 1; least = number }))
  met_on {cs} {count} x number digit k right e h t k_is d n r P =
      let pop : stack leaf.top cells ≡ k ∷ stack (leaf.top - 1) cells = rw k_is (stack_pop leaf.top cells t) in
      let side_is : side_from leaf.side ≡ slot x = rw e (sym (side_slot x (omega arith))) in
      let Q = onward_meet {cs = cs} {count = count} marks (stack (leaf.top - 1) cells) (side_from leaf.side) x k leaf.least side_is in
      rw (← d, ← n, r) (onward_then 1 (rw pop at P) Q refl (λ s q a. (tt, rw add-zero a)))

-- What the turn of `bound_met` does.
module _ (x : List ℕ) (slot next len : ℕ) (some : 0 < len) (most : len ≤ length x) where
  pub left_next : next ≡ cond (eqb (len - 1) (length x)) slot next
  left_next = rw (ne_eqb (len - 1) (length x) (λ e. omega arith))

  pub bound_on : {cs : List Cell} {count : ℕ} {f g h : Standing} {left number digit : ℕ} → left ≡ cond (eqb len (length x)) slot next → number ≡ len - 1 → digit ≡ get_or x number 0
      → Onward cs count (BoundAt x len slot next) (length x - len) f g → Onward cs count (StringAt left number digit) 1 g h
      → Onward cs count (BoundAt x (len - 1) slot next) (length x - (len - 1)) f h
  bound_on {left = left} {number = number} {digit = digit} l n d P Q = onward_then (length x - (len - 1)) P Q (omega arith) split
    where
      split : (s : Strings) (d : ℕ) → BoundAt x (len - 1) slot next s d → BoundAt x len slot next s d × StringAt left number digit s (d + (length x - len))
      split s place a =
          let e : suc (len - 1) ≡ len = omega arith in
          (λ m i j. a m (omega arith) j, rw (l, d, n) (rw e at (a (len - 1) (omega arith) (omega arith))))

-- What an answer says, once it is known which it is.
module _ {image : List ℕ} {count : ℕ} {Asked : Strings → ℕ → Type 0} {n : ℕ} {marks cells : List ℕ} {p : Spot} {marks' cells' : List ℕ} where
  pub goes_to : {w : Maybe Spot} {q : Spot} → w ≡ Some q → Goes image count Asked n marks cells p marks' cells' w
      → Roomy marks' cells' q × Onward (trie_from image).cells count Asked n (standing marks cells p) (standing marks' cells' q)
  goes_to {w} {q} e h = here (subst (λ (x : Maybe Spot). Goes image count Asked n marks cells p marks' cells' x) e h)
    where
      here : Goes image count Asked n marks cells p marks' cells' (Some q) → Roomy marks' cells' q × Onward (trie_from image).cells count Asked n (standing marks cells p) (standing marks' cells' q)
      here (goes R P) = (R, P)
