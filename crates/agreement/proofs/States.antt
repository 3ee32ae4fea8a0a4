-- The loop of the pass: what holds before each turn, at the start, from one turn to the next, and at each end.
use Rattle.std.specs.Bool.{then_some}
use Rattle.std.specs.Prelude.{Option}
use Rattle.model.proofs.Prelude.{Bool, List, [], ◌++◌, ◌+◌, ◌-◌, ◌<◌, ◌∙◌, ◌∷◌, ◌≡◌, ◌≤◌, arith, clash, eq-eqb, eqb, eqb-true, false, get_or, length, length-append, length-replicate, length-set, refl, replicate, set, subst, suc, sym, true, ℕ}
use Rattle.model.specs.declared.Cell.{Cell}
use Rattle.model.specs.declared.Side.{Side}
use Rattle.model.specs.declared.Side.TheVariants.{Cell as further, Slot as slot}
use Rattle.model.specs.Tries.{at_cell, occ}
use Rattle.trie.specs.declared.Strings.{Strings}
use Rattle.agreement.specs.Passes.{Passed, Passes, ends, enters, leaves, stack}
use Rattle.agreement.proofs.Marks.{Marks, length_stack, marks_next, marks_none, marks_unseen, stack_none, stack_pop, stack_push}

-- What a rule of the pass asked.
module _ {cs : List Cell} {s : Strings} where
  pub at_leaf : {ks : List ℕ} {x least : ℕ} {seen last : List ℕ} → Passes cs s ks (slot x) least seen last → x ≡ get_or s.slots (length seen) 0
  at_leaf (ends e h) = e
  at_leaf (leaves e n d o p) = e

  at_end : {x least : ℕ} {seen last : List ℕ} → Passes cs s [] (slot x) least seen last → length seen ≡ s.count
  at_end (ends e h) = h

  at_top : {k : ℕ} {ks : List ℕ} {x least : ℕ} {seen last : List ℕ} → Passes cs s (k ∷ ks) (slot x) least seen last
      → (suc (at_cell cs k).number ≡ get_or s.lens (length seen) 0)
      × ((at_cell cs k).digit ≡ get_or s.digits (length seen) 0)
      × (occ k seen ≡ 0)
      × Passes cs s ks (at_cell cs k).right (at_cell cs k).number (seen ++ (k ∷ [])) last
  at_top (leaves e n d o p) = (n, d, o, p)

  at_further : {k least : ℕ} {ks : List ℕ} {seen last : List ℕ} → Passes cs s ks (further k) least seen last
      → (k < s.count) × (least ≤ (at_cell cs k).number) × Passes cs s (k ∷ ks) (at_cell cs k).left least seen last
  at_further (enters h l p) = (h, l, p)

  -- Each cell on the stack has its string still to come, and so has a cell that is entered.
  strings_left : {ks : List ℕ} {a : Side} {least : ℕ} {seen last : List ℕ} → Passes cs s ks a least seen last → length seen + length ks ≤ s.count
  strings_left (ends e h) = omega arith
  strings_left (leaves {k = k} {seen = seen} e n d o p) = omega (arith, strings_left p, length-append seen (k ∷ []))
  strings_left (enters h l p) = omega (arith, strings_left p)

  room_left : {k least : ℕ} {ks : List ℕ} {seen last : List ℕ} → Passes cs s ks (further k) least seen last → length seen + length ks < s.count
  room_left (enters h l p) = omega (arith, strings_left p)

-- Before a turn: the pass from here on ends as the whole does.
pub record State (cs : List Cell) (s : Strings) (a : Side) (places cells : List ℕ) (top entered done least : ℕ) (place : Side) : Type 0 where
  pub seen : List ℕ
  pub done_is : length seen ≡ done
  pub entered_is : done + top ≡ entered
  pub few : entered ≤ s.count
  pub room : s.count ≤ 256
  pub rooms : length cells ≡ 256
  pub marks : Marks seen places
  pub onward : (last : List ℕ) → Passes cs s [] a 0 [] last → Passes cs s (stack top cells) place least seen last
  pub back : (last : List ℕ) → Passes cs s (stack top cells) place least seen last → Passes cs s [] a 0 [] last

module _ (cs : List Cell) (s : Strings) (a : Side) where
  -- There is no such pass.
  abbrev pub Never : Type 0
  Never = (last : List ℕ) → Passes cs s [] a 0 [] last → ⊥

  pub started : s.count ≤ 256 → State cs s a (replicate {A = ℕ} 256 256) (replicate {A = ℕ} 256 0) 0 0 0 0 a
  unfolding stack
  started h = record {
    seen = [];
    done_is = refl;
    entered_is = omega arith;
    few = omega arith;
    room = h;
    rooms = length-replicate {A = ℕ} 256 0;
    marks = marks_none;
    onward = λ last p. p;
    back = λ last p. p;
  }

module _ {cs : List Cell} {s : Strings} {a : Side} {places cells : List ℕ} {top entered done least : ℕ} {place : Side}
    (S : State cs s a places cells top entered done least place) where
  -- At a leaf.
  module _ {x : ℕ} (e : place ≡ slot x) where
    leaf_now : (last : List ℕ) → Passes cs s [] a 0 [] last → Passes cs s (stack top cells) (slot x) least S.seen last
    leaf_now last p = subst (λ (y : Side). Passes cs s (stack top cells) y least S.seen last) e (S.onward last p)

    pub not_leaf : (x ≡ get_or s.slots done 0 → ⊥) → Never cs s a
    not_leaf h last p = h (rw S.done_is at (at_leaf (leaf_now last p)))

    pub ended : {r : Option (List ℕ)} → r ≡ then_some (eqb done s.count) places → top ≡ 0 → x ≡ get_or s.slots done 0 → Passed cs s a r
    ended {r} f z h = subst (λ (r : Option (List ℕ)). Passed cs s a r) (sym f) (go (eqb done s.count) refl)
      where
        last_leaf : done ≡ s.count → Passes cs s (stack top cells) place least S.seen S.seen
        last_leaf q =
            let h' : x ≡ get_or s.slots (length S.seen) 0 = rw S.done_is h in
            rw (e, stack_none top cells z) (ends h' (S.done_is ∙ q))

        go : (q : Bool) → eqb done s.count ≡ q → Passed cs s a (then_some q places)
        go true q = record { order = S.seen; passes = S.back S.seen (last_leaf (eqb-true done s.count q)); place_is = S.marks.place_is }
        go false q = λ order p.
            let y : eqb done s.count ≡ true = eq-eqb done s.count (sym S.done_is ∙ at_end (rw (stack_none top cells z) at (leaf_now order p))) in
            clash cc

    -- The cell on top of the stack.
    module _ (p : top ≡ 0 → ⊥) where
      top_now : (last : List ℕ) → Passes cs s [] a 0 [] last → Passes cs s (get_or cells (top - 1) 0 ∷ stack (top - 1) cells) (slot x) least S.seen last
      top_now last q = subst (λ (ks : List ℕ). Passes cs s ks (slot x) least S.seen last) (stack_pop top cells p) (leaf_now last q)

      module _ {k : ℕ} (i : k ≡ get_or cells (top - 1) 0) where
        pub not_new : k < 256 → (get_or places k 0 ≡ 256 → ⊥) → Never cs s a
        not_new l h last q = h (S.marks.unseen k l (rw i (at_top (top_now last q)).2))

        module _ {c : Cell} (w : c ≡ at_cell cs k) where
          pub not-length : (suc c.number ≡ get_or s.lens done 0 → ⊥) → Never cs s a
          not-length h last q = h (rw (w, i, ← S.done_is) (at_top (top_now last q)).0)

          pub not_digit : (c.digit ≡ get_or s.digits done 0 → ⊥) → Never cs s a
          not_digit h last q = h (rw (w, i, ← S.done_is) (at_top (top_now last q)).1)

          -- It has met its string, and its right part is next.
          pub left : k < 256 → x ≡ get_or s.slots done 0 → suc c.number ≡ get_or s.lens done 0
              → c.digit ≡ get_or s.digits done 0 → get_or places k 0 ≡ 256
              → State cs s a (set places k done) cells (top - 1) entered (done + 1) c.number c.right
          left l h n d m =
              let o : occ k S.seen ≡ 0 = marks_unseen S.marks k (omega (arith, S.done_is, S.entered_is, S.few, S.room)) m in
              let h' : x ≡ get_or s.slots (length S.seen) 0 = rw S.done_is h in
              let n' : suc (at_cell cs (get_or cells (top - 1) 0)).number ≡ get_or s.lens (length S.seen) 0 = rw (S.done_is, ← i, ← w) n in
              let d' : (at_cell cs (get_or cells (top - 1) 0)).digit ≡ get_or s.digits (length S.seen) 0 = rw (S.done_is, ← i, ← w) d in
              let o' : occ (get_or cells (top - 1) 0) S.seen ≡ 0 = rw (← i) o in
              record {
                seen = S.seen ++ (k ∷ []);
                done_is = length-append S.seen (k ∷ []) ∙ rw S.done_is;
                entered_is = omega (arith, S.entered_is, p);
                few = S.few;
                room = S.room;
                rooms = S.rooms;
                marks = marks_next S.marks k done l o S.done_is;
                onward = λ last q. rw (w, i) (at_top (top_now last q)).3;
                back = λ last q. S.back last (rw (e, stack_pop top cells p) (leaves h' n' d' o' (rw (w, i) at q)));
              }

  -- At a cell.
  module _ {k : ℕ} (e : place ≡ further k) where
    cell_now : (last : List ℕ) → Passes cs s [] a 0 [] last → Passes cs s (stack top cells) (further k) least S.seen last
    cell_now last p = subst (λ (y : Side). Passes cs s (stack top cells) y least S.seen last) e (S.onward last p)

    pub no_room : s.count ≤ entered → Never cs s a
    no_room h last p = omega (arith, room_left (cell_now last p), length_stack top cells, S.done_is, S.entered_is)

    pub not_below : s.count ≤ k → Never cs s a
    not_below h last p = omega (arith, (at_further (cell_now last p)).0)

    module _ {j : ℕ} (i : j ≡ k) {c : Cell} (w : c ≡ at_cell cs j) where
      pub not_least : c.number < least → Never cs s a
      not_least h last p = let l : (at_cell cs k).number < least = rw (w, i) at h in omega (arith, (at_further (cell_now last p)).1)

      -- Its left part is next.
      pub entered_at : entered < s.count → j < s.count → least ≤ c.number
          → State cs s a places (set cells top j) (top + 1) (entered + 1) done least c.left
      entered_at r h l =
          let inside : top < length cells = omega (arith, S.entered_is, S.room, S.rooms) in
          let h' : k < s.count = rw i at h in
          let l' : least ≤ (at_cell cs k).number = rw (w, i) at l in
          record {
            seen = S.seen;
            done_is = S.done_is;
            entered_is = omega (arith, S.entered_is);
            few = omega arith;
            room = S.room;
            rooms = length-set cells top j ∙ S.rooms;
            marks = S.marks;
            onward = λ last q. rw (stack_push top cells j inside, w, i) (at_further (cell_now last q)).2;
            back = λ last q. S.back last (rw e (enters h' l' (rw (stack_push top cells j inside, w, i) at q)));
          }
