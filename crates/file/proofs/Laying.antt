-- Slots laid out in order, one more at each step, from the last to the first.
use Rattle.model.proofs.Prelude.{List, Memᴰ, mem_append_cases, mem_cases_cons, mem_not_nil, mem_append_left, mem_append_right, Option, ◌*◌, ◌++◌, ◌+◌, ◌<◌, ◌^◌, ◌∙◌, ◌∷◌, ◌≡◌, ◌≤◌, ap, arith, cond, dec_lt, drop, drop-cons, drop_of_length-le, drop-set-lt, eqb, false, get_or, get_or-set_other, get_or-set_same, inl, inr, length, length-drop, length-replicate, length-set, nothing, refl, replicate, set, some, subst, suc, sym, take, take-append-drop, take-take, true, zero, zero-add, ℕ, ℕ_discrete}
use Rattle.model.specs.Order.{Low, Str}
use Rattle.model.specs.Entries.{Entry}
use Rattle.model.specs.Files.{IsUsed, Slot, Well, free, head, slot_at, used, well_free}
use Rattle.model.specs.Tries.{occ}
use Rattle.model.specs.Checks.{is_bad, is_well_formed}
use Rattle.model.specs.Format.{bytes_at_slot, read_slot, read_slots, read_used_slot, slot_size}
use Rattle.model.proofs.Tests.{never_both}
use Rattle.model.proofs.Lists.{at_replicate}
use Rattle.model.proofs.Cells.{occ_append, occ_mem, one_if_equal, one_if_not}
use Rattle.model.proofs.Checks.{check_bad, is_well_formed_well, well_is_well_formed}
use Rattle.model.proofs.Files.{cut_well}
use Rattle.model.proofs.Format.{read_slots_each}
use Rattle.digits.specs.Keys.{continued, is_all_zero, low_value, value}
use Rattle.bucket.specs.Slots.{OfSize}
use Rattle.bucket.proofs.Slots.{read_by_zero}
use Rattle.file.specs.declared.Size.{Size}
use Rattle.file.specs.Maps.{bit_of, map_of}
use Rattle.file.specs.Orders.{Known, Laid, Listed, Placed, Sorts, placed, stands}
use Rattle.file.specs.Surveys.{check_of_slots}
use Rattle.file.proofs.Moves.{put_back, put_front, put_here}
use Rattle.file.proofs.Comparing.{not_stands_sorts, stands_sorts}
use Rattle.file.proofs.Maps.{map_lt}
use Rattle.file.proofs.Verdicts.{check_none, check_slots, laid_known, laid_listed}

-- The map of slots, slot by slot.
map_next : (fs : List Slot) (k : ℕ) → k < length fs → map_of (drop k fs) ≡ 2 * map_of (drop (suc k) fs) + bit_of (slot_at fs k)
unfolding map_of
map_next fs k h = ap map_of (drop-cons fs k free h)

map_fits : (fs : List Slot) (k : ℕ) → length fs ≤ 64 → map_of (drop k fs) < 2 ^ 64
map_fits fs k h = map_lt 64 (drop k fs) (omega (arith, length-drop k fs))

-- Nothing is seen yet.
pub laid_start : (xs : List ℕ) (size : Size) → Laid xs size size.slots (replicate 64 0) 0 0
unfolding map_of
laid_start xs size = record {
  slots = replicate size.slots free;
  long = length-replicate size.slots free;
  before = λ B h. at_replicate free size.slots B;
  read = λ B h g. absurd (omega arith);
  well = λ B. rw (at_replicate free size.slots B) well_free;
  whole = length-replicate {A = ℕ} 64 0;
  once = λ B u. absurd (rw (at_replicate free size.slots B) at u);
  only = λ B m. absurd (mem_not_nil m);
  sorted = λ j h. absurd (omega arith);
  map = sym (ap map_of (drop_of_length-le (replicate size.slots free) {i = size.slots} (omega (arith, length-replicate {A = Slot} size.slots free))));
}

-- One slot more, of which the bytes are ys.
module _ {xs : List ℕ} {size : Size} {k : ℕ} {order : List ℕ} {count map : ℕ} (L : Laid xs size (suc k) order count map) (inside : k < size.slots) (most : size.slots ≤ 64)
    (ys : List ℕ) (is : ys ≡ bytes_at_slot size.layout k xs) (whole : OfSize ys size.layout) where
  k_free : slot_at L.slots k ≡ free
  k_free = L.before k (omega arith)

  k_inside : k < length L.slots
  k_inside = omega (arith, L.long)

  k_read : read_slot size.layout (bytes_at_slot size.layout k xs) ≡ cond (is_all_zero ys) (some free) (read_used_slot size.layout ys)
  unfolding slot_size
  k_read = ap (read_slot size.layout) (sym is) ∙ read_by_zero size.layout ys whole.0

  pub laid_free : is_all_zero ys ≡ true → (v : ℕ) → (2 * map + 0 < 2 ^ 64 → v ≡ 2 * map + 0) → Laid xs size k order count v
  laid_free z v f =
      let m : map_of (drop k L.slots) ≡ 2 * map_of (drop (suc k) L.slots) + bit_of (slot_at L.slots k) = map_next L.slots k k_inside in
      let n : bit_of (slot_at L.slots k) ≡ 0 = ap bit_of k_free in
      let i : map_of (drop k L.slots) ≡ 2 * map + 0 = omega (arith, L.map) in
      record {
        slots = L.slots;
        long = L.long;
        before = λ B h. L.before B (omega arith);
        read = λ B h g. elim (ℕ_discrete B k) [
          | yes e ↦ rw (e, k_free) (k_read ∙ rw z)
          | no n ↦ L.read B (omega arith) g
        ];
        well = L.well;
        whole = L.whole;
        once = L.once;
        only = L.only;
        sorted = L.sorted;
        map = f (omega (arith, map_fits L.slots k (omega (arith, L.long)))) ∙ sym i;
      }

  -- A used slot that is not well formed.
  module _ (z : is_all_zero ys ≡ false) (ill : (s : Slot) → read_used_slot size.layout ys ≡ some s → is_well_formed size.layout.b s ≡ false) where
    pub ill_slot : (fs : List Slot) → read_slots size.layout size.slots 0 xs ≡ some fs → Well size.layout.b (slot_at fs k) → ⊥
    ill_slot fs e w =
        let r : read_slot size.layout (bytes_at_slot size.layout k xs) ≡ some (slot_at fs k) = rw zero-add at (read_slots_each size.layout size.slots 0 k xs inside e) in
        let u : read_used_slot size.layout ys ≡ some (slot_at fs k) = sym (k_read ∙ rw z) ∙ r in
        never_both (is_well_formed size.layout.b (slot_at fs k)) (well_is_well_formed size.layout.b w) (ill (slot_at fs k) u)

    pub ill_said : is_bad ≡ check_of_slots size.layout size.slots xs
    ill_said = sym (go (read_slots size.layout size.slots 0 xs) refl)
      where
        go : (r : Option (List Slot)) → read_slots size.layout size.slots 0 xs ≡ r → check_of_slots size.layout size.slots xs ≡ is_bad
        go nothing e = check_none size.layout size.slots xs e
        go (some fs) e = check_slots size.layout size.slots xs fs e
            ∙ check_bad size.layout.b fs (λ S. ill_slot fs e (S.well k), λ N C. ill_slot fs e (cut_well size.layout.b C k))

  -- A used slot that is well formed.
  module _ (few : count < 64) {l : Low} {u : Str} {es : List Entry} (z : is_all_zero ys ≡ false) (r : read_used_slot size.layout ys ≡ some (used l u es)) (w : is_well_formed size.layout.b (used l u es) ≡ true)
      (hv lv : ℕ) (high : hv ≡ value (continued u)) (low : lv ≡ low_value l) (place : ℕ) (fits : place ≤ count)
      (P : (fs : List Slot) → Known size.layout xs fs → Listed fs order count → Placed fs order count hv lv place)
      (n : ℕ) (n_is : n ≡ k) (new : List ℕ) (long : length new ≡ 64) (q : take (count + 1) new ≡ take place order ++ (n ∷ drop place (take count order))) where
    k_well : Well size.layout.b (used l u es)
    k_well = is_well_formed_well size.layout.b (used l u es) w

    here : slot_at (set L.slots k (used l u es)) k ≡ used l u es
    here = get_or-set_same L.slots k (used l u es) free k_inside

    there : (B : ℕ) → (B ≡ k → ⊥) → slot_at (set L.slots k (used l u es)) B ≡ slot_at L.slots B
    there B d = get_or-set_other L.slots k B (used l u es) free d

    other : (B : ℕ) → IsUsed (head (slot_at L.slots B)) → B ≡ k → ⊥
    other B v e = rw (e, k_free) at v

    old : take place order ++ drop place (take count order) ≡ take count order
    old = ap (λ Xs. Xs ++ drop place (take count order)) (sym (take-take place count order fits)) ∙ take-append-drop place (take count order)

    -- listed once, and only the used ones
    occ_is : (B : ℕ) → occ B (take (count + 1) new) ≡ cond (eqb B n) 1 0 + occ B (take count order)
    occ_is B =
        let f : occ B (take (count + 1) new) ≡ occ B (take place order) + (cond (eqb B n) 1 0 + occ B (drop place (take count order))) =
        ap (occ B) q ∙ occ_append B (take place order) (n ∷ drop place (take count order)) in
        let g : occ B (take count order) ≡ occ B (take place order) + occ B (drop place (take count order)) =
        ap (occ B) (sym old) ∙ occ_append B (take place order) (drop place (take count order)) in
        omega arith

    once : (B : ℕ) → IsUsed (head (slot_at (set L.slots k (used l u es)) B)) → occ B (take (count + 1) new) ≡ 1
    once B v = elim (ℕ_discrete B k) [
      | yes e ↦ (
          let f = one_if_equal B n (e ∙ sym n_is) in
          let g : occ B (take count order) ≡ 0 = none_of B e in
          omega (arith, occ_is B))
      | no d ↦ (
          let f = one_if_not B n (λ e. d (e ∙ n_is)) in
          let g : occ B (take count order) ≡ 1 = L.once B (rw (there B d) at v) in
          omega (arith, occ_is B))
    ]
      where
        none_of : (B : ℕ) → B ≡ k → occ B (take count order) ≡ 0
        none_of B e = elim (ℕ_discrete (occ B (take count order)) 0) [
          | yes f ↦ f
          | no d ↦ absurd (other B (L.only B (occ_mem B (take count order) (omega arith))) e)
        ]

    only : (B : ℕ) → Memᴰ B (take (count + 1) new) → IsUsed (head (slot_at (set L.slots k (used l u es)) B))
    only B m = elim (mem_append_cases (take place order) (subst (λ Cs. Memᴰ B Cs) q m)) [
      | inl i ↦ was (subst (λ Cs. Memᴰ B Cs) old (mem_append_left (drop place (take count order)) i))
      | inr i ↦ elim (mem_cases_cons i) [
        | inl e ↦ rw (e ∙ n_is, here) tt
        | inr j ↦ was (subst (λ Cs. Memᴰ B Cs) old (mem_append_right (take place order) j))
      ]
    ]
      where
        was : Memᴰ B (take count order) → IsUsed (head (slot_at (set L.slots k (used l u es)) B))
        was i = let v = L.only B i in rw (there B (other B v)) v

    -- in order
    listed : Listed L.slots order count
    listed = laid_listed (omega arith) L

    P_is : Placed L.slots order count hv lv place
    P_is = P L.slots (laid_known (omega arith) L) listed

    kept : (j : ℕ) → j < count → placed (set L.slots k (used l u es)) order j ≡ placed L.slots order j
    kept j h = there (get_or order j 0) (other (get_or order j 0) (listed j h))

    new_front : (j : ℕ) → j < place → placed (set L.slots k (used l u es)) new j ≡ placed L.slots order j
    new_front j h = ap (slot_at (set L.slots k (used l u es))) (put_front order new count place n L.whole fits few q j h) ∙ kept j (omega arith)

    new_here : placed (set L.slots k (used l u es)) new place ≡ used l u es
    new_here = ap (slot_at (set L.slots k (used l u es))) (put_here order new count place n L.whole fits few q ∙ n_is) ∙ here

    new_back : (j : ℕ) → place ≤ j → j < count → placed (set L.slots k (used l u es)) new (suc j) ≡ placed L.slots order j
    new_back j h g = ap (slot_at (set L.slots k (used l u es))) (put_back order new count place n L.whole fits few q j h g) ∙ kept j g

    left_sorts : (t : Slot) → Well size.layout.b t → IsUsed (head t) → stands hv lv t ≡ false → Sorts t (used l u es)
    left_sorts free x v e = absurd v
    left_sorts (used m v ns) x t e = not_stands_sorts size.layout.b k_well x (rw (high, low) at e)

    right_sorts : (t : Slot) → Well size.layout.b t → IsUsed (head t) → stands hv lv t ≡ true → Sorts (used l u es) t
    right_sorts free x v e = absurd v
    right_sorts (used m v ns) x t e = stands_sorts size.layout.b k_well x (rw (high, low) at e)

    sorted : (j : ℕ) → suc j < count + 1 → Sorts (placed (set L.slots k (used l u es)) new j) (placed (set L.slots k (used l u es)) new (suc j))
    sorted j h = elim (ℕ_discrete (suc j) place) [
      | yes e ↦ subst (λ i. Sorts (placed (set L.slots k (used l u es)) new j) (placed (set L.slots k (used l u es)) new i)) (sym e)
          (rw (new_front j (omega arith), new_here) (left_sorts (placed L.slots order j) (L.well (get_or order j 0)) (listed j (omega arith)) (P_is.left j e)))
      | no d ↦ elim (dec_lt (suc j) place) [
        | yes g ↦ rw (new_front j (omega arith), new_front (suc j) g) (L.sorted j (omega arith))
        | no g ↦ behind j h d g
      ]
    ]
      where
        behind : (j : ℕ) → suc j < count + 1 → (suc j ≡ place → ⊥) → (suc j < place → ⊥)
            → Sorts (placed (set L.slots k (used l u es)) new j) (placed (set L.slots k (used l u es)) new (suc j))
        behind j h d g = elim (ℕ_discrete j place) [
          | yes e ↦ subst (λ i. Sorts (placed (set L.slots k (used l u es)) new i) (placed (set L.slots k (used l u es)) new (suc i))) (sym e)
              (rw (new_here, new_back place (omega arith) (omega arith))
              (right_sorts (placed L.slots order place) (L.well (get_or order place 0)) (listed place (omega arith)) (P_is.right (omega arith))))
          | no f ↦ later j h (omega arith)
        ]
          where
            later : (j : ℕ) → suc j < count + 1 → place < j → Sorts (placed (set L.slots k (used l u es)) new j) (placed (set L.slots k (used l u es)) new (suc j))
            later zero h g = absurd (omega arith)
            later (suc i) h g = rw (new_back i (omega arith) (omega arith), new_back (suc i) (omega arith) (omega arith)) (L.sorted i (omega arith))

    pub laid_used : (v : ℕ) → (2 * map + 1 < 2 ^ 64 → v ≡ 2 * map + 1) → Laid xs size k new (count + 1) v
    laid_used v f =
        let s : length (set L.slots k (used l u es)) ≡ size.slots = length-set L.slots k (used l u es) ∙ L.long in
        let m : map_of (drop k (set L.slots k (used l u es))) ≡ 2 * map_of (drop (suc k) (set L.slots k (used l u es))) + bit_of (slot_at (set L.slots k (used l u es)) k) =
        map_next (set L.slots k (used l u es)) k (omega arith) in
        let a : bit_of (slot_at (set L.slots k (used l u es)) k) ≡ 1 = ap bit_of here in
        let d : map_of (drop (suc k) (set L.slots k (used l u es))) ≡ map_of (drop (suc k) L.slots) = ap map_of (drop-set-lt (suc k) L.slots k (used l u es) (omega arith)) in
        let i : map_of (drop k (set L.slots k (used l u es))) ≡ 2 * map + 1 = omega (arith, L.map) in
        record {
          slots = set L.slots k (used l u es);
          long = s;
          before = λ B h. there B (λ e. omega arith) ∙ L.before B (omega arith);
          read = λ B h g. elim (ℕ_discrete B k) [
            | yes e ↦ rw (e, here) (k_read ∙ rw z r)
            | no c ↦ rw (there B c) (L.read B (omega arith) g)
          ];
          well = λ B. elim (ℕ_discrete B k) [
            | yes e ↦ rw (e, here) k_well
            | no c ↦ rw (there B c) (L.well B)
          ];
          whole = long;
          once = once;
          only = only;
          sorted = sorted;
          map = f (omega (arith, map_fits (set L.slots k (used l u es)) k (omega arith))) ∙ sym i;
        }
