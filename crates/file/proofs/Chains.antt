-- Slots in order, read one after the other: whether they follow on each other, and which neighbours have one upper bound.
use Rattle.model.proofs.Prelude.{Bool, List, Memᴰ, [], ◌+◌, ◌<◌, ◌∙◌, ◌∷◌, ◌≡◌, ◌≤◌, add-one, ap, arith, clash, drop, drop-cons, drop_of_length-le, eqb, eqb-false, eqb-true, false, get_or, get_or-take, length, length-take-le, subst, suc, sym, take, true, ℕ}
use Rattle.model.specs.declared.Layout.{Layout}
use Rattle.model.specs.Order.{Low, at, none}
use Rattle.model.specs.Names.{Bound, BoundLow, limit, unlimited}
use Rattle.model.specs.Files.{IsUsed, Slot, Well, free, head, lower_of, ranges, slot_at, upper_of, used}
use Rattle.model.proofs.Lists.{mem_place}
use Rattle.model.proofs.Strings.{mem_at}
use Rattle.model.proofs.Files.{well_parts}
use Rattle.model.proofs.Surveys.{Follows, From, Neighbours, chain_follows, follows_chain}
use Rattle.digits.specs.Keys.{continued, low_value, value}
use Rattle.file.specs.Orders.{Chained, Known, Listed, placed}
use Rattle.file.proofs.Comparing.{high_same, low_same}

-- What holds of any two places holds of any two neighbours.
module _ (R : ℕ → ℕ → Type 0) where
  from_places : (B : ℕ) (Bs : List ℕ) → ((j : ℕ) → suc j < length (B ∷ Bs) → R (get_or (B ∷ Bs) j 0) (get_or (B ∷ Bs) (suc j) 0)) → From R B Bs
  from_places B [] h = tt
  from_places B (C ∷ Bs) h = (h 0 (omega arith), from_places C Bs (λ j p. h (suc j) (omega arith)))

  pub neighbours_places : (Bs : List ℕ) → ((j : ℕ) → suc j < length Bs → R (get_or Bs j 0) (get_or Bs (suc j) 0)) → Neighbours R Bs
  neighbours_places [] h = tt
  neighbours_places (B ∷ Bs) h = from_places B Bs h

-- A listed slot is used, and the other way round.
module _ (fs : List Slot) (order : List ℕ) (count : ℕ) (short : count ≤ length order) where
  pub mem_listed : Listed fs order count → (B : ℕ) → Memᴰ B (take count order) → IsUsed (head (slot_at fs B))
  mem_listed L B m =
      let r = mem_place 0 (take count order) m in
      let h : r.0 < count = omega (arith, r.1, length-take-le count order short) in
      subst (λ C. IsUsed (head (slot_at fs C))) (sym (get_or-take count order r.0 0 h) ∙ r.2) (L r.0 h)

  pub listed_mem : ((B : ℕ) → Memᴰ B (take count order) → IsUsed (head (slot_at fs B))) → Listed fs order count
  listed_mem f j h =
      subst (λ C. IsUsed (head (slot_at fs C))) (get_or-take count order j 0 h)
      (f (get_or (take count order) j 0) (mem_at 0 (take count order) j (omega (arith, length-take-le count order short))))

upper_bound : (b : ℕ) {s : Slot} → Well b s → IsUsed (head s) → Bound (upper_of (head s))
upper_bound b {s = free} w k = absurd k
upper_bound b {s = used l u es} w k = (well_parts b w).1

lower_bound : (b : ℕ) {s : Slot} → Well b s → IsUsed (head s) → BoundLow (lower_of (head s))
lower_bound b {s = free} w k = absurd k
lower_bound b {s = used l u es} w k = (well_parts b w).0

-- The first j follow on each other, and v is where the last of them ends.
pub record Ended (fs : List Slot) (Bs : List ℕ) (j v : ℕ) : Type 0 where
  pub low : Low
  pub bound : BoundLow low
  pub is : v ≡ low_value low
  pub onward : Follows (ranges fs) none Bs → Follows (ranges fs) low (drop j Bs)
  pub back : Follows (ranges fs) low (drop j Bs) → Follows (ranges fs) none Bs

pub ended_start : (fs : List Slot) (Bs : List ℕ) (v : ℕ) → v ≡ 0 → Ended fs Bs 0 v
unfolding low_value
ended_start fs Bs v e = record { low = none; bound = unlimited; is = e; onward = λ h. h; back = λ h. h }

module _ {y : Layout} {xs : List ℕ} {fs : List Slot} (K : Known y xs fs) (order : List ℕ) (count : ℕ) (short : count ≤ length order) (L : Listed fs order count) where
  next_is : (j : ℕ) → j < count → drop j (take count order) ≡ get_or order j 0 ∷ drop (j + 1) (take count order)
  next_is j h =
      drop-cons (take count order) j 0 (omega (arith, length-take-le count order short))
      ∙ rw (add-one, get_or-take count order j 0 h)

  module _ (j v : ℕ) (E : Ended fs (take count order) j v) where
    module _ (h : j < count) (lv : ℕ) (f : lv ≡ low_value (lower_of (head (placed fs order j)))) (r : Bool) (e : r ≡ eqb lv v) where
      pub ended_next : r ≡ true → (hv : ℕ) → hv ≡ value (continued (upper_of (head (placed fs order j)))) → Ended fs (take count order) (j + 1) hv
      unfolding low_value
      ended_next t hv g =
          let q : lower_of (head (placed fs order j)) ≡ E.low =
          low_same (lower_bound y.b (K.well (get_or order j 0)) (L j h)) E.bound (sym f ∙ eqb-true lv v (sym e ∙ t) ∙ E.is) in
          record {
            low = at (upper_of (head (placed fs order j)));
            bound = limit (upper_bound y.b (K.well (get_or order j 0)) (L j h));
            is = g;
            onward = λ k. (subst (λ Cs. Follows (ranges fs) E.low Cs) (next_is j h) (E.onward k)).1;
            back = λ k. E.back (subst (λ Cs. Follows (ranges fs) E.low Cs) (sym (next_is j h)) (q, k));
          }

      pub ended_stop : r ≡ false → Chained false (ranges fs) (take count order)
      ended_stop t = record {
        chained = λ z. clash cc;
        refused = λ z c. eqb-false lv v (sym e ∙ t) (f ∙ ap low_value (subst (λ Cs. Follows (ranges fs) E.low Cs) (next_is j h) (E.onward (chain_follows (ranges fs) (take count order) c))).0 ∙ sym E.is);
      }

    pub ended_end : count ≤ j → (r : Bool) (w : ℕ) → r ≡ eqb v w → w ≡ value (continued []) → Chained r (ranges fs) (take count order)
    unfolding low_value
    ended_end h r w e f =
        let n : drop j (take count order) ≡ [] = drop_of_length-le (take count order) {i = j} (omega (arith, length-take-le count order short)) in
        record {
          chained = λ t. follows_chain y.b fs K.well (take count order) (mem_listed fs order count short L)
              (E.back (subst (λ Cs. Follows (ranges fs) E.low Cs) (sym n) (low_same E.bound (limit (record { fits = omega arith; digits = tt })) (sym E.is ∙ eqb-true v w (sym e ∙ t) ∙ f))));
          refused = λ t c.
              (let g : E.low ≡ at [] = subst (λ Cs. Follows (ranges fs) E.low Cs) n (E.onward (chain_follows (ranges fs) (take count order) c)) in
              eqb-false v w (sym e ∙ t) (E.is ∙ ap low_value g ∙ sym f));
        }

  -- Two places whose high ends are compared.
  module _ (i j : ℕ) (h : i < count) (k : j < count) (p q : ℕ) (e : p ≡ value (continued (upper_of (head (placed fs order i))))) (f : q ≡ value (continued (upper_of (head (placed fs order j)))))
      (r : Bool) (g : r ≡ eqb p q) where
    pub same_upper : r ≡ true → upper_of (head (placed fs order i)) ≡ upper_of (head (placed fs order j))
    same_upper t = high_same (upper_bound y.b (K.well (get_or order i 0)) (L i h)) (upper_bound y.b (K.well (get_or order j 0)) (L j k)) (sym e ∙ eqb-true p q (sym g ∙ t) ∙ f)

    pub other_upper : r ≡ false → upper_of (head (placed fs order i)) ≡ upper_of (head (placed fs order j)) → ⊥
    other_upper t d = eqb-false p q (sym g ∙ t) (e ∙ ap (λ u. value (continued u)) d ∙ sym f)
