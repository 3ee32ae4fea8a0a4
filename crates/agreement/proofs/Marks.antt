-- The places of the cells that have met their strings, and the stack of those that have not.
use Rattle.model.proofs.Prelude.{Bool, List, get_or_append, [], ◌++◌, ◌+◌, ◌-◌, ◌<◌, ◌∙◌, ◌∷◌, ◌≡◌, ◌≤◌, add-one, arith, cond, dec_lt, eqb, eqb-true, false, get_or, get_or-append_seam, get_or-replicate, get_or-set_other, get_or-set_same, length, length-append, length-replicate, length-set, refl, replicate, set, suc, sym, true, zero, ℕ, ℕ_discrete}
use Rattle.model.specs.Tries.{occ}
use Rattle.model.proofs.Cells.{occ_append, one_if_equal}
use Rattle.agreement.specs.Passes.{stack}

-- A number that stands in a list stands at a place.
pub record Stands (k : ℕ) (vs : List ℕ) : Type 0 where
  pub place : ℕ
  pub inside : place < length vs
  pub is : get_or vs place 0 ≡ k

occ_stands : (k : ℕ) (vs : List ℕ) → 0 < occ k vs → Stands k vs
occ_stands k [] h = absurd (omega arith)
occ_stands k (v ∷ vs) h = go (eqb k v) refl h (occ_stands k vs)
  where
    go : (t : Bool) → eqb k v ≡ t → 0 < cond t 1 0 + occ k vs → (0 < occ k vs → Stands k vs) → Stands k (v ∷ vs)
    go true e h f = record { place = 0; inside = omega arith; is = sym (eqb-true k v e) }
    go false e h f = let r = f (omega arith) in record { place = suc r.place; inside = omega (arith, r.inside); is = r.is }

stands_occ : (vs : List ℕ) (j : ℕ) → j < length vs → 0 < occ (get_or vs j 0) vs
stands_occ [] j h = absurd (omega arith)
stands_occ (v ∷ vs) zero h = omega (arith, one_if_equal v v refl)
stands_occ (v ∷ vs) (suc j) h = omega (arith, stands_occ vs j (omega arith))

-- The array has, under each number of the list, its place there, and 256 under each other number.
pub record Marks (seen places : List ℕ) : Type 0 where
  pub whole : length places ≡ 256
  pub unseen : (k : ℕ) → k < 256 → occ k seen ≡ 0 → get_or places k 0 ≡ 256
  pub place_is : (j : ℕ) → j < length seen → get_or places (get_or seen j 0) 0 ≡ j

pub marks_none : Marks [] (replicate {A = ℕ} 256 256)
marks_none = record {
  whole = length-replicate {A = ℕ} 256 256;
  unseen = λ k h o. get_or-replicate {A = ℕ} 256 k 256 0 h;
  place_is = λ j h. absurd (omega arith);
}

module _ {seen places : List ℕ} (M : Marks seen places) (k : ℕ) where
  pub marks_unseen : length seen ≤ 256 → get_or places k 0 ≡ 256 → occ k seen ≡ 0
  marks_unseen h e = elim (ℕ_discrete (occ k seen) 0) [
    | yes o ↦ o
    | no o ↦
        let r : Stands k seen = occ_stands k seen (omega arith) in
        let p : get_or places k 0 ≡ r.place = rw r.is at (M.place_is r.place r.inside) in
        absurd (omega (arith, r.inside))
  ]

  pub marks_next : (d : ℕ) → k < 256 → occ k seen ≡ 0 → length seen ≡ d → Marks (seen ++ (k ∷ [])) (set places k d)
  marks_next d h o e = record { whole = length-set places k d ∙ M.whole; unseen = unseen; place_is = λ j i. place j i (dec_lt j (length seen)) }
    where
      unseen : (i : ℕ) → i < 256 → occ i (seen ++ (k ∷ [])) ≡ 0 → get_or (set places k d) i 0 ≡ 256
      unseen i l z =
          get_or-set_other places k i d 0 (λ q. omega (arith, occ_append i seen (k ∷ []), one_if_equal i k q))
          ∙ M.unseen i l (omega (arith, occ_append i seen (k ∷ [])))

      place : (j : ℕ) → j < length (seen ++ (k ∷ [])) → Dec (j < length seen) → get_or (set places k d) (get_or (seen ++ (k ∷ [])) j 0) 0 ≡ j
      place j i (yes l) =
          let other : ¬ (get_or seen j 0 ≡ k) = λ q.
          let n : 0 < occ k seen = rw q at (stands_occ seen j l) in
          omega arith in
          rw (get_or_append seen (k ∷ []) 0 j l) (get_or-set_other places k (get_or seen j 0) d 0 other ∙ M.place_is j l)
      place j i (no l) =
          let q : j ≡ length seen = omega (arith, length-append seen (k ∷ [])) in
          rw (q, get_or-append_seam seen k [] 0) (get_or-set_same places k d 0 (omega (arith, M.whole)) ∙ sym e)

stack_set : (t j : ℕ) (ks : List ℕ) (k : ℕ) → t ≤ j → stack t (set ks j k) ≡ stack t ks
unfolding stack
stack_set zero j ks k h = refl
stack_set (suc t) j ks k h = rw (get_or-set_other ks j t k 0 (λ e. omega arith), stack_set t j ks k (omega arith))

pub stack_push : (t : ℕ) (ks : List ℕ) (k : ℕ) → t < length ks → stack (t + 1) (set ks t k) ≡ k ∷ stack t ks
unfolding stack
stack_push t ks k h = rw (add-one t, get_or-set_same ks t k 0 h, stack_set t t ks k (omega arith))

pub stack_none : (t : ℕ) (ks : List ℕ) → t ≡ 0 → stack t ks ≡ []
unfolding stack
stack_none t ks e = rw e

pub stack_pop : (t : ℕ) (ks : List ℕ) → (t ≡ 0 → ⊥) → stack t ks ≡ get_or ks (t - 1) 0 ∷ stack (t - 1) ks
unfolding stack
stack_pop zero ks h = absurd (h refl)
stack_pop (suc t) ks h = let e : suc t - 1 ≡ t = omega arith in rw e

pub length_stack : (t : ℕ) (ks : List ℕ) → length (stack t ks) ≡ t
unfolding stack
length_stack zero ks = refl
length_stack (suc t) ks = omega (arith, length_stack t ks)
