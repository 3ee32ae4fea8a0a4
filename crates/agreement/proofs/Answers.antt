-- Each answer of `agreement_of` decides agreement.
use Rattle.std.specs.Bool.{then_some}
use Rattle.std.specs.Prelude.{Option, None, Some}
use Rattle.model.proofs.Prelude.{Bool, List, [], ◌<◌, ◌∙◌, ◌≡◌, ◌≤◌, arith, clash, drop, eq-eqb, eqb, eqb-true, false, get_or, length, refl, subst, sym, true, ℕ}
use Rattle.model.specs.declared.Side.{Side}
use Rattle.model.specs.declared.Side.TheVariants.{Cell as further, Slot as slot}
use Rattle.model.specs.declared.Trie.{Trie}
use Rattle.model.specs.Tries.{root_side}
use Rattle.model.specs.Agreeing.{are_zero_cells}
use Rattle.model.proofs.Agreeing.{agrees_is_agreeing, past_zeros}
use Rattle.model.proofs.GrownTries.{root_further}
use Rattle.trie.specs.declared.Strings.{Strings}
use Rattle.agreement.specs.Decides.{Decides}
use Rattle.agreement.specs.Passes.{Passed, ends}
use Rattle.agreement.proofs.States.{at_leaf}
use Rattle.agreement.proofs.Laws.{Passing, agreed_count, agreed_passing, agreed_same, passing_agrees, passing_placed, refused}

root_slot : (count first : ℕ) → count ≡ 0 → slot first ≡ root_side count first
root_slot count first e = rw e

-- More than 256 strings are no trie's.
pub not_many : (t : Trie) → Decides t None None
not_many t b fs S many = refused b S t (λ A. omega (arith, agreed_count b S t A, A.few))

module _ (t : Trie) (s : Strings) where
  -- The answer is no.
  pub not_count : (t.count ≡ s.count → ⊥) → Decides t (Some s) None
  not_count n b fs S H = refused b S t (λ A. n (agreed_same b S t H A))

  pub not_clear : are_zero_cells (drop s.count t.cells) ≡ false → Decides t (Some s) None
  not_clear e b fs S H = refused b S t λ A.
      let q : are_zero_cells (drop s.count t.cells) ≡ true = rw (agreed_same b S t H A) at (past_zeros t.count t.cells A.past) in
      clash cc

  pub not_first : 0 < s.count → (t.first ≡ 0 → ⊥) → Decides t (Some s) None
  not_first h n b fs S H = refused b S t (λ A. n (A.first_leaf (omega (arith, agreed_same b S t H A))))

  -- The answer is the pass's.
  module _ (full : length t.cells ≡ 256) (small : s.count ≤ 256) (e : t.count ≡ s.count)
      (clear : are_zero_cells (drop s.count t.cells) ≡ true) where
    passed : (r : Option (List ℕ)) → (0 < t.count → t.first ≡ 0) → Passed t.cells s (root_side t.count t.first) r → Decides t (Some s) r
    passed (Some places) first M b fs S H =
        let met : Passing t.cells s (root_side t.count t.first) = record { order = M.order; passes = M.passes } in
        (agrees_is_agreeing b S (passing_agrees b S t H full small e clear first met), passing_placed b S t H full small e clear first met places M.place_is)
    passed None first N b fs S H = refused b S t (λ A. let x = agreed_passing b S t H A in N x.order x.passes)

    pub by_pass : (r : Option (List ℕ)) → (s.count ≡ 0 → ⊥) → t.first ≡ 0 → Passed t.cells s (further 0) r → Decides t (Some s) r
    by_pass r n f P =
        passed r (λ h. f) (subst (λ (a : Side). Passed t.cells s a r) (root_further t.count t.first (λ z. n (omega arith))) P)

    pub by_leaf : (r : Option (List ℕ)) {first other : ℕ} (places : List ℕ) → r ≡ then_some (eqb first other) places → s.count ≡ 0
        → first ≡ t.first → other ≡ get_or s.slots 0 0 → Decides t (Some s) r
    by_leaf r {first} {other} places f z ef eo =
        passed r (λ h. absurd (omega arith)) (subst (λ (a : Side). Passed t.cells s a r) (root_slot t.count t.first (omega arith))
        (subst (λ (r : Option (List ℕ)). Passed t.cells s (slot t.first) r) (sym f) (go (eqb first other) refl)))
      where
        go : (q : Bool) → eqb first other ≡ q → Passed t.cells s (slot t.first) (then_some q places)
        go true q =
            let h : t.first ≡ get_or s.slots 0 0 = sym ef ∙ eqb-true first other q ∙ eo in
            record { order = []; passes = ends h (sym z); place_is = λ j i. absurd (omega arith) }
        go false q = λ order p.
            let y : eqb first other ≡ true = eq-eqb first other (ef ∙ at_leaf p ∙ sym eo) in
            clash cc
