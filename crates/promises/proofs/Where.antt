-- Where a name left the range: what demand 1 says of a refusal 4, of any calls.
use Rattle.model.proofs.Prelude.{Bool, List, Option, [], ◌<◌, ◌∙◌, ◌∷◌, ◌≡◌, ◌≤◌, ◌⊎◌, arith, clash, false, inl, inr, nothing, refl, some, sym, true, ℕ}
use Rattle.model.specs.declared.Cause.TheVariants.{StaleTrie}
use Rattle.model.specs.declared.Trie.{Trie}
use Rattle.model.specs.Tests.{is_legal_name}
use Rattle.model.specs.Names.{filled}
use Rattle.model.specs.Files.{free}
use Rattle.model.specs.Tries.{root}
use Rattle.model.specs.Format.{bytes_at_slot, is_right_header, layout_of, read_slot}
use Rattle.model.proofs.Tests.{never_both}
use Rattle.model.proofs.Names.{length_filled}
use Rattle.promises.specs.Calls.{Calls, our_calls}
use Rattle.promises.specs.Demand1.{Demand1, Ends, FirstHolding, IsMalformed, IsZero, LegalName, Lost, RightHeader, Table, because, create_table, list_table, look_up_table, off_at, put_table, rebuild_table, recover_table, remove_table, slots_of}
use Rattle.promises.specs.Where.{LeftRange, Where}
use Rattle.promises.proofs.Differing.{breaks_fits, one_bound, one_number}
use Rattle.promises.proofs.Demand1.{at_end, demand_1, ended, header_right, illegal, legal_name, right_header, zero_free}
use Rattle.promises.proofs.Walking.{arrives_walked, strays_walked}

-- A table without digit numbers, where this is so of each number that one of its causes carries.
abbrev Bare : (ℕ → Type 0) → Table → Type 0
Bare Q [] = Unit {0}
Bare Q (because c P ∷ rs) = ((k : ℕ) → c ≡ StaleTrie k → Q k) × Bare Q rs
Bare Q (off_at P ∷ rs) = ⊥

bare_first : (Q : ℕ → Type 0) (rs : Table) → Bare Q rs → (k : ℕ) → FirstHolding (StaleTrie k) rs → Q k
bare_first Q [] b k f = absurd f
bare_first Q (because c P ∷ rs) b k (inl g) = b.0 k g.0
bare_first Q (because c P ∷ rs) b k (inr p) = bare_first Q rs b.1 k p.1
bare_first Q (off_at P ∷ rs) b k f = absurd b

abbrev Is255 : ℕ → Type 0
Is255 k = k ≡ 255

carries : (k : ℕ) → StaleTrie 255 ≡ StaleTrie k → Is255 k
carries k e = cc

-- Look up's first cause, where it is a stale trie.
module _ (xs : List ℕ) (t : Trie) (name : List ℕ) where
  surely_legal : ¬ (¬ LegalName name) → LegalName name
  surely_legal n = go (is_legal_name name) refl
    where
      go : (c : Bool) → is_legal_name name ≡ c → LegalName name
      go true e = legal_name name e
      go false e = absurd (n (illegal name e))

  surely_headed : ¬ (¬ RightHeader xs) → RightHeader xs
  surely_headed n = go (is_right_header (layout_of xs) (slots_of xs) xs) refl
    where
      go : (c : Bool) → is_right_header (layout_of xs) (slots_of xs) xs ≡ c → RightHeader xs
      go true e = right_header xs e
      go false e = absurd (n (λ R. never_both (is_right_header (layout_of xs) (slots_of xs) xs) (header_right R) e))

  first_left : (k : ℕ) → FirstHolding (StaleTrie k) (look_up_table xs t name) → (k ≡ 255) ⊎ LeftRange xs t name k
  first_left k (inl g) = let z = g.0 in clash cc
  first_left k (inr (a, inl g)) = let z = g.0 in clash cc
  first_left k (inr (a, inr (b, inl g))) = inl (carries k g.0)
  first_left k (inr (a, inr (b, inr (c, inl g)))) = inl (carries k g.0)
  first_left k (inr (a, inr (b, inr (c, inr (d, inl g))))) = let z = g.0 in clash cc
  first_left k (inr (a, inr (b, inr (c, inr (d, inr (e, inl (j, q, E))))))) =
      let s : j ≡ k = cc in
      inr (record { legal = surely_legal a; header = surely_headed b; few = absurd_few (λ h. c (inl h)); ends = rw s at E })
    where
      absurd_few : ¬ (256 < t.count) → t.count ≤ 256
      absurd_few n = omega arith
  first_left k (inr (a, inr (b, inr (c, inr (d, inr (e, inr f)))))) = absurd f.1

  left_first : (k : ℕ) → LeftRange xs t name k → FirstHolding (StaleTrie k) (look_up_table xs t name)
  left_first k L =
      inr (λ n. n L.legal, inr (λ n. n L.header, inr (found, inr (taken, inr (formed, inl (k, refl, L.ends))))))
    where
      arrived : ended xs t name ≡ some L.ends.k
      arrived = arrives_walked (slots_of xs) t (filled name) (length_filled name) L.ends.arrives root

      found : Lost xs t (filled name) → ⊥
      found (inl h) = absurd (omega (arith, h, L.few))
      found (inr w) =
          let o : ◌≡◌ {A = Option ℕ} nothing (some L.ends.k) = sym (strays_walked (slots_of xs) t (filled name) (length_filled name) w root) ∙ arrived in
          clash cc

      taken : Ends xs t (filled name) (IsZero (layout_of xs)) → ⊥
      taken E =
          let f : read_slot (layout_of xs) (bytes_at_slot (layout_of xs) L.ends.k xs) ≡ some free = zero_free xs t name (layout_of xs) _ (at_end xs t name arrived E) in
          let g = L.ends.so.is in
          clash cc

      formed : Ends xs t (filled name) (IsMalformed (layout_of xs)) → ⊥
      formed E = at_end xs t name arrived E _ L.ends.so.is L.ends.so.well

  left_fits : (k : ℕ) → LeftRange xs t name k → k ≤ 24
  left_fits k L = breaks_fits (layout_of xs).b L.ends.so.well L.ends.so.breaks

-- Calls that meet demand 1 say where.
pub says_where : (C : Calls) → Demand1 C → Where C
says_where C D = record {
  look_up = λ xs t name k. (
    λ r. small xs t name k (first_left xs t name k ((D.look_up xs t name (StaleTrie k)).0 r.0)) r.1,
    λ L. ((D.look_up xs t name (StaleTrie k)).1 (left_first xs t name k L), omega (arith, left_fits xs t name k L)),
  );
  look_up_carries = λ xs t name k e. fits xs t name k (first_left xs t name k ((D.look_up xs t name (StaleTrie k)).0 e));
  put = λ xs t name v run limit k e. bare_first Is255 (put_table xs t name v run limit) (λ j z. clash cc, (λ j z. clash cc, (λ j z. clash cc, (λ j z. clash cc, (carries, (λ j z. clash cc, (λ j z. clash cc, (λ j z. clash cc, tt)))))))) k ((D.put xs t name v run limit (StaleTrie k)).0 e);
  remove = λ xs t name limit k e. bare_first Is255 (remove_table xs t name limit) (λ j z. clash cc, (λ j z. clash cc, (λ j z. clash cc, (λ j z. clash cc, (carries, tt))))) k ((D.remove xs t name limit (StaleTrie k)).0 e);
  list = λ xs t low high out k e. bare_first Is255 (list_table xs t low high out) (λ j z. clash cc, (λ j z. clash cc, (λ j z. clash cc, (carries, (λ j z. clash cc, tt))))) k ((D.list xs t low high out (StaleTrie k)).0 e);
  create = λ xs v b slots k e. bare_first (λ j. ⊥) (create_table xs v b slots) (λ j z. clash cc, tt) k ((D.create xs v b slots (StaleTrie k)).0 e);
  recover = λ xs limit k e. bare_first (λ j. ⊥) (recover_table xs limit) (λ j z. clash cc, (λ j z. clash cc, tt)) k ((D.recover xs limit (StaleTrie k)).0 e);
  rebuild = λ xs k e. bare_first (λ j. ⊥) (rebuild_table xs) (λ j z. clash cc, (λ j z. clash cc, (λ j z. clash cc, tt))) k ((D.rebuild xs (StaleTrie k)).0 e);
  one_bound = one_bound;
  one_number = one_number;
}
  where
    small : (xs : List ℕ) (t : Trie) (name : List ℕ) (k : ℕ) → (k ≡ 255) ⊎ LeftRange xs t name k → k < 255 → LeftRange xs t name k
    small xs t name k (inl e) h = absurd (omega arith)
    small xs t name k (inr L) h = L

    fits : (xs : List ℕ) (t : Trie) (name : List ℕ) (k : ℕ) → (k ≡ 255) ⊎ LeftRange xs t name k → (k ≤ 24) ⊎ (k ≡ 255)
    fits xs t name k (inl e) = inr e
    fits xs t name k (inr L) = inl (left_fits xs t name k L)

pub where_ours : Where our_calls
where_ours = says_where our_calls demand_1
