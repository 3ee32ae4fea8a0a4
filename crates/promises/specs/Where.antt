-- Where a name left the range (R10.13): which digit number a refusal 4 carries, and of which bound.
use Rattle.std.specs.Prelude.{◌≡◌, ◌↔◌, ◌⊎◌, List, ◌<◌, ◌≤◌, ℕ}
use Rattle.model.specs.declared.Cause.TheVariants.{StaleTrie}
use Rattle.model.specs.Results.{ListRefused, LookUpRefused, PutRefused, RecoverRefused, RemoveRefused, TrieRefused}
use Rattle.model.specs.declared.Trie.{Trie}
use Rattle.model.specs.Order.{Str, ◌⊑◌, at}
use Rattle.model.specs.Names.{filled}
use Rattle.model.specs.Entries.{Entry}
use Rattle.model.specs.Files.{Well, used}
use Rattle.model.specs.Format.{layout_of}
use Rattle.promises.specs.Calls.{Calls}
use Rattle.promises.specs.Demand1.{Differs, Ends, Lacks, LegalName, RightHeader}

-- A lookup whose walk ends at a well-formed bucket that lacks the name: k is the digit number of the bound that is broken.
pub record LeftRange (xs : List ℕ) (t : Trie) (name : List ℕ) (k : ℕ) : Type 0 where
  pub legal : LegalName name
  pub header : RightHeader xs
  pub few : t.count ≤ 256
  pub ends : Ends xs t (filled name) (Lacks (layout_of xs) (filled name) k)

pub record Where (C : Calls) : Type 0 where
  -- A lookup's refusal 4 carries a digit number exactly there,
  pub look_up : (xs : List ℕ) (t : Trie) (name : List ℕ) (k : ℕ)
      → ((C.look_up xs t name ≡ LookUpRefused (StaleTrie k)) × (k < 255)) ↔ LeftRange xs t name k
  -- at most 24, and every other one carries 255.
  pub look_up_carries : (xs : List ℕ) (t : Trie) (name : List ℕ) (k : ℕ) → C.look_up xs t name ≡ LookUpRefused (StaleTrie k) → (k ≤ 24) ⊎ (k ≡ 255)
  -- So does every refusal 4 of the other calls; create, recover and rebuild have none.
  pub put : (xs : List ℕ) (t : Trie) (name : List ℕ) (v run limit k : ℕ) → (C.put xs t name v run limit).answer ≡ PutRefused (StaleTrie k) → k ≡ 255
  pub remove : (xs : List ℕ) (t : Trie) (name : List ℕ) (limit k : ℕ) → (C.remove xs t name limit).answer ≡ RemoveRefused (StaleTrie k) → k ≡ 255
  pub list : (xs : List ℕ) (t : Trie) (low high out : List ℕ) (k : ℕ) → (C.list xs t low high out).answer ≡ ListRefused (StaleTrie k) → k ≡ 255
  pub create : (xs : List ℕ) (v b slots k : ℕ) → ¬ ((C.create xs v b slots).answer ≡ TrieRefused (StaleTrie k))
  pub recover : (xs : List ℕ) (limit k : ℕ) → ¬ ((C.recover xs limit).answer ≡ RecoverRefused (StaleTrie k))
  pub rebuild : (xs : List ℕ) (k : ℕ) → ¬ ((C.rebuild xs).answer ≡ TrieRefused (StaleTrie k))
  -- A name within the lower bound of a well-formed bucket is within its upper bound: at most one bound is broken.
  pub one_bound : (b : ℕ) (l u : Str) (es : List Entry) → Well b (used (at l) u es) → (n : Str) → n ⊑ l → n ⊑ u
  -- Of a name and a bound there is one first difference.
  pub one_number : (n p : Str) (j k : ℕ) → Differs n p j → Differs n p k → j ≡ k
