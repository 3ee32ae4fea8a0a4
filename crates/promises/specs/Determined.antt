-- Each public statement determines its outcome: any two outcomes that it allows are equal.
use Rattle.std.specs.Prelude.{◌≡◌, List, ℕ}
use Rattle.model.specs.Results.{LookUpAnswer}
use Rattle.model.specs.declared.Trie.{Trie}
use Rattle.model.specs.Checks.{Kind}
use Rattle.model.specs.Format.{check_file}
use Rattle.model.specs.Calls.{CreateDone, ListDone, PutDone, RebuildDone, RecoverDone, RemoveDone, create_of, list_of, look_up_of, put_of, rebuild_of, recover_of, remove_of}

abbrev pub Determines : {O : Type 0} → (O → Type 0) → Type 0
Determines {O} Allowed = (o p : O) → Allowed o → Allowed p → o ≡ p

-- R13.4: each statement determines its outcome. An outcome holds the answer, the trie that is given and the lent bytes
-- that may change; the statement of a call is an equation for it.
pub record Determined : Type 0 where
  pub create : (xs : List ℕ) (v b slots : ℕ) → Determines (λ (o : CreateDone). o ≡ create_of xs v b slots)
  pub check : (xs : List ℕ) → Determines (λ (o : Kind). o ≡ check_file xs)
  pub recover : (xs : List ℕ) (limit : ℕ) → Determines (λ (o : RecoverDone). o ≡ recover_of xs limit)
  pub rebuild : (xs : List ℕ) → Determines (λ (o : RebuildDone). o ≡ rebuild_of xs)
  pub look_up : (xs : List ℕ) (t : Trie) (name : List ℕ) → Determines (λ (o : LookUpAnswer). o ≡ look_up_of xs t name)
  pub put : (xs : List ℕ) (t : Trie) (name : List ℕ) (v run limit : ℕ) → Determines (λ (o : PutDone). o ≡ put_of xs t name v run limit)
  pub remove : (xs : List ℕ) (t : Trie) (name : List ℕ) (limit : ℕ) → Determines (λ (o : RemoveDone). o ≡ remove_of xs t name limit)
  pub list : (xs : List ℕ) (t : Trie) (low high out : List ℕ) → Determines (λ (o : ListDone). o ≡ list_of xs t low high out)
