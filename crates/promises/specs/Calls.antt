-- The eight calls as one value, so that a demand can be put to any calls, right or wrong; the layouts of the versions.
use Rattle.std.specs.Prelude.{List, ℕ}
use Rattle.model.specs.declared.Layout.{Layout}
use Rattle.model.specs.Results.{LookUpAnswer}
use Rattle.model.specs.declared.Trie.{Trie}
use Rattle.model.specs.Checks.{Kind}
use Rattle.model.specs.Format.{check_file}
use Rattle.model.specs.Calls.{CreateDone, ListDone, PutDone, RebuildDone, RecoverDone, RemoveDone, create_of, list_of, look_up_of, put_of, rebuild_of, recover_of, remove_of}

-- The calls of section 9. Each takes what it is lent and gives the answer, the trie that it gives and the lent bytes
-- that it may change.
pub record Calls : Type 0 where
  pub create : List ℕ → ℕ → ℕ → ℕ → CreateDone
  pub check : List ℕ → Kind
  pub recover : List ℕ → ℕ → RecoverDone
  pub rebuild : List ℕ → RebuildDone
  pub look_up : List ℕ → Trie → List ℕ → LookUpAnswer
  pub put : List ℕ → Trie → List ℕ → ℕ → ℕ → ℕ → PutDone
  pub remove : List ℕ → Trie → List ℕ → ℕ → RemoveDone
  pub list : List ℕ → Trie → List ℕ → List ℕ → List ℕ → ListDone

-- Ours: what the contracts of the code equate with what the code does.
abbrev pub our_calls : Calls
our_calls = record {
  create = create_of;
  check = check_file;
  recover = recover_of;
  rebuild = rebuild_of;
  look_up = look_up_of;
  put = put_of;
  remove = remove_of;
  list = list_of;
}

-- The layouts of a file of each version (R2.3).
abbrev pub version_1 : ℕ → Layout
version_1 b = record { version = 1; b = b }

abbrev pub version_2 : ℕ → Layout
version_2 b = record { version = 2; b = b }

abbrev pub version_3 : ℕ → Layout
version_3 b = record { version = 3; b = b }
