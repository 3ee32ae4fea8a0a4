-- What a call leaves at each limit: the first of its stores, which do not depend on the limit.
use Rattle.std.specs.Prelude.{◌≡◌, List, ◌<◌, ◌≤◌, suc, ℕ, take}
use Rattle.model.specs.declared.Layout.{Layout}
use Rattle.model.specs.Results.{PutStopped, RemoveStopped}
use Rattle.model.specs.declared.Trie.{Trie}
use Rattle.model.specs.Files.{Slot}
use Rattle.model.specs.Changes.{Store}
use Rattle.model.specs.Format.{layout_of, store_bytes}
use Rattle.model.specs.Calls.{stores_bytes}
use Rattle.promises.specs.Calls.{Calls}

-- From the file xs to the file ys there is at most one store, of a whole slot (R7.1).
pub data Further (y : Layout) (xs ys : List ℕ) : Type 0 where
  no_store : ys ≡ xs → Further y xs ys
  one_store : (k : ℕ) (s : Slot) → ys ≡ store_bytes y k s xs → Further y xs ys

-- R7.12, of a call on the file xs, and of what it leaves by its limit. Its stores are the same for every limit, and a limit
-- cuts them off. So limit j + 1 leaves what limit j leaves with at most one further store. In which order one call makes two
-- stores is not said here.
pub record InOrder (xs : List ℕ) (left : ℕ → List ℕ) : Type 0 where
  pub stores : List Store
  pub left_by : (limit : ℕ) → limit ≤ 2 → left limit ≡ stores_bytes (layout_of xs) (take limit stores) xs
  pub passes : (j : ℕ) → j < 2 → Further (layout_of xs) (left j) (left (suc j))

-- A call that is refused makes no store, whatever its limit.
pub record Limits (C : Calls) : Type 0 where
  pub put : (xs : List ℕ) (t : Trie) (name : List ℕ) (v run : ℕ) → InOrder xs (λ (limit : ℕ). (C.put xs t name v run limit).file)
  pub remove : (xs : List ℕ) (t : Trie) (name : List ℕ) → InOrder xs (λ (limit : ℕ). (C.remove xs t name limit).file)
  pub recover : (xs : List ℕ) → InOrder xs (λ (limit : ℕ). (C.recover xs limit).file)
  -- One that is stopped leaves the trie that was given.
  pub put_stays : (xs : List ℕ) (t : Trie) (name : List ℕ) (v run limit made : ℕ) → (C.put xs t name v run limit).answer ≡ PutStopped made
      → (C.put xs t name v run limit).trie ≡ t
  pub remove_stays : (xs : List ℕ) (t : Trie) (name : List ℕ) (limit made : ℕ) → (C.remove xs t name limit).answer ≡ RemoveStopped made
      → (C.remove xs t name limit).trie ≡ t
