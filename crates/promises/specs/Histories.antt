-- A new file, then any calls, each stopped after any of its stores, with the trie lost and recovered.
use Rattle.std.specs.Prelude.{◌&&◌, cond, List, [], ◌∷◌, suc, zero, ℕ, leb, ltb, length, set, take}
use Rattle.std.proofs.Math.Option.{none as nothing}
use Rattle.model.specs.Order.{Str}
use Rattle.model.specs.Tests.{is_legal_filled}
use Rattle.model.specs.Entries.{Entry}
use Rattle.model.specs.Files.{Slot, created, free}
use Rattle.model.specs.Changes.{Map, Request, Result, call, counts, meant, put, refuse, remove, stored, stores}
use Rattle.model.specs.Checks.{Kind, check, is_bad, is_cut, is_sound}

-- A call with its store limit; the trie is lost; a recovery with its store limit.
pub data Action : Type 0 where
  ask : Request → ℕ → Action
  lose : Action
  recover : ℕ → Action

-- With a trie, or with none until a recovery is completed: the file, and what the calls that count as made have said.
pub data World : Type 0 where
  ready : List Slot → Map → World
  down : List Slot → Map → World

abbrev pub asked_name : Request → Str
asked_name (put n v) = n
asked_name (remove n) = n

-- R13.3: a call stopped before its last store counts as `counts` says, any other as made. A stopped call makes the stores
-- that its limit allows, and the trie is lost then.
unfoldable pub answered : Request → ℕ → List Slot → Map → Result → World
answered q j fs m (refuse r) = ready fs m
answered q j fs m (stores ss) =
    cond (ltb j (length ss)) (down (stored (take j ss) fs) (cond (counts q j) (meant q m) m)) (ready (stored ss fs) (meant q m))

-- R9.3: recover frees N and names it; on a sound file there is nothing to do.
unfoldable pub recovered : List Slot → Map → ℕ → Kind → World
recovered fs m j is_sound = ready fs m
recovered fs m zero (is_cut N) = down fs m
recovered fs m (suc j) (is_cut N) = ready (set fs N free) m
recovered fs m j is_bad = down fs m

module _ (b slots : ℕ) (place : List Entry → ℕ) where
  -- Refused: a store limit above 2, an illegal name, and every change while there is no trie.
  unfoldable pub act : Action → World → World
  act (ask q j) (ready fs m) =
      let w = answered q j fs m (call b place fs q) in
      cond (leb j 2 && is_legal_filled (asked_name q)) w (ready fs m)
  act (ask q j) (down fs m) = down fs m
  act lose (ready fs m) = down fs m
  act lose (down fs m) = down fs m
  act (recover j) (ready fs m) = ready fs m
  act (recover j) (down fs m) = let w = recovered fs m j (check b fs) in cond (leb j 2) w (down fs m)

  -- Acts, the latest first, from a new file on.
  unfoldable pub run : List Action → World
  run [] = ready (created slots) (λ k. nothing)
  run (a ∷ acts) = act a (run acts)
