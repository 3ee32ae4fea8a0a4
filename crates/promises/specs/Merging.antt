-- Request 03: which stores a removal takes, what they leave, and what a stop between them leaves.
use Rattle.std.specs.Prelude.{◌≡◌, List, [], ◌++◌, ◌∷◌, ◌+◌, ◌/◌, ◌<◌, ◌≤◌, suc, ℕ, length, take}
use Rattle.model.specs.declared.Layout.{Layout}
use Rattle.model.specs.Results.{Freed, Given, RemoveStopped, Removed}
use Rattle.model.specs.declared.Trie.{Trie}
use Rattle.std.proofs.Math.Option.{some}
use Rattle.model.specs.Order.{Low, Str}
use Rattle.model.specs.Names.{filled}
use Rattle.model.specs.Entries.{Entry, find, without}
use Rattle.model.specs.Files.{Slot, free, slot_at, used}
use Rattle.model.specs.Changes.{Store}
use Rattle.model.specs.Format.{AreBytes, CutFile, SoundFile, store_bytes}
use Rattle.model.specs.Calls.{RemoveDone, entries_in, stores_bytes}
use Rattle.model.specs.Searches.{order_of, string_count}
use Rattle.promises.specs.Calls.{Calls}
use Rattle.promises.specs.Demand1.{LegalName}
use Rattle.promises.specs.Demand2.{LeadsRight}

-- The entries of a bucket and of its neighbour are counted with the name, which leaves one less than both have: at most b/2
-- then are at most b/2 and one now.
module _ (b : ℕ) (fs : List Slot) (A : ℕ) (es : List Entry) where
  -- With the right neighbour it does not apply: there is none, or together they have too many.
  pub data NotRight : Type 0 where
    no_right : (Xs : List ℕ) → order_of fs ≡ Xs ++ (A ∷ []) → NotRight
    right_many : (Xs : List ℕ) (R : ℕ) (Ys : List ℕ) {m : Low} {v : Str} {gs : List Entry} → order_of fs ≡ Xs ++ (A ∷ R ∷ Ys) → slot_at fs R ≡ used m v gs
        → suc (b / 2) < length es + length gs → NotRight

  pub data NotLeft : Type 0 where
    no_left : (Ys : List ℕ) → order_of fs ≡ A ∷ Ys → NotLeft
    left_many : (Xs : List ℕ) (L : ℕ) (Ys : List ℕ) {k : Low} {s : Str} {ds : List Entry} → order_of fs ≡ Xs ++ (L ∷ A ∷ Ys) → slot_at fs L ≡ used k s ds
        → suc (b / 2) < length ds + length es → NotLeft

module _ (C : Calls) (xs : List ℕ) (t : Trie) (name : List ℕ) (y : Layout) where
  -- The removal takes the stores ss: it makes all of them where its limit allows that, else the first ones, and is stopped.
  pub record Takes (ss : List Store) : Type 0 where
    pub file : (limit : ℕ) → limit ≤ 2 → (C.remove xs t name limit).file ≡ stores_bytes y (take limit ss) xs
    pub made : (limit : ℕ) → limit ≤ 2 → length ss ≤ limit → (C.remove xs t name limit).answer ≡ Removed (length ss)
    pub stopped : (limit : ℕ) → limit ≤ 2 → limit < length ss → (C.remove xs t name limit).answer ≡ RemoveStopped limit

  -- The removal of a name that the bucket A holds.
  pub record Rule (fs : List Slot) (A : ℕ) (l : Low) (u : Str) (es : List Entry) : Type 0 where
    -- With the right neighbour: the left slot takes everything in, without the name, then the right slot is freed.
    pub right : (Xs : List ℕ) (R : ℕ) (Ys : List ℕ) {m : Low} {v : Str} {gs : List Entry} → order_of fs ≡ Xs ++ (A ∷ R ∷ Ys)
        → slot_at fs R ≡ used m v gs → length es + length gs ≤ suc (y.b / 2)
        → Takes ((A, used l v (without (filled name) (es ++ gs))) ∷ (R, free) ∷ [])
    -- Only where that does not apply, the same with the left neighbour and the bucket.
    pub left : NotRight y.b fs A es → (Xs : List ℕ) (L : ℕ) (Ys : List ℕ) {k : Low} {s : Str} {ds : List Entry}
        → order_of fs ≡ Xs ++ (L ∷ A ∷ Ys) → slot_at fs L ≡ used k s ds → length ds + length es ≤ suc (y.b / 2)
        → Takes ((L, used k u (without (filled name) (ds ++ es))) ∷ (A, free) ∷ [])
    -- Else one store, as before.
    pub alone : NotRight y.b fs A es → NotLeft y.b fs A es → Takes ((A, used l u (without (filled name) es)) ∷ [])

-- A removal without a merge: one store of a slot that keeps its range, and the trie that was given.
pub record Alone (xs : List ℕ) (t : Trie) (n : Str) (d : RemoveDone) : Type 0 where
  pub file : SoundFile xs
  pub bucket : ℕ
  pub lower : Low
  pub upper : Str
  pub entries : List Entry
  pub is : slot_at file.slots bucket ≡ used lower upper entries
  pub left : d.file ≡ store_bytes file.layout bucket (used lower upper (without n entries)) xs
  pub trie : d.trie ≡ t

-- A removal that was made, with a merge or without: no string is new, and of all entries, in order, the name alone is gone.
pub record NameGone (n : Str) (fs gs : List Slot) : Type 0 where
  pub strings : string_count gs ≤ string_count fs
  pub entries : entries_in gs (order_of gs) ≡ without n (entries_in fs (order_of fs))

pub record Merging (C : Calls) : Type 0 where
  -- A cut file, whose bucket A may now have any number of entries, has one slot to free, and is not sound.
  pub one_cut : (xs : List ℕ) (M N : ℕ) → CutFile xs M → CutFile xs N → M ≡ N
  pub cut_not_sound : (xs : List ℕ) (N : ℕ) → CutFile xs N → ¬ SoundFile xs
  -- With a trie that leads right: which stores the removal of a legal name takes that the bucket A holds.
  pub rule : (xs : List ℕ) (t : Trie) (name : List ℕ) (T : LeadsRight xs t) → LegalName name → (A : ℕ) (l : Low) (u : Str) (es : List Entry) (w : ℕ)
      → slot_at T.file.slots A ≡ used l u es → find (filled name) es ≡ some w → Rule C xs t name T.file.layout T.file.slots A l u es
  -- What a removal that was made leaves is sound, and its trie leads every name right;
  pub leads : (xs : List ℕ) (t : Trie) (name : List ℕ) (limit stores : ℕ) → AreBytes xs → limit ≤ 2 → (C.remove xs t name limit).answer ≡ Removed stores
      → LeadsRight (C.remove xs t name limit).file (C.remove xs t name limit).trie
  pub leaves : (xs : List ℕ) (t : Trie) (name : List ℕ) (limit stores : ℕ) → AreBytes xs → limit ≤ 2 → (C.remove xs t name limit).answer ≡ Removed stores
      → (S : SoundFile xs) (T : SoundFile (C.remove xs t name limit).file) → NameGone (filled name) S.slots T.slots
  -- One in one store is as before; one in two has merged, and its trie is the rebuilt one.
  pub as_before : (xs : List ℕ) (t : Trie) (name : List ℕ) (limit : ℕ) → limit ≤ 2 → (C.remove xs t name limit).answer ≡ Removed 1
      → Alone xs t (filled name) (C.remove xs t name limit)
  pub rebuilds : (xs : List ℕ) (t : Trie) (name : List ℕ) (limit : ℕ) → AreBytes xs → limit ≤ 2 → (C.remove xs t name limit).answer ≡ Removed 2
      → ((C.rebuild (C.remove xs t name limit).file).answer ≡ Given) × ((C.rebuild (C.remove xs t name limit).file).trie ≡ (C.remove xs t name limit).trie)
  -- One that is stopped after its first store is recovered to exactly what the whole call leaves, file and trie.
  pub recovers : (xs : List ℕ) (t : Trie) (name : List ℕ) (made : ℕ) → AreBytes xs → (C.remove xs t name 1).answer ≡ RemoveStopped made
      → (limit : ℕ) → 0 < limit → limit ≤ 2
      → ((N : ℕ) × ((C.recover (C.remove xs t name 1).file limit).answer ≡ Freed N))
      × ((C.recover (C.remove xs t name 1).file limit).file ≡ (C.remove xs t name 2).file)
      × ((C.rebuild (C.remove xs t name 2).file).answer ≡ Given)
      × ((C.rebuild (C.remove xs t name 2).file).trie ≡ (C.remove xs t name 2).trie)
