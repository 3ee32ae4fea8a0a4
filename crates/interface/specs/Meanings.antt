-- What check, recover and list of the C interface mean, in the relations of the rules.
use Rattle.std.specs.Prelude.{◌≡◌, ◌↔◌, List, [], ◌∷◌, ◌≤◌, ℕ}
use Rattle.std.proofs.lemmas.List.Edits.{sets}
use Rattle.model.specs.Format.{BadFile, CutFile, SoundFile}
use Rattle.promises.specs.Demand1.{IsCut}
use Rattle.promises.specs.Meanings.{OneFreed, Wrote}
use Rattle.interface.specs.Calls.{CCalls}

-- 130: the one slot of a cut file that is to be freed is all zero, and word 0 names it.
pub record FreedC (xs out ys words : List ℕ) : Type 0 where
  pub slot : ℕ
  pub cut : CutFile xs slot
  pub freed : OneFreed xs slot ys
  pub named : words ≡ sets out 0 (slot ∷ [])

-- 152: the entries in the range stand in the output, and word 0 counts them.
pub record ListedC (xs low high output out ys words : List ℕ) : Type 0 where
  pub count : ℕ
  pub wrote : Wrote xs low high output count ys
  pub counted : words ≡ sets out 0 (count ∷ [])

pub record MeaningsC (C : CCalls) : Type 0 where
  -- R9.2
  pub says_sound : (xs : List ℕ) → (C.check xs ≡ 140) ↔ SoundFile xs
  pub says_cut : (xs : List ℕ) → (C.check xs ≡ 141) ↔ IsCut xs
  pub says_bad : (xs : List ℕ) → (C.check xs ≡ 142) ↔ BadFile xs
  -- R9.3
  pub says_freed : (xs : List ℕ) (limit : ℕ) (out : List ℕ) → ((C.recover xs limit out).0 ≡ 130) ↔ ((1 ≤ limit) × (limit ≤ 2) × IsCut xs)
  pub frees : (xs : List ℕ) (limit : ℕ) (out : List ℕ) → (C.recover xs limit out).0 ≡ 130
      → FreedC xs out (C.recover xs limit out).1 (C.recover xs limit out).2
  pub says_nothing : (xs : List ℕ) (limit : ℕ) (out : List ℕ) → (C.recover xs limit out ≡ (131, xs, out)) ↔ ((limit ≤ 2) × SoundFile xs)
  -- R9.8
  pub writes : (xs image low high output out : List ℕ) → (C.list xs image low high output out).0 ≡ 152
      → ListedC xs low high output out (C.list xs image low high output out).1 (C.list xs image low high output out).2
