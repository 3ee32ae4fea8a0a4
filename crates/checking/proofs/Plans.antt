-- What plans of no store, of one and of two ensure, and that their slots are the file's.
use Rattle.model.proofs.Prelude.{List, ◌<◌, ◌≡◌, ℕ}
use Rattle.model.specs.Format.{Sizes}
use Rattle.file.specs.declared.Plan.{Plan}
use Rattle.file.specs.declared.Size.{Size}
use Rattle.file.specs.Plans.{Fits}

abbrev pub NoStore : Plan → Type 0
NoStore p = (p.stores ≡ 0) × (p.first ≡ 0) × (p.second ≡ 0)

abbrev pub OneStore : Plan → ℕ → List ℕ → Type 0
OneStore p k bytes = (p.stores ≡ 1) × (p.first ≡ k) × (p.one ≡ bytes) × (p.second ≡ 0)

pub fits_none : (r p : Plan) (size : Size) → r ≡ p → NoStore p → Sizes size.layout size.slots → Fits r size
fits_none r p size e q l = rw (e, q.1, q.2) (l.slots_least, l.slots_least)

pub fits_one : (r p : Plan) (k : ℕ) (bytes : List ℕ) (size : Size) → r ≡ p → OneStore p k bytes → k < size.slots → Sizes size.layout size.slots → Fits r size
fits_one r p k bytes size e q h l = rw (e, q.1, q.3) (h, l.slots_least)

abbrev pub TwoStores : Plan → ℕ → List ℕ → ℕ → List ℕ → Type 0
TwoStores p k bytes l others = (p.stores ≡ 2) × (p.first ≡ k) × (p.one ≡ bytes) × (p.second ≡ l) × (p.two ≡ others)

pub fits_two : (r p : Plan) (k l : ℕ) (bytes others : List ℕ) (size : Size) → r ≡ p → TwoStores p k bytes l others → k < size.slots → l < size.slots → Fits r size
fits_two r p k l bytes others size e q h i = rw (e, q.1, q.3) (h, i)
