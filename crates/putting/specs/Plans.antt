-- What a put into a file that is read plans and leaves, for what the definitions make of the request.
use Rattle.std.specs.Prelude.{Option as Maybe, None, Some, Result as Outcome, Ok, Err, ◌≡◌, List, ℕ, length}
use Rattle.std.proofs.Math.Option.{none as nothing, some}
use Rattle.model.specs.declared.Layout.{Layout}
use Rattle.model.specs.declared.Cause.{Cause}
use Rattle.model.specs.declared.Content.{Content}
use Rattle.model.specs.declared.Put.{Put}
use Rattle.model.specs.declared.Trie.{Trie}
use Rattle.model.specs.Results.{PutAnswer}
use Rattle.model.specs.Order.{Low, Str}
use Rattle.model.specs.Names.{Legal}
use Rattle.model.specs.Entries.{Entry, content_from, find}
use Rattle.model.specs.Files.{Slot, Sound}
use Rattle.model.specs.Changes.{Result, call, put as asked, refuse, stores}
use Rattle.model.specs.Calls.{held, put_answer, put_by_stores, put_takes, refusal_of}
use Rattle.model.specs.Format.{kept_run, read_file}
use Rattle.model.specs.Places.{place_of}
use Rattle.entries.specs.Rows.{content_number}
use Rattle.bucket.specs.Forms.{ReadAs}
use Rattle.slots.specs.Spots.{Fits, SpotIn}
use Rattle.image.specs.Images.{trie_from}
use Rattle.file.specs.declared.Size.{Size}
use Rattle.file.specs.declared.Plan.{Plan}
use Rattle.file.specs.Plans.{Planned}
use Rattle.checking.specs.Homes.{Home}
use Rattle.putting.specs.declared.PutPlan.{PutPlan}
use Rattle.putting.specs.declared.change.Change.{Change}
use Rattle.putting.specs.Outcomes.{put_left}

-- Without a split: refused, or one store, and what is done once it is made.
abbrev pub PutPlanned : Outcome PutPlan Cause → Layout → List Slot → Str → Result → Type 0
PutPlanned (Err e) y fs n (refuse c) = e ≡ refusal_of c
PutPlanned (Err e) y fs n (stores ss) = ⊥
PutPlanned (Ok p) y fs n (refuse c) = ⊥
PutPlanned (Ok p) y fs n (stores ss) = Planned p.plan y ss × (Ok p.done ≡ put_answer (held fs n)) × (length ss ≡ 1)

-- Put, of the name n with the content c.
abbrev pub PutAsked : Outcome PutPlan Cause → Layout → List Slot → Str → ℕ → Type 0
PutAsked r y fs n c = PutPlanned r y fs n (call y.b (place_of y) fs (asked n c))

-- The same where what is held may have a higher run.
abbrev pub PutTaken : Outcome PutPlan Cause → Layout → List Slot → Str → ℕ → ℕ → Type 0
PutTaken r y fs n c run = PutPlanned r y fs n (put_takes y fs n c run)

-- A plan of a store into slot k.
abbrev pub Of : Plan → ℕ → Type 0
Of p k = (p.first ≡ k) × (p.second ≡ 0)

abbrev pub layout_of : Change → Layout
layout_of c = c.spot.slot.layout

-- Of a change whose slot k is the name's home, with what else is known of it there.
abbrev pub AtHome : Change → (List Slot → List Entry → Type 0) → Type 0
AtHome c Known =
    (fs : List Slot) → Legal c.name.now → (l : Low) (u : Str) (es : List Entry) → ReadAs (layout_of c) c.spot.slot.bytes.now l u es
    → Home c.k fs c.name.now l u es → SpotIn c.spot c.name.now es → Fits (layout_of c) c.content → Known fs es

-- On a name that slot k holds: first by the runs, then as the definitions have it.
abbrev pub RenewTold : Outcome PutPlan Cause → Change → Type 0
RenewTold r c = AtHome c (λ fs es. (w : ℕ) → find c.name.now es ≡ some w → PutTaken r (layout_of c) fs c.name.now (content_number c.content) c.content.run)

abbrev pub ReplaceTold : PutPlan → Change → Type 0
ReplaceTold r c = AtHome c (λ fs es. (w : ℕ) → find c.name.now es ≡ some w → PutAsked (Ok r) (layout_of c) fs c.name.now (content_number c.content))

-- Of a new name that fits into slot k.
abbrev pub AddTold : PutPlan → Change → Type 0
AddTold r c = AtHome c (λ fs es. find c.name.now es ≡ nothing → PutAsked (Ok r) (layout_of c) fs c.name.now (content_number c.content))

-- Of either.
abbrev pub InTold : Outcome PutPlan Cause → Change → Type 0
InTold r c = AtHome c (λ fs es. PutTaken r (layout_of c) fs c.name.now (content_number c.content) c.content.run)

-- Of either, stored: the trie stays, whichever it is.
abbrev pub OneLeft : PutAnswer → List ℕ → List ℕ → Size → ℕ → Str → Content → ℕ → Type 0
OneLeft r xs ys size k n c limit =
    (fs : List Slot) → read_file xs ≡ some (size.layout, fs) → Sound size.layout.b fs → (l : Low) (u : Str) (es : List Entry) → Home k fs n l u es → Fits size.layout c
    → (t : Trie) → put_by_stores xs t size.layout fs n (content_number c) limit (put_takes size.layout fs n (content_number c) c.run)
    ≡ record { answer = r; file = ys; trie = t }

-- A bucket that has no room for the name keeps its file as it is.
abbrev pub HomeLeft : Outcome (Maybe Put) Cause → List ℕ → List ℕ → Size → ℕ → Str → Content → ℕ → Type 0
HomeLeft (Err e) xs ys size k n c limit = OneLeft (Err e) xs ys size k n c limit
HomeLeft (Ok (Some p)) xs ys size k n c limit = OneLeft (Ok p) xs ys size k n c limit
HomeLeft (Ok None) xs ys size k n c limit =
    (ys ≡ xs) × ((fs : List Slot) → read_file xs ≡ some (size.layout, fs) → Sound size.layout.b fs → (l : Low) (u : Str) (es : List Entry) → Home k fs n l u es
    → (find n es ≡ nothing) × (length es ≡ size.layout.b))

-- Of every name: the answer, the file and the image.
abbrev pub PutTold : PutAnswer × List ℕ × List ℕ → List ℕ → List ℕ → Size → Str → ℕ → ℕ → ℕ → Type 0
PutTold o xs image size n v r limit =
    (fs : List Slot) → read_file xs ≡ some (size.layout, fs)
    → let c = content_from v (kept_run size.layout r) in
    o ≡ put_left image (put_by_stores xs (trie_from image) size.layout fs n c limit (put_takes size.layout fs n c (kept_run size.layout r)))
