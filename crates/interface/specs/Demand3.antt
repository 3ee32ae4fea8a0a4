-- Demand 3 (R13.3) of the C interface: start from a new file, then any calls in any order, each stopped after any of its stores.
use Rattle.std.specs.Prelude.{◌≡◌, ◌||◌, cond, List, [], ◌∷◌, ◌<◌, ◌^◌, ◌≤◌, ℕ, eqb, ltb}
use Rattle.std.proofs.Math.Option.{Option, none as nothing, some}
use Rattle.std.proofs.lemmas.List.Edits.{sets}
use Rattle.model.specs.Order.{Str}
use Rattle.model.specs.Names.{filled}
use Rattle.model.specs.Entries.{content_from, run_of_content, value_of_content}
use Rattle.model.specs.Changes.{Map, Means, meant, put as to_put, remove as to_remove}
use Rattle.model.specs.Format.{kept_run, layout_of}
use Rattle.promises.specs.Demand1.{LegalName}
use Rattle.promises.specs.Demand2.{LeadsRight}
use Rattle.promises.specs.Demand3.{replaced}
use Rattle.image.specs.Images.{trie_from}
use Rattle.interface.specs.Calls.{CCalls, IsImage}
use Rattle.interface.specs.Demand1.{IsRefusal, change_refusal, recover_refusal}

-- What can happen: as in demand 3, but each call is lent an image and an `out`. A put or a remove has the image in hand, or any
-- other bytes at all, of any length; a rebuilding is lent any bytes.
pub data EventC : Type 0 where
  put : List ℕ → (v : ℕ) → v < 2 ^ 64 → (run : ℕ) → run < 2 ^ 64 → ℕ → List ℕ → EventC
  remove : List ℕ → ℕ → List ℕ → EventC
  put_with : List ℕ → List ℕ → (v : ℕ) → v < 2 ^ 64 → (run : ℕ) → run < 2 ^ 64 → ℕ → List ℕ → EventC
  remove_with : List ℕ → List ℕ → ℕ → List ℕ → EventC
  kill : EventC
  recover : ℕ → List ℕ → EventC
  rebuild : List ℕ → EventC

-- With an image in hand, or with none: the file's bytes, the image, and what the calls that count as made have said of each name.
pub data StateC : Type 0 where
  running : List ℕ → List ℕ → Map → StateC
  down : List ℕ → Map → StateC

abbrev pub file_of : StateC → List ℕ
file_of (running xs image m) = xs
file_of (down xs m) = xs

abbrev pub said : StateC → Map
said (running xs image m) = m
said (down xs m) = m

unfoldable pub now : List ℕ → StateC → StateC
now ys (running xs image m) = running ys image m
now ys (down xs m) = down ys m

-- The number tells what a call counts as: 110, 111, 120 and 101 as made, 112 as never made, and then the image is discarded. A
-- removal that is stopped, which has made as many stores as its limit says, counts as made from its first store on. With every
-- other number, 255 among them, the image in hand stays.
unfoldable pub after_put : StateC → Str → ℕ → ℕ → List ℕ → List ℕ → StateC
after_put s n v k xs image =
    cond (eqb k 110 || eqb k 111) (running xs image (meant (to_put n v) (said s))) (cond (eqb k 112) (down xs (said s)) (now xs s))

unfoldable pub after_remove : StateC → Str → ℕ → ℕ → List ℕ → List ℕ → StateC
after_remove s n limit k xs image =
    let m = meant (to_remove n) (said s) in
    cond (eqb k 120 || eqb k 101) (running xs image m) (cond (eqb k 112) (down xs (cond (ltb 0 limit) m (said s))) (now xs s))

unfoldable pub after_recover : StateC → ℕ → List ℕ → StateC
after_recover s k xs = cond (eqb k 112) (down xs (said s)) (now xs s)

unfoldable pub after_rebuild : StateC → ℕ → List ℕ → StateC
after_rebuild s k image = cond (eqb k 151) (running (file_of s) image (said s)) s

module _ (C : CCalls) where
  unfoldable pub put_by : StateC → List ℕ → List ℕ → ℕ → ℕ → ℕ → List ℕ → StateC
  put_by s image name v run limit out =
      let d = C.put (file_of s) image name v run limit out in
      after_put s (filled name) (content_from v (kept_run (layout_of (file_of s)) run)) d.0 d.1 d.2

  unfoldable pub remove_by : StateC → List ℕ → List ℕ → ℕ → List ℕ → StateC
  remove_by s image name limit out =
      let d = C.remove (file_of s) image name limit out in
      after_remove s (filled name) limit d.0 d.1 d.2

  unfoldable pub step : EventC → StateC → StateC
  step (put name v small run low limit out) (running xs image m) = put_by (running xs image m) image name v run limit out
  step (put name v small run low limit out) (down xs m) = down xs m
  step (remove name limit out) (running xs image m) = remove_by (running xs image m) image name limit out
  step (remove name limit out) (down xs m) = down xs m
  step (put_with image name v small run low limit out) s = put_by s image name v run limit out
  step (remove_with image name limit out) s = remove_by s image name limit out
  step kill s = down (file_of s) (said s)
  step (recover limit out) s =
      let d = C.recover (file_of s) limit out in
      after_recover s d.0 d.1
  step (rebuild image) s =
      let d = C.rebuild (file_of s) image in
      after_rebuild s d.0 d.1

  -- The events one after another, the first one first.
  unfoldable pub after : List EventC → StateC → StateC
  after [] s = s
  after (e ∷ es) s = after es (step e s)

-- At first, what create gave, and no name said.
abbrev pub start : ℕ × List ℕ × List ℕ → StateC
start d = running d.1 d.2 (λ k. nothing)

-- The lookup's number and words for what the history says of a name.
abbrev pub held_says : Option ℕ → List ℕ → ℕ × List ℕ
held_says nothing out = (101, out)
held_says (some c) out = (100, sets out 0 (value_of_content c ∷ run_of_content c ∷ []))

-- A stopped call: word 0 is the limit, no other word has changed, and as many slots are others than before.
pub record StoppedC (limit : ℕ) (xs ys out words : List ℕ) : Type 0 where
  pub as_made : replaced xs ys ≡ limit
  pub as_said : words ≡ sets out 0 (limit ∷ [])

module _ (C : CCalls) where
  -- With an image in hand.
  pub record KeptC (xs image : List ℕ) (m : Map) : Type 0 where
    pub size : IsImage image
    pub leads : LeadsRight xs (trie_from image)
    pub means : Means leads.file.slots m
    pub looks_up : (name out : List ℕ) → LegalName name → C.look_up xs image name out ≡ held_says (m (filled name)) out

  abbrev pub InHandC : StateC → Type 0
  InHandC (running xs image m) = KeptC xs image m
  InHandC (down xs m) = Unit {0}

  -- A rebuilding into any 1,540 bytes gives an image with which all is kept.
  abbrev pub RebuildsC : List ℕ → Map → Type 0
  RebuildsC xs m = (image : List ℕ) → IsImage image → ((C.rebuild xs image).0 ≡ 151) × KeptC xs (C.rebuild xs image).1 m

  -- A recovery with a legal limit is never refused.
  pub data RecoversC (xs : List ℕ) (m : Map) (limit : ℕ) (out : List ℕ) : ℕ × List ℕ × List ℕ → Type 0 where
    after_freeing : (N : ℕ) {ys : List ℕ} → RebuildsC ys m → RecoversC xs m limit out (130, ys, sets out 0 (N ∷ []))
    nothing_to_do : RebuildsC xs m → RecoversC xs m limit out (131, xs, out)
    stopped_at_0 : limit ≡ 0 → RecoversC xs m limit out (112, xs, sets out 0 (0 ∷ []))

  -- What holds after any events.
  pub record HoldsC (s : StateC) : Type 0 where
    pub in_hand : InHandC s
    pub recovery : (limit : ℕ) (out : List ℕ) → limit ≤ 2 → RecoversC (file_of s) (said s) limit out (C.recover (file_of s) limit out)
    -- R13.3: a refused call, whose number is below 100, changes no byte, whatever the image.
    pub put_refused : (image name : List ℕ) (v run limit : ℕ) (out : List ℕ) → (C.put (file_of s) image name v run limit out).0 < 100
        → IsRefusal (change_refusal (file_of s) image out) (C.put (file_of s) image name v run limit out)
    pub remove_refused : (image name : List ℕ) (limit : ℕ) (out : List ℕ) → (C.remove (file_of s) image name limit out).0 < 100
        → IsRefusal (change_refusal (file_of s) image out) (C.remove (file_of s) image name limit out)
    pub recover_refused : (limit : ℕ) (out : List ℕ) → (C.recover (file_of s) limit out).0 < 100
        → IsRefusal (recover_refusal (file_of s) out) (C.recover (file_of s) limit out)
    -- R13.3: a call stopped after any of its stores; the image is as it was, byte for byte.
    pub put_stopped : (image name : List ℕ) (v run limit : ℕ) (out : List ℕ) → (C.put (file_of s) image name v run limit out).0 ≡ 112
        → StoppedC limit (file_of s) (C.put (file_of s) image name v run limit out).1 out (C.put (file_of s) image name v run limit out).3
    pub put_image : (image name : List ℕ) (v run limit : ℕ) (out : List ℕ) → (C.put (file_of s) image name v run limit out).0 ≡ 112
        → (C.put (file_of s) image name v run limit out).2 ≡ image
    pub remove_stopped : (image name : List ℕ) (limit : ℕ) (out : List ℕ) → (C.remove (file_of s) image name limit out).0 ≡ 112
        → StoppedC limit (file_of s) (C.remove (file_of s) image name limit out).1 out (C.remove (file_of s) image name limit out).3
    pub remove_image : (image name : List ℕ) (limit : ℕ) (out : List ℕ) → (C.remove (file_of s) image name limit out).0 ≡ 112
        → (C.remove (file_of s) image name limit out).2 ≡ image
    pub recover_stopped : (limit : ℕ) (out : List ℕ) → (C.recover (file_of s) limit out).0 ≡ 112
        → StoppedC limit (file_of s) (C.recover (file_of s) limit out).1 out (C.recover (file_of s) limit out).2

-- Demand 3 of the C calls: from every file that create gives, after all events.
pub record Demand3C (C : CCalls) : Type 0 where
  pub always : (xs : List ℕ) (version b slots : ℕ) (image : List ℕ) → (C.create xs version b slots image).0 ≡ 150 → (es : List EventC)
      → HoldsC C (after C es (start (C.create xs version b slots image)))
