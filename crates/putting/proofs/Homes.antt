-- The home of a name: how many entries its bucket has then, the content of a put, and what the runs say.
use Rattle.std.specs.Prelude.{Result}
use Rattle.model.proofs.Prelude.{List, ◌<◌, ◌^◌, ◌≡◌, ◌≤◌, arith, le-ltb, length, lt-ltb, nothing, some, subst, sym, ℕ}
use Rattle.model.specs.declared.Cause.{Cause}
use Rattle.model.specs.declared.Layout.{Layout}
use Rattle.model.specs.Results.{ReplacedContent}
use Rattle.model.specs.Order.{Low, Str}
use Rattle.model.specs.Entries.{Entry, content_from, find, insert, is_older, run_of_content}
use Rattle.model.specs.Files.{Slot, Sound}
use Rattle.model.specs.Changes.{call, put as asked, refuse}
use Rattle.model.specs.Calls.{PutDone, held, put_answer, put_by_stores, put_takes}
use Rattle.model.specs.declared.Trie.{Trie}
use Rattle.model.specs.Names.{Legal}
use Rattle.digits.specs.declared.Key.{Key}
use Rattle.digits.specs.Keys.{key_value, value}
use Rattle.model.specs.Places.{place_of}
use Rattle.model.specs.Format.{bytes_at_slot, kept_run, read_file}
use Rattle.model.proofs.Files.{well_parts}
use Rattle.model.proofs.Format.{put_fits}
use Rattle.model.specs.declared.Content.{Content}
use Rattle.entries.specs.Rows.{content_number}
use Rattle.entries.proofs.Contents.{run_is, value_is}
use Rattle.entries.proofs.Parts.{length_held, length_new}
use Rattle.bucket.specs.declared.slot.Slot.{Slot as View}
use Rattle.bucket.specs.Forms.{ReadAs}
use Rattle.slots.specs.declared.spot.Spot.{Spot}
use Rattle.slots.specs.Spots.{Fits, RowOf, SpotIn, SpotTold}
use Rattle.file.specs.declared.Size.{Size}
use Rattle.checking.specs.Homes.{Home}
use Rattle.checking.proofs.Ready.{slot_read}
use Rattle.putting.specs.declared.PutPlan.{PutPlan}
use Rattle.putting.specs.Plans.{PutTaken}

-- The spot of a name in its home, which is slot k.
pub record Stands (y : Layout) (fs : List Slot) (k : ℕ) (s : Spot) (n : Str) (l : Low) (u : Str) (es : List Entry) : Type 0 where
  pub layout_is : s.slot.layout ≡ y
  pub read : ReadAs s.slot.layout s.slot.bytes.now l u es
  pub home : Home k fs n l u es
  pub spot : SpotIn s n es

pub stands : (size : Size) (xs : List ℕ) {fs : List Slot} {k : ℕ} {n : Str} {x : View} {s : Spot} (name : Key) → read_file xs ≡ some (size.layout, fs)
    → Sound size.layout.b fs → {l : Low} {u : Str} {es : List Entry} → Home k fs n l u es → (x.bytes.now ≡ bytes_at_slot size.layout k xs) × (x.layout ≡ size.layout)
    → (s.slot ≡ x) × SpotTold s x.layout x.bytes.now name → Legal n → key_value name ≡ value n → Stands size.layout fs k s n l u es
stands size xs {k = k} {n = n} {x = x} name e S {l} {u} {es} H q p g i =
    let R : ReadAs x.layout x.bytes.now l u es = rw (q.1, q.0) (slot_read xs e S k H.is) in
    record { layout_is = rw p.0 q.1; read = rw p.0 R; home = H; spot = p.1 l u es R n g i }

-- What is told in the layout of the spot's slot is told in the file's.
module _ {y : Layout} {fs : List Slot} {k : ℕ} {s : Spot} {n : Str} {l : Low} {u : Str} {es : List Entry} (H : Stands y fs k s n l u es) where
  pub fits_there : (c : Content) → Fits y c → Fits s.slot.layout c
  fits_there c F = subst (λ (z : Layout). Fits z c) (sym H.layout_is) F

  pub row_there : (row : List ℕ) (ws : List Entry) → RowOf s.slot.layout row ws → RowOf y row ws
  row_there row ws = subst (λ (z : Layout). RowOf z row ws) H.layout_is

  pub taken_there : (r : Result PutPlan Cause) (v run : ℕ) → PutTaken r s.slot.layout fs n v run → PutTaken r y fs n v run
  taken_there r v run = subst (λ (z : Layout). PutTaken r z fs n v run) H.layout_is

  pub left_there : (xs : List ℕ) (t : Trie) (v run limit : ℕ) {d : PutDone} → put_by_stores xs t s.slot.layout fs n v limit (put_takes s.slot.layout fs n v run) ≡ d
      → put_by_stores xs t y fs n v limit (put_takes y fs n v run) ≡ d
  left_there xs t v run limit {d} = subst (λ (z : Layout). put_by_stores xs t z fs n v limit (put_takes z fs n v run) ≡ d) H.layout_is

-- How many entries there are then.
pub held_fits : (y : Layout) (xs : List ℕ) {l : Low} {u : Str} {es : List Entry} → ReadAs y xs l u es → (n : Str) (c w : ℕ) → find n es ≡ some w → length (insert n c es) ≤ y.b
held_fits y xs R n c w h = let p = well_parts y.b R.1 in omega (arith, length_held n c w p.3 h, p.4)

pub new_fits : {s : Spot} {n : Str} {es : List Entry} → SpotIn s n es → (c b : ℕ) → find n es ≡ nothing → s.count < b → length (insert n c es) ≤ b
new_fits {n = n} {es = es} P c b h k = omega (arith, length_new n c es h, P.counted)

-- What is said of the content that is replaced.
pub old_said : (c : Content) (w : ℕ) → c.value < 2 ^ 64 → content_number c ≡ w → ReplacedContent c ≡ put_answer (some w)
old_said c w small q = rw (← q, value_is c small, run_is c small)

pub old_run : (c : Content) (w : ℕ) → c.value < 2 ^ 64 → content_number c ≡ w → run_of_content w ≡ c.run
old_run c w small q = rw (← q) (run_is c small)

-- The content of a put has room.
pub put_content : (y : Layout) (c : Content) (v r : ℕ) → c.value ≡ v → c.run ≡ kept_run y r → v < 2 ^ 64 → r < 2 ^ 64
    → Fits y c × (content_number c ≡ content_from v (kept_run y r))
unfolding content_number
put_content y c v r p q h k = (rw (p, q) (put_fits y v r h k), rw (p, q))

-- Where what is held has no higher run, a put takes what its request takes; else it is refused.
module _ (y : Layout) {fs : List Slot} {A : ℕ} {n : Str} {l : Low} {u : Str} {es : List Entry} (H : Home A fs n l u es) (c run : ℕ) where
  held_is : held fs n ≡ find n es
  held_is = rw (← H.slot_is, H.is)

  pub takes_new : find n es ≡ nothing → put_takes y fs n c run ≡ call y.b (place_of y) fs (asked n c)
  unfolding put_takes is_older
  takes_new f = rw (held_is, f)

  module _ (w : ℕ) (f : find n es ≡ some w) where
    pub takes_newer : run_of_content w ≤ run → put_takes y fs n c run ≡ call y.b (place_of y) fs (asked n c)
    unfolding put_takes is_older
    takes_newer k = rw (held_is, f, le-ltb run (run_of_content w) k)

    pub takes_older : run < run_of_content w → put_takes y fs n c run ≡ refuse 12
    unfolding put_takes is_older
    takes_older k = rw (held_is, f, lt-ltb run (run_of_content w) k)
