-- Put, put together from the home of the name.
use Rattle.model.proofs.Prelude.{Bool, List, Option, [], ◌<◌, ◌∙◌, ◌∷◌, ◌≡◌, ◌≤◌, arith, false, get_or, le-leb, le-ltb, length, lt-ltb, ltb, ltb-false, nothing, refl, some, subst, sym, take_all, true, ℕ}
use Rattle.std.specs.Prelude.{Result, Ok, Err}
use Rattle.model.specs.declared.Cause.{Cause}
use Rattle.model.specs.declared.Put.{Put}
use Rattle.model.specs.declared.Cause.TheVariants.{IllegalName, OlderRun, WrongSize}
use Rattle.model.specs.declared.Layout.{Layout}
use Rattle.model.specs.Results.{Added, PutAnswer, PutRefused as Refused, PutStopped as Stopped, ReplacedContent}
use Rattle.model.specs.declared.Trie.{Trie}
use Rattle.model.specs.Order.{Low, Str}
use Rattle.model.specs.Tests.{is_legal_name}
use Rattle.model.specs.Names.{filled}
use Rattle.model.specs.Entries.{Entry, content_from, find, insert, run_of_content}
use Rattle.model.specs.Files.{Slot, used}
use Rattle.model.specs.Changes.{Result as Asked, Store, call, put as asked, put_in, refuse, stores}
use Rattle.model.specs.Calls.{PutDone, fine, held, looked_of, put_answer, put_by_stores, put_of, put_on_looked, put_takes, refusal_of, refusing, trie_after_put}
use Rattle.model.specs.Format.{Sizes, kept_run}
use Rattle.model.specs.Places.{place_of}
use Rattle.slots.specs.Spots.{Begins}
use Rattle.image.specs.Images.{image_length, trie_from}
use Rattle.image.proofs.Images.{image_back}
use Rattle.file.specs.declared.Plan.{Plan}
use Rattle.file.specs.declared.Size.{Size}
use Rattle.file.specs.Plans.{Committed, Fits, Planned}
use Rattle.checking.specs.Homes.{Home}
use Rattle.checking.proofs.Plans.{OneStore}
use Rattle.putting.specs.declared.PutPlan.{PutPlan}
use Rattle.putting.specs.Outcomes.{image_after, put_left}
use Rattle.putting.specs.Plans.{Of, PutAsked, PutPlanned, PutTaken, PutTold}
use Rattle.putting.proofs.Homes.{takes_new, takes_older}

-- One store: of a held name, or of a new one that fits.
module _ (y : Layout) {fs : List Slot} {A : ℕ} {n : Str} (c : ℕ) {l : Low} {u : Str} {es : List Entry} (H : Home A fs n l u es)
    (k : length (insert n c es) ≤ y.b) where
  call_put : call y.b (place_of y) fs (asked n c) ≡ stores ((A, used l u (insert n c es)) ∷ [])
  unfolding call put_in
  call_put = rw (← H.slot_is, H.is) (rw (le-leb (length (insert n c es)) y.b k))

  pub put_one : (p : Plan) (d : Put) (bytes : List ℕ) {o : Option ℕ} → find n es ≡ o → Begins bytes y (used l u (insert n c es)) → OneStore p A bytes
      → Ok d ≡ put_answer o → PutAsked (Ok (record { plan = p; done = d })) y fs n c
  put_one p d bytes f z q g =
      let a : Ok d ≡ put_answer (held fs n) = rw (← H.slot_is, H.is, f) g in
      subst (PutPlanned (Ok (record { plan = p; done = d })) y fs n) (sym call_put) ((q.0, (q.1, rw q.2 z)), a, refl)

pub fits_of : (p : Plan) {k : ℕ} (size : Size) → Of p k → k < size.slots → Sizes size.layout size.slots → Fits p size
fits_of p size q h l = rw (q.0, q.1) (h, l.slots_least)

-- None: what is held has a higher run.
pub put_older : (y : Layout) {fs : List Slot} {A : ℕ} {n : Str} {l : Low} {u : Str} {es : List Entry} → Home A fs n l u es → (c run w : ℕ)
    → find n es ≡ some w → run < run_of_content w → PutTaken (Err OlderRun) y fs n c run
unfolding refusal_of
put_older y {fs} {n = n} H c run w f k = subst (PutPlanned (Err OlderRun) y fs n) (sym (takes_older y H c run w f k)) refl

-- Of a name that is not held the runs say nothing.
pub put_new : (y : Layout) {fs : List Slot} {A : ℕ} {n : Str} {l : Low} {u : Str} {es : List Entry} → Home A fs n l u es → (c run : ℕ) (r : Result PutPlan Cause)
    → find n es ≡ nothing → PutAsked r y fs n c → PutTaken r y fs n c run
put_new y {fs} {n = n} H c run r f = subst (PutPlanned r y fs n) (sym (takes_new y H c run f))

pub split_taken : (xs image : List ℕ) (y : Layout) {fs : List Slot} {A : ℕ} {n : Str} {l : Low} {u : Str} {es : List Entry} → Home A fs n l u es → {c v : ℕ} → c ≡ v
    → (run limit : ℕ) {o : PutAnswer × List ℕ × List ℕ} → find n es ≡ nothing
    → o ≡ put_left image (put_by_stores xs (trie_from image) y fs n c limit (call y.b (place_of y) fs (asked n c)))
    → o ≡ put_left image (put_by_stores xs (trie_from image) y fs n v limit (put_takes y fs n v run))
split_taken xs image y H {c} {v} e run limit f h = rw (← e, takes_new y H c run f) h

-- What is left of a plan that is committed: the limit is below its stores, or they are all made.
module _ (xs ys : List ℕ) (t : Trie) (y : Layout) (fs : List Slot) (n : Str) (v limit : ℕ) (p : Plan) (d : Bool) (C : Committed d xs ys y p limit) (ss : List Store)
    (q : Planned p y ss) where
  pub stores_stopped : d ≡ true → put_by_stores xs t y fs n v limit (stores ss) ≡ record { answer = Stopped limit; file = ys; trie = t }
  unfolding put_by_stores
  stores_stopped e = let k = C ss q in let h : ltb limit (length ss) ≡ true = sym k.1 ∙ e in rw (h, k.0)

  pub stores_made : d ≡ false → put_by_stores xs t y fs n v limit (stores ss)
      ≡ record { answer = put_answer (held fs n); file = ys; trie = trie_after_put y.b (place_of y) fs n v ss t }
  unfolding put_by_stores
  stores_made e =
      let k = C ss q in let h : ltb limit (length ss) ≡ false = sym k.1 ∙ e in
      rw (h, k.0, take_all limit ss (ltb-false limit (length ss) h))

one_stays : (y : Layout) (fs : List Slot) (n : Str) (v : ℕ) (ss : List Store) (t : Trie) → length ss ≡ 1 → trie_after_put y.b (place_of y) fs n v ss t ≡ t
unfolding trie_after_put
one_stays y fs n v [] t e = refl
one_stays y fs n v (x ∷ []) t e = refl
one_stays y fs n v (x ∷ z ∷ ss) t e = absurd (omega arith)

pub one_refused : (xs : List ℕ) (t : Trie) (y : Layout) (fs : List Slot) (n : Str) (v limit : ℕ) {e : Cause} (a : Asked) → PutPlanned (Err e) y fs n a
    → put_by_stores xs t y fs n v limit a ≡ record { answer = Refused e; file = xs; trie = t }
unfolding put_by_stores
one_refused xs t y fs n v limit (refuse c) q = rw q
one_refused xs t y fs n v limit (stores ss) q = absurd q

module _ (xs ys : List ℕ) (t : Trie) (y : Layout) (fs : List Slot) (n : Str) (v limit : ℕ) (p : PutPlan) (d : Bool) (C : Committed d xs ys y p.plan limit) where
  pub one_stopped : (a : Asked) → PutPlanned (Ok p) y fs n a → d ≡ true → put_by_stores xs t y fs n v limit a ≡ record { answer = Stopped limit; file = ys; trie = t }
  one_stopped (refuse c) q e = absurd q
  one_stopped (stores ss) q e = stores_stopped xs ys t y fs n v limit p.plan d C ss q.0 e

  pub one_made : (a : Asked) → PutPlanned (Ok p) y fs n a → d ≡ false → put_by_stores xs t y fs n v limit a ≡ record { answer = Ok p.done; file = ys; trie = t }
  one_made (refuse c) q e = absurd q
  one_made (stores ss) q e =
      stores_made xs ys t y fs n v limit p.plan d C ss q.0 e ∙ rw (q.1, one_stays y fs n v ss t q.2)

-- A put that leaves the trie leaves its image.
pub trie_left : (r : PutAnswer) (ys image : List ℕ) → length image ≡ image_length → ((i : ℕ) → get_or image i 0 < 256) → {d : PutDone}
    → d ≡ record { answer = r; file = ys; trie = trie_from image } → (r, ys, image) ≡ put_left image d
trie_left r ys image e w {d} f =
    let back : image_after r (trie_from image) image ≡ image = same r in
    rw (f, back)
  where
    same : (a : PutAnswer) → image_after a (trie_from image) image ≡ image
    same Added = image_back image e w
    same (ReplacedContent c) = refl
    same (Stopped k) = refl
    same (Refused c) = refl

-- The same of contents and runs that are equal.
pub one_taken : (xs : List ℕ) {ys : List ℕ} (t : Trie) (y : Layout) (fs : List Slot) (n : Str) {c v run kept : ℕ} (limit : ℕ) {r : PutAnswer} → c ≡ v → run ≡ kept
    → put_by_stores xs t y fs n c limit (put_takes y fs n c run) ≡ record { answer = r; file = ys; trie = t }
    → put_by_stores xs t y fs n v limit (put_takes y fs n v kept) ≡ record { answer = r; file = ys; trie = t }
one_taken xs t y fs n limit e f h = rw (← e, ← f) h

-- The same of names that are equal.
pub put_named : {o : PutAnswer × List ℕ × List ℕ} (xs image : List ℕ) (size : Size) {m n : Str} (v run limit : ℕ) → m ≡ n
    → PutTold o xs image size m v run limit → PutTold o xs image size n v run limit
put_named xs image size v run limit e h fs f = rw (← e) (h fs f)

-- Of any file: what is refused before, and the rest.
module _ (xs image : List ℕ) (name : List ℕ) (v run limit : ℕ) where
  abbrev t : Trie
  t = trie_from image

  pub limit_refused : 2 < limit → (Refused WrongSize, xs, image) ≡ put_left image (put_of xs t name v run limit)
  unfolding put_of
  limit_refused h = rw (lt-ltb 2 limit h)

  pub name_refused : limit ≤ 2 → is_legal_name name ≡ false → (Refused IllegalName, xs, image) ≡ put_left image (put_of xs t name v run limit)
  unfolding put_of
  name_refused h e = rw (le-ltb 2 limit h, e)

  pub file_refused : (cause : Cause) → limit ≤ 2 → is_legal_name name ≡ true → looked_of xs t ≡ refusing cause
      → (Refused cause, xs, image) ≡ put_left image (put_of xs t name v run limit)
  unfolding put_of put_on_looked
  file_refused cause h e f = rw (le-ltb 2 limit h, e, f)

  pub put_fine : (o : PutAnswer × List ℕ × List ℕ) (y : Layout) (fs : List Slot) → limit ≤ 2 → is_legal_name name ≡ true → looked_of xs t ≡ fine y fs
      → o ≡ put_left image (put_by_stores xs t y fs (filled name) (content_from v (kept_run y run)) limit (put_takes y fs (filled name) (content_from v (kept_run y run)) (kept_run y run)))
      → o ≡ put_left image (put_of xs t name v run limit)
  unfolding put_of put_on_looked
  put_fine o y fs h e f m = rw (le-ltb 2 limit h, e, f) m
