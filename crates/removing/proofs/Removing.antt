-- Remove, put together from the home of the name, and the trie of what a merge leaves.
use Rattle.model.proofs.Prelude.{Bool, List, Option, [], ◌++◌, ◌-◌, ◌<◌, ◌∙◌, ◌∷◌, ◌≡◌, ◌≤◌, ap, arith, drop, false, le-ltb, length, length-append, length-drop, length-set, length-take-le, lt-ltb, ltb, ltb-false, nothing, refl, set, some, suc, subst, sym, take, take_all, take-take, true, ℕ}
use Rattle.std.specs.Prelude.{IsSome, Option as Maybe, None, Some}
use Rattle.model.specs.declared.Cause.{Cause}
use Rattle.model.specs.declared.Cause.TheVariants.{IllegalName, WrongSize}
use Rattle.model.specs.declared.Layout.{Layout}
use Rattle.model.specs.Results.{NotHeld, RemoveAnswer, RemoveRefused, RemoveStopped, Removed}
use Rattle.model.specs.declared.Trie.{Trie}
use Rattle.model.specs.Order.{Low, Str, none}
use Rattle.model.specs.Tests.{is_legal_name}
use Rattle.model.specs.Names.{Legal, filled}
use Rattle.model.specs.Entries.{Entry, find}
use Rattle.model.specs.Files.{Slot, Sound}
use Rattle.model.specs.Rebuilding.{rebuilt_trie}
use Rattle.model.specs.Changes.{Result, Store, call, refuse, removal, remove, remove_in, stored, stores, stores_if, trie_removed}
use Rattle.model.specs.Format.{AreBytes, file_size, read_file, read_slots}
use Rattle.model.specs.Places.{place_of}
use Rattle.model.specs.Calls.{RemoveDone, looked_of, refusing, remove_by_stores, remove_of, remove_on_looked, stores_bytes}
use Rattle.model.proofs.Calls.{Answered, is_made, remove_right}
use Rattle.model.proofs.Format.{headed_header_of, read_file_read}
use Rattle.model.proofs.Stores.{read_stored}
use Rattle.model.specs.Searches.{order_of, string_count, strings_of}
use Rattle.model.specs.Agreeing.{slots_between}
use Rattle.image.specs.Images.{image_of, trie_from}
use Rattle.trie.specs.declared.Strings.{Strings}
use Rattle.trie.specs.Strung.{Strung}
use Rattle.strings.specs.Arrays.{Listed}
use Rattle.rebuilding.specs.Runs.{rebuilt_of}
use Rattle.rebuilding.proofs.Right.{rebuilt_right}
use Rattle.file.specs.Holders.{HolderTold}
use Rattle.file.specs.Plans.{Committed}
use Rattle.checking.specs.declared.Checked.{Checked}
use Rattle.checking.specs.Ready.{Agreed, Ready}
use Rattle.removing.specs.declared.RemovePlan.{RemovePlan}
use Rattle.removing.specs.Merges.{Frees, Joined, Left, RebuildTold, RemoveAsked, RemovePlanned, RemoveTold}
use Rattle.removing.specs.Outcomes.{remove_left}
use Rattle.checking.specs.Homes.{Home}
use Rattle.checking.proofs.Ready.{ready_ordered}

-- Of a file that passed the checks.
module _ (y : Layout) {fs : List Slot} {A : ℕ} {n : Str} {l : Low} {u : Str} {es : List Entry} (H : Home A fs n l u es) where
  call_remove : call y.b (place_of y) fs (remove n) ≡ stores (stores_if (find n es) (removal y.b fs n A l u es))
  unfolding call remove_in
  call_remove = rw (← H.slot_is, H.is)

  pub remove_absent : find n es ≡ nothing → RemoveAsked None y fs (call y.b (place_of y) fs (remove n))
  unfolding stores_if
  remove_absent h = rw (call_remove, h)

  pub remove_held : (p : RemovePlan) (w : ℕ) → find n es ≡ some w → RemovePlanned p y fs (stores (removal y.b fs n A l u es))
      → RemoveAsked (Some p) y fs (call y.b (place_of y) fs (remove n))
  unfolding stores_if
  remove_held p w h q = rw (call_remove, h) q

-- The place of a name's home is one of the order.
pub home_place : {c : Checked} {xs : List ℕ} (R : Ready c xs) {n : Str} {r : ℕ} → Legal n → HolderTold xs c.size c.survey.order c.survey.count n r → r < c.survey.count
home_place R g h = omega (arith, (h.found R.slots (ready_ordered R R.is) g).inside, R.count_is)

-- What is planned where a plan frees a slot, and where it frees none.
none_freed : (p : RemovePlan) (y : Layout) (fs : List Slot) (ss : List Store) → p.right ≡ None → RemovePlanned p y fs (stores ss) → length ss ≡ 1
none_freed p y fs ss e q = subst (λ (r : Maybe ℕ). Frees r y.b fs ss) e q.1

one_freed : (p : RemovePlan) {right : ℕ} (y : Layout) (fs : List Slot) (ss : List Store) → p.right ≡ Some right → RemovePlanned p y fs (stores ss)
    → (length ss ≡ 2) × Joined y.b fs ss right
one_freed p {right} y fs ss e q = subst (λ (r : Maybe ℕ). Frees r y.b fs ss) e q.1

-- The slot that is freed has a place in the order.
freed_place : (p : RemovePlan) {right : ℕ} (y : Layout) (fs : List Slot) (a : Result) → p.right ≡ Some right → RemovePlanned p y fs a → right < length (order_of fs)
freed_place p y fs (refuse r) e q = absurd q
freed_place p y fs (stores ss) e q = (one_freed p y fs ss e q).1.inside

-- A sound file whose order is the old one without one place: its strings, and the image of their trie.
module _ (c : Checked) (xs : List ℕ) (rest : List ℕ) {right : ℕ} (inside : right < c.survey.count)
    (o : take (c.survey.count - 1) rest ≡ take right c.survey.order ++ drop (suc right) (take c.survey.count c.survey.order))
    {fs : List Slot} (e : read_file xs ≡ some (c.size.layout, fs)) (S : Sound c.size.layout.b fs) (n : length fs ≡ c.size.slots)
    (m : c.survey.count ≡ suc (length (order_of fs)))
    (i : order_of fs ≡ take right (take c.survey.count c.survey.order) ++ drop (suc right) (take c.survey.count c.survey.order)) where
  strung_without : {g : Maybe Strings} → Listed g xs c.size rest (c.survey.count - 1) → Strung g (strings_of fs) (slots_between fs none (strings_of fs))
  strung_without l =
      let before : take right (take c.survey.count c.survey.order) ≡ take right c.survey.order = take-take right c.survey.count c.survey.order (omega arith) in
      let listed : read_slots c.size.layout c.size.slots 0 xs ≡ some fs = rw (← n) (read_file_read xs e).listed in
      let count : c.survey.count - 1 ≡ length (order_of fs) = omega arith in
      let order : take (c.survey.count - 1) rest ≡ order_of fs = o ∙ sym (i ∙ ap (λ (ys : List ℕ). ys ++ drop (suc right) (take c.survey.count c.survey.order)) before) in
      l.strung fs listed S count order

  pub rebuilt_without : {s : Strings} {image : List ℕ} → Listed (Some s) xs c.size rest (c.survey.count - 1)
      → image ≡ image_of (rebuilt_of s.lens s.digits s.slots s.count) → string_count fs ≤ 256 → image ≡ image_of (rebuilt_trie fs)
  unfolding string_count
  rebuilt_without {s} l q few = q ∙ ap image_of (rebuilt_right S s (strung_without l) few)

-- The strings of what a merge leaves are 256 or fewer, so they are given.
module _ (c : Checked) (xs : List ℕ) (rest : List ℕ) {right : ℕ} (L : Left c xs right)
    (o : take (c.survey.count - 1) rest ≡ take right c.survey.order ++ drop (suc right) (take c.survey.count c.survey.order)) where
  left_strung : {g : Maybe Strings} → Listed g xs c.size rest (c.survey.count - 1)
      → Strung g (strings_of L.slots) (slots_between L.slots none (strings_of L.slots))
  left_strung = strung_without c xs rest L.inside o L.is L.sound L.as_many L.fewer L.order

  few_left : length (strings_of L.slots) ≤ 256
  unfolding string_count
  few_left = L.few

  pub left_there : {g : Maybe Strings} → Listed g xs c.size rest (c.survey.count - 1) → IsSome g
  left_there {g} l = go g (left_strung l)
    where
      go : (h : Maybe Strings) → Strung h (strings_of L.slots) (slots_between L.slots none (strings_of L.slots)) → IsSome h
      go None many = absurd (omega (arith, many, few_left))
      go (Some s) given = refl

  pub rebuild_told : {s : Strings} {image : List ℕ} → Listed (Some s) xs c.size rest (c.survey.count - 1)
      → image ≡ image_of (rebuilt_of s.lens s.digits s.slots s.count) → image ≡ image_of (rebuilt_trie L.slots)
  rebuild_told l q = rebuilt_without c xs rest L.inside o L.is L.sound L.as_many L.fewer L.order l q L.few

-- What a remove leaves, by its parts, and what it is to leave.
abbrev leaving : RemoveAnswer → List ℕ → Trie → RemoveDone
leaving a ys t = record { answer = a; file = ys; trie = t }

abbrev left_of : List ℕ → List ℕ → List ℕ → ℕ → RemoveAnswer × List ℕ × List ℕ
left_of xs image name limit = remove_left image (remove_of xs (trie_from image) name limit)

-- What is left of a plan that is committed.
module _ (xs ys : List ℕ) (t : Trie) (c : Checked) (R : Ready c xs) (limit : ℕ) (p : RemovePlan) (d : Bool) (C : Committed d xs ys c.size.layout p.plan limit) where
  abbrev y : Layout
  y = c.size.layout

  abbrev fs : List Slot
  fs = R.slots

  by_stopped : (a : Result) → RemovePlanned p y fs a → d ≡ true → leaving (RemoveStopped limit) ys t ≡ remove_by_stores xs t y fs limit a
  unfolding remove_by_stores
  by_stopped (refuse r) q e = absurd q
  by_stopped (stores ss) q e =
      let k = C ss q.0 in let h : ltb limit (length ss) ≡ true = sym k.1 ∙ e in rw (h, k.0)

  by_one : (a : Result) → RemovePlanned p y fs a → d ≡ false → p.right ≡ None → leaving (Removed 1) ys t ≡ remove_by_stores xs t y fs limit a
  unfolding remove_by_stores trie_removed
  by_one (refuse r) q e h = absurd q
  by_one (stores []) q e h = absurd (omega (arith, none_freed p y fs [] h q))
  by_one (stores (v ∷ [])) q e h =
      let m = C (v ∷ []) q.0 in let f : ltb limit 1 ≡ false = sym m.1 ∙ e in
      rw (f, m.0, take_all limit (v ∷ []) (ltb-false limit 1 f))
  by_one (stores (v ∷ w ∷ ss)) q e h = absurd (omega (arith, none_freed p y fs (v ∷ w ∷ ss) h q))

  few_strings : string_count fs ≤ 256
  unfolding string_count
  few_strings = R.few

  -- What a merge leaves.
  module _ (bytes : AreBytes xs) (n : Str) {right : ℕ} (h : p.right ≡ Some right) (e : d ≡ false) where
    merge_left : (a : Result) → RemovePlanned p y fs a → Answered y.b (place_of y) fs (remove n) a → Left c ys right
    unfolding file_size
    merge_left (refuse r) q A = absurd q
    merge_left (stores []) q A = absurd (omega (arith, (one_freed p y fs [] h q).0))
    merge_left (stores (v ∷ [])) q A = absurd (omega (arith, (one_freed p y fs (v ∷ []) h q).0))
    merge_left (stores (v ∷ w ∷ x ∷ ss)) q A = absurd q.0
    merge_left (stores (v ∷ w ∷ [])) q (is_made z) =
        let J = (one_freed p y fs (v ∷ w ∷ []) h q).1 in
        let m = C (v ∷ w ∷ []) q.0 in
        let f : ltb limit 2 ≡ false = sym m.1 ∙ e in
        let left : ys ≡ stores_bytes y (v ∷ w ∷ []) xs = m.0 ∙ ap (λ ss. stores_bytes y ss xs) (take_all limit (v ∷ w ∷ []) (ltb-false limit 2 f)) in
        let slots : length fs ≡ c.size.slots =
        (let k : ◌≡◌ {A = Option (Layout × ℕ)} (some (y, c.size.slots)) (some (y, length fs)) = sym R.said.header ∙ headed_header_of (read_file_read xs R.is).headed in
        let j : ◌≡◌ {A = Layout × ℕ} (y, c.size.slots) (y, length fs) = cc in
        sym (ap (λ (x : Layout × ℕ). x.1) j)) in
        let read : read_file ys ≡ some (y, stored (v ∷ w ∷ []) fs) = rw left (read_stored y xs bytes R.is (place_of y) z tt J.sound) in
        let as_many : length (stored (v ∷ w ∷ []) fs) ≡ c.size.slots = length-set (set fs v.0 v.1) w.0 w.1 ∙ length-set fs v.0 v.1 ∙ slots in
        record {
          slots = stored (v ∷ w ∷ []) fs;
          is = read;
          sized = record { legal = R.said.sized.legal; whole = (read_file_read ys read).headed.whole ∙ ap (file_size y) as_many };
          sound = J.sound;
          as_many = as_many;
          slots_inside = R.slots_inside;
          count_most = R.count_most;
          inside = omega (arith, J.inside, R.count_is);
          fewer = omega (arith, ap length J.order, length-append (take right (order_of fs)) (drop (suc right) (order_of fs)), length-take-le right (order_of fs) (omega (arith, J.inside)), length-drop (suc right) (order_of fs), J.inside, R.count_is);
          order = rw R.order_is J.order;
          few = omega (arith, J.few, few_strings);
        }

    -- The trie is the rebuilt one.
    by_merge : (a : Result) (q : RemovePlanned p y fs a) (A : Answered y.b (place_of y) fs (remove n) a) (image : List ℕ) {image' : List ℕ}
        → image' ≡ image_of (rebuilt_trie (merge_left a q A).slots) → (Removed 2, ys, image') ≡ remove_left image (remove_by_stores xs t y fs limit a)
    unfolding remove_by_stores trie_removed merge_left
    by_merge (refuse r) q A image T = absurd q
    by_merge (stores []) q A image T = absurd (omega (arith, (one_freed p y fs [] h q).0))
    by_merge (stores (v ∷ [])) q A image T = absurd (omega (arith, (one_freed p y fs (v ∷ []) h q).0))
    by_merge (stores (v ∷ w ∷ x ∷ ss)) q A image T = absurd q.0
    by_merge (stores (v ∷ w ∷ [])) q (is_made z) image T =
        let m = C (v ∷ w ∷ []) q.0 in
        let f : ltb limit 2 ≡ false = sym m.1 ∙ e in
        let left : ys ≡ stores_bytes y (v ∷ w ∷ []) xs = m.0 ∙ ap (λ ss. stores_bytes y ss xs) (take_all limit (v ∷ w ∷ []) (ltb-false limit 2 f)) in
        rw (f, left, T)

-- A call that is past its refusals, and what is planned for the name.
pub record Prepared (xs image name : List ℕ) (limit : ℕ) (c : Checked) (p : Maybe RemovePlan) : Type 0 where
  pub bytes : AreBytes xs
  pub allowed : limit ≤ 2
  pub legal : is_legal_name name ≡ true
  pub agreed : Agreed c xs (trie_from image)
  pub told : RemoveTold p c xs (filled name)

module _ {xs image name : List ℕ} {limit : ℕ} {c : Checked} {r : Maybe RemovePlan} (P : Prepared xs image name limit c r) where
  abbrev R : Ready c xs
  R = P.agreed.ready

  abbrev asked : Result
  asked = call c.size.layout.b (place_of c.size.layout) R.slots (remove (filled name))

  -- What it leaves is what its stores leave.
  left_by : {o : RemoveDone} → o ≡ remove_by_stores xs (trie_from image) c.size.layout R.slots limit asked → remove_left image o ≡ left_of xs image name limit
  unfolding remove_of remove_on_looked
  left_by m = rw (le-ltb 2 limit P.allowed, P.legal, P.agreed.looked) (ap (λ (x : RemoveDone). remove_left image x) m)

  pub left_absent : r ≡ None → (NotHeld, xs, image) ≡ left_of xs image name limit
  unfolding remove_by_stores stores_bytes trie_removed
  left_absent e =
      let q : asked ≡ stores [] = subst (λ (x : Maybe RemovePlan). RemoveAsked x c.size.layout R.slots asked) e (P.told R.slots R.is) in
      let absent : leaving NotHeld xs (trie_from image) ≡ remove_by_stores xs (trie_from image) c.size.layout R.slots limit asked = rw (q, le-ltb limit 0 (omega arith)) in
      left_by absent

  module _ {p : RemovePlan} (some_plan : r ≡ Some p) where
    planned : RemovePlanned p c.size.layout R.slots asked
    planned = subst (λ (x : Maybe RemovePlan). RemoveAsked x c.size.layout R.slots asked) some_plan (P.told R.slots R.is)

    pub freed_inside : {right : ℕ} → p.right ≡ Some right → right < c.survey.count
    freed_inside h = omega (arith, R.count_is, freed_place p c.size.layout R.slots asked h planned)

    answered : Answered c.size.layout.b (place_of c.size.layout) R.slots (remove (filled name)) asked
    answered = remove_right c.size.layout.b (place_of c.size.layout) R.slots R.sound (filled name)

    module _ {ys : List ℕ} (d : Bool) (C : Committed d xs ys c.size.layout p.plan limit) where
      pub left_stopped : d ≡ true → (RemoveStopped limit, ys, image) ≡ left_of xs image name limit
      left_stopped e = left_by (by_stopped xs ys (trie_from image) c R limit p d C asked planned e)

      pub left_removed : d ≡ false → p.right ≡ None → (Removed 1, ys, image) ≡ left_of xs image name limit
      left_removed e h = left_by (by_one xs ys (trie_from image) c R limit p d C asked planned e h)

      module _ {right : ℕ} (h : p.right ≡ Some right) (e : d ≡ false) where
        pub freed_left : Left c ys right
        freed_left = merge_left xs ys (trie_from image) c R limit p d C P.bytes (filled name) h e asked planned answered

        pub left_merged : {image' : List ℕ} → RebuildTold image' c ys right → (Removed 2, ys, image') ≡ left_of xs image name limit
        unfolding freed_left
        left_merged T =
            by_merge xs ys (trie_from image) c R limit p d C P.bytes (filled name) h e asked planned answered image (T freed_left) ∙ left_by refl

-- What is refused before that, with no byte changed.
module _ (xs image name : List ℕ) (limit : ℕ) where
  pub limit_refused : 2 < limit → (RemoveRefused WrongSize, xs, image) ≡ left_of xs image name limit
  unfolding remove_of
  limit_refused h = rw (lt-ltb 2 limit h)

  pub name_refused : limit ≤ 2 → is_legal_name name ≡ false → (RemoveRefused IllegalName, xs, image) ≡ left_of xs image name limit
  unfolding remove_of
  name_refused h e = rw (le-ltb 2 limit h, e)

  pub file_refused : (cause : Cause) → limit ≤ 2 → is_legal_name name ≡ true → looked_of xs (trie_from image) ≡ refusing cause
      → (RemoveRefused cause, xs, image) ≡ left_of xs image name limit
  unfolding remove_of remove_on_looked
  file_refused cause h e f = rw (le-ltb 2 limit h, e, f)
