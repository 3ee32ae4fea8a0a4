-- Put into a full bucket: what refuses the split, and its two stores.
use Rattle.model.proofs.Prelude.{Bool, List, Option, [], ◌+◌, ◌-◌, ◌<◌, ◌∙◌, ◌≡◌, ◌≤◌, ap, ap₂, arith, clash, cond, dec_lt, false, le-leb, le-ltb, leb, length, lt-leb, lt-ltb, ltb, nothing, refl, some, subst, suc, sym, take, true, ℕ}
use Rattle.std.specs.Prelude.{IsSome, Option as Maybe, None, Some}
use Rattle.model.specs.declared.Cause.TheVariants.{ManyStrings, NoFreeSlot}
use Rattle.model.specs.declared.Layout.{Layout}
use Rattle.model.specs.Results.{Added, PutRefused as Refused, PutStopped as Stopped}
use Rattle.model.specs.declared.Trie.{Trie}
use Rattle.model.specs.Order.{Low, Str, ◌⊑◌, ◌◁◌, diff, none}
use Rattle.model.specs.Names.{Legal}
use Rattle.model.specs.Entries.{Entry, Row, insert, name_at}
use Rattle.model.specs.Files.{In, Slot, Sound, head, slot_at}
use Rattle.model.specs.Tries.{Agrees, root, walk_trie}
use Rattle.model.specs.Agreeing.{is_agreeing, slots_between}
use Rattle.model.specs.Growth.{grown_trie}
use Rattle.model.specs.Changes.{Lowest, Store, call, halves, put as asked, put_in, refuse, split_of, stored, stores}
use Rattle.model.specs.Format.{bytes_at_slot, header_of, laid_out, read_file, read_slots}
use Rattle.model.specs.Calls.{held, put_answer, put_by_stores, refusal_of, trie_after_put}
use Rattle.model.specs.Places.{place_of}
use Rattle.model.proofs.Agreeing.{agrees_is_agreeing}
use Rattle.model.proofs.Entries.{row_at, row_insert}
use Rattle.model.proofs.Files.{well_parts}
use Rattle.model.proofs.Format.{headed_header_of, read_file_read}
use Rattle.model.proofs.Calls.{free_lowest}
use Rattle.model.proofs.Places.{place_lt}
use Rattle.model.proofs.Walks.{live_cells, path_cells, spot_cells, top_side}
use Rattle.model.proofs.GrownTries.{agreed_walk}
use Rattle.model.specs.Searches.{first, is_free, string_count, strings_of}
use Rattle.entries.proofs.Parts.{length_new}
use Rattle.bucket.specs.Forms.{ReadAs}
use Rattle.slots.specs.Halves.{LowerTold, UpperTold}
use Rattle.image.specs.Images.{image_of, trie_from}
use Rattle.file.specs.declared.Plan.{Plan}
use Rattle.file.specs.declared.Size.{Size}
use Rattle.file.specs.Plans.{Committed, Planned}
use Rattle.file.specs.Maps.{RoomTold, map_of, room_of}
use Rattle.file.specs.Sizes.{Inside as RoomInside, Saying, Sized}
use Rattle.file.proofs.Surveying.{said_read}
use Rattle.trie.specs.declared.Strings.{Strings}
use Rattle.trie.specs.Places.{Placed}
use Rattle.trie.specs.Strung.{Holds, Strung, lengths}
use Rattle.trie.specs.Walks.{Ended}
use Rattle.strings.specs.Arrays.{Listed}
use Rattle.agreement.specs.Decides.{Decided, Decides}
use Rattle.growth.specs.Grows.{Grows}
use Rattle.growth.proofs.Asking.{asked as grown_asked}
use Rattle.checking.specs.declared.Checked.{Checked}
use Rattle.checking.specs.Ready.{Agreed, Ready}
use Rattle.checking.proofs.Plans.{TwoStores}
use Rattle.checking.proofs.Ready.{ready_count, ready_order, slot_read}
use Rattle.splitting.specs.declared.Split.{Split}
use Rattle.splitting.specs.Divides.{Divides, Found}
use Rattle.splitting.specs.Parts.{Parted}
use Rattle.splitting.proofs.Counting.{split_count}
use Rattle.splitting.proofs.Halving.{new_slot_is, old_slot_is, split_begins, split_is, split_some}
use Rattle.putting.specs.declared.Standing.{Standing}
use Rattle.putting.specs.Full.{DivideTold, Full, SplitTold, StandingTold}
use Rattle.putting.proofs.Putting.{stores_made, stores_stopped}

-- A free slot that was found is one of the file's.
pub room_inside : {r : Maybe ℕ} {k n : ℕ} → r ≡ Some k → RoomInside r n → k < n
room_inside {r} {k} {n} e t = subst (λ (x : Maybe ℕ). RoomInside x n) e t

-- What the checks found, said of the slots that are read.
record Known (c : Checked) (xs : List ℕ) (t : Trie) (fs : List Slot) : Type 0 where
  sound : Sound c.size.layout.b fs
  agrees : Agrees fs t
  map_is : c.survey.used ≡ map_of fs

known : {c : Checked} {xs : List ℕ} {t : Trie} {fs : List Slot} → Agreed c xs t → read_file xs ≡ some (c.size.layout, fs) → Known c xs t fs
known {c} {xs} {t} {fs} G e =
    let f : ◌≡◌ {A = Option (Layout × List Slot)} (some (c.size.layout, G.ready.slots)) (some (c.size.layout, fs)) = sym G.ready.is ∙ e in
    let g : ◌≡◌ {A = Layout × List Slot} (c.size.layout, G.ready.slots) (c.size.layout, fs) = cc in
    subst (Known c xs t) (ap (λ (x : Layout × List Slot). x.1) g)
    (record { sound = G.ready.sound; agrees = G.agrees; map_is = G.ready.used_is })

-- As many slots as the header says.
slots_are : (xs : List ℕ) {y : Layout} {slots : ℕ} {fs : List Slot} → read_file xs ≡ some (y, fs) → header_of xs ≡ some (y, slots) → length fs ≡ slots
slots_are xs {y} {slots} {fs} e h =
    let q : ◌≡◌ {A = Option (Layout × ℕ)} (some (y, length fs)) (some (y, slots)) = sym (headed_header_of (read_file_read xs e).headed) ∙ h in
    let p : ◌≡◌ {A = Layout × ℕ} (y, length fs) (y, slots) = cc in
    ap (λ (x : Layout × ℕ). x.1) p

listed_slots : (xs : List ℕ) (size : Size) → Saying size xs → {fs : List Slot} → read_file xs ≡ some (size.layout, fs) → read_slots size.layout size.slots 0 xs ≡ some fs
unfolding laid_out
listed_slots xs size h {fs} e = go (read_slots size.layout size.slots 0 xs) (sym (said_read xs size h) ∙ e)
  where
    go : (o : Option (List Slot)) → laid_out size.layout o ≡ some (size.layout, fs) → o ≡ some fs
    go nothing q = clash cc
    go (some gs) q =
        let p : ◌≡◌ {A = Layout × List Slot} (size.layout, gs) (size.layout, fs) = cc in
        ap some (ap (λ (x : Layout × List Slot). x.1) p)

-- A new name of a full bucket, in a file whose slots are fs.
module _ (y : Layout) (two : 2 ≤ y.b) (few : y.b ≤ 16) (xs : List ℕ) {fs : List Slot} (e : read_file xs ≡ some (y, fs)) (S : Sound y.b fs) (t : Trie)
    {A : ℕ} {n : Str} {v : ℕ} {l : Low} {u : Str} {es : List Entry} {row : List ℕ} (F : Full y fs A n v l u es row) where
  abbrev ws : List Entry
  ws = insert n v es

  -- The split string and the place of the split key.
  abbrev string : Str
  string = split_of y.b (place_of y) ws

  at_a : ReadAs y (bytes_at_slot y A xs) l u es
  at_a = slot_read xs e S A F.home.is

  pub row_all : Row l ws u
  row_all = row_insert n v F.legal F.home.above F.home.within (well_parts y.b at_a.1).3

  pub length_all : length ws ≡ y.b + 1
  length_all = omega (arith, length_new n v es F.new, F.counted)

  -- The stores of a split, planned.
  both_planned : {s : Split} → Divides s y t ws → (N : ℕ) (p : Plan) (slot new old : List ℕ) → slot ≡ bytes_at_slot y A xs
      → UpperTold new y slot row (take s.len s.string) s.stay → LowerTold old y slot row (take s.len s.string) s.stay → TwoStores p N new A old
      → Planned p y (halves y.b (place_of y) N A l u ws)
  both_planned {s} D N p slot new old here new_is old_is q =
      let at_slot : ReadAs y slot l u es = subst (λ (z : List ℕ). ReadAs y z l u es) (sym here) at_a in
      let x = new_slot_is row_all y two length_all D slot row at_slot F.row_is new new_is in
      let z = old_slot_is row_all y two length_all D slot row at_slot F.row_is old old_is in
      (q.0, (q.1, rw q.2 x), (q.3, rw q.4 z))

  -- What is told of them once they are made, and the trie then.
  both_said : put_answer (held fs n) ≡ Added
  both_said = rw (← F.home.slot_is, F.home.is, F.new)

  both_grown : (N : ℕ) → trie_after_put y.b (place_of y) fs n v (halves y.b (place_of y) N A l u ws) t ≡ grown_trie t (name_at ws (place_of y ws)) string A N
  unfolding trie_after_put
  both_grown N = rw F.home.is

  -- The split key is a name of A's range, and its walk over a trie that agrees ends.
  abbrev c : Str
  c = name_at ws (place_of y ws)

  c_in : Legal c × (l ◁ c) × (c ⊑ u)
  c_in = row_at row_all (place_of y ws) (omega (arith, length_all, place_lt y two ws))

  module _ (G : Agrees fs t) {s : Split} (D : Divides s y t ws) where
    abbrev path : Str
    path = path_cells (live_cells t) c (suc (length (live_cells t))) [] (top_side t)

    walk_ended : Ended s.walk path (spot_cells (live_cells t) c (suc (length (live_cells t))) [] root (top_side t)) (walk_trie t c)
    walk_ended = rw (agreed_walk S G c) at D.walked

    pub grown_is : {places lens : List ℕ} → Placed t places → take (length (strings_of fs)) lens ≡ lengths (strings_of fs) → (N : ℕ) (r : Trie)
        → Grows t places lens s.walk (take s.len s.string) s.shared A N r → r ≡ grown_trie t c string A N
    grown_is {places} {lens} P k N r g =
        let q : take s.len s.string ≡ string = split_is row_all y two length_all D in
        let i : In (head (slot_at fs A)) c = rw F.home.is (tt, c_in.1, c_in.2) in
        subst (λ (z : Str). Grows t places lens s.walk z s.shared A N r) q g c
        (grown_asked S G s.walk P k (split_some row_all y.b (place_of y ws) (place_lt y two ws) length_all) (split_begins row_all y.b (place_of y ws) (place_lt y two ws) length_all) i D.walked D.shares)

    pub count_after : (N : ℕ) → Lowest fs N → string_count (stored (halves y.b (place_of y) N A l u ws) fs) ≡ t.count + (s.len - s.shared)
    count_after N L =
        let h : s.shared ≡ diff string path = D.shares ∙ ap (diff string) walk_ended.path in
        split_count y.b fs S G A l u es F.home.is n v F.legal F.home.above F.home.within (omega (arith, length_all)) (place_of y ws) (place_lt y two ws) N L
        ∙ ap₂ (λ (i j : ℕ). t.count + (i - j)) (sym D.len_is) (sym h)

  -- What is asked of a full bucket.
  abbrev N : ℕ
  N = first is_free fs

  abbrev both : List Store
  both = halves y.b (place_of y) N A l u ws

  call_split : call y.b (place_of y) fs (asked n v) ≡ cond (ltb N (length fs)) (cond (leb (string_count (stored both fs)) 256) (stores both) (refuse 6)) (refuse 5)
  unfolding call put_in
  call_split = rw (← F.home.slot_is, F.home.is) (rw (lt-leb (length ws) y.b (omega (arith, length_all))))

  pub no_room : length fs ≤ N → call y.b (place_of y) fs (asked n v) ≡ refuse 5
  no_room h = call_split ∙ rw (le-ltb N (length fs) h)

  pub too_many : N < length fs → 256 < string_count (stored both fs) → call y.b (place_of y) fs (asked n v) ≡ refuse 6
  too_many h k = call_split ∙ rw (lt-ltb N (length fs) h, lt-leb (string_count (stored both fs)) 256 k)

  pub both_made : N < length fs → string_count (stored both fs) ≤ 256 → call y.b (place_of y) fs (asked n v) ≡ stores both
  both_made h k = call_split ∙ rw (lt-ltb N (length fs) h, le-leb (string_count (stored both fs)) 256 k)

-- The room that was found.
room_full : (fs : List Slot) → room_of fs ≡ None → length fs ≤ first is_free fs
unfolding room_of
room_full fs e = elim (dec_lt (first is_free fs) (length fs)) [
  | no h ↦ omega arith
  | yes h ↦ let q : ◌≡◌ {A = Maybe ℕ} (Some (first is_free fs)) None = rw (lt-ltb (first is_free fs) (length fs) h) at e in
      clash cc
]

room_at : (fs : List Slot) (k : ℕ) → room_of fs ≡ Some k → (k ≡ first is_free fs) × (first is_free fs < length fs)
unfolding room_of
room_at fs k e = elim (dec_lt (first is_free fs) (length fs)) [
  | yes h ↦ let q : ◌≡◌ {A = Maybe ℕ} (Some (first is_free fs)) (Some k) = rw (lt-ltb (first is_free fs) (length fs) h) at e in
      let p : k ≡ first is_free fs = cc in (p, h)
  | no h ↦ let q : ◌≡◌ {A = Maybe ℕ} None (Some k) = rw (le-ltb (first is_free fs) (length fs) (omega arith)) at e in
      clash cc
]

-- Of a file and a trie that passed the checks.
module _ {c : Checked} {xs : List ℕ} {t : Trie} (G : Agreed c xs t) where
  two : 2 ≤ c.size.layout.b
  two = G.ready.said.sized.legal.b_least

  few_entries : c.size.layout.b ≤ 16
  few_entries = G.ready.said.sized.legal.b_most

  lowest : {room : Maybe ℕ} → RoomTold c.survey.used c.size.slots room → {fs : List Slot} → read_file xs ≡ some (c.size.layout, fs) → room ≡ room_of fs
  lowest R {fs} e = R.lowest fs (slots_are xs e G.ready.said.header) G.ready.said.sized.legal.slots_most (known G e).map_is

-- The two stores of a split.
pub divide_told : (xs : List ℕ) (size : Size) → Sized (length xs) size → (A : ℕ) (row : List ℕ) {p : Plan} {N : ℕ} {s : Split} {slot new old : List ℕ}
    → slot ≡ bytes_at_slot size.layout A xs → UpperTold new size.layout slot row (take s.len s.string) s.stay
    → LowerTold old size.layout slot row (take s.len s.string) s.stay → TwoStores p N new A old → DivideTold p xs size A N row s
divide_told xs size Z A row {p} {N} {s} {slot} {new} {old} here new_is old_is q fs e S n v l u es F t D =
    both_planned size.layout Z.legal.b_least Z.legal.b_most xs e S t F D N p slot new old here new_is old_is q

-- The strings of a file that passed the checks are given: they are 256 or fewer.
module _ {c : Checked} {xs : List ℕ} (R : Ready c xs) {g : Maybe Strings} (L : Listed g xs c.size c.survey.order c.survey.count) where
  abbrev ss : List Str
  ss = strings_of R.slots

  pub strings_there : IsSome g
  strings_there = go g (L.strung R.slots (listed_slots xs c.size R.said R.is) R.sound R.count_is R.order_is)
    where
      go : (h : Maybe Strings) → Strung h ss (slots_between R.slots none ss) → IsSome h
      go None many = absurd (omega (arith, many, R.few))
      go (Some s) given = refl

-- And a trie that agrees with it is seen to: where the cells stand, and how long the strings are.
module _ {c : Checked} {xs : List ℕ} {t : Trie} (G : Agreed c xs t) {s : Strings} (L : Listed (Some s) xs c.size c.survey.order c.survey.count) where
  held_are : {fs : List Slot} → read_file xs ≡ some (c.size.layout, fs) → Holds s (strings_of fs) (slots_between fs none (strings_of fs))
  held_are {fs} e = L.strung fs (listed_slots xs c.size G.ready.said e) (known G e).sound (ready_count G.ready e) (ready_order G.ready e)

  pub places_there : (r : Maybe (List ℕ)) → Decides t (Some s) r → IsSome r
  places_there r D = go r (D c.size.layout.b G.ready.slots G.ready.sound (held_are G.ready.is))
    where
      agree : is_agreeing G.ready.slots t ≡ true
      agree = agrees_is_agreeing c.size.layout.b G.ready.sound G.agrees

      go : (o : Maybe (List ℕ)) → Decided G.ready.slots t o → IsSome o
      go None apart = let z : ◌≡◌ {A = Bool} true false = sym agree ∙ apart in clash cc
      go (Some places) placed = refl

  pub standing_told : {r : Maybe (List ℕ)} {places : List ℕ} → Decides t (Some s) r → r ≡ Some places → StandingTold (record { places = places; lens = s.lens }) c xs t
  standing_told {r} {places} D q fs e =
      let d : Decided fs t (Some places) = subst (Decided fs t) q (D c.size.layout.b fs (known G e).sound (held_are e)) in
      (d.1, (held_are e).lens_are)

module _ (image : List ℕ) {c : Checked} {xs : List ℕ} (G : Agreed c xs (trie_from image)) (A : ℕ) (row : List ℕ) (limit : ℕ) where
  abbrev y : Layout
  y = c.size.layout

  abbrev t : Trie
  t = trie_from image

  -- The room for the new slot.
  module _ {room : Maybe ℕ} (R : RoomTold c.survey.used c.size.slots room) where
    pub full_told : room ≡ None → SplitTold (Refused NoFreeSlot, xs, image) xs image c.size A row limit
    unfolding put_by_stores refusal_of
    full_told q fs e n v l u es F = rw (no_room y (two G) (few_entries G) xs e (known G e).sound t F (room_full fs (sym (lowest G R e) ∙ q)))

    module _ {N : ℕ} (q : room ≡ Some N) {s : Split} (m : Parted s y.b) (f : Found s y t row) where
      -- What the split is of, and how many strings there are then.
      module _ {fs : List Slot} (e : read_file xs ≡ some (y, fs)) {n : Str} {v : ℕ} {l : Low} {u : Str} {es : List Entry}
          (F : Full y fs A n v l u es row) where
        divides : Divides s y t (insert n v es)
        divides =
            let S = (known G e).sound in
            f l u (insert n v es) (row_all y (two G) (few_entries G) xs e S t F) (length_all y (two G) (few_entries G) xs e S t F) F.row_is

        found : (N ≡ first is_free fs) × (first is_free fs < length fs)
        found = room_at fs N (sym (lowest G R e) ∙ q)

        counted : string_count (stored (halves y.b (place_of y) (first is_free fs) A l u (insert n v es)) fs) ≡ t.count + (s.len - s.shared)
        counted =
            count_after y (two G) (few_entries G) xs e (known G e).sound t F (known G e).agrees divides (first is_free fs) (free_lowest fs found.1)

        -- The stores that are asked for.
        asked_both : t.count + s.len ≤ 256 + s.shared → call y.b (place_of y) fs (asked n v) ≡ stores (halves y.b (place_of y) N A l u (insert n v es))
        asked_both h =
            both_made y (two G) (few_entries G) xs e (known G e).sound t F found.1 (omega (arith, m.shared_most, h, counted))
            ∙ ap (λ (k : ℕ). stores (halves y.b (place_of y) k A l u (insert n v es))) (sym found.0)

      pub many_told : 256 + s.shared < t.count + s.len → SplitTold (Refused ManyStrings, xs, image) xs image c.size A row limit
      unfolding put_by_stores refusal_of
      many_told h fs e n v l u es F =
          rw (too_many y (two G) (few_entries G) xs e (known G e).sound t F (found e F).1 (omega (arith, m.shared_most, h, counted e F)))

      module _ (h : t.count + s.len ≤ 256 + s.shared) (p : Plan) (D : DivideTold p xs c.size A N row s) {ys : List ℕ} {d : Bool}
          (C : Committed d xs ys y p limit) where
        pub split_stopped : d ≡ true → SplitTold (Stopped limit, ys, image) xs image c.size A row limit
        split_stopped k fs e n v l u es F =
            let P = D fs e (known G e).sound n v l u es F t (divides e F) in
            rw (asked_both e F h, stores_stopped xs ys t y fs n v limit p d C (halves y.b (place_of y) N A l u (insert n v es)) P k)

        -- The bytes that the grown trie is read from are its image.
        pub split_made : {k : Standing} {w : List ℕ} → StandingTold k c xs t → Grows t k.places k.lens s.walk (take s.len s.string) s.shared A N (trie_from w)
            → w ≡ image_of (trie_from w) → d ≡ false → SplitTold (Added, ys, w) xs image c.size A row limit
        split_made {k} {w} told g back made fs e n v l u es F =
            let P = D fs e (known G e).sound n v l u es F t (divides e F) in
            let place = told fs e in
            let is = grown_is y (two G) (few_entries G) xs e (known G e).sound t F (known G e).agrees (divides e F) place.0 place.1 N (trie_from w) g in
            rw (
              asked_both e F h,
              stores_made xs ys t y fs n v limit p d C (halves y.b (place_of y) N A l u (insert n v es)) P made,
              both_said y (two G) (few_entries G) xs e (known G e).sound t F,
              both_grown y (two G) (few_entries G) xs e (known G e).sound t F N,
              ← is,
              ← back,
            )
