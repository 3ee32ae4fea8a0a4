-- The strings of a file bound after bound, as the pass asks for them.
use Rattle.model.proofs.Prelude.{List, get_or_append, [], ◌++◌, ◌+◌, ◌-◌, ◌<◌, ◌∙◌, ◌∷◌, ◌≡◌, ◌≤◌, add-one, ap, append_assoc, append-nil, arith, cond, dec_lt, drop, drop-cons, drop_of_length-le, eq-eqb, eqb, get_or, get_or-append-add, get_or-append_seam, get_or_at, length, length-append, length-drop, length-take-le, ne_eqb, refl, suc, sym, take, take-add, zero, ℕ}
use Rattle.model.specs.declared.Cell.{Cell}
use Rattle.model.specs.declared.Side.{Side}
use Rattle.model.specs.declared.Side.TheVariants.{Slot as slot}
use Rattle.model.specs.Order.{Str, diff, last_digit, none}
use Rattle.model.specs.Files.{RangeTable, Slot, Sound, ranges}
use Rattle.model.specs.Agreeing.{slots_between}
use Rattle.model.specs.Searches.{longer, order_of, strings_of}
use Rattle.trie.specs.declared.Strings.{Strings}
use Rattle.trie.specs.Strung.{last_digits, lengths}
use Rattle.trie.proofs.Strung.{last_digits_at, lengths_at}
use Rattle.strings.specs.Arrays.{beyond, lefts}
use Rattle.strings.proofs.Adding.{last_taken, length_beyond, length_longer}
use Rattle.strings.proofs.Listing.{Given, going_start, leaves_from, order_at, rest, uppered_at}
use Rattle.model.specs.Format.{bytes_at_slot}
use Rattle.bucket.specs.Slots.{SharedTold, Uppered, upper_bytes}
use Rattle.bucket.proofs.Shared.{uppered_bytes}
use Rattle.file.specs.declared.Size.{Size}
use Rattle.file.specs.Sizes.{Below}
use Rattle.image.specs.Images.{side_from, trie_from}
use Rattle.image.proofs.Coding.{side_slot}
use Rattle.agreement.specs.Passes.{Passes, ends}
use Rattle.agreement.proofs.Marks.{stack_none}
use Rattle.agreeing.specs.declared.Spot.{Spot}
use Rattle.agreeing.specs.Ways.{BoundAt, Kept, Onward, Standing, standing}
use Rattle.agreeing.specs.Agreeing.{Passing, strings_in}

-- The beginnings of a string, the longest first, by their places.
longer_at : (ds p : Str) (i : ℕ) → i < length ds → get_or (longer p ds) i [] ≡ p ++ take (length ds - i) ds
longer_at [] p i h = absurd (omega arith)
longer_at (d ∷ ds) p i h = go (dec_lt i (length ds)) (longer_at ds q i)
  where
    q : Str
    q = p ++ (d ∷ [])

    size : length (longer q ds) ≡ length ds
    size = length_longer ds q

    go : Dec (i < length ds) → (i < length ds → get_or (longer q ds) i [] ≡ q ++ take (length ds - i) ds)
        → get_or (longer q ds ++ (q ∷ [])) i [] ≡ p ++ take (suc (length ds) - i) (d ∷ ds)
    go (yes l) f =
        let e : suc (length ds) - i ≡ suc (length ds - i) = omega arith in
        rw e (get_or_append (longer q ds) (q ∷ []) [] i (omega (arith, size)) ∙ f l ∙ append_assoc p (d ∷ []) (take (length ds - i) ds))
    go (no l) f =
        let e : suc (length ds) - i ≡ 1 = omega arith in
        let g : i ≡ length (longer q ds) = omega (arith, size) in
        rw e (ap (λ (j : ℕ). get_or (longer q ds ++ (q ∷ [])) j []) g ∙ get_or-append_seam (longer q ds) q [] [])

beyond_at : (x : Str) (k i : ℕ) → k + i < length x → get_or (beyond k x) i [] ≡ take (length x - i) x
beyond_at x k i h =
    let e : length x - i ≡ k + (length (drop k x) - i) = omega (arith, length-drop k x) in
    longer_at (drop k x) (take k x) i (omega (arith, length-drop k x)) ∙ rw e (sym (take-add k (length (drop k x) - i) x))

length_lefts : (B C : ℕ) (ss : List Str) → length (lefts B C ss) ≡ length ss
length_lefts B C [] = refl
length_lefts B C (s ∷ ss) = ap suc (length_lefts C C ss)

lefts_same : (C : ℕ) (ss : List Str) (i : ℕ) → i < length ss → get_or (lefts C C ss) i 0 ≡ C
lefts_same C [] i h = absurd (omega arith)
lefts_same C (s ∷ ss) zero h = refl
lefts_same C (s ∷ ss) (suc i) h = lefts_same C ss i (omega arith)

lefts_at : (B C : ℕ) (ss : List Str) (i : ℕ) → i < length ss → get_or (lefts B C ss) i 0 ≡ cond (eqb i 0) B C
lefts_at B C [] i h = absurd (omega arith)
lefts_at B C (s ∷ ss) zero h = refl
lefts_at B C (s ∷ ss) (suc i) h = lefts_same C ss i (omega arith) ∙ rw (ne_eqb (suc i) 0 (λ e. omega arith))

-- The place behind a beginning.
getD_middle : {A : Type 0} (xs ys zs ws : List A) (z : A) (n i : ℕ) → length xs ≡ n → i < length ys → xs ++ (ys ++ zs) ≡ ws → get_or ws (n + i) z ≡ get_or ys i z
getD_middle xs ys zs ws z n i e h q = rw (← q, ← e) (get_or-append-add xs (ys ++ zs) i z ∙ get_or_append ys zs z i h)

-- The strings of one bound, where they stand behind others.
module _ (s : Strings) (ss done more : List Str) (before behind : List ℕ) (x : Str) (k B C n : ℕ) (fits : k ≤ length x)
    (strings_are : done ++ (beyond k x ++ more) ≡ ss) (slots_are : before ++ (lefts B C (beyond k x) ++ behind) ≡ s.slots)
    (lens_are : s.lens ≡ lengths ss) (digits_are : s.digits ≡ last_digits ss) (done_count : length done ≡ n) (before_count : length before ≡ n) where
  pub bound_at : BoundAt x k B C s n
  bound_at m h l = record {
    slot_is = sym (getD_middle before (lefts B C (beyond k x)) behind s.slots 0 n i before_count (rw length_lefts inside) slots_are ∙ lefts_at B C (beyond k x) i inside ∙ side);
    length_is = sym (rw lens_are (lengths_at ss (n + i) ∙ rw string (length-take-le (suc m) x (omega arith))));
    digit_is = sym (rw digits_are (last_digits_at ss (n + i) ∙ rw string last));
  }
    where
      i : ℕ
      i = length x - suc m

      inside : i < length (beyond k x)
      inside = omega (arith, length_beyond k x)

      string : get_or ss (n + i) [] ≡ take (suc m) x
      string =
          let e : length x - i ≡ suc m = omega arith in
          getD_middle done (beyond k x) more ss [] n i done_count inside strings_are ∙ beyond_at x k i (omega arith) ∙ ap (λ (j : ℕ). take j x) e

      last : last_digit (take (suc m) x) ≡ get_or x m 0
      last = let e : suc m - 1 ≡ m = omega arith in rw e at (last_taken x (suc m) (omega arith) (omega arith))

      side : cond (eqb i 0) B C ≡ cond (eqb (suc m) (length x)) B C
      side = elim (dec_lt (suc m) (length x)) [
        | yes q ↦ rw (ne_eqb i 0 (λ e. omega arith), ne_eqb (suc m) (length x) (λ e. omega arith))
        | no q ↦ rw (eq-eqb i 0 (omega arith), eq-eqb (suc m) (length x) (omega arith))
      ]

module _ (fs : List Slot) (cs : List Cell) (cells : ℕ) (a : Side) where
  -- The strings before the upper of the bucket before place j are met.
  pub record Reached (g : Standing) (n j : ℕ) : Type 0 where
    pub done : List Str
    pub before : List ℕ
    pub seen : List ℕ
    pub inside : j ≤ length (order_of fs)
    pub done_count : length done ≡ n
    pub before_count : length before ≡ n
    pub seen_count : length seen ≡ n
    pub strings_are : done ++ rest (ranges fs) (get_or (order_of fs) (j - 1) 0) (drop j (order_of fs)) ≡ strings_of fs
    pub slots_are : before ++ leaves_from (ranges fs) (get_or (order_of fs) (j - 1) 0) (drop j (order_of fs)) ≡ slots_between fs none (strings_of fs)
    pub kept : Kept g.marks seen g.on_stack
    pub back : (few : cells ≤ 256) (last : List ℕ) → Passes cs (strings_in cells few fs) g.on_stack g.side g.least seen last → Passes cs (strings_in cells few fs) [] a 0 [] last

  pub reached_start : {b : ℕ} → Sound b fs → (marks : List ℕ) → Reached (record { marks = marks; on_stack = []; side = a; least = 0 }) 0 1
  reached_start S marks =
      let G = going_start S [] [] [] in
      record {
        done = G.done;
        before = [];
        seen = [];
        inside = G.inside;
        done_count = sym G.count_is;
        before_count = refl;
        seen_count = refl;
        strings_are = G.strings_are;
        slots_are = G.slots_are;
        kept = record { unmarked = λ k e. refl; once = λ k. omega arith };
        back = λ few last p. p;
      }

  module _ {g : Standing} {n j : ℕ} (R : Reached g n j) where
    pub reached_step : {h : Standing} (B C k : ℕ) (x y : Str) → j < length (order_of fs) → B ≡ get_or (order_of fs) (j - 1) 0 → C ≡ get_or (order_of fs) j 0
        → x ≡ (ranges fs).upper (get_or (order_of fs) (j - 1) 0) → y ≡ (ranges fs).upper (get_or (order_of fs) j 0) → k ≡ diff x y → k ≤ length x
        → Onward cs cells (BoundAt x k B C) (length x - k) g h → Reached h (n + (length x - k)) (j + 1)
    reached_step {h} B C k x y q eB eC ex ey ek fits O = record {
      done = R.done ++ ss;
      before = R.before ++ lefts B C ss;
      seen = R.seen ++ O.met;
      inside = omega arith;
      done_count = length-append R.done ss ∙ rw (R.done_count, length_beyond k x);
      before_count = length-append R.before (lefts B C ss) ∙ rw (R.before_count, length_lefts B C ss, length_beyond k x);
      seen_count = length-append R.seen O.met ∙ rw (R.seen_count, O.met_count);
      strings_are = rw (place, add-one j) (append_assoc R.done ss (rest F D Ds) ∙ strings);
      slots_are = rw (place, add-one j) (append_assoc R.before (lefts B C ss) (leaves_from F D Ds) ∙ slots);
      kept = O.kept R.seen R.kept;
      back = λ few last p. R.back few last (O.back (strings_in cells few fs) R.seen last refl (rw R.seen_count (asked few)) R.kept p);
    }
      where
        F : RangeTable
        F = ranges fs

        D : ℕ
        D = get_or (order_of fs) j 0

        Ds : List ℕ
        Ds = drop (suc j) (order_of fs)

        ss : List Str
        ss = beyond k x

        place : j + 1 - 1 ≡ j
        place = omega arith

        comes : drop j (order_of fs) ≡ D ∷ Ds
        comes = drop-cons (order_of fs) j 0 q

        strings : R.done ++ (ss ++ rest F D Ds) ≡ strings_of fs
        strings = rw (ek, ex, ey) (rw comes at R.strings_are)

        slots : R.before ++ (lefts B C ss ++ leaves_from F D Ds) ≡ slots_between fs none (strings_of fs)
        slots = rw (eB, eC, ek, ex, ey) (rw comes at R.slots_are)

        asked : (few : cells ≤ 256) → BoundAt x k B C (strings_in cells few fs) n
        asked few = bound_at (strings_in cells few fs) (strings_of fs) R.done (rest F D Ds) R.before (leaves_from F D Ds) x k B C n fits strings slots refl refl R.done_count R.before_count

    -- Behind the last bound the leaf of the last bucket is left.
    module _ (h : length (order_of fs) ≤ j) (e : n ≡ cells) where
      none_left : drop j (order_of fs) ≡ []
      none_left = drop_of_length-le (order_of fs) h

      pub reached_all : length (strings_of fs) ≡ cells
      reached_all = ap length (sym (sym (append-nil R.done) ∙ rw none_left at R.strings_are)) ∙ R.done_count ∙ e

      pub reached_end : (few : cells ≤ 256) {x : ℕ} → g.on_stack ≡ [] → g.side ≡ slot x → x ≡ get_or (order_of fs) (j - 1) 0 → Passes cs (strings_in cells few fs) [] a 0 [] R.seen
      reached_end few {x} s q b =
          let last : get_or (slots_between fs none (strings_of fs)) n 0 ≡ get_or (order_of fs) (j - 1) 0 =
          rw (← rw none_left at R.slots_are) (get_or_at R.before (get_or (order_of fs) (j - 1) 0) [] 0 n R.before_count) in
          R.back few R.seen (rw (s, q) (ends {seen = R.seen} (b ∙ sym (rw R.seen_count last)) (R.seen_count ∙ e)))

-- The same of any file that the bytes may be, in the order that is given.
module _ (file order : List ℕ) (size : Size) (count : ℕ) (cs : List Cell) (cells : ℕ) (a : Side) where
  abbrev pub Reaches : Standing → ℕ → ℕ → Type 0
  Reaches g n j = (fs : List Slot) → Given file order size count fs → Reached fs cs cells a g n j

  pub reaches_start : (marks arr : List ℕ) (p : Spot) → p.top ≡ 0 → side_from p.side ≡ a → p.least ≡ 0 → Reaches (standing marks arr p) 0 1
  reaches_start marks arr p t e l fs g = rw (stack_none p.top arr t, e, l) (reached_start fs cs cells a g.1 marks)

  pub reaches_step : {g h : Standing} (n j B C k : ℕ) (x xs ys : List ℕ) → Below order size.slots → 1 ≤ j → j < count → B ≡ get_or order (j - 1) 0 → C ≡ get_or order j 0
      → xs ≡ bytes_at_slot size.layout B file → ys ≡ bytes_at_slot size.layout C file → x ≡ upper_bytes xs → SharedTold k xs ys → k ≤ length x
      → Reaches g n j → Onward cs cells (BoundAt x k B C) (length x - k) g h → Reaches h (n + (length x - k)) (j + 1)
  reaches_step n j B C k x xs ys below first more b_is c_is xs_is ys_is x_is told fits R O fs g =
      let U : Uppered xs ((ranges fs).upper (get_or (order_of fs) (j - 1) 0)) = rw xs_is (uppered_at file order size count fs g (j - 1) B (omega arith) b_is (rw b_is (below (j - 1)))) in
      let W : Uppered ys ((ranges fs).upper (get_or (order_of fs) j 0)) = rw ys_is (uppered_at file order size count fs g j C more c_is (rw c_is (below j))) in
      let u : x ≡ (ranges fs).upper (get_or (order_of fs) (j - 1) 0) = x_is ∙ uppered_bytes U in
      reached_step fs cs cells a (R fs g) B C k x ((ranges fs).upper (get_or (order_of fs) j 0)) (omega (arith, g.2))
      (b_is ∙ order_at file order size count fs g (j - 1) (omega arith)) (c_is ∙ order_at file order size count fs g j more) u refl (rw u (told _ _ U W)) fits O

  pub reaches_end : (image : List ℕ) (side : ℕ) → cs ≡ (trie_from image).cells → a ≡ side_from side
      → (marks arr : List ℕ) (p : Spot) (n j x : ℕ) → 1 ≤ j → count ≤ j → p.side ≡ x → x ≡ get_or order (j - 1) 0 → x < 256 → p.top ≡ 0 → n ≡ cells
      → Reaches (standing marks arr p) n j → (few : cells ≤ 256) (fs : List Slot) → Given file order size count fs → Passing fs image cells side few
  reaches_end image side ec ea marks arr p n j x first last s b small t e R few fs g =
      let r = R fs g in
      let all_passed : length (order_of fs) ≤ j = omega (arith, g.2) in
      record {
        all = reached_all fs cs cells a r all_passed e;
        order = r.seen;
        passes = rw (← ec, ← ea) (reached_end fs cs cells a r all_passed e few (stack_none p.top arr t) (rw s (sym (side_slot x (omega arith)))) (b ∙ order_at file order size count fs g (j - 1) (omega (arith, r.inside, g.2))));
      }
