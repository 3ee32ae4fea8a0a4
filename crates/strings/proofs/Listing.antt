-- The strings of a sound file, bound after bound in range order, and the slots of the leaves left of them.
use Rattle.std.specs.Prelude.{Option, Some, None}
use Rattle.model.proofs.Prelude.{List, [], ◌++◌, ◌+◌, ◌-◌, ◌<◌, ◌∙◌, ◌∷◌, ◌≡◌, ◌≤◌, add-one, ap, append_assoc, append-nil, arith, drop, drop-cons, drop_of_length-le, get_or, length, length-append, refl, set, some, suc, sym, take, take-suc-set, zero-add, ℕ}
use Rattle.model.specs.declared.Layout.{Layout}
use Rattle.model.specs.Order.{Low, Str, ◌≺◌, at, diff, none}
use Rattle.model.specs.Files.{Chain, IsUsed, RangeTable, Slot, Sound, Well, free, head, last, next, ranges, slot_at, upper_of, used, well_used}
use Rattle.model.specs.Searches.{all, bounds, fresh, order_of, strings_of}
use Rattle.model.specs.Rebuilding.{label}
use Rattle.model.specs.Agreeing.{slots_between}
use Rattle.model.specs.Format.{bytes_at_slot, bytes_of_slot, read_slots}
use Rattle.model.proofs.Lists.{at_taken}
use Rattle.model.proofs.Order.{diff_lt_left}
use Rattle.model.proofs.Strings.{mem_at}
use Rattle.model.proofs.Ranges.{chain_length, chain_some, chain_used}
use Rattle.model.proofs.Files.{chain_right}
use Rattle.model.proofs.Format.{bytes_of_slot-read_slot, read_slots_each}
use Rattle.model.proofs.Agreement.{coming, expect_cursor, expect_slots, follow, labels, to_slots, to_slots_append}
use Rattle.model.proofs.Surveys.{chain_rises}
use Rattle.bucket.specs.Slots.{Uppered, upper_bytes}
use Rattle.bucket.proofs.Shared.{uppered_bytes}
use Rattle.file.specs.declared.Size.{Size}
use Rattle.file.specs.Sizes.{Below}
use Rattle.trie.specs.declared.Strings.{Strings}
use Rattle.trie.specs.Strung.{Holds, last_digits, lengths}
use Rattle.strings.specs.Arrays.{Added, Listed, beyond, lefts}
use Rattle.strings.proofs.Adding.{last_digits_append, length_beyond, lengths_append}

module _ (F : RangeTable) where
  -- The strings that come with the upper of B and with the bounds after it,
  abbrev pub rest : ℕ → List ℕ → List Str
  rest B [] = []
  rest B (C ∷ Bs) = fresh (F.upper B) (F.upper C) ++ rest C Bs

  -- and the slots of the leaves left of them and at the end.
  abbrev pub leaves_from : ℕ → List ℕ → List ℕ
  leaves_from B [] = B ∷ []
  leaves_from B (C ∷ Bs) = lefts B C (fresh (F.upper B) (F.upper C)) ++ leaves_from C Bs

  all_rest : (Bs : List ℕ) (B : ℕ) {l : Low} → Chain F l (B ∷ Bs) → all (bounds F (B ∷ Bs)) ≡ rest B Bs
  all_rest [] B c = refl
  all_rest (C ∷ []) B (next u e a b (last u' e' f')) = rw (append-nil, f')
  all_rest (C ∷ []) B (next u e a b (next u' e' a' b' c)) = absurd (chain_some F c)
  all_rest (C ∷ D ∷ Bs) B (next u e a b c) = ap (λ (ss : List Str). fresh (F.upper B) (F.upper C) ++ ss) (all_rest (D ∷ Bs) C c)

  -- A leaf of C after each string, and a leaf of B before all: the same as C at the end.
  same_slots : (lab : Low → ℕ) (C : ℕ) (ss : List Str) (zs : List ℕ) → C ∷ (to_slots lab (follow C ss) ++ zs) ≡ lefts C C ss ++ (C ∷ zs)
  same_slots lab C [] zs = refl
  same_slots lab C (s ∷ ss) zs = ap (λ (ns : List ℕ). C ∷ ns) (same_slots lab C ss zs)

  first_slot : (lab : Low → ℕ) (B C : ℕ) (ss : List Str) (zs : List ℕ) → 0 < length ss
      → B ∷ (to_slots lab (follow C ss) ++ zs) ≡ lefts B C ss ++ (C ∷ zs)
  first_slot lab B C [] zs h = absurd (omega arith)
  first_slot lab B C (s ∷ ss) zs h = ap (λ (ns : List ℕ). B ∷ ns) (same_slots lab C ss zs)

  chain_rest : {l : Low} {B C : ℕ} {Bs : List ℕ} → Chain F l (B ∷ C ∷ Bs) → Chain F (at (F.upper B)) (C ∷ Bs)
  chain_rest (next u e a b c) = c

  coming_slots : (lab : Low → ℕ) (Bs : List ℕ) (B : ℕ) {l : Low} → Chain F l (B ∷ Bs) → B ∷ to_slots lab (coming F B Bs) ≡ leaves_from B Bs
  coming_slots lab [] B c = refl
  coming_slots lab (C ∷ Bs) B c =
      let ss : List Str = fresh (F.upper B) (F.upper C) in
      let up : F.upper B ≺ F.upper C = (chain_rises F B (C ∷ Bs) c).0 in
      rw (to_slots_append lab (follow C ss) (coming F C Bs), ← coming_slots lab Bs C (chain_rest c))
      (first_slot lab B C ss (to_slots lab (coming F C Bs)) (omega (arith, length_beyond (diff (F.upper B) (F.upper C)) (F.upper B), diff_lt_left (F.upper B) (F.upper C) up)))

  labels_from : (Cs : List ℕ) (B : ℕ) (Bs : List ℕ) → Cs ≡ B ∷ Bs → Chain F none (B ∷ Bs)
      → labels (label F Cs) none (all (bounds F Cs)) ≡ leaves_from B Bs
  labels_from Cs B Bs e c =
      let lab : Low → ℕ = label F (B ∷ Bs) in
      rw e (sym (expect_slots lab none (all (bounds F (B ∷ Bs)))) ∙ ap (to_slots lab) (expect_cursor F B Bs c) ∙ coming_slots lab Bs B c)

between_labels : (fs : List Slot) (l : Low) (ss : List Str) → slots_between fs l ss ≡ labels (label (ranges fs) (order_of fs)) l ss
unfolding slots_between
between_labels fs l [] = refl
between_labels fs l (x ∷ xs) = ap (λ (ns : List ℕ). label (ranges fs) (order_of fs) l ∷ ns) (between_labels fs (at x) xs)

module _ (y : Layout) {fs : List Slot} (S : Sound y.b fs) where
  -- A bucket in the order, by the file's bytes.
  pub uppered : (slots : ℕ) (file : List ℕ) → read_slots y slots 0 file ≡ some fs → (i : ℕ) → i < length (order_of fs)
      → get_or (order_of fs) i 0 < slots → Uppered (bytes_at_slot y (get_or (order_of fs) i 0) file) ((ranges fs).upper (get_or (order_of fs) i 0))
  uppered slots file e i h k = go (slot_at fs B) (S.well B) (chain_used (ranges fs) (chain_right y.b S) B (mem_at 0 (order_of fs) i h)) bytes
    where
      B : ℕ
      B = get_or (order_of fs) i 0

      bytes : bytes_at_slot y B file ≡ bytes_of_slot y (slot_at fs B)
      bytes = bytes_of_slot-read_slot y (bytes_at_slot y B file) (rw zero-add at (read_slots_each y slots 0 B file k e))

      go : (x : Slot) → Well y.b x → IsUsed (head x) → bytes_at_slot y B file ≡ bytes_of_slot y x → Uppered (bytes_at_slot y B file) (upper_of (head x))
      go free w u q = absurd u
      go (used l u es) (well_used g f a r m) v q = record { layout = y; low = l; entries = es; bound = f; is = q }

-- So far the arrays have the strings that come before the upper of the bucket before place j.
pub record Going (fs : List Slot) (lens digits slots : List ℕ) (n j : ℕ) : Type 0 where
  pub done : List Str
  pub inside : j ≤ length (order_of fs)
  pub count_is : n ≡ length done
  pub strings_are : done ++ rest (ranges fs) (get_or (order_of fs) (j - 1) 0) (drop j (order_of fs)) ≡ strings_of fs
  pub lens_are : take n lens ≡ lengths done
  pub digits_are : take n digits ≡ last_digits done
  pub slots_are : take n slots ++ leaves_from (ranges fs) (get_or (order_of fs) (j - 1) 0) (drop j (order_of fs)) ≡ slots_between fs none (strings_of fs)

pub going_start : {b : ℕ} {fs : List Slot} → Sound b fs → (lens digits slots : List ℕ) → Going fs lens digits slots 0 1
going_start {b} {fs} S lens digits slots = go (order_of fs) refl (chain_right b S)
  where
    go : (Bs : List ℕ) → order_of fs ≡ Bs → Chain (ranges fs) none Bs → Going fs lens digits slots 0 1
    go [] e c = absurd (chain_some (ranges fs) c)
    go (B ∷ Bs) e c = record {
      done = [];
      inside = rw e (omega arith);
      count_is = refl;
      strings_are = rw e (sym (all_rest (ranges fs) Bs B c));
      lens_are = refl;
      digits_are = refl;
      slots_are = first_leaves (order_of fs) e ∙ sym (between_labels fs none (strings_of fs) ∙ labels_from (ranges fs) (order_of fs) B Bs e c);
    }
      where
        first_leaves : (Cs : List ℕ) → Cs ≡ B ∷ Bs → leaves_from (ranges fs) (get_or Cs 0 0) (drop 1 Cs) ≡ leaves_from (ranges fs) B Bs
        first_leaves Cs e = rw e

module _ (fs : List Slot) where
  abbrev Upper : ℕ → Str
  Upper i = (ranges fs).upper (get_or (order_of fs) i 0)

  pub going_step : (s t : Strings) (j B C k : ℕ) (x y : Str) → 1 ≤ j → j < length (order_of fs)
      → B ≡ get_or (order_of fs) (j - 1) 0 → C ≡ get_or (order_of fs) j 0 → x ≡ Upper (j - 1) → y ≡ Upper j → k ≡ diff x y
      → Going fs s.lens s.digits s.slots s.count j → Added (beyond k x) B C s t → Going fs t.lens t.digits t.slots t.count (j + 1)
  going_step s t j B C k x y p q eB eC ex ey ek G A = record {
    done = G.done ++ ss;
    inside = omega arith;
    count_is = omega (arith, A.count_is, G.count_is, length-append G.done ss);
    strings_are = rw (place, add-one j) (append_assoc G.done ss (rest F D Ds) ∙ rw fresh_is (rw comes at G.strings_are));
    lens_are = A.lens_are ∙ rw G.lens_are (sym (lengths_append G.done ss));
    digits_are = A.digits_are ∙ rw G.digits_are (sym (last_digits_append G.done ss));
    slots_are = rw (place, add-one j, A.slots_are) (append_assoc (take s.count s.slots) (lefts B C ss) (leaves_from F D Ds) ∙ rw (fresh_is, eB, eC) (rw comes at G.slots_are));
  }
    where
      F : RangeTable
      F = ranges fs

      Bs : List ℕ
      Bs = order_of fs

      D : ℕ
      D = get_or Bs j 0

      Ds : List ℕ
      Ds = drop (suc j) Bs

      ss : List Str
      ss = beyond k x

      place : j + 1 - 1 ≡ j
      place = omega arith

      comes : drop j Bs ≡ D ∷ Ds
      comes = drop-cons Bs j 0 q

      fresh_is : beyond k x ≡ fresh (Upper (j - 1)) (Upper j)
      fresh_is = rw (ek, ex, ey)

  -- With one more bound the strings are too many.
  pub going_many : (lens digits slots : List ℕ) (n j k : ℕ) (x y : Str) → j < length (order_of fs) → x ≡ Upper (j - 1) → y ≡ Upper j → k ≡ diff x y
      → Going fs lens digits slots n j → 256 + k < n + length x → 256 < length (strings_of fs)
  going_many lens digits slots n j k x y q ex ey ek G h =
      let D : ℕ = get_or (order_of fs) j 0 in
      let Ds : List ℕ = drop (suc j) (order_of fs) in
      let ss : List Str = fresh (Upper (j - 1)) (Upper j) in
      let more : G.done ++ (ss ++ rest (ranges fs) D Ds) ≡ strings_of fs = rw (drop-cons (order_of fs) j 0 q) at G.strings_are in
      let count : length ss ≡ length x - k = rw (ek, ex, ey) (length_beyond (diff (Upper (j - 1)) (Upper j)) (Upper (j - 1))) in
      omega (arith, h, count, ap length more, length-append G.done (ss ++ rest (ranges fs) D Ds), length-append ss (rest (ranges fs) D Ds), G.count_is)

  -- Behind the last bound the leaf of the last bucket is left.
  pub going_end : (o : Strings) (j v : ℕ) → length (order_of fs) ≤ j → v ≡ get_or (order_of fs) (length (order_of fs) - 1) 0
      → o.count < length o.slots → Going fs o.lens o.digits o.slots o.count j
      → (s : Strings) → (s.count ≡ o.count) × (s.lens ≡ o.lens) × (s.digits ≡ o.digits) × (s.slots ≡ set o.slots o.count v)
      → Holds s (strings_of fs) (slots_between fs none (strings_of fs))
  going_end o j v h ev k G s e = record {
    count_is = e.0 ∙ count;
    lens_are = rw (e.1, ← count) (G.lens_are ∙ ap lengths whole);
    digits_are = rw (e.2, ← count) (G.digits_are ∙ ap last_digits whole);
    slots_are = rw (e.3, ← count) (take-suc-set o.slots o.count v k ∙ rw (ev, ← last_place) (rw none_left at G.slots_are));
  }
    where
      last_place : j ≡ length (order_of fs)
      last_place = omega (arith, h, G.inside)

      none_left : drop j (order_of fs) ≡ []
      none_left = drop_of_length-le (order_of fs) h

      whole : G.done ≡ strings_of fs
      whole = sym (append-nil G.done) ∙ rw none_left at G.strings_are

      count : o.count ≡ length (strings_of fs)
      count = G.count_is ∙ ap length whole

-- The same of any file that the bytes may be, in the order that is given.
module _ (file order : List ℕ) (size : Size) (count : ℕ) where
  abbrev pub Given : List Slot → Type 0
  Given fs =
      (read_slots size.layout size.slots 0 file ≡ some fs) × Sound size.layout.b fs × (count ≡ length (order_of fs)) × (take count order ≡ order_of fs)

  abbrev pub Goes : Strings → ℕ → Type 0
  Goes s j = (fs : List Slot) → Given fs → Going fs s.lens s.digits s.slots s.count j

  -- The upper that stands in the bytes of slot B.
  abbrev pub upper_in : ℕ → Str
  upper_in B = upper_bytes (bytes_at_slot size.layout B file)

  pub order_at : (fs : List Slot) → Given fs → (i : ℕ) → i < count → get_or order i 0 ≡ get_or (order_of fs) i 0
  order_at fs g i h = at_taken count order i g.3 h

  pub uppered_at : (fs : List Slot) → Given fs → (i B : ℕ) → i < count → B ≡ get_or order i 0 → B < size.slots
      → Uppered (bytes_at_slot size.layout B file) ((ranges fs).upper (get_or (order_of fs) i 0))
  uppered_at fs g i B h e k =
      let f : B ≡ get_or (order_of fs) i 0 = e ∙ order_at fs g i h in
      rw f (uppered size.layout g.1 size.slots file g.0 i (omega (arith, g.2)) (rw f at k))

  pub upper_is : (fs : List Slot) → Given fs → (i B : ℕ) (x : Str) → i < count → B ≡ get_or order i 0 → B < size.slots → x ≡ upper_in B
      → x ≡ (ranges fs).upper (get_or (order_of fs) i 0)
  upper_is fs g i B x h e k q = q ∙ uppered_bytes (uppered_at fs g i B h e k)

  pub goes_start : (lens digits slots : List ℕ) (fs : List Slot) → Given fs → Going fs lens digits slots 0 1
  goes_start lens digits slots fs g = going_start g.1 lens digits slots

  module _ (below : Below order size.slots) (j B C k : ℕ) (x y : Str) (first : 1 ≤ j) (more : j < count)
      (b_is : B ≡ get_or order (j - 1) 0) (c_is : C ≡ get_or order j 0) (x_is : x ≡ upper_in B) (y_is : y ≡ upper_in C) (k_is : k ≡ diff x y)
      (s : Strings) (goes : Goes s j) where
    x_upper : (fs : List Slot) → Given fs → x ≡ Upper fs (j - 1)
    x_upper fs g = upper_is fs g (j - 1) B x (omega arith) b_is (rw b_is (below (j - 1))) x_is

    y_upper : (fs : List Slot) → Given fs → y ≡ Upper fs j
    y_upper fs g = upper_is fs g j C y more c_is (rw c_is (below j)) y_is

    pub goes_step : (t : Strings) → Added (beyond k x) B C s t → Goes t (j + 1)
    goes_step t A fs g =
        going_step fs s t j B C k x y first (omega (arith, g.2))
        (b_is ∙ order_at fs g (j - 1) (omega arith)) (c_is ∙ order_at fs g j more) (x_upper fs g) (y_upper fs g) k_is (goes fs g) A

    pub goes_many : 256 + k < s.count + length x → Listed None file size order count
    goes_many h = record {
      strung = λ fs e S c o. let g : Given fs = (e, S, c, o) in
          going_many fs s.lens s.digits s.slots s.count j k x y (omega arith) (x_upper fs g) (y_upper fs g) k_is (goes fs g) h;
    }

  pub goes_end : (o : Strings) (j v : ℕ) → o.count ≤ 256 → length o.slots ≡ 257 → count ≤ j → 0 < count → v ≡ get_or order (count - 1) 0 → Goes o j
      → (s : Strings) → (s.count ≡ o.count) × (s.lens ≡ o.lens) × (s.digits ≡ o.digits) × (s.slots ≡ set o.slots o.count v)
      → Listed (Some s) file size order count
  goes_end o j v few w h p ev goes s e = record {
    strung = λ fs r S c q. let g : Given fs = (r, S, c, q) in
        going_end fs o j v (omega arith) (ev ∙ order_at fs g (count - 1) (omega arith) ∙ ap (λ (i : ℕ). get_or (order_of fs) (i - 1) 0) c) (omega arith) (goes fs g) s e;
  }

  -- Each sound file has a bucket.
  pub goes_none : (r : Option Strings) → count ≤ 0 → Listed r file size order count
  goes_none r h = record { strung = λ fs e S c o. absurd (omega (arith, chain_length (ranges fs) (chain_right size.layout.b S))) }
