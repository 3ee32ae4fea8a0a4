-- What the survey says of slots that are laid out in order is what check says, and of a sound file its order and its map.
use Rattle.std.specs.Prelude.{Option as Maybe, Some, None}
use Rattle.model.proofs.Prelude.{Bool, List, Memᴰ, [], ◌++◌, ◌-◌, ◌<◌, ◌∙◌, ◌∷◌, ◌≡◌, ◌≤◌, ap, append_snoc, arith, dec_le, drop, drop-cons, false, get_or, get_or-take, length, length-take-le, nothing, refl, some, split_at, subst, suc, sym, take, take-suc, take-take, true, zero-add, ℕ}
use Rattle.model.specs.declared.Layout.{Layout}
use Rattle.model.specs.Order.{none}
use Rattle.model.specs.Files.{Chain, IsUsed, Slot, Sound, free, head, ranges, slot_at, upper_of, used}
use Rattle.model.specs.Searches.{order_of}
use Rattle.model.specs.Checks.{Kind, check, is_bad, is_cut, is_sound}
use Rattle.model.specs.Format.{bytes_at_slot, check_read, laid_out, read_slots, read_used_slot}
use Rattle.model.proofs.Lists.{mem_insert}
use Rattle.model.proofs.Files.{order_right, used_inside}
use Rattle.model.proofs.Checks.{check_bad, check_cut, check_sound}
use Rattle.model.proofs.Surveys.{Apart, Before, Copy, Differ, Lists, Sorted, Twins, apart_bad, chain_follows, chain_sound, copy_cut, follows_chain, sound_sorted, twin_bad}
use Rattle.file.specs.declared.Size.{Size}
use Rattle.bucket.specs.Copies.{CopyTold}
use Rattle.file.specs.Maps.{map_of}
use Rattle.file.specs.Orders.{Chained, Known, Laid, Listed, TwinTold, Twinned}
use Rattle.file.specs.Surveys.{check_of_slots}
use Rattle.file.proofs.Chains.{listed_mem, neighbours_places}
use Rattle.file.proofs.Readings.{each_read_slots, used_read}

pub check_slots : (y : Layout) (slots : ℕ) (xs : List ℕ) (fs : List Slot) → read_slots y slots 0 xs ≡ some fs → check_of_slots y slots xs ≡ check y.b fs
unfolding check_of_slots check_read laid_out
check_slots y slots xs fs e = rw e

pub check_none : (y : Layout) (slots : ℕ) (xs : List ℕ) → read_slots y slots 0 xs ≡ nothing → check_of_slots y slots xs ≡ is_bad
unfolding check_of_slots check_read laid_out
check_none y slots xs e = rw e

-- What is said of the order and of the map of a sound file.
abbrev pub Ordered : List ℕ → Size → List ℕ → ℕ → Type 0
Ordered xs size order count =
    (fs : List Slot) → read_slots size.layout size.slots 0 xs ≡ some fs → Sound size.layout.b fs → (count ≡ length (order_of fs)) × (take count order ≡ order_of fs)

abbrev pub Mapped : List ℕ → Size → ℕ → Type 0
Mapped xs size map = (fs : List Slot) → read_slots size.layout size.slots 0 xs ≡ some fs → Sound size.layout.b fs → map ≡ map_of fs

-- Two neighbours with one upper bound that were found, and that none were.
module _ {r : Maybe ℕ} (size : Size) (xs order : List ℕ) (count : ℕ) where
  pub twin_some : {place : ℕ} → r ≡ Some place → TwinTold r size xs order count → TwinTold (Some place) size xs order count
  twin_some e t = rw e at t

  pub twin_none : r ≡ None → TwinTold r size xs order count → TwinTold None size xs order count
  twin_none e t = rw e at t

-- What stays in order when the slot behind place p is left out.
abbrev leaving : List ℕ → ℕ → ℕ → ℕ → List ℕ
leaving order count p place = take p (take count order) ++ (get_or order p 0 ∷ drop (suc place) (take count order))

-- Slots laid out: what is known of them.
module _ {xs : List ℕ} {size : Size} {order : List ℕ} {count map : ℕ} (few : count ≤ 64) where
  module _ {k : ℕ} (L : Laid xs size k order count map) where
    short : count ≤ length order
    short = omega (arith, L.whole)

    pub laid_listed : Listed L.slots order count
    laid_listed = listed_mem L.slots order count short L.only

    pub laid_known : Known size.layout xs L.slots
    laid_known = record { read = λ B u. L.read B (from B u) (inside B u); well = L.well }
      where
        inside : (B : ℕ) → IsUsed (head (slot_at L.slots B)) → B < size.slots
        inside B u = omega (arith, L.long, used_inside L.slots B u)

        from : (B : ℕ) → IsUsed (head (slot_at L.slots B)) → k ≤ B
        from B u = elim (dec_le k B) [ yes h ↦ h | no h ↦ absurd (rw (L.before B (omega arith)) at u) ]

  module _ (L : Laid xs size 0 order count map) where
    read_is : read_slots size.layout size.slots 0 xs ≡ some L.slots
    read_is = each_read_slots size.layout size.slots 0 xs L.slots L.long (λ j h. rw zero-add (L.read j (omega arith) h))

    one : (fs : List Slot) → read_slots size.layout size.slots 0 xs ≡ some fs → fs ≡ L.slots
    one fs e = let i = read_is in cc

    lists : Lists L.slots (take count order)
    lists = record { once = L.once; only = L.only }

    at_place : (j : ℕ) → j < count → get_or (take count order) j 0 ≡ get_or order j 0
    at_place j h = get_or-take count order j 0 h

    length_order : length (take count order) ≡ count
    length_order = length-take-le count order (short L)

    sorted : Sorted L.slots (take count order)
    sorted = neighbours_places (Before (ranges L.slots)) (take count order)
        (λ j h.
        (let g : suc j < count = omega (arith, length_order) in
        rw (at_place j (omega arith), at_place (suc j) g) (L.sorted j g)))

    pub laid_order : Ordered xs size order count
    laid_order fs e S =
        let f : fs ≡ L.slots = one fs e in
        let T : Sound size.layout.b L.slots = rw f at S in
        let q : take count order ≡ order_of fs = sound_sorted size.layout.b T lists sorted ∙ sym (order_right size.layout.b T) ∙ ap order_of (sym f) in
        (sym length_order ∙ ap length q, q)

    pub laid_map : Mapped xs size map
    laid_map fs e S = L.map ∙ ap map_of (sym (one fs e))

    said : (k : Kind) → check size.layout.b L.slots ≡ k → k ≡ check_of_slots size.layout size.slots xs
    said k e = sym (check_slots size.layout size.slots xs L.slots read_is ∙ e)

    -- No two neighbours with one upper bound: sound, or bad.
    module _ (place : ℕ) (T : Twinned L.slots order count place) (none_found : count ≤ place) (r : Bool) (C : Chained r (ranges L.slots) (take count order)) where
      apart : Apart L.slots (take count order)
      apart = neighbours_places (Differ (ranges L.slots)) (take count order)
          (λ j h.
          (let g : suc j < count = omega (arith, length_order) in
          rw (at_place j (omega arith), at_place (suc j) g) (T.apart j (omega arith) g)))

      pub said_sound : r ≡ true → is_sound ≡ check_of_slots size.layout size.slots xs
      said_sound t = said is_sound (check_sound size.layout.b L.slots (chain_sound size.layout.b L.slots L.well lists (C.chained t)))

      pub said_bad : r ≡ false → is_bad ≡ check_of_slots size.layout size.slots xs
      said_bad t = said is_bad (check_bad size.layout.b L.slots (apart_bad size.layout.b lists sorted apart
          (λ f. C.refused t (follows_chain size.layout.b L.slots L.well (take count order) L.only f))))

    -- Two neighbours with one upper bound: cut, or bad.
    module _ (place : ℕ) (T : Twinned L.slots order count place) (p : ℕ) (e : suc p ≡ place) (h : place < count) where
      first_is : take (suc p) (take count order) ≡ take p (take count order) ++ (get_or order p 0 ∷ [])
      first_is = take-suc (take count order) p 0 (omega (arith, length_order)) ∙ rw (at_place p (omega arith))

      parts : take count order ≡ take p (take count order) ++ (get_or order p 0 ∷ get_or order place 0 ∷ drop (suc place) (take count order))
      parts =
          let n : drop (suc p) (take count order) ≡ get_or order place 0 ∷ drop (suc place) (take count order) =
          ap (λ m. drop m (take count order)) e ∙ drop-cons (take count order) place 0 (omega (arith, length_order)) ∙ rw (at_place place h) in
          split_at (take count order) p 0 (omega (arith, length_order)) ∙ rw (at_place p (omega arith), n)

      twins : Twins L.slots (take count order) (get_or order p 0) (get_or order place 0)
      twins = record {
        before = take p (take count order);
        after = drop (suc place) (take count order);
        is = parts;
        apart = subst (λ Cs. Apart L.slots Cs) first_is (neighbours_places (Differ (ranges L.slots)) (take (suc p) (take count order))
            (λ j g.
            (let m : length (take (suc p) (take count order)) ≡ suc p = length-take-le (suc p) (take count order) (omega (arith, length_order)) in
            let i : suc j < suc p = omega arith in
            rw (get_or-take (suc p) (take count order) j 0 (omega arith), get_or-take (suc p) (take count order) (suc j) 0 i, at_place j (omega arith), at_place (suc j) (omega arith))
            (T.apart j (omega arith) (omega arith)))));
        same = T.same p e h;
      }

      -- What is left when N is left out.
      rest_is : (cs : List ℕ) → cs ≡ take place order ++ drop (suc place) (take count order) → cs ≡ (leaving order count p place)
      rest_is cs f =
          let g : take place order ≡ take p (take count order) ++ (get_or order p 0 ∷ []) =
          sym (take-take place count order (omega arith)) ∙ ap (λ m. take m (take count order)) (sym e) ∙ first_is in
          f ∙ rw g (append_snoc (take p (take count order)) (get_or order p 0) (drop (suc place) (take count order)))

      rest_used : (B : ℕ) → Memᴰ B (leaving order count p place) → IsUsed (head (slot_at L.slots B))
      rest_used B m = L.only B (subst (λ Cs. Memᴰ B Cs) (sym parts) (mem_insert (take p (take count order)) (get_or order p 0) (get_or order place 0) (drop (suc place) (take count order)) m))

      pub rest_listed : (cs : List ℕ) → length cs ≡ 64 → take (count - 1) cs ≡ take place order ++ drop (suc place) (take count order) → Listed L.slots cs (count - 1)
      rest_listed cs l f = listed_mem L.slots cs (count - 1) (omega arith)
          (λ B m. rest_used B (subst (λ Cs. Memᴰ B Cs) (rest_is (take (count - 1) cs) f) m))

      module _ (n a : List ℕ) (i : n ≡ bytes_at_slot size.layout (get_or order place 0) xs) (j : a ≡ bytes_at_slot size.layout (get_or order p 0) xs) (c : Bool) (D : CopyTold size.layout n a c) where
        n_read : {s : Slot} → slot_at L.slots (get_or order place 0) ≡ s → IsUsed (head s) → read_used_slot size.layout n ≡ some s
        n_read {s} g u = used_read size.layout n s u (rw (i, ← g) ((laid_known L).read (get_or order place 0) (rw g u)))

        a_read : {s : Slot} → slot_at L.slots (get_or order p 0) ≡ s → IsUsed (head s) → read_used_slot size.layout a ≡ some s
        a_read {s} g u = used_read size.layout a s u (rw (j, ← g) ((laid_known L).read (get_or order p 0) (rw g u)))

        copy : c ≡ true → Copy size.layout.b L.slots (get_or order p 0) (get_or order place 0)
        copy t = go (slot_at L.slots (get_or order place 0)) (slot_at L.slots (get_or order p 0)) refl refl
            (laid_listed L place h) (laid_listed L p (omega arith))
          where
            go : (s r : Slot) → slot_at L.slots (get_or order place 0) ≡ s → slot_at L.slots (get_or order p 0) ≡ r → IsUsed (head s) → IsUsed (head r)
                → Copy size.layout.b L.slots (get_or order p 0) (get_or order place 0)
            go free r x y u v = absurd u
            go (used ln un en) free x y u v = absurd v
            go (used ln un en) (used la ua ea) x y u v =
                let q = D.copied t (n_read x tt, rw x at (L.well (get_or order place 0))) (a_read y tt, rw y at (L.well (get_or order p 0))) in
                let z : ua ≡ un = sym (ap (λ s. upper_of (head s)) y) ∙ twins.same ∙ ap (λ s. upper_of (head s)) x in
                record {
                  low = q.0;
                  up = un;
                  new = en;
                  n_is = x ∙ ap (λ l. used l un en) q.1;
                  a_low = la;
                  old = ea;
                  a_is = y ∙ ap (λ w. used la w ea) z;
                  below = q.2;
                  copied = q.3;
                }

        no_copy : c ≡ false → Copy size.layout.b L.slots (get_or order p 0) (get_or order place 0) → ⊥
        no_copy t C = D.refused t (n_read C.n_is tt, rw C.n_is at (L.well (get_or order place 0))) (a_read C.a_is tt, rw C.a_is at (L.well (get_or order p 0)))
            C.low refl C.below C.copied

        pub said_no_copy : c ≡ false → is_bad ≡ check_of_slots size.layout size.slots xs
        said_no_copy t = said is_bad (check_bad size.layout.b L.slots (twin_bad size.layout.b lists twins sorted (λ q. no_copy t q.0)))

        module _ (r : Bool) (cs : List ℕ) (f : take (count - 1) cs ≡ take place order ++ drop (suc place) (take count order)) (C : Chained r (ranges L.slots) (take (count - 1) cs)) where
          whole_rest : take (count - 1) cs ≡ (leaving order count p place)
          whole_rest = rest_is (take (count - 1) cs) f

          pub said_no_chain : r ≡ false → is_bad ≡ check_of_slots size.layout size.slots xs
          unfolding twins
          said_no_chain t = said is_bad (check_bad size.layout.b L.slots (twin_bad size.layout.b lists twins sorted
              (λ q. C.refused t (subst (λ Cs. Chain (ranges L.slots) none Cs) (sym whole_rest) (follows_chain size.layout.b L.slots L.well (leaving order count p place) rest_used q.1)))))

          pub said_cut : c ≡ true → r ≡ true → is_cut (get_or order place 0) ≡ check_of_slots size.layout size.slots xs
          unfolding twins
          said_cut u t = said (is_cut (get_or order place 0)) (check_cut size.layout.b L.slots (copy_cut size.layout.b lists twins L.well (copy u)
              (chain_follows (ranges L.slots) (leaving order count p place) (subst (λ Cs. Chain (ranges L.slots) none Cs) whole_rest (C.chained t)))))
