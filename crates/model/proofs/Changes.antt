-- All stores of a change made, the file is sound and says what was asked; a part of them, it is as before or cut, and
-- recovers to what it was.
use Rattle.model.proofs.Prelude.{List, Memᴰ, mem_head, mem_tail, mem_append_right, [], ◌++◌, ◌/◌, ◌<◌, ◌∙◌, ◌∷◌, ◌≡◌, ◌≢◌, ◌≤◌, ◌⊎◌, ap, arith, cond, false, fun_ext, get_or-set_other, get_or-set_same, inl, inr, length, length-set, not, not-true, nothing, refl, set, set-get_or, set-set, some, subst, suc, sym, take, zero, ℕ}
use Rattle.model.specs.Order.{Low, Str, ◌≺◌, ◌⊑◌, ◌◁◌, above, at, none}
use Rattle.model.specs.Names.{Bound, BoundLow, Legal, limit}
use Rattle.model.specs.Entries.{Entry, Row, find, insert, move, name_at, stay, without}
use Rattle.model.specs.Files.{Chain, Copied, Cut, In, IsUsed, Slot, Sound, Well, by_heads, entries_of, exactly, free, head, one_more, range, ranges, slot_at, used, well_used}
use Rattle.model.specs.Searches.{all, bounds, string_count}
use Rattle.model.specs.Changes.{Lowest, Map, Means, Request, Store, counts, halves, meant, merged, put, removal, remove, split_of, split_string, stored, trie_removed}
use Rattle.model.proofs.Lists.{mem_insert, mem_parts}
use Rattle.model.proofs.Order.{le_trans, low_at, low_lower, lt_le}
use Rattle.model.proofs.Entries.{find_at, find_drop, find_insert_other, find_insert_same, find_keep, insert_new, keep_comm, keep_insert_out, keep_parts, keep_some, length_insert, length_keep, row_insert, row_keep, split_bound, split_key, split_last, split_over, split_under}
use Rattle.model.proofs.Files.{at_set, count_right, one_range, used_inside, well_parts}
use Rattle.model.proofs.Splitting.{SplitAt, chain_split}
use Rattle.model.proofs.Merging.{Removal, alone, leftward, merge_cut, merge_few, merge_means, merge_sound, removal_is, removal_some, rightward}
use Rattle.model.specs.declared.Trie.{Trie}
use Rattle.model.specs.Tests.{is_at_most, same_str}
use Rattle.model.specs.Growth.{grown_trie}
use Rattle.model.proofs.Deciding.{le?, over, str?}
use Rattle.model.proofs.Tests.{is_at_most_le, is_at_most_lt, le_is_at_most, lt_is_at_most, same_str_other, same_str_self}

module _ (b : ℕ) (place : List Entry → ℕ) where
  -- Where nothing is refused: what is asked, and the stores that it takes. One for a name that finds room (R7.2), two
  -- for a split (R7.8), one to replace (R7.9), one or the two of a merge to remove (R7.10), none to remove an absent name (R7.11).
  pub data Change (fs : List Slot) : Request → List Store → Type 0 where
    fits : {A : ℕ} {l : Low} {u : Str} {es : List Entry} {n : Str} {v : ℕ} → slot_at fs A ≡ used l u es → Legal n → l ◁ n → n ⊑ u
        → length (insert n v es) ≤ b → Change fs (put n v) ((A, used l u (insert n v es)) ∷ [])
    splits : {A N : ℕ} {l : Low} {u : Str} {es : List Entry} {n : Str} {v : ℕ} → slot_at fs A ≡ used l u es → Legal n → l ◁ n → n ⊑ u
        → b < length (insert n v es) → Lowest fs N → string_count (stored (halves b place N A l u (insert n v es)) fs) ≤ 256
        → Change fs (put n v) (halves b place N A l u (insert n v es))
    removes : (A : ℕ) {l : Low} {u : Str} {es : List Entry} {n : Str} {w : ℕ} → slot_at fs A ≡ used l u es → l ◁ n → n ⊑ u
        → find n es ≡ some w → Change fs (remove n) (removal b fs n A l u es)
    absent : (A : ℕ) {l : Low} {u : Str} {es : List Entry} {n : Str} → slot_at fs A ≡ used l u es → l ◁ n → n ⊑ u
        → find n es ≡ nothing → Change fs (remove n) []

  -- R8.1: the trie changes with the last store of a split; after a merge it is the rebuilt one.
  unfoldable pub trie_after : {fs : List Slot} {q : Request} {ss : List Store} → Change fs q ss → Trie → Trie
  trie_after (fits is g lo up k) t = t
  trie_after (splits {A = A} {N = N} {es = es} {n = n} {v = v} is g lo up k f c) t =
      grown_trie t (name_at (insert n v es) (place (insert n v es))) (split_of b place (insert n v es)) A N
  trie_after {fs} (removes A {l = l} {u = u} {es = es} {n = n} is lo up e) t = trie_removed fs (removal b fs n A l u es) t
  trie_after (absent A is lo up e) t = t

module _ (b : ℕ) where
  module _ (fs : List Slot) (S : Sound b fs) (A : ℕ) (l : Low) (u : Str) (es : List Entry) (is : slot_at fs A ≡ used l u es) where
    pub well_a : BoundLow l × Bound u × (l ◁ u) × Row l es u × (length es ≤ b)
    well_a = well_parts b (rw is at (S.well A))

    pub inside_a : A < length fs
    inside_a = used_inside fs A (rw is tt)

    -- One store that keeps the range.
    module _ (es' : List Entry) where
      pub same_heads : (B : ℕ) → head (slot_at (set fs A (used l u es')) B) ≡ head (slot_at fs B)
      same_heads = at_set (λ B x. head x ≡ head (slot_at fs B)) fs A (used l u es') inside_a (rw is) (λ B n. refl)

      unfoldable pub one_sound : Row l es' u → length es' ≤ b → Sound b (set fs A (used l u es'))
      one_sound r k = record {
        order = S.order;
        chain = subst (λ h. Chain (by_heads h) none S.order) (sym (fun_ext same_heads)) S.chain;
        listed = λ B h. S.listed B (subst IsUsed (same_heads B) h);
        well = at_set (λ B x. Well b x) fs A (used l u es') inside_a (well_used well_a.0 well_a.1 well_a.2 r k) (λ B n. S.well B);
      }

      pub one_means : (m m' : Map) → Means fs m → ((k : Str) → l ◁ k → k ⊑ u → find k es' ≡ m' k) → ((k : Str) → ¬ (In (range l u) k) → m k ≡ m' k)
          → Means (set fs A (used l u es')) m'
      one_means m m' M f g k = at_set (λ B x. In (head x) k → find k (entries_of x) ≡ m' k) fs A (used l u es') inside_a
          (λ h. f k h.1 h.2)
          (λ B n h. M k B h ∙ g k (λ q. n (one_range b S k h (rw is q))))

    -- What a put makes of the names in the range, and that it makes nothing of the others.
    module _ (n : Str) (v : ℕ) (lo : l ◁ n) (up : n ⊑ u) where
      pub put_find : (m : Map) → Means fs m → (k : Str) → l ◁ k → k ⊑ u → find k (insert n v es) ≡ meant (put n v) m k
      put_find m M k a c = elim (str? k n) [
        | yes e ↦ rw (e, same_str_self n) (find_insert_same n v es)
        | no e ↦ rw (same_str_other k n e) (find_insert_other k n v es e ∙ (rw is at (M k A (rw is (tt, a, c)))))
      ]

      pub put_outside : (m : Map) (k : Str) → ¬ (In (range l u) k) → m k ≡ meant (put n v) m k
      put_outside m k h = sym (rw (same_str_other k n (λ e. h (rw e (tt, lo, up)))))

      pub remove_find : (m : Map) → Means fs m → (k : Str) → l ◁ k → k ⊑ u → find k (without n es) ≡ meant (remove n) m k
      remove_find m M k a c = elim (str? k n) [
        | yes e ↦ rw (e, same_str_self n) (find_drop (λ k. not (same_str k n)) n es (ap not (same_str_self n)))
        | no e ↦ rw (same_str_other k n e) (find_keep (λ k. not (same_str k n)) k es (ap not (same_str_other k n e)) ∙ (rw is at (M k A (rw is (tt, a, c)))))
      ]

      pub remove_outside : (m : Map) (k : Str) → ¬ (In (range l u) k) → m k ≡ meant (remove n) m k
      remove_outside m k h = sym (rw (same_str_other k n (λ e. h (rw e (tt, lo, up)))))

    -- The split, for a split key at any place i but the last.
    module _ (n : Str) (v : ℕ) (legal : Legal n) (lo : l ◁ n) (up : n ⊑ u) (big : b < length (insert n v es)) (i : ℕ) (i_lt : i < b)
        (N : ℕ) (lowest : Lowest fs N) where
      abbrev pub s : Str
      s = split_string i b (insert n v es)

      pub length_all : length (insert n v es) ≡ suc b
      length_all = omega (arith, length_insert n v es, well_a.4, big)

      pub row_all : Row l (insert n v es) u
      row_all = row_insert n v legal lo up well_a.3

      pub last_in : b < length (insert n v es)
      last_in = omega (arith, length_all)

      pub s_above : l ◁ s
      s_above = split_over row_all i b i_lt last_in

      pub s_last : s ≺ name_at (insert n v es) b
      s_last = split_last row_all i b i_lt last_in

      pub s_below : s ≺ u
      s_below = split_under row_all i b i_lt last_in

      s_bound : Bound s
      s_bound = split_bound row_all i b i_lt last_in

      pub stay_some : 0 < length (stay s (insert n v es))
      stay_some = keep_some (λ k. is_at_most k s) (insert n v es) i (omega (arith, length_all)) (le_is_at_most (name_at (insert n v es) i) s (split_key row_all i b i_lt last_in))

      pub move_some : 0 < length (move s (insert n v es))
      move_some = keep_some (λ k. not (is_at_most k s)) (insert n v es) b (omega (arith, length_all)) (ap not (lt_is_at_most (name_at (insert n v es) b) s s_last))

      pub new_well : Well b (used (at s) u (move s (insert n v es)))
      new_well = well_used (limit s_bound) well_a.1 (above s_below)
          (row_keep (λ k. not (is_at_most k s)) (at s) u row_all (λ k p c d. (above (is_at_most_lt k s (not-true (is_at_most k s) p)), d)))
          (omega (arith, keep_parts (λ k. is_at_most k s) (insert n v es), stay_some, length_all))

      pub old_well : Well b (used l s (stay s (insert n v es)))
      old_well = well_used well_a.0 s_bound s_above
          (row_keep (λ k. is_at_most k s) l s row_all (λ k p c d. (c, is_at_most_le k s p)))
          (omega (arith, keep_parts (λ k. is_at_most k s) (insert n v es), move_some, length_all))

      abbrev pub new_slot : Slot
      new_slot = used (at s) u (move s (insert n v es))

      abbrev pub old_slot : Slot
      old_slot = used l s (stay s (insert n v es))

      abbrev pub after_first : List Slot
      after_first = set fs N new_slot

      abbrev pub after_second : List Slot
      after_second = set after_first A old_slot

      pub n_not_a : N ≢ A
      n_not_a e = absurd (subst (λ x. IsUsed (head x)) (sym is ∙ ap (slot_at fs) (sym e) ∙ lowest.is_free) tt)

      pub first_back : set after_first N free ≡ fs
      first_back = set-set fs N new_slot free ∙ subst (λ x. set fs N x ≡ fs) lowest.is_free (set-get_or fs N free)

      pub full : length es ≡ b
      full = omega (arith, length_insert n v es, well_a.4, big)

      copied : Copied (move s es) (move s (insert n v es))
      copied = elim (le? n s) [
        | yes h ↦ subst (λ x. Copied (move s es) x) (sym (keep_insert_out (λ k. not (is_at_most k s)) n v es (ap not (le_is_at_most n s h)))) exactly
        | no h ↦ more (find_at n (move s (insert n v es)) v (find_keep (λ k. not (is_at_most k s)) n (insert n v es) (ap not (lt_is_at_most n s h)) ∙ find_insert_same n v es))
      ]
        where
          rest : without n (move s (insert n v es)) ≡ move s es
          rest = keep_comm (λ k. not (same_str k n)) (λ k. not (is_at_most k s)) (insert n v es)
              ∙ ap (move s) (keep_insert_out (λ k. not (same_str k n)) n v es (ap not (same_str_self n)) ∙ insert_new n v well_a.3 (omega (arith, full, big)))

          more : (j : ℕ) × (j < length (move s (insert n v es))) × (name_at (move s (insert n v es)) j ≡ n) → Copied (move s es) (move s (insert n v es))
          more (j, h, e) =
              let r : without (name_at (move s (insert n v es)) j) (move s (insert n v es)) ≡ move s es = rw e rest in
              one_more j h r

      pub first_cut : Cut b after_first N
      first_cut = record {
        low = s;
        up = u;
        new = move s (insert n v es);
        n_is = get_or-set_same fs N new_slot free lowest.inside;
        n_well = rw (get_or-set_same fs N new_slot free lowest.inside) new_well;
        freed = rw first_back S;
        A = A;
        a_low = l;
        old = es;
        a_is = rw first_back is;
        below = s_above;
        copied = copied;
      }

      pub in_second : (P : ℕ → Slot → Type 0) → P N new_slot → P A old_slot → ((B : ℕ) → B ≢ A → B ≢ N → P B (slot_at fs B)) → (B : ℕ) → P B (slot_at after_second B)
      in_second P p q f = at_set P after_first A old_slot (rw (length-set fs N new_slot) inside_a) q
          (λ B d. at_set (λ C x. C ≢ A → P C x) fs N new_slot lowest.inside (λ e. p) (λ C e d. f C d e) B d)

      slot_a : slot_at after_second A ≡ old_slot
      slot_a = get_or-set_same after_first A old_slot free (rw (length-set fs N new_slot) inside_a)

      slot_n : slot_at after_second N ≡ new_slot
      slot_n = get_or-set_other after_first A N old_slot free n_not_a ∙ get_or-set_same fs N new_slot free lowest.inside

      pub is_split : SplitAt (ranges fs) (ranges after_second) s A N
      is_split = record {
        new_used = rw slot_n tt;
        new_lower = rw slot_n;
        new_upper = rw (slot_n, is);
        old_used = rw slot_a tt;
        old_lower = rw (slot_a, is);
        old_upper = rw slot_a;
        other = λ B d h. let e : slot_at after_second B ≡ slot_at fs B = get_or-set_other after_first A B old_slot free d
            ∙ get_or-set_other fs N B new_slot free (λ q. absurd (subst (λ x. IsUsed (head x)) (ap (slot_at fs) q ∙ lowest.is_free) h)) in
            (rw e h, rw e, rw e);
      }

      unfoldable pub second_sound : Sound b after_second
      second_sound = go (mem_parts S.order (S.listed A (rw is tt)))
        where
          go : (Xs : List ℕ) × (Ys : List ℕ) × (S.order ≡ Xs ++ (A ∷ Ys)) → Sound b after_second
          go (Xs, Ys, e) = record {
            order = Xs ++ (A ∷ N ∷ Ys);
            chain = chain_split (ranges fs) (ranges after_second) s A N is_split Xs Ys (rw e at S.chain) (rw is s_above) (rw is s_below);
            listed = in_second (λ B x. IsUsed (head x) → Memᴰ B (Xs ++ (A ∷ N ∷ Ys)))
                (λ h. mem_append_right Xs (mem_tail (mem_head refl)))
                (λ h. mem_append_right Xs (mem_head refl))
                (λ B d c h. mem_insert Xs A N Ys (rw e at (S.listed B h)));
            well = in_second (λ B x. Well b x) new_well old_well (λ B d c. S.well B);
          }

      pub second_means : (m : Map) → Means fs m → Means after_second (meant (put n v) m)
      second_means m M k = in_second (λ B x. In (head x) k → find k (entries_of x) ≡ meant (put n v) m k)
          (λ h. find_keep (λ k. not (is_at_most k s)) k (insert n v es) (ap not (lt_is_at_most k s (over h.1))) ∙ put_find n v lo up m M k (low_lower (low_at s_above) h.1) h.2)
          (λ h. find_keep (λ k. is_at_most k s) k (insert n v es) (le_is_at_most k s h.2) ∙ put_find n v lo up m M k h.1 (le_trans h.2 (lt_le s_below)))
          (λ B d c h. M k B h ∙ put_outside n v lo up m k (λ q. d (one_range b S k h (rw is q))))

  -- Sound, with the map's entries, and few enough strings for a trie.
  pub record Fine (fs : List Slot) (m : Map) : Type 0 where
    pub sound : Sound b fs
    pub means : Means fs m
    pub few : string_count fs ≤ 256

  pub merge_fine : {fs : List Slot} {m : Map} → Fine fs m → (L R : ℕ) (l : Low) (s u : Str) (es gs : List Entry) → slot_at fs L ≡ used l s es → slot_at fs R ≡ used (at s) u gs
      → (n : Str) → l ◁ n → n ⊑ u → length (without n (es ++ gs)) ≤ b / 2 → Fine (stored (merged n L R l u es gs) fs) (meant (remove n) m)
  merge_fine {fs} {m} F L R l s u es gs l_is r_is n lo up k = record {
    sound = merge_sound b fs F.sound L R l s u es gs l_is r_is n lo up k;
    means = merge_means b fs F.sound L R l s u es gs l_is r_is n lo up m F.means;
    few = omega (arith, merge_few b fs F.sound L R l s u es gs l_is r_is n lo up k, F.few);
  }

  -- A store that keeps the range keeps the number of strings.
  pub one_count : (fs : List Slot) (S : Sound b fs) (A : ℕ) (l : Low) (u : Str) (es : List Entry) (is : slot_at fs A ≡ used l u es) (es' : List Entry)
      (r : Row l es' u) (k : length es' ≤ b) → string_count (set fs A (used l u es')) ≡ string_count fs
  unfolding one_sound
  one_count fs S A l u es is es' r k = count_right b (one_sound fs S A l u es is es' r k)
      ∙ ap (λ h. length (all (bounds (by_heads h) S.order))) (fun_ext (same_heads fs S A l u es is es')) ∙ sym (count_right b S)

  -- A removal made: alone, or with a merge.
  pub removal_made : {fs : List Slot} {m : Map} → Fine fs m → (A : ℕ) (l : Low) (u : Str) (es : List Entry) (n : Str) → slot_at fs A ≡ used l u es → l ◁ n → n ⊑ u
      → {ss : List Store} → Removal b fs n A l u es ss → Fine (stored ss fs) (meant (remove n) m)
  removal_made {fs} {m} F A l u es n is lo up (alone c d) =
      let w = well_a fs F.sound A l u es is in
      let r = row_keep (λ k. not (same_str k n)) l u w.3 (λ k p c d. (c, d)) in
      let k : length (without n es) ≤ b = omega (arith, length_keep (λ k. not (same_str k n)) es, w.4) in record {
        sound = one_sound fs F.sound A l u es is (without n es) r k;
        means = one_means fs F.sound A l u es is (without n es) m (meant (remove n) m) F.means (remove_find fs F.sound A l u es is n 0 lo up m F.means) (remove_outside fs F.sound A l u es is n 0 lo up m);
        few = rw (one_count fs F.sound A l u es is (without n es) r k) F.few;
      }
  removal_made {fs} {m} F A l u es n is lo up (rightward {R = R} {v = v} {gs = gs} r_is k) =
      let up' : n ⊑ v = le_trans up (lt_le (over (well_a fs F.sound R (at u) v gs r_is).2)) in
      merge_fine F A R l u v es gs is r_is n lo up' k
  removal_made {fs} {m} F A l u es n is lo up (leftward {L = L} {k = k} {s = s} {ds = ds} c q l_is f) =
      let r_is : slot_at fs A ≡ used (at s) u es = is ∙ ap (λ x. used x u es) q in
      let lo' : k ◁ n = low_lower (low_at (well_a fs F.sound L k s ds l_is).2) (rw q at lo) in
      merge_fine F L A k s u ds es l_is r_is n lo' up f

  -- No string is new.
  pub removal_few : {fs : List Slot} (S : Sound b fs) (A : ℕ) (l : Low) (u : Str) (es : List Entry) (n : Str) → slot_at fs A ≡ used l u es → l ◁ n → n ⊑ u
      → {ss : List Store} → Removal b fs n A l u es ss → string_count (stored ss fs) ≤ string_count fs
  removal_few {fs} S A l u es n is lo up (alone c d) =
      let w = well_a fs S A l u es is in
      let r = row_keep (λ k. not (same_str k n)) l u w.3 (λ k p c d. (c, d)) in
      let k : length (without n es) ≤ b = omega (arith, length_keep (λ k. not (same_str k n)) es, w.4) in
      omega (arith, one_count fs S A l u es is (without n es) r k)
  removal_few {fs} S A l u es n is lo up (rightward {R = R} {v = v} {gs = gs} r_is k) =
      let up' : n ⊑ v = le_trans up (lt_le (over (well_a fs S R (at u) v gs r_is).2)) in
      merge_few b fs S A R l u v es gs is r_is n lo up' k
  removal_few {fs} S A l u es n is lo up (leftward {L = L} {k = k} {s = s} {ds = ds} c q l_is f) =
      let r_is : slot_at fs A ≡ used (at s) u es = is ∙ ap (λ x. used x u es) q in
      let lo' : k ◁ n = low_lower (low_at (well_a fs S L k s ds l_is).2) (rw q at lo) in
      merge_few b fs S L A k s u ds es l_is r_is n lo' up f

  -- A removal stopped after a store: only a merge can be, after its first of two.
  pub removal_stopped : {fs : List Slot} {m : Map} → Fine fs m → (A : ℕ) (l : Low) (u : Str) (es : List Entry) (n : Str) (w : ℕ) → slot_at fs A ≡ used l u es → l ◁ n → n ⊑ u
      → find n es ≡ some w → {ss : List Store} → Removal b fs n A l u es ss → (j : ℕ) → suc j < length ss
      → (N : ℕ) × Cut b (stored (take (suc j) ss) fs) N × (set (stored (take (suc j) ss) fs) N free ≡ stored ss fs)
  removal_stopped F A l u es n w is lo up e (alone c d) j h = absurd (omega arith)
  removal_stopped {fs} F A l u es n w is lo up e (rightward {R = R} {v = v} {gs = gs} r_is k) zero h =
      let up' : n ⊑ v = le_trans up (lt_le (over (well_a fs F.sound R (at u) v gs r_is).2)) in
      (R, merge_cut b fs F.sound A R l u v es gs is r_is n lo up' k (inl up), refl)
  removal_stopped {fs} F A l u es n w is lo up e (leftward {L = L} {k = k} {s = s} {ds = ds} c q l_is f) zero h =
      let r_is : slot_at fs A ≡ used (at s) u es = is ∙ ap (λ x. used x u es) q in
      let lo' : k ◁ n = low_lower (low_at (well_a fs F.sound L k s ds l_is).2) (rw q at lo) in
      (A, merge_cut b fs F.sound L A k s u ds es l_is r_is n lo' up f (inr (w, e)), refl)
  removal_stopped F A l u es n w is lo up e (rightward r_is k) (suc j) h = absurd (omega arith)
  removal_stopped F A l u es n w is lo up e (leftward c q l_is f) (suc j) h = absurd (omega arith)

  module _ (place : List Entry → ℕ) (place_lt : (ws : List Entry) → place ws < b) where
    -- No change has more than two stores.
    pub change_length : {fs : List Slot} {q : Request} {ss : List Store} → Change b place fs q ss → length ss ≤ 2
    change_length (fits is g lo up k) = omega arith
    change_length (splits is g lo up big low few) = omega arith
    change_length {fs} (removes A {l = l} {u = u} {es = es} {n = n} is lo up e) = (removal_some b fs n A l u es (removal_is b fs n A l u es)).1
    change_length (absent A is lo up e) = omega arith

    pub change_made : {fs : List Slot} {m : Map} {q : Request} {ss : List Store} → Fine fs m → Change b place fs q ss → Fine (stored ss fs) (meant q m)
    change_made {fs} {m} F (fits {A = A} {l = l} {u = u} {es = es} {n = n} {v = v} is g lo up k) =
        let r = row_insert n v g lo up (well_a fs F.sound A l u es is).3 in record {
          sound = one_sound fs F.sound A l u es is (insert n v es) r k;
          means = one_means fs F.sound A l u es is (insert n v es) m (meant (put n v) m) F.means (put_find fs F.sound A l u es is n v lo up m F.means) (put_outside fs F.sound A l u es is n v lo up m);
          few = rw (one_count fs F.sound A l u es is (insert n v es) r k) F.few;
        }
    change_made {fs} {m} F (splits {A = A} {N = N} {l = l} {u = u} {es = es} {n = n} {v = v} is g lo up big low few) = record {
      sound = second_sound fs F.sound A l u es is n v g lo up big (place (insert n v es)) (place_lt (insert n v es)) N low;
      means = second_means fs F.sound A l u es is n v g lo up big (place (insert n v es)) (place_lt (insert n v es)) N low m F.means;
      few = few;
    }
    change_made {fs} {m} F (removes A {l = l} {u = u} {es = es} {n = n} is lo up e) = removal_made F A l u es n is lo up (removal_is b fs n A l u es)
    change_made {fs} {m} F (absent A {n = n} is lo up e) = record {
      sound = F.sound;
      means = λ k B h. F.means k B h ∙ elim (str? k n) [
        | yes q ↦ rw (q, same_str_self n) (sym (F.means n A (rw is (tt, lo, up))) ∙ rw is e)
        | no q ↦ sym (rw (same_str_other k n q))
      ];
      few = F.few;
    }

    -- Stopped: nothing changed, or the file is cut, and freeing its one slot gives what the call counts as: what was there, or
    -- what it would have left, for a merge.
    pub change_stopped : {fs : List Slot} {m : Map} {q : Request} {ss : List Store} → Fine fs m → Change b place fs q ss → (k : ℕ) → k < length ss
        → ((stored (take k ss) fs ≡ fs) × (counts q k ≡ false)) ⊎ ((N : ℕ) × Cut b (stored (take k ss) fs) N × (set (stored (take k ss) fs) N free ≡ cond (counts q k) (stored ss fs) fs))
    unfolding counts
    change_stopped {q = put n v} F c zero h = inl (refl, refl)
    change_stopped {q = remove n} F c zero h = inl (refl, refl)
    change_stopped F (fits is g lo up k) (suc j) h = absurd (omega arith)
    change_stopped {fs} F (splits {A = A} {N = N} {l = l} {u = u} {es = es} {n = n} {v = v} is g lo up big low few) (suc zero) h =
        inr (N, first_cut fs F.sound A l u es is n v g lo up big (place (insert n v es)) (place_lt (insert n v es)) N low, first_back fs F.sound A l u es is n v g lo up big (place (insert n v es)) (place_lt (insert n v es)) N low)
    change_stopped F (splits is g lo up big low few) (suc (suc j)) h = absurd (omega arith)
    change_stopped {fs} F (removes A {l = l} {u = u} {es = es} {n = n} {w = w} is lo up e) (suc j) h = inr (removal_stopped F A l u es n w is lo up e (removal_is b fs n A l u es) j h)
    change_stopped F (absent A is lo up e) (suc j) h = absurd (omega arith)
