-- All entries of a file, in order, after a removal: those before it, without the name.
use Rattle.model.proofs.Prelude.{List, Memᴰ, mem_head, mem_not_nil, mem_tail, mem_append_right, [], ◌++◌, ◌/◌, ◌∙◌, ◌∷◌, ◌≡◌, ◌≢◌, ◌≤◌, ap, append_assoc, arith, get_or-set_other, get_or-set_same, length, not, refl, set, sym, ℕ, ℕ_discrete}
use Rattle.model.specs.Order.{Low, Str, ◌⊑◌, ◌◁◌, above, at, none}
use Rattle.model.specs.Tests.{same_str}
use Rattle.model.specs.Entries.{Entry, Row, keep, without}
use Rattle.model.specs.Files.{Chain, In, RangeTable, Slot, Sound, Well, entries_of, free, head, next, ranges, slot_at, used}
use Rattle.model.specs.Searches.{order_of}
use Rattle.model.specs.Changes.{Store, stored}
use Rattle.model.specs.Calls.{entries_in}
use Rattle.model.proofs.Deciding.{le?, over}
use Rattle.model.proofs.Order.{le_trans, low_at, low_lower, lt_le}
use Rattle.model.proofs.Tests.{same_str_other}
use Rattle.model.proofs.Entries.{length_keep, row_keep}
use Rattle.model.proofs.Ranges.{chain_other}
use Rattle.model.proofs.Files.{one_range, order_right, well_parts}
use Rattle.model.proofs.Merging.{Removal, after_second, alone, joined_left, keep_append, keep_row, leftward, merge_order, neighbours, rightward}
use Rattle.model.proofs.Changes.{inside_a, one_sound, well_a}

-- A slot whose range lacks the name does not hold it.
pub without_out : (b : ℕ) (n : Str) (x : Slot) → Well b x → ¬ (In (head x) n) → without n (entries_of x) ≡ entries_of x
unfolding keep
without_out b n free w h = refl
without_out b n (used l u es) w h = keep_row (λ k. not (same_str k n)) (well_parts b w).3 (λ k a c. ap not (same_str_other k n (λ e. h (tt, (rw e at a), (rw e at c)))))

pub entries_in_append : (fs : List Slot) (Xs Ys : List ℕ) → entries_in fs (Xs ++ Ys) ≡ entries_in fs Xs ++ entries_in fs Ys
unfolding entries_in
entries_in_append fs [] Ys = refl
entries_in_append fs (B ∷ Xs) Ys = ap (λ (es : List Entry). entries_of (slot_at fs B) ++ es) (entries_in_append fs Xs Ys) ∙ sym (append_assoc (entries_of (slot_at fs B)) (entries_in fs Xs) (entries_in fs Ys))

pub entries_in_without : (n : Str) (fs gs : List Slot) (Bs : List ℕ) → ((B : ℕ) → Memᴰ B Bs → without n (entries_of (slot_at fs B)) ≡ entries_of (slot_at gs B))
    → without n (entries_in fs Bs) ≡ entries_in gs Bs
unfolding entries_in keep
entries_in_without n fs gs [] f = refl
entries_in_without n fs gs (B ∷ Bs) f = keep_append (λ k. not (same_str k n)) (entries_of (slot_at fs B)) (entries_in fs Bs)
    ∙ rw (f B (mem_head refl), entries_in_without n fs gs Bs (λ C m. f C (mem_tail m)))

-- What stands before L in a chain is another slot than L and what follows.
chain_before : (F : RangeTable) (Xs : List ℕ) (L : ℕ) (Ys : List ℕ) {m : Low} → Chain F m (Xs ++ (L ∷ Ys)) → (B : ℕ) → Memᴰ B Xs → (C : ℕ) → Memᴰ C (L ∷ Ys) → C ≢ B
chain_before F [] L Ys c B m C k e = mem_not_nil m
chain_before F (X ∷ []) L Ys c B (mem_head q) C k e = chain_other F X (L ∷ Ys) c C k (e ∙ q)
chain_before F (X ∷ []) L Ys c B (mem_tail m) C k e = mem_not_nil m
chain_before F (X ∷ Y ∷ Xs) L Ys c B (mem_head q) C k e = chain_other F X (Y ∷ (Xs ++ (L ∷ Ys))) c C (mem_append_right (Y ∷ Xs) k) (e ∙ q)
chain_before F (X ∷ Y ∷ Xs) L Ys (next u e' a b c) B (mem_tail m) C k e = chain_before F (Y ∷ Xs) L Ys c B m C k e

chain_behind : (F : RangeTable) (Xs : List ℕ) (L R : ℕ) (Ys : List ℕ) {m : Low} → Chain F m (Xs ++ (L ∷ R ∷ Ys)) → (B : ℕ) → Memᴰ B Ys → (B ≢ L) × (B ≢ R)
chain_behind F [] L R Ys (next u e a b c) B m = (chain_other F L (R ∷ Ys) (next u e a b c) B (mem_tail m), chain_other F R Ys c B m)
chain_behind F (X ∷ []) L R Ys (next u e a b c) B m = chain_behind F [] L R Ys c B m
chain_behind F (X ∷ Y ∷ Xs) L R Ys (next u e a b c) B m = chain_behind F (Y ∷ Xs) L R Ys c B m

without_parts : (n : Str) (xs es gs ys : List Entry) {xs' ys' : List Entry} → without n xs ≡ xs' → without n ys ≡ ys' → without n (xs ++ (es ++ (gs ++ ys))) ≡ xs' ++ (without n (es ++ gs) ++ ys')
without_parts n xs es gs ys p q = keep_append (λ k. not (same_str k n)) xs (es ++ (gs ++ ys))
    ∙ rw (p, ← append_assoc es gs ys, keep_append (λ k. not (same_str k n)) (es ++ gs) ys, q)

-- A store that keeps the range keeps the order.
one_order_of : (b : ℕ) (fs : List Slot) (S : Sound b fs) (A : ℕ) (l : Low) (u : Str) (es : List Entry) (is : slot_at fs A ≡ used l u es) (es' : List Entry) → Row l es' u → length es' ≤ b
    → order_of (set fs A (used l u es')) ≡ order_of fs
unfolding one_sound
one_order_of b fs S A l u es is es' r k = order_right b (one_sound b fs S A l u es is es' r k) ∙ sym (order_right b S)

module _ (b : ℕ) (fs : List Slot) (S : Sound b fs) where
  pub merge_entries : (L R : ℕ) (l : Low) (s u : Str) (es gs : List Entry) (l_is : slot_at fs L ≡ used l s es) (r_is : slot_at fs R ≡ used (at s) u gs)
      (n : Str) (lo : l ◁ n) (up : n ⊑ u) (few : length (without n (es ++ gs)) ≤ b / 2)
      → entries_in (after_second b fs S L R l s u es gs l_is r_is n lo up) (order_of (after_second b fs S L R l s u es gs l_is r_is n lo up)) ≡ without n (entries_in fs (order_of fs))
  unfolding entries_in
  merge_entries L R l s u es gs l_is r_is n lo up few = go (neighbours b fs S L R l s u es gs l_is r_is)
    where
      hs : List Slot
      hs = after_second b fs S L R l s u es gs l_is r_is n lo up

      lacks : (B : ℕ) → B ≢ L → B ≢ R → without n (entries_of (slot_at fs B)) ≡ entries_of (slot_at hs B)
      lacks B d c =
          let e : slot_at hs B ≡ slot_at fs B = get_or-set_other (set fs L (used l u (without n (es ++ gs)))) R B free free c ∙ get_or-set_other fs L B (used l u (without n (es ++ gs))) free d in
          without_out b n (slot_at fs B) (S.well B) (λ h. elim (le? n s) [
            | yes p ↦ d (one_range b S n h (rw l_is (tt, lo, p)))
            | no p ↦ c (one_range b S n h (rw r_is (tt, above p, up)))
          ]) ∙ sym (ap entries_of e)

      go : (Xs : List ℕ) × (Ys : List ℕ) × (S.order ≡ Xs ++ (L ∷ R ∷ Ys)) → entries_in hs (order_of hs) ≡ without n (entries_in fs (order_of fs))
      go (Xs, Ys, e) =
          let o : order_of fs ≡ Xs ++ (L ∷ R ∷ Ys) = order_right b S ∙ e in
          let c : Chain (ranges fs) none (Xs ++ (L ∷ R ∷ Ys)) = rw e at S.chain in
          let front : without n (entries_in fs Xs) ≡ entries_in hs Xs = entries_in_without n fs hs Xs (λ B m. lacks B
          (λ q. chain_before (ranges fs) Xs L (R ∷ Ys) c B m L (mem_head refl) (sym q)) (λ q. chain_before (ranges fs) Xs L (R ∷ Ys) c B m R (mem_tail (mem_head refl)) (sym q))) in
          let rear : without n (entries_in fs Ys) ≡ entries_in hs Ys = entries_in_without n fs hs Ys (λ B m. let d = chain_behind (ranges fs) Xs L R Ys c B m in lacks B d.0 d.1) in
          ap (entries_in hs) (merge_order b fs S L R l s u es gs l_is r_is n lo up few Xs Ys o)
          ∙ entries_in_append hs Xs (L ∷ Ys)
          ∙ ap (λ (x : Slot). entries_in hs Xs ++ (entries_of x ++ entries_in hs Ys)) (joined_left b fs S L R l s u es gs l_is r_is (without n (es ++ gs)))
          ∙ sym (without_parts n (entries_in fs Xs) es gs (entries_in fs Ys) front rear)
          ∙ ap (without n) (before Xs Ys)
          ∙ ap (λ (Bs : List ℕ). without n (entries_in fs Bs)) (sym o)
        where
          before : (Xs Ys : List ℕ) → entries_in fs Xs ++ (es ++ (gs ++ entries_in fs Ys)) ≡ entries_in fs (Xs ++ (L ∷ R ∷ Ys))
          before Xs Ys = ap (λ (x : Slot). entries_in fs Xs ++ (entries_of x ++ (gs ++ entries_in fs Ys))) (sym l_is)
              ∙ ap (λ (x : Slot). entries_in fs Xs ++ (entries_of (slot_at fs L) ++ (entries_of x ++ entries_in fs Ys))) (sym r_is)
              ∙ sym (entries_in_append fs Xs (L ∷ R ∷ Ys))

  -- Alone or with a merge.
  pub removal_entries : (A : ℕ) (l : Low) (u : Str) (es : List Entry) (n : Str) → slot_at fs A ≡ used l u es → l ◁ n → n ⊑ u → {ss : List Store} → Removal b fs n A l u es ss
      → entries_in (stored ss fs) (order_of (stored ss fs)) ≡ without n (entries_in fs (order_of fs))
  removal_entries A l u es n is lo up (rightward {R = R} {v = v} {gs = gs} r_is k) =
      let up' : n ⊑ v = le_trans up (lt_le (over (well_a b fs S R (at u) v gs r_is).2)) in
      merge_entries A R l u v es gs is r_is n lo up' k
  removal_entries A l u es n is lo up (leftward {L = L} {k = k} {s = s} {ds = ds} c q l_is f) =
      let r_is : slot_at fs A ≡ used (at s) u es = is ∙ ap (λ x. used x u es) q in
      let lo' : k ◁ n = low_lower (low_at (well_a b fs S L k s ds l_is).2) (rw q at lo) in
      merge_entries L A k s u ds es l_is r_is n lo' up f
  removal_entries A l u es n is lo up (alone c d) = ap (entries_in hs) order ∙ sym (entries_in_without n fs hs (order_of fs) (λ B m. each B))
    where
      hs : List Slot
      hs = set fs A (used l u (without n es))

      order : order_of hs ≡ order_of fs
      order = one_order_of b fs S A l u es is (without n es) (row_keep (λ k. not (same_str k n)) l u (well_a b fs S A l u es is).3 (λ k p c d. (c, d)))
          (omega (arith, length_keep (λ k. not (same_str k n)) es, (well_a b fs S A l u es is).4))

      each : (B : ℕ) → without n (entries_of (slot_at fs B)) ≡ entries_of (slot_at hs B)
      each B = elim (ℕ_discrete B A) [
        | yes e ↦ rw (e, is, get_or-set_same fs A (used l u (without n es)) free (inside_a b fs S A l u es is))
        | no e ↦ without_out b n (slot_at fs B) (S.well B) (λ h. e (one_range b S n h (rw is (tt, lo, up)))) ∙ sym (ap entries_of (get_or-set_other fs A B (used l u (without n es)) free e))
      ]
