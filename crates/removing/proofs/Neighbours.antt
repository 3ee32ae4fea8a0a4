-- The buckets in range order about a place: how many entries they have, what a merge of two of them leaves, and which removal merges.
use Rattle.model.proofs.Prelude.{List, [], ◌++◌, ◌+◌, ◌-◌, ◌/◌, ◌<◌, ◌∙◌, ◌∷◌, ◌≡◌, ◌≤◌, add-one, ap, append_assoc, arith, drop, drop-cons, drop-length, get_or, length, refl, replicate, some, split_at, subst, suc, sym, take, take-suc, ℕ}
use Rattle.std.specs.Prelude.{None, Some}
use Rattle.model.specs.declared.Layout.{Layout}
use Rattle.model.specs.Order.{Low, Str, ◌⊑◌, ◌◁◌, at}
use Rattle.model.specs.Entries.{Entry, find, without}
use Rattle.model.specs.Files.{Slot, Sound, entries_of, slot_at, used}
use Rattle.model.specs.Searches.{order_of}
use Rattle.model.specs.Changes.{merged, removal, stores}
use Rattle.model.specs.Format.{bytes_at_slot, read_file, slot_size}
use Rattle.model.proofs.Deciding.{over}
use Rattle.model.proofs.Files.{well_parts}
use Rattle.model.proofs.Order.{le_trans, low_at, low_lower, lt_le}
use Rattle.model.proofs.Merging.{ToLeft, ToRight, by_left, by_right, find_held, find_right, first_not_left, last_not_right, left_next, merge_few, merge_order, merge_sound, not_left, not_right, removal_alone, right_next, size_left, size_right, well_l, well_r}
use Rattle.entries.specs.Rows.{place}
use Rattle.entries.proofs.Places.{place_found, place_left, place_right}
use Rattle.bucket.specs.Forms.{ReadAs}
use Rattle.bucket.specs.Slots.{count_at}
use Rattle.bucket.proofs.Slots.{count_is}
use Rattle.slots.specs.declared.Spot.{Spot}
use Rattle.slots.specs.Spots.{Begins, SpotIn, WidenedTold}
use Rattle.file.specs.declared.Plan.{Plan}
use Rattle.file.specs.Holders.{placed}
use Rattle.file.proofs.Committing.{free_begins}
use Rattle.file.proofs.Holding.{place_number, place_reads}
use Rattle.checking.specs.declared.Checked.{Checked}
use Rattle.checking.specs.Ready.{Ready}
use Rattle.removing.specs.declared.RemovePlan.{RemovePlan}
use Rattle.removing.specs.Merges.{CountTold, Joined, MergeTold, RemovePlanned}
use Rattle.checking.proofs.Plans.{OneStore, TwoStores}
use Rattle.checking.proofs.Ready.{ready_count, ready_ordered, ready_sound, slot_read}

-- A list about a place, up to its end, and without the next place.
about : (xs : List ℕ) (p : ℕ) → suc p < length xs → xs ≡ take p xs ++ (get_or xs p 0 ∷ get_or xs (suc p) 0 ∷ drop (suc (suc p)) xs)
about xs p h = split_at xs p 0 (omega arith) ∙ ap (λ (ys : List ℕ). take p xs ++ (get_or xs p 0 ∷ ys)) (drop-cons xs (suc p) 0 h)

up_to : (xs : List ℕ) (p : ℕ) → length xs ≡ suc p → xs ≡ take p xs ++ (get_or xs p 0 ∷ [])
up_to xs p e =
    let d : drop (suc p) xs ≡ [] = rw (← e) (drop-length xs) in
    split_at xs p 0 (omega arith) ∙ ap (λ (ys : List ℕ). take p xs ++ (get_or xs p 0 ∷ ys)) d

without_next : (xs : List ℕ) (p : ℕ) → p < length xs → take p xs ++ (get_or xs p 0 ∷ drop (suc (suc p)) xs) ≡ take (suc p) xs ++ drop (suc (suc p)) xs
without_next xs p h = sym (ap (λ (ys : List ℕ). ys ++ drop (suc (suc p)) xs) (take-suc xs p 0 h) ∙ append_assoc (take p xs) (get_or xs p 0 ∷ []) (drop (suc (suc p)) xs))

-- What a merge of the buckets at places p and p + 1 leaves.
module _ (b : ℕ) {fs : List Slot} (S : Sound b fs) (p : ℕ) (inside : suc p < length (order_of fs)) {l : Low} {s u : Str} {es gs : List Entry}
    (l_is : placed fs p ≡ used l s es) (r_is : placed fs (suc p) ≡ used (at s) u gs) (k : Str) (lo : l ◁ k) (up : k ⊑ u) (few : length (without k (es ++ gs)) ≤ b / 2) where
  abbrev O : List ℕ
  O = order_of fs

  merge_joins : Joined b fs (merged k (get_or O p 0) (get_or O (suc p) 0) l u es gs) (suc p)
  merge_joins = record {
    inside = inside;
    sound = merge_sound b fs S (get_or O p 0) (get_or O (suc p) 0) l s u es gs l_is r_is k lo up few;
    order = merge_order b fs S (get_or O p 0) (get_or O (suc p) 0) l s u es gs l_is r_is k lo up few (take p O) (drop (suc (suc p)) O) (about O p inside) ∙ without_next O p (omega arith);
    few = merge_few b fs S (get_or O p 0) (get_or O (suc p) 0) l s u es gs l_is r_is k lo up few;
  }

module _ {c : Checked} {xs : List ℕ} (R : Ready c xs) where
  abbrev y : Layout
  y = c.size.layout

  abbrev order : List ℕ
  order = c.survey.order

  pub count_told : (p k r : ℕ) (ys : List ℕ) → p < c.survey.count → k ≡ get_or order p 0 → ys ≡ bytes_at_slot y k xs → r ≡ count_at y.b ys → CountTold r c xs p
  count_told p k r ys h e f q fs g = q ∙ count_is (place_reads (ready_ordered R g) p k ys h e f)

  -- The slot at a place, as its bytes are read.
  pub place_read : {fs : List Slot} → read_file xs ≡ some (y, fs) → (p k : ℕ) (ys : List ℕ) → p < c.survey.count → k ≡ get_or order p 0 → ys ≡ bytes_at_slot y k xs
      → {l : Low} {u : Str} {es : List Entry} → placed fs p ≡ used l u es → ReadAs y ys l u es
  place_read {fs} e p k ys h i f is = rw f (slot_read xs e (ready_sound R e) k (ap (slot_at fs) (i ∙ place_number (ready_ordered R e) p h) ∙ is))

  -- The two stores of a merge.
  pub merge_told : (q : Plan) (right m n i L K : ℕ) (wide zeros left_bytes right_bytes : List ℕ) → right < c.survey.count
      → L ≡ get_or order (right - 1) 0 → K ≡ get_or order right 0 → left_bytes ≡ bytes_at_slot y L xs → right_bytes ≡ bytes_at_slot y K xs
      → WidenedTold wide y left_bytes m right_bytes n i → TwoStores q L wide K zeros → zeros ≡ replicate 704 0
      → MergeTold (record { plan = q; right = Some right }) c xs right m n i
  merge_told q right m n i L K wide zeros left_bytes right_bytes h l_at k_at l_bytes r_bytes W T z fs e p t l s u es gs l_is r_is hm hn k lo up few w f j =
      let O = ready_ordered R e in
      let S = ready_sound R e in
      let before : right - 1 ≡ p = omega arith in
      let a : L ≡ get_or (order_of fs) p 0 = l_at ∙ ap (λ (v : ℕ). get_or order v 0) before ∙ place_number O p (omega arith) in
      let d : K ≡ get_or (order_of fs) (suc p) 0 = k_at ∙ ap (λ (v : ℕ). get_or order v 0) (sym t) ∙ place_number O (suc p) (omega arith) in
      let la : slot_at fs L ≡ used l s es = ap (slot_at fs) a ∙ l_is in
      let ra : slot_at fs K ≡ used (at s) u gs = ap (slot_at fs) d ∙ r_is in
      let rl = slot_read xs e S L la in
      let rr = slot_read xs e S K ra in
      let x : Begins wide y (used l u (without k (es ++ gs))) = W l s u es gs (rw l_bytes rl) (rw r_bytes rr) hm hn k w f j in (
        (T.0, (T.1 ∙ a, ap (take (slot_size y)) T.2 ∙ x), (T.3 ∙ d, ap (take (slot_size y)) (T.4 ∙ z) ∙ free_begins y R.said.sized.legal.b_most)),
        (refl, subst (Joined y.b fs (merged k (get_or (order_of fs) p 0) (get_or (order_of fs) (suc p) 0) l u es gs)) t (merge_joins y.b S p (omega (arith, ready_count R e)) l_is r_is k lo up few)),
      )

  -- The removal of n, which the bucket at a place holds at a spot.
  module _ {fs : List Slot} (e : read_file xs ≡ some (y, fs)) (P : ℕ) (inside : P < c.survey.count) {l : Low} {u : Str} {es : List Entry} (is : placed fs P ≡ used l u es)
      (n : Str) (lo : l ◁ n) (up : n ⊑ u) (s : Spot) (I : SpotIn s n es) (w : ℕ) (f : find n es ≡ some w) where
    abbrev b : ℕ
    b = y.b

    abbrev Bs : List ℕ
    Bs = order_of fs

    abbrev A : ℕ
    A = get_or Bs P 0

    S : Sound b fs
    S = ready_sound R e

    counted : c.survey.count ≡ length Bs
    counted = ready_count R e

    some_entry : 1 ≤ s.count
    some_entry = omega (arith, I.counted, (place_found n w (well_parts b (rw is at (S.well A))).3 f).0)

    -- With the right neighbour.
    module _ (h : suc P < length Bs) where
      right : (v : Str) × (gs : List Entry) × (slot_at fs (get_or Bs (suc P) 0) ≡ used (at u) v gs)
      right = let N = right_next b S A l u es is (take P Bs) (get_or Bs (suc P) 0) (drop (suc (suc P)) Bs) (about Bs P h) in (_, N.1.0, N.1.1)

      right_count : (k : ℕ) → CountTold k c xs (P + 1) → k ≡ length right.1
      right_count k t = t fs e ∙ ap (λ (j : ℕ). length (entries_of (placed fs j))) (add-one P) ∙ ap (λ (x : Slot). length (entries_of x)) right.2

    pub removal_right : (r : RemovePlan) (k : ℕ) → P + 1 < c.survey.count → CountTold k c xs (P + 1) → s.count - 1 + k ≤ b / 2 → MergeTold r c xs (P + 1) s.count k s.place
        → RemovePlanned r y fs (stores (removal b fs n A l u es))
    removal_right r k t counts few told =
        let h : suc P < length Bs = omega (arith, t, counted) in
        let N = right h in
        let v = N.0 in let gs = N.1 in
        let q : k ≡ length gs = right_count h k counts in
        let up' : n ⊑ v = le_trans up (lt_le (over (well_r b fs S A (get_or Bs (suc P) 0) l u v es gs is N.2).2)) in
        let z = size_right b fs S A (get_or Bs (suc P) 0) l u v es gs is N.2 n lo up' f in
        rw (by_right b S A l u es is n lo up f (take P Bs) (get_or Bs (suc P) 0) (drop (suc (suc P)) Bs) (about Bs P h) N.2 (omega (arith, I.counted)))
        (told fs e P (sym (add-one P)) l u v es gs is N.2 I.counted q n lo up' (omega (arith, I.counted)) w (find_held es gs n f) (I.placed ∙ sym (place_left n es gs f)))

    -- None is there, or it has too many entries.
    pub last_apart : c.survey.count ≤ P + 1 → ¬ ToRight b fs n A l u es
    last_apart gone =
        let z : length Bs ≡ suc P = omega (arith, counted, inside, gone) in
        last_not_right b S A l u es is n lo up f (take P Bs) (up_to Bs P z)

    pub right_apart : (k : ℕ) → P + 1 < c.survey.count → CountTold k c xs (P + 1) → b / 2 < s.count - 1 + k → ¬ ToRight b fs n A l u es
    right_apart k t counts many =
        let h : suc P < length Bs = omega (arith, t, counted) in
        let q : k ≡ length (right h).1 = right_count h k counts in
        not_right b S A l u es is n lo up f (take P Bs) (get_or Bs (suc P) 0) (drop (suc (suc P)) Bs) (about Bs P h) (right h).2 (omega (arith, I.counted, some_entry))

    -- With the left neighbour.
    module _ (h : 1 ≤ P) where
      next : suc (P - 1) ≡ P
      next = omega arith

      after_left : suc (P - 1) < length Bs
      after_left = omega (arith, counted, inside)

      left_about : Bs ≡ take (P - 1) Bs ++ (get_or Bs (P - 1) 0 ∷ A ∷ drop (suc (suc (P - 1))) Bs)
      left_about = about Bs (P - 1) after_left ∙ ap (λ (j : ℕ). take (P - 1) Bs ++ (get_or Bs (P - 1) 0 ∷ get_or Bs j 0 ∷ drop (suc (suc (P - 1))) Bs)) next

      left : (k : Low) × (t : Str) × (ds : List Entry) × (slot_at fs (get_or Bs (P - 1) 0) ≡ used k t ds) × (l ≡ at t)
      left = let N = left_next b S A l u es is (take (P - 1) Bs) (get_or Bs (P - 1) 0) (drop (suc (suc (P - 1))) Bs) left_about in (_, _, N.2.0, N.2.1, N.1)

      left_count : (k : ℕ) → CountTold k c xs (P - 1) → k ≡ length left.2
      left_count k t = t fs e ∙ ap (λ (x : Slot). length (entries_of x)) left.3

    pub removal_left : (r : RemovePlan) (k : ℕ) → ¬ ToRight b fs n A l u es → 0 < P → CountTold k c xs (P - 1) → k + (s.count - 1) ≤ b / 2
        → MergeTold r c xs P k s.count (k + s.place) → RemovePlanned r y fs (stores (removal b fs n A l u es))
    removal_left r k apart t counts few told =
        let N = left t in
        let v = N.0 in let d = N.1 in let ds = N.2 in
        let L = get_or Bs (P - 1) 0 in
        let q : k ≡ length ds = left_count t k counts in
        let r_is : slot_at fs A ≡ used (at d) u es = is ∙ ap (λ x. used x u es) N.4 in
        let above : at d ◁ n = rw N.4 at lo in
        let lo' : v ◁ n = low_lower (low_at (well_l b fs S L A v d u ds es N.3 r_is).2) above in
        let z = size_left b fs S L A v d u ds es N.3 r_is n lo' up (over above) f in
        let row = (well_l b fs S L A v d u ds es N.3 r_is).3 in
        let one = some_entry in
        rw (by_left b S A l u es is n lo up f (take (P - 1) Bs) L (drop (suc (suc (P - 1))) Bs) (left_about t) N.3 apart (omega (arith, I.counted, z)))
        (subst (λ (j : ℕ). RemovePlanned r y fs (stores (merged n L (get_or Bs j 0) v u ds es))) (next t)
        (told fs e (P - 1) (next t) v d u ds es N.3 (ap (placed fs) (next t) ∙ r_is) q I.counted n lo' up (omega (arith, I.counted, z)) w
        (find_right row es n (over above) ∙ f) (ap (λ (j : ℕ). k + j) I.placed ∙ ap (λ (j : ℕ). j + place n es) q ∙ sym (place_right n es row (over above)))))

    pub first_apart : P ≤ 0 → ¬ ToLeft b fs n A l u es
    first_apart gone =
        let z : P ≡ 0 = omega (arith, gone) in
        first_not_left b S A l u es is n lo up f (drop (suc P) Bs) (rw z (split_at Bs 0 0 (omega (arith, counted, inside))))

    pub left_apart : (k : ℕ) → 0 < P → CountTold k c xs (P - 1) → b / 2 < k + (s.count - 1) → ¬ ToLeft b fs n A l u es
    left_apart k t counts many =
        let q : k ≡ length (left t).2 = left_count t k counts in
        not_left b S A l u es is n lo up f (take (P - 1) Bs) (get_or Bs (P - 1) 0) (drop (suc (suc (P - 1))) Bs) (left_about t) (left t).3 (omega (arith, I.counted, some_entry))

    -- With neither: one store.
    pub removal_one : (q : Plan) (bytes : List ℕ) (K : ℕ) → ¬ ToRight b fs n A l u es → ¬ ToLeft b fs n A l u es → K ≡ get_or order P 0
        → Begins bytes y (used l u (without n es)) → OneStore q K bytes → RemovePlanned (record { plan = q; right = None }) y fs (stores (removal b fs n A l u es))
    removal_one q bytes K right_not left_not i z T =
        let a : K ≡ A = i ∙ place_number (ready_ordered R e) P inside in
        rw (removal_alone b fs n A l u es right_not left_not) ((T.0, (T.1 ∙ a, ap (take (slot_size y)) T.2 ∙ z)), refl)
