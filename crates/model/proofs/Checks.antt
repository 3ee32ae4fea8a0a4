-- The tests of check are what they test; so check names sound files, the slot to free of cut ones, and bad files.
use Rattle.model.proofs.Prelude.{Bool, List, Memᴰ, mem_head, mem_not_nil, mem_tail, [], ◌&&◌, ◌+◌, ◌<◌, ◌||◌, ◌∙◌, ◌∷◌, ◌≡◌, ◌≤◌, add-zero, ap, ap₂, arith, clash, cond, eq-eqb, eqb, eqb-true, false, inl, inr, le-leb, leb, leb-true, length, not, not-true, refl, set, suc, true, zero, zero-add, ℕ, ℕ_discrete}
use Rattle.model.specs.Order.{Low, Str, ◌◁◌, at, none}
use Rattle.model.specs.Tests.{is_above, is_at_most, is_legal_bound, is_legal_filled, is_legal_low, same_str}
use Rattle.model.specs.Names.{BoundLow, limit, unlimited}
use Rattle.model.specs.Entries.{Entry, Row, entry, move, name_at, no_entries, without}
use Rattle.model.specs.Files.{Bad, Chain, Copied, Cut, IsUsed, Slot, Sound, Well, exactly, free, head, last, next, one_more, ranges, slot_at, upper_of, used, well_free, well_used}
use Rattle.model.specs.Searches.{has_lower, is_free, order_of}
use Rattle.model.specs.Checks.{Kind, all_well, are_same_entries, check, cut_among, has_one_more, has_twin, is_bad, is_chain, is_copied, is_cut, is_cut_by, is_in, is_listed, is_row, is_sound, is_sound_file, is_twin, is_well_formed}
use Rattle.model.proofs.Tests.{above_is_above, both_true, either_true, is_above_above, is_at_most_le, is_at_most_lt, le_is_at_most, lt_is_at_most, never_both, same_str_equal, same_str_self, true_left, true_right}
use Rattle.model.proofs.Names.{bound_is_legal_bound, is_legal_bound_bound, is_legal_filled_legal, legal_is_legal_filled}
use Rattle.model.proofs.Ranges.{chain_some}
use Rattle.model.proofs.Files.{cut_not_sound, cut_unique, has_lower_lower, lower_has_lower, order_right, used_inside, used_is_free}

is_legal_low_bound : (l : Low) → is_legal_low l ≡ true → BoundLow l
unfolding is_legal_low
is_legal_low_bound none e = unlimited
is_legal_low_bound (at x) e = limit (is_legal_bound_bound x e)

bound_is_legal_low : {l : Low} → BoundLow l → is_legal_low l ≡ true
unfolding is_legal_low
bound_is_legal_low unlimited = refl
bound_is_legal_low (limit g) = bound_is_legal_bound g

pub is_row_row : (l : Low) (es : List Entry) (u : Str) → is_row l es u ≡ true → Row l es u
unfolding is_row
is_row_row l [] u e = no_entries
is_row_row l (f ∷ es) u e =
    let p = both_true (is_legal_filled f.0 && is_above l f.0 && is_at_most f.0 u) (is_row (at f.0) es u) e in
    let q = both_true (is_legal_filled f.0 && is_above l f.0) (is_at_most f.0 u) p.0 in
    let r = both_true (is_legal_filled f.0) (is_above l f.0) q.0 in
    entry (is_legal_filled_legal f.0 r.0) (is_above_above l f.0 r.1) (is_at_most_le f.0 u q.1) (is_row_row (at f.0) es u p.1)

pub row_is_row : {l : Low} {es : List Entry} {u : Str} → Row l es u → is_row l es u ≡ true
unfolding is_row
row_is_row no_entries = refl
row_is_row {u = u} (entry {e = e} g a c r) = rw (legal_is_legal_filled g, above_is_above a, le_is_at_most e.0 u c, row_is_row r)

-- What the test of a used slot says, part by part.
pub record Wells (b : ℕ) (l : Low) (u : Str) (es : List Entry) : Type 0 where
  pub low : is_legal_low l ≡ true
  pub high : is_legal_bound u ≡ true
  pub above : is_above l u ≡ true
  pub row : is_row l es u ≡ true
  pub most : length es ≤ b

pub wells : (b : ℕ) (l : Low) (u : Str) (es : List Entry) → is_well_formed b (used l u es) ≡ true → Wells b l u es
unfolding is_well_formed
wells b l u es e =
    let p = both_true (is_legal_low l && is_legal_bound u && is_above l u && is_row l es u) (leb (length es) b) e in
    let q = both_true (is_legal_low l && is_legal_bound u && is_above l u) (is_row l es u) p.0 in
    let r = both_true (is_legal_low l && is_legal_bound u) (is_above l u) q.0 in
    let t = both_true (is_legal_low l) (is_legal_bound u) r.0 in
    record { low = t.0; high = t.1; above = r.1; row = q.1; most = leb-true (length es) b p.1 }

module _ (b : ℕ) where
  pub is_well_formed_well : (x : Slot) → is_well_formed b x ≡ true → Well b x
  is_well_formed_well free e = well_free
  is_well_formed_well (used l u es) e =
      let t = wells b l u es e in
      well_used (is_legal_low_bound l t.low) (is_legal_bound_bound u t.high) (is_above_above l u t.above) (is_row_row l es u t.row) t.most

  pub well_is_well_formed : {x : Slot} → Well b x → is_well_formed b x ≡ true
  unfolding is_well_formed
  well_is_well_formed well_free = refl
  well_is_well_formed (well_used {es = es} a c h r k) = rw (bound_is_legal_low a, bound_is_legal_bound c, above_is_above h, row_is_row r, le-leb (length es) b k)

  all_well_well : (fs : List Slot) → all_well b fs ≡ true → (B : ℕ) → Well b (slot_at fs B)
  unfolding all_well
  all_well_well [] e B = well_free
  all_well_well (x ∷ fs) e zero = is_well_formed_well x (both_true (is_well_formed b x) (all_well b fs) e).0
  all_well_well (x ∷ fs) e (suc B) = all_well_well fs (both_true (is_well_formed b x) (all_well b fs) e).1 B

  well_all_well : (fs : List Slot) → ((B : ℕ) → Well b (slot_at fs B)) → all_well b fs ≡ true
  unfolding all_well
  well_all_well [] w = refl
  well_all_well (x ∷ fs) w = rw (well_is_well_formed (w 0), well_all_well fs (λ B. w (suc B)))

is_in_mem : (B : ℕ) (Bs : List ℕ) → is_in B Bs ≡ true → Memᴰ B Bs
unfolding is_in
is_in_mem B [] e = clash cc
is_in_mem B (C ∷ Bs) e = elim (either_true (eqb B C) (is_in B Bs) e) [ inl q ↦ mem_head (eqb-true B C q) | inr q ↦ mem_tail (is_in_mem B Bs q) ]

mem_is_in : (B : ℕ) (Bs : List ℕ) → Memᴰ B Bs → is_in B Bs ≡ true
unfolding is_in
mem_is_in B [] m = absurd (mem_not_nil m)
mem_is_in B (C ∷ Bs) (mem_head e) = true_left (eqb B C) (is_in B Bs) (eq-eqb B C e)
mem_is_in B (C ∷ Bs) (mem_tail m) = true_right (eqb B C) (is_in B Bs) (mem_is_in B Bs m)

module _ (fs : List Slot) where
  is_chain_chain : (l : Low) (Bs : List ℕ) → is_chain fs l Bs ≡ true → Chain (ranges fs) l Bs
  unfolding is_chain
  is_chain_chain l [] e = clash cc
  is_chain_chain l (B ∷ []) e =
      let x = slot_at fs B in
      let p = both_true (has_lower l x) (same_str (upper_of (head x)) []) e in
      let h = has_lower_lower l x p.0 in
      last h.0 h.1 (same_str_equal (upper_of (head x)) [] p.1)
  is_chain_chain l (B ∷ C ∷ Bs) e =
      let x = slot_at fs B in
      let u = upper_of (head x) in
      let p = both_true (has_lower l x && is_above l u && not (is_at_most [] u)) (is_chain fs (at u) (C ∷ Bs)) e in
      let q = both_true (has_lower l x && is_above l u) (not (is_at_most [] u)) p.0 in
      let r = both_true (has_lower l x) (is_above l u) q.0 in
      let h = has_lower_lower l x r.0 in
      next h.0 h.1 (is_above_above l u r.1) (is_at_most_lt [] u (not-true (is_at_most [] u) q.1)) (is_chain_chain (at u) (C ∷ Bs) p.1)

  chain_is_chain : (l : Low) (Bs : List ℕ) → Chain (ranges fs) l Bs → is_chain fs l Bs ≡ true
  unfolding is_chain
  chain_is_chain l [] c = absurd (chain_some (ranges fs) c)
  chain_is_chain l (B ∷ []) (last u e f) = rw (lower_has_lower l (slot_at fs B) u e, f) (same_str_self [])
  chain_is_chain l (B ∷ []) (next u e a c d) = absurd (chain_some (ranges fs) d)
  chain_is_chain l (B ∷ C ∷ Bs) (next u e a c d) =
      rw (lower_has_lower l (slot_at fs B) u e, above_is_above a, lt_is_at_most [] (upper_of (head (slot_at fs B))) c) (chain_is_chain (at (upper_of (head (slot_at fs B)))) (C ∷ Bs) d)

listed_used : (i : ℕ) (Bs : List ℕ) (fs : List Slot) → is_listed i Bs fs ≡ true → (B : ℕ) → IsUsed (head (slot_at fs B)) → Memᴰ (i + B) Bs
unfolding is_listed
listed_used i Bs [] e B h = absurd h
listed_used i Bs (x ∷ fs) e zero h =
    let p = (both_true (is_free x || is_in i Bs) (is_listed (suc i) Bs fs) e).0 in
    rw add-zero (elim (either_true (is_free x) (is_in i Bs) p) [ inl q ↦ absurd (never_both (is_free x) q (used_is_free x h)) | inr q ↦ is_in_mem i Bs q ])
listed_used i Bs (x ∷ fs) e (suc B) h =
    let q : suc i + B ≡ i + suc B = omega arith in
    rw q at (listed_used (suc i) Bs fs (both_true (is_free x || is_in i Bs) (is_listed (suc i) Bs fs) e).1 B h)

used_listed : (i : ℕ) (Bs : List ℕ) (fs : List Slot) → ((B : ℕ) → IsUsed (head (slot_at fs B)) → Memᴰ (i + B) Bs) → is_listed i Bs fs ≡ true
unfolding is_listed is_free
used_listed i Bs [] f = refl
used_listed i Bs (free ∷ fs) f = used_listed (suc i) Bs fs (λ B h. let q : suc i + B ≡ i + suc B = omega arith in rw q (f (suc B) h))
used_listed i Bs (used l u es ∷ fs) f =
    rw (mem_is_in i Bs (rw add-zero at (f 0 tt))) (used_listed (suc i) Bs fs (λ B h. let q : suc i + B ≡ i + suc B = omega arith in rw q (f (suc B) h)))

module _ (b : ℕ) where
  pub is_sound_file_sound : (fs : List Slot) → is_sound_file b fs ≡ true → Sound b fs
  unfolding is_sound_file
  is_sound_file_sound fs e =
      let p = both_true (all_well b fs && is_chain fs none (order_of fs)) (is_listed 0 (order_of fs) fs) e in
      let q = both_true (all_well b fs) (is_chain fs none (order_of fs)) p.0 in
      record {
        order = order_of fs;
        chain = is_chain_chain fs none (order_of fs) q.1;
        listed = λ B h. rw zero-add at (listed_used 0 (order_of fs) fs p.1 B h);
        well = all_well_well b fs q.0;
      }

  pub sound_is_sound_file : {fs : List Slot} → Sound b fs → is_sound_file b fs ≡ true
  unfolding is_sound_file
  sound_is_sound_file {fs} S =
      rw (well_all_well b fs S.well, order_right b S, chain_is_chain fs none S.order S.chain) (used_listed 0 S.order fs (λ B h. rw zero-add (S.listed B h)))

are_same_entries_equal : (xs ys : List Entry) → are_same_entries xs ys ≡ true → xs ≡ ys
unfolding are_same_entries
are_same_entries_equal [] [] e = refl
are_same_entries_equal [] (y ∷ ys) e = cc
are_same_entries_equal (x ∷ xs) [] e = cc
are_same_entries_equal (x ∷ xs) (y ∷ ys) e =
    let p = both_true (same_str x.0 y.0 && eqb x.1 y.1) (are_same_entries xs ys) e in
    let q = both_true (same_str x.0 y.0) (eqb x.1 y.1) p.0 in
    let f : x ≡ y = ap₂ (λ (k : Str) (w : ℕ). (k, w)) (same_str_equal x.0 y.0 q.0) (eqb-true x.1 y.1 q.1) in
    ap₂ (λ (z : Entry) (zs : List Entry). z ∷ zs) f (are_same_entries_equal xs ys p.1)

are_same_entries_self : (xs : List Entry) → are_same_entries xs xs ≡ true
unfolding are_same_entries
are_same_entries_self [] = refl
are_same_entries_self (x ∷ xs) = rw (same_str_self x.0, eq-eqb x.1 x.1 refl) (are_same_entries_self xs)

has_one_more_copied : (i : ℕ) (es ns : List Entry) → i ≤ length ns → has_one_more i es ns ≡ true → Copied es ns
unfolding has_one_more
has_one_more_copied zero es ns h e = clash cc
has_one_more_copied (suc i) es ns h e = elim (either_true (are_same_entries (without (name_at ns i) ns) es) (has_one_more i es ns) e)
    [ inl q ↦ one_more i h (are_same_entries_equal (without (name_at ns i) ns) es q) | inr q ↦ has_one_more_copied i es ns (omega arith) q ]

copied_has_one_more : (k i : ℕ) (es ns : List Entry) → i < k → without (name_at ns i) ns ≡ es → has_one_more k es ns ≡ true
unfolding has_one_more
copied_has_one_more zero i es ns h e = absurd (omega arith)
copied_has_one_more (suc k) i es ns h e = elim (ℕ_discrete i k) [
  | yes q ↦ true_left (are_same_entries (without (name_at ns k) ns) es) (has_one_more k es ns) (rw (← q, e) (are_same_entries_self es))
  | no q ↦ true_right (are_same_entries (without (name_at ns k) ns) es) (has_one_more k es ns) (copied_has_one_more k i es ns (omega arith) e)
]

pub is_copied_copied : (es ns : List Entry) → is_copied es ns ≡ true → Copied es ns
unfolding is_copied
is_copied_copied es ns e = elim (either_true (are_same_entries ns es) (has_one_more (length ns) es ns) e)
    [ inl q ↦ rw (are_same_entries_equal ns es q) exactly | inr q ↦ has_one_more_copied (length ns) es ns (omega arith) q ]

pub copied_is_copied : {es ns : List Entry} → Copied es ns → is_copied es ns ≡ true
unfolding is_copied
copied_is_copied {es} exactly = rw (are_same_entries_self es)
copied_is_copied {es} {ns} (one_more i h e) = true_right (are_same_entries ns es) (has_one_more (length ns) es ns) (copied_has_one_more (length ns) i es ns h e)

module _ (b : ℕ) where
  -- A slot that serves as A.
  abbrev Twin : Str → Str → List Entry → Slot → Type 0
  Twin low up ns free = ⊥
  Twin low up ns (used l u es) = (u ≡ up) × (l ◁ low) × Copied (move low es) ns

  is_twin_twin : (low up : Str) (ns : List Entry) (x : Slot) → is_twin low up ns x ≡ true → Twin low up ns x
  unfolding is_twin
  is_twin_twin low up ns free e = clash cc
  is_twin_twin low up ns (used l u es) e =
      let p = both_true (same_str u up && is_above l low) (is_copied (move low es) ns) e in
      let q = both_true (same_str u up) (is_above l low) p.0 in
      (same_str_equal u up q.0, is_above_above l low q.1, is_copied_copied (move low es) ns p.1)

  twin_is_twin : (low up : Str) (ns : List Entry) (x : Slot) → Twin low up ns x → is_twin low up ns x ≡ true
  unfolding is_twin
  twin_is_twin low up ns free t = absurd t
  twin_is_twin low up ns (used l u es) t =
      rw (t.0, same_str_self up, above_is_above t.1) (copied_is_copied t.2)

  has_twin_twin : (low up : Str) (ns : List Entry) (gs : List Slot) → has_twin low up ns gs ≡ true → (A : ℕ) × Twin low up ns (slot_at gs A)
  unfolding has_twin
  has_twin_twin low up ns [] e = clash cc
  has_twin_twin low up ns (x ∷ gs) e = elim (either_true (is_twin low up ns x) (has_twin low up ns gs) e)
      [ inl q ↦ (0, is_twin_twin low up ns x q) | inr q ↦ later (has_twin_twin low up ns gs q) ]
    where
      later : (A : ℕ) × Twin low up ns (slot_at gs A) → (A : ℕ) × Twin low up ns (slot_at (x ∷ gs) A)
      later (A, t) = (suc A, t)

  twin_has_twin : (low up : Str) (ns : List Entry) (gs : List Slot) (A : ℕ) → Twin low up ns (slot_at gs A) → has_twin low up ns gs ≡ true
  unfolding has_twin
  twin_has_twin low up ns [] A t = absurd t
  twin_has_twin low up ns (x ∷ gs) zero t = true_left (is_twin low up ns x) (has_twin low up ns gs) (twin_is_twin low up ns x t)
  twin_has_twin low up ns (x ∷ gs) (suc A) t = true_right (is_twin low up ns x) (has_twin low up ns gs) (twin_has_twin low up ns gs A t)

  module _ (fs : List Slot) (N : ℕ) where
    pub is_cut_by_cut : (x : Slot) → slot_at fs N ≡ x → is_cut_by b fs N x ≡ true → Cut b fs N
    unfolding is_cut_by
    is_cut_by_cut free i e = clash cc
    is_cut_by_cut (used none up ns) i e = clash cc
    is_cut_by_cut (used (at low) up ns) i e =
        let p = both_true (is_well_formed b (used (at low) up ns) && has_twin low up ns (set fs N free)) (is_sound_file b (set fs N free)) e in
        let q = both_true (is_well_formed b (used (at low) up ns)) (has_twin low up ns (set fs N free)) p.0 in
        let t = has_twin_twin low up ns (set fs N free) q.1 in
        make (is_well_formed_well b (used (at low) up ns) q.0) (is_sound_file_sound b (set fs N free) p.1) t.0 (slot_at (set fs N free) t.0) refl t.1
      where
        make : Well b (used (at low) up ns) → Sound b (set fs N free) → (A : ℕ) (x : Slot) → slot_at (set fs N free) A ≡ x → Twin low up ns x → Cut b fs N
        make w S A free j t = absurd t
        make w S A (used l u es) j t = record {
          low = low;
          up = up;
          new = ns;
          n_is = i;
          n_well = rw i w;
          freed = S;
          A = A;
          a_low = l;
          old = es;
          a_is = j ∙ ap (λ v. used l v es) t.0;
          below = t.1;
          copied = t.2;
        }

    pub cut_is_cut_by : Cut b fs N → is_cut_by b fs N (slot_at fs N) ≡ true
    unfolding is_cut_by
    cut_is_cut_by C = rw (C.n_is, well_is_well_formed b (rw C.n_is at C.n_well), twin_has_twin C.low C.up C.new (set fs N free) C.A (rw C.a_is twin)) (sound_is_sound_file b C.freed)
      where
        twin : (C.up ≡ C.up) × (C.a_low ◁ C.low) × Copied (move C.low C.old) C.new
        twin = (refl, C.below, C.copied)

  -- What check says.
  abbrev pub Checked : List Slot → Kind → Type 0
  Checked fs is_sound = Sound b fs
  Checked fs (is_cut N) = Cut b fs N
  Checked fs is_bad = Bad b fs

  cut_below : (k : ℕ) (fs : List Slot) → ¬ Sound b fs → ((N : ℕ) → k ≤ N → ¬ Cut b fs N) → Checked fs (cut_among k b fs)
  unfolding cut_among
  cut_below zero fs s f = (s, λ N. f N (omega arith))
  cut_below (suc k) fs s f = go (is_cut_by b fs k (slot_at fs k)) refl (cut_below k fs s)
    where
      go : (t : Bool) → is_cut_by b fs k (slot_at fs k) ≡ t → (((N : ℕ) → k ≤ N → ¬ Cut b fs N) → Checked fs (cut_among k b fs)) → Checked fs (cond t (is_cut k) (cut_among k b fs))
      go true e g = is_cut_by_cut fs k (slot_at fs k) refl e
      go false e g = g (λ N h C. elim (ℕ_discrete N k)
          [ yes q ↦ never_both (is_cut_by b fs k (slot_at fs k)) (rw q at (cut_is_cut_by fs N C)) e | no q ↦ f N (omega arith) C ])

  -- Sound files are said to be sound, cut ones cut, and the others bad.
  pub check_right : (fs : List Slot) → Checked fs (check b fs)
  unfolding check
  check_right fs = go (is_sound_file b fs) refl
    where
      go : (t : Bool) → is_sound_file b fs ≡ t → Checked fs (cond t is_sound (cut_among (length fs) b fs))
      go true e = is_sound_file_sound b fs e
      go false e = cut_below (length fs) fs (λ S. never_both (is_sound_file b fs) (sound_is_sound_file b S) e) (λ N h C. inside N h C)
        where
          inside : (N : ℕ) → length fs ≤ N → Cut b fs N → ⊥
          inside N h C = omega (arith, used_inside fs N (rw C.n_is tt))

-- Check, of slots of which the truth is known.
module _ (b : ℕ) (fs : List Slot) where
  pub check_sound : Sound b fs → check b fs ≡ is_sound
  check_sound S = go (check b fs) (check_right b fs)
    where
      go : (k : Kind) → Checked b fs k → k ≡ is_sound
      go is_sound c = refl
      go (is_cut N) C = absurd (cut_not_sound b C S)
      go is_bad B = absurd (B.0 S)

  pub check_cut : {N : ℕ} → Cut b fs N → check b fs ≡ is_cut N
  check_cut {N} C = go (check b fs) (check_right b fs)
    where
      go : (k : Kind) → Checked b fs k → k ≡ is_cut N
      go is_sound S = absurd (cut_not_sound b C S)
      go (is_cut M) D = ap is_cut (cut_unique b D C)
      go is_bad B = absurd (B.1 N C)

  pub check_bad : Bad b fs → check b fs ≡ is_bad
  check_bad B = go (check b fs) (check_right b fs)
    where
      go : (k : Kind) → Checked b fs k → k ≡ is_bad
      go is_sound S = absurd (B.0 S)
      go (is_cut M) D = absurd (B.1 M D)
      go is_bad c = refl
