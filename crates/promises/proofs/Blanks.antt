-- Inner blanks, tested: the older tests are today's and the test that there is none.
use Rattle.model.proofs.Prelude.{Bool, List, Memᴰ, mem_head, mem_not_nil, mem_tail, [], ◌&&◌, ◌-◌, ◌<◌, ◌∙◌, ◌∷◌, ◌≡◌, ◌≤◌, and_assoc, and-false, and-true, ap, arith, clash, cond, dec_lt, eq-eqb, eqb, eqb-true, false, get_or, le-leb, leb, leb-true, length, lt-leb, ne_eqb, refl, set, suc, sym, true, zero, ℕ, ℕ_discrete}
use Rattle.model.specs.Order.{Low, Str, at, none}
use Rattle.model.specs.Tests.{are_digits, is_above, is_at_most, is_blank_digit, is_legal_bound, is_legal_filled, is_legal_low, is_legal_name}
use Rattle.model.specs.Names.{Digits, filled}
use Rattle.model.specs.Entries.{Entry}
use Rattle.model.specs.Files.{Slot, entries_of, free, slot_at, used}
use Rattle.model.specs.Searches.{order_of}
use Rattle.model.specs.Checks.{Kind, all_well, check, cut_among, cut_below_with, has_twin, is_bad, is_chain, is_cut_by, is_listed, is_row, is_sound, is_sound_file, is_well_formed}
use Rattle.model.proofs.Tests.{both_true}
use Rattle.model.proofs.Names.{are_digits_digits, digits_are_digits, filled_at, filled_behind, length_filled}
use Rattle.promises.specs.Demand1.{LegalName}
use Rattle.promises.proofs.Demand1.{name_legal}
use Rattle.promises.specs.Older.{HoldsBlank, InnerBlank, blank_ended, blanks, is_older_filled, is_older_name, is_older_row, is_older_sound, is_older_well, kind_of_older, older_all_well, older_cut_below, older_cut_by}

-- Nothing but blanks behind a blank.
unfoldable pub is_plain : Str → Bool
is_plain [] = true
is_plain (d ∷ n) = cond (is_blank_digit d) (blanks n) (is_plain n)

unfoldable pub plain_entries : List Entry → Bool
plain_entries [] = true
plain_entries (e ∷ es) = is_plain e.0 && plain_entries es

abbrev pub is_plain_slot : Slot → Bool
is_plain_slot x = plain_entries (entries_of x)

unfoldable pub are_all_plain : List Slot → Bool
are_all_plain [] = true
are_all_plain (x ∷ fs) = is_plain_slot x && are_all_plain fs

-- What the test says.
later : {d : ℕ} {n : Str} → InnerBlank n → InnerBlank (d ∷ n)
later B = record { blank = suc B.blank; behind = suc B.behind; before = omega (arith, B.before); inside = omega (arith, B.inside); is_blank = B.is_blank; is_more = B.is_more }

more_than_blanks : (n : Str) → blanks n ≡ false → (i : ℕ) × (i < length n) × (¬ (get_or n i 0 ≡ 0x20))
unfolding blanks
more_than_blanks [] e = clash cc
more_than_blanks (d ∷ n) e = elim (ℕ_discrete d 0x20) [
  | yes q ↦ let r = more_than_blanks n (rw (eq-eqb d 0x20 q) at e) in (suc r.0, omega (arith, r.1), r.2)
  | no q ↦ (0, omega arith, q)
]

all_blanks : (n : Str) → blanks n ≡ true → (i : ℕ) → i < length n → get_or n i 0 ≡ 0x20
unfolding blanks
all_blanks [] e i h = absurd (omega arith)
all_blanks (d ∷ n) e zero h = eqb-true d 0x20 (both_true (eqb d 0x20) (blanks n) e).0
all_blanks (d ∷ n) e (suc i) h = all_blanks n (both_true (eqb d 0x20) (blanks n) e).1 i (omega arith)

pub not_plain : (n : Str) → is_plain n ≡ false → InnerBlank n
unfolding is_plain
not_plain [] e = clash cc
not_plain (d ∷ n) e = elim (ℕ_discrete d 0x20) [
  | yes q ↦ let r = more_than_blanks n (rw (eq-eqb d 0x20 q) at e) in
      record { blank = 0; behind = suc r.0; before = omega arith; inside = omega (arith, r.1); is_blank = q; is_more = r.2 }
  | no q ↦ later (not_plain n (rw (ne_eqb d 0x20 q) at e))
]

pub plain_not : (n : Str) → is_plain n ≡ true → ¬ InnerBlank n
unfolding is_plain
plain_not [] e B = absurd (omega (arith, B.inside))
plain_not (d ∷ n) e B = elim (ℕ_discrete d 0x20) [
  | yes q ↦ behind B.behind B.before B.inside B.is_more (rw (eq-eqb d 0x20 q) at e)
  | no q ↦ go B.blank B.behind B.before B.inside B.is_blank B.is_more q (rw (ne_eqb d 0x20 q) at e) (plain_not n)
]
  where
    behind : {i : ℕ} (j : ℕ) → i < j → j < length (d ∷ n) → ¬ (get_or (d ∷ n) j 0 ≡ 0x20) → blanks n ≡ true → ⊥
    behind zero h k m e = omega arith
    behind (suc j) h k m e = m (all_blanks n e j (omega arith))

    go : (i j : ℕ) → i < j → j < length (d ∷ n) → get_or (d ∷ n) i 0 ≡ 0x20 → ¬ (get_or (d ∷ n) j 0 ≡ 0x20) → ¬ (d ≡ 0x20) → is_plain n ≡ true → (is_plain n ≡ true → ¬ InnerBlank n) → ⊥
    go zero j h k b m q e f = q b
    go (suc i) zero h k b m q e f = omega arith
    go (suc i) (suc j) h k b m q e f = f e (record { blank = i; behind = j; before = omega arith; inside = omega arith; is_blank = b; is_more = m })

-- Of entries and of slots.
pub blank_entry : (es : List Entry) → plain_entries es ≡ false → (e : Entry) × Memᴰ e es × InnerBlank e.0
unfolding plain_entries
blank_entry [] h = clash cc
blank_entry (e ∷ es) h = go (is_plain e.0) refl (blank_entry es) h
  where
    go : (t : Bool) → is_plain e.0 ≡ t → (plain_entries es ≡ false → (f : Entry) × Memᴰ f es × InnerBlank f.0) → (t && plain_entries es) ≡ false
        → (f : Entry) × Memᴰ f (e ∷ es) × InnerBlank f.0
    go false q f h = (e, mem_head refl, not_plain e.0 q)
    go true q f h = let r = f h in (r.0, mem_tail r.1, r.2)

pub plain_entry : (es : List Entry) → plain_entries es ≡ true → {e : Entry} → Memᴰ e es → ¬ InnerBlank e.0
unfolding plain_entries
plain_entry [] h m B = absurd (mem_not_nil m)
plain_entry (f ∷ es) h {e} (mem_head q) B = plain_not f.0 (both_true (is_plain f.0) (plain_entries es) h).0 (rw (ap (λ (x : Entry). x.0) (sym q)) B)
plain_entry (f ∷ es) h (mem_tail m) B = plain_entry es (both_true (is_plain f.0) (plain_entries es) h).1 m B

pub holds_blank : (x : Slot) → is_plain_slot x ≡ false → HoldsBlank x
holds_blank x h = let r = blank_entry (entries_of x) h in record { entry = r.0; held = r.1; inner = r.2 }

pub holds_none : (x : Slot) → is_plain_slot x ≡ true → ¬ HoldsBlank x
holds_none x h B = plain_entry (entries_of x) h B.held B.inner

pub blank_slot : (x : Slot) → HoldsBlank x → is_plain_slot x ≡ false
blank_slot x B = go (is_plain_slot x) refl
  where
    go : (t : Bool) → is_plain_slot x ≡ t → t ≡ false
    go true e = absurd (holds_none x e B)
    go false e = refl

pub plain_slot : (x : Slot) → ¬ HoldsBlank x → is_plain_slot x ≡ true
plain_slot x n = go (is_plain_slot x) refl
  where
    go : (t : Bool) → is_plain_slot x ≡ t → t ≡ true
    go true e = refl
    go false e = absurd (n (holds_blank x e))

pub plain_at : (fs : List Slot) → are_all_plain fs ≡ true → (B : ℕ) → is_plain_slot (slot_at fs B) ≡ true
unfolding are_all_plain plain_entries
plain_at [] h B = refl
plain_at (x ∷ fs) h zero = (both_true (is_plain_slot x) (are_all_plain fs) h).0
plain_at (x ∷ fs) h (suc B) = plain_at fs (both_true (is_plain_slot x) (are_all_plain fs) h).1 B

pub at_plain : (fs : List Slot) → ((B : ℕ) → B < length fs → is_plain_slot (slot_at fs B) ≡ true) → are_all_plain fs ≡ true
unfolding are_all_plain
at_plain [] h = refl
at_plain (x ∷ fs) h = rw (h 0 (omega arith), at_plain fs (λ B k. h (suc B) (omega arith)))

-- The older test of a filled name.
blanks_digits : (n : Str) → blanks n ≡ (are_digits 0x20 n && blanks n)
unfolding blanks are_digits
blanks_digits [] = refl
blanks_digits (d ∷ n) = elim (ℕ_discrete d 0x20) [
  | yes q ↦ rw (eq-eqb d 0x20 q, le-leb 0x20 d (omega arith), le-leb d 0x7D (omega arith)) (blanks_digits n)
  | no q ↦ rw (ne_eqb d 0x20 q) (sym (and-false (leb 0x20 d && leb d 0x7D && are_digits 0x20 n)))
]

-- A digit that is no blank is above it.
above_blank : (d : ℕ) → ¬ (d ≡ 0x20) → leb 0x21 d ≡ leb 0x20 d
above_blank d q = elim (dec_lt d 0x20) [
  | yes h ↦ lt-leb 0x21 d (omega arith) ∙ sym (lt-leb 0x20 d h)
  | no h ↦ let k : 0x21 ≤ d = go q h in le-leb 0x21 d k ∙ sym (le-leb 0x20 d (omega arith))
]
  where
    go : ¬ (d ≡ 0x20) → ¬ (d < 0x20) → 0x21 ≤ d
    go q h = elim (dec_lt d 0x21) [ yes k ↦ absurd (q (omega arith)) | no k ↦ omega arith ]

ended_plain : (n : Str) → blank_ended n ≡ (are_digits 0x20 n && is_plain n)
unfolding blank_ended are_digits is_plain
ended_plain [] = refl
ended_plain (d ∷ n) = elim (ℕ_discrete d 0x20) [
  | yes q ↦ rw (eq-eqb d 0x20 q, le-leb 0x20 d (omega arith), le-leb d 0x7D (omega arith)) (blanks_digits n)
  | no q ↦ rw (ne_eqb d 0x20 q, above_blank d q, ended_plain n) (sym (and_assoc (leb 0x20 d && leb d 0x7D) (are_digits 0x20 n) (is_plain n)))
]

pub older_filled : (n : Str) → is_older_filled n ≡ (is_legal_filled n && is_plain n)
unfolding is_older_filled is_legal_filled are_digits is_plain
older_filled [] = refl
older_filled (d ∷ n) = elim (ℕ_discrete d 0x20) [
  | yes q ↦ rw (eq-eqb d 0x20 q, lt-leb 0x21 d (omega arith), and-false (eqb (length n) 23), and-false (eqb (suc (length n)) 24 && (leb 0x20 d && leb d 0x7D && are_digits 0x20 n)))
  | no q ↦ rw (ne_eqb d 0x20 q, above_blank d q, ended_plain n, counts (length n)) (parts (eqb (suc (length n)) 24) (leb 0x20 d) (leb d 0x7D) (are_digits 0x20 n) (is_plain n))
]
  where
    counts : (k : ℕ) → eqb k 23 ≡ eqb (suc k) 24
    counts k = elim (ℕ_discrete k 23) [
      | yes e ↦ eq-eqb k 23 e ∙ sym (eq-eqb (suc k) 24 (omega arith))
      | no e ↦ ne_eqb k 23 e ∙ sym (ne_eqb (suc k) 24 (λ f. e (omega arith)))
    ]

    parts : (c l m d p : Bool) → (c && l && m && (d && p)) ≡ (c && (l && m && d) && true && p)
    parts false l m d p = refl
    parts true false m d p = refl
    parts true true false d p = refl
    parts true true true false p = refl
    parts true true true true p = refl

-- Well formed then is well formed and without inner blanks: of entries, of a slot, of all slots.
pub older_row : (l : Low) (es : List Entry) (u : Str) → is_older_row l es u ≡ (is_row l es u && plain_entries es)
unfolding is_older_row is_row plain_entries
older_row l [] u = refl
older_row l (e ∷ es) u = rw (older_filled e.0, older_row (at e.0) es u) (parts (is_legal_filled e.0) (is_plain e.0) (is_above l e.0) (is_at_most e.0 u) (is_row (at e.0) es u) (plain_entries es))
  where
    parts : (f p a m r q : Bool) → (f && p && a && m && (r && q)) ≡ (f && a && m && r && (p && q))
    parts false p a m r q = refl
    parts true false a m r q = sym (and-false (a && m && r))
    parts true true a m r q = sym (and_assoc (a && m) r q)

pub older_well : (b : ℕ) (x : Slot) → is_older_well b x ≡ (is_well_formed b x && is_plain_slot x)
unfolding is_older_well is_well_formed plain_entries
older_well b free = refl
older_well b (used l u es) = rw (older_row l es u) (parts (is_legal_low l && is_legal_bound u && is_above l u) (is_row l es u) (plain_entries es) (leb (length es) b))
  where
    parts : (a r q k : Bool) → (a && (r && q) && k) ≡ (a && r && k && q)
    parts false r q k = refl
    parts true false q k = refl
    parts true true q true = and-true q
    parts true true q false = and-false q

older_all : (b : ℕ) (fs : List Slot) → older_all_well b fs ≡ (all_well b fs && are_all_plain fs)
unfolding older_all_well all_well are_all_plain
older_all b [] = refl
older_all b (x ∷ fs) = rw (older_well b x, older_all b fs) (parts (is_well_formed b x) (is_plain_slot x) (all_well b fs) (are_all_plain fs))
  where
    parts : (w p a q : Bool) → (w && p && (a && q)) ≡ (w && a && (p && q))
    parts false p a q = refl
    parts true false a q = sym (and-false a)
    parts true true a q = refl

older_sound : (b : ℕ) (fs : List Slot) → is_older_sound b fs ≡ (is_sound_file b fs && are_all_plain fs)
unfolding is_older_sound is_sound_file
older_sound b fs = rw (older_all b fs) (parts (all_well b fs) (are_all_plain fs) (is_chain fs none (order_of fs)) (is_listed 0 (order_of fs) fs))
  where
    parts : (w p c l : Bool) → (w && p && c && l) ≡ (w && c && l && p)
    parts false p c l = refl
    parts true false c l = sym (and-false (c && l))
    parts true true c l = sym (and-true (c && l))

-- A slot and the others.
pub plain_freed : (fs : List Slot) (N : ℕ) → are_all_plain fs ≡ (is_plain_slot (slot_at fs N) && are_all_plain (set fs N free))
unfolding are_all_plain plain_entries
plain_freed [] N = refl
plain_freed (x ∷ fs) zero = refl
plain_freed (x ∷ fs) (suc N) = rw (plain_freed fs N) (parts (is_plain_slot x) (is_plain_slot (slot_at fs N)) (are_all_plain (set fs N free)))
  where
    parts : (p q r : Bool) → (p && (q && r)) ≡ (q && (p && r))
    parts false q r = sym (and-false q)
    parts true q r = refl

older_cut : (b : ℕ) (fs : List Slot) (N : ℕ) → older_cut_by b fs N (slot_at fs N) ≡ (is_cut_by b fs N (slot_at fs N) && are_all_plain fs)
unfolding older_cut_by is_cut_by
older_cut b fs N = go (slot_at fs N) refl
  where
    parts : (w p t s q : Bool) → (w && p && t && (s && q)) ≡ (w && t && s && (p && q))
    parts false p t s q = refl
    parts true false t s q = sym (and-false (t && s))
    parts true true t s q = sym (and_assoc t s q)

    go : (x : Slot) → slot_at fs N ≡ x → older_cut_by b fs N x ≡ (is_cut_by b fs N x && are_all_plain fs)
    go free e = refl
    go (used none u ns) e = refl
    go (used (at low) u ns) e =
        rw (older_well b (used (at low) u ns), older_sound b (set fs N free), plain_freed fs N, e)
        (parts (is_well_formed b (used (at low) u ns)) (plain_entries ns) (has_twin low u ns (set fs N free)) (is_sound_file b (set fs N free)) (are_all_plain (set fs N free)))

-- So check says then what it says today where all is plain, and bad elsewhere.
cut_plain : (cut older : ℕ → Bool) (p : Bool) → ((k : ℕ) → older k ≡ (cut k && p)) → (N : ℕ) → cut_below_with older N ≡ cond p (cut_below_with cut N) is_bad
cut_plain cut older true h zero = refl
cut_plain cut older false h zero = refl
cut_plain cut older true h (suc N) = rw (h N, and-true (cut N), cut_plain cut older true h N)
cut_plain cut older false h (suc N) = rw (h N, and-false (cut N), cut_plain cut older false h N)

pub older_kind : (b : ℕ) (fs : List Slot) → kind_of_older b fs ≡ cond (are_all_plain fs) (check b fs) is_bad
unfolding kind_of_older check older_cut_below cut_among
older_kind b fs =
    rw (older_sound b fs, cut_plain (λ (k : ℕ). is_cut_by b fs k (slot_at fs k)) (λ (k : ℕ). older_cut_by b fs k (slot_at fs k)) (are_all_plain fs) (older_cut b fs) (length fs))
    (parts (is_sound_file b fs) (are_all_plain fs) (cut_below_with (λ (k : ℕ). is_cut_by b fs k (slot_at fs k)) (length fs)))
  where
    parts : (s p : Bool) (k : Kind) → cond (s && p) is_sound (cond p k is_bad) ≡ cond p (cond s is_sound k) is_bad
    parts true true k = refl
    parts true false k = refl
    parts false true k = refl
    parts false false k = refl

-- Names. One that was legal is legal and has no inner blank, and the converse.
digit_at : (lo : ℕ) (n : Str) → Digits lo n → (i : ℕ) → i < length n → lo ≤ get_or n i 0
digit_at lo [] g i h = absurd (omega arith)
digit_at lo (d ∷ n) g zero h = g.0
digit_at lo (d ∷ n) g (suc i) h = digit_at lo n g.2 i (omega arith)

lowered : (n : Str) → Digits 0x21 n → Digits 0x20 n
lowered [] g = tt
lowered (d ∷ n) g = (omega (arith, g.0), g.1, lowered n g.2)

raised : (n : Str) → Digits 0x20 n → ((i : ℕ) → i < length n → ¬ (get_or n i 0 ≡ 0x20)) → Digits 0x21 n
raised [] g f = tt
raised (d ∷ n) g f = (go (f 0 (omega arith)), g.1, raised n g.2 (λ i h. f (suc i) (omega arith)))
  where
    go : ¬ (d ≡ 0x20) → 0x21 ≤ d
    go q = elim (dec_lt d 0x21) [ yes k ↦ absurd (q (omega (arith, g.0))) | no k ↦ omega arith ]

record OlderLegal (name : Str) : Type 0 where
  least : 1 ≤ length name
  most : length name ≤ 24
  digits : Digits 0x21 name

older_legal : (name : Str) → is_older_name name ≡ true → OlderLegal name
unfolding is_older_name
older_legal name e =
    let p = both_true (leb 1 (length name) && leb (length name) 24) (are_digits 0x21 name) e in
    let q = both_true (leb 1 (length name)) (leb (length name) 24) p.0 in
    record { least = leb-true 1 (length name) q.0; most = leb-true (length name) 24 q.1; digits = are_digits_digits 0x21 name p.1 }

legal_older : (name : Str) → OlderLegal name → is_older_name name ≡ true
unfolding is_older_name
legal_older name g = rw (le-leb 1 (length name) g.least, le-leb (length name) 24 g.most) (digits_are_digits 0x21 name g.digits)

no_blanks : {name : Str} → OlderLegal name → (i : ℕ) → i < length name → ¬ (get_or name i 0 ≡ 0x20)
no_blanks {name} g i h e = absurd (omega (arith, digit_at 0x21 name g.digits i h, e))

pub older_name : (name : Str) → is_older_name name ≡ true → LegalName name × (¬ InnerBlank name)
older_name name e =
    let g = older_legal name e in (
      record {
        least = g.least;
        most = g.most;
        digits = lowered name g.digits;
        first = no_blanks g 0 (omega (arith, g.least));
        last = no_blanks g (length name - 1) (omega (arith, g.least));
      },
      λ B. no_blanks g B.blank (omega (arith, B.before, B.inside)) B.is_blank,
    )

pub name_older : (name : Str) → LegalName name → ¬ InnerBlank name → is_older_name name ≡ true
name_older name L n = legal_older name (record { least = L.least; most = L.most; digits = raised name L.digits each })
  where
    each : (i : ℕ) → i < length name → ¬ (get_or name i 0 ≡ 0x20)
    each i h e = elim (ℕ_discrete i (length name - 1)) [
      | yes q ↦ L.last (ap (λ (k : ℕ). get_or name k 0) (sym q) ∙ e)
      | no q ↦ n (record { blank = i; behind = length name - 1; before = omega arith; inside = omega arith; is_blank = e; is_more = L.last })
    ]

pub older_is_legal_name : (name : Str) → is_older_name name ≡ true → is_legal_name name ≡ true
older_is_legal_name name e = name_legal (older_name name e).0

-- Filled, it has none either.
pub filled_plain : (name : Str) → is_older_name name ≡ true → is_plain (filled name) ≡ true
filled_plain name e = go (is_plain (filled name)) refl
  where
    go : (t : Bool) → is_plain (filled name) ≡ t → t ≡ true
    go true q = refl
    go false q = absurd (none_inside (not_plain (filled name) q))
      where
        g : OlderLegal name
        g = older_legal name e

        none_inside : ¬ InnerBlank (filled name)
        none_inside B = elim (dec_lt B.blank (length name)) [
          | yes h ↦ no_blanks g B.blank h (sym (filled_at name B.blank g.most h) ∙ B.is_blank)
          | no h ↦ B.is_more (filled_behind name B.behind (omega (arith, B.before)) (omega (arith, B.inside, length_filled name)))
        ]
