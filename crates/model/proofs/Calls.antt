-- Each request has one list of stores or one refusal, and the function gives it.
use Rattle.model.proofs.Prelude.{Bool, List, Option, ◌<◌, ◌∙◌, ◌≡◌, ◌≢◌, ◌≤◌, ap, arith, clash, cond, dec_le, dec_lt, false, le-leb, le-ltb, leb, length, lt-leb, lt-ltb, ltb-true, nothing, refl, some, subst, sym, true, ℕ}
use Rattle.model.specs.Order.{Low, Str, ◌⊑◌, ◌◁◌}
use Rattle.model.specs.Names.{Legal}
use Rattle.model.specs.Entries.{Entry, find, insert, is_older, run_of_content}
use Rattle.model.specs.Files.{In, Slot, Sound, entries_of, free, head, slot_at, used}
use Rattle.model.specs.Searches.{first, is_free, is_in_range, string_count}
use Rattle.model.specs.Changes.{Denied, Lowest, Request, Result, Store, call, halves, no_room, put, put_in, refuse, removal, remove, remove_in, stored, stores, stores_if, too_many}
use Rattle.model.proofs.Files.{bucket, first_before, first_passes, found_in, free_is_free, is_free_free, one_range}
use Rattle.model.specs.declared.Content.{Content}
use Rattle.model.specs.declared.Layout.{Layout}
use Rattle.model.specs.Results.{FoundContent, ReplacedContent}
use Rattle.model.specs.Places.{place_of}
use Rattle.model.specs.Calls.{held, put_takes}
use Rattle.model.proofs.Tests.{never_both}
use Rattle.model.proofs.Changes.{Change, absent, fits, removes, splits}

pub lowest_unique : {fs : List Slot} {M N : ℕ} → Lowest fs M → Lowest fs N → M ≡ N
lowest_unique {fs} {M} {N} L K = elim (dec_lt M N) [
  | yes h ↦ absurd (K.lowest M h L.is_free)
  | no h ↦ elim (dec_lt N M) [ yes k ↦ absurd (L.lowest N k K.is_free) | no k ↦ omega arith ]
]

not_free : (fs : List Slot) (B : ℕ) → B < first is_free fs → slot_at fs B ≢ free
not_free fs B h e = never_both (is_free (slot_at fs B)) (free_is_free (slot_at fs B) e) (first_before is_free fs B h)

pub free_lowest : (fs : List Slot) → first is_free fs < length fs → Lowest fs (first is_free fs)
free_lowest fs h = record { inside = h; is_free = is_free_free (slot_at fs (first is_free fs)) (first_passes is_free fs h); lowest = λ B k. not_free fs B k }

module _ (b : ℕ) (place : List Entry → ℕ) where
  module _ {fs : List Slot} (S : Sound b fs) where
    one_bucket : {A C : ℕ} {l m : Low} {u w : Str} {es gs : List Entry} {n : Str} → slot_at fs A ≡ used l u es → l ◁ n → n ⊑ u → slot_at fs C ≡ used m w gs → m ◁ n → n ⊑ w
        → (A ≡ C) × (used l u es ≡ used m w gs)
    one_bucket {A} {C} {n = n} e a c e' a' c' =
        let p : A ≡ C = one_range b S n (rw e (tt, a, c)) (rw e' (tt, a', c')) in
        (p, sym e ∙ ap (slot_at fs) p ∙ e')

    same_entries : {l m : Low} {u w : Str} {es gs : List Entry} → used l u es ≡ used m w gs → es ≡ gs
    same_entries e = ap entries_of e

    unlike : {X : Type 0} (n : Str) (v : ℕ) {l m : Low} {u w : Str} {es gs : List Entry} → used l u es ≡ used m w gs → length (insert n v es) ≤ b → b < length (insert n v gs) → X
    unlike n v e h k = absurd (omega (arith, rw (same_entries e) at h, k))

    pub change_unique : {q : Request} {ss rs : List Store} → Change b place fs q ss → Change b place fs q rs → ss ≡ rs
    change_unique (fits {A = A} {l = l} {u = u} {es = es} is g lo up h) (fits {A = C} {l = m} {u = w} {es = gs} is' g' lo' up' h') =
        let e : (A ≡ C) × (used l u es ≡ used m w gs) = one_bucket is lo up is' lo' up' in
        let p : A ≡ C = e.0 in let q : used l u es ≡ used m w gs = e.1 in cc
    change_unique (fits {n = n} {v = v} is g lo up h) (splits is' g' lo' up' h' L' f') = unlike n v (one_bucket is lo up is' lo' up').1 h h'
    change_unique (splits {n = n} {v = v} is g lo up h L f) (fits is' g' lo' up' h') = unlike n v (one_bucket is' lo' up' is lo up).1 h' h
    change_unique (splits {A = A} {N = N} {l = l} {u = u} {es = es} is g lo up h L f) (splits {A = C} {N = M} {l = m} {u = w} {es = gs} is' g' lo' up' h' L' f') =
        let e : (A ≡ C) × (used l u es ≡ used m w gs) = one_bucket is lo up is' lo' up' in
        let p : A ≡ C = e.0 in let q : used l u es ≡ used m w gs = e.1 in let r : N ≡ M = lowest_unique L L' in cc
    change_unique (removes A {l = l} {u = u} {es = es} is lo up h) (removes C {l = m} {u = w} {es = gs} is' lo' up' h') =
        let e : (A ≡ C) × (used l u es ≡ used m w gs) = one_bucket is lo up is' lo' up' in
        let p : A ≡ C = e.0 in let q : used l u es ≡ used m w gs = e.1 in cc
    change_unique (removes A {es = es} {n = n} {w = w} is lo up h) (absent C is' lo' up' h') =
        let z : ◌≡◌ {A = Option ℕ} nothing (some w) = sym h' ∙ ap (find n) (sym (same_entries (one_bucket is lo up is' lo' up').1)) ∙ h in
        clash cc
    change_unique (absent A is lo up h) (removes C {es = gs} {n = n} {w = w} is' lo' up' h') =
        let z : ◌≡◌ {A = Option ℕ} nothing (some w) = sym h ∙ ap (find n) (same_entries (one_bucket is lo up is' lo' up').1) ∙ h' in
        clash cc
    change_unique (absent A is lo up h) (absent C is' lo' up' h') = refl

    -- And no list of stores where it is refused.
    pub denied_not_made : {q : Request} {r : ℕ} {ss : List Store} → Denied b place fs q r → Change b place fs q ss → ⊥
    denied_not_made (no_room A es {n = n} {v = v} is lo up h f) (fits is' g' lo' up' h') = unlike n v (one_bucket is' lo' up' is lo up).1 h' h
    denied_not_made (no_room A es is lo up h f) (splits {N = N} is' g' lo' up' h' L few) = f N L.inside L.is_free
    denied_not_made (too_many A N es {n = n} {v = v} is lo up h L k) (fits is' g' lo' up' h') = unlike n v (one_bucket is' lo' up' is lo up).1 h' h
    denied_not_made (too_many A N {l = l} {u = u} es {n = n} {v = v} is lo up h L k) (splits {A = C} {N = M} {l = m} {u = w} {es = gs} is' g' lo' up' h' L' few) =
        let e : (C ≡ A) × (used m w gs ≡ used l u es) = one_bucket is' lo' up' is lo up in
        let p : C ≡ A = e.0 in let q : used m w gs ≡ used l u es = e.1 in let r : M ≡ N = lowest_unique L' L in
        let z : halves b place M C m w (insert n v gs) ≡ halves b place N A l u (insert n v es) = cc in
        absurd (omega (arith, k, subst (λ (ss : List Store). string_count (stored ss fs) ≤ 256) z few))

    pub denied_one : {q : Request} {r r' : ℕ} → Denied b place fs q r → Denied b place fs q r' → r ≡ r'
    denied_one (no_room A es is lo up h f) (no_room A' es' is' lo' up' h' f') = refl
    denied_one (no_room A es is lo up h f) (too_many A' N es' is' lo' up' h' L k) = absurd (f N L.inside L.is_free)
    denied_one (too_many A N es is lo up h L k) (no_room A' es' is' lo' up' h' f) = absurd (f N L.inside L.is_free)
    denied_one (too_many A N es is lo up h L k) (too_many A' N' es' is' lo' up' h' L' k') = refl

module _ (b : ℕ) (place : List Entry → ℕ) (fs : List Slot) where
  pub data Answered (q : Request) : Result → Type 0 where
    is_made : {ss : List Store} → Change b place fs q ss → Answered q (stores ss)
    is_denied : {r : ℕ} → Denied b place fs q r → Answered q (refuse r)

  module _ (S : Sound b fs) (n : Str) where
    pub in_range : In (head (slot_at fs (first (is_in_range n) fs))) n
    in_range = let B = bucket b S n in found_in n fs B.0 B.1

    pub remove_right : Answered (remove n) (call b place fs (remove n))
    unfolding call remove_in stores_if
    remove_right = go (first (is_in_range n) fs) (slot_at fs (first (is_in_range n) fs)) refl in_range
      where
        go : (A : ℕ) (x : Slot) → slot_at fs A ≡ x → In (head x) n → Answered (remove n) (remove_in b place fs n A x)
        go A free e h = absurd h.0
        go A (used l u es) e h = by (find n es) refl
          where
            by : (f : Option ℕ) → find n es ≡ f → Answered (remove n) (stores (stores_if f (removal b fs n A l u es)))
            by nothing g = is_made (absent A e h.1 h.2 g)
            by (some w) g = is_made (removes A e h.1 h.2 g)

    pub put_right : (v : ℕ) → Legal n → Answered (put n v) (call b place fs (put n v))
    unfolding call put_in
    put_right v g = go (first (is_in_range n) fs) (slot_at fs (first (is_in_range n) fs)) refl in_range
      where
        go : (A : ℕ) (x : Slot) → slot_at fs A ≡ x → In (head x) n → Answered (put n v) (put_in b place fs n v A x)
        go A free e h = absurd h.0
        go A (used l u es) e h = elim (dec_le (length (insert n v es)) b) [
          | yes k ↦ rw (le-leb (length (insert n v es)) b k) (is_made (fits e g h.1 h.2 k))
          | no k ↦ rw (lt-leb (length (insert n v es)) b (omega (arith, k))) (elim (dec_lt (first is_free fs) (length fs)) [
            | no j ↦ rw (le-ltb (first is_free fs) (length fs) (omega (arith, j))) (let m : b < length (insert n v es) = omega arith in is_denied (no_room A es e h.1 h.2 m (λ B i. not_free fs B (omega arith))))
            | yes j ↦ rw (lt-ltb (first is_free fs) (length fs) j) (split (omega arith) j)
          ])
        ]
          where
            split : b < length (insert n v es) → (j : first is_free fs < length fs)
                → Answered (put n v) (cond (leb (string_count (stored (halves b place (first is_free fs) A l u (insert n v es)) fs)) 256) (stores (halves b place (first is_free fs) A l u (insert n v es))) (refuse 6))
            split k j =
                elim (dec_le (string_count (stored (halves b place (first is_free fs) A l u (insert n v es)) fs)) 256) [
                  | yes i ↦ rw (le-leb (string_count (stored (halves b place (first is_free fs) A l u (insert n v es)) fs)) 256 i)
                      (is_made (splits e g h.1 h.2 k (free_lowest fs j) i))
                  | no i ↦ rw (lt-leb (string_count (stored (halves b place (first is_free fs) A l u (insert n v es)) fs)) 256 (omega (arith, i)))
                      (let m : 256 < string_count (stored (halves b place (first is_free fs) A l u (insert n v es)) fs) = omega arith in is_denied (too_many A (first is_free fs) es e h.1 h.2 k (free_lowest fs j) m))
                ]

-- What a put takes: it is refused by the runs, or takes what its request takes.
pub put_taken : (P : Result → Type 0) (y : Layout) (fs : List Slot) (n : Str) (c run : ℕ) → (is_older run (held fs n) ≡ true → P (refuse 12))
    → (is_older run (held fs n) ≡ false → P (call y.b (place_of y) fs (put n c))) → P (put_takes y fs n c run)
unfolding put_takes
put_taken P y fs n c run f g = go (is_older run (held fs n)) refl
  where
    go : (t : Bool) → is_older run (held fs n) ≡ t → P (cond t (refuse 12) (call y.b (place_of y) fs (put n c)))
    go true e = f e
    go false e = g e

pub older_held : (run : ℕ) (o : Option ℕ) → is_older run o ≡ true → (w : ℕ) × (o ≡ some w) × (run < run_of_content w)
unfolding is_older
older_held run nothing e = clash cc
older_held run (some w) e = (w, refl, ltb-true run (run_of_content w) e)

pub held_older : (run : ℕ) {o : Option ℕ} (w : ℕ) → o ≡ some w → run < run_of_content w → is_older run o ≡ true
unfolding is_older
held_older run w q h = rw (q, lt-ltb run (run_of_content w) h)

-- Equal answers carry equal contents.
pub found_one : {c d : Content} → FoundContent c ≡ FoundContent d → c ≡ d
found_one e = cc

pub replaced_one : {c d : Content} → ReplacedContent c ≡ ReplacedContent d → c ≡ d
replaced_one e = cc
