-- The stores of a change on the bytes of a file are its stores on the file's slots, and what they leave reads back.
use Rattle.model.proofs.Prelude.{Bool, List, [], ◌++◌, ◌-◌, ◌<◌, ◌^◌, ◌∙◌, ◌∷◌, ◌≡◌, get_or-set_other, get_or-set_same, inl, inr, length, length-set, refl, set, some, suc, take, zero, ℕ, ℕ_discrete}
use Rattle.model.specs.declared.Layout.{Layout}
use Rattle.model.specs.declared.Trie.{Trie}
use Rattle.model.specs.Order.{Str}
use Rattle.model.specs.Entries.{Entry, insert, keep}
use Rattle.model.specs.Files.{Cut, IsUsed, Slot, Sound, Well, entries_of, free, head, slot_at}
use Rattle.model.specs.Changes.{Request, Store, put, remove, stored, trie_removed}
use Rattle.model.specs.Format.{AreBytes, Sizes, entry_length, file_bytes, layout_of, read_file, store_bytes}
use Rattle.model.specs.Calls.{stores_bytes, trie_after_put}
use Rattle.model.proofs.Deciding.{le?, str?}
use Rattle.model.proofs.Tests.{equal_same_str, le_is_at_most, lt_is_at_most, same_str_other, true_or_false}
use Rattle.model.proofs.Files.{cut_inside, used_inside}
use Rattle.model.proofs.Format.{Contents, bytes_file_bytes, contents_read_file, file_bytes-read_file, headed_layout, read_file-file_bytes, read_file_read, store_bytes_file_bytes}
use Rattle.model.proofs.Merging.{Removal, alone, leftward, removal_is, rightward}
use Rattle.model.proofs.Changes.{Change, absent, fits, removes, splits, trie_after}

-- Each store is of one of n slots, and its contents fit entries of e bytes.
abbrev pub Legal : ℕ → ℕ → List Store → Type 0
Legal e n [] = Unit {0}
Legal e n (s ∷ ss) = (s.0 < n) × Contents e (entries_of s.1) × Legal e n ss

length_stored : (ss : List Store) (fs : List Slot) → length (stored ss fs) ≡ length fs
length_stored [] fs = refl
length_stored (s ∷ ss) fs = length_stored ss (set fs s.0 s.1) ∙ length-set fs s.0 s.1

pub stores_bytes-file_bytes : (y : Layout) (e : ℕ) (ss : List Store) (fs : List Slot) → Legal e (length fs) ss → stores_bytes y ss (file_bytes y fs) ≡ file_bytes y (stored ss fs)
unfolding stores_bytes
stores_bytes-file_bytes y e [] fs h = refl
stores_bytes-file_bytes y e (s ∷ ss) fs h =
    rw (store_bytes_file_bytes y s.0 s.1 fs h.0)
    (stores_bytes-file_bytes y e ss (set fs s.0 s.1) (rw (length-set fs s.0 s.1) h.2))

contents_stored : (e : ℕ) (ss : List Store) (fs : List Slot) → Legal e (length fs) ss → ((B : ℕ) → Contents e (entries_of (slot_at fs B)))
    → (B : ℕ) → Contents e (entries_of (slot_at (stored ss fs) B))
contents_stored e [] fs h v = v
contents_stored e (s ∷ ss) fs h v =
    contents_stored e ss (set fs s.0 s.1) (rw (length-set fs s.0 s.1) h.2) after
  where
    after : (B : ℕ) → Contents e (entries_of (slot_at (set fs s.0 s.1) B))
    after B = elim (ℕ_discrete B s.0) [
      | yes i ↦ rw (i, get_or-set_same fs s.0 s.1 free h.0) h.1
      | no d ↦ rw (get_or-set_other fs s.0 B s.1 free d) (v B)
    ]

contents_keep : (e : ℕ) (t : Str → Bool) (es : List Entry) → Contents e es → Contents e (keep t es)
unfolding keep
contents_keep e t [] v = tt
contents_keep e t (x ∷ es) v = elim (true_or_false (t x.0)) [
  | inl h ↦ rw h (v.0, contents_keep e t es v.1)
  | inr h ↦ rw h (contents_keep e t es v.1)
]

contents_insert : (e : ℕ) (n : Str) (w : ℕ) (es : List Entry) → w < 256 ^ (e - 24) → Contents e es → Contents e (insert n w es)
unfolding insert
contents_insert e n w [] h v = (h, tt)
contents_insert e n w (x ∷ es) h v = elim (le? n x.0) [
  | no p ↦ rw (lt_is_at_most n x.0 p) (v.0, contents_insert e n w es h v.1)
  | yes p ↦ elim (str? n x.0) [
    | yes q ↦ rw (le_is_at_most n x.0 p, equal_same_str n x.0 q) (h, v.1)
    | no q ↦ rw (le_is_at_most n x.0 p, same_str_other n x.0 q) (h, v)
  ]
]

contents_append : (e : ℕ) (es gs : List Entry) → Contents e es → Contents e gs → Contents e (es ++ gs)
contents_append e [] gs v w = w
contents_append e (x ∷ es) gs v w = (v.0, contents_append e es gs v.1 w)

-- A content that is asked to be put fits an entry of e bytes.
abbrev pub Asked : ℕ → Request → Type 0
Asked e (put n v) = v < 256 ^ (e - 24)
Asked e (remove n) = Unit {0}

-- A slot that reads as used is one of the file's.
there : (fs : List Slot) (A : ℕ) {x : Slot} → slot_at fs A ≡ x → IsUsed (head x) → A < length fs
there fs A e u = used_inside fs A (rw e u)

pub change_legal : (e b : ℕ) (place : List Entry → ℕ) {fs : List Slot} {q : Request} {ss : List Store} → Change b place fs q ss → Asked e q
    → ((B : ℕ) → Contents e (entries_of (slot_at fs B))) → Legal e (length fs) ss
change_legal e b place {fs} (fits {A = A} {es = es} {n = n} {v = v} is g lo up k) h w =
    (there fs A is tt, contents_insert e n v es h (rw is at (w A)), tt)
change_legal e b place {fs} (splits {A = A} {N = N} {es = es} {n = n} {v = v} is g lo up k f c) h w =
    let r = contents_insert e n v es h (rw is at (w A)) in
    (f.inside, contents_keep e _ (insert n v es) r, (there fs A is tt, contents_keep e _ (insert n v es) r, tt))
change_legal e b place {fs} (removes A {l = l} {u = u} {es = es} {n = n} is lo up f) h w = go (removal_is b fs n A l u es)
  where
    go : {ss : List Store} → Removal b fs n A l u es ss → Legal e (length fs) ss
    go (alone c d) = (there fs A is tt, contents_keep e _ es (rw is at (w A)), tt)
    go (rightward {R = R} {gs = gs} r k) =
        (there fs A is tt, contents_keep e _ (es ++ gs) (contents_append e es gs (rw is at (w A)) (rw r at (w R))), (there fs R r tt, tt, tt))
    go (leftward {L = L} {ds = ds} c q i k) =
        (there fs L i tt, contents_keep e _ (ds ++ es) (contents_append e ds es (rw i at (w L)) (rw is at (w A))), (there fs A is tt, tt, tt))
change_legal e b place (absent A is lo up f) h w = tt

-- The first ones of a change's stores are no less legal.
pub legal_take : (e n k : ℕ) (ss : List Store) → Legal e n ss → Legal e n (take k ss)
legal_take e n zero ss h = tt
legal_take e n (suc k) [] h = tt
legal_take e n (suc k) (s ∷ ss) h = (h.0, h.1, legal_take e n k ss h.2)

-- What stores leave of a file, where its slots are well formed then: it reads as they leave its slots, and is bytes.
pub record Left (y : Layout) (fs : List Slot) (xs : List ℕ) : Type 0 where
  pub is : read_file xs ≡ some (y, fs)
  pub bytes : AreBytes xs

module _ (y : Layout) (xs : List ℕ) {fs : List Slot} (bytes : AreBytes xs) (e : read_file xs ≡ some (y, fs)) where
  pub left_stored : (ss : List Store) → Legal (entry_length y) (length fs) ss → ((B : ℕ) → Well y.b (slot_at (stored ss fs) B))
      → Left y (stored ss fs) (stores_bytes y ss xs)
  left_stored ss g well =
      let r = file_bytes-read_file xs e in
      let w = contents_read_file xs bytes e in
      let k : Sizes y (length (stored ss fs)) = rw (length_stored ss fs) r.1 in
      rw (r.0, stores_bytes-file_bytes y (entry_length y) ss fs g) (record { is = read_file-file_bytes y (stored ss fs) k well (contents_stored (entry_length y) ss fs g w); bytes = bytes_file_bytes y (stored ss fs) k well })

  -- What a change leaves, all of its stores made.
  pub read_stored : (place : List Entry → ℕ) {q : Request} {ss : List Store} → Change y.b place fs q ss → Asked (entry_length y) q → Sound y.b (stored ss fs)
      → read_file (stores_bytes y ss xs) ≡ some (y, stored ss fs)
  read_stored place {ss = ss} c h S = (left_stored ss (change_legal (entry_length y) y.b place c h (contents_read_file xs bytes e)) S.well).is

  -- What a recovery leaves of a cut file.
  pub left_freed : {N : ℕ} → Cut y.b fs N → Left y (set fs N free) (store_bytes (layout_of xs) N free xs)
  unfolding stores_bytes
  left_freed {N} C =
      rw (headed_layout (read_file_read xs e).headed) (left_stored ((N, free) ∷ []) (cut_inside y.b C, tt, tt) C.freed.well)

-- The trie after a change, by its stores and by its kind.
pub trie_after_put_is : (b : ℕ) (place : List Entry → ℕ) {fs : List Slot} (n : Str) (v : ℕ) {ss : List Store} (c : Change b place fs (put n v) ss) (t : Trie)
    → trie_after_put b place fs n v ss t ≡ trie_after b place c t
unfolding trie_after_put trie_after
trie_after_put_is b place n v (fits is g lo up k) t = refl
trie_after_put_is b place n v (splits is g lo up k f c) t = rw is

pub trie_removed_is : (b : ℕ) (place : List Entry → ℕ) {fs : List Slot} {n : Str} {ss : List Store} (c : Change b place fs (remove n) ss) (t : Trie) → trie_removed fs ss t ≡ trie_after b place c t
unfolding trie_after trie_removed
trie_removed_is b place (removes A is lo up e) t = refl
trie_removed_is b place (absent A is lo up e) t = refl
