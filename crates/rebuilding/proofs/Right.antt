-- The trie that is made of the arrays is that of the rules' section 6: the tree of a run is the one that rebuild takes
-- of its strings.
use Rattle.model.proofs.Prelude.{List, [], ◌+◌, ◌-◌, ◌<◌, ◌∙◌, ◌∷◌, ◌≡◌, ◌≤◌, add-zero, ap, arith, drop, get_or, get_or-drop, get_or-take, length, length-drop, length-take, map, refl, suc, sym, take, zero, ℕ}
use Rattle.model.specs.Order.{Low, Str, at, last_digit, none}
use Rattle.model.specs.Files.{Slot, Sound, ranges}
use Rattle.model.specs.Searches.{order_of, strings_of}
use Rattle.model.specs.Tries.{leaf}
use Rattle.model.specs.Rebuilding.{build, label, laid, pick, rebuilt_trie}
use Rattle.model.specs.Agreeing.{slots_between}
use Rattle.model.proofs.Strings.{mem_at}
use Rattle.model.proofs.Files.{strings_only}
use Rattle.model.proofs.Rebuilding.{pick_fits}
use Rattle.model.proofs.Walks.{string_fits}
use Rattle.trie.specs.declared.Strings.{Strings}
use Rattle.trie.specs.Strung.{Holds}
use Rattle.trie.proofs.Strung.{last_digits_at, lengths_at}
use Rattle.rebuilding.specs.Roots.{middle, part, run}
use Rattle.rebuilding.specs.Runs.{rebuilt_of, run_tree}
use Rattle.rebuilding.proofs.Picks.{middle_add, pick_middle}
use Rattle.rebuilding.proofs.Trees.{leaf_of, node_of}

module _ (lens digits slots : List ℕ) (lab : Low → ℕ) where
  -- From a place on, the arrays have these strings, the leaf left of them labelled by l.
  record Row (from : ℕ) (l : Low) (ss : List Str) : Type 0 where
    len_at : (i : ℕ) → i < length ss → get_or lens (from + i) 0 ≡ length (get_or ss i [])
    digit_at : (i : ℕ) → i < length ss → get_or digits (from + i) 0 ≡ last_digit (get_or ss i [])
    left_at : get_or slots from 0 ≡ lab l
    right_at : (i : ℕ) → i < length ss → get_or slots (suc (from + i)) 0 ≡ lab (at (get_or ss i []))
    short : (i : ℕ) → i < length ss → length (get_or ss i []) ≤ 255

  row_before : (m from : ℕ) (l : Low) (ss : List Str) → m < length ss → Row from l ss → Row from l (take m ss)
  row_before m from l ss h R = record {
    len_at = λ i k. let g : i < m = inside i k in rw (get_or-take m ss i [] g) (R.len_at i (omega arith));
    digit_at = λ i k. let g : i < m = inside i k in rw (get_or-take m ss i [] g) (R.digit_at i (omega arith));
    left_at = R.left_at;
    right_at = λ i k. let g : i < m = inside i k in rw (get_or-take m ss i [] g) (R.right_at i (omega arith));
    short = λ i k. let g : i < m = inside i k in rw (get_or-take m ss i [] g) (R.short i (omega arith));
  }
    where
      inside : (i : ℕ) → i < length (take m ss) → i < m
      inside i k = omega (arith, k, length-take m ss)

  row_after : (m from : ℕ) (l : Low) (ss : List Str) → m < length ss → Row from l ss
      → Row (suc (from + m)) (at (get_or ss m [])) (drop (suc m) ss)
  row_after m from l ss h R = record {
    len_at = λ i k. rw (get_or-drop (suc m) ss i [], place i) (R.len_at (suc m + i) (inside i k));
    digit_at = λ i k. rw (get_or-drop (suc m) ss i [], place i) (R.digit_at (suc m + i) (inside i k));
    left_at = R.right_at m h;
    right_at = λ i k. rw (get_or-drop (suc m) ss i [], place i) (R.right_at (suc m + i) (inside i k));
    short = λ i k. rw (get_or-drop (suc m) ss i []) (R.short (suc m + i) (inside i k));
  }
    where
      inside : (i : ℕ) → i < length (drop (suc m) ss) → suc m + i < length ss
      inside i k = omega (arith, k, length-drop (suc m) ss)

      place : (i : ℕ) → suc (from + m) + i ≡ from + (suc m + i)
      place i = omega arith

  part_lengths : (ss : List Str) (from : ℕ) → ((i : ℕ) → i < length ss → get_or lens (from + i) 0 ≡ length (get_or ss i []))
      → part (length ss) from lens ≡ map length ss
  unfolding part
  part_lengths [] from f = refl
  part_lengths (x ∷ xs) from f =
      let e : get_or lens from 0 ≡ length x = rw add-zero at (f 0 (omega arith)) in
      rw (e, part_lengths xs (suc from) (λ i h. let k : suc from + i ≡ from + suc i = omega arith in rw k (f (suc i) (omega arith))))

  no_fuel : (from to : ℕ) → run_tree zero lens digits slots from to ≡ leaf (get_or slots from 0)
  unfolding run_tree
  no_fuel from to = refl

  -- The tree of a run, by its strings.
  tree_build : (n from to : ℕ) (l : Low) (u : Str) (ss : List Str) → to ≡ from + length ss → Row from l ss
      → run_tree n lens digits slots from to ≡ build pick (λ l u. lab l) n l u ss
  tree_build zero from to l u ss e R = no_fuel from to ∙ ap leaf R.left_at
  tree_build (suc n) from to l u [] e R = leaf_of lens digits slots (suc n) from to (omega arith) ∙ ap leaf R.left_at
  tree_build (suc n) from to l u (x ∷ xs) e R =
      node_of lens digits slots n from to (omega arith)
      ∙ rw (
        root,
        R.digit_at m inside,
        R.len_at m inside,
        tree_build n from (from + m) l r (take m ss) (omega (arith, inside, length-take m ss)) (row_before m from l ss inside R),
        tree_build n (suc (from + m)) to (at r) u (drop (suc m) ss) (omega (arith, inside, length-drop (suc m) ss)) (row_after m from l ss inside R),
      )
    where
      ss : List Str
      ss = x ∷ xs

      m : ℕ
      m = pick ss

      r : Str
      r = get_or ss m []

      inside : m < length ss
      inside = pick_fits x xs

      root : middle from (run from to lens) ≡ from + m
      root =
          let k : to - from ≡ length ss = omega arith in
          rw (k, part_lengths ss from R.len_at, pick_middle x xs (R.short 0 (omega arith))) (middle_add from (map length ss))

between_first : (fs : List Slot) (l : Low) (ss : List Str) → get_or (slots_between fs l ss) 0 0 ≡ label (ranges fs) (order_of fs) l
unfolding slots_between
between_first fs l [] = refl
between_first fs l (x ∷ xs) = refl

between_at : (fs : List Slot) (l : Low) (ss : List Str) (i : ℕ) → i < length ss
    → get_or (slots_between fs l ss) (suc i) 0 ≡ label (ranges fs) (order_of fs) (at (get_or ss i []))
unfolding slots_between
between_at fs l [] i h = absurd (omega arith)
between_at fs l (x ∷ xs) zero h = between_first fs (at x) xs
between_at fs l (x ∷ xs) (suc i) h = between_at fs (at x) xs i (omega arith)

pub rebuilt_right : {b : ℕ} {fs : List Slot} → Sound b fs → (s : Strings)
    → Holds s (strings_of fs) (slots_between fs none (strings_of fs)) → length (strings_of fs) ≤ 256
    → rebuilt_of s.lens s.digits s.slots s.count ≡ rebuilt_trie fs
unfolding rebuilt_of
rebuilt_right {b} {fs} S s H few =
    rw H.count_is (ap laid (tree_build s.lens s.digits s.slots lab n 0 n none [] ss (omega arith) row))
  where
    ss : List Str
    ss = strings_of fs

    n : ℕ
    n = length ss

    lab : Low → ℕ
    lab l = label (ranges fs) (order_of fs) l

    place : (i : ℕ) → 0 + i ≡ i
    place i = omega arith

    slots_at : (i : ℕ) → i < suc n → get_or s.slots i 0 ≡ get_or (slots_between fs none ss) i 0
    slots_at i h = sym (get_or-take (suc n) s.slots i 0 h) ∙ ap (λ (xs : List ℕ). get_or xs i 0) H.slots_are

    row : Row s.lens s.digits s.slots lab 0 none ss
    row = record {
      len_at = λ i h. rw (place i) (sym (get_or-take n s.lens i 0 h) ∙ ap (λ (xs : List ℕ). get_or xs i 0) H.lens_are ∙ lengths_at ss i);
      digit_at = λ i h. rw (place i) (sym (get_or-take n s.digits i 0 h) ∙ ap (λ (xs : List ℕ). get_or xs i 0) H.digits_are ∙ last_digits_at ss i);
      left_at = slots_at 0 (omega arith) ∙ between_first fs none ss;
      right_at = λ i h. rw (place i) (slots_at (suc i) (omega arith) ∙ between_at fs none ss i h);
      short = λ i h. omega (arith, string_fits b S (get_or ss i []) (strings_only b S (get_or ss i []) (mem_at [] ss i h)));
    }
