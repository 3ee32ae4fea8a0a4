-- A chain of cells at a leaf is a trie of the leaf's interval; grafting it keeps a trie a trie.
use Rattle.model.proofs.Prelude.{List, Memᴰ, mem_cases_cons, mem_head, mem_not_nil, mem_tail, mem_append_left, mem_append_right, [], ◌++◌, ◌<◌, ◌∙◌, ◌∷◌, ◌≡◌, ◌≢◌, ◌≤◌, ◌⊎◌, add-one, ap, append_assoc, append-nil, arith, drop, drop-cons, drop-length, eq-eqb, get_or, inl, inr, length, length-append, length-take-le, ne_eqb, refl, suc, sym, take, take-append-drop, take-length, take-suc, ℕ, ℕ_discrete}
use Rattle.model.specs.Order.{Low, Str, ◌≺◌, ◌⊑◌, ◌⊴◌, ◌◁◌, above, at, diff}
use Rattle.model.specs.Searches.{fresh, longer}
use Rattle.model.specs.Tries.{Tree, cell, leaf, node}
use Rattle.model.specs.Growth.{at_leaf, chain_of, grown, turn}
use Rattle.model.proofs.Deciding.{le?, str?}
use Rattle.model.proofs.Order.{diff_le_right, diff_lt_left, le_append, le_refl, le_take, low_at, low_le, low_refl, lt_le, lt_or_ge, sandwich, snoc_lt, split_lt, take_diff}
use Rattle.model.proofs.Tries.{Spans, cut, cut_at, relabel, tip}

-- Growth as a tree. R8.3: walk with the split key, and put the new cells at the leaf.
abbrev pub graft : Str → Str → Str → Tree → Tree
graft c s p (leaf A) = grown s p A
graft c s p (node d i L R) =
    elim (le? c (cell d i p)) [ yes h ↦ node d i (graft c s (cell d i p) L) R | no h ↦ node d i L (graft c s p R) ]

unfoldable pub string? : (x : Str) (xs : List Str) → Dec (Memᴰ x xs)
string? x [] = no (λ m. mem_not_nil m)
string? x (y ∷ ys) = go (str? x y) (string? x ys)
  where
    go : Dec (x ≡ y) → Dec (Memᴰ x ys) → Dec (Memᴰ x (y ∷ ys))
    go (yes e) d = yes (mem_head e)
    go (no n) (yes m) = yes (mem_tail m)
    go (no n) (no k) = no (λ m. elim (mem_cases_cons m) [ inl e ↦ n e | inr m ↦ k m ])

-- R8.2: where s is a cell's string already, no cell is added.
abbrev pub grow : {X : Type 0} → Dec X → Str → Str → ℕ → ℕ → Tree → Tree
grow (yes m) c s A N t = relabel (turn s A N) [] t
grow (no n) c s A N t = relabel (turn s A N) [] (graft c s [] t)

-- R8.2: the chain of a string that shares all its digits with the path is the leaf itself.
pub at_leaf_grown : (s p : Str) (B : ℕ) → at_leaf s p B ≡ grown s p B
at_leaf_grown s p B = go (ℕ_discrete (diff s p) (length s))
  where
    go : Dec (diff s p ≡ length s) → at_leaf s p B ≡ grown s p B
    go (yes e) = rw (eq-eqb (diff s p) (length s) e, e, drop-length s)
    go (no e) = rw (ne_eqb (diff s p) (length s) e)

-- What holds at a leaf holds at a leaf of a part of its interval.
pub record Shrinks (P : Low → Str → ℕ → Type 0) : Type 0 where
  pub shrink : {l m : Low} {u v : Str} {s : ℕ} → P l u s → l ⊴ m → v ⊑ u → P m v s

module _ (P : Low → Str → ℕ → Type 0) (S : Shrinks P) where
  pub chain_trie : (ds p : Str) {l : Low} {A : ℕ} → l ◁ (p ++ ds) → P l p A → Spans P l p (chain_of (length p) ds A) (longer p ds)
  chain_trie [] p lo h = tip h
  chain_trie (d ∷ ds) p {l} {A} lo h =
      let q : Str = p ++ (d ∷ []) in
      let e : q ++ ds ≡ p ++ (d ∷ ds) = append_assoc p (d ∷ []) ds in
      let len : length q ≡ suc (length p) = length-append p (d ∷ []) ∙ add-one (length p) in
      let lo' : l ◁ q = low_le (rw (← e) at lo) (le_append q ds) in
      cut_at P d (length p) (omega arith) (rw take-length) lo' (snoc_lt p d)
      (rw len at (chain_trie ds q (rw e lo) (S.shrink h (low_refl l) (lt_le (snoc_lt p d)))))
      (tip (S.shrink h (low_at lo') (le_refl p)))

  pub chain_at_leaf : (s : Str) {l : Low} {u : Str} {A : ℕ} → l ◁ s → s ≺ u → P l u A → Spans P l u (grown s u A) (fresh s u)
  chain_at_leaf s {l} {u} {A} lo up h =
      let j : ℕ = diff s u in
      let d : ℕ = get_or s j 0 in
      let ds : Str = drop (suc j) s in
      let q : Str = take (suc j) s in
      let inside : j < length s = diff_lt_left s u up in
      let e : take j s ++ (d ∷ []) ≡ q = sym (take-suc s j 0 inside) in
      let len : length q ≡ suc j = length-take-le (suc j) s inside in
      let whole : q ++ ds ≡ s = take-append-drop (suc j) s in
      let lo' : l ◁ q = low_le lo (le_take (suc j) s) in
      let up' : q ≺ u = split_lt s u up in
      let left : Spans P l q (chain_of (suc j) ds A) (longer q ds) =
      rw len at (chain_trie ds q (rw whole lo) (S.shrink h (low_refl l) (lt_le up'))) in
      let all : Spans P l u (node d j (chain_of (suc j) ds A) (leaf A)) (longer q ds ++ (q ∷ [])) =
      cut_at P d j (diff_le_right s u) (rw (← take_diff s u) e) lo' up' left (tip (S.shrink h (low_at lo') (le_refl u))) in
      rw (drop-cons s j 0 inside) (rw e all)

  -- The split string s is a beginning of the split key c, and no string of the trie begins with s.
  module _ (c s : Str) (k : ℕ) (hk : k ≤ length c) (es : take k c ≡ s) where
    -- The strings before and after those that came new; the path of the leaf that was replaced.
    pub record Growth (l : Low) (u : Str) (t : Tree) (ss : List Str) : Type 0 where
      pub path : Str
      pub before : List Str
      pub after : List Str
      pub old : ss ≡ before ++ after
      pub path_old : (path ≡ u) ⊎ Memᴰ path ss
      pub trie : Spans P l u t (before ++ (fresh s path ++ after))

    below_path : (u : Str) → c ⊑ u → take k u ≢ s → s ≺ u
    below_path u h n = elim (lt_or_ge s u) [ inl p ↦ p | inr p ↦ absurd (n ((sandwich k c h (rw es p) hk).0 ∙ es)) ]

    pub grow_trie : {l : Low} {u : Str} {t : Tree} {ss : List Str} → Spans P l u t ss → l ◁ c → c ⊑ u
        → take k u ≢ s → ((q : Str) → Memᴰ q ss → take k q ≢ s) → Growth l u (graft c s u t) ss
    grow_trie {u = u} (tip h) lo up n all =
        record {
          path = u;
          before = [];
          after = [];
          old = refl;
          path_old = inl refl;
          trie = rw append-nil (chain_at_leaf s (low_le lo (rw es at (le_take k c))) (below_path u up n) h);
        }
    grow_trie {l} {u} (cut {d = d} {i = i} {L = L} {R = R} {xs = xs} {ys = ys} hi a b x y) lo up n all =
        go (le? c (cell d i u))
        (λ h. grow_trie x lo h (all (cell d i u) (mem_append_right xs (mem_head refl))) (λ q m. all q (mem_append_left (cell d i u ∷ ys) m)))
        (λ h. grow_trie y (above h) up n (λ q m. all q (mem_append_right xs (mem_tail m))))
      where
        q : Str
        q = cell d i u

        go : (t : Dec (c ⊑ cell d i u)) → (c ⊑ cell d i u → Growth l (cell d i u) (graft c s (cell d i u) L) xs)
            → (cell d i u ≺ c → Growth (at (cell d i u)) u (graft c s u R) ys)
            → Growth l u (elim t [ yes h ↦ node d i (graft c s (cell d i u) L) R | no h ↦ node d i L (graft c s u R) ]) (xs ++ (cell d i u ∷ ys))
        go (yes h) f g = let r = f h in
            record {
              path = r.path;
              before = r.before;
              after = r.after ++ (q ∷ ys);
              old = ap (λ (zs : List Str). zs ++ (q ∷ ys)) r.old ∙ append_assoc r.before r.after (q ∷ ys);
              path_old = elim r.path_old [ inl e ↦ inr (mem_append_right xs (mem_head e)) | inr m ↦ inr (mem_append_left (q ∷ ys) m) ];
              trie = simp append_assoc at (cut hi a b r.trie y);
            }
        go (no h) f g = let r = g h in
            record {
              path = r.path;
              before = xs ++ (q ∷ r.before);
              after = r.after;
              old = ap (λ (zs : List Str). xs ++ (q ∷ zs)) r.old ∙ sym (append_assoc xs (q ∷ r.before) r.after);
              path_old = elim r.path_old [ inl e ↦ inl e | inr m ↦ inr (mem_append_right xs (mem_tail m)) ];
              trie = simp append_assoc (cut hi a b x r.trie);
            }
