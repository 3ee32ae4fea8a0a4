-- A split of a bucket: N comes right after A, s is added to the bounds, and the grown trie leads every leaf to its bucket.
use Rattle.model.proofs.Prelude.{List, Memᴰ, mem_append_cases, mem_head, mem_tail, mem_append_left, mem_append_right, mem_cast, [], ◌++◌, ◌<◌, ◌∙◌, ◌∷◌, ◌≡◌, ◌≢◌, ◌≤◌, ◌⊎◌, ap, arith, eq-eqb, inl, inr, length, length-take-le, ne_eqb, refl, suc, sym, take, take-length, take-nil, ℕ, ℕ_discrete}
use Rattle.model.specs.Order.{Low, Str, ◌≺◌, ◌⊑◌, ◌◁◌, above, at, diff, least, none, top}
use Rattle.model.specs.Files.{Begins, Chain, RangeTable, last, next}
use Rattle.model.specs.Searches.{all, bounds, fresh}
use Rattle.model.specs.Tries.{Leads, Tree}
use Rattle.model.specs.Growth.{turn}
use Rattle.model.proofs.Deciding.{le?}
use Rattle.model.proofs.Lists.{mem_insert, mem_leave}
use Rattle.model.proofs.Order.{Asc, diff_le_right, diff_lt_left, le_take, le_trans, low_le, low_trans, lt_le_trans, not_over, split_lt}
use Rattle.model.proofs.Tests.{le_is_at_most, lt_is_at_most}
use Rattle.model.proofs.Tries.{Gap, Spans, cast, relabel, relabel_trie}
use Rattle.model.proofs.Growth.{Growth, Shrinks, graft, grow, grow_trie}
use Rattle.model.proofs.Strings.{Closed, all_asc, all_begins, all_closed, asc_mem, asc_unique, begins, begins_in, fresh_begins, not_top, trie_asc}
use Rattle.model.proofs.Ranges.{bounds_asc, bounds_from, bounds_to, chain_other, chain_used}

-- The file after both stores of a split of A at s, with the new slot N.
pub record SplitAt (F G : RangeTable) (s : Str) (A N : ℕ) : Type 0 where
  pub new_used : G.Used N
  pub new_lower : G.lower N ≡ at s
  pub new_upper : G.upper N ≡ F.upper A
  pub old_used : G.Used A
  pub old_lower : G.lower A ≡ F.lower A
  pub old_upper : G.upper A ≡ s
  pub other : (B : ℕ) → B ≢ A → F.Used B → (G.Used B) × (G.lower B ≡ F.lower B) × (G.upper B ≡ F.upper B)

pub split_trie : (F G : RangeTable) (s : Str) (A N : ℕ) → SplitAt F G s A N → {l : Low} {u : Str} {t : Tree} {ss : List Str}
    → Memᴰ s ss → l ◁ u → Spans (Leads F) l u t ss → Spans (Leads G) l u (relabel (turn s A N) u t) ss
split_trie F G s A N S {ss = ss} ms lu T = relabel_trie (Leads F) (Leads G) (turn s A N) T lu λ l u B lm vu mv gap h. go l u B (ℕ_discrete B A) (le? u s) gap h
  where
    go : (l : Low) (u : Str) (B : ℕ) → Dec (B ≡ A) → Dec (u ⊑ s) → Gap ss l u → Leads F l u B → Leads G l u (turn s A N u B)
    go l u B (no n) y gap h = let o = S.other B n h.used in
        rw (ne_eqb B A n) record { used = o.0; under = rw o.1 h.under; within = rw o.2 h.within }
    go l u B (yes e) (yes k) gap h = rw (eq-eqb B A e, le_is_at_most u s k, e) (record { used = S.old_used; under = rw S.old_lower (rw e at h.under); within = rw S.old_upper k })
    go l u B (yes e) (no k) gap h = rw (eq-eqb B A e, lt_is_at_most u s k) record { used = S.new_used; under = rw S.new_lower (not_over l s (λ j. gap s ms j k)); within = rw S.new_upper (rw e at h.within) }

pub leads_shrinks : (F : RangeTable) → Shrinks (Leads F)
leads_shrinks F = record { shrink = λ h a b. record { used = h.used; under = low_trans h.under a; within = le_trans b h.within } }

-- The split of A at s, a beginning of c with at least a digit: F before, G after both stores.
module _ (F G : RangeTable) (c s : Str) (k : ℕ) (pos : 0 < k) (hk : k ≤ length c) (es : take k c ≡ s) (A N : ℕ)
    (S : SplitAt F G s A N) (t : Tree) (ss : List Str) (T : Spans (Leads F) none [] t ss) (closed : Closed ss []) where
  -- s is a string already: no cell is added.
  pub put_same : Memᴰ s ss → Spans (Leads G) none [] (relabel (turn s A N) [] t) ss
  put_same m = split_trie F G s A N S m least T

  -- s is not: the strings are then the old ones and the non-empty beginnings of s.
  pub record Put : Type 0 where
    pub new : List Str
    pub trie : Spans (Leads G) none [] (relabel (turn s A N) [] (graft c s [] t)) new
    pub keeps : (x : Str) → Memᴰ x ss → Memᴰ x new
    pub gains : (n : ℕ) → 0 < n → n ≤ length s → Memᴰ (take n s) new
    pub only : (x : Str) → Memᴰ x new → Memᴰ x ss ⊎ Begins s x

  pub put_new : ¬ Memᴰ s ss → Put
  put_new n = record { new = new; trie = split_trie F G s A N S s_new least g.trie; keeps = keeps; gains = gains; only = only }
    where
      len : length s ≡ k
      len = ap length (sym es) ∙ length-take-le k c hk

      nonempty : ¬ ([] ⊑ s)
      nonempty h = not_top k c pos hk (rw es h)

      unbegun : (q : Str) → Memᴰ q ss → take k q ≢ s
      unbegun q m e = elim (closed q m k) [ inl m ↦ n (mem_cast (sym e) m) | inr h ↦ nonempty (rw e at h) ]

      g : Growth (Leads F) (leads_shrinks F) c s k hk es none [] (graft c s [] t) ss
      g = grow_trie (Leads F) (leads_shrinks F) c s k hk es T least top (λ e. nonempty (rw (sym e ∙ take-nil k) top)) unbegun

      new : List Str
      new = g.before ++ (fresh s g.path ++ g.after)

      keeps : (x : Str) → Memᴰ x ss → Memᴰ x new
      keeps x m = elim (mem_append_cases g.before (rw g.old at m))
          [ inl m ↦ mem_append_left (fresh s g.path ++ g.after) m | inr m ↦ mem_append_right g.before (mem_append_right (fresh s g.path) m) ]

      gains : (n : ℕ) → 0 < n → n ≤ length s → Memᴰ (take n s) new
      gains n a b = elim (begins s g.path n a b) [
        | inl m ↦ mem_append_right g.before (mem_append_left g.after m)
        | inr h ↦ elim g.path_old [
          | inl e ↦ absurd (omega (arith, h.0, diff_le_right s g.path, ap length e))
          | inr m ↦ elim (closed g.path m n) [ inl m ↦ keeps (take n s) (mem_cast h.1 m) | inr i ↦ absurd (not_top n s a b (rw h.1 i)) ]
        ]
      ]

      s_new : Memᴰ s new
      s_new = mem_cast (sym (ap (λ (m : ℕ). take m s) (sym len) ∙ take-length s)) (gains k pos (omega (arith, len)))

      only : (x : Str) → Memᴰ x new → Memᴰ x ss ⊎ Begins s x
      only x m = elim (mem_append_cases g.before m) [
        | inl m ↦ inl (rw g.old (mem_append_left g.after m))
        | inr m ↦ elim (mem_append_cases (fresh s g.path) m)
            [ inl m ↦ inr (fresh_begins s g.path x m) | inr m ↦ inl (rw g.old (mem_append_right g.before m)) ]
      ]

-- s is added to the bounds.
pub record Adds (bs bs' : List Str) (s : Str) : Type 0 where
  pub asc : Asc none bs' []
  pub keeps : (x : Str) → Memᴰ x bs → Memᴰ x bs'
  pub gains : Memᴰ s bs'
  pub only : (x : Str) → Memᴰ x bs' → Memᴰ x bs ⊎ (x ≡ s)

module _ (F G : RangeTable) (c s : Str) (k : ℕ) (pos : 0 < k) (hk : k ≤ length c) (es : take k c ≡ s) (A N : ℕ)
    (S : SplitAt F G s A N) (t : Tree) (bs bs' : List Str) (add : Adds bs bs' s) (T : Spans (Leads F) none [] t (all bs)) where
  pub grow_same : Memᴰ s (all bs) → Spans (Leads G) none [] (relabel (turn s A N) [] t) (all bs')
  grow_same m = cast (Leads G) (asc_unique (trie_asc T) (all_asc bs' none add.asc) to from)
      (put_same F G c s k pos hk es A N S t (all bs) T (all_closed bs) m)
    where
      to : (x : Str) → Memᴰ x (all bs) → Memᴰ x (all bs')
      to x m = let r = all_begins bs x m in begins_in bs' r.0 x (add.keeps r.0 r.1) r.2

      beginning : (x : Str) → Begins s x → Memᴰ x (all bs)
      beginning x b = mem_cast b.is (elim (all_closed bs s m b.count) [ inl i ↦ i | inr h ↦ absurd (not_top b.count s b.some b.fits h) ])

      from : (x : Str) → Memᴰ x (all bs') → Memᴰ x (all bs)
      from x m' = let r = all_begins bs' x m' in elim (add.only r.0 r.1)
          [ inl i ↦ begins_in bs r.0 x i r.2 | inr e ↦ beginning x (rw e at r.2) ]

  pub grow_new : ¬ Memᴰ s (all bs) → Spans (Leads G) none [] (relabel (turn s A N) [] (graft c s [] t)) (all bs')
  grow_new n = cast (Leads G) (asc_unique (trie_asc p.trie) (all_asc bs' none add.asc) to from) p.trie
    where
      p : Put F G c s k pos hk es A N S t (all bs) T (all_closed bs)
      p = put_new F G c s k pos hk es A N S t (all bs) T (all_closed bs) n

      to : (x : Str) → Memᴰ x p.new → Memᴰ x (all bs')
      to x m = elim (p.only x m) [
        | inl m ↦ (let r = all_begins bs x m in begins_in bs' r.0 x (add.keeps r.0 r.1) r.2)
        | inr b ↦ begins_in bs' s x add.gains b
      ]

      gained : (x : Str) → Begins s x → Memᴰ x p.new
      gained x b = mem_cast b.is (p.gains b.count b.some b.fits)

      from : (x : Str) → Memᴰ x (all bs') → Memᴰ x p.new
      from x m = let r = all_begins bs' x m in elim (add.only r.0 r.1) [
        | inl m ↦ p.keeps x (begins_in bs r.0 x m r.2)
        | inr e ↦ gained x (rw e at r.2)
      ]

module _ (F G : RangeTable) (s : Str) (A N : ℕ) (S : SplitAt F G s A N) where
  chain_same : {l : Low} {Bs : List ℕ} → Chain F l Bs → ((B : ℕ) → Memᴰ B Bs → B ≢ A) → Chain G l Bs
  chain_same (last {B = B} u e f) n = let o = S.other B (n B (mem_head refl)) u in last o.0 (o.1 ∙ e) (o.2 ∙ f)
  chain_same (next {B = B} u e a b c) n =
      let o = S.other B (n B (mem_head refl)) u in
      next o.0 (o.1 ∙ e) (rw (← o.2) at a) (rw (← o.2) at b) (rw (← o.2) at (chain_same c (λ C m. n C (mem_tail m))))

  after_a : G.lower N ≡ at (G.upper A)
  after_a = rw S.old_upper S.new_lower

  pub chain_split : (Xs Ys : List ℕ) {l : Low} → Chain F l (Xs ++ (A ∷ Ys)) → F.lower A ◁ s → s ≺ F.upper A → Chain G l (Xs ++ (A ∷ N ∷ Ys))
  chain_split [] Ys {l} (last u e f) lo up =
      next S.old_used (S.old_lower ∙ e) (rw (e, ← S.old_upper) at lo) (rw (← S.old_upper) at (lt_le_trans up top))
      (last S.new_used after_a (S.new_upper ∙ f))
  chain_split [] Ys {l} (next u e a b c) lo up =
      next S.old_used (S.old_lower ∙ e) (rw (e, ← S.old_upper) at lo) (rw (← S.old_upper) at (lt_le_trans up top))
      (next S.new_used after_a (above (rw (← S.old_upper, ← S.new_upper) at up)) (rw (← S.new_upper) at b)
      (rw (← S.new_upper) at (chain_same c (λ C m. chain_other F A Ys (next u e a b c) C m))))
  chain_split (B ∷ []) Ys {l} (next u e a b c) lo up =
      let o = S.other B (λ q. chain_other F B (A ∷ Ys) (next u e a b c) A (mem_head refl) (sym q)) u in
      next o.0 (o.1 ∙ e) (rw (← o.2) at a) (rw (← o.2) at b) (rw (← o.2) at (chain_split [] Ys c lo up))
  chain_split (B ∷ X ∷ Xs) Ys {l} (next u e a b c) lo up =
      let o = S.other B (λ q. chain_other F B (X ∷ (Xs ++ (A ∷ Ys))) (next u e a b c) A (mem_append_right (X ∷ Xs) (mem_head refl)) (sym q)) u in
      next o.0 (o.1 ∙ e) (rw (← o.2) at a) (rw (← o.2) at b) (rw (← o.2) at (chain_split (X ∷ Xs) Ys c lo up))

  -- The bounds after the split are those before, and s.
  pub adds : (Xs Ys : List ℕ) → Chain F none (Xs ++ (A ∷ Ys)) → F.lower A ◁ s → s ≺ F.upper A
      → Adds (bounds F (Xs ++ (A ∷ Ys))) (bounds G (Xs ++ (A ∷ N ∷ Ys))) s
  adds Xs Ys c lo up = record { asc = bounds_asc G Cs none d; keeps = keeps; gains = gains; only = only }
    where
      Bs : List ℕ
      Bs = Xs ++ (A ∷ Ys)

      Cs : List ℕ
      Cs = Xs ++ (A ∷ N ∷ Ys)

      d : Chain G none Cs
      d = chain_split Xs Ys c lo up

      keeps : (x : Str) → Memᴰ x (bounds F Bs) → Memᴰ x (bounds G Cs)
      keeps x m = go (bounds_from F Bs x m) (asc_mem (bounds_asc F Bs none c) m).1
        where
          go : (B : ℕ) × Memᴰ B Bs × (x ≡ F.upper B) → x ≺ [] → Memᴰ x (bounds G Cs)
          go (B, m, e) t = elim (ℕ_discrete B A) [
            | yes q ↦ bounds_to G Cs none d x N (mem_append_right Xs (mem_tail (mem_head refl))) (e ∙ ap F.upper q ∙ sym S.new_upper) t
            | no n ↦ bounds_to G Cs none d x B (mem_insert Xs A N Ys m) (e ∙ sym (S.other B n (chain_used F c B m)).2) t
          ]

      gains : Memᴰ s (bounds G Cs)
      gains = bounds_to G Cs none d s A (mem_append_right Xs (mem_head refl)) (sym S.old_upper) (lt_le_trans up top)

      only : (x : Str) → Memᴰ x (bounds G Cs) → Memᴰ x (bounds F Bs) ⊎ (x ≡ s)
      only x m = go (bounds_from G Cs x m) (asc_mem (bounds_asc G Cs none d) m).1
        where
          go : (B : ℕ) × Memᴰ B Cs × (x ≡ G.upper B) → x ≺ [] → Memᴰ x (bounds F Bs) ⊎ (x ≡ s)
          go (B, m, e) t = elim (mem_leave Xs A N Ys m) [
            | inl q ↦ inl (bounds_to F Bs none c x A (mem_append_right Xs (mem_head refl)) (e ∙ ap G.upper q ∙ S.new_upper) t)
            | inr m ↦ elim (ℕ_discrete B A) [
              | yes q ↦ inr (e ∙ ap G.upper q ∙ S.old_upper)
              | no n ↦ inl (bounds_to F Bs none c x B m (e ∙ (S.other B n (chain_used F c B m)).2) t)
            ]
          ]

-- c the split key, z the last name, both of A's range; s the split string.
pub split_agrees : (F G : RangeTable) (A N : ℕ) (Xs Ys : List ℕ) (c z : Str) (t : Tree)
    → Chain F none (Xs ++ (A ∷ Ys)) → F.lower A ◁ c → c ≺ z → z ⊑ F.upper A
    → SplitAt F G (take (suc (diff c z)) c) A N
    → Spans (Leads F) none [] t (all (bounds F (Xs ++ (A ∷ Ys))))
    → (is : Dec (Memᴰ (take (suc (diff c z)) c) (all (bounds F (Xs ++ (A ∷ Ys))))))
    → Spans (Leads G) none [] (grow is c (take (suc (diff c z)) c) A N t) (all (bounds G (Xs ++ (A ∷ N ∷ Ys))))
split_agrees F G A N Xs Ys c z t chain lo cz up S T is =
    let k : ℕ = suc (diff c z) in
    let s : Str = take k c in
    let hk : k ≤ length c = diff_lt_left c z cz in
    let a = adds F G s A N S Xs Ys chain (low_le lo (le_take k c)) (lt_le_trans (split_lt c z cz) up) in
    elim is as (λ is. Spans (Leads G) none [] (grow is c s A N t) (all (bounds G (Xs ++ (A ∷ N ∷ Ys))))) [
      | yes m ↦ grow_same F G c s k (omega arith) hk refl A N S t (bounds F (Xs ++ (A ∷ Ys))) (bounds G (Xs ++ (A ∷ N ∷ Ys))) a T m
      | no n ↦ grow_new F G c s k (omega arith) hk refl A N S t (bounds F (Xs ++ (A ∷ Ys))) (bounds G (Xs ++ (A ∷ N ∷ Ys))) a T n
    ]
