-- The order is total, transitive and antisymmetric; beginnings, the sandwich, the first difference; lower limits.
use Rattle.model.proofs.Prelude.{Bool, List, [], ◌++◌, ◌<◌, ◌∙◌, ◌∷◌, ◌≡◌, ◌≤◌, ◌⊎◌, ap, arith, cond, dec_le, eqb, eqb-false, eqb-true, false, get_or, inl, inr, length, refl, suc, sym, take, take-take, true, zero, ℕ}
use Rattle.model.specs.Order.{Low, Str, ◌≺◌, ◌⊑◌, ◌⊴◌, ◌◁◌, above, at, below, diff, digit, least, none, top}
use Rattle.model.proofs.Deciding.{head_le, le?, nil_not_le, tail_le}

-- Strings in strictly ascending bound order, above l and below u.
pub data Asc : Low → List Str → Str → Type 0 where
  end : {l : Low} {u : Str} → Asc l [] u
  step : {l : Low} {u x : Str} {xs : List Str} → l ◁ x → x ≺ u → Asc (at x) xs u → Asc l (x ∷ xs) u

pub le_refl : (x : Str) → x ⊑ x
le_refl [] = top
le_refl (a ∷ x) = let h : a ≤ a = omega arith in digit h (λ e. le_refl x)

pub le_trans : {x y z : Str} → x ⊑ y → y ⊑ z → x ⊑ z
le_trans p top = top
le_trans (digit {a = a} p f) (digit {b = c} q g) =
    let h : a ≤ c = omega arith in
    digit h (λ e. le_trans (f (omega arith)) (g (omega arith)))

pub le_antisym : {x y : Str} → x ⊑ y → y ⊑ x → x ≡ y
le_antisym top top = refl
le_antisym (digit {a = a} {b = b} {x = x} {y = y} p f) (digit q g) =
    let e : a ≡ b = omega arith in
    let t : x ≡ y = le_antisym (f e) (g (sym e)) in
    cc

pub lt_le : {x y : Str} → x ≺ y → x ⊑ y
lt_le {x} {y} = go x y
  where
    go : (x y : Str) → x ≺ y → x ⊑ y
    go x [] p = top
    go [] (b ∷ y) p = absurd (p top)
    go (a ∷ x) (b ∷ y) p = by (dec_le a b) (go x y)
      where
        by : Dec (a ≤ b) → (x ≺ y → x ⊑ y) → (a ∷ x) ⊑ (b ∷ y)
        by (no h) r = let h' : b ≤ a = omega arith in absurd (p (digit h' (λ e. absurd (omega arith))))
        by (yes h) r = digit h (λ e. r (λ q. let h' : b ≤ a = omega arith in p (digit h' (λ e'. q))))

pub lt_or_ge : (x y : Str) → (x ≺ y) ⊎ (y ⊑ x)
lt_or_ge x y = elim (le? y x) [ yes p ↦ inr p | no p ↦ inl p ]

pub le_lt_trans : {x y z : Str} → x ⊑ y → y ≺ z → x ≺ z
le_lt_trans p q r = q (le_trans r p)

pub lt_le_trans : {x y z : Str} → x ≺ y → y ⊑ z → x ≺ z
lt_le_trans p q r = p (le_trans q r)

pub lt_trans : {x y z : Str} → x ≺ y → y ≺ z → x ≺ z
lt_trans p q = lt_le_trans p (lt_le q)

-- A beginning comes after all that it begins.
pub le_take : (k : ℕ) (x : Str) → x ⊑ take k x
le_take zero x = top
le_take (suc k) [] = top
le_take (suc k) (a ∷ x) = let h : a ≤ a = omega arith in digit h (λ e. le_take k x)

pub le_append : (p q : Str) → p ++ q ⊑ p
le_append [] q = top
le_append (a ∷ p) q = let h : a ≤ a = omega arith in digit h (λ e. le_append p q)

pub snoc_lt : (p : Str) (d : ℕ) → p ++ (d ∷ []) ≺ p
snoc_lt [] d q = nil_not_le q
snoc_lt (a ∷ p) d q = snoc_lt p d (tail_le q refl)

-- What lies between a string and one of its beginnings has that beginning.
pub sandwich : (k : ℕ) (x : Str) {y : Str} → x ⊑ y → y ⊑ take k x → k ≤ length x → (take k y ≡ take k x) × (k ≤ length y)
sandwich zero x p q h = (refl, omega arith)
sandwich (suc k) [] p q h = absurd (omega arith)
sandwich (suc k) (a ∷ x) top q h = elim q [ ]
sandwich (suc k) (a ∷ x) (digit {b = b} {y = y} p f) (digit q g) h =
    let e : b ≡ a = omega arith in
    let r : (take k y ≡ take k x) × (k ≤ length y) = sandwich k x (f (sym e)) (g e) (omega arith) in
    let t : take k y ≡ take k x = r.0 in
    (cc, omega arith)

-- Of two strings, the smaller one's digits up to and with the first difference are still below the other.
pub split_lt : (c z : Str) → c ≺ z → take (suc (diff c z)) c ≺ z
split_lt [] z p = p
split_lt (a ∷ c) [] p = nil_not_le
split_lt (a ∷ c) (b ∷ z) p = go (eqb a b) refl (split_lt c z)
  where
    go : (t : Bool) → eqb a b ≡ t → (c ≺ z → take (suc (diff c z)) c ≺ z) → take (suc (cond t (suc (diff c z)) 0)) (a ∷ c) ≺ b ∷ z
    go true e r q = r (λ t. p (digit (head_le q) (λ e'. t))) (tail_le q (sym (eqb-true a b e)))
    go false n r q = p (digit (head_le q) (λ e. absurd (eqb-false a b n (sym e))))

-- What two strings share.
pub take_diff : (c z : Str) → take (diff c z) c ≡ take (diff c z) z
take_diff [] z = refl
take_diff (a ∷ c) [] = refl
take_diff (a ∷ c) (b ∷ z) = go (eqb a b) refl (take_diff c z)
  where
    go : (t : Bool) → eqb a b ≡ t → take (diff c z) c ≡ take (diff c z) z → take (cond t (suc (diff c z)) 0) (a ∷ c) ≡ take (cond t (suc (diff c z)) 0) (b ∷ z)
    go true t r = let e = eqb-true a b t in cc
    go false n r = refl

pub diff_le_right : (c z : Str) → diff c z ≤ length z
diff_le_right [] z = omega arith
diff_le_right (a ∷ c) [] = omega arith
diff_le_right (a ∷ c) (b ∷ z) = go (eqb a b) refl (diff_le_right c z)
  where
    go : (t : Bool) → eqb a b ≡ t → diff c z ≤ length z → cond t (suc (diff c z)) 0 ≤ suc (length z)
    go true e r = omega arith
    go false n r = omega arith

-- There the digits differ, where both strings have one.
pub diff_apart : (c z : Str) → diff c z < length c → diff c z < length z → ¬ (get_or c (diff c z) 0 ≡ get_or z (diff c z) 0)
diff_apart [] z h k e = omega arith
diff_apart (a ∷ c) [] h k e = omega arith
diff_apart (a ∷ c) (b ∷ z) h k e = go (eqb a b) refl (diff_apart c z) h k e
  where
    go : (t : Bool) → eqb a b ≡ t → (diff c z < length c → diff c z < length z → ¬ (get_or c (diff c z) 0 ≡ get_or z (diff c z) 0))
        → cond t (suc (diff c z)) 0 < suc (length c) → cond t (suc (diff c z)) 0 < suc (length z) → ¬ (get_or (a ∷ c) (cond t (suc (diff c z)) 0) 0 ≡ get_or (b ∷ z) (cond t (suc (diff c z)) 0) 0)
    go true e r h k f = r (omega arith) (omega arith) f
    go false n r h k f = eqb-false a b n f

-- Two strings that differ: the smaller has a digit at the first difference.
pub diff_lt_left : (c z : Str) → c ≺ z → diff c z < length c
diff_lt_left [] z p = absurd (p top)
diff_lt_left (a ∷ c) [] p = omega arith
diff_lt_left (a ∷ c) (b ∷ z) p = go (eqb a b) refl (diff_lt_left c z)
  where
    go : (t : Bool) → eqb a b ≡ t → (c ≺ z → diff c z < length c) → cond t (suc (diff c z)) 0 < suc (length c)
    go true e r = let h : b ≤ a = omega (arith, eqb-true a b e) in omega (arith, r (λ t. p (digit h (λ e'. t))))
    go false n r = omega arith

-- No shorter beginning than the split string is smaller than as many digits: they are the same.
pub split_shortest : (c z : Str) (i : ℕ) → i ≤ diff c z → take i c ≡ take i z
split_shortest c z i h = sym (take-take i (diff c z) c h) ∙ ap (take i) (take_diff c z) ∙ take-take i (diff c z) z h

pub low_le : {l : Low} {x y : Str} → l ◁ x → x ⊑ y → l ◁ y
low_le least q = least
low_le (above p) q = above (lt_le_trans p q)

pub low_lower : {l m : Low} {x : Str} → l ⊴ m → m ◁ x → l ◁ x
low_lower least q = least
low_lower (below p) (above q) = above (le_lt_trans p q)

pub low_at : {l : Low} {x : Str} → l ◁ x → l ⊴ at x
low_at least = least
low_at (above p) = below (lt_le p)

pub low_refl : (l : Low) → l ⊴ l
low_refl none = least
low_refl (at x) = below (le_refl x)

pub low_trans : {l m n : Low} → l ⊴ m → m ⊴ n → l ⊴ n
low_trans least q = least
low_trans (below p) (below q) = below (le_trans p q)

pub not_over : (l : Low) (s : Str) → ¬ (l ◁ s) → at s ⊴ l
not_over none s n = absurd (n least)
not_over (at x) s n = elim (le? s x) [ yes p ↦ below p | no p ↦ absurd (n (above p)) ]
