-- A list of bounds and their beginnings: ascending, closed under beginnings, and exactly these.
use Rattle.model.proofs.Prelude.{List, Memᴰ, mem_append_cases, mem_cases_cons, mem_eq_of_singleton, mem_head, mem_not_nil, mem_tail, mem_append_left, mem_append_right, mem_cast, [], ◌++◌, ◌+◌, ◌-◌, ◌<◌, ◌∙◌, ◌∷◌, ◌≡◌, ◌≤◌, ◌⊎◌, ap, append_assoc, arith, dec_le, drop, get_or, inl, inr, length, length-drop, length-take, refl, suc, sym, take, take-add, take_all, take-take, zero, ℕ}
use Rattle.model.specs.Order.{Low, Str, ◌≺◌, ◌⊑◌, ◌◁◌, above, at, diff, top}
use Rattle.model.specs.Files.{Begins}
use Rattle.model.specs.Searches.{all, fresh, longer}
use Rattle.model.specs.Tries.{Tree}
use Rattle.model.proofs.Deciding.{nil_not_le, over}
use Rattle.model.proofs.Order.{Asc, diff_le_right, end, le_antisym, le_refl, low_at, low_lower, lt_le, lt_trans, step, take_diff}
use Rattle.model.proofs.Growth.{chain_at_leaf}
use Rattle.model.proofs.Tries.{Spans, cut, tip}

-- What stands at a place of a list is in the list.
pub mem_at : {A : Type 0} (d : A) (xs : List A) (i : ℕ) → i < length xs → Memᴰ (get_or xs i d) xs
mem_at d [] i h = absurd (omega arith)
mem_at d (x ∷ xs) zero h = mem_head refl
mem_at d (x ∷ xs) (suc i) h = mem_tail (mem_at d xs i (omega arith))

pub asc_split : (xs : List Str) {r : Str} {ys : List Str} {l : Low} {u : Str} → Asc l (xs ++ (r ∷ ys)) u → (Asc l xs r) × (l ◁ r) × (r ≺ u) × (Asc (at r) ys u)
asc_split [] (step a b s) = (end, a, b, s)
asc_split (x ∷ xs) (step a b s) = let h = asc_split xs s in
    (step a (over h.1) h.0, low_lower (low_at a) h.1, h.2, h.3)

pub asc_mem : {xs : List Str} {l : Low} {u x : Str} → Asc l xs u → Memᴰ x xs → (l ◁ x) × (x ≺ u)
asc_mem end m = absurd (mem_not_nil m)
asc_mem {x = x} (step a b s) (mem_head e) = rw e (a, b)
asc_mem (step a b s) (mem_tail m) = let h = asc_mem s m in (low_lower (low_at a) h.0, h.1)

asc_append : {xs ys : List Str} {l : Low} {y u : Str} → Asc l xs y → y ≺ u → l ◁ y → ((m : Low) → m ◁ y → Asc m ys u) → Asc l (xs ++ ys) u
asc_append {l = l} end b h f = f l h
asc_append (step a c s) b h f = step a (lt_trans c b) (asc_append s b (above c) f)

-- The strings of any trie ascend.
pub trie_asc : {P : Low → Str → ℕ → Type 0} {l : Low} {u : Str} {t : Tree} {ss : List Str} → Spans P l u t ss → Asc l ss u
trie_asc (tip h) = end
trie_asc (cut hi a b L R) = asc_append (trie_asc L) b a (λ m h. step h b (trie_asc R))

-- Two ascending lists with the same members are equal.
pub asc_unique : {xs ys : List Str} {l : Low} {u : Str} → Asc l xs u → Asc l ys u
    → ((x : Str) → Memᴰ x xs → Memᴰ x ys) → ((x : Str) → Memᴰ x ys → Memᴰ x xs) → xs ≡ ys
asc_unique end end f g = refl
asc_unique end (step {x = x} a b s) f g = absurd (mem_not_nil (g x (mem_head refl)))
asc_unique (step {x = x} a b s) end f g = absurd (mem_not_nil (f x (mem_head refl)))
asc_unique {u = u} (step {x = x} {xs = xs} a b s) (step {x = y} {xs = ys} c d t) f g =
    let e : x ≡ y = le_antisym (first s (g y (mem_head refl))) (first t (f x (mem_head refl))) in
    let tails : xs ≡ ys = asc_unique s (rw (← e) at t) (rest s e f) (rest t (sym e) g) in
    cc
  where
    first : {v w : Str} {vs : List Str} → Asc (at v) vs u → Memᴰ w (v ∷ vs) → v ⊑ w
    first {v} s m = elim (mem_cases_cons m) [ inl e ↦ rw e (le_refl v) | inr m ↦ lt_le (over (asc_mem s m).0) ]

    rest : {v w : Str} {vs ws : List Str} → Asc (at v) vs u → v ≡ w → ((z : Str) → Memᴰ z (v ∷ vs) → Memᴰ z (w ∷ ws)) → (z : Str) → Memᴰ z vs → Memᴰ z ws
    rest {v} s e f z m = elim (mem_cases_cons (f z (mem_tail m))) [ inl e' ↦ absurd (over (asc_mem s m).0 (rw (e' ∙ sym e) (le_refl v))) | inr m ↦ m ]

-- x is p with 1 to all of the digits ds.
pub record Longer (p ds x : Str) : Type 0 where
  pub count : ℕ
  pub some : 0 < count
  pub fits : count ≤ length ds
  pub is : x ≡ p ++ take count ds

pub mem_longer : (ds p x : Str) → Memᴰ x (longer p ds) → Longer p ds x
mem_longer [] p x m = absurd (mem_not_nil m)
mem_longer (d ∷ ds) p x m = by (mem_append_cases (longer (p ++ (d ∷ [])) ds) m) (λ m. mem_longer ds (p ++ (d ∷ [])) x m)
  where
    by : Memᴰ x (longer (p ++ (d ∷ [])) ds) ⊎ Memᴰ x ((p ++ (d ∷ [])) ∷ []) → (Memᴰ x (longer (p ++ (d ∷ [])) ds) → Longer (p ++ (d ∷ [])) ds x) → Longer p (d ∷ ds) x
    by (inl m) f = let r = f m in
        record { count = suc r.count; some = omega arith; fits = omega (arith, r.fits); is = r.is ∙ append_assoc p (d ∷ []) (take r.count ds) }
    by (inr m) f = record { count = 1; some = omega arith; fits = omega arith; is = mem_eq_of_singleton m }

pub longer_mem : (ds p : Str) (k : ℕ) → k < length ds → Memᴰ (p ++ take (suc k) ds) (longer p ds)
longer_mem [] p k h = absurd (omega arith)
longer_mem (d ∷ ds) p zero h = mem_append_right (longer (p ++ (d ∷ [])) ds) (mem_head refl)
longer_mem (d ∷ ds) p (suc k) h =
    mem_append_left ((p ++ (d ∷ [])) ∷ []) (mem_cast (sym (append_assoc p (d ∷ []) (take (suc k) ds))) (longer_mem ds (p ++ (d ∷ [])) k (omega arith)))

-- A beginning with a digit is not the greatest string.
pub not_top : (k : ℕ) (s : Str) → 0 < k → k ≤ length s → ¬ ([] ⊑ take k s)
not_top zero s a b = absurd (omega arith)
not_top (suc k) [] a b = absurd (omega arith)
not_top (suc k) (d ∷ s) a b = nil_not_le

pub fresh_begins : (s u x : Str) → Memᴰ x (fresh s u) → Begins s x
fresh_begins s u x m =
    let j : ℕ = diff s u in
    let r = mem_longer (drop j s) (take j s) x m in
    record { count = j + r.count; some = omega (arith, r.some); fits = omega (arith, r.some, r.fits, length-drop j s); is = r.is ∙ sym (take-add j r.count s) }

-- Every non-empty beginning of s is new, or begins the path.
pub begins : (s u : Str) (k : ℕ) → 0 < k → k ≤ length s → Memᴰ (take k s) (fresh s u) ⊎ ((k ≤ diff s u) × (take k s ≡ take k u))
begins s u k h hk = by (dec_le k (diff s u))
  where
    j : ℕ
    j = diff s u

    by : Dec (k ≤ j) → Memᴰ (take k s) (fresh s u) ⊎ ((k ≤ j) × (take k s ≡ take k u))
    by (yes l) = inr (l, sym (take-take k j s l) ∙ ap (take k) (take_diff s u) ∙ take-take k j u l)
    by (no n) = let e : k ≡ j + suc (k - suc j) = omega arith in inl (mem_cast (ap (λ (m : ℕ). take m s) e ∙ take-add j (suc (k - suc j)) s) (longer_mem (drop j s) (take j s) (k - suc j) (rw length-drop (omega arith))))

-- A beginning of a string of the list is in the list, or not below u.
abbrev pub Closed : List Str → Str → Type 0
Closed ss u = (x : Str) → Memᴰ x ss → (k : ℕ) → Memᴰ (take k x) ss ⊎ (u ⊑ take k x)

pub fresh_asc : (x u : Str) (l : Low) → l ◁ x → x ≺ u → Asc l (fresh x u) u
fresh_asc x u l a b = trie_asc (chain_at_leaf (λ l u B. Unit {0}) (record { shrink = λ h i j. tt }) x {A = 0} a b tt)

pub all_asc : (xs : List Str) (l : Low) → Asc l xs [] → Asc l (all xs) []
all_asc [] l s = end
all_asc (x ∷ []) l (step a b s) = fresh_asc x [] l a b
all_asc (x ∷ y ∷ ys) l (step a b (step c d s)) =
    asc_append (fresh_asc x y l a (over c)) d (low_lower (low_at a) c) (λ m h. all_asc (y ∷ ys) m (step h d s))

pub all_begins : (xs : List Str) (z : Str) → Memᴰ z (all xs) → (x : Str) × Memᴰ x xs × Begins x z
all_begins [] z m = absurd (mem_not_nil m)
all_begins (x ∷ []) z m = (x, mem_head refl, fresh_begins x [] z m)
all_begins (x ∷ y ∷ ys) z m = go (mem_append_cases (fresh x y) m) (λ m. all_begins (y ∷ ys) z m)
  where
    go : Memᴰ z (fresh x y) ⊎ Memᴰ z (all (y ∷ ys)) → (Memᴰ z (all (y ∷ ys)) → (x : Str) × Memᴰ x (y ∷ ys) × Begins x z) → (v : Str) × Memᴰ v (x ∷ y ∷ ys) × Begins v z
    go (inl m) f = (x, mem_head refl, fresh_begins x y z m)
    go (inr m) f = let r = f m in (r.0, mem_tail r.1, r.2)

pub begins_all : (xs : List Str) (x : Str) → Memᴰ x xs → (k : ℕ) → 0 < k → k ≤ length x → Memᴰ (take k x) (all xs)
begins_all [] x m k a b = absurd (mem_not_nil m)
begins_all (x ∷ []) v m k a b = elim (mem_cases_cons m) [
  | inl e ↦ mem_cast (ap (take k) e) (elim (begins x [] k a (rw e at b)) [ inl m ↦ m | inr h ↦ absurd (omega (arith, h.0, diff_le_right x [])) ])
  | inr m ↦ absurd (mem_not_nil m)
]
begins_all (x ∷ y ∷ ys) v m k a b = go (mem_cases_cons m) (λ v m b. begins_all (y ∷ ys) v m k a b)
  where
    go : (v ≡ x) ⊎ Memᴰ v (y ∷ ys) → ((w : Str) → Memᴰ w (y ∷ ys) → k ≤ length w → Memᴰ (take k w) (all (y ∷ ys)))
        → Memᴰ (take k v) (fresh x y ++ all (y ∷ ys))
    go (inr m) f = mem_append_right (fresh x y) (f v m b)
    go (inl e) f = mem_cast (ap (take k) e) (elim (begins x y k a (rw e at b)) [
      | inl m ↦ mem_append_left (all (y ∷ ys)) m
      | inr h ↦ mem_append_right (fresh x y) (mem_cast h.1 (f y (mem_head refl) (omega (arith, h.0, diff_le_right x y))))
    ])

pub all_closed : (xs : List Str) → Closed (all xs) []
all_closed xs z m zero = inr top
all_closed xs z m (suc n) = inl (go (all_begins xs z m))
  where
    k : ℕ
    k = suc n

    go : (x : Str) × Memᴰ x xs × Begins x z → Memᴰ (take k z) (all xs)
    go (x, mx, b) = elim (dec_le k b.count) [
      | yes h ↦ mem_cast (ap (take k) b.is ∙ take-take k b.count x h) (begins_all xs x mx k (omega arith) (omega (arith, h, b.fits)))
      | no h ↦ mem_cast (take_all k z (omega (arith, h, ap length b.is, length-take b.count x))) m
    ]

pub begins_in : (bs : List Str) (x z : Str) → Memᴰ x bs → Begins x z → Memᴰ z (all bs)
begins_in bs x z m b = mem_cast b.is (begins_all bs x m b.count b.some b.fits)
