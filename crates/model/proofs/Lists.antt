-- Lists: what stands at a place, the parts of a list, and what is in it.
use Rattle.model.proofs.Prelude.{List, Memᴰ, mem_append_cases, mem_cases_cons, mem_head, mem_not_nil, mem_tail, mem_append_left, mem_append_right, [], ◌++◌, ◌+◌, ◌-◌, ◌<◌, ◌∙◌, ◌∷◌, ◌≡◌, ◌≤◌, ◌⊎◌, ap, arith, drop, drop-append-add, get_or, get_or-append-add, get_or-take, inl, inr, length, length-append, length-drop, length-replicate, length-take, refl, replicate, sub-zero, suc, sym, take, take_all, take-append-add, take-nil, unary_clauses, zero, ℕ}

-- One thing many times.
pub take-replicate : {A : Type 0} (k m : ℕ) (a : A) → k ≤ m → take k (replicate m a) ≡ replicate k a
take-replicate zero m a h = refl
take-replicate (suc k) zero a h = absurd (omega arith)
take-replicate {A} (suc k) (suc m) a h = ap (λ (r : List A). a ∷ r) (take-replicate k m a (omega arith))

pub drop-replicate : {A : Type 0} (k m : ℕ) (a : A) → drop k (replicate m a) ≡ replicate (m - k) a
drop-replicate zero m a = rw (sub-zero m)
drop-replicate (suc k) zero a = let e : 0 - suc k ≡ 0 = omega arith in rw e
drop-replicate (suc k) (suc m) a = simp unary_clauses (drop-replicate k m a)

pub at_replicate : {A : Type 0} (a : A) (k i : ℕ) → get_or (replicate k a) i a ≡ a
at_replicate a zero i = refl
at_replicate a (suc k) zero = refl
at_replicate a (suc k) (suc i) = at_replicate a k i

-- A part of a part.
pub drop-take : (k n : ℕ) (x : List ℕ) → drop k (take n x) ≡ take (n - k) (drop k x)
drop-take zero n x = simp sub-zero
drop-take (suc k) zero x = let e : 0 - suc k ≡ 0 = omega arith in rw e
drop-take (suc k) (suc n) [] = sym (take-nil (suc n - suc k))
drop-take (suc k) (suc n) (d ∷ x) = simp unary_clauses (drop-take k n x)

pub rest : (k : ℕ) (xs : List ℕ) → take (length xs - k) (drop k xs) ≡ drop k xs
rest k xs = take_all (length xs - k) (drop k xs) (omega (arith, length-drop k xs))

pub at_taken : (n : ℕ) (xs : List ℕ) {ys : List ℕ} (i : ℕ) → take n xs ≡ ys → i < n → get_or xs i 0 ≡ get_or ys i 0
at_taken n xs i e h = sym (get_or-take n xs i 0 h) ∙ ap (λ (l : List ℕ). get_or l i 0) e

-- Past a first part.
module _ (p w : List ℕ) (k m : ℕ) (e : length p + m ≡ k) where
  pub take_past : take k (p ++ w) ≡ p ++ take m w
  take_past = rw (← e) (take-append-add p w m)

  pub drop_past : drop k (p ++ w) ≡ drop m w
  drop_past = rw (← e) (drop-append-add p w m)

-- A list made k long: as much of it as there is, and then a.
module _ (k a : ℕ) (xs : List ℕ) where
  pub length_made : length (take k (xs ++ replicate k a)) ≡ k
  length_made = omega (arith, length-take k (xs ++ replicate k a), length-append xs (replicate k a), length-replicate {A = ℕ} k a)

  pub made_short : length xs ≤ k → take k (xs ++ replicate k a) ≡ xs ++ replicate (k - length xs) a
  made_short h = take_past xs (replicate k a) k (k - length xs) (omega arith) ∙ ap (λ (r : List ℕ). xs ++ r) (take-replicate (k - length xs) k a (omega arith))

-- Behind one that stands between two parts comes the second.
pub at_behind : {A : Type 0} (xs : List A) (q : A) (ys : List A) (d : A) (j i : ℕ) → i ≡ suc (length xs + j) → get_or (xs ++ (q ∷ ys)) i d ≡ get_or ys j d
at_behind xs q ys d j i e =
    let g : i ≡ length xs + suc j = omega arith in
    rw g (get_or-append-add xs (q ∷ ys) (suc j) d)

-- What is in a list stands at a place, and between two parts of the list.
pub mem_place : {A : Type 0} (d : A) {x : A} (xs : List A) → Memᴰ x xs → (i : ℕ) × (i < length xs) × (get_or xs i d ≡ x)
mem_place d [] m = absurd (mem_not_nil m)
mem_place d (y ∷ xs) (mem_head e) = (0, omega arith, sym e)
mem_place d (y ∷ xs) (mem_tail m) = let r = mem_place d xs m in (suc r.0, omega (arith, r.1), r.2)

pub mem_parts : {A : ℕ} (Bs : List ℕ) → Memᴰ A Bs → (Xs : List ℕ) × (Ys : List ℕ) × (Bs ≡ Xs ++ (A ∷ Ys))
mem_parts [] m = absurd (mem_not_nil m)
mem_parts (B ∷ Bs) (mem_head e) = ([], Bs, ap (λ C. C ∷ Bs) (sym e))
mem_parts (B ∷ Bs) (mem_tail m) = let r = mem_parts Bs m in (B ∷ r.0, r.1, ap (λ Cs. B ∷ Cs) r.2)

-- One more, N, right after A.
module _ (Xs : List ℕ) (A N : ℕ) (Ys : List ℕ) {B : ℕ} where
  pub mem_leave : Memᴰ B (Xs ++ (A ∷ N ∷ Ys)) → (B ≡ N) ⊎ Memᴰ B (Xs ++ (A ∷ Ys))
  mem_leave m = elim (mem_append_cases Xs m) [
    | inl k ↦ inr (mem_append_left (A ∷ Ys) k)
    | inr k ↦ elim (mem_cases_cons k) [
      | inl e ↦ inr (mem_append_right Xs (mem_head e))
      | inr j ↦ elim (mem_cases_cons j) [ inl e ↦ inl e | inr i ↦ inr (mem_append_right Xs (mem_tail i)) ]
    ]
  ]

  pub mem_insert : Memᴰ B (Xs ++ (A ∷ Ys)) → Memᴰ B (Xs ++ (A ∷ N ∷ Ys))
  mem_insert m = elim (mem_append_cases Xs m) [
    | inl k ↦ mem_append_left (A ∷ N ∷ Ys) k
    | inr k ↦ mem_append_right Xs (elim (mem_cases_cons k) [ inl e ↦ mem_head e | inr j ↦ mem_tail (mem_tail j) ])
  ]
