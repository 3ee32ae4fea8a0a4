-- A table's first cause is one only, so an answer that was decided line by line is given exactly then.
use Rattle.model.proofs.Prelude.{[], ◌∙◌, ◌∷◌, ◌≡◌, ap, inl, inr, refl, sym, ℕ}
use Rattle.model.specs.declared.Cause.{Cause}
use Rattle.model.specs.declared.Cause.TheVariants.{StaleTrie}
use Rattle.promises.specs.Demand1.{Exactly, FirstHolding, Gives, Holds, Reason, Table, because, off_at}

-- No cause of the table holds.
abbrev pub None : Table → Type 0
None [] = Unit {0}
None (r ∷ rs) = (¬ Holds r) × None rs

-- What gives a cause holds.
given_holds : (r : Reason) (c : Cause) → Gives r c → Holds r
given_holds (because d P) c g = g.1
given_holds (off_at P) c g = (g.0, g.2)

first_none : (rs : Table) (c : Cause) → FirstHolding c rs → None rs → ⊥
first_none [] c f n = absurd f
first_none (r ∷ rs) c (inl g) n = n.0 (given_holds r c g)
first_none (r ∷ rs) c (inr p) n = first_none rs c p.1 n.1

-- This cause is the first, and no other is.
pub record Only (c : Cause) (rs : Table) : Type 0 where
  pub first : FirstHolding c rs
  pub one : (d : Cause) → FirstHolding d rs → c ≡ d

-- What a call leaves refuses with the first cause that holds, and is kept then; or it is no refusal and none holds.
pub data Verdict {A D : Type 0} (Refused : Cause → A) (answer : D → A) (Kept : D → Type 0) (rs : Table) (d : D) : Type 0 where
  refused : (c : Cause) → answer d ≡ Refused c → Kept d → Only c rs → Verdict Refused answer Kept rs d
  passed : ((c : Cause) → ¬ (answer d ≡ Refused c)) → None rs → Verdict Refused answer Kept rs d

only_because : (rs : Table) (c : Cause) {P : Type 0} → P → Only c (because c P ∷ rs)
only_because rs c {P} h = record { first = inl (refl, h); one = one }
  where
    one : (d : Cause) → FirstHolding d (because c P ∷ rs) → c ≡ d
    one d (inl g) = g.0
    one d (inr p) = absurd (p.0 h)

only_off : (rs : Table) (k : ℕ) {P : ℕ → Type 0} → P k → ((j : ℕ) → P j → k ≡ j) → Only (StaleTrie k) (off_at P ∷ rs)
only_off rs k {P} h f = record { first = inl (k, refl, h); one = one }
  where
    one : (d : Cause) → FirstHolding d (off_at P ∷ rs) → StaleTrie k ≡ d
    one d (inl g) = ap StaleTrie (f g.0 g.2) ∙ g.1
    one d (inr p) = absurd (p.0 (k, h))

only_skip : (r : Reason) (rs : Table) (c : Cause) → ¬ Holds r → Only c rs → Only c (r ∷ rs)
only_skip r rs c n o = record { first = inr (n, o.first); one = one }
  where
    one : (d : Cause) → FirstHolding d (r ∷ rs) → c ≡ d
    one d (inl g) = absurd (n (given_holds r d g))
    one d (inr p) = o.one d p.1

module _ {A D : Type 0} {Refused : Cause → A} {answer : D → A} {Kept : D → Type 0} where
  -- Line by line: this cause holds;
  pub stop : {rs : Table} {c : Cause} {P : Type 0} {d : D} → answer d ≡ Refused c → Kept d → P → Verdict Refused answer Kept (because c P ∷ rs) d
  stop {rs} {c} e k h = refused c e k (only_because rs c h)

  -- a digit number is carried, and only this one;
  pub stop_off : {rs : Table} {P : ℕ → Type 0} {d : D} (k : ℕ) → answer d ≡ Refused (StaleTrie k) → Kept d → P k → ((j : ℕ) → P j → k ≡ j)
      → Verdict Refused answer Kept (off_at P ∷ rs) d
  stop_off {rs} k e kept h f = refused (StaleTrie k) e kept (only_off rs k h f)

  -- it does not;
  pub skip : {rs : Table} {r : Reason} {d : D} → ¬ Holds r → Verdict Refused answer Kept rs d → Verdict Refused answer Kept (r ∷ rs) d
  skip {rs} {r} n (refused c e k o) = refused c e k (only_skip r rs c n o)
  skip n (passed o f) = passed o (n, f)

  -- none is left.
  pub pass : {d : D} → ((c : Cause) → ¬ (answer d ≡ Refused c)) → Verdict Refused answer Kept [] d
  pass o = passed o tt

  pub exactly : ((c d : Cause) → Refused c ≡ Refused d → c ≡ d) → (rs : Table) {d : D} → Verdict Refused answer Kept rs d → Exactly Refused (answer d) rs
  exactly one rs (refused c e k o) d =
      (λ q. let s : c ≡ d = one c d (sym e ∙ q) in rw s at o.first, λ g. e ∙ ap Refused (o.one d g))
  exactly one rs (passed o f) d = (λ q. absurd (o d q), λ g. absurd (first_none rs d g f))

  pub leaves : {rs : Table} {d : D} → Verdict Refused answer Kept rs d → (c : Cause) → answer d ≡ Refused c → Kept d
  leaves (refused c e k f) d q = k
  leaves (passed o f) d q = absurd (o d q)
