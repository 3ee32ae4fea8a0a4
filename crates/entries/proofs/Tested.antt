-- The code's test of the names is the model's: the entries that are read are a row of the range.
use Rattle.model.proofs.Prelude.{Bool, List, ◌&&◌, ◌<◌, ◌∙◌, ◌≡◌, ◌≤◌, and-false, ap, arith, drop, false, le-ltb, leb, leb-false, leb-true, lt-ltb, ltb, ltb-true, refl, suc, sym, take, true, zero, ℕ}
use Rattle.model.specs.Checks.{is_row}
use Rattle.model.specs.Entries.{Entry, Row}
use Rattle.model.specs.Format.{read_entries}
use Rattle.model.specs.Order.{Low, Str, at}
use Rattle.model.specs.Tests.{is_above, is_at_most, is_legal_bound, is_legal_filled, is_legal_low}
use Rattle.model.proofs.Checks.{row_is_row}
use Rattle.digits.proofs.Bounds.{name_high, name_legal, name_low, name_value}
use Rattle.digits.specs.Keys.{continued, low_value, value}
use Rattle.entries.specs.Rows.{are_entries}

-- Behind a name above the upper limit nothing passes.
entries_over : (e n : ℕ) (z : List ℕ) (last high : ℕ) → high < last → are_entries e n z last high ≡ false
unfolding are_entries
entries_over e zero z last high h = rw (lt-ltb high last h)
entries_over e (suc n) z last high h = go (is_legal_filled x) (ltb last (value x)) refl (entries_over e n (drop e z) (value x) high)
  where
    x : List ℕ
    x = take 24 z

    go : (s t : Bool) → ltb last (value x) ≡ t → (high < value x → are_entries e n (drop e z) (value x) high ≡ false) → (s && t && are_entries e n (drop e z) (value x) high) ≡ false
    go s true q f = rw (f (omega (arith, ltb-true last (value x) q))) (and-false (s && true))
    go true false q f = refl
    go false false q f = refl

-- One equation for both directions.
pub entries_is_row : (e n : ℕ) (z : List ℕ) (l : Low) (u : Str) → is_legal_low l ≡ true → is_legal_bound u ≡ true → low_value l ≤ value (continued u)
    → are_entries e n z (low_value l) (value (continued u)) ≡ is_row l (read_entries e n z) u
unfolding are_entries is_row read_entries is_legal_low low_value
entries_is_row e zero z l u g h k = rw (le-ltb (value (continued u)) (low_value l) k)
entries_is_row e (suc n) z l u g h k = go (is_legal_filled x) (is_above l x) (leb (value x) hi) refl refl refl (entries_is_row e n (drop e z) (at x) u)
  where
    x : Str
    x = take 24 z

    hi : ℕ
    hi = value (continued u)

    es : List Entry
    es = read_entries e n (drop e z)

    go : (s t w : Bool) → is_legal_filled x ≡ s → is_above l x ≡ t → leb (value x) hi ≡ w
        → (is_legal_bound x ≡ true → is_legal_bound u ≡ true → value (continued x) ≤ hi → are_entries e n (drop e z) (value (continued x)) hi ≡ is_row (at x) es u)
        → (is_legal_filled x && ltb (low_value l) (value x) && are_entries e n (drop e z) (value x) hi) ≡ (is_legal_filled x && is_above l x && is_at_most x u && is_row (at x) es u)
    go false t w a b c f = rw a
    go true false w a b c f = rw (a, name_low l x g a, b)
    go true true true a b c f =
        let v = name_value x a in
        rw (a, name_low l x g a, b, sym (name_high x u a h) ∙ c) (ap (λ (m : ℕ). are_entries e n (drop e z) m hi) (sym v) ∙ f (name_legal x a) h (omega (arith, leb-true (value x) hi c)))
    go true true false a b c f =
        rw (a, name_low l x g a, b, sym (name_high x u a h) ∙ c) (entries_over e n (drop e z) (value x) hi (leb-false (value x) hi c))

module _ (e n : ℕ) (z : List ℕ) (l : Low) (u : Str) (g : is_legal_low l ≡ true) (h : is_legal_bound u ≡ true) (k : low_value l ≤ value (continued u)) where
  pub row_entries : Row l (read_entries e n z) u → are_entries e n z (low_value l) (value (continued u)) ≡ true
  row_entries r = entries_is_row e n z l u g h k ∙ row_is_row r
