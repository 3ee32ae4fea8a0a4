-- `Slot::form` meets its contract.
use Rattle.model.proofs.Prelude.{◌∙◌, ◌≡◌, ap₂, drop, eqb-false, eqb-true, get_or, ltb, refl, sym, take, true}
use Rattle.model.proofs.Tests.{never_both}
use Rattle.model.specs.Format.{entry_length}
use Rattle.digits.specs.Keys.{key_value}
use Rattle.bucket.specs.Slots.{is_a_bound}
use Rattle.bucket.proofs.Layouts.{Tested, ill, same_entries, well_formed}
use Rattle.bucket.proofs.Reading.{by_bound}
use Rattle.bucket.proofs.slot.Slot.form.Goals as goal

pub returns-then-not-is_used : goal.returns-then-not-is_used
returns-then-not-is_used c =
    let s = c.args.self.now in let y = s.layout in
    ill (entry_length y) y.b s.bytes.now (λ t. eqb-false (get_or s.bytes.now 0 0) 1 (sym c.is_used.ensures ∙ c.if-not-is_used.true) t.first) y refl refl

pub returns-in_err-row : goal.returns-in_err-row
returns-in_err-row c =
    let s = c.args.self.now in let y = s.layout in
    rw c.from_residual.ensures (ill (entry_length y) y.b s.bytes.now (λ t. never_both _ t.clear (c.in_err-row.ensures t.fits)) y refl refl)

pub returns-then-not-is_bound : goal.returns-then-not-is_bound
unfolding is_a_bound
returns-then-not-is_bound c =
    let s = c.args.self.now in let y = s.layout in let xs = s.bytes.now in
    ill (entry_length y) y.b xs (λ t. never_both (is_a_bound (get_or xs 2 0) (take 24 (drop 8 xs))) t.lower (sym c.is_bound.ensures ∙ c.if-not-is_bound.true)) y refl refl

pub returns-then-not-is_bound-2 : goal.returns-then-not-is_bound-2
unfolding is_a_bound
returns-then-not-is_bound-2 c =
    let s = c.args.self.now in let y = s.layout in let xs = s.bytes.now in
    ill (entry_length y) y.b xs (λ t. never_both (is_a_bound (get_or xs 3 0) (take 24 (drop 32 xs))) t.upper (sym c.is_bound-2.ensures ∙ c.if-not-is_bound-2.true)) y refl refl

pub returns-then-not-is_below : goal.returns-then-not-is_below
returns-then-not-is_below c =
    let s = c.args.self.now in let y = s.layout in let xs = s.bytes.now in let low = c.low-low.ensures in let high = c.high-high.ensures in
    ill (entry_length y) y.b xs (λ t.
    never_both (ltb (key_value c.low-low.result) (key_value c.high-high.result))
    (ap₂ ltb (by_bound 8 (get_or xs 2 0) xs t.lower low) (by_bound 32 (get_or xs 3 0) xs t.upper high) ∙ t.ranged)
    (sym c.is_below.ensures ∙ c.if-not-is_below.true)) y refl refl

pub returns-then-not-are_entries : goal.returns-then-not-are_entries
returns-then-not-are_entries c =
    let s = c.args.self.now in let y = s.layout in let xs = s.bytes.now in let low = c.low-low.ensures in let high = c.high-high.ensures in
    let row = c.in_ok-row.ensures in let e = entry_length y in
    ill e y.b xs (λ t.
    never_both _ (same_entries e refl refl (by_bound 8 (get_or xs 2 0) xs t.lower low) (by_bound 32 (get_or xs 3 0) xs t.upper high) ∙ t.rowed)
    (sym (rw (row.0, row.1, row.2) at c.are_entries.ensures) ∙ c.if-not-are_entries.true)) y refl refl

pub returns : goal.returns
unfolding is_a_bound
returns c =
    let s = c.args.self.now in let y = s.layout in let xs = s.bytes.now in let row = c.in_ok-row.ensures in let e = entry_length y in
    let low = c.low-low.ensures in let high = c.high-high.ensures in
    let lo : is_a_bound (get_or xs 2 0) (take 24 (drop 8 xs)) ≡ true = sym c.is_bound.ensures ∙ c.if-not-is_bound.false in
    let up : is_a_bound (get_or xs 3 0) (take 24 (drop 32 xs)) ≡ true = sym c.is_bound-2.ensures ∙ c.if-not-is_bound-2.false in
    let low_is = by_bound 8 (get_or xs 2 0) xs lo low in let high_is = by_bound 32 (get_or xs 3 0) xs up high in
    let t : Tested e y.b xs = record {
      first = eqb-true (get_or xs 0 0) 1 (sym c.is_used.ensures ∙ c.if-not-is_used.false);
      fits = row.3;
      clear = row.4;
      lower = lo;
      upper = up;
      ranged = sym (ap₂ ltb low_is high_is) ∙ sym c.is_below.ensures ∙ c.if-not-is_below.false;
      rowed = sym (same_entries e refl refl low_is high_is) ∙ sym (rw (row.0, row.1, row.2) at c.are_entries.ensures) ∙ c.if-not-are_entries.false;
    } in
    well_formed e y.b xs s.of_size.0 s.each t _ low_is high_is y refl refl
