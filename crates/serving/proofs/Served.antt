-- A bucket that passes the look with which look up begins is well formed.
use Rattle.model.proofs.Prelude.{List, ◌*◌, ◌+◌, ◌-◌, ◌<◌, ◌∙◌, ◌≡◌, ◌≤◌, arith, drop, drop-drop, get_or, le-ltb, length, lt-ltb, ltb, not, suc, sym, take, true, ℕ}
use Rattle.model.specs.Format.{entry_length}
use Rattle.model.specs.declared.Layout.{Layout}
use Rattle.digits.specs.Keys.{continued, key_value, low_value, value}
use Rattle.gathering.specs.Names.{Rising, names}
use Rattle.entries.proofs.Searches.{between_high, entries_ends}
use Rattle.bucket.specs.declared.Bucket.{Bucket}
use Rattle.bucket.specs.Forms.{is_all_clear}
use Rattle.serving.specs.Serving.{HighSeen, LowSeen, Serves}
use Rattle.bucket.specs.Slots.{HighTold, LowTold, high_in, is_a_bound, low_in}
use Rattle.bucket.proofs.Layouts.{Tested, well_formed}
use Rattle.bucket.proofs.Reading.{by_bound}

module _ (e b : ℕ) (xs : List ℕ) (size : length xs ≡ 64 + e * b) (bytes : (i : ℕ) → get_or xs i 0 < 256) (k : Bucket) (v : ℕ) where
  pub served : get_or xs 0 0 ≡ 1 → 0 < get_or xs 1 0 → get_or xs 1 0 ≤ b → is_all_clear xs (64 + e * get_or xs 1 0) ≡ true → Rising 0 (names e (get_or xs 1 0) (drop 64 xs))
      → LowSeen xs (key_value k.low) v → HighSeen xs (key_value k.high) v (64 + e * (get_or xs 1 0 - 1)) → LowTold xs (key_value k.low) → HighTold xs (key_value k.high)
      → (y : Layout) → entry_length y ≡ e → y.b ≡ b → Serves y xs v
  unfolding is_a_bound
  served first some fits clear rising L H low high y p q =
      let low_is = by_bound 8 (get_or xs 2 0) xs L.bound low in
      let high_is = by_bound 32 (get_or xs 3 0) xs H.bound high in
      let over : ltb (low_value (low_in xs)) (value (take 24 (drop 64 xs))) ≡ true = rw (← low_is) (lt-ltb _ _ L.first) in
      let n = get_or xs 1 0 - 1 in let count : get_or xs 1 0 ≡ suc n = omega (arith, some) in
      let under : not (ltb (value (continued (high_in xs))) (value (take 24 (drop (e * n) (drop 64 xs))))) ≡ true = rw (drop-drop (e * n) 64 xs, ← high_is, le-ltb _ _ H.last_under) in
      let t : Tested e b xs = record {
        first = first;
        fits = fits;
        clear = clear;
        lower = L.bound;
        upper = H.bound;
        ranged = rw (← low_is, ← high_is) (lt-ltb (key_value k.low) (key_value k.high) (omega (arith, L.over, H.under)));
        rowed = entries_ends e (get_or xs 1 0) (drop 64 xs) (low_value (low_in xs)) (value (continued (high_in xs))) rising ∙ sym (between_high e (get_or xs 1 0) (drop 64 xs) (low_value (low_in xs)) (value (continued (high_in xs))) n count over) ∙ under;
      } in
      record { bucket = k; read = well_formed e b xs size bytes t k low_is high_is y p q; over = L.over; under = H.under }
