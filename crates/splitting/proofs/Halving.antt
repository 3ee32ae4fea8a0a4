-- The halves of b + 1 entries as the code finds them: the split string, what stays and what moves.
use Rattle.model.proofs.Prelude.{Bool, List, [], ◌+◌, ◌++◌, ◌-◌, ◌<◌, ◌∙◌, ◌∷◌, ◌≡◌, ◌≤◌, ap, ap₂, arith, cond, drop, drop_at, eqb, false, length, length-replicate, length-take-le, not, refl, replicate, subst, suc, sym, take, take_all, true, zero, ℕ}
use Rattle.model.specs.declared.Layout.{Layout}
use Rattle.model.specs.declared.Trie.{Trie}
use Rattle.model.specs.Order.{Low, Str, ◌≺◌, ◌⊑◌, at, diff}
use Rattle.model.specs.Tests.{is_at_most}
use Rattle.model.specs.Names.{Bound}
use Rattle.model.specs.Entries.{Entry, Row, entry, keep, move, name_at, no_entries, stay}
use Rattle.model.specs.Changes.{split_of, split_string}
use Rattle.model.specs.Format.{bytes_of_slot, padded}
use Rattle.model.specs.Files.{used}
use Rattle.model.specs.Places.{place_of}
use Rattle.model.specs.Tries.{walk_of}
use Rattle.model.proofs.Deciding.{le?, over}
use Rattle.model.proofs.Entries.{keep_all, keep_parts, row_at, row_lt, split_bound, split_key, split_last, split_take}
use Rattle.model.proofs.Format.{padded_short}
use Rattle.model.proofs.Order.{diff_lt_left, le_refl, le_trans, lt_le}
use Rattle.model.proofs.Tests.{le_is_at_most, lt_is_at_most}
use Rattle.model.proofs.Lists.{drop-replicate}
use Rattle.model.proofs.Names.{bound_is_legal_bound, legal_length}
use Rattle.model.proofs.Places.{place_lt, split_digits}
use Rattle.digits.specs.declared.Key.{Key}
use Rattle.digits.specs.Keys.{continued, is_all_zero, key_value, value}
use Rattle.entries.specs.Rows.{is_not_above}
use Rattle.entries.proofs.Copies.{moved}
use Rattle.entries.proofs.Padding.{take_padded_whole}
use Rattle.entries.proofs.Places.{numbers}
use Rattle.bucket.specs.Forms.{ReadAs}
use Rattle.bucket.proofs.Reading.{are_zeros}
use Rattle.slots.specs.Halves.{LowerTold, StayTold, UpperTold}
use Rattle.slots.specs.Spots.{Begins, RowOf}
use Rattle.trie.specs.declared.Walk.{Walk}
use Rattle.trie.specs.Walks.{Walks}
use Rattle.splitting.specs.Divides.{Divides}
use Rattle.splitting.specs.declared.Split.{Split}

-- The first digits, copied to the front of zeros.
pub string_copied : (len : ℕ) (xs r : List ℕ) → len ≤ 24 → len ≤ length xs → r ≡ take len xs → r ++ drop len (replicate 24 0) ≡ padded 24 (take len xs)
string_copied len xs r h k e =
    let n : length (take len xs) ≡ len = length-take-le len xs k in
    let m : 24 - length (take len xs) ≡ 24 - len = omega (arith, n) in
    rw (e, drop-replicate) (sym (padded_short 24 (take len xs) (omega (arith, n)) ∙ ap (λ (i : ℕ). take len xs ++ replicate i 0) m))

-- Digits behind those that are looked at do not matter.
diff_take : (k : ℕ) (c z : Str) → diff c z ≤ k → diff (take k c) z ≡ diff c z
diff_take zero c z h = omega arith
diff_take (suc k) [] z h = refl
diff_take (suc k) (a ∷ c) [] h = refl
diff_take (suc k) (a ∷ c) (b ∷ z) h = go (eqb a b) refl h (diff_take k c z)
  where
    go : (t : Bool) → eqb a b ≡ t → cond t (suc (diff c z)) 0 ≤ suc k → (diff c z ≤ k → diff (take k c) z ≡ diff c z) → cond t (suc (diff (take k c) z)) 0 ≡ cond t (suc (diff c z)) 0
    go true e h f = ap suc (f (omega arith))
    go false n h f = refl

-- The entries in front are those that stay.
nil : (xs : List Entry) → length xs ≡ 0 → xs ≡ []
nil [] h = refl
nil (x ∷ xs) h = absurd (omega arith)

stayed : {l : Low} {u : Str} {es : List Entry} (s : Str) → Row l es u → take (length (stay s es)) es ≡ stay s es
unfolding keep
stayed s no_entries = refl
stayed s (entry {e = e} {es = es} g a c r) = elim (le? e.0 s) [
  | yes p ↦ rw (le_is_at_most e.0 s p) (ap (λ (x : List Entry). e ∷ x) (stayed s r))
  | no p ↦ let k : move s es ≡ es = keep_all (λ n. not (is_at_most n s)) r (λ n d. ap not (lt_is_at_most n s (λ q. p (le_trans (lt_le (over d)) q)))) in
      let z : stay s es ≡ [] = nil (stay s es) (omega (arith, keep_parts (λ n. is_at_most n s) es, ap length k)) in
      rw (lt_is_at_most e.0 s p, z)
]

-- No name of a row is below its first.
first_least : {l : Low} {u : Str} {ws : List Entry} → Row l ws u → (i : ℕ) → i < length ws → name_at ws 0 ⊑ name_at ws i
first_least {ws = ws} R zero h = le_refl (name_at ws 0)
first_least R (suc i) h = lt_le (row_lt R 0 (suc i) (omega arith) h)

-- A row of b + 1 entries, and the place of the split key among them.
module _ {l : Low} {u : Str} {ws : List Entry} (R : Row l ws u) (b i : ℕ) (i_lt : i < b) (size : length ws ≡ b + 1) where
  abbrev c : Str
  c = name_at ws i

  abbrev z : Str
  z = name_at ws b

  abbrev s : Str
  s = split_string i b ws

  i_in : i < length ws
  i_in = omega arith

  last_in : b < length ws
  last_in = omega arith

  c_length : length c ≡ 24
  c_length = legal_length (row_at R i i_in).0

  before : c ≺ z
  before = row_lt R i b i_lt last_in

  s_is : s ≡ take (suc (diff c z)) c
  s_is = split_take R i b i_lt last_in

  s_length : length s ≡ suc (diff c z)
  s_length = split_digits R i b i_lt last_in

  -- The split string is a beginning of the split key, with at least a digit.
  pub split_some : 0 < length s
  split_some = omega (arith, s_length)

  pub split_begins : s ≡ take (length s) c
  split_begins = s_is ∙ ap (λ (k : ℕ). take k c) (sym s_length)

  s_short : length s ≤ 24
  s_short = omega (arith, s_length, diff_lt_left c z before, c_length)

  s_bound : Bound s
  s_bound = split_bound R i b i_lt last_in

  -- Its length, and its digits with zeros behind them.
  pub length_found : {key last : List ℕ} {r : ℕ} → key ≡ c → last ≡ z → r ≡ diff (take 23 key) last + 1 → r ≡ length s
  length_found {key} {last} p q e =
      let d : diff (take 23 key) last ≡ diff c z = rw (p, q) (diff_take 23 c z (omega (arith, diff_lt_left c z before, c_length))) in
      omega (arith, d, e, s_length)

  string_found : {key string : List ℕ} {r : ℕ} → key ≡ c → r ≡ length s → string ≡ padded 24 (take r key) → string ≡ padded 24 s
  string_found p q e = e ∙ rw (q, p, s_length) (ap (padded 24) (sym s_is))

  pub string_front : take (length s) (padded 24 s) ≡ s
  string_front = take_padded_whole (length s) 24 s refl s_short

  string_zeros : is_all_zero (take (24 - length s) (drop (length s) (padded 24 s))) ≡ true
  string_zeros =
      let n = 24 - length s in
      let d : drop (length s) (padded 24 s) ≡ replicate n 0 = ap (drop (length s)) (padded_short 24 s s_short) ∙ drop_at s (replicate n 0) (length s) refl in
      let t : take n (drop (length s) (padded 24 s)) ≡ replicate n 0 = ap (take n) d ∙ take_all n (replicate n 0) (omega (arith, length-replicate {A = ℕ} n 0)) in
      ap is_all_zero t ∙ are_zeros n

  -- The string as it is compared.
  key_found : {len : ℕ} {string : List ℕ} (k : Key) → len ≡ length s → string ≡ padded 24 s
      → (len ≤ 24 → is_all_zero (take (24 - len) (drop (0 + len) string)) ≡ true → key_value k ≡ value (continued (take len (drop 0 string))))
      → key_value k ≡ value (continued s)
  key_found {len} {string} k p q f =
      let o : 0 + len ≡ length s = omega arith in
      let t : take len string ≡ s = rw (p, q) string_front in
      f (omega (arith, s_short)) (rw (o, p, q) string_zeros) ∙ ap (λ (x : Str). value (continued x)) t

  -- How many stay, where the code counts them.
  stay_found : (y : Layout) → y.b ≡ b → (row : List ℕ) (k : Key) (st : ℕ) → key_value k ≡ value (continued s) → StayTold st y row k → RowOf y row ws
      → st ≡ length (stay s ws)
  stay_found y e row k st q S r =
      S.is l u ws r (rw e size) R s s_bound q (le_trans (first_least R i i_in) (split_key R i b i_lt last_in)) (rw e (split_last R i b i_lt last_in))

  -- Those in front stay, and those behind them move.
  pub stays_are : take (length (stay s ws)) ws ≡ stay s ws
  stays_are = stayed s R

  pub moves_are : drop (length (stay s ws)) ws ≡ move s ws
  moves_are =
      let m = moved s (bound_is_legal_bound s_bound) R in
      let n : length (stay s ws) ≡ is_not_above (value (continued s)) (numbers ws) = omega (arith, m.1, keep_parts (λ k. is_at_most k s) ws) in
      ap (λ (k : ℕ). drop k ws) n ∙ m.0

-- All of it, with the walk of the split key.
module _ {l : Low} {u : Str} {ws : List Entry} (R : Row l ws u) (y : Layout) (two : 2 ≤ y.b) (size : length ws ≡ y.b + 1) where
  abbrev b : ℕ
  b = y.b

  abbrev i : ℕ
  i = place_of y ws

  abbrev string_of_split : Str
  string_of_split = split_of b (place_of y) ws

  i_lt : i < b
  i_lt = place_lt y two ws

  pub divides : (t : Trie) (w : Walk) (k : Key) (row : List ℕ) {key string : List ℕ} {len st shared : ℕ} → RowOf y row ws → key ≡ name_at ws i
      → len ≡ length string_of_split → string ≡ padded 24 (take len key)
      → (len ≤ 24 → is_all_zero (take (24 - len) (drop (0 + len) string)) ≡ true → key_value k ≡ value (continued (take len (drop 0 string))))
      → StayTold st y row k
      → Walks w (walk_of t key) → shared ≡ diff (take len string) (take w.len w.path)
      → Divides (record { string = string; len = len; stay = st; walk = w; shared = shared }) y t ws
  divides t w k row {key} {string} {len} {st} r p len_is m f S g h =
      let string_is : string ≡ padded 24 string_of_split = string_found R b i i_lt size p len_is m in
      let o : take len string ≡ string_of_split = rw (len_is, string_is) (string_front R b i i_lt size) in
      record {
        string_is = string_is;
        len_is = len_is;
        stay_is = stay_found R b i i_lt size y refl row k st (key_found R b i i_lt size k len_is string_is f) S r;
        walked = subst (λ (x : Str). Walks w (walk_of t x)) p g;
        shares = h ∙ ap (λ (x : Str). diff x (take w.len w.path)) o;
      }

  -- What a split tells: its string, the entries that stay and those that move.
  module _ {s : Split} {t : Trie} (D : Divides s y t ws) where
    pub split_is : take s.len s.string ≡ string_of_split
    split_is = rw (D.len_is, D.string_is) (string_front R b i i_lt size)

    pub split_stays : take s.stay ws ≡ stay string_of_split ws
    split_stays = rw D.stay_is (stays_are R b i i_lt size)

    pub split_moves : drop s.stay ws ≡ move string_of_split ws
    split_moves = rw D.stay_is (moves_are R b i i_lt size)

    -- The two slots, of which A is read from the bytes xs.
    module _ (xs row : List ℕ) {m : Low} {v : Str} {es : List Entry} (A : ReadAs y xs m v es) (W : RowOf y row ws) (r : List ℕ) where
      pub new_slot_is : UpperTold r y xs row (take s.len s.string) s.stay → Begins r y (used (at string_of_split) v (move string_of_split ws))
      new_slot_is f = f m v es ws A W size ∙ ap₂ (λ (x : Str) (es : List Entry). bytes_of_slot y (used (at x) v es)) split_is split_moves

      pub old_slot_is : LowerTold r y xs row (take s.len s.string) s.stay → Begins r y (used m string_of_split (stay string_of_split ws))
      old_slot_is f = f m v es ws A W size ∙ ap₂ (λ (x : Str) (es : List Entry). bytes_of_slot y (used m x es)) split_is split_stays
