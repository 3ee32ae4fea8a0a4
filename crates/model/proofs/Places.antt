-- The place of the split key, by each version's rule: below b, which is all that the laws of splitting ask of it; the
-- shortest string, ties in order; and m + 1 never wins.
use Rattle.model.proofs.Prelude.{List, Memᴰ, mem_cases_cons, mem_head, mem_not_nil, mem_tail, [], ◌+◌, ◌-◌, ◌/◌, ◌<◌, ◌∙◌, ◌∷◌, ◌≡◌, ◌≢◌, ◌≤◌, ap, arith, dec_le, dec_lt, eq-eqb, inl, inr, le-leb, le-ltb, length, length-take, lt-leb, lt-ltb, ne_eqb, refl, suc, sym, ℕ, ℕ_discrete}
use Rattle.model.specs.declared.Layout.{Layout}
use Rattle.model.specs.Order.{Low, Str, ◌⊑◌, diff}
use Rattle.model.specs.Entries.{Entry, Row, name_at}
use Rattle.model.specs.Changes.{split_string}
use Rattle.model.specs.Places.{Wins, behind, digits_at, here, only_from, place_of, positions}
use Rattle.model.specs.Searches.{shortest, winner}
use Rattle.model.proofs.Deciding.{head_le, nil_not_le, tail_le}
use Rattle.model.proofs.Order.{diff_lt_left, le_refl, lt_le}
use Rattle.model.proofs.Entries.{row_lt, split_take}

-- Of a string and one not below it, both below a third, the second shares no less with the third.
diff_mono : (c d z : Str) → c ⊑ d → d ⊑ z → diff c z ≤ diff d z
diff_mono [] d z p q = omega arith
diff_mono (a ∷ c) d [] p q = omega arith
diff_mono (a ∷ c) [] (e ∷ z) p q = absurd (nil_not_le q)
diff_mono (a ∷ c) (b ∷ d) (e ∷ z) p q = go (ℕ_discrete a e) (ℕ_discrete b e) (diff_mono c d z)
  where
    go : Dec (a ≡ e) → Dec (b ≡ e) → (c ⊑ d → d ⊑ z → diff c z ≤ diff d z) → diff (a ∷ c) (e ∷ z) ≤ diff (b ∷ d) (e ∷ z)
    go (no n) y r = rw (ne_eqb a e n) (omega arith)
    go (yes h) (yes k) r = rw (eq-eqb a e h, eq-eqb b e k) (omega (arith, r (tail_le p (h ∙ sym k)) (tail_le q k)))
    go (yes h) (no k) r = absurd (k (omega (arith, head_le p, head_le q)))

module _ {l : Low} {u : Str} {ws : List Entry} (R : Row l ws u) where
  -- A split string has one digit more than its key shares with the last name.
  pub split_digits : (i j : ℕ) → i < j → j < length ws → length (split_string i j ws) ≡ suc (diff (name_at ws i) (name_at ws j))
  split_digits i j h k =
      rw (split_take R i j h k) (omega (arith, length-take (suc (diff (name_at ws i) (name_at ws j))) (name_at ws i), diff_lt_left (name_at ws i) (name_at ws j) (row_lt R i j h k)))

  names_le : (i j : ℕ) → i ≤ j → j < length ws → name_at ws i ⊑ name_at ws j
  names_le i j h k = elim (ℕ_discrete i j) [
    | yes e ↦ rw e (le_refl (name_at ws j))
    | no n ↦ lt_le (row_lt R i j (omega arith) k)
  ]

  -- Names ascend, so a key nearer to the last name gives no shorter string.
  pub split_later : (i j k : ℕ) → i ≤ j → j < k → k < length ws → length (split_string i k ws) ≤ length (split_string j k ws)
  split_later i j k h g e =
      omega (
        arith,
        split_digits i k (omega arith) e,
        split_digits j k g e,
        diff_mono (name_at ws i) (name_at ws j) (name_at ws k) (names_le i j h (omega arith)) (lt_le (row_lt R j k g e)),
      )

-- The winner.
module _ (f : ℕ → ℕ) where
  wins_mem : {p : ℕ} {ps : List ℕ} → Wins f p ps → Memᴰ p ps
  wins_mem (here g) = mem_head refl
  wins_mem (behind h w) = mem_tail (wins_mem w)

  wins_least : {p : ℕ} {ps : List ℕ} → Wins f p ps → (q : ℕ) → Memᴰ q ps → f p ≤ f q
  wins_least {p} (here g) q m = elim (mem_cases_cons m) [ inl e ↦ rw e (omega arith) | inr m ↦ g q m ]
  wins_least {p} (behind {q = r} h w) q m = elim (mem_cases_cons m) [ inl e ↦ rw e (omega (arith, h)) | inr m ↦ wins_least w q m ]

  -- There is one only.
  pub wins_one : {p q : ℕ} {ps : List ℕ} → Wins f p ps → Wins f q ps → p ≡ q
  wins_one (here g) (here k) = refl
  wins_one {p} {q} (here g) (behind h w) = absurd (omega (arith, h, g q (wins_mem w)))
  wins_one {p} {q} (behind h w) (here g) = absurd (omega (arith, h, g p (wins_mem w)))
  wins_one (behind h w) (behind k x) = wins_one w x

  wins_second : {p q w : ℕ} {ps : List ℕ} → f p ≤ f q → Wins f w (p ∷ ps) → Wins f w (p ∷ q ∷ ps)
  wins_second {p} {q} {ps = ps} h (here g) = here next
    where
      next : (r : ℕ) → Memᴰ r (q ∷ ps) → f p ≤ f r
      next r m = elim (mem_cases_cons m) [ inl e ↦ rw e h | inr m ↦ g r m ]
  wins_second {p} {q} {w} h (behind k x) = let j : f w < f q = omega (arith, k, h) in behind k (behind j x)

  shortest_wins : (p : ℕ) (ps : List ℕ) → Wins f (shortest f p ps) (p ∷ ps)
  unfolding shortest
  shortest_wins p [] = here (λ q m. absurd (mem_not_nil m))
  shortest_wins p (q ∷ qs) = elim (dec_lt (f q) (f p)) [
    | yes h ↦ rw (lt-ltb (f q) (f p) h) (let x : Wins f (shortest f q qs) (q ∷ qs) = shortest_wins q qs in
        let k : f (shortest f q qs) < f p = omega (arith, h, wins_least x q (mem_head refl)) in behind k x)
    | no h ↦ rw (le-ltb (f q) (f p) (omega arith)) (wins_second (omega arith) (shortest_wins p qs))
  ]

-- The positions lie from 1 to b.
only_inside : (low high : ℕ) (ps : List ℕ) (p : ℕ) → Memᴰ p (only_from low high ps) → (low ≤ p) × (p ≤ high) × Memᴰ p ps
unfolding only_from
only_inside low high [] p m = absurd (mem_not_nil m)
only_inside low high (q ∷ qs) p m = go (only_inside low high qs p)
  where
    Inside : List ℕ → Type 0
    Inside ps = (low ≤ p) × (p ≤ high) × Memᴰ p ps

    go : (Memᴰ p (only_from low high qs) → Inside qs) → Inside (q ∷ qs)
    go f = elim (dec_le low q) [
      | no h ↦ next (rw (lt-leb low q (omega arith)) at m)
      | yes h ↦ elim (dec_le q high) [
        | no k ↦ next (rw (le-leb low q h, lt-leb q high (omega arith)) at m)
        | yes k ↦ both h k (rw (le-leb low q h, le-leb q high k) at m)
      ]
    ]
      where
        next : Memᴰ p (only_from low high qs) → Inside (q ∷ qs)
        next m = let r = f m in (r.0, r.1, mem_tail r.2)

        both : low ≤ q → q ≤ high → Memᴰ p (q ∷ only_from low high qs) → Inside (q ∷ qs)
        both h k m = elim (mem_cases_cons m) [ inl e ↦ rw e (h, k, mem_head refl) | inr m ↦ next m ]

-- For b = 2 the positions are 2 and 1.
pub positions_two : positions 2 ≡ 2 ∷ 1 ∷ []
unfolding positions only_from
positions_two = refl

module _ (b : ℕ) (b_two : 2 ≤ b) where
  -- m, then m − 1, then m + 1 if it is not above b.
  positions_first : positions b ≡ (b / 2 + 1) ∷ (b / 2) ∷ only_from 1 b ((b / 2 + 2) ∷ [])
  unfolding positions only_from
  positions_first =
      let e : b / 2 + 1 - 1 ≡ b / 2 = omega arith in
      let d : b / 2 + 1 + 1 ≡ b / 2 + 2 = omega arith in
      rw (e, d, le-leb 1 (b / 2 + 1) (omega arith), le-leb (b / 2 + 1) b (omega arith), le-leb 1 (b / 2) (omega arith), le-leb (b / 2) b (omega arith)) refl

  pub positions_m : Memᴰ (b / 2 + 1) (positions b)
  positions_m = rw positions_first (mem_head refl)

  positions_inside : (p : ℕ) → Memᴰ p (positions b) → (1 ≤ p) × (p ≤ b)
  unfolding positions
  positions_inside p m = let r = only_inside 1 b ((b / 2 + 1) ∷ (b / 2 + 1 - 1) ∷ (b / 2 + 1 + 1) ∷ []) p m in (r.0, r.1)

  module _ (ws : List Entry) where
    winner_wins : Wins (digits_at b ws) (winner (digits_at b ws) (positions b)) (positions b)
    unfolding winner
    winner_wins = rw positions_first (shortest_wins (digits_at b ws) (b / 2 + 1) ((b / 2) ∷ only_from 1 b ((b / 2 + 2) ∷ [])))

    winner_inside : (1 ≤ winner (digits_at b ws) (positions b)) × (winner (digits_at b ws) (positions b) ≤ b)
    winner_inside = positions_inside (winner (digits_at b ws) (positions b)) (wins_mem (digits_at b ws) winner_wins)

pub positions_three : (b : ℕ) → 3 ≤ b → positions b ≡ (b / 2 + 1) ∷ (b / 2) ∷ (b / 2 + 2) ∷ []
unfolding only_from
positions_three b h = rw (positions_first b (omega arith), le-leb 1 (b / 2 + 2) (omega arith), le-leb (b / 2 + 2) b (omega arith)) refl

-- Each version's place is that of a position from 1 to b.
pub place_lt : (y : Layout) → 2 ≤ y.b → (ws : List Entry) → place_of y ws < y.b
unfolding place_of
place_lt y two ws = elim (ℕ_discrete y.version 1) [
  | yes e ↦ rw (eq-eqb y.version 1 e) (omega arith)
  | no n ↦ rw (ne_eqb y.version 1 n) (omega (arith, (winner_inside y.b two ws).0, (winner_inside y.b two ws).1))
]

-- Version 1 has its split key at m.
pub place_first : (y : Layout) → y.version ≡ 1 → (ws : List Entry) → place_of y ws ≡ y.b / 2
unfolding place_of
place_first y e ws = rw (eq-eqb y.version 1 e)

-- Not version 1.
module _ (y : Layout) (two : 2 ≤ y.b) (later : y.version ≢ 1) (ws : List Entry) where
  abbrev m : ℕ
  m = y.b / 2

  position : place_of y ws + 1 ≡ winner (digits_at y.b ws) (positions y.b)
  unfolding place_of
  position = rw (ne_eqb y.version 1 later) (omega (arith, (winner_inside y.b two ws).0))

  -- The position wins: with `wins_one`, this says which it is.
  pub place_wins : Wins (digits_at y.b ws) (place_of y ws + 1) (positions y.b)
  place_wins = rw position (winner_wins y.b two ws)

  pub place_shortest : (p : ℕ) → Memᴰ p (positions y.b) → length (split_string (place_of y ws) y.b ws) ≤ digits_at y.b ws p
  place_shortest p i =
      let e : place_of y ws + 1 - 1 ≡ place_of y ws = omega arith in
      rw e at (wins_least (digits_at y.b ws) place_wins p i)

  place_by : (i : ℕ) → Wins (digits_at y.b ws) (i + 1) (positions y.b) → place_of y ws ≡ i
  place_by i w = omega (arith, wins_one (digits_at y.b ws) place_wins w)

  abbrev digits : ℕ → ℕ
  digits i = length (split_string i y.b ws)

  at_m : digits_at y.b ws (m + 1) ≡ digits m
  at_m = let e : m + 1 - 1 ≡ m = omega arith in ap digits e

  at_next : digits_at y.b ws (m + 2) ≡ digits (m + 1)
  at_next = let e : m + 2 - 1 ≡ m + 1 = omega arith in ap digits e

  -- Names ascend, so m + 1 gives no shorter string than m: two strings decide.
  module _ {l : Low} {u : Str} (R : Row l ws u) (size : length ws ≡ y.b + 1) where
    -- What holds of m + 1, if that is a position.
    next_only : (P : ℕ → Type 0) → (m + 1 < y.b → P (m + 2)) → (q : ℕ) → Memᴰ q (only_from 1 y.b ((m + 2) ∷ [])) → P q
    next_only P f q i = go (only_inside 1 y.b ((m + 2) ∷ []) q i)
      where
        go : (1 ≤ q) × (q ≤ y.b) × Memᴰ q ((m + 2) ∷ []) → P q
        go (h, j, k) = elim (mem_cases_cons k) [ inl e ↦ rw e (f (omega (arith, j, e))) | inr n ↦ absurd (mem_not_nil n) ]

    next_longer : m + 1 < y.b → digits m ≤ digits (m + 1)
    next_longer h = split_later R m (m + 1) y.b (omega arith) h (omega (arith, size))

    -- A tie goes to m.
    pub place_m : digits m ≤ digits (m - 1) → place_of y ws ≡ m
    place_m h = place_by m (rw (positions_first y.b two) (here others))
      where
        others : (q : ℕ) → Memᴰ q (m ∷ only_from 1 y.b ((m + 2) ∷ [])) → digits_at y.b ws (m + 1) ≤ digits_at y.b ws q
        others q i = elim (mem_cases_cons i) [
          | inl e ↦ rw e (omega (arith, at_m, h))
          | inr i ↦ next_only (λ q. digits_at y.b ws (m + 1) ≤ digits_at y.b ws q) (λ j. omega (arith, at_m, at_next, next_longer j)) q i
        ]

    pub place_before : digits (m - 1) < digits m → place_of y ws ≡ m - 1
    place_before h =
        let e : m - 1 + 1 ≡ m = omega arith in
        let j : digits_at y.b ws m < digits_at y.b ws (m + 1) = omega (arith, at_m, h) in
        place_by (m - 1) (rw (e, positions_first y.b two) (behind j (here (next_only (λ q. digits_at y.b ws m ≤ digits_at y.b ws q) (λ i. omega (arith, at_next, next_longer i, h))))))

    pub place_not_after : place_of y ws ≤ m
    place_not_after = elim (dec_lt (digits (m - 1)) (digits m)) [
      | yes h ↦ omega (arith, place_before h)
      | no h ↦ omega (arith, place_m (omega arith))
    ]
