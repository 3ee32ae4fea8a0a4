-- What gathering keeps: one name more, and the whole row, read in both directions.
use Rattle.model.proofs.Prelude.{add-one, List, [], ◌&&◌, ◌*◌, ◌+◌, ◌/◌, ◌<◌, ◌^◌, ◌∙◌, ◌∷◌, ◌≡◌, ◌≤◌, arith, drop, drop-cons, drop-drop, eqb, get_or, get_or-drop, get_or-replicate, get_or-set_other, get_or-set_same, get_or-take, length, not, refl, replicate, set, suc, sym, take, true, zero, ℕ, ℕ_discrete}
use Rattle.model.specs.Order.{first_digit}
use Rattle.model.specs.Tests.{are_digits, is_blank_digit, is_legal_filled}
use Rattle.std.proofs.Math.Nat.{le-max_left, le-max_right, le-min, max-le, min-le_left, min-le_right, mul-le-mul_left, mul-suc}
use Prim.Native.Nat.{max, min}
use lib.Bits.{and_le_l, and_le_r, and_shr, bit_and}
use Rattle.model.specs.Names.{Digits}
use Rattle.model.proofs.Tests.{both_true}
use Rattle.model.proofs.Names.{are_digits_digits, blank_no, digits_are_digits}
use Rattle.digits.specs.declared.Key.{Key}
use Rattle.digits.specs.Keys.{key_value, value}
use Rattle.digits.proofs.Keys.{bytes_part, length_part, value_lt, value_words}
use Rattle.digits.proofs.Laws.{filled_name, same_first, same_second}
use Rattle.gathering.specs.Names.{Clean, Rising, Small, names}

-- The key of the 24 bytes from `at` on, word by word.
pub record WordsAt (k : Key) (at : ℕ) (xs : List ℕ) : Type 0 where
  pub whole : key_value k ≡ value (take 24 (drop at xs))
  pub first : k.a ≡ value (take 8 (drop at xs))
  pub second : k.b ≡ value (take 8 (drop (at + 8) xs))
  pub third : k.c ≡ value (take 8 (drop (at + 16) xs))

-- The first i bytes from `at` on are gathered.
pub record Grown (s : List ℕ) (at i : ℕ) (most₀ least₀ most least : List ℕ) : Type 0 where
  pub above_before : (j : ℕ) → get_or most₀ j 0 ≤ get_or most j 0
  pub above_new : (j : ℕ) → j < i → get_or s (at + j) 0 ≤ get_or most j 0
  pub above_all : (j k : ℕ) → get_or most₀ j 0 ≤ k → (j < i → get_or s (at + j) 0 ≤ k) → get_or most j 0 ≤ k
  pub under_before : (j : ℕ) → get_or least j 0 ≤ get_or least₀ j 0
  pub under_new : (j : ℕ) → j < i → get_or least j 0 ≤ get_or s (at + j) 0
  pub under_all : (j k : ℕ) → k ≤ get_or least₀ j 0 → (j < i → k ≤ get_or s (at + j) 0) → k ≤ get_or least j 0

pub grown_none : (s : List ℕ) (at : ℕ) (most least : List ℕ) → Grown s at 0 most least most least
grown_none s at most least = record {
  above_before = λ j. omega arith;
  above_new = λ j h. absurd (omega arith);
  above_all = λ j k h f. h;
  under_before = λ j. omega arith;
  under_new = λ j h. absurd (omega arith);
  under_all = λ j k h f. h;
}

-- A store at i changes no other byte.
stored : (P : ℕ → ℕ → Type 0) (m : List ℕ) (i r : ℕ) → i < length m → P i r → (j : ℕ) → ((j ≡ i → ⊥) → P j (get_or m j 0)) → P j (get_or (set m i r) j 0)
stored P m i r l h j f = elim (ℕ_discrete j i) [
  | yes e ↦ rw (e, get_or-set_same m i r 0 l) h
  | no n ↦ rw (get_or-set_other m i j r 0 n) (f n)
]

pub grown_next : (s : List ℕ) (at i : ℕ) (most₀ least₀ most least : List ℕ) (p q : ℕ) → Grown s at i most₀ least₀ most least → i < length most → i < length least
    → p ≡ max (get_or most i 0) (get_or s (at + i) 0) → q ≡ min (get_or least i 0) (get_or s (at + i) 0)
    → Grown s at (i + 1) most₀ least₀ (set most i p) (set least i q)
grown_next s at i most₀ least₀ most least p q G l m f g =
    let v = get_or most i 0 in let w = get_or least i 0 in let x = get_or s (at + i) 0 in
    record {
      above_before = λ j. stored (λ n v. get_or most₀ n 0 ≤ v) most i p l (omega (arith, G.above_before i, f, le-max_left v x)) j (λ n. G.above_before j);
      above_new = λ j h. stored (λ n v. n < i + 1 → get_or s (at + n) 0 ≤ v) most i p l (λ t. omega (arith, f, le-max_right v x)) j (λ n t. G.above_new j (omega (arith, n))) h;
      above_all = λ j k h t.
          stored (λ n v. get_or most₀ n 0 ≤ k → (n < i + 1 → get_or s (at + n) 0 ≤ k) → v ≤ k) most i p l
          (λ a b. rw f (max-le (G.above_all i k a (λ o. absurd (omega arith))) (b (omega arith))))
          j (λ n a b. G.above_all j k a (λ o. b (omega arith))) h t;
      under_before = λ j. stored (λ n v. v ≤ get_or least₀ n 0) least i q m (omega (arith, G.under_before i, g, min-le_left w x)) j (λ n. G.under_before j);
      under_new = λ j h. stored (λ n v. n < i + 1 → v ≤ get_or s (at + n) 0) least i q m (λ t. omega (arith, g, min-le_right w x)) j (λ n t. G.under_new j (omega (arith, n))) h;
      under_all = λ j k h t.
          stored (λ n v. k ≤ get_or least₀ n 0 → (n < i + 1 → k ≤ get_or s (at + n) 0) → k ≤ v) least i q m
          (λ a b. rw g (le-min (G.under_all i k a (λ o. absurd (omega arith))) (b (omega arith))))
          j (λ n a b. G.under_all j k a (λ o. b (omega arith))) h t;
    }

-- The 24 bytes from `at` on are a name, byte by byte.
pub record NameAt (s : List ℕ) (at : ℕ) : Type 0 where
  pub above : (j : ℕ) → j < 24 → get_or s (at + j) 0 ≤ 0x7D
  pub under : (j : ℕ) → j < 24 → 0x20 ≤ get_or s (at + j) 0
  pub begun : 0x21 ≤ get_or s (at + 0) 0

pub digits_each : (lo : ℕ) (x : List ℕ) → ((j : ℕ) → j < length x → (lo ≤ get_or x j 0) × (get_or x j 0 ≤ 0x7D)) → Digits lo x
digits_each lo [] f = tt
digits_each lo (d ∷ x) f = let h = f 0 (omega arith) in (h.0, h.1, digits_each lo x (λ j l. f (suc j) (omega arith)))

each_digit : (lo : ℕ) (x : List ℕ) → Digits lo x → (j : ℕ) → j < length x → (lo ≤ get_or x j 0) × (get_or x j 0 ≤ 0x7D)
each_digit lo [] f j h = absurd (omega arith)
each_digit lo (d ∷ x) f zero h = (f.0, f.1)
each_digit lo (d ∷ x) f (suc j) h = each_digit lo x f.2 j (omega arith)

module _ (s : List ℕ) (at : ℕ) (room : at + 24 ≤ length s) where
  abbrev part : List ℕ
  part = take 24 (drop at s)

  full : length part ≡ 24
  full = length_part s at 24 room

  part_at : (j : ℕ) → j < 24 → get_or part j 0 ≡ get_or s (at + j) 0
  part_at j h = get_or-take 24 (drop at s) j 0 h ∙ get_or-drop at s j 0

  pub name_legal : NameAt s at → is_legal_filled part ≡ true
  name_legal N =
      filled_name part (λ e. omega (arith, e, part_at 0 (omega arith), N.begun)) full
      ∙ digits_are_digits 0x20 part
      (digits_each 0x20 part (λ j h. (omega (arith, full, part_at j (omega (arith, full)), N.under j (omega (arith, full))), omega (arith, full, part_at j (omega (arith, full)), N.above j (omega (arith, full))))))

  pub legal_name : is_legal_filled part ≡ true → NameAt s at
  unfolding is_legal_filled
  legal_name e =
      let p = both_true (eqb (length part) 24 && are_digits 0x20 part) (not (is_blank_digit (first_digit part))) e in
      let q = both_true (eqb (length part) 24) (are_digits 0x20 part) p.0 in
      let d = each_digit 0x20 part (are_digits_digits 0x20 part q.1) in
      let n : get_or part 0 0 ≡ 0x20 → ⊥ = blank_no (first_digit part) p.1 in
      record {
        above = λ j h. omega (arith, part_at j h, (d j (omega (arith, full))).1);
        under = λ j h. omega (arith, part_at j h, (d j (omega (arith, full))).0);
        begun = omega (arith, part_at 0 (omega arith), (d 0 (omega (arith, full))).0, n);
      }

  module _ (bytes : (i : ℕ) → get_or s i 0 < 256) where
    word_small : (k : ℕ) → k + 8 ≤ 24 → get_or s (at + k) 0 ≤ 0x7D → value (take 8 (drop (at + k) s)) < 2 ^ 63
    unfolding value
    word_small k h g =
        let n : length (take 7 (drop (suc (at + k)) s)) ≡ 7 = length_part s (suc (at + k)) 7 (omega arith) in
        let v : value (take 7 (drop (suc (at + k)) s)) < 256 ^ 7 = rw n at (value_lt (take 7 (drop (suc (at + k)) s)) (bytes_part s 7 (suc (at + k)) bytes)) in
        rw (drop-cons s (at + k) 0 (omega arith), n) (omega arith)

    pub name_small : {k : Key} → WordsAt k at s → NameAt s at → Small k
    name_small W N =
        let z : at + 0 ≡ at = omega arith in
        record {
          first = rw W.first (rw z at (word_small 0 (omega arith) (N.above 0 (omega arith))));
          second = rw W.second (word_small 8 (omega arith) (N.above 8 (omega arith)));
          third = rw W.third (word_small 16 (omega arith) (N.above 16 (omega arith)));
        }

-- What the words of a key are, where it is that of the 24 bytes from `at` on.
pub words_at : (k : Key) (s : List ℕ) (at : ℕ) → at + 24 ≤ length s → ((i : ℕ) → get_or s i 0 < 256) → k.b < 2 ^ 64 → k.c < 2 ^ 64 → key_value k ≡ value (take 24 (drop at s)) → WordsAt k at s
unfolding key_value
words_at k s at room bytes kb kc e =
    let word : (i : ℕ) → i + 8 ≤ length s → value (take 8 (drop i s)) < 2 ^ 64 = λ i h. rw (length_part s i 8 h) at (value_lt (take 8 (drop i s)) (bytes_part s 8 i bytes)) in
    let y : Key = record { a = value (take 8 (drop at s)); b = value (take 8 (drop (at + 8) s)); c = value (take 8 (drop (at + 16) s)) } in
    let q : key_value k ≡ key_value y = e ∙ value_words s at room in
    let f : k.a ≡ y.a = same_first k y kc (word (at + 16) (omega arith)) q kb (word (at + 8) (omega arith)) in
    let g : k.b ≡ y.b = same_second k y kc (word (at + 16) (omega arith)) q f in
    record { whole = e; first = f; second = g; third = omega (arith, q, f, g) }

-- Two numbers with the highest bit.
both_high : (a b : ℕ) → a < 2 ^ 64 → b < 2 ^ 64 → 2 ^ 63 ≤ a → 2 ^ 63 ≤ b → 2 ^ 63 ≤ bit_and a b
both_high a b f g h k =
    let p : a / 2 ^ 63 ≡ 1 = omega arith in
    let q : b / 2 ^ 63 ≡ 1 = omega arith in
    let r : bit_and a b / 2 ^ 63 ≡ 1 = and_shr a b 63 ∙ rw (p, q) refl in
    omega (arith, r)

-- One name gathered: all is clean where all before was, and the name is one and ascends.
module _ {s : List ℕ} {at i : ℕ} (most₀ least₀ most least : List ℕ) (G : Grown s at i most₀ least₀ most least) (whole : 24 ≤ i) (ascents up : ℕ) where
  pub clean_parts : Clean most least (bit_and ascents up) → Clean most₀ least₀ ascents × NameAt s at × (2 ^ 63 ≤ up)
  clean_parts C = (
    record {
      above = λ j h. omega (arith, G.above_before j, C.above j h);
      under = λ j h. omega (arith, G.under_before j, C.under j h);
      begun = omega (arith, G.under_before 0, C.begun);
      rising = omega (arith, C.rising, and_le_l ascents up);
    },
    record {
      above = λ j h. omega (arith, G.above_new j (omega arith), C.above j h);
      under = λ j h. omega (arith, G.under_new j (omega arith), C.under j h);
      begun = omega (arith, G.under_new 0 (omega arith), C.begun);
    },
    omega (arith, C.rising, and_le_r ascents up),
  )

  pub clean_both : ascents < 2 ^ 64 → up < 2 ^ 64 → Clean most₀ least₀ ascents → NameAt s at → 2 ^ 63 ≤ up → Clean most least (bit_and ascents up)
  clean_both f g C N h = record {
    above = λ j l. G.above_all j 0x7D (C.above j l) (λ o. N.above j l);
    under = λ j l. G.under_all j 0x20 (C.under j l) (λ o. N.under j l);
    begun = G.under_all 0 0x21 C.begun (λ o. N.begun);
    rising = both_high ascents up f g C.rising h;
  }

-- The row as far as it is gathered: what is left of it, above the last name, is as good as the whole.
pub record Held (s : List ℕ) (e count : ℕ) (most₀ least₀ : List ℕ) (ascents₀ : ℕ) (most least : List ℕ) (ascents : ℕ) (last : Key) (at left : ℕ) : Type 0 where
  pub sound : Clean most least ascents → Clean most₀ least₀ ascents₀ × Small last × (Rising (key_value last) (names e left (drop at s)) → Rising 0 (names e count s))
  pub complete : Clean most₀ least₀ ascents₀ → Rising 0 (names e count s) → Clean most least ascents × Small last × Rising (key_value last) (names e left (drop at s))
  pub under : (j : ℕ) → get_or least j 0 ≤ get_or least₀ j 0

pub clean_start : Clean (replicate 32 0) (replicate 32 0x7D) 18446744073709551615
clean_start = record {
  above = λ j h. omega (arith, get_or-replicate {A = ℕ} 32 j 0 0 (omega arith));
  under = λ j h. omega (arith, get_or-replicate {A = ℕ} 32 j 0x7D 0 (omega arith));
  begun = omega arith;
  rising = omega arith;
}

pub replicate_most : (n c j : ℕ) → get_or (replicate n c) j 0 ≤ c
replicate_most zero c j = omega arith
replicate_most (suc n) c zero = omega arith
replicate_most (suc n) c (suc j) = replicate_most n c j

pub held_none : (s : List ℕ) (e count at left : ℕ) (most least : List ℕ) (ascents : ℕ) (lowest : Key) → at ≡ 0 → left ≡ count → key_value lowest ≡ 0
    → Held s e count most least ascents most least ascents lowest at left
unfolding key_value
held_none s e count at left most least ascents lowest z w o =
    let S : Small lowest = record { first = omega (arith, o); second = omega (arith, o); third = omega (arith, o) } in
    rw (z, w) record {
      sound = λ C. (C, S, λ R. rw o at R);
      complete = λ C R. (C, S, rw o R);
      under = λ j. omega arith;
    }

-- Where entry k of so many begins and ends.
pub next_entry : (e k : ℕ) → e * (k + 1) ≡ e * k + e
next_entry e k = rw add-one (mul-suc e k)

pub entry_in : (e k count : ℕ) → k < count → e * k + e ≤ e * count
entry_in e k count h = omega (arith, next_entry e k, mul-le-mul_left {m = k + 1} {n = count} e (omega arith))

module _ (s : List ℕ) (e count : ℕ) (most₀ least₀ : List ℕ) (ascents₀ : ℕ) where
  pub held_all : (most least : List ℕ) (ascents : ℕ) (last : Key) (at left : ℕ) → left ≡ 0 → Held s e count most₀ least₀ ascents₀ most least ascents last at left
      → (Clean most least ascents → Clean most₀ least₀ ascents₀ × Rising 0 (names e count s)) × (Clean most₀ least₀ ascents₀ → Rising 0 (names e count s) → Clean most least ascents)
      × (((j : ℕ) → get_or least₀ j 0 ≤ 0x7D) → (j : ℕ) → get_or least j 0 ≤ 0x7D)
  unfolding names
  held_all most least ascents last at zero z H = (λ C. ((H.sound C).0, (H.sound C).2 tt), λ C R. (H.complete C R).0, λ f j. omega (arith, f j, H.under j))
  held_all most least ascents last at (suc n) z H = absurd (omega arith)

  pub held_next : (most₁ least₁ : List ℕ) (ascents : ℕ) (last : Key) (at left i : ℕ) (most least : List ℕ) (name : Key) (up : ℕ)
      → Held s e count most₀ least₀ ascents₀ most₁ least₁ ascents last at left → 0 < left → at + 24 ≤ length s → ((i : ℕ) → get_or s i 0 < 256) → ascents < 2 ^ 64 → up < 2 ^ 64
      → Grown s at i most₁ least₁ most least → 24 ≤ i → WordsAt name at s
      → (Small last → Small name → (2 ^ 63 ≤ up → key_value last < key_value name) × (key_value last < key_value name → 2 ^ 63 ≤ up))
      → (at' left' : ℕ) → at' ≡ at + e → left' + 1 ≡ left → Held s e count most₀ least₀ ascents₀ most least (bit_and ascents up) name at' left'
  unfolding names
  held_next most₁ least₁ ascents last at zero i most least name up H l room bytes fa fu G h W f at' left' u w = absurd (omega arith)
  held_next most₁ least₁ ascents last at (suc n) i most least name up H l room bytes fa fu G h W f at' left' u w =
      let m : left' ≡ n = omega arith in
      let v : value (take 24 (drop at s)) ≡ key_value name = sym W.whole in
      let d : drop (at + e) s ≡ drop e (drop at s) = sym (drop-drop e at s) in
      rw (m, u) record {
        sound = λ C.
            let p = clean_parts most₁ least₁ most least G h ascents up C in
            let t = H.sound p.0 in
            let S = name_small s at room bytes W p.1 in
            (t.0, S, λ R. t.2 (name_legal s at room p.1, rw v ((f t.1 S).0 p.2), rw v (rw d at R)));
        complete = λ C R.
            let t = H.complete C R in
            let N = legal_name s at room t.2.0 in
            let S = name_small s at room bytes W N in
            (clean_both most₁ least₁ most least G h ascents up fa fu t.0 N ((f t.1 S).1 (rw v at t.2.1)), S, rw d (rw v at t.2.2));
        under = λ j. omega (arith, G.under_before j, H.under j);
      }
