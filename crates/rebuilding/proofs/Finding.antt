-- The shortest strings of a run, found from its end: one string after the other that is not longer than all after it.
use Rattle.model.proofs.Prelude.{List, ◌+◌, ◌-◌, ◌/◌, ◌<◌, ◌∙◌, ◌≡◌, ◌≤◌, arith, dec_lt, get_or, get_or-set_other, get_or-set_same, length, refl, set, suc, sym, ℕ, ℕ_discrete}
use Rattle.rebuilding.specs.Roots.{many, middle, run}
use Rattle.rebuilding.specs.Starts.{Found, Longer, Start, Starts}
use Rattle.rebuilding.proofs.Laws.{least_is, middle_is, behind_longer, none_longer, one_first, one_last, place_is}

module _ (lens : List ℕ) where
  -- A start is looked for among the starts before it.
  pub start_farther : (i len start before s : ℕ) → before ≡ start - 1 → 0 < start → len < get_or lens before 0 → Longer lens len start i → Start lens before s → Longer lens len s i
  start_farther i len start before s e p h f S j a b = go (dec_lt j before) (ℕ_discrete j before)
    where
      go : Dec (j < before) → Dec (j ≡ before) → len < get_or lens j 0
      go (yes k) d = omega (arith, h, S.longer j a k)
      go (no k) (yes q) = rw q h
      go (no k) (no q) = f j (omega arith) b

  pub starts_more : (starts : List ℕ) (i v : ℕ) → i < length starts → Starts lens starts i → Start lens i v → Starts lens (set starts i v) (i + 1)
  starts_more starts i v h f S j l = go (ℕ_discrete j i)
    where
      go : Dec (j ≡ i) → Start lens j (get_or (set starts i v) j 0)
      go (yes e) = rw (e, get_or-set_same starts i v 0 h) S
      go (no n) = rw (get_or-set_other starts i j v 0 n) (f j (omega arith))

  -- Of the strings from `first` on: the first is a shortest one; so is the last; and so many are there.
  pub record Seen (to first last count : ℕ) : Type 0 where
    pub before : first ≤ last
    pub inside : last < to
    pub room : count + first ≤ to
    pub short : get_or lens last 0 ≤ 255
    pub same : get_or lens last 0 ≡ get_or lens first 0
    pub low : (j : ℕ) → first ≤ j → j < to → get_or lens first 0 ≤ get_or lens j 0
    pub past : Longer lens (get_or lens last 0) (suc last) to
    pub counted : count ≡ suc (many 0 (get_or lens last 0) (run first last lens))

  none_yet : (d p : ℕ) → many 0 d (run p p lens) ≡ 0
  none_yet d p = none_longer d lens 0 p p (λ j h l. absurd (omega arith))

  pub seen_one : (to p : ℕ) → p < to → get_or lens p 0 ≤ 255 → Longer lens (get_or lens p 0) (suc p) to → Seen to p p 1
  seen_one to p h b f = record {
    before = omega arith;
    inside = h;
    room = omega arith;
    short = b;
    same = refl;
    low = λ j a l. go j (ℕ_discrete j p) a l;
    past = f;
    counted = sym (rw (none_yet (get_or lens p 0) p));
  }
    where
      go : (j : ℕ) → Dec (j ≡ p) → p ≤ j → j < to → get_or lens p 0 ≤ get_or lens j 0
      go j (yes e) a l = rw e (omega arith)
      go j (no n) a l = omega (arith, f j (omega arith) l)

  module _ {to first last count s : ℕ} (S : Seen to first last count) (R : Start lens first s) (some : 0 < s) where
    -- Behind the string before the start all are at least as long as the first one.
    behind : (j : ℕ) → s ≤ j → j < to → get_or lens first 0 ≤ get_or lens j 0
    behind j a l = go (dec_lt j first)
      where
        go : Dec (j < first) → get_or lens first 0 ≤ get_or lens j 0
        go (yes k) = omega (arith, R.longer j a k)
        go (no k) = S.low j (omega arith) l

    pub seen_shorter : get_or lens (s - 1) 0 < get_or lens first 0 → Seen to (s - 1) (s - 1) 1
    seen_shorter h = seen_one to (s - 1) (omega (arith, R.inside, S.before, S.inside)) (omega (arith, h, S.same, S.short)) (λ j a l. omega (arith, h, behind j (omega arith) l))

    pub seen_same : get_or lens first 0 ≤ get_or lens (s - 1) 0 → Seen to (s - 1) last (count + 1)
    seen_same h = record {
      before = omega (arith, R.inside, S.before);
      inside = S.inside;
      room = omega (arith, R.inside, S.room);
      short = S.short;
      same = S.same ∙ e;
      low = λ j a l. go j (ℕ_discrete j (s - 1)) a l;
      past = S.past;
      counted = rw (one_first d lens (s - 1) first last (omega (arith, R.inside)) S.before (sym e ∙ sym S.same) longer) (omega (arith, S.counted));
    }
      where
        d : ℕ
        d = get_or lens last 0

        longer : Longer lens d (suc (s - 1)) first
        longer j a l = omega (arith, S.same, R.longer j (omega arith) l)

        e : get_or lens first 0 ≡ get_or lens (s - 1) 0
        e = omega (arith, h, R.stops some)

        go : (j : ℕ) → Dec (j ≡ s - 1) → s - 1 ≤ j → j < to → get_or lens (s - 1) 0 ≤ get_or lens j 0
        go j (yes q) a l = rw q (omega arith)
        go j (no n) a l = omega (arith, e, behind j (omega arith) l)

  pub seen_all : {to first last count s : ℕ} (from : ℕ) → Seen to first last count → Start lens first s → from ≤ first → s ≤ from → Found lens from to last count
  seen_all {to} {first} {last} {count} {s} from S R h l = record {
    least_place = omega (arith, S.before);
    most_place = S.inside;
    short = S.short;
    low = λ j a b. go j (dec_lt j first) a b;
    past = S.past;
    counted = rw (behind_longer (get_or lens last 0) lens from first last h S.before (λ j a b. omega (arith, S.same, R.longer j (omega arith) b))) S.counted;
  }
    where
      go : (j : ℕ) → Dec (j < first) → from ≤ j → j < to → get_or lens last 0 ≤ get_or lens j 0
      go j (yes k) a b = omega (arith, S.same, R.longer j (omega arith) k)
      go j (no k) a b = omega (arith, S.same, S.low j (omega arith) b)

  -- A shortest string of a run that has so many before it.
  pub record At (from to len p m : ℕ) : Type 0 where
    pub low : from ≤ p
    pub high : p < to
    pub len_is : get_or lens p 0 ≡ len
    pub before : many 0 len (run from p lens) ≡ m

  -- The one before it stands before its start.
  at_before : (from to last count : ℕ) {p m s : ℕ} → Found lens from to last count → At from to (get_or lens last 0) p (suc m) → Start lens p s
      → (from < s) × At from to (get_or lens last 0) (s - 1) m
  at_before from to last count {p} {m} {s} F A R = go (dec_lt from s)
    where
      len : ℕ
      len = get_or lens last 0

      longer : (e : ℕ) → s ≤ e → Longer lens len e p
      longer e h j a b = omega (arith, A.len_is, R.longer j (omega arith) b)

      go : Dec (from < s) → (from < s) × At from to len (s - 1) m
      go (no n) = absurd (omega (arith, A.before, none_longer len lens 0 from p (longer from (omega arith))))
      go (yes h) =
          let q : get_or lens (s - 1) 0 ≡ len = omega (arith, R.stops (omega arith), A.len_is, F.low (s - 1) (omega arith) (omega (arith, R.inside, A.high))) in (
            h,
            record {
              low = omega arith;
              high = omega (arith, R.inside, A.high);
              len_is = q;
              before = omega (arith, A.before, one_last len lens from (s - 1) p (omega arith) (omega (arith, R.inside)) q (longer (suc (s - 1)) (omega arith)));
            },
          )

  -- The root is so many shortest strings before the one at p.
  pub record Back (from to p left : ℕ) : Type 0 where
    pub last : ℕ
    pub count : ℕ
    pub found : Found lens from to last count
    pub at : At from to (get_or lens last 0) p (left + (count - 1) / 2)

  module _ {from to : ℕ} where
    pub back_last : {last count : ℕ} → Found lens from to last count → Back from to last (count / 2)
    back_last {last} {count} F = record {
      last = last;
      count = count;
      found = F;
      at = record { low = F.least_place; high = F.most_place; len_is = refl; before = omega (arith, F.counted) };
    }

    pub back_inside : {p left : ℕ} → Back from to p left → (from ≤ p) × (p < to)
    back_inside B = (B.at.low, B.at.high)

    pub back_next : {p left s : ℕ} → Back from to p left → 0 < left → Start lens p s → (from < s) × Back from to (s - 1) (left - 1)
    back_next {p} {left} {s} B h R =
        let e : left + (B.count - 1) / 2 ≡ suc (left - 1 + (B.count - 1) / 2) = omega arith in
        let n = at_before from to B.last B.count B.found (rw e at B.at) R in
        (n.0, record { last = B.last; count = B.count; found = B.found; at = n.1 })

    pub back_root : {p left : ℕ} → Back from to p left → left ≡ 0 → p ≡ middle from (run from to lens)
    back_root {p} {left} B h =
        let F = B.found in
        let len = get_or lens B.last 0 in
        let e : left + (B.count - 1) / 2 ≡ (B.count - 1) / 2 = omega arith in
        sym (middle_is from len B.count (run from to lens)
        (sym (least_is len lens from B.last to F.short F.least_place F.most_place refl F.low))
        (F.counted ∙ sym (one_last len lens from B.last to F.least_place F.most_place refl F.past))
        ∙ place_is len lens from ((B.count - 1) / 2) from p to B.at.low B.at.high B.at.len_is (B.at.before ∙ e))
