-- What the code tests of two slots tells whether the first is a copy of the upper part of the second.
use Rattle.model.proofs.Prelude.{Bool, List, ◌&&◌, ◌*◌, ◌+◌, ◌-◌, ◌∙◌, ◌≡◌, ◌≤◌, ap, ap₂, arith, clash, drop, false, leb, length, length-drop, length-take-le, ltb, not, sym, take, take_all, true, ℕ}
use Rattle.model.specs.declared.Layout.{Layout}
use Rattle.model.specs.Order.{Low, Str, ◌◁◌, at}
use Rattle.model.specs.Tests.{is_at_most, is_legal_bound, is_legal_low}
use Rattle.model.specs.Entries.{Entry, Row, move}
use Rattle.model.specs.Files.{Copied}
use Rattle.model.specs.Format.{AreBytes, entry_length, read_entries}
use Rattle.model.proofs.Tests.{never_both}
use Rattle.model.proofs.Entries.{row_keep}
use Rattle.model.proofs.Format.{Contents, bytes_drop, bytes_take, contents_read_slot, entry_size}
use Rattle.digits.specs.Keys.{continued, low_value, value}
use Rattle.digits.proofs.Bounds.{lower_below, lower_some}
use Rattle.entries.specs.Rows.{are_among, entries_from, is_not_above, values}
use Rattle.entries.proofs.Copied.{copied_met, copies_read, each, met, met_copied}
use Rattle.entries.proofs.Copies.{contents_drop, moved}
use Rattle.entries.proofs.Lists.{length-read_entries, part_list, values_are}
use Rattle.entries.proofs.Places.{is_not_above_most, numbers}
use Rattle.entries.proofs.Products.{parts_are}
use Rattle.bucket.specs.Copies.{CopyTold, is_upper_part}
use Rattle.bucket.specs.Forms.{ReadAs}
use Rattle.bucket.specs.Slots.{LowTold, count_at}
use Rattle.bucket.proofs.Slots.{Reads, entries_fit, read_low, read_used, reads, row_read}

-- The test of the entries as the code makes it: e is their size, new and old are the bytes of two rows.
module _ (e n m : ℕ) (new old : List ℕ) {ns es : List Entry} (least : 24 ≤ e) (fn : e * n ≤ length new) (fo : e * m ≤ length old)
    (bn : AreBytes new) (bo : AreBytes old) (rn : read_entries e n new ≡ ns) (ro : read_entries e m old ≡ es) {k l : Low} {u v : Str} (N : Row k ns u) (A : Row l es v) (low : Str) (h : is_legal_bound low ≡ true) where
  abbrev staying : ℕ
  staying = is_not_above (value (continued low)) (values e m old)

  staying_is : staying ≡ is_not_above (value (continued low)) (numbers es)
  staying_is = ap (is_not_above (value (continued low))) (values_are e m old ∙ ap numbers ro)

  long : length es ≡ m
  long = sym (ap length ro) ∙ length-read_entries e m old

  staying_most : staying ≤ m
  staying_most = omega (arith, staying_is, is_not_above_most (value (continued low)) es, long)

  part_moved : read_entries e (m - staying) (entries_from e staying m old) ≡ move low es
  unfolding entries_from
  part_moved =
      part_list e m staying m old least fo staying_most (omega arith)
      ∙ ap₂ (λ (i : ℕ) (xs : List Entry). take (m - staying) (drop i xs)) staying_is ro
      ∙ ap (take (m - staying)) (moved low h A).0 ∙ all_moved
    where
      all_moved : take (m - staying) (move low es) ≡ move low es
      all_moved = take_all (m - staying) (move low es) (omega (arith, (moved low h A).1, staying_is, long))

  pub upper_part : is_upper_part e new n old m (value (continued low)) ≡ met e (move low es) ns
  unfolding is_upper_part entries_from
  upper_part =
      let p = entries_from e staying m old in
      copies_read e (m - staying) n p new least part_long fn part_bytes bn
      ∙ ap₂ (λ (x : List Entry) (y : List Entry). are_among (each e x) (each e y) && leb n (m - staying + 1)) rn part_moved
      ∙ ap₂ (λ (i j : ℕ). are_among (each e ns) (each e (move low es)) && leb i (j + 1)) (sym (sym (ap length rn) ∙ length-read_entries e n new)) (omega (arith, (moved low h A).1, staying_is, long))
    where
      part_long : e * (m - staying) ≤ length (entries_from e staying m old)
      part_long = omega (arith, length-take-le (e * (m - staying)) (drop (e * staying) old) (omega (arith, length-drop (e * staying) old, parts_are e staying m staying_most)))

      part_bytes : AreBytes (entries_from e staying m old)
      part_bytes = bytes_take (e * (m - staying)) (drop (e * staying) old) (bytes_drop (e * staying) old bo)

-- The entries that move are a row, and their contents have room.
row_moved : {l : Low} {v : Str} {es : List Entry} → Row l es v → (low : Str) → Row l (move low es) v
row_moved {l} {v} A low = row_keep (λ x. not (is_at_most x low)) l v A (λ x p c d. (c, d))

contents_moved : (e : ℕ) {l : Low} {v : Str} {es : List Entry} → Row l es v → (low : Str) → is_legal_bound low ≡ true → Contents e es → Contents e (move low es)
contents_moved e {es = es} A low h w = rw (moved low h A).0 at (contents_drop e (is_not_above (value (continued low)) (numbers es)) es w)

module _ (y : Layout) (n a : List ℕ) where
  -- Nothing that reads as used and is well formed is refused wrongly.
  abbrev Refuses : Type 0
  Refuses = (ln la : Low) (un ua : Str) (en ea : List Entry) → Reads y n ln un en → Reads y a la ua ea
      → (low : Str) → ln ≡ at low → la ◁ low → Copied (move low ea) en → ⊥

  refusal : Refuses → CopyTold y n a false
  refusal f = record {
    copied = λ e. clash cc;
    refused = λ e {ln} {la} {un} {ua} {en} {ea} rn ra. f ln la un ua en ea (reads y n rn.0 rn.1) (reads y a ra.0 ra.1);
  }

  module _ (kn ka : ℕ) (tn : LowTold n kn) (ta : LowTold a ka) where
    pub not_below : ltb ka kn ≡ false → CopyTold y n a false
    not_below h = refusal (λ ln la un ua en ea N A low i j c.
        never_both (ltb (low_value la) (low_value ln)) (lower_below la ln low A.low N.low i j) (sym (ap₂ ltb (read_low y a ka A ta) (read_low y n kn N tn)) ∙ h))

    -- The test made to the end.
    abbrev test : Bool
    test = is_upper_part (entry_length y) (drop 64 n) (count_at y.b n) (drop 64 a) (count_at y.b a) kn

    module _ (ln_size : length n ≡ 64 + entry_length y * y.b) (la_size : length a ≡ 64 + entry_length y * y.b) (gn : AreBytes n) (ga : AreBytes a) where
      module _ {ln la : Low} {un ua : Str} {en ea : List Entry} (rn : ReadAs y n ln un en) (ra : ReadAs y a la ua ea) (low : Str) (i : ln ≡ at low) where
        N : Reads y n ln un en
        N = reads y n rn.0 rn.1

        A : Reads y a la ua ea
        A = reads y a ra.0 ra.1

        cn : Contents (entry_length y) en
        cn = contents_read_slot y n gn (read_used y n rn.0)

        ca : Contents (entry_length y) ea
        ca = contents_read_slot y a ga (read_used y a ra.0)

        legal : is_legal_bound low ≡ true
        unfolding is_legal_low
        legal = sym (ap is_legal_low i) ∙ N.low

        key : kn ≡ value (continued low)
        unfolding low_value
        key = read_low y n kn N tn ∙ ap low_value i

        least : 24 ≤ entry_length y
        least = omega (arith, (entry_size y).least)

        test_is : test ≡ met (entry_length y) (move low ea) en
        test_is =
            ap (is_upper_part (entry_length y) (drop 64 n) (count_at y.b n) (drop 64 a) (count_at y.b a)) key
            ∙ upper_part (entry_length y) (count_at y.b n) (count_at y.b a) (drop 64 n) (drop 64 a) least (entries_fit n ln_size N) (entries_fit a la_size A)
            (bytes_drop 64 n gn) (bytes_drop 64 a ga) (row_read N cn) (row_read A ca) N.row A.row low legal

        pub test_copied : test ≡ true → Copied (move low ea) en
        test_copied t = met_copied (entry_length y) (row_moved A.row low) N.row (contents_moved (entry_length y) A.row low legal ca) cn (sym test_is ∙ t)

        pub copied_test : Copied (move low ea) en → test ≡ true
        copied_test c = test_is ∙ copied_met (entry_length y) N.row c

      pub tested : ltb ka kn ≡ true → (r : Bool) → r ≡ test → CopyTold y n a r
      tested h r e = record { copied = yes_copy; refused = λ t rn ra low i j c. never_both r (e ∙ copied_test rn ra low i c) t }
        where
          yes_copy : r ≡ true → {ln la : Low} {un ua : Str} {en ea : List Entry} → ReadAs y n ln un en → ReadAs y a la ua ea
              → (low : Str) × (ln ≡ at low) × (la ◁ low) × Copied (move low ea) en
          yes_copy t {ln} {la} rn ra =
              let N = reads y n rn.0 rn.1 in
              let A = reads y a ra.0 ra.1 in
              let p = lower_some la ln A.low N.low (sym (ap₂ ltb (read_low y a ka A ta) (read_low y n kn N tn)) ∙ h) in
              (p.0, p.1, p.2, test_copied rn ra p.0 p.1 (sym e ∙ t))
