-- Check, recover, list and the tests mean what the rules say.
use Rattle.model.proofs.Prelude.{Bool, List, Memᴰ, mem_cases_cons, mem_head, mem_not_nil, mem_tail, [], ◌&&◌, ◌*◌, ◌++◌, ◌<◌, ◌∙◌, ◌∷◌, ◌≡◌, ◌≤◌, ◌⊎◌, ap, arith, clash, cond, dec_lt, drop, false, inl, inr, length, length-replicate, ltb, ltb-false, ltb-true, refl, replicate, set, some, suc, sym, take, take_all, true, ℕ}
use Rattle.model.specs.declared.Cause.TheVariants.{BadFile as is_a_bad_file, IllegalName, ShortOutput, WrongSize}
use Rattle.model.specs.declared.Layout.{Layout}
use Rattle.model.specs.Results.{Freed, ListRefused, Listed, Nothing, RecoverRefused, RecoverStopped}
use Rattle.model.specs.declared.Trie.{Trie}
use Rattle.model.specs.Order.{Low, Str}
use Rattle.model.specs.Tests.{is_legal_name}
use Rattle.model.specs.Names.{filled}
use Rattle.model.specs.Entries.{Entry, insert}
use Rattle.model.specs.Files.{Slot, Sound, free}
use Rattle.model.specs.Searches.{first, order_of, string_count, strings_of}
use Rattle.model.specs.Tries.{Agrees}
use Rattle.model.specs.Places.{place_of}
use Rattle.model.specs.Checks.{Kind, is_bad, is_cut, is_sound}
use Rattle.model.specs.Format.{AreBytes, BadFile, CutFile, SoundFile, bytes_of_entries, bytes_of_slot, check_file, entry_length, layout_of, read_file, slot_size, store_bytes}
use Rattle.model.specs.Calls.{ListDone, Looked, RecoverDone, between, entries_in, fine, list_entries, list_of, list_on_looked, looked_at_by, looked_of, recover_by, recover_of, refusing}
use Rattle.model.proofs.Deciding.{over}
use Rattle.model.proofs.Order.{Asc, end, le_refl, step}
use Rattle.model.proofs.Tests.{above_is_above, is_above_above, is_at_most_le, le_is_at_most, same_str_equal, same_str_self}
use Rattle.model.proofs.Names.{is_legal_filled_legal, legal_is_legal_filled, one_name}
use Rattle.model.proofs.Strings.{asc_mem}
use Rattle.model.proofs.Files.{chain_right, cut_inside, first_before, first_inside, first_passes, free_is_free, has_lower_lower, has_upper_upper, in_is_in_range, is_free_free, is_in_range_in, lower_has_lower, strings_asc, strings_every, strings_only, upper_has_upper}
use Rattle.model.proofs.Checks.{check_bad, check_cut, check_right, check_sound, is_well_formed_well, well_is_well_formed}
use Rattle.model.proofs.Agreeing.{agrees_is_agreeing, is_agreeing_agrees}
use Rattle.model.proofs.CheckedFiles.{CheckedFile, check_file_cut, check_file_right, check_file_sound, one_cut, sound_not_cut}
use Rattle.model.proofs.Changes.{second_sound}
use Rattle.model.proofs.Places.{place_lt}
use Rattle.model.proofs.Format.{headed_slots, read_file_read}
use Rattle.model.proofs.Stores.{left_freed}
use Rattle.promises.specs.Calls.{our_calls}
use Rattle.promises.specs.Meanings.{AllStrings, Ascending, Distinct, Meanings, OneFreed, Tests, Wrote}
use Rattle.promises.proofs.Demand1.{legal_name, name_legal}
use Rattle.promises.proofs.Leading.{Passed, looked_passed}
use Rattle.promises.proofs.Listings.{listed_right}

-- Check, of a file's bytes and of its slots.
bad_file : (xs : List ℕ) → BadFile xs → check_file xs ≡ is_bad
bad_file xs B = go (check_file xs) (check_file_right xs)
  where
    go : (k : Kind) → CheckedFile xs k → k ≡ is_bad
    go is_sound S = absurd (B.0 S)
    go (is_cut N) C = absurd (B.1 N C)
    go is_bad c = refl

-- Recover.
module _ (xs : List ℕ) (limit : ℕ) where
  -- What it does, by its limit and what the file is.
  data Does : RecoverDone → Type 0 where
    too_high : 2 < limit → Does (record { answer = RecoverRefused WrongSize; file = xs })
    finds_bad : BadFile xs → Does (record { answer = RecoverRefused is_a_bad_file; file = xs })
    finds_sound : limit ≤ 2 → SoundFile xs → Does (record { answer = Nothing; file = xs })
    stops : {N : ℕ} → limit ≡ 0 → CutFile xs N → Does (record { answer = RecoverStopped 0; file = xs })
    frees : {N : ℕ} → 1 ≤ limit → limit ≤ 2 → CutFile xs N → Does (record { answer = Freed N; file = store_bytes (layout_of xs) N free xs })

  does : Does (recover_of xs limit)
  unfolding recover_of recover_by
  does = go (ltb 2 limit) refl
    where
      cut : (N : ℕ) → CutFile xs N → limit ≤ 2 → (c : Bool) → ltb limit 1 ≡ c
          → Does (cond c (record { answer = RecoverStopped 0; file = xs }) (record { answer = Freed N; file = store_bytes (layout_of xs) N free xs }))
      cut N C h true e = stops (omega (arith, ltb-true limit 1 e)) C
      cut N C h false e = frees (omega (arith, ltb-false limit 1 e)) h C

      by : (k : Kind) → CheckedFile xs k → limit ≤ 2 → Does (recover_by xs limit k)
      by is_bad B h = finds_bad B
      by is_sound S h = finds_sound h S
      by (is_cut N) C h = cut N C h (ltb limit 1) refl

      go : (c : Bool) → ltb 2 limit ≡ c → Does (cond c (record { answer = RecoverRefused WrongSize; file = xs }) (recover_by xs limit (check_file xs)))
      go true e = too_high (ltb-true 2 limit e)
      go false e = by (check_file xs) (check_file_right xs) (omega (arith, ltb-false 2 limit e))

  says_freed : (N : ℕ) → ((recover_of xs limit).answer ≡ Freed N → (1 ≤ limit) × (limit ≤ 2) × CutFile xs N)
      × ((1 ≤ limit) × (limit ≤ 2) × CutFile xs N → (recover_of xs limit).answer ≡ Freed N)
  says_freed N = (λ e. there does e, λ h. back does h)
    where
      there : {d : RecoverDone} → Does d → d.answer ≡ Freed N → (1 ≤ limit) × (limit ≤ 2) × CutFile xs N
      there (too_high h) e = clash cc
      there (finds_bad B) e = clash cc
      there (finds_sound h S) e = clash cc
      there (stops z C) e = clash cc
      there (frees {N = M} h k C) e = let q : M ≡ N = cc in (h, k, rw q at C)

      back : {d : RecoverDone} → Does d → (1 ≤ limit) × (limit ≤ 2) × CutFile xs N → d.answer ≡ Freed N
      back (too_high h) (a, c, C) = absurd (omega arith)
      back (finds_bad B) (a, c, C) = absurd (B.1 N C)
      back (finds_sound h S) (a, c, C) = absurd (sound_not_cut S C)
      back (stops z D) (a, c, C) = absurd (omega arith)
      back (frees h k D) (a, c, C) = ap Freed (one_cut D C)

  says_nothing : ((recover_of xs limit).answer ≡ Nothing → (limit ≤ 2) × SoundFile xs) × ((limit ≤ 2) × SoundFile xs → (recover_of xs limit).answer ≡ Nothing)
  says_nothing = (λ e. there does e, λ h. back does h)
    where
      there : {d : RecoverDone} → Does d → d.answer ≡ Nothing → (limit ≤ 2) × SoundFile xs
      there (too_high h) e = clash cc
      there (finds_bad B) e = clash cc
      there (finds_sound h S) e = (h, S)
      there (stops z C) e = clash cc
      there (frees h k C) e = clash cc

      back : {d : RecoverDone} → Does d → (limit ≤ 2) × SoundFile xs → d.answer ≡ Nothing
      back (too_high h) (c, S) = absurd (omega arith)
      back (finds_bad B) (c, S) = absurd (B.0 S)
      back (finds_sound h S) (c, T) = refl
      back (stops z C) (c, S) = absurd (sound_not_cut S C)
      back (frees h k C) (c, S) = absurd (sound_not_cut S C)

  leaves : (recover_of xs limit).answer ≡ Nothing → (recover_of xs limit).file ≡ xs
  leaves e = go does e
    where
      go : {d : RecoverDone} → Does d → d.answer ≡ Nothing → d.file ≡ xs
      go (too_high h) e = refl
      go (finds_bad B) e = refl
      go (finds_sound h S) e = refl
      go (stops z C) e = refl
      go (frees h k C) e = clash cc

  -- What it leaves is the store that frees N.
  stored : (N : ℕ) → (recover_of xs limit).answer ≡ Freed N → CutFile xs N × ((recover_of xs limit).file ≡ store_bytes (layout_of xs) N free xs)
  stored N e = go does e
    where
      go : {d : RecoverDone} → Does d → d.answer ≡ Freed N → CutFile xs N × (d.file ≡ store_bytes (layout_of xs) N free xs)
      go (too_high h) e = clash cc
      go (finds_bad B) e = clash cc
      go (finds_sound h S) e = clash cc
      go (stops z C) e = clash cc
      go (frees {N = M} h k C) e = let q : M ≡ N = cc in (rw q at C, rw q)

  one_freed : (N : ℕ) → (recover_of xs limit).answer ≡ Freed N → OneFreed xs N (recover_of xs limit).file
  unfolding store_bytes bytes_of_slot
  one_freed N e =
      let s = stored N e in
      let K = s.0 in
      let z = slot_size (layout_of xs) in
      let zeros : List ℕ = replicate z 0 in
      let w : take z zeros ≡ zeros = take_all z zeros (omega (arith, length-replicate {A = ℕ} z 0)) in
      record { inside = rw (headed_slots (read_file_read xs K.is).headed) (cut_inside K.layout.b K.cut); is = s.1 ∙ rw w }

  freed_slot : (N : ℕ) → AreBytes xs → (recover_of xs limit).answer ≡ Freed N → (K : CutFile xs N)
      → read_file (recover_of xs limit).file ≡ some (K.layout, set K.slots N free)
  freed_slot N bytes e K = rw (stored N e).1 (left_freed K.layout xs bytes K.is K.cut).is

-- List.
module _ (xs : List ℕ) (t : Trie) (low high out : List ℕ) (count : ℕ) where
  abbrev Writes : ListDone → Type 0
  Writes d = d.answer ≡ Listed count → Wrote xs low high out count d.output

  writes : Writes (list_of xs t low high out)
  unfolding list_of list_on_looked list_entries
  writes = go (is_legal_name low && is_legal_name high)
    where
      by : (y : Layout) (fs : List Slot) → Passed xs t y fs → (es : List Entry) → es ≡ between (filled low) (filled high) (entries_in fs (order_of fs)) → (c : Bool) → ltb (length out) (entry_length y * length es) ≡ c
          → Writes (cond c (record { answer = ListRefused ShortOutput; output = out }) (record { answer = Listed (length es); output = bytes_of_entries (entry_length y) es ++ drop (entry_length y * length es) out }))
      by y fs p es i true h e = clash cc
      by y fs p es i false h e =
          let q : length es ≡ count = cc in
          record {
            file = record { layout = y; slots = fs; is = p.is; sound = p.sound };
            listed = es;
            listing = rw i (listed_right y.b p.sound (filled low) (filled high));
            number = sym q;
            fits = rw q at (ltb-false (length out) (entry_length y * length es) h);
            written = rw q;
          }

      looked : (l : Looked) → looked_of xs t ≡ l → Writes (list_on_looked (filled low) (filled high) out l)
      looked (refusing c) e q = clash cc
      looked (fine y fs) e q =
          let es = between (filled low) (filled high) (entries_in fs (order_of fs)) in
          by y fs (looked_passed xs t y fs e) es refl (ltb (length out) (entry_length y * length es)) refl q

      go : (g : Bool) → Writes (cond g (list_on_looked (filled low) (filled high) out (looked_of xs t)) (record { answer = ListRefused IllegalName; output = out }))
      go true q = looked (looked_of xs t) refl q
      go false q = clash cc

pub meanings : Meanings our_calls
meanings = record {
  says_sound = λ xs. (λ e. rw e at (check_file_right xs), check_file_sound xs);
  says_cut = λ xs N. (λ e. rw e at (check_file_right xs), check_file_cut xs);
  says_bad = λ xs. (λ e. rw e at (check_file_right xs), bad_file xs);
  says_freed = says_freed;
  frees = one_freed;
  frees_slot = freed_slot;
  says_nothing = says_nothing;
  leaves = leaves;
  writes = writes;
}

-- The checks of put, remove and list.
pub passed_looked : (xs : List ℕ) (t : Trie) (y : Layout) (fs : List Slot) → read_file xs ≡ some (y, fs) → Sound y.b fs → Agrees fs t → looked_of xs t ≡ fine y fs
unfolding looked_of looked_at_by
passed_looked xs t y fs e S A =
    rw (check_file_sound xs (record { layout = y; slots = fs; is = e; sound = S }), e, agrees_is_agreeing y.b S A)

-- Ascending strings are distinct.
distinct : {l : Low} {u : Str} (ss : List Str) → Asc l ss u → Distinct ss
distinct [] end = tt
distinct (x ∷ ss) (step a c r) = (λ m. over (asc_mem r m).0 (le_refl x), distinct ss r)

ascending : {l : Low} {u : Str} (ss : List Str) → Asc l ss u → Ascending ss
ascending [] end = tt
ascending (x ∷ ss) (step a c r) = (λ y m. over (asc_mem r m).0, ascending ss r)

all_strings : (b : ℕ) (fs : List Slot) → Sound b fs → AllStrings fs (strings_of fs)
all_strings b fs S = record { once = distinct (strings_of fs) (strings_asc b S); only = strings_only b S; every = strings_every b S }

-- A list without its element x, which is there.
parted : (x : Str) (ys : List Str) → Memᴰ x ys → (zs : List Str) × (length ys ≡ suc (length zs)) × ((z : Str) → Memᴰ z ys → (z ≡ x) ⊎ Memᴰ z zs)
parted x [] m = absurd (mem_not_nil m)
parted x (y ∷ ys) m = elim (mem_cases_cons m) [
  | inl e ↦ (ys, refl, λ z k. elim (mem_cases_cons k) [ inl q ↦ inl (q ∙ sym e) | inr j ↦ inr j ])
  | inr k ↦ onward (parted x ys k)
]
  where
    onward : (zs : List Str) × (length ys ≡ suc (length zs)) × ((z : Str) → Memᴰ z ys → (z ≡ x) ⊎ Memᴰ z zs)
        → (zs : List Str) × (length (y ∷ ys) ≡ suc (length zs)) × ((z : Str) → Memᴰ z (y ∷ ys) → (z ≡ x) ⊎ Memᴰ z zs)
    onward (zs, e, f) = (
      y ∷ zs,
      ap suc e,
      λ z k. elim (mem_cases_cons k) [
        | inl q ↦ inr (mem_head q)
        | inr j ↦ elim (f z j) [ inl q ↦ inl q | inr i ↦ inr (mem_tail i) ]
      ],
    )

-- Distinct strings that are all in a list are not more than the list has.
fewer : (xs ys : List Str) → Distinct xs → ((x : Str) → Memᴰ x xs → Memᴰ x ys) → length xs ≤ length ys
fewer [] ys d f = omega arith
fewer (x ∷ xs) ys (n, d) f =
    let p = parted x ys (f x (mem_head refl)) in
    omega (arith, p.1, fewer xs p.0 d (λ z m. elim (p.2 z (f z (mem_tail m))) [ inl q ↦ absurd (n (rw q at m)) | inr k ↦ k ]))

pub tests : Tests
unfolding string_count
tests = record {
  legal = λ name. (legal_name name, name_legal);
  legal_filled = λ n. (is_legal_filled_legal n, legal_is_legal_filled);
  one_name = λ m n f g. one_name m n f.most g.most f.least g.least f.last g.last;
  at_most = λ x y. (is_at_most_le x y, le_is_at_most x y);
  above = λ l x. (is_above_above l x, above_is_above);
  same = λ x y. (same_str_equal x y, λ e. rw e (same_str_self y));
  well = λ b x. (is_well_formed_well b x, well_is_well_formed b);
  sound = λ b fs. (λ e. rw e at (check_right b fs), check_sound b fs);
  cut = λ b fs N. (λ e. rw e at (check_right b fs), check_cut b fs);
  bad = λ b fs. (λ e. rw e at (check_right b fs), check_bad b fs);
  agreeing = λ b fs t S. (is_agreeing_agrees b S t, agrees_is_agreeing b S);
  passes = λ xs t y fs. (λ e. let p = looked_passed xs t y fs e in (p.is, p.sound, p.agrees), λ h. passed_looked xs t y fs h.0 h.1 h.2);
  slot_free = λ x. (is_free_free x, free_is_free x);
  slot_lower = λ l x. (has_lower_lower l x, λ h. lower_has_lower l x h.0 h.1);
  slot_upper = λ u x. (has_upper_upper u x, λ h. upper_has_upper u x h.0 h.1);
  slot_in_range = λ n x. (is_in_range_in n x, in_is_in_range n x);
  first_passes = λ t fs. elim (dec_lt (first t fs) (length fs)) [ yes h ↦ inl (first_passes t fs h) | no h ↦ inr (omega (arith, first_inside t fs)) ];
  first_before = λ t fs B h. (omega (arith, first_inside t fs), first_before t fs B h);
  ordered = λ b fs S. chain_right b S;
  listed = λ b fs S. (all_strings b fs S, ascending (strings_of fs) (strings_asc b S));
  counted = λ b fs S ss A.
      let L = all_strings b fs S in
      omega (arith, fewer (strings_of fs) ss L.once (λ x m. A.every x (L.only x m)), fewer ss (strings_of fs) A.once (λ x m. L.every x (A.only x m)));
  after_split = λ y fs A N l u es n v two S is g lo up big low.
      second_sound y.b fs S A l u es is n v g lo up big (place_of y (insert n v es)) (place_lt y two (insert n v es)) N low;
}
