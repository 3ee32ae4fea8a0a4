-- The situations of section 14 of the rules: one table, one statement.
use Rattle.std.specs.Prelude.{◌≡◌, false, true, List, [], ◌∷◌, ℕ, get_or, replicate}
use Rattle.std.proofs.Math.Option.{Option, none as nothing, some}
use Prim.Native.String.{String}
use Rattle.model.specs.declared.Cause.TheVariants.{StaleTrie}
use Rattle.model.specs.declared.Cell.{Cell}
use Rattle.model.specs.Results.{LookUpRefused, NotFound}
use Rattle.model.specs.declared.Side.{Side}
use Rattle.model.specs.declared.Side.TheVariants.{Cell as further, Slot as slot}
use Rattle.model.specs.declared.Trie.{Trie}
use Rattle.model.specs.Order.{Str, at, none}
use Rattle.model.specs.Tests.{is_legal_name}
use Rattle.model.specs.Names.{broken, within}
use Rattle.model.specs.Entries.{Entry, find}
use Rattle.model.specs.Files.{Slot, created, entries_of, free, slot_at, used}
use Rattle.model.specs.Tries.{Agrees, walk_trie}
use Rattle.model.specs.Rebuilding.{rebuilt_trie}
use Rattle.model.specs.Format.{file_bytes}
use Rattle.model.specs.Changes.{call, put, split_of, stores}
use Rattle.model.specs.Places.{place_of}
use Rattle.model.specs.Checks.{check, is_cut, is_sound, is_sound_file}
use Rattle.model.specs.Agreeing.{is_agreeing}
use Rattle.promises.specs.Texts.{bytes, name}
use Rattle.model.specs.Calls.{look_up_of, new_trie}
use Rattle.promises.specs.Calls.{version_1, version_2}
use Rattle.promises.specs.Growing.{Held, of_cells, puts}
use Rattle.promises.specs.Histories.{Action, World, ask, down, ready, recover, run}

-- A cell, its digit as a text.
abbrev pub a_cell : String → ℕ → Side → Side → Cell
a_cell d i l r = record { digit = get_or (bytes d) 0 0; number = i; left = l; right = r }

-- These texts as entries, each with its value.
unfoldable pub entries : List (String × ℕ) → List Entry
entries [] = []
entries (e ∷ es) = (name e.0, e.1) ∷ entries es

-- Sorted names, whose values do not matter.
unfoldable pub names : List String → List Entry
names [] = []
names (w ∷ ws) = (name w, 0) ∷ names ws

-- What the trie's walk finds of a name.
abbrev pub looked_up : String → Held → Option ℕ
looked_up w h = find (name w) (entries_of (slot_at h.0 (walk_trie h.1 (name w))))

pub record Legals : Type 0 where
  -- R14.1: 24 bytes are legal,
  pub longest : is_legal_name (replicate 24 0x61) ≡ true
  -- 0 and 25 are not.
  pub empty : is_legal_name [] ≡ false
  pub too_long : is_legal_name (replicate 25 0x61) ≡ false
  -- R14.2: 0x7D is legal,
  pub highest : is_legal_name (0x7D ∷ []) ≡ true
  -- 0x7E is not. 0x20 is legal inside a name,
  pub too_high : is_legal_name (0x7E ∷ []) ≡ false
  pub blank_inside : is_legal_name (bytes "a b") ≡ true
  -- and neither first nor last.
  pub blank : is_legal_name (0x20 ∷ []) ≡ false
  pub blank_first : is_legal_name (bytes " a") ≡ false
  pub blank_last : is_legal_name (bytes "a ") ≡ false

pub record Withins : Type 0 where
  -- R14.3: "i" is within "i ",
  pub i_in_i_blank : within (name "i") (bytes "i ") ≡ true
  -- "in" is not,
  pub in_not_in_i_blank : within (name "in") (bytes "i ") ≡ false
  -- but is within "i".
  pub in_in_i : within (name "in") (bytes "i") ≡ true

-- The split strings for b = 4, and those for b = 2.
pub record Splits : Type 0 where
  -- R14.4: a and of the to
  pub gives_o : split_of 4 (place_of (version_1 4)) (names ("a" ∷ "and" ∷ "of" ∷ "the" ∷ "to" ∷ [])) ≡ bytes "o"
  -- R14.5: a and in is of
  pub gives_i : split_of 4 (place_of (version_1 4)) (names ("a" ∷ "and" ∷ "in" ∷ "is" ∷ "of" ∷ [])) ≡ bytes "i"
  -- R14.6: a and i in is
  pub gives_i_blank : split_of 4 (place_of (version_1 4)) (names ("a" ∷ "and" ∷ "i" ∷ "in" ∷ "is" ∷ [])) ≡ bytes "i "
  -- R14.7: rate1 rate2 rate3
  pub gives_rate2 : split_of 2 (place_of (version_1 2)) (names ("rate1" ∷ "rate2" ∷ "rate3" ∷ [])) ≡ bytes "rate2"
  -- R14.8: rate3 razz rz
  pub gives_ra : split_of 2 (place_of (version_1 2)) (names ("rate3" ∷ "razz" ∷ "rz" ∷ [])) ≡ bytes "ra"

-- The files and tries with b = 2. After rate1, rate2, rate3:
abbrev pub rates : Held
rates = puts (version_1 2) (("rate1", 1) ∷ ("rate2", 2) ∷ ("rate3", 3) ∷ []) (created 4, new_trie)

-- Their slots, written out,
abbrev pub first_slot : Slot
first_slot = used none (bytes "rate2") (entries (("rate1", 1) ∷ ("rate2", 2) ∷ []))

abbrev pub full_slot : Slot
full_slot = used (at (bytes "rate2")) [] (entries (("rate3", 3) ∷ ("razz", 4) ∷ []))

abbrev pub kept_slot : Slot
kept_slot = used (at (bytes "rate2")) (bytes "ra") (entries (("rate3", 3) ∷ ("razz", 4) ∷ []))

abbrev pub rz_slot : Slot
rz_slot = used (at (bytes "ra")) [] (entries (("rz", 5) ∷ []))

abbrev pub rates_slots : List Slot
rates_slots = first_slot ∷ used (at (bytes "rate2")) [] (entries (("rate3", 3) ∷ [])) ∷ free ∷ free ∷ []

abbrev pub razz_slots : List Slot
razz_slots = first_slot ∷ full_slot ∷ free ∷ free ∷ []

abbrev pub rz_slots : List Slot
rz_slots = first_slot ∷ kept_slot ∷ rz_slot ∷ free ∷ []

-- and their cells.
abbrev pub five_cells : Trie
five_cells =
    of_cells (a_cell "r" 0 (further 1) (slot 1) ∷ a_cell "a" 1 (further 2) (slot 1) ∷ a_cell "t" 2 (further 3) (slot 1)
    ∷ a_cell "e" 3 (further 4) (slot 1) ∷ a_cell "2" 4 (slot 0) (slot 1) ∷ [])

-- Redirected: of the leaves that led to slot 1, the paths "" and "r" are above "ra"; "ra", "rat" and "rate" are not.
abbrev pub rz_cells : Trie
rz_cells =
    of_cells (a_cell "r" 0 (further 1) (slot 2) ∷ a_cell "a" 1 (further 2) (slot 2) ∷ a_cell "t" 2 (further 3) (slot 1)
    ∷ a_cell "e" 3 (further 4) (slot 1) ∷ a_cell "2" 4 (slot 0) (slot 1) ∷ [])

-- From there on: razz, which fits;
abbrev pub with_razz : Held
with_razz = puts (version_1 2) (("razz", 4) ∷ []) (rates_slots, five_cells)

-- and rz, which splits again.
abbrev pub with_rz : Held
with_rz = puts (version_1 2) (("rz", 5) ∷ []) (razz_slots, five_cells)

pub record RateSituations : Type 0 where
  -- R14.7: five cells.
  pub rates_file : rates.0 ≡ rates_slots
  pub rates_trie : rates.1 ≡ five_cells
  -- The absent name rb leads to slot 1.
  pub rb_leads : walk_trie rates.1 (name "rb") ≡ 1
  pub rb_absent : looked_up "rb" rates ≡ nothing
  -- R14.8: razz fits, and the cells stay;
  pub razz_file : with_razz.0 ≡ razz_slots
  pub razz_trie : with_razz.1 ≡ five_cells
  -- rz takes two stores, the new slot first. Slot 1 keeps rate3 and razz, slot 2 gets rz.
  pub rz_stores : call 2 (place_of (version_1 2)) razz_slots (put (name "rz") 5) ≡ stores ((2, rz_slot) ∷ (1, kept_slot) ∷ [])
  pub rz_file : with_rz.0 ≡ rz_slots
  -- "ra" is a string already, so no cell is added.
  pub rz_trie : with_rz.1 ≡ rz_cells
  pub rz_found : looked_up "rz" with_rz ≡ some 5
  pub razz_found : looked_up "razz" with_rz ≡ some 4
  -- Each of these files is sound, and its trie agrees with it; the tests say so.
  pub rates_sound : is_sound_file 2 rates.0 ≡ true
  pub razz_sound : is_sound_file 2 with_razz.0 ≡ true
  pub rz_sound : is_sound_file 2 with_rz.0 ≡ true
  pub rates_tested : is_agreeing rates.0 rates.1 ≡ true
  pub razz_tested : is_agreeing with_razz.0 with_razz.1 ≡ true
  pub rz_tested : is_agreeing with_rz.0 with_rz.1 ≡ true
  pub rates_agree : Agrees rates.0 rates.1
  pub razz_agrees : Agrees with_razz.0 with_razz.1
  pub rz_agrees : Agrees with_rz.0 with_rz.1

-- The same puts as a history, the latest first, and the last one stopped after one store.
abbrev pub before_rz : List Action
before_rz =
    ask (put (name "razz") 4) 2 ∷ ask (put (name "rate3") 3) 2 ∷ ask (put (name "rate2") 2) 2
    ∷ ask (put (name "rate1") 1) 2 ∷ []

abbrev pub stopped_rz : List Action
stopped_rz = ask (put (name "rz") 5) 1 ∷ before_rz

abbrev pub file_of : World → List Slot
file_of (ready fs m) = fs
file_of (down fs m) = fs

abbrev pub said_of : World → Str → Option ℕ
said_of (ready fs m) = m
said_of (down fs m) = m

abbrev pub stopped_file : List Slot
stopped_file = file_of (run 2 4 (place_of (version_1 2)) stopped_rz)

-- Recovered, with one store.
abbrev pub recovered_file : List Slot
recovered_file = file_of (run 2 4 (place_of (version_1 2)) (recover 1 ∷ stopped_rz))

pub record Stopped : Type 0 where
  pub before : file_of (run 2 4 (place_of (version_1 2)) before_rz) ≡ razz_slots
  -- R14.9: stopped after one store, slot 1 has no upper limit yet, and slot 2 holds rz.
  pub stopped : stopped_file ≡ first_slot ∷ full_slot ∷ rz_slot ∷ free ∷ []
  pub cut : check 2 stopped_file ≡ is_cut 2
  -- Recover frees slot 2.
  pub recovered : recovered_file ≡ razz_slots
  pub sound_again : check 2 recovered_file ≡ is_sound
  -- Then rz is absent.
  pub rz_absent : looked_up "rz" (recovered_file, rebuilt_trie recovered_file) ≡ nothing
  pub rz_not_said : said_of (run 2 4 (place_of (version_1 2)) (recover 1 ∷ stopped_rz)) (name "rz") ≡ nothing
  pub razz_found : looked_up "razz" (recovered_file, rebuilt_trie recovered_file) ≡ some 4

-- The nine words of R14.11, each with its line number, with b = 4 and 8 slots.
abbrev pub nine : List (String × ℕ)
nine = ("the", 1) ∷ ("of", 2) ∷ ("and", 3) ∷ ("to", 4) ∷ ("a", 5) ∷ ("in", 6) ∷ ("that", 7) ∷ ("is", 8) ∷ ("i", 9) ∷ []

abbrev pub words : Held
words = puts (version_1 4) nine (created 8, new_trie)

abbrev pub words_slots : List Slot
words_slots =
    used none (bytes "i ") (entries (("a", 5) ∷ ("and", 3) ∷ ("i", 9) ∷ []))
    ∷ used (at (bytes "o")) [] (entries (("that", 7) ∷ ("the", 1) ∷ ("to", 4) ∷ []))
    ∷ used (at (bytes "i")) (bytes "o") (entries (("of", 2) ∷ []))
    ∷ used (at (bytes "i ")) (bytes "i") (entries (("in", 6) ∷ ("is", 8) ∷ [])) ∷ free ∷ free ∷ free ∷ free ∷ []

-- The trie grown by the puts,
abbrev pub words_cells : Trie
words_cells =
    of_cells (a_cell "o" 0 (further 1) (slot 1) ∷ a_cell "i" 0 (further 2) (slot 2) ∷ a_cell " " 1 (slot 0) (slot 3) ∷ [])

-- and rebuilt.
abbrev pub rebuilt_cells : Trie
rebuilt_cells =
    of_cells (a_cell "i" 0 (further 1) (further 2) ∷ a_cell " " 1 (slot 0) (slot 3) ∷ a_cell "o" 0 (slot 2) (slot 1) ∷ [])

pub record WordSituations : Type 0 where
  -- R14.10: the file of the nine words,
  pub words_file : words.0 ≡ words_slots
  pub words_trie : words.1 ≡ words_cells
  -- and its trie, rebuilt.
  pub words_rebuilt : rebuilt_trie words.0 ≡ rebuilt_cells
  -- The file is sound, and both tries agree with it; the tests say so.
  pub words_sound : is_sound_file 4 words.0 ≡ true
  pub words_tested : is_agreeing words.0 words.1 ≡ true
  pub rebuilt_tested : is_agreeing words.0 (rebuilt_trie words.0) ≡ true
  pub words_agree : Agrees words.0 words.1
  pub rebuilt_agrees : Agrees words.0 (rebuilt_trie words.0)

-- A file of one slot: the bucket from "i " to "i".
abbrev pub i_file : List ℕ
i_file = file_bytes (version_1 2) (used (at (bytes "i ")) (bytes "i") [] ∷ [])

-- A name of 24 digits.
abbrev pub long_name : String
long_name = "abcdefghijklmnopqrstuvwx"

pub record Lefts : Type 0 where
  -- R14.13: "in" is in the range; "i" agrees with all of the lower bound; "jo" differs from the upper at digit 0.
  pub in_absent : look_up_of i_file new_trie (bytes "in") ≡ NotFound
  pub i_left : look_up_of i_file new_trie (bytes "i") ≡ LookUpRefused (StaleTrie 2)
  pub jo_left : look_up_of i_file new_trie (bytes "jo") ≡ LookUpRefused (StaleTrie 0)
  -- A name equal to a lower bound of 24 digits.
  pub long_left : broken (at (bytes long_name)) [] (name long_name) ≡ 24

-- The same words in a file of version 2: the last split is at "a", not at "i ".
abbrev pub shorter : Held
shorter = puts (version_2 4) nine (created 8, new_trie)

abbrev pub shorter_slots : List Slot
shorter_slots =
    used none (bytes "a") (entries (("a", 5) ∷ ("and", 3) ∷ []))
    ∷ used (at (bytes "o")) [] (entries (("that", 7) ∷ ("the", 1) ∷ ("to", 4) ∷ []))
    ∷ used (at (bytes "i")) (bytes "o") (entries (("of", 2) ∷ []))
    ∷ used (at (bytes "a")) (bytes "i") (entries (("i", 9) ∷ ("in", 6) ∷ ("is", 8) ∷ [])) ∷ free ∷ free ∷ free ∷ free ∷ []

abbrev pub shorter_cells : Trie
shorter_cells =
    of_cells (a_cell "o" 0 (further 1) (slot 1) ∷ a_cell "i" 0 (further 2) (slot 2) ∷ a_cell "a" 0 (slot 0) (slot 3) ∷ [])

pub record Shorter : Type 0 where
  -- R14.14: of a and i in is, "i" gives "i " and "and" gives "a", which is shorter.
  pub gives_a : split_of 4 (place_of (version_2 4)) (names ("a" ∷ "and" ∷ "i" ∷ "in" ∷ "is" ∷ [])) ≡ bytes "a"
  -- A tie: of a and of the to, "of" and "and" give one digit each.
  pub gives_o : split_of 4 (place_of (version_2 4)) (names ("a" ∷ "and" ∷ "of" ∷ "the" ∷ "to" ∷ [])) ≡ bytes "o"
  -- b = 2: of a ab abc, "ab" gives "ab " and "a" gives "a ".
  pub gives_a_blank : split_of 2 (place_of (version_2 2)) (names ("a" ∷ "ab" ∷ "abc" ∷ [])) ≡ bytes "a "
  -- R14.15: the file of the nine words and its trie.
  pub shorter_file : shorter.0 ≡ shorter_slots
  pub shorter_trie : shorter.1 ≡ shorter_cells
  pub shorter_sound : is_sound_file 4 shorter.0 ≡ true
  pub shorter_tested : is_agreeing shorter.0 shorter.1 ≡ true
  pub shorter_agrees : Agrees shorter.0 shorter.1

-- All situations of the rules' section 14 that are marked proved.
pub record Situations : Type 0 where
  pub legals : Legals
  pub withins : Withins
  pub splits : Splits
  pub rate_puts : RateSituations
  pub stopped_put : Stopped
  pub nine_words : WordSituations
  pub left_ranges : Lefts
  pub shorter_words : Shorter
