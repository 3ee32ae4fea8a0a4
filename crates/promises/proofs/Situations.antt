-- The situations of section 14 of the rules hold: both sides compute to the same.
use Rattle.model.proofs.Prelude.{List, ◌≡◌, refl, true, ℕ}
use Rattle.model.specs.declared.Trie.{Trie}
use Rattle.model.specs.Tests.{are_digits, is_above, is_at_most, is_legal_bound, is_legal_filled, is_legal_low, is_legal_name, same_low, same_str}
use Rattle.model.specs.Names.{broken, filled, not_greater, split_beginning, split_tried, within}
use Rattle.model.specs.Entries.{find, insert, keep}
use Rattle.model.specs.Files.{Slot}
use Rattle.model.specs.Searches.{first, has_lower, is_free, is_in_range, order_from, shortest, string_count, winner}
use Rattle.model.specs.Tries.{Agrees, walk_of, walk_run}
use Rattle.model.specs.Changes.{call, counts, put_in}
use Rattle.model.specs.Checks.{all_well, are_same_entries, check, cut_among, has_one_more, has_twin, is_chain, is_copied, is_cut_by, is_in, is_listed, is_row, is_sound_file, is_twin, is_well_formed}
use Rattle.model.specs.Agreeing.{are_numbers, are_zero_cells, is_agreeing, is_each_once, is_trie_of, join_trees, read_tree, same_side, same_strs, slots_between}
use Rattle.model.specs.Format.{are_legal_sizes, bytes_at_slot, bytes_of_entries, bytes_of_slot, digits_of_low, entry_length, file_bytes, file_size, header_bytes, header_of, is_offered, is_right_header, layout_of, little_endian, low_of, padded, read_entries, read_slot, read_used_slot, slot_size, slots_bytes, used_of, value_of}
use Rattle.model.specs.Places.{only_from, place_of, positions}
use Rattle.model.specs.Calls.{arrived_answer, headed_answer, look_up_of, slot_answer, trie_after_put}
use Rattle.model.proofs.Checks.{is_sound_file_sound}
use Rattle.model.proofs.Agreeing.{is_agreeing_agrees}
use Rattle.promises.specs.Texts.{bytes}
use Rattle.promises.specs.Growing.{after_put, puts}
use Rattle.promises.specs.Situations.{Situations, entries, five_cells, names, rates_slots, razz_slots, rebuilt_cells, rz_cells, rz_slots, shorter_cells, shorter_slots, words_cells, words_slots}
use Rattle.promises.specs.Histories.{act, answered, recovered, run}

-- The tests say it, so it is so.
agreed : (b : ℕ) (fs : List Slot) (t : Trie) → is_sound_file b fs ≡ true → is_agreeing fs t ≡ true → Agrees fs t
agreed b fs t sound e = is_agreeing_agrees b (is_sound_file_sound b fs sound) t e

pub situations : Situations
unfolding
    bytes filled names entries is_legal_name are_digits within not_greater split_beginning split_tried
    puts after_put trie_after_put walk_run walk_of place_of winner shortest positions only_from
    call put_in is_in_range is_free first insert find keep
    has_lower order_from string_count
    run act answered counts recovered check cut_among is_cut_by has_twin is_twin is_copied has_one_more are_same_entries
    is_sound_file all_well is_well_formed is_row is_chain is_listed is_in is_above is_legal_low is_legal_bound is_legal_filled is_at_most same_str same_low
    is_agreeing is_trie_of read_tree join_trees are_zero_cells same_side is_each_once are_numbers same_strs slots_between
    is_offered entry_length slot_size file_size are_legal_sizes header_bytes padded little_endian value_of bytes_of_entries digits_of_low low_of
    bytes_of_slot slots_bytes file_bytes read_entries used_of read_used_slot read_slot bytes_at_slot is_right_header layout_of header_of
    look_up_of headed_answer arrived_answer slot_answer broken
situations = record {
  legals = record { longest = refl; empty = refl; too_long = refl; highest = refl; too_high = refl; blank = refl; blank_inside = refl; blank_first = refl; blank_last = refl };
  withins = record { i_in_i_blank = refl; in_not_in_i_blank = refl; in_in_i = refl };
  splits = record { gives_o = refl; gives_i = refl; gives_i_blank = refl; gives_rate2 = refl; gives_ra = refl };
  rate_puts = record {
    rates_file = refl;
    rates_trie = refl;
    rb_leads = refl;
    rb_absent = refl;
    razz_file = refl;
    razz_trie = refl;
    rz_stores = refl;
    rz_file = refl;
    rz_trie = refl;
    rz_found = refl;
    razz_found = refl;
    rates_sound = refl;
    razz_sound = refl;
    rz_sound = refl;
    rates_tested = refl;
    razz_tested = refl;
    rz_tested = refl;
    rates_agree = agreed 2 rates_slots five_cells refl refl;
    razz_agrees = agreed 2 razz_slots five_cells refl refl;
    rz_agrees = agreed 2 rz_slots rz_cells refl refl;
  };
  stopped_put = record {
    before = refl;
    stopped = refl;
    cut = refl;
    recovered = refl;
    sound_again = refl;
    rz_absent = refl;
    rz_not_said = refl;
    razz_found = refl;
  };
  nine_words = record {
    words_file = refl;
    words_trie = refl;
    words_rebuilt = refl;
    words_sound = refl;
    words_tested = refl;
    rebuilt_tested = refl;
    words_agree = agreed 4 words_slots words_cells refl refl;
    rebuilt_agrees = agreed 4 words_slots rebuilt_cells refl refl;
  };
  left_ranges = record { in_absent = refl; i_left = refl; jo_left = refl; long_left = refl };
  shorter_words = record {
    gives_a = refl;
    gives_o = refl;
    gives_a_blank = refl;
    shorter_file = refl;
    shorter_trie = refl;
    shorter_sound = refl;
    shorter_tested = refl;
    shorter_agrees = agreed 4 shorter_slots shorter_cells refl refl;
  };
}
