-- Every case holds: both sides compute to the same.
use Rattle.model.proofs.Prelude.{refl}
use Rattle.model.specs.Tests.{are_digits, is_above, is_at_most, is_legal_bound, is_legal_filled, is_legal_low, is_legal_name, same_low, same_str}
use Rattle.model.specs.Names.{broken, filled, not_greater, split_beginning, split_tried, within}
use Rattle.model.specs.Entries.{content_from, find, insert, is_older, keep, run_of_content, value_of_content}
use Rattle.model.specs.Searches.{first, has_lower, has_upper, is_free, is_in_range, order_from, shortest, string_count, winner}
use Rattle.model.specs.Changes.{call, left_of, merged_or, put_in, removal, remove_in, right_of, stores_if, trie_removed}
use Rattle.model.specs.Places.{only_from, place_of, positions}
use Rattle.model.specs.Checks.{all_well, are_same_entries, check, cut_among, has_one_more, has_twin, is_chain, is_copied, is_cut_by, is_in, is_listed, is_row, is_sound_file, is_twin, is_well_formed}
use Rattle.model.specs.Agreeing.{are_numbers, are_zero_cells, is_agreeing, is_each_once, is_trie_of, join_trees, read_tree, same_side, same_strs, slots_between}
use Rattle.model.specs.Format.{are_legal_sizes, bytes_at_slot, bytes_of_entries, bytes_of_entry, bytes_of_slot, check_file, check_read, digits_of_low, entry_length, file_bytes, file_size, header_bytes, header_of, is_offered, is_right_header, joined, kept_run, laid_out, layout_of, little_endian, low_of, padded, read_by, read_entries, read_file, read_slot, read_slots, read_used_slot, slot_size, slots_bytes, store_bytes, used_of, value_of}
use Rattle.model.specs.Calls.{arrived_answer, between, create_of, entries_in, headed_answer, list_entries, list_of, list_on_looked, look_up_of, looked_at_by, looked_of, put_by_stores, put_of, put_on_looked, put_takes, rebuild_by, rebuild_of, recover_by, recover_of, refusal_of, remove_by_stores, remove_of, remove_on_looked, slot_answer, stores_bytes, trie_after_put}
use Rattle.model.specs.Tries.{walk_of, walk_run}
use Rattle.vectors.specs.Vectors.{agrees_with, all_bytes, are_same_cells, bytes, bytes_of_part, cases_hold, codes, holds, is_arranged, put_all, same_bool, same_said, same_trie}
use Rattle.vectors.specs.Statement.{EveryCase}

pub every_case : EveryCase
unfolding
    codes bytes_of_part bytes all_bytes same_bool same_said are_same_cells same_trie is_arranged agrees_with put_all holds cases_hold
    are_digits is_legal_name filled is_legal_filled is_legal_bound not_greater within is_at_most broken split_tried
    split_beginning
    find insert keep content_from value_of_content run_of_content is_older
    first has_lower order_from string_count
    is_in_range is_free has_upper left_of right_of merged_or removal trie_removed stores_if put_in remove_in call
    is_above is_legal_low same_str same_low is_row is_well_formed all_well is_chain is_in is_listed is_sound_file are_same_entries has_one_more
    is_copied is_twin has_twin is_cut_by cut_among check
    join_trees read_tree same_side are_zero_cells is_each_once are_numbers same_strs slots_between is_trie_of is_agreeing
    is_offered entry_length kept_run slot_size file_size are_legal_sizes header_bytes padded little_endian value_of bytes_of_entry bytes_of_entries digits_of_low
    low_of bytes_of_slot slots_bytes file_bytes read_entries used_of read_used_slot read_slot bytes_at_slot joined read_slots is_right_header layout_of header_of
    laid_out read_by read_file check_read check_file store_bytes
    create_of recover_by recover_of rebuild_by rebuild_of walk_run walk_of slot_answer arrived_answer headed_answer look_up_of looked_at_by
    looked_of stores_bytes place_of winner shortest positions only_from trie_after_put refusal_of put_takes put_by_stores put_on_looked put_of remove_by_stores remove_on_looked remove_of entries_in between
    list_entries list_on_looked list_of
every_case = record {
  legals_hold = refl;
  insides_hold = refl;
  orders_hold = refl;
  strings_hold = refl;
  arrangements_hold = refl;
  agreements_hold = refl;
  checkings_hold = refl;
  creatings_hold = refl;
  recoverings_hold = refl;
  rebuildings_hold = refl;
  lookings_hold = refl;
  wrongs_hold = refl;
  puttings_hold = refl;
  removings_hold = refl;
  listings_hold = refl;
  worked_hold = refl;
  words_hold = refl;
  fullest_hold = refl;
}
