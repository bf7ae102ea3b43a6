-- The names of the crates below and of specs/ that several proofs cite, passed on from one place. Declares nothing.
pub use Rattle.std.proofs.Common.{Bool, IsTrue, List, None, Option, Some, [], ap, arith, bytes_eq, cond, drop, false, filter, get_or, get_or-set_other, get_or-set_same, inl, inr, length}
pub use Rattle.std.proofs.Common.{length-set, map, nat_lt, option_map, refl, rules, slice_get, subst, suc, sym, take, take_all, take_at, true, zero, ℕ, ◌*◌, ◌++◌, ◌+◌, ◌/◌, ◌<◌, ◌==◌, ◌||◌, ◌∙◌}
pub use Rattle.std.proofs.Common.{◌∷◌, ◌≡◌, ◌≢◌, ◌≤◌, ◌⊎◌}
pub use Rattle.silt_conversion.specs.Laws.{ConvertedChargeLaw, ConvertedMapLaw, ConvertedSoundLaw, IsTableOf, WrittenElsewhereLaw}
pub use Rattle.silt_cuckoo.proofs.Indexing.{index_law, newest_apart}
pub use Rattle.silt_cuckoo.specs.Slots.{Entry, IsBucketCount, Slots, entry_at, place_at}
pub use Rattle.silt_disk.specs.Disk.{ChangesWithin, Content, LiesOutside, size}
pub use Rattle.silt_disk.specs.Layout.{Shape, commits_at, device_size, hash_at, log_len, row_len}
pub use Rattle.silt_event.proofs.Rows.{changed_get, count_law}
pub use Rattle.silt_frame.specs.Rows.{StoredRow, has_known_kind, keys_of, put_count, row_bytes, row_of, rows_bytes}
pub use Rattle.silt_hash_store.proofs.Elsewhere.{behind_logs, slot_outside, slots_inside}
pub use Rattle.silt_hash_store.proofs.Slotting.{all_before, empty_not_known, sound_empty, sound_known, tag_empty, tag_known}
pub use Rattle.silt_hash_store.specs.Slots.{hash_rows, hash_slot_at, is_row_of, slot_row, slot_tag, tag_of}
pub use Rattle.silt_log.specs.Rows.{row_at}
pub use Rattle.silt_log.specs.State.{InBounds, all_rows}
pub use Rattle.silt_log_store.proofs.Elsewhere.{frozen_elsewhere, rows_outside}
pub use Rattle.silt_log_store.proofs.Entries.{entry_law}
pub use Rattle.silt_log_store.proofs.Rows.{key_of_row, keys_count, known_there, passes_at}
pub use Rattle.silt_log_store.specs.State.{IsFrozenStore, IsIndexed, LogStoreState}
pub use Rattle.std.proofs.lemmas.Bool.{and_from, and_parts, cases_Bool, cases_eq, cases_lt, cond-false, cond-true, eq-eqb, eqb-true, le-ltb, lt-ltb, ne_eqb}
pub use Rattle.std.proofs.lemmas.List.FromFn.{get_or-map-range_with_len, length-map-range_with_len, map-range_with_len_more, sum_by-map-range_with_len_more, take-map-range_with_len}
pub use Rattle.std.proofs.lemmas.Option.{get_or_from_slice_get, slice_get-get_or, slice_get_within}
pub use Rattle.std.proofs.lemmas.Slice.Eq.{bytes_eq-Decides}
pub use Rattle.std.specs.List.{range_with_len}
