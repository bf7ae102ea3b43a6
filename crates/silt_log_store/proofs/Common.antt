-- The names of the crates below and of specs/ that several proofs cite, passed on from one place. Declares nothing.
pub use Rattle.std.proofs.Common.{Bool, IfSome, IsSome, IsTrue, List, None, Option, Some, [], ap, arith, cond, drop, eqb, false, find, flat_map, get_or, inl, inr, length, length-append, lit≤, map}
pub use Rattle.std.proofs.Common.{not, option_map, refl, rules, slice_get, subst, suc, sym, take, take-append-drop, true, zero, ℕ, ◌*◌, ◌++◌, ◌+◌, ◌-◌, ◌/◌, ◌<◌, ◌==◌, ◌||◌, ◌↔◌, ◌∙◌, ◌∷◌, ◌≡◌}
pub use Rattle.std.proofs.Common.{◌≢◌, ◌≤◌, ◌⊎◌}
pub use Rattle.silt_cuckoo.proofs.Finding.{find_law}
pub use Rattle.silt_cuckoo.proofs.Indexing.{index_law, no_key}
pub use Rattle.silt_cuckoo.proofs.KeyIndex.{indexed_append, push_law, stays_none}
pub use Rattle.silt_cuckoo.proofs.Places.{holds_from_pair, pair_held, placed_below}
pub use Rattle.silt_cuckoo.specs.Index.{Indexes, IsNewest, index_of_keys, placed_or_replaced, slot_of_key}
pub use Rattle.silt_cuckoo.specs.Keys.{first_bucket, key_pair, second_bucket}
pub use Rattle.silt_cuckoo.specs.Lookup.{candidates_of}
pub use Rattle.silt_cuckoo.specs.Pairs.{TakesSlot, pair_of}
pub use Rattle.silt_cuckoo.specs.Slots.{Entry, IsBucketCount, IsTable, PlacesBelow, Slots, bucket_count, empty_slots, entry_at, place_at}
pub use Rattle.silt_cuckoo.specs.declared.lookup.Candidate.{Candidate}
pub use Rattle.silt_disk.specs.Disk.{ChangesWithin, Content, LiesOutside, Rests, size}
pub use Rattle.silt_disk.specs.Layout.{Shape, commits_at, device_size, is_bucket_count, log_len}
pub use Rattle.silt_frame.specs.Frame.{kind_byte, kind_of}
pub use Rattle.silt_frame.specs.Rows.{StoredRow, has_known_kind, keys_of, put_count, puts_of, stored_row}
pub use Rattle.silt_frame.specs.declared.key.Key.{Key}
pub use Rattle.silt_frame.specs.declared.key.Kind.{Kind}
pub use Rattle.silt_log.proofs.Elsewhere.{all_count, log_rows_elsewhere, outside_bodies, row_of_all, rows_elsewhere}
pub use Rattle.silt_log.proofs.Exits.{region_lies}
pub use Rattle.silt_log.specs.State.{InBounds, IsScanned, LogState, all_rows}
pub use Rattle.silt_log_store.specs.Growth.{AddsKey, IsKeyIndex, IsKeyIndexOf, IsOfRows}
pub use Rattle.silt_log_store.specs.LastRow.{FindsLast}
pub use Rattle.silt_log_store.specs.Lookup.{IsFirstMatch, candidate_of, has_candidate, kind_for, kind_with_key}
pub use Rattle.silt_log_store.specs.State.{IsFrozenStore, IsHeldStore, IsIndexed, IsLogStore, LogStoreState}
pub use Rattle.silt_log_store.specs.declared.placement.Placing.{Placing}
pub use Rattle.std.proofs.lemmas.Bool.{and_from, and_parts, cases_Bool, cases_eq, cond-false, cond-true, eqb-true, false≢true}
pub use Rattle.std.proofs.lemmas.Grind.{common_steps}
pub use Rattle.std.proofs.lemmas.List.{get_or-map, length-map, length-replicate, map-append, map_push, take_all}
pub use Rattle.std.proofs.lemmas.List.Folds.{list_all-append, list_all_at}
pub use Rattle.std.proofs.lemmas.Option.{get_or_from_slice_get, slice_get-get_or, slice_get_within}
pub use Rattle.std.proofs.lemmas.Result.{err_from_is_err_and}
pub use Rattle.std.specs.List.{All, AllWithin, Contains, enumerate_from, list_all, range_with_len}
pub use Rattle.std.specs.Option.{is_some, option_and_then}
pub use Rattle.std.specs.Str.{bytes_eq}
