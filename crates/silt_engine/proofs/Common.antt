-- What two files of proofs or more cite of other crates and of specs/, passed on from one place. Declares nothing.
pub use Rattle.std.proofs.Common.{Bool, Err, IfOk, IsTrue, List, None, Ok, Option, Result, Some, [], ap, append_assoc, arith, cond, drop, false, filter, find}
pub use Rattle.std.proofs.Common.{flat_map, get_or, if◌then◌else◌, inl, inr, length, map, nat_le, nat_lt, not, option_and_then, refl, replicate, reverse, rules}
pub use Rattle.std.proofs.Common.{slice_set, subst, suc, sym, take, true, zero, ℕ, ◌%◌, ◌&&◌, ◌*◌, ◌++◌, ◌+◌, ◌-◌, ◌<◌, ◌==◌, ◌^◌, ◌||◌, ◌∙◌, ◌∷◌, ◌≡◌, ◌≢◌}
pub use Rattle.std.proofs.Common.{◌≤◌, ◌⊎◌}
pub use Rattle.silt_conversion.proofs.Charging.{converted_charge}
pub use Rattle.silt_conversion.proofs.Writing.{all_charged, all_digested, all_due, store_stands}
pub use Rattle.silt_conversion.specs.Conversion.{ConversionState, FailsStep, HasWritten, IsDigestOf, Steps, converted_rows}
pub use Rattle.silt_conversion.specs.Laws.{IsTableOf}
pub use Rattle.silt_cuckoo.specs.Index.{index_of_keys}
pub use Rattle.silt_cuckoo.specs.Slots.{IsBucketCount, Slots}
pub use Rattle.silt_disk.proofs.Costs.{made_both, most_both, most_made, most_more, most_none, none_made}
pub use Rattle.silt_disk.proofs.Images.{failed_sync_within, left_after_failed_sync, left_after_sync, left_at_rest, shown_left, sync_within, torn_slice_before}
pub use Rattle.silt_disk.proofs.Images.{torn_splice, torn_trans, torn_wider, within_refl, within_trans, within_wider}
pub use Rattle.silt_disk.proofs.Regions.{next_region, regions_apart, up_least}
pub use Rattle.silt_disk.specs.Disk.{ChangesWithin, Content, CountsFault, GaveAny, LeavesOnly, Left, LiesOutside, Makes, MakesAtMost, Rests, Settles, Stays, Torn, size}
pub use Rattle.silt_disk.specs.Layout.{InLimits, Shape, device_size, entries_len, entry_len, commits_at, hash_at, hash_size, log_len, log_size, row_len, slot_at, slots_len, sorted_at, sorted_size}
pub use Rattle.silt_disk.specs.Wrote.{WroteOr}
pub use Rattle.silt_disk.specs.declared.disk.Disk.{Ghosts}
pub use Rattle.silt_engine.specs.Calls.{Advances, Breaks, BreaksOff, CannotTake, HoldsPrefix, HasNoFreeLog, MovesIntoBase, Remaps, ChangesOnlyActive, Works, WorksBy}
pub use Rattle.silt_engine.specs.Conversion.{AreAllHashesNamed, AreConverted, ConvertErrorCause, Converts, EndsConversion, Finishes, HasConvertedRows}
pub use Rattle.silt_engine.specs.Conversion.{IsLowestFreeHash, IsNextStep, MayReplace, ReplacesOldest, convert_turn, converted_body, is_work, oldest_replaced}
pub use Rattle.silt_engine.specs.Conversion.{oldest_rows, progress_due, store_of, written_by}
pub use Rattle.silt_engine.specs.Costs.{StepMakes, row_waits, step_syncs, step_writes, written_by_merge}
pub use Rattle.silt_engine.specs.Digests.{converted_digests, digest_of, digests_with, merged_digests, no_digest, own_digests, padded}
pub use Rattle.silt_engine.specs.Entries.{DoesRows, hashed_rows}
pub use Rattle.silt_engine.specs.Laws.{IsGoodWith, StandingLaw}
pub use Rattle.silt_engine.specs.Lookup.{AreEntriesOf, FindsFrozen, FindsHashed, FindsNewest, IsItsValue, changes_key, frozen_at, hash_rows_of, hash_store_at}
pub use Rattle.silt_engine.specs.Lookup.{is_of_key, is_waiting_row, row_in, value_found}
pub use Rattle.silt_engine.specs.Merge.{AreCompared, EndsMerge, EndsMerged, HasMergedEntries, IsDoneBySteps, IsNextMerge, MayLackMemory, MayStandFor}
pub use Rattle.silt_engine.specs.Merge.{MergeErrorCause, Merges, SealsMerge, charge_without, damaged_in, full_stores, merge_progress, merge_sources, merge_turn}
pub use Rattle.silt_engine.specs.Merge.{merged_body, place_read, puts_in, sorted_replaced}
pub use Rattle.silt_engine.specs.NextLog.{AreAllNamed, HasFrozen, IsEmptied, IsLowestFree, IsNextLog, active_replaced, empty_store, names_region, next_body}
pub use Rattle.silt_engine.specs.Replacements.{ConvertsLaw, HasOldest, MergesLaw, ReplacesLog, ReplacesStores, taken_rows, with_converted, with_merged}
pub use Rattle.silt_engine.specs.Succession.{BecomesCurrent, MayBecomeCurrent}
pub use Rattle.silt_engine.specs.declared.lookup.Holder.{Holder}
pub use Rattle.silt_engine.specs.declared.lookup.Holder.TheVariants.{Active, Frozen, Hashed}
pub use Rattle.silt_engine.specs.declared.merge.MergeError.TheVariants.{Damaged}
pub use Rattle.silt_engine.specs.declared.next_log.NextLog.{NextLog}
pub use Rattle.silt_event.proofs.Findings.{nothing_both, nothing_first}
pub use Rattle.silt_event.proofs.Rows.{count_law, map_after-append, map_law, newest_law, same_key}
pub use Rattle.silt_event.specs.Commands.{Command, Map, WaitsAlone, WaitsBehind, changed, delete, map_after, put}
pub use Rattle.silt_event.specs.Rows.{command_of, map_of_rows, newest_row, value_given}
pub use Rattle.silt_event.specs.declared.progress.Progress.{Progress}
pub use Rattle.silt_event.specs.declared.progress.Progress.TheVariants.{Finished, Idle, Moved, Waiting}
pub use Rattle.silt_frame.specs.Frame.{is_put, kind_byte, kind_of}
pub use Rattle.silt_frame.specs.Rows.{StoredRow, entry_row, has_known_kind, key_cmp, keys_of, put_count, puts_of, row_of, stored_row}
pub use Rattle.silt_frame.specs.declared.digest.Digest.{Digest}
pub use Rattle.silt_frame.specs.declared.key.Key.{Key}
pub use Rattle.silt_frame.specs.declared.key.Kind.{Kind}
pub use Rattle.silt_frame.specs.declared.key.Kind.TheVariants.{Delete, Put}
pub use Rattle.silt_hash_store.proofs.Elsewhere.{behind_logs, hash_elsewhere}
pub use Rattle.silt_hash_store.proofs.Slotting.{all_before, before_at, before_count, before_more, before_taken, before_there, unsound_twice}
pub use Rattle.silt_hash_store.specs.Findings.{hash_findings, holds_key}
pub use Rattle.silt_hash_store.specs.Lookup.{FindsRow, IsRowAt}
pub use Rattle.silt_hash_store.specs.Slots.{hash_part, hash_rows, hash_slot_at, is_row_of, rows_before, slot_row}
pub use Rattle.silt_hash_store.specs.State.{HashState, IsHashStore, IsHeldHash}
pub use Rattle.silt_image.proofs.Frame.{free_hash_law, free_sorted_law, freeze_law, log_region_law, manifest_law, names_regions, pieces_apart}
pub use Rattle.silt_image.proofs.Named.{apart_of, digests_law, stores_law, whole_law}
pub use Rattle.silt_image.proofs.Rows.{again_law, append_law, keeps_rows, new_active_law, new_log_law, own_rows_law, unnamed_law}
pub use Rattle.silt_image.proofs.Sound.{beginning_law, charge_law, finds_nothing, frozen_law, is_sound, parts_law, taken_law}
pub use Rattle.silt_image.proofs.Verdict.{rows_law, stands_law}
pub use Rattle.silt_image.specs.Laws.{FindsNothing, FreezesActive, IsWhole}
pub use Rattle.silt_image.specs.Meaning.{AreDigestsOf, HasActive, IsSound, StandsFor, charge_of, entries_digest, image_map, names_log, part_digest, rows_of, with_log_rows, with_part_rows}
pub use Rattle.silt_image.specs.Stores.{Stores, image_digests, image_stores, stores_named}
pub use Rattle.silt_log.proofs.Elsewhere.{all_are_settled_and_waiting, all_count, body_in_region, commits_in_region, log_elsewhere, log_rows_elsewhere, row_of_all}
pub use Rattle.silt_log.proofs.Exits.{log_inside}
pub use Rattle.silt_log.proofs.Waiting.{none_waiting, waiting_kept}
pub use Rattle.silt_log.specs.Calls.{HasBeginning, KeepsRows}
pub use Rattle.silt_log.specs.Found.{put_place}
pub use Rattle.silt_log.specs.Parts.{Part, known_rows, log_part, oldest_first, part_rows}
pub use Rattle.silt_log.specs.Rows.{IsRow, body_at, first_rows, log_rows, row_at}
pub use Rattle.silt_log.specs.State.{InBounds, LogState, all_rows, settled_rows, waiting_rows}
pub use Rattle.silt_log.specs.declared.found.Found.{Found}
pub use Rattle.silt_log_store.proofs.Buckets.{bucket_count_is}
pub use Rattle.silt_log_store.specs.Calls.{CanTake, EmptiesStore, FailsTake, IsFullFor, KeepsStore, OpensSomeOfStore, OpensStore, TakesRow}
pub use Rattle.silt_log_store.specs.Findings.{log_findings}
pub use Rattle.silt_log_store.specs.LastRow.{FindsLast, HasNoRow, IsLastRow}
pub use Rattle.silt_log_store.specs.State.{IsFrozenStore, IsIndexed, IsLogStore, LogStoreState}
pub use Rattle.silt_manifest.proofs.Laws.{current_record_elsewhere, other_regions}
pub use Rattle.silt_manifest.specs.Body.{all_below, has_sound_hashes, has_sound_logs, is_distinct, is_well_formed}
pub use Rattle.silt_manifest.specs.Current.{current_manifest, manifest_found, where_found}
pub use Rattle.silt_manifest.specs.Standing.{IsCurrent, IsNext, ManifestState, OldOrNewIsCurrent, RecordIsCurrent, current_record, current_slot, spare_slot}
pub use Rattle.silt_manifest.specs.declared.body.Body.{Body}
pub use Rattle.silt_manifest.specs.declared.digests.Digests.{Digests}
pub use Rattle.silt_manifest.specs.declared.slot.SlotRecord.{SlotRecord}
pub use Rattle.silt_merge.proofs.Elsewhere.{merged_elsewhere, oldest_stores_law}
pub use Rattle.silt_merge.specs.Comparing.{HasBytes, HasCompared, MatchesDigests}
pub use Rattle.silt_merge.specs.Merging.{AreSound, HasMerged, IsGatheredIn, IsMergeOf, IsMergedIn, IsSameMerge, Seals}
pub use Rattle.silt_merge.specs.Rows.{entries_in, key_count, merged_rows, regions_of, rows_of_hashes, sources}
pub use Rattle.silt_merge.specs.State.{IsHeldMerge, MergeState, is_done, oldest_stores, sorted_in, steps_for, steps_of}
pub use Rattle.silt_merge.specs.Steps.{FailsMerge, GoesOn, TakesMemory, TakesStep, damaged_place}
pub use Rattle.silt_sorted_store.proofs.Elsewhere.{digest_elsewhere, entry_bytes, entry_more, indexed_elsewhere}
pub use Rattle.silt_sorted_store.proofs.Entries.{entries_law, entry_count}
pub use Rattle.silt_sorted_store.specs.Findings.{sorted_findings}
pub use Rattle.silt_sorted_store.specs.Index.{IndexedState, IsIndexOf}
pub use Rattle.silt_sorted_store.specs.OnlyRow.{HasEntry, HasNoEntry, HasOnlyValue, IsOnlyRow}
pub use Rattle.silt_sorted_store.specs.State.{HasDigest, IsHeldSorted, SortedState, entries_of, sorted_rows}
pub use Rattle.silt_standing.proofs.Places.{entries_behind_log, log_ends_before}
pub use Rattle.silt_standing.specs.Standing.{HasGathered, IsDigested, IsFrozen, IsLocated, IsQuiet, SameDisk, ShowsStores, Stands, base_map, current_map, full_image, shown_stores, waiting_commands}
pub use Rattle.silt_standing.specs.State.{AreWhole, EngineState, IsHashOf, IsMerging, IsSettled, IsUnderWay, hash_region_of, names_hash, oldest_log, region_of, sorted_named}
pub use Rattle.silt_trie.specs.Marks.{MarkedCode}
pub use Rattle.std.proofs.Math.Dec.{eqb}
pub use Rattle.std.proofs.Math.Seq.{get_or-append_seam, set-append_seam, take-append_seam}
pub use Rattle.std.proofs.lemmas.Bool.{and_from, and_parts, cases_Bool, cases_eq, cases_lt, eq-eqb, eqb-false, eqb-true, le-leb, leb-true, lt-leb, lt-ltb}
pub use Rattle.std.proofs.lemmas.Bool.{ltb-false, ltb-true, ne_eqb, not-true, or_parts}
pub use Rattle.std.proofs.lemmas.Bool.Decides.{nat_tests}
pub use Rattle.std.proofs.lemmas.Cmp.{eq_by_cmp_equiv, nat_eq_equiv, nat_list_cmp_total}
pub use Rattle.std.proofs.lemmas.Grind.{flat_map-append}
pub use Rattle.std.proofs.lemmas.List.{append_cancel_right, drop-map, drop_more, get_or-append-add, get_or-append_right, get_or-map, get_or_append_left}
pub use Rattle.std.proofs.lemmas.List.{get_or_default, length-drop, length-map, length-replicate, length-take, map-append, map_more, reverse-append}
pub use Rattle.std.proofs.lemmas.List.{take-append-drop, take-append-le, take-map, take_all, take_more}
pub use Rattle.std.proofs.lemmas.List.Elements.{All-cons, All-drop, All-take, filter-append}
pub use Rattle.std.proofs.lemmas.List.Folds.{find-append, list_any_at, list_any_none}
pub use Rattle.std.proofs.lemmas.List.FromFn.{length-map-range_with_len, length-range_with_len}
pub use Rattle.std.proofs.lemmas.List.Sums.{sum_by-cons, sum_by_more}
pub use Rattle.std.proofs.lemmas.Option.{get_or_from_slice_get, same_Some, slice_get-get_or, slice_get_within}
pub use Rattle.std.proofs.lemmas.Slice.Eq.{bytes_eq-Decides}
pub use Rattle.std.specs.FinMap.{empty, get, get-empty, get-insert, get-remove}
pub use Rattle.std.specs.List.{AllByRecursion, insert, list_all, list_any, range_with_len}
pub use Rattle.std.specs.Option.{option_copied, option_map, option_or, option_to_list}
pub use Rattle.std.specs.Prelude.{All, Contains, IfErr, IfSome, IsSome, MatchResult, OnOk, ⊤}
pub use Rattle.std.specs.Str.{bytes_eq}
