-- The names of the crates below and of specs/ that several proofs cite, passed on from one place. Declares nothing.
pub use Rattle.std.proofs.Common.{All, BTreeMap, Bool, Equal, Err, Greater, IfSome, IsSomeAnd, IsTrue, Less, List, None, Ok, OnOk, Option, Ordering, Result, Some, T, [], ap, append-nil}
pub use Rattle.std.proofs.Common.{append_assoc, arith, bytes_eq, cond, drop, eqb, false, filter, find, flat_map, get_or, inl, inr, is_lt, is_some, length, length-append}
pub use Rattle.std.proofs.Common.{length-take-le, lt-ltb, map, min, nat_cmp, nat_le, nat_lt, not, option_and_then, option_map, refl, reverse, rules, slice_get, slice_range, subst, suc, sum_by}
pub use Rattle.std.proofs.Common.{sym, take, take_all, take_at, true, zero, ℕ, ◌&&◌, ◌*◌, ◌++◌, ◌+◌, ◌-◌, ◌<◌, ◌==◌, ◌||◌, ◌∙◌, ◌∷◌, ◌≡◌, ◌≢◌, ◌≤◌, ◌⊎◌}
pub use Rattle.sha1.specs.Sha1.{Holds, sha1}
pub use Rattle.sha1.specs.declared.Sha1.{Sha1}
pub use Rattle.silt_disk.proofs.Costs.{most_more, most_none}
pub use Rattle.silt_disk.proofs.Regions.{next_region, regions_apart, up_least}
pub use Rattle.silt_disk.specs.Disk.{ChangesWithin, Content, CountsFault, LiesOutside, Makes, MakesAtMost, Torn, size}
pub use Rattle.silt_disk.specs.Layout.{Shape, device_size, entries_len, entry_len, hash_at, row_len, slots_len, sorted_at, sorted_size}
pub use Rattle.silt_disk.specs.declared.disk.Disk.{Ghosts}
pub use Rattle.silt_event.proofs.Rows.{newest_law}
pub use Rattle.silt_event.specs.Rows.{map_of_rows, newest_row, value_given}
pub use Rattle.silt_event.specs.declared.place.Place.{Place}
pub use Rattle.silt_event.specs.declared.place.Place.TheVariants.{HashDigest, SortedDigest}
pub use Rattle.silt_frame.specs.Frame.{is_put, kind_byte}
pub use Rattle.silt_frame.specs.Rows.{StoredRow, entries_bytes, entry_row, has_known_kind, is_put_row, key_cmp, keys_of, put_count, row_of, rows_bytes}
pub use Rattle.silt_frame.specs.declared.key.Key.{Key}
pub use Rattle.silt_frame.specs.declared.key.Row.{Row}
pub use Rattle.silt_hash_store.proofs.Slotting.{all_before, before_more, before_taken, sound_parts}
pub use Rattle.silt_hash_store.specs.Findings.{hash_findings, holds_key}
pub use Rattle.silt_hash_store.specs.Lookup.{IsRowAt}
pub use Rattle.silt_hash_store.specs.Slots.{HoldsSlots, hash_part, hash_rows, rows_before, slot_row}
pub use Rattle.silt_hash_store.specs.State.{HashState, IsHashStore}
pub use Rattle.silt_hasher.specs.Taking.{HasTaken, Taken}
pub use Rattle.silt_merge.specs.Choice.{Gathers, IsFirstWaiting, IsNextEntry, IsOffered, ReadsRow, choice_of, choice_puts, lower_choice, own_source}
pub use Rattle.silt_merge.specs.Comparing.{HasCompared, MatchesDigests, MayTake}
pub use Rattle.silt_merge.specs.Laws.{KeyCountLaw, MergedCountLaw, MergedElsewhereLaw, MergedLaw, OldestStoresLaw, SoundStoresLaw}
pub use Rattle.silt_merge.specs.Merging.{AreSound, HasMerged, IsGatheredIn, IsMergeOf, IsMergedIn, IsSameMerge, Seals, decided_rows, gathered_rows, source_row}
pub use Rattle.silt_merge.specs.Pieces.{AreEntries, AreSlots, PieceState, parts_after, parts_from}
pub use Rattle.silt_merge.specs.Rows.{entries_in, has_row_with, key_count, newest_rows, regions_of, rows_of_hashes, sources, with_older}
pub use Rattle.silt_merge.specs.State.{IsHeldMerge, IsInside, LastRises, MergeState, ahead_without, ends_entries, ends_store, finding, hashed_after, input_after, is_behind, is_done, keys_after}
pub use Rattle.silt_merge.specs.State.{oldest_stores, passed_after, slot_after, sorted_in, source_at, steps_for, steps_of, written_after}
pub use Rattle.silt_merge.specs.Steps.{FailsMerge, Finds, GathersRow, TakesMemory, TakesStep, damaged_place}
pub use Rattle.silt_merge.specs.declared.choice.Choice.{Choice}
pub use Rattle.silt_merge.specs.declared.merge.StepError.TheVariants.{Damaged, NoMemory, Read, Write}
pub use Rattle.silt_merge.specs.declared.source.Source.{Source}
pub use Rattle.silt_sorted_store.proofs.Digested.{bytes_more}
pub use Rattle.silt_sorted_store.proofs.Entries.{entry_count, key_of_row, part_inside, row_inside}
pub use Rattle.silt_sorted_store.proofs.Rising.{key_at, lower_below, not_below_itself}
pub use Rattle.silt_sorted_store.specs.Indexing.{HoldsEntries}
pub use Rattle.silt_sorted_store.specs.Region.{due_rows, is_written}
pub use Rattle.silt_sorted_store.specs.State.{IsHeldSorted, SortedState, entries_of, sorted_entry_at, sorted_rows}
pub use Rattle.silt_trie.specs.Building.{BuilderState, Building, EndWith, IsBuildingOf, IsTrieOf, is_above}
pub use Rattle.std.proofs.Math.Seq.{drop-append-add, take-append_seam}
pub use Rattle.std.proofs.lemmas.Bool.{and_from, and_parts, cases_Bool, cases_eq, cases_lt, cases_order, cond-false, cond-true, eq-eqb, eqb-true, le-ltb, leb-true, ltb-false, ltb-true}
pub use Rattle.std.proofs.lemmas.List.{drop_at, get_or-map, length-map, map-append, reverse-append, take-append-le, take-map, take_more}
pub use Rattle.std.proofs.lemmas.List.Elements.{filter-append}
pub use Rattle.std.proofs.lemmas.List.Folds.{find-append, list_any-append}
pub use Rattle.std.proofs.lemmas.List.Sums.{sum_by-cons, sum_by_more}
pub use Rattle.std.proofs.lemmas.Map.Lookups.{exact_bytes}
pub use Rattle.std.proofs.lemmas.Map.Text.{is_eq-slice_cmp}
pub use Rattle.std.proofs.lemmas.Option.{get_or_from_slice_get, slice_get_within}
pub use Rattle.std.proofs.lemmas.Result.{MatchResult-from_err}
pub use Rattle.std.specs.Cmp.Lexicographic.{slice_cmp}
pub use Rattle.std.specs.Option.{option_or}
pub use Rattle.std.specs.Ordering.{eq_by_cmp, is_eq, is_gt, match_ordering, ordering_reverse}
