-- What two files of proofs or more cite of other crates and of specs/, passed on from one place. Declares nothing.
pub use Rattle.std.proofs.Common.{Bool, Err, IfSome, IsSomeAnd, IsTrue, List, None, Ok, Option, Result, Some, Vec, [], ap, append_assoc, arith, cond, drop, false, filter, flat_map, get_or}
pub use Rattle.std.proofs.Common.{if◌then◌else◌, inl, inr, length, length-append, map, nat_lt, not, refl, replicate, rules, slice_get, slice_index_or, subst, suc, suc-mul, sym, take, true}
pub use Rattle.std.proofs.Common.{vec_len, zero, ℕ, ◌*◌, ◌++◌, ◌+◌, ◌-◌, ◌/◌, ◌<◌, ◌==◌, ◌^◌, ◌||◌, ◌↔◌, ◌∙◌, ◌∷◌, ◌≡◌, ◌≢◌, ◌≤◌, ◌⊎◌}
pub use Rattle.silt_disk.proofs.Costs.{made_both, most_more, most_none, none_made}
pub use Rattle.silt_disk.specs.Disk.{Content, GaveAny, LeavesOnly, Left, Makes, MakesAtMost, Restarts}
pub use Rattle.silt_disk.specs.Layout.{InLimits, Shape, device_size}
pub use Rattle.silt_disk.specs.declared.disk.Disk.{Ghosts}
pub use Rattle.silt_engine.proofs.Meaning.{meaning}
pub use Rattle.silt_engine.proofs.MergeDone.{full_is, sorted_shape, sources_full, taken_sound}
pub use Rattle.silt_engine.specs.Calls.{BreaksOff, CannotTake, ChangesOnlyActive, HoldsPrefix, IsLastGeneration, WorksBy}
pub use Rattle.silt_engine.specs.Conversion.{AreConverted, ConvertErrorCause, Converts, Finishes, HasConvertedRows, IsNextStep, MovesOn, convert_turn, is_work, oldest_rows, progress_due}
pub use Rattle.silt_engine.specs.Conversion.{written_by}
pub use Rattle.silt_engine.specs.Costs.{row_waits, step_syncs, step_writes}
pub use Rattle.silt_engine.specs.Merge.{EndsMerged, HasMergedEntries, IsDoneBySteps, IsNextMerge, MayLackMemory, MergeErrorCause, Merges, MergesOn, WorksOfMerge, damaged_in, full_stores}
pub use Rattle.silt_engine.specs.Merge.{merge_progress, merge_sources, merge_turn, merged_body, place_read}
pub use Rattle.silt_event.specs.Commands.{Command, Map, changed, map_after}
pub use Rattle.silt_event.specs.Events.{Counts, FailsAfterFault, HasValueOf, IsOpeningRefusal, Legal, LifeHistory, LivesHistory, Step, accepted_command, accepted_commands, acknowledged_after}
pub use Rattle.silt_event.specs.Events.{acknowledged_by, is_failed, is_fault}
pub use Rattle.silt_event.specs.Rows.{command_of, map_of_rows, newest_row}
pub use Rattle.silt_event.specs.declared.event.Event.{Event}
pub use Rattle.silt_event.specs.declared.event.Event.TheVariants.{Convert, Delete, Flush, Get, Merge, Put, Swap}
pub use Rattle.silt_event.specs.declared.place.Place.{Place}
pub use Rattle.silt_event.specs.declared.progress.Progress.TheVariants.{Finished, Idle, Moved, Waiting}
pub use Rattle.silt_event.specs.declared.refusal.Refusal.{Refusal}
pub use Rattle.silt_event.specs.declared.refusal.Refusal.TheVariants.{BadGeometry, Crowded, Damaged, Device, Failed, NoMemory, NoRoom, NotFormatted, Spent}
pub use Rattle.silt_event.specs.declared.reply.LifeReply.{LifeReply}
pub use Rattle.silt_event.specs.declared.reply.LifeReply.TheVariants.{NotOpened, Opened}
pub use Rattle.silt_event.specs.declared.reply.Reply.{Reply}
pub use Rattle.silt_event.specs.declared.reply.Reply.TheVariants.{Absent, Accepted, Acknowledged, Differs, Found, Progress, Refused}
pub use Rattle.silt_frame.specs.Rows.{StoredRow, has_known_kind, is_put_row, stored_row}
pub use Rattle.silt_frame.specs.declared.key.Key.{Key}
pub use Rattle.silt_hash_store.specs.Slots.{hash_part, hash_rows, rows_before, slot_row}
pub use Rattle.silt_image.specs.Meaning.{AreDigestsOf, IsGood, StandsFor, image_map, rows_of}
pub use Rattle.silt_log.specs.State.{InBounds, LogState, all_rows, waiting_rows}
pub use Rattle.silt_manifest.specs.declared.body.Body.{Body}
pub use Rattle.silt_merge.specs.Rows.{key_count, merged_rows, newest_rows, regions_of, rows_of_hashes, sources}
pub use Rattle.silt_merge.specs.State.{IsHeldMerge, MergeState, is_done, oldest_stores, source_at, steps_of}
pub use Rattle.silt_merge.specs.Steps.{GathersRow, TakesKey, TakesMemory}
pub use Rattle.silt_recovery.specs.Opening.{LeavesNoOther, TakesUp, held_stores}
pub use Rattle.silt_standing.specs.Standing.{HasGathered, IsQuiet, SameDisk, ShowsStores, Stands, base_map, current_map, full_image, shown_stores, waiting_commands}
pub use Rattle.silt_standing.specs.State.{AreWhole, EngineState, IsMerging, hash_region_of, region_of}
pub use Rattle.silt_store_set.specs.Basis.{BasisState, basis_kept, basis_of}
pub use Rattle.silt_store_set.specs.CoreInvariant.{IsCore, IsSafe}
pub use Rattle.silt_store_set.specs.CoreState.{AreAllInUse, Cause, ConvertGoesOn, ConvertWork, ConvertsTo, CoreState, DecidesValue, Does, Durable, FailsBy, Freezes, GathersNewKey, GathersNext}
pub use Rattle.silt_store_set.specs.CoreState.{HasFreeLog, HasMade, HasNewKey, IsMergeDue, IsRefusedRead, IsStuck, IsWithinSteps, MadeFor, MakesRow, MayFind, MayWrite, MergeGoesOn}
pub use Rattle.silt_store_set.specs.CoreState.{MergeLacksMemory, NoRowCause, Opens, Runs, StandsKept, Takes, WritesRow, awaits_region, convert_due, convert_work, entries_written, found_damaged}
pub use Rattle.silt_store_set.specs.CoreState.{has_decided, is_convert, is_finished, is_merge, is_refused, map_of, may_merge, merge_due, merge_work, most_syncs, most_writes, place_due, row_event}
pub use Rattle.silt_store_set.specs.CoreState.{some_wait, wants_merge, written_of}
pub use Rattle.silt_store_set.specs.Living.{LifeEnds, LifeRun, LivesRun, StartsFrom}
pub use Rattle.silt_store_set.specs.Opening.{OpeningCause}
pub use Rattle.std.proofs.lemmas.Bool.{cases_lt, le-leb, lt-leb}
pub use Rattle.std.proofs.lemmas.Bool.Decides.{Decides-eqb}
pub use Rattle.std.proofs.lemmas.List.{drop-map, length-map, length-replicate, take-append-drop, take-replicate, take_all, take_more}
pub use Rattle.std.specs.FinMap.{get}
pub use Rattle.std.specs.Option.{option_map, option_or}
pub use Rattle.std.specs.Prelude.{is_some, nat_le, vec_capacity, ◌&&◌}
pub use Rattle.std.specs.declared.alloc.Global.{Global}
