-- The names of the crates below and of specs/ that several proofs cite, passed on from one place. Declares nothing.
pub use Rattle.std.proofs.Common.{All, Bool, Err, IsTrue, List, None, Ok, Option, Result, Some, [], ap, append_assoc, arith, cond, drop, false, flat_map, get_or, inl, inr, length, length-take-le}
pub use Rattle.std.proofs.Common.{map, refl, rules, slice_get, slice_index, slice_index_or, slice_range, subst, suc, sum_by, sym, take, take-add, true, vec_capacity, ℕ, ◌*◌, ◌++◌, ◌+◌, ◌-◌, ◌<◌}
pub use Rattle.std.proofs.Common.{◌==◌, ◌^◌, ◌∙◌, ◌∷◌, ◌≡◌, ◌≤◌}
pub use Rattle.silt_disk.specs.Disk.{ChangesWithin, Content, GaveAny, LeavesOnly, Makes, MakesAtMost, Rests, Settles, Stays, Tears, Torn, Writes, size, splice}
pub use Rattle.silt_disk.specs.Header.{header_bytes, header_of, is_formatted, shape_of}
pub use Rattle.silt_disk.specs.Layout.{InLimits, Shape, commits_at, device_size, hash_at, log_size, row_len, slot_at}
pub use Rattle.silt_event.proofs.Rows.{count_law}
pub use Rattle.silt_event.specs.Findings.{finding_if}
pub use Rattle.silt_event.specs.declared.damage.Finding.{Finding}
pub use Rattle.silt_event.specs.declared.place.Place.{Place}
pub use Rattle.silt_event.specs.declared.place.Place.TheVariants.{Charge, Hash, HashDigest, Log, Sorted, SortedDigest}
pub use Rattle.silt_frame.specs.Rows.{StoredRow, has_known_kind, keys_of, put_count}
pub use Rattle.silt_hash_store.specs.State.{HashState, IsHashStore}
pub use Rattle.silt_image.proofs.HeaderExits.{not_formatted, too_short}
pub use Rattle.silt_image.proofs.Search.{charge_found_law, first_entry_law, first_finding_law, first_slot_law, places_append}
pub use Rattle.silt_image.proofs.Verdict.{empty_law, no_stores_law, rows_law, sound_law, stands_law}
pub use Rattle.silt_image.specs.Laws.{FirstFinding, IsWhole}
pub use Rattle.silt_image.specs.Meaning.{AreDigestsOf, IsGood, IsSound, StandsFor, charge_of, digest_findings, entries_digest, image_verdict, layout_of, part_digest, rows_of, said_entry_findings}
pub use Rattle.silt_image.specs.Meaning.{said_hash, said_hash_findings, said_sorted, with_log_rows}
pub use Rattle.silt_image.specs.Stores.{Stores, damage_finding, image_digests, image_stores, shape_found, stores_of_current, stores_shaped}
pub use Rattle.silt_log.proofs.Elsewhere.{log_rows_elsewhere}
pub use Rattle.silt_log.proofs.Waiting.{none_waiting}
pub use Rattle.silt_log.specs.Parts.{Part, known_rows, log_part, oldest_first, part_rows}
pub use Rattle.silt_log.specs.Rows.{first_rows, log_rows, open_count}
pub use Rattle.silt_log.specs.State.{InBounds, LogState, all_rows, settled_rows, waiting_rows}
pub use Rattle.silt_log_store.specs.State.{LogStoreState}
pub use Rattle.silt_manifest.proofs.Laws.{closed_elsewhere, closed_shown, current_record_elsewhere, first_elsewhere}
pub use Rattle.silt_manifest.specs.Current.{is_slot_open, manifest_found, where_found}
pub use Rattle.silt_manifest.specs.Faults.{IsDamaged, IsNotRead}
pub use Rattle.silt_manifest.specs.Standing.{IsCurrent, IsCurrentIn, IsFirst, ManifestState, current_record, current_slot}
pub use Rattle.silt_manifest.specs.declared.body.Body.{Body}
pub use Rattle.silt_manifest.specs.declared.digests.Digests.{Digests}
pub use Rattle.silt_recovery.specs.Digests.{bytes_said}
pub use Rattle.silt_recovery.specs.Entries.{AreSoundEntries, HasFirstEntry}
pub use Rattle.silt_recovery.specs.Hashes.{AreReadHashes, AreSoundHashes, HasFirstInRegion, HasFirstSlot, IsReadHash, region_findings, region_puts, region_rows}
pub use Rattle.silt_recovery.specs.Logs.{AreReadLogs, AreSoundLogs, HasFirstFinding, IsReadLog, put_rows}
pub use Rattle.silt_recovery.specs.Opening.{CostsRefusal, CountsHashRows, Holds, IsReported, IsUnwritten, IsUnwrittenUnlessFailed, LeavesNoOther, TakesUp, held_stores}
pub use Rattle.silt_recovery.specs.Refusals.{IsFound, IsRefusedLook, refusal_of}
pub use Rattle.silt_recovery.specs.declared.fault.OpenError.{OpenError}
pub use Rattle.silt_sorted_store.specs.State.{HasDigest, IsHeldSorted, SortedState, sorted_rows}
pub use Rattle.silt_standing.specs.State.{AreWhole, EngineState, IsHashOf, IsMerging, IsSettled, IsUnderWay, hash_region_of, oldest_log, region_of, sorted_named}
pub use Rattle.std.proofs.lemmas.Grind.{flat_map-append}
pub use Rattle.std.proofs.lemmas.List.{append-nil, drop-drop, drop_more, get_or-map, get_or-take, length-map, map-append, take-append-drop, take_all, take_more}
pub use Rattle.std.proofs.lemmas.List.Elements.{All-cons, All-head, All-nil, All-push, All-tail, All-weaker}
pub use Rattle.std.proofs.lemmas.List.Sums.{sum_by-cons, sum_by_more, sum_by_push}
pub use Rattle.std.proofs.lemmas.Result.{err_from_is_err_and}
pub use Rattle.std.specs.List.{enumerate_from, list_all}
pub use Rattle.std.specs.Option.{IfSome, is_some}
