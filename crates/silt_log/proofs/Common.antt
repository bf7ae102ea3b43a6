-- The names of the crates below and of specs/ that several proofs cite, passed on from one place. Declares nothing.
pub use Rattle.std.proofs.Common.{Bool, Err, IsTrue, List, MatchResult, Ok, OnOk, Result, Some, [], ap, append_assoc, arith, below_more, cond, drop, drop-drop, drop_at, ext_get_or, false, get_or}
pub use Rattle.std.proofs.Common.{get_or-drop, inl, inr, is_ok, is_some, length, length-append, length-drop, length-take-le, map, option_map, refl, replicate, rules, slice_range, subst, suc, sym}
pub use Rattle.std.proofs.Common.{take, take_at, true, vec_len, zero, ℕ, ◌*◌, ◌++◌, ◌+◌, ◌-◌, ◌<◌, ◌∙◌, ◌∷◌, ◌≡◌, ◌≤◌, ◌⊎◌}
pub use Rattle.silt_disk.proofs.Images.{left_after_failed_sync, left_after_sync, left_at_rest, rests_leaves, shown_left, splice_byte, splice_slice, torn_refl, torn_slice_after, torn_slice_before}
pub use Rattle.silt_disk.proofs.Images.{torn_splice, within_leaves, within_wider}
pub use Rattle.silt_disk.proofs.Regions.{next_region, regions_apart, up_least}
pub use Rattle.silt_disk.proofs.Wrote.{sync_wrote, write_wrote, wrote_at, wrote_err, wrote_ok, wrote_then, wrote_wider}
pub use Rattle.silt_disk.specs.Disk.{ChangesWithin, Content, LeavesOnly, LiesOutside, Rests, Settles, Stays, Torn, Writes, size, splice}
pub use Rattle.silt_disk.specs.Layout.{Shape, bodies_at, commits_at, device_size, log_len, log_size, row_len}
pub use Rattle.silt_frame.specs.Commit.{is_open}
pub use Rattle.silt_frame.specs.Frame.{head_bytes, head_of, kind_byte, kind_of}
pub use Rattle.silt_frame.specs.Rows.{StoredRow, has_known_kind, row_of, stored_row}
pub use Rattle.silt_frame.specs.declared.key.Key.{Key}
pub use Rattle.silt_frame.specs.declared.key.Kind.{Kind}
pub use Rattle.silt_frame.specs.declared.key.Row.{Row}
pub use Rattle.silt_log.specs.Calls.{Appends, Empties, HasBeginning, KeepsRows, OpensCommits, OpensSome, Seals, SyncsAndTears}
pub use Rattle.silt_log.specs.Rows.{AreRows, CommitsAre, FirstUnknown, IsRow, body_at, body_row, commit_bytes, first_rows}
pub use Rattle.silt_log.specs.Scans.{IsScanRefused}
pub use Rattle.silt_log.specs.State.{InBounds, IsHeld, IsLog, IsScanned, LogState, all_rows, opened_image, settled_rows, waiting_rows}
pub use Rattle.silt_log.specs.declared.scan.ScanError.{ScanError}
pub use Rattle.std.proofs.lemmas.Bool.{cases_Bool, cases_lt, cases_order, cond-false, cond-true, eqb-true, false≢true}
pub use Rattle.std.proofs.lemmas.List.{append-nil, append_cancel_left, drop-take, get_or-replicate, length-replicate, length_push, map-id, map_push}
pub use Rattle.std.proofs.lemmas.List.Edits.{get_or-between, length-between}
pub use Rattle.std.proofs.lemmas.List.FromFn.{get_or-map-range_with_len, length-map-range_with_len, map-range_with_len_more, take-map-range_with_len}
pub use Rattle.std.proofs.lemmas.Result.{err_from_is_err_and}
pub use Rattle.std.specs.List.{list_any, prefix_len, range_with_len}
