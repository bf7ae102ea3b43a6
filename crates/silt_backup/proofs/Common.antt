-- The names of the crates below and of specs/ that several proofs cite, passed on from one place. Declares nothing.
pub use Rattle.std.proofs.Common.{Bool, Contains, Err, IfOk, IsTrue, List, Ok, Result, Some, [], ap, arith, bytes_eq, drop, drop-drop, false, flat_map, get_or, inl, inr, length, length-append}
pub use Rattle.std.proofs.Common.{length-take, map, nat_eq, option_map, refl, replicate, rules, slice_get, slice_index_or, slice_range, subst, suc, sym, take, take-append-drop, take-take, true}
pub use Rattle.std.proofs.Common.{zero, ℕ, ◌%◌, ◌&&◌, ◌*◌, ◌++◌, ◌+◌, ◌-◌, ◌<◌, ◌==◌, ◌∙◌, ◌∷◌, ◌≡◌, ◌≤◌, ◌⊎◌}
pub use Rattle.sha1.specs.Sha1.{sha1}
pub use Rattle.silt_backup.specs.Backups.{AreLogs, BackupLaw, Collision, HasDigests, IsBackup, IsOfMoment}
pub use Rattle.silt_disk.specs.Disk.{Content, Shows, size}
pub use Rattle.silt_disk.specs.Layout.{Shape, bodies_at, commits_at, device_size, entry_len, hash_at, hash_size, log_size, row_len, sorted_at, sorted_size}
pub use Rattle.silt_frame.specs.Rows.{StoredRow, entries_bytes, entry_row, put_bytes, row_bytes, row_of, rows_bytes}
pub use Rattle.silt_hash_store.specs.State.{HashState, IsHashStore}
pub use Rattle.silt_log.specs.Parts.{Part, known_rows, log_part, oldest_first, part_rows}
pub use Rattle.silt_manifest.specs.declared.body.Body.{Body}
pub use Rattle.silt_manifest.specs.declared.digests.Digests.{Digests}
pub use Rattle.silt_sorted_store.specs.State.{SortedState, entries_of, sorted_rows}
pub use Rattle.std.proofs.Math.Seq.{drop-append_seam, take-append_seam}
pub use Rattle.std.proofs.lemmas.Bool.{and_parts, cases_Bool, cases_order, eqb-true}
pub use Rattle.std.proofs.lemmas.Bool.Decides.{Decides-eqb, not_from_Decides}
pub use Rattle.std.proofs.lemmas.List.{drop-take, get_or_read}
pub use Rattle.std.proofs.lemmas.Slice.Eq.{bytes_eq-Decides, slice_eq-Decides}
