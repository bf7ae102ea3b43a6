-- The names of the crates below and of specs/ that several proofs cite, passed on from one place. Declares nothing.
pub use Rattle.std.proofs.Common.{Bool, Err, IfErr, IfOk, IsTrue, List, None, Ok, OnOk, Option, Result, Some, [], ap, append-nil, append_assoc, arith, drop, eqb, false, filter, flat_map}
pub use Rattle.std.proofs.Common.{get_or, get_or-set_other, get_or-set_same, inl, inr, length, length-append, map, refl, replicate, rules, slice_get, slice_range, slice_set, subst, suc, sym}
pub use Rattle.std.proofs.Common.{take, true, zero, ℕ, ◌*◌, ◌++◌, ◌+◌, ◌-◌, ◌<◌, ◌==◌, ◌||◌, ◌∙◌, ◌∷◌, ◌≡◌, ◌≢◌, ◌≤◌}
pub use Rattle.sha1.specs.Sha1.{Holds, sha1}
pub use Rattle.silt_cuckoo.specs.Keys.{first_bucket, second_bucket}
pub use Rattle.silt_disk.specs.Disk.{Content, LiesOutside, Torn, Writes, size}
pub use Rattle.silt_disk.specs.Layout.{Shape, commits_at, device_size, hash_at, log_len, row_len, slots_len}
pub use Rattle.silt_frame.specs.Frame.{kind_byte, kind_of}
pub use Rattle.silt_frame.specs.Rows.{StoredRow, has_known_kind, row_bytes, row_of, rows_bytes}
pub use Rattle.silt_frame.specs.declared.key.Kind.{Kind}
pub use Rattle.silt_hash_store.specs.Laws.{HashBytesLaw, HashElsewhereLaw}
pub use Rattle.silt_hash_store.specs.Lookup.{FindsIn, FindsRow, MatchesKey, MatchesTag}
pub use Rattle.silt_hash_store.specs.Rebuild.{AddsSound, HasHead, IsFed, IsFirstUnsound, IsGrown, IsRebuiltHash, TagsKey, TakesAdded}
pub use Rattle.silt_hash_store.specs.Slots.{HeadSays, HoldsSlots, bucket_has_tag, has_tag_of, hash_part, hash_rows, hash_slot_at, is_row_of, is_sound_slot, is_tag, rows_before, slot_row, slot_tag}
pub use Rattle.silt_hash_store.specs.Slots.{tag_of, tag_seen}
pub use Rattle.silt_hash_store.specs.State.{HashState, IsHashStore, IsHeldHash, IsTagged}
pub use Rattle.silt_hash_store.specs.declared.rebuild.Rebuilt.{Rebuilt}
pub use Rattle.silt_hash_store.specs.declared.region.Head.{Head}
pub use Rattle.silt_log.proofs.Bodies.{body_before, map_range_same}
pub use Rattle.silt_log.specs.Scans.{IsScanRefused}
pub use Rattle.silt_log.specs.declared.found.Found.{Found}
pub use Rattle.silt_log.specs.declared.scan.ScanError.{ScanError}
pub use Rattle.silt_log.specs.declared.scan.ScanError.TheVariants.{Damaged, Device, NoMemory}
pub use Rattle.std.proofs.Math.Nat.{add-mul, mul-le-mul_right}
pub use Rattle.std.proofs.lemmas.Bool.{and_from, cases_eq, cases_lt, cond-false, cond-true, eq-eqb, eqb-true, ne_eqb}
pub use Rattle.std.proofs.lemmas.List.{get_or-map, get_or_past, length-map, map-set, take_all}
pub use Rattle.std.proofs.lemmas.List.Edits.{get_or-between, length-between}
pub use Rattle.std.proofs.lemmas.List.Elements.{All-from_get_or, filter-append}
pub use Rattle.std.proofs.lemmas.List.Folds.{list_any_at, list_any_none}
pub use Rattle.std.proofs.lemmas.List.FromFn.{get_or-map-range_with_len, get_or-range_with_len, length-map-range_with_len, map-range_with_len_more, take-map-range_with_len}
pub use Rattle.std.proofs.lemmas.Option.{get_or_from_slice_get, slice_get-get_or, slice_get_within}
pub use Rattle.std.proofs.lemmas.Result.{err_from_is_err_and}
pub use Rattle.std.proofs.lemmas.Slice.Eq.{bytes_eq-Decides}
pub use Rattle.std.specs.List.{enumerate_from, range_with_len}
pub use Rattle.std.specs.Option.{is_some}
