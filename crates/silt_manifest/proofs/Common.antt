-- The names of the crates below and of specs/ that several proofs cite, passed on from one place. Declares nothing.
pub use Rattle.std.proofs.Common.{Bool, Err, IfErr, IfOk, IsTrue, List, None, Ok, Option, Some, [], ap, append-nil, append_assoc, arith, drop_at, false, get_or, if◌then◌else◌, inl, inr, is_some}
pub use Rattle.std.proofs.Common.{length, length-append, map, nat_le, nat_lt, not, ok_or, refl, replicate, rules, slice_index, slice_range, subst, suc, sym, take, take_at, true, zero, ℕ, ◌%◌, ◌*◌}
pub use Rattle.std.proofs.Common.{◌++◌, ◌+◌, ◌-◌, ◌<◌, ◌^◌, ◌∙◌, ◌∷◌, ◌≡◌, ◌≤◌, ◌⊎◌}
pub use Rattle.byteorder.specs.Endian.{big_bytes}
pub use Rattle.silt_disk.proofs.Wrote.{wrote_at, wrote_err, wrote_ok, wrote_then, wrote_wider}
pub use Rattle.silt_disk.specs.Disk.{ChangesWithin, Content, GaveAny, LeavesOnly, LiesOutside, Rests, Shows, Torn, Writes, size, splice}
pub use Rattle.silt_disk.specs.Header.{header_of, version_of}
pub use Rattle.silt_disk.specs.Layout.{InLimits, Shape, slot_at}
pub use Rattle.silt_disk.specs.Numbers.{number_at}
pub use Rattle.silt_disk.specs.declared.header.Version.{Version}
pub use Rattle.silt_frame.specs.Commit.{is_open}
pub use Rattle.silt_frame.specs.declared.digest.Digest.{Digest}
pub use Rattle.silt_manifest.specs.Body.{BodyLaw, FitsSlot, all_below, body_bytes, body_of, first_body, is_well_formed, long_bit}
pub use Rattle.silt_manifest.specs.Current.{ClosedSlotLaw, HasSlot, OtherRecordsLaw, OtherRegionsLaw, current_manifest, has_due_digests, is_slot_open, is_sound_record, manifest_found, open_record}
pub use Rattle.silt_manifest.specs.Current.{record_behind, slot_of, where_found}
pub use Rattle.silt_manifest.specs.Digests.{FitsDigests, RecordLaw, digest_at, digest_bytes, digests_bytes, digests_of, is_long, long_record, record_bytes, record_of}
pub use Rattle.silt_manifest.specs.Numbers.{id_bytes, ids_at, ids_bytes}
pub use Rattle.silt_manifest.specs.Standing.{FirstIsCurrentLaw, IsCurrent, IsCurrentIn, IsFirst, IsNext, IsPrepared, IsReady, ManifestState, OldOrNewIsCurrent, RecordIsCurrent, WritesNext}
pub use Rattle.silt_manifest.specs.Standing.{closing_place, current_record, current_slot, manifest_of, spare_slot, with_current}
pub use Rattle.silt_manifest.specs.declared.body.Body.{Body}
pub use Rattle.silt_manifest.specs.declared.digests.Digests.{Digests}
pub use Rattle.silt_manifest.specs.declared.slot.Damage.TheVariants.{NoSlot, Slot}
pub use Rattle.silt_manifest.specs.declared.slot.SlotRecord.{SlotRecord}
pub use Rattle.std.proofs.lemmas.Bool.{and_parts, cases_Bool, cases_eq, eqb-true, leb-true, ltb-true}
pub use Rattle.std.proofs.lemmas.Bool.Decides.{nat_tests}
pub use Rattle.std.proofs.lemmas.List.{drop_more, flat_map_more, get_or-set_other, get_or_default, length-replicate, length-set, take_all, take_more, take_more_set}
pub use Rattle.std.proofs.lemmas.List.FromFn.{length-map-range_with_len, map-range_with_len_more}
pub use Rattle.std.specs.List.{list_all, range_with_len}
