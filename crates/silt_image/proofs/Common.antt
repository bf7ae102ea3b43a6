-- The names of the crates below and of specs/ that several proofs cite, passed on from one place. Declares nothing.
pub use Rattle.std.proofs.Common.{Bool, Contains, Err, IsSome, IsTrue, List, None, Ok, Option, Result, Some, [], ap, append-nil, append_assoc, arith, drop, false, flat_map, get_or, if◌then◌else◌}
pub use Rattle.std.proofs.Common.{inl, inr, is_some, length, map, nat_le, nat_lt, not, refl, rules, slice_get, slice_range, subst, suc, sym, take, take-append-drop, true, zero, ℕ, ◌%◌, ◌&&◌, ◌*◌}
pub use Rattle.std.proofs.Common.{◌++◌, ◌+◌, ◌-◌, ◌<◌, ◌==◌, ◌^◌, ◌||◌, ◌↔◌, ◌∙◌, ◌∷◌, ◌≡◌, ◌≢◌, ◌≤◌, ◌⊎◌}
pub use Rattle.byteorder.specs.Endian.{big_bytes, big_number}
pub use Rattle.silt_disk.proofs.Regions.{bucket_count_most, next_region, up_least}
pub use Rattle.silt_disk.specs.Header.{FitsHeader, IsHeader, header_bytes, header_of, header_shape, is_formatted, is_in_limits, magic, version_of}
pub use Rattle.silt_disk.specs.Layout.{InLimits, Shape, bodies_at, commits_at, device_size, entry_len, hash_at, hash_size, log_size, row_len, slot_at, sorted_at, sorted_size}
pub use Rattle.silt_event.specs.Findings.{finding_if}
pub use Rattle.silt_event.specs.Rows.{map_of_rows, newest_row}
pub use Rattle.silt_event.specs.declared.damage.Finding.{Finding}
pub use Rattle.silt_event.specs.declared.damage.Finding.TheVariants.{Crowded, Damaged, NotFormatted}
pub use Rattle.silt_event.specs.declared.place.Place.{Place}
pub use Rattle.silt_event.specs.declared.place.Place.TheVariants.{Charge, Hash, HashDigest, Header, Length, Log, Slot, Sorted}
pub use Rattle.silt_frame.specs.Rows.{StoredRow, entry_row, has_known_kind, keys_of, put_count, row_of}
pub use Rattle.silt_hash_store.specs.Findings.{hash_findings, slot_findings}
pub use Rattle.silt_image.specs.Stores.{Stores, digests_found, image_digests, shape_found, stores_of_current, stores_shaped}
pub use Rattle.silt_log.specs.Parts.{Part, known_rows, log_part, oldest_first, part_rows}
pub use Rattle.silt_log_store.proofs.Findings.{AreFine, fine_front, fine_of, fits_none, fits_take, of_fine}
pub use Rattle.silt_manifest.specs.Body.{all_below, first_body, is_well_formed}
pub use Rattle.silt_manifest.specs.declared.body.Body.{Body}
pub use Rattle.silt_manifest.specs.declared.digests.Digests.{Digests}
pub use Rattle.silt_manifest.specs.declared.slot.Damage.{Damage}
pub use Rattle.silt_manifest.specs.declared.slot.SlotRecord.{SlotRecord}
pub use Rattle.std.proofs.lemmas.Bool.{and_from, and_parts, and_right, cases_Bool, cases_eq, cases_order, eq-eqb, eqb-false, eqb-true, false_from_ne_true, le-leb, le-ltb, leb-true, lt-leb, lt-ltb}
pub use Rattle.std.proofs.lemmas.Bool.{ltb-false, ltb-true, ne_eqb, not-true, or_parts}
pub use Rattle.std.proofs.lemmas.List.{ext_get_or, take-take}
pub use Rattle.std.proofs.lemmas.List.Edits.{get_or-between, length-between}
pub use Rattle.std.proofs.lemmas.Slice.Eq.{bytes_eq-Decides}
pub use Rattle.std.specs.List.{enumerate_from, list_all, list_any, prefix_len, range_with_len}
