-- The names of the crates below and of specs/ that several proofs cite, passed on from one place. Declares nothing.
pub use Rattle.std.proofs.Common.{Bool, IfSome, IsTrue, List, None, Ok, Option, Some, [], ap, append-nil, append_assoc, arith, cond, drop, false, flat_map, get_or, inl, inr, length, length-append}
pub use Rattle.std.proofs.Common.{nat_lt, not, refl, slice_get, slice_range, subst, suc, sym, take, take-add, true, zero, ℕ, ◌&&◌, ◌*◌, ◌++◌, ◌+◌, ◌-◌, ◌/◌, ◌<◌, ◌∙◌, ◌∷◌, ◌≡◌, ◌≢◌, ◌≤◌}
pub use Rattle.sha1.specs.Sha1.{Holds, sha1}
pub use Rattle.silt_disk.proofs.Images.{splice_slice, torn_slice_after, torn_slice_before, within_wider, write_within}
pub use Rattle.silt_disk.proofs.Regions.{next_region, regions_apart}
pub use Rattle.silt_disk.specs.Disk.{ChangesWithin, Content, LiesOutside, Tears, Torn, Writes, size}
pub use Rattle.silt_disk.specs.Layout.{Shape, device_size, entries_len, entry_len, sorted_at}
pub use Rattle.silt_event.proofs.Findings.{nothing_both, nothing_first, nothing_second, nothing_where_passes, passes_where_nothing}
pub use Rattle.silt_frame.specs.Rows.{StoredRow, entries_bytes, entry_row, keys_of}
pub use Rattle.silt_frame.specs.declared.key.Key.{Key}
pub use Rattle.silt_log.proofs.Parts.{slice_of_slice, slice_to_end}
pub use Rattle.silt_sorted_store.specs.Index.{IndexedState, IsIndexOf, IsPlaceOfKey}
pub use Rattle.silt_sorted_store.specs.Indexing.{HoldsEntries, HoldsKeys, IsIndexing, IsKeyBefore, TakesKeys}
pub use Rattle.silt_sorted_store.specs.Laws.{DigestElsewhereLaw, EntriesBytesLaw, EntriesElsewhereLaw, EntriesLaw, IndexedElsewhereLaw, RisingLaw}
pub use Rattle.silt_sorted_store.specs.OnlyRow.{FindsEntry, HasEntry, HasKeyAndValue, HasNoEntry, HasOnlyValue, HasValue, IsOnlyRow}
pub use Rattle.silt_sorted_store.specs.State.{SortedState, entries_of, sorted_entry_at, sorted_rows}
pub use Rattle.std.proofs.Math.Nat.{add-mul, le-div_iff_mul-le, mul-le-mul_right}
pub use Rattle.std.proofs.lemmas.Bool.{cases_Bool, cases_eq, cases_lt, cases_order, le-ltb, lt-ltb}
pub use Rattle.std.proofs.lemmas.List.{get_or-map, length-drop, length-map, length-take-le, take-append-drop, take-append-le, take_all, take_more}
pub use Rattle.std.proofs.lemmas.List.FromFn.{get_or-map-range_with_len, length-map-range_with_len, map-range_with_len_more}
pub use Rattle.std.proofs.lemmas.Option.{get_or_from_slice_get, slice_get-get_or, slice_get_within}
