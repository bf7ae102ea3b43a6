-- The names of the crates below and of specs/ that several proofs cite, passed on from one place. Declares nothing.
pub use Rattle.std.proofs.Common.{Bool, IfSome, IsSome, IsTrue, List, None, Ok, Option, Some, [], ap, append_assoc, arith, cond, drop, false, filter, get_or, if◌then◌else◌, inl, inr, length}
pub use Rattle.std.proofs.Common.{length-drop, map, nat_lt, option_and_then, refl, subst, sym, take, true, vec_len, ℕ, ◌*◌, ◌++◌, ◌+◌, ◌-◌, ◌<◌, ◌==◌, ◌↔◌, ◌∙◌, ◌∷◌, ◌≡◌, ◌≢◌, ◌≤◌, ◌⊎◌}
pub use Rattle.silt_disk.specs.Disk.{Content, GaveAny}
pub use Rattle.silt_disk.specs.Layout.{Shape, entry_len, row_len}
pub use Rattle.silt_dump.specs.Order.{AreAllAbove, AreFirstEntries, AreOfMap, AreOrderedTo, HasNext, IsAbove, IsBelow, IsNextEntry, IsTakenOut, NoneAbove, NoneBetween, TakesLowest, value_at}
pub use Rattle.silt_dump.specs.Pieces.{CanGoOn, EndsEarly, HoldsPiece, IsAtPlace, IsPieceOf, bytes_at, key_at}
pub use Rattle.silt_dump.specs.Spots.{AreSpotsOf, IsSpotOf, NotesRows, Overlays, log_at, logged_rows, logs_of, row_of_log, spot_value, value_over}
pub use Rattle.silt_dump.specs.Stream.{GoesTo, Leaves, PassesNext, PassesTo, Streams, sorted_of, steps_left, stores_of, value_len_of}
pub use Rattle.silt_dump.specs.declared.piece.Piece.{Piece}
pub use Rattle.silt_dump.specs.declared.spot.Spot.{Spot}
pub use Rattle.silt_dump.specs.declared.stream.EntryStream.{EntryStream}
pub use Rattle.silt_engine.proofs.Lookups.{current_is, known_in, newest_last, newest_none, rows_in}
pub use Rattle.silt_engine.specs.Entries.{hashed_rows}
pub use Rattle.silt_engine.specs.Lookup.{hash_store_at}
pub use Rattle.silt_event.proofs.Rows.{changed_get, map_after-append, map_law, newest_law}
pub use Rattle.silt_event.specs.Commands.{Map, map_after}
pub use Rattle.silt_event.specs.Rows.{command_of, map_of_rows, value_given}
pub use Rattle.silt_frame.specs.Frame.{entry_of, kind_byte}
pub use Rattle.silt_frame.specs.Rows.{StoredRow, entry_row, has_known_kind, key_cmp, row_of}
pub use Rattle.silt_frame.specs.declared.key.Key.{Key}
pub use Rattle.silt_frame.specs.declared.key.Kind.TheVariants.{Delete, Put}
pub use Rattle.silt_hash_store.specs.Slots.{hash_rows, rows_before, slot_row}
pub use Rattle.silt_hash_store.specs.State.{HashState}
pub use Rattle.silt_image.specs.Meaning.{image_map}
pub use Rattle.silt_log.proofs.Elsewhere.{all_count, row_of_all}
pub use Rattle.silt_log.specs.Parts.{oldest_first}
pub use Rattle.silt_log.specs.State.{all_rows}
pub use Rattle.silt_recovery.proofs.Shown.{held_good, held_map, held_shown}
pub use Rattle.silt_recovery.specs.Opening.{Holds, held_stores}
pub use Rattle.silt_sorted_store.proofs.Entries.{entries_law, key_of_row, part_inside}
pub use Rattle.silt_sorted_store.proofs.Rising.{lower_below, not_below_itself, one_place}
pub use Rattle.silt_sorted_store.specs.OnlyRow.{HasEntry}
pub use Rattle.silt_sorted_store.specs.State.{SortedState, entries_of, sorted_rows}
pub use Rattle.silt_standing.specs.Standing.{ShowsStores, current_map, shown_stores}
pub use Rattle.silt_standing.specs.State.{EngineState}
pub use Rattle.std.proofs.lemmas.List.{drop_all, drop_more, get_or-map, get_or_default, get_or_read, length-take-le, map-append, take_all, take_more}
pub use Rattle.std.proofs.lemmas.Map.Text.{is_eq-slice_cmp}
pub use Rattle.std.specs.BTreeMap.{BTreeMap, IsLowerBound}
pub use Rattle.std.specs.Cmp.Lexicographic.{slice_cmp}
pub use Rattle.std.specs.FinMap.{get}
pub use Rattle.std.specs.Map.{keys_of, lookup}
pub use Rattle.std.specs.Ordering.{is_eq, is_gt, is_lt, nat_cmp, ordering_reverse}
pub use Rattle.std.specs.declared.cmp.Ordering.{Ordering}
pub use Rattle.std.specs.declared.cmp.Ordering.TheVariants.{Equal, Greater, Less}
