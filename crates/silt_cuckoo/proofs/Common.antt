-- The names of the crates below and of specs/ that several proofs cite, passed on from one place. Declares nothing.
pub use Rattle.std.proofs.Common.{Bool, IfSome, IsNone, IsSome, List, None, Option, Some, [], ap, append-nil, append_assoc, arith, bit_and, bytes_eq, drop, eq-eqb, eqb-true, false, find, fold}
pub use Rattle.std.proofs.Common.{get_or, get_or-drop, get_or-set_other, get_or-set_same, if◌then◌else◌, inl, inr, is_none, is_some, length, length-append, length-drop, length-set, map, max, min}
pub use Rattle.std.proofs.Common.{ne_eqb, not, option_and_then, option_map, refl, replicate, rules, slice_get, slice_index, slice_range, slice_set, subst, suc, sym, true, unwrap_or, zero, ℕ, ◌%◌}
pub use Rattle.std.proofs.Common.{◌*◌, ◌++◌, ◌+◌, ◌-◌, ◌/◌, ◌<◌, ◌==◌, ◌^◌, ◌||◌, ◌↔◌, ◌∙◌, ◌∷◌, ◌≡◌, ◌≢◌, ◌≤◌, ◌⊎◌}
pub use Rattle.silt_cuckoo.specs.Keys.{first_bucket, key_pair, second_bucket}
pub use Rattle.silt_cuckoo.specs.Laws.{FindLaw, IndexLaw, PairLaw, PushLaw, ReplaceLaw, TableLaw}
pub use Rattle.silt_cuckoo.specs.Lookup.{candidates_of, has_candidates, match_at, matches_in, places_of}
pub use Rattle.silt_cuckoo.specs.Packed.{unpacked, unpacked_all}
pub use Rattle.silt_cuckoo.specs.Pairs.{AddsPair, TakesSlot, has_place, pair_at, pair_of, slot_of_place, table_pairs}
pub use Rattle.silt_cuckoo.specs.Placing.{PathPlan, bucket_after, can_move, ended_walk, free_slot, moved_along, moved_entry, other_bucket, path_for, placed, plan_for, replaced, turns, victim}
pub use Rattle.silt_cuckoo.specs.Slots.{Entry, HoldsPlace, IsBucketCount, IsTable, PlacesApart, PlacesBelow, Slots, bucket_count, empty_slots, entry_at, has_tag, place_at, tag_at}
pub use Rattle.silt_cuckoo.specs.declared.lookup.Candidate.{Candidate}
pub use Rattle.silt_cuckoo.specs.declared.slot.Slot.{Slot}
pub use Rattle.std.proofs.lemmas.Bool.{and_from, and_parts, cases_Bool, cases_eq, cases_lt, cases_order, not-true}
pub use Rattle.std.proofs.lemmas.List.{drop_more, get_or-map, get_or_append_left, get_or_past, get_or_push, length-map, length-replicate, map-set, with_items_is}
pub use Rattle.std.proofs.lemmas.List.Elements.{All-append, All-cons, All-nil, recursion_from_All}
pub use Rattle.std.proofs.lemmas.Slice.Eq.{bytes_eq-Decides}
pub use Rattle.std.specs.Int.RustNames.{count_ones}
pub use Rattle.std.specs.List.{All, AllByRecursion, AllPairs, Contains, cons_option, filter_map, list_any, range_with_len}
