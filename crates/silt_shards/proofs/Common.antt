-- The names of the crates below and of specs/ that several proofs cite, passed on from one place. Declares nothing.
pub use Rattle.std.proofs.Common.{Bool, Err, IsTrue, List, None, Ok, Option, Result, Some, Vec, [], ap, append_assoc, arith, cond, drop, false, get_or, inl, inr, length, length-append, map, min}
pub use Rattle.std.proofs.Common.{nat_le, not, refl, rules, set, slice_index, slice_range, subst, suc, sym, take, true, vec_len, zero, ℕ, ◌%◌, ◌&&◌, ◌++◌, ◌+◌, ◌-◌, ◌<◌, ◌==◌, ◌^◌, ◌∙◌, ◌∷◌, ◌≡◌}
pub use Rattle.std.proofs.Common.{◌≤◌, ◌⊎◌}
pub use Rattle.silt_disk.proofs.Images.{left_at_rest, rests_leaves, shown_left, splice_byte, splice_slice, torn_wider, weaker_leaves, within_leaves}
pub use Rattle.silt_disk.proofs.Wrote.{wrote_err, wrote_ok, wrote_then, wrote_wider}
pub use Rattle.silt_disk.specs.Disk.{ChangesWithin, Content, LeavesOnly, Restarts, Rests, Torn, Writes, size}
pub use Rattle.silt_disk.specs.Header.{header_shape, shape_of}
pub use Rattle.silt_disk.specs.Layout.{Shape}
pub use Rattle.silt_disk.specs.declared.disk.Disk.{Ghosts}
pub use Rattle.silt_event.proofs.Rows.{same_key}
pub use Rattle.silt_event.specs.Commands.{Map, changed, delete, map_after, put, setting}
pub use Rattle.silt_event.specs.Events.{AnswersEach, Legal, PlainReply, Step, acknowledged_by, plain}
pub use Rattle.silt_event.specs.declared.event.Event.{Event}
pub use Rattle.silt_event.specs.declared.event.Event.TheVariants.{Delete, Flush, Get, Put, Swap}
pub use Rattle.silt_event.specs.declared.facts.Facts.{Facts}
pub use Rattle.silt_event.specs.declared.reply.Reply.{Reply}
pub use Rattle.silt_event.specs.declared.reply.Reply.TheVariants.{Absent, Accepted, Acknowledged, Differs, Found, Refused}
pub use Rattle.silt_frame.specs.declared.key.Key.{Key}
pub use Rattle.silt_image.specs.Meaning.{StandsFor}
pub use Rattle.silt_shards.specs.Attempts.{GivesFor, IsAttemptOn}
pub use Rattle.silt_shards.specs.Opening.{AreOfOneShape, AreShards, CausedAt, IsLike, IsRefusedSet, IsRefusedUnopened, Says}
pub use Rattle.silt_shards.specs.Routing.{IsShardCount, is_routed, routed, shard_of}
pub use Rattle.silt_shards.specs.SetFacts.{AddsFacts, Informs, plus}
pub use Rattle.silt_shards.specs.Sets.{AreAlike, DoesAt, FlushesEach, IsSet, SetDoes, acknowledges, as_count, joined, value_len_of}
pub use Rattle.silt_shards.specs.Stores.{AreHonest, IsMapOf, SetLivesLaw, SetMapLaw, SetRuns, SetStep, ShardLife, ShardLives, ShardRuns, ShardRunsLaw, value_in}
pub use Rattle.silt_shards.specs.declared.fault.SetCause.{SetCause}
pub use Rattle.silt_shards.specs.declared.mark.Mark.{Mark}
pub use Rattle.silt_shards.specs.declared.mark.Marking.TheVariants.{Marked, Unmarked}
pub use Rattle.silt_store_set.proofs.Runs.{does_step, legal_runs}
pub use Rattle.silt_store_set.specs.CoreState.{CoreState, DoesPlain, Opens, Runs, map_of}
pub use Rattle.std.proofs.Math.Seq.{drop-cons, take-append_seam}
pub use Rattle.std.proofs.lemmas.Bool.{and_parts, cases_Bool, cases_eq, eq-eqb, ne_eqb}
pub use Rattle.std.proofs.lemmas.Bool.Decides.{nat_tests}
pub use Rattle.std.proofs.lemmas.Cmp.{nat_list_cmp_total}
pub use Rattle.std.proofs.lemmas.List.{append-nil, drop-set-lt, drop_more, ext_get_or, get_or-set_other, get_or-set_same, length-drop, length-set, length-take, take_all, take_more, take_more_set}
pub use Rattle.std.proofs.lemmas.List.Elements.{All-append, All-cons, All-nil, All-rest}
pub use Rattle.std.proofs.lemmas.Option.{get_or_from_slice_get, none-some, same_Some, slice_get_cases, slice_get_past, slice_get_read, slice_get_within}
pub use Rattle.std.proofs.lemmas.Slice.Eq.{bytes_eq-Decides}
pub use Rattle.std.proofs.lemmas.Slice.Zip.{AllZip-long}
pub use Rattle.std.specs.Cmp.Lexicographic.{slice_cmp}
pub use Rattle.std.specs.List.{AllZip}
pub use Rattle.std.specs.Option.{option_or}
pub use Rattle.std.specs.Prelude.{All, IfOk, IfSome, filter, if◌then◌else◌, option_and_then, slice_get, slice_index_or, sum_by, unwrap_or, vec_capacity}
pub use Rattle.std.specs.Vec.Iter.{into_iter_items}
