-- The names of the crates below and of specs/ that several proofs cite, passed on from one place. Declares nothing.
pub use Rattle.std.proofs.Common.{Bool, Err, IfOk, IsTrue, List, None, Ok, Option, Result, Some, [], ap, append-nil, append_assoc, arith, codes, cond, drop, false, get_or, inl, inr, length, max}
pub use Rattle.std.proofs.Common.{not, option_map, refl, replicate, rules, string_bytes, subst, suc, sym, take, tests, true, vec_len, zero, ℕ, ◌&&◌, ◌++◌, ◌+◌, ◌-◌, ◌<◌, ◌||◌, ◌∙◌, ◌∷◌, ◌≡◌, ◌≢◌}
pub use Rattle.std.proofs.Common.{◌≤◌}
pub use Rattle.silt_jobs.specs.BackgroundWork.{AdministersTended, AreDone, PlainRefusal, RunsDue, StopsAt, TakesSteps, TendedState, TendsAll, TendsDue, TendsPlain, TendsThenDoes, begins, count_of}
pub use Rattle.silt_jobs.specs.BackgroundWork.{due_at_once, due_between, error_of, is_idle, is_paused, merges, most_steps}
pub use Rattle.silt_jobs.specs.Common.{AdministersCore, AreAlike, AreFirstEntries, Content, Convert, CoreState, Does, DoesPlain, EndsEarly, Event, FormatCause, FormatError, FormatOptions, GaveAny}
pub use Rattle.silt_jobs.specs.Common.{Ghosts, HasValueOf, HoldsBytes, Idle, IsNextEntry, IsRefusedLook, IsSafe, Key, LeavesOnly, LifeReply, LineFault, LivesRun, MemDisk, MemFault, Merge, NoRoom}
pub use Rattle.silt_jobs.specs.Common.{Numbers, OpenError, Opens, PassesTo, PlainReply, PlanRequest, Refusal, Refused, Reply, RunOptions, Says, SaysSo, SessionEnd, Shape, Spent, StandsFor}
pub use Rattle.silt_jobs.specs.Common.{Unmarked, Waiting, asked_by, awaits_region, convert_due, device_size, header_of, image_map, is_blank, is_convert, is_merge, is_refused, lines_after}
pub use Rattle.silt_jobs.specs.Common.{memory_content, memory_gave, plain_refusal, refusal_of_formatting, rest_after, shape_found, size, wants_convert, words_of}
pub use Rattle.silt_jobs.specs.Ended.{HasFailed, Refuses, exit_status}
pub use Rattle.silt_jobs.specs.Jobs.{AnswersReader, EndsLife, EndsSession, EndsSo, shape_asked}
pub use Rattle.silt_jobs.specs.MergeWrites.{has_room}
pub use Rattle.silt_jobs.specs.NewStores.{NewStoreCause}
pub use Rattle.silt_jobs.specs.Plans.{bucket_counts, first_with, is_planned, needs_buckets, rows_between_merges, shape_planned}
pub use Rattle.silt_jobs.specs.Scripts.{AnswersScript, EndsReading, Fits, HasReadNothing, ScriptCause, TakesAsked, TakesBytes, TakesLine, TakesLines, mark_text, marks_text, memory_facts}
pub use Rattle.silt_jobs.specs.Scripts.{opening_text, place_after, place_past, reply_line, start}
pub use Rattle.silt_jobs.specs.SetFiles.{AnswersCores, AnswersTended, HasFewRegions, HasFormatted, MakesShard, MakesShards, OpensFiles, OpensSession, at_shard, done_by, first_refusal, is_done_so}
pub use Rattle.silt_jobs.specs.SetFiles.{refusal_or, set_value_len, shard_file, tending_each}
pub use Rattle.silt_jobs.specs.SetJobs.{DoesEach, DoesFirst, DoesShard, DumpsFirst, ended_with, worst_status}
pub use Rattle.silt_jobs.specs.Tally.{has_any, tally_after, tally_of}
pub use Rattle.silt_jobs.specs.declared.people.ended.Ended.{Ended}
pub use Rattle.silt_jobs.specs.declared.people.ended.Why.{Why}
pub use Rattle.silt_jobs.specs.declared.people.failures.Failures.{Failures}
pub use Rattle.silt_jobs.specs.declared.people.tally.Tally.{Tally}
pub use Rattle.silt_wire.proofs.Cuts.{last-from_none, words_of-some}
pub use Rattle.silt_wire.proofs.Streams.{Appends-append, Appends-keeps, Appends-none, Consumes-append, Consumes-keeps, lines_after-append, piece-line, piece-open, rest_after-append}
pub use Rattle.std.proofs.Math.Seq.{drop-cons, take-add}
pub use Rattle.std.proofs.lemmas.List.{at_drop_more, drop_all, length-append, length-replicate, take-append-le, take_all, take_more}
pub use Rattle.std.proofs.lemmas.List.Elements.{All-map, All-nil, All-push}
pub use Rattle.std.proofs.lemmas.Result.{IfOk-weaker}
pub use Rattle.std.specs.FinMap.{empty}
pub use Rattle.std.specs.Io.KnownBytes.{Appends, Consumes}
pub use Rattle.std.specs.Option.{IsSomeAnd, option_map_or, unwrap_or}
pub use Rattle.std.specs.Prelude.{All, IfErr, IsErrAnd, IsOkAnd, MatchResult, OnOk, if◌then◌else◌, is_err, is_some, slice_range, vec_capacity}
pub use Rattle.std.specs.Vec.Iter.{into_iter_items}
