-- The names that several files cite, passed on from one place. Declares nothing.
pub use Rattle.silt_device.specs.Memory.{memory_content, memory_gave}
pub use Rattle.silt_device.specs.declared.life.Stop.{Stop}
pub use Rattle.silt_device.specs.declared.memory.MemDisk.{MemDisk}
pub use Rattle.silt_device.specs.declared.memory.MemFault.{MemFault}
pub use Rattle.silt_disk.specs.Disk.{Content, GaveAny, LeavesOnly, Makes, Settles, Stays, Tears, Writes, size}
pub use Rattle.silt_disk.specs.Header.{header_len, header_of, is_in_limits, magic, version_of}
pub use Rattle.silt_disk.specs.Layout.{InLimits, Shape, bodies_at, device_size, entry_len, hash_at, row_len, slot_at, sorted_at}
pub use Rattle.silt_disk.specs.declared.disk.Disk.{Ghosts}
pub use Rattle.silt_dump.specs.Order.{AreFirstEntries, AreInOrder, AreOfMap, IsNextEntry}
pub use Rattle.silt_dump.specs.Pieces.{EndsEarly}
pub use Rattle.silt_dump.specs.Stream.{PassesTo, Streams}
pub use Rattle.silt_event.specs.Commands.{Map}
pub use Rattle.silt_event.specs.Events.{HasValueOf, LivesHistory, PlainReply, plain_refusal}
pub use Rattle.silt_event.specs.Queries.{AnswersQuery}
pub use Rattle.silt_event.specs.declared.admin.Admin.{Admin}
pub use Rattle.silt_event.specs.declared.admin.AdminReply.{AdminReply}
pub use Rattle.silt_event.specs.declared.event.Event.{Event}
pub use Rattle.silt_event.specs.declared.event.Event.TheVariants.{Convert, Merge}
pub use Rattle.silt_event.specs.declared.progress.Progress.TheVariants.{Idle, Waiting}
pub use Rattle.silt_event.specs.declared.refusal.Refusal.{Refusal}
pub use Rattle.silt_event.specs.declared.refusal.Refusal.TheVariants.{BadGeometry, Device, NoRoom, Spent}
pub use Rattle.silt_event.specs.declared.reply.LifeReply.{LifeReply}
pub use Rattle.silt_event.specs.declared.reply.Reply.{Reply}
pub use Rattle.silt_event.specs.declared.reply.Reply.TheVariants.{Refused}
pub use Rattle.silt_event.specs.declared.report.Report.{Report}
pub use Rattle.silt_frame.specs.declared.key.Key.{Key}
pub use Rattle.silt_image.specs.Meaning.{StandsFor, image_map}
pub use Rattle.silt_image.specs.Stores.{shape_found}
pub use Rattle.silt_jobs.specs.declared.jobs.background_work.Steps.{Steps}
pub use Rattle.silt_jobs.specs.declared.jobs.held_data.HeldStore.{HeldStore}
pub use Rattle.silt_jobs.specs.declared.jobs.held_data.Holding.{Holding}
pub use Rattle.silt_jobs.specs.declared.people.ended.Ended.{Ended}
pub use Rattle.silt_jobs.specs.declared.people.ended.Found.TheVariants.{Cost, Shard}
pub use Rattle.silt_jobs.specs.declared.people.ended.Why.{Why}
pub use Rattle.silt_jobs.specs.declared.people.ended.Why.TheVariants.{FewRegions, Holds, NoDisk, NoJob, NoPlan, NotDue, OutOfLimits}
pub use Rattle.silt_jobs.specs.declared.people.failures.Failures.{Failures}
pub use Rattle.silt_jobs.specs.declared.people.streams.StreamError.{StreamError}
pub use Rattle.silt_jobs.specs.declared.people.tally.Tally.{Tally}
pub use Rattle.silt_jobs.specs.declared.people.urgent.Urgent.{Urgent}
pub use Rattle.silt_jobs.specs.declared.plans.plan_cost.PlanCost.{PlanCost}
pub use Rattle.silt_jobs.specs.declared.plans.plan_cost.Remedy.{Remedy}
pub use Rattle.silt_jobs.specs.declared.plans.plan_cost.Remedy.TheVariants.{Memory, SeveralStores}
pub use Rattle.silt_recovery.specs.Errors.{refusal_of_formatting, refusal_of_opening}
pub use Rattle.silt_recovery.specs.Format.{FormatCause}
pub use Rattle.silt_recovery.specs.Opening.{IsReported, LeavesNoOther}
pub use Rattle.silt_recovery.specs.Refusals.{IsFound, IsRefusedLook}
pub use Rattle.silt_recovery.specs.declared.fault.FormatError.{FormatError}
pub use Rattle.silt_recovery.specs.declared.fault.OpenError.{OpenError}
pub use Rattle.silt_shards.specs.Marks.{mark_at, mark_len, marking_of}
pub use Rattle.silt_shards.specs.Opening.{AreOfOneShape, AreShards, IsMarked, IsRefusedSet, IsRefusedUnopened, Says, SaysSo}
pub use Rattle.silt_shards.specs.Routing.{IsShardCount, is_shard_count, least_shards, most_shards}
pub use Rattle.silt_shards.specs.Sets.{AreAlike, SetDoes, value_len_of}
pub use Rattle.silt_shards.specs.declared.fault.SetCause.{SetCause}
pub use Rattle.silt_shards.specs.declared.mark.Marking.TheVariants.{Marked, Unmarked}
pub use Rattle.silt_store_set.specs.CoreInvariant.{IsSafe, LeavesBegun}
pub use Rattle.silt_store_set.specs.CoreState.{CoreState, Does, DoesPlain, Opens, awaits_region, convert_due, is_convert, is_merge, is_refused, wants_convert}
pub use Rattle.silt_store_set.specs.Facts.{AdministersCore}
pub use Rattle.silt_store_set.specs.Living.{LivesRun}
pub use Rattle.silt_wire.specs.LineBuffer.{HoldsBytes}
pub use Rattle.silt_wire.specs.Lines.{asked_by, is_blank, longest_line, words_of}
pub use Rattle.silt_wire.specs.Reports.{report_text}
pub use Rattle.silt_wire.specs.Sessions.{Ends, lines_after, rest_after}
pub use Rattle.silt_wire.specs.declared.line.LineFault.{LineFault}
pub use Rattle.silt_wire.specs.declared.sessions.SessionEnd.{SessionEnd}
pub use Rattle.silt_words.specs.declared.job.FormatOptions.{FormatOptions}
pub use Rattle.silt_words.specs.declared.job.Numbers.{Numbers}
pub use Rattle.silt_words.specs.declared.job.PlanRequest.{PlanRequest}
pub use Rattle.silt_words.specs.declared.job.RunOptions.{RunOptions}
pub use Rattle.std.specs.FinMap.{empty}
pub use Rattle.std.specs.Fmt.{decimal}
pub use Rattle.std.specs.Io.{ReadsAtMost, WritesAtMost}
pub use Rattle.std.specs.Io.KnownBytes.{Appends, Consumes, IsAtEnd, Keeps, ReadConsumes, WriteAppends}
pub use Rattle.std.specs.List.{AllZip, list_any}
pub use Rattle.std.specs.Option.{IsSomeAnd, unwrap_or}
pub use Rattle.std.specs.Str.{bytes_eq}
