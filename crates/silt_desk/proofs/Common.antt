-- The names of the crates below and of specs/ that several proofs cite, passed on from one place. Declares nothing.
pub use Rattle.std.proofs.Common.{Bool, Err, IfErr, IfSome, IsTrue, None, Ok, OnOk, Option, Result, Some, ap, arith, false, inl, inr, length, length-append, refl, rules, slice_get, subst, sym}
pub use Rattle.std.proofs.Common.{take, true, vec_capacity, vec_len, ◌*◌, ◌++◌, ◌+◌, ◌<◌, ◌==◌, ◌∙◌, ◌≡◌, ◌≢◌, ◌≤◌}
pub use Rattle.silt_desk.specs.CallLogs.{AddsEntry, CountsLog, log_word}
pub use Rattle.silt_desk.specs.History.{Replays, accepted_by, call, commands_of, replies_of}
pub use Rattle.silt_desk.specs.Notes.{noted_event, plain_answer, reply_of}
pub use Rattle.silt_desk.specs.Seats.{SeatState, Totals, accepted_of, calls_of, counted, fresh, unbooked}
pub use Rattle.silt_desk.specs.Seeing.{BatchCostLaw, NoneWaits, SeenStep, SeenStore, Spends, batch_replies, failing, finished_by, seen, syncs_by, total_by, writes_by}
pub use Rattle.silt_desk.specs.TraceLaws.{history_opens, leads_none, others_stay_law}
pub use Rattle.silt_desk.specs.declared.call.RecordedCall.{RecordedCall}
pub use Rattle.silt_disk.specs.Disk.{Content, MakesAtMost}
pub use Rattle.silt_event.specs.Commands.{Command, Map, delete, map_after, put, setting}
pub use Rattle.silt_event.specs.Events.{Counts, PlainReply, Step, accepted_command, acknowledged_after, acknowledged_by, is_fault, plain}
pub use Rattle.silt_event.specs.declared.event.Event.{Event}
pub use Rattle.silt_event.specs.declared.event.Event.TheVariants.{Convert, Delete, Flush, Get, Merge, Put, Swap}
pub use Rattle.silt_event.specs.declared.refusal.Refusal.{Refusal}
pub use Rattle.silt_event.specs.declared.reply.Reply.{Reply}
pub use Rattle.silt_store_set.specs.CoreState.{Cause, CoreState, Does, Durable, MakesRow, WritesRow, convert_due, is_finished, map_of, may_merge, most_syncs, most_writes, some_wait, wants_convert}
pub use Rattle.silt_store_set.specs.Replies.{change_reply, flush_reply, get_reply, progress_reply, swap_reply}
pub use mathlib.Core.List.{IsPrefix}
