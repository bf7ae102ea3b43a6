-- The names of the crates below and of specs/ that several proofs cite, passed on from one place. Declares nothing.
pub use Rattle.std.proofs.Common.{All, Bool, Err, IfOk, IfSome, IsSomeAnd, IsTrue, List, MatchOption, None, Ok, OnOk, Option, Result, Some, Vec, [], ap, append_assoc, arith, bit_or, cond, drop}
pub use Rattle.std.proofs.Common.{drop-drop, drop_at, drop_of_length-le, false, get_or, if◌then◌else◌, inl, inr, length, map, nat_le, not, refl, replicate, rules, set, slice_get, slice_set, subst}
pub use Rattle.std.proofs.Common.{suc, sum_by, sym, take, true, vec_capacity, vec_len, w64, zero, ℕ, ◌%◌, ◌&&◌, ◌*◌, ◌++◌, ◌+◌, ◌-◌, ◌/◌, ◌<◌, ◌==◌, ◌^◌, ◌||◌, ◌↔◌, ◌∙◌, ◌∷◌, ◌≡◌, ◌≢◌, ◌≤◌, ◌⊎◌}
pub use Rattle.silt_desk.proofs.CallLogs.{adds_moves, prefix_shorter}
pub use Rattle.silt_desk.specs.CallLogs.{CallsSeen, IsMadeFor, LogsNone, PlaceState, PlacesCall, PlacesEvent, PlacesFlush}
pub use Rattle.silt_desk.specs.DeskState.{DeskState, Serves}
pub use Rattle.silt_desk.specs.History.{accepted_by, call, count_accepted, is_recorded}
pub use Rattle.silt_desk.specs.Notes.{plain_answer}
pub use Rattle.silt_desk.specs.Seats.{SeatState}
pub use Rattle.silt_desk.specs.declared.call.Caller.{Caller}
pub use Rattle.silt_disk.specs.declared.disk.Disk.{Ghosts}
pub use Rattle.silt_event.specs.Events.{AnswersEach, HasValueOf, PlainReply, Step, plain}
pub use Rattle.silt_event.specs.declared.event.Event.{Event}
pub use Rattle.silt_event.specs.declared.facts.Facts.{Facts}
pub use Rattle.silt_event.specs.declared.refusal.Refusal.{Refusal}
pub use Rattle.silt_event.specs.declared.refusal.Refusal.TheVariants.{NoRoom}
pub use Rattle.silt_event.specs.declared.reply.Reply.{Reply}
pub use Rattle.silt_event.specs.declared.reply.Reply.TheVariants.{Accepted, Acknowledged, Differs, NotServed, Refused, Unsettled}
pub use Rattle.silt_frame.specs.declared.key.Key.{Key}
pub use Rattle.silt_inbox.specs.Books.{counted}
pub use Rattle.silt_session.specs.Batches.{FindsNoRoom, FindsNoRoomTimes, IsBatch, IsDueAt, KeepsLeft, MayMakeRoom, PerformsAll, PerformsJob, PerformsLast, PerformsRequest, PerformsTask}
pub use Rattle.silt_session.specs.Batches.{RepliesTo, RepliesToAll, RepliesToJob, ServesBatch, ServesBatches, StepsThrough, TriesAgain, TriesOnce, WriterState, done_in, lacks_room, left_in}
pub use Rattle.silt_session.specs.Batches.{serving, writer_at}
pub use Rattle.silt_session.specs.Origins.{Flushes, HasDone, HasOrigin, Performs, WasFlushed}
pub use Rattle.silt_session.specs.Pipelines.{AnswersSoFar, AwaitsFlush, Fills, FillsAll, FillsOne, GathersTask, HasRoom, IsFlushedBy, IsFree, IsNoGetOf, IsPlaceOf, IsSettled, IsShown, IsTaskOf}
pub use Rattle.silt_session.specs.Pipelines.{Looks, MarksToo, MaySettle, MovesPlaces, NoneOvertakes, NothingWaits, SettlesAll, SettlesEach, SettlesShown, flush_if, given_after}
pub use Rattle.silt_session.specs.Pipelines.{reply_without_tasks, shown_of, waiting_events}
pub use Rattle.silt_session.specs.Requests.{Answer, Flushed, IsNoRequest, TaskState, acknowledged, asked_event, changed, changed_key, compared, reply_due, requests_of}
pub use Rattle.silt_session.specs.Sessions.{AnswersClient, ArePaired, ClientState, IsAnswer, IsKept, IsReplyOf, IsToldTo, IsWithout}
pub use Rattle.silt_session.specs.SetAnswers.{DealsTo, Draws, DrawsAll, DrawsEach, DrawsFrom, DrawsHeads, EachShard, GivesAt, HasPart, SetGives, route_of}
pub use Rattle.silt_session.specs.Tolds.{AreInOrder, AreToldBetween, AsksBehind, CallsAt, ExtendsCalls, HasCallAt, IsInLog, IsTold, IsToldBetween, IsToldMore, PassesOn, RisesThrough, TakesPlace}
pub use Rattle.silt_session.specs.Tolds.{TellsAt, ToldOf, ToldState, answer_place, own_reply, reply_place}
pub use Rattle.silt_session.specs.Unanswered.{reply_without}
pub use Rattle.silt_session.specs.declared.job.Job.{Job}
pub use Rattle.silt_session.specs.declared.job.Request.{Request}
pub use Rattle.silt_session.specs.declared.pipeline.Pipeline.{Pipeline}
pub use Rattle.silt_session.specs.declared.place.Place.{Place}
pub use Rattle.silt_session.specs.declared.place.Shown.{Shown}
pub use Rattle.silt_session.specs.declared.set.Route.{Route}
pub use Rattle.silt_session.specs.declared.task.Placed.{Placed}
pub use Rattle.silt_shards.proofs.Lists.{changed_next, get_set_other, get_set_same, rest_next, written_back}
pub use Rattle.silt_shards.specs.Routing.{is_routed, routed}
pub use Rattle.silt_shards.specs.Sets.{joined}
pub use Rattle.silt_store_set.specs.CoreState.{CoreState, Does, wants_convert, wants_merge}
pub use Rattle.silt_store_set.specs.Replies.{change_reply, flush_reply, get_reply, swap_reply}
pub use Rattle.std.proofs.lemmas.Bool.{and_parts, cases_Bool, cases_eq, cond-false, cond-true, eq-eqb, leb-true, ne_eqb}
pub use Rattle.std.proofs.lemmas.List.{append-nil, get_or-set_other, get_or-set_same, length-append, length-map, length-set, length-take-le, map-append, nil_from_length, take_all, take_more}
pub use Rattle.std.proofs.lemmas.List.Elements.{All-append, All-head, All-rest, All-tail, filter-append}
pub use Rattle.std.proofs.lemmas.Option.{IfSome_then, get_or_from_slice_get, none-some, same_Some, slice_get-get_or, slice_get_read, slice_get_within}
pub use Rattle.std.proofs.lemmas.Slice.Zip.{AllZip-left, AllZip-long}
pub use Rattle.std.specs.List.{AllZip}
pub use Rattle.std.specs.Option.{option_map, option_to_list}
pub use Rattle.std.specs.Result.{result_ok}
pub use Rattle.std.specs.Vec.Iter.{into_iter_items}
pub use Rattle.std.specs.VecDeque.{deque_capacity, deque_len}
pub use Rattle.std.specs.declared.collections.VecDeque.{VecDeque}
pub use mathlib.Core.List.{IsPrefix}
