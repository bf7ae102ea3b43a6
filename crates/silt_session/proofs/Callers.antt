-- Who calls from a seat stays, over any calls.
use Rattle.silt_session.proofs.Common.{◌≡◌, inl, inr, ℕ, zero, suc, ◌∙◌, ap, Option, Some, None, Err, cases_Bool, Ghosts, Event, NoRoom, Reply, change_reply, swap_reply, DeskState, Serves}
use Rattle.silt_session.proofs.Common.{SeatState, FindsNoRoom, PerformsLast, Performs, Answer, Flushed, Request, flush_reply, FindsNoRoomTimes, TriesAgain, Flushes, is_recorded}
use Rattle.silt_session.specs.declared.job.Request.TheVariants.{Delete, Swap, Put, Flush}
use Rattle.silt_desk.specs.declared.trace.Trace.{Ghosts as TraceOf}
use Rattle.silt_event.specs.declared.event.Event.TheVariants as event

module _ {D F T : Type 0} (facts : Ghosts D F) (trace : TraceOf T) where
  serves_caller : (old new : DeskState D T) (seat after : SeatState) (e : Event) (reply : Reply F)
      → Serves facts trace old new seat after e reply → after.caller ≡ seat.caller
  serves_caller old new seat after e reply serves = elim (cases_Bool (is_recorded reply)) [
    | inl is ↦ let records = rw is at serves in records.seated.caller
    | inr is ↦ let refuses = rw is at serves in ap (λ (s : SeatState). s.caller) refuses.seated
  ]

  performs_caller : (old new : DeskState D T) (seat after : SeatState) (request : Request) (answer : Option Answer)
      → Performs facts trace old new seat after request answer → after.caller ≡ seat.caller
  performs_caller old new seat after (Put key value) (Some answer) does = serves_caller old new seat after (event.Put key value) (change_reply does.0) does.2
  performs_caller old new seat after (Delete key) (Some answer) does = serves_caller old new seat after (event.Delete key) (change_reply does.0) does.2
  performs_caller old new seat after (Swap key expected value) (Some answer) does =
      serves_caller old new seat after (event.Swap key expected value) (swap_reply does.0) does.2
  performs_caller old new seat after Flush (Some answer) does = absurd does
  performs_caller old new seat after (Put key value) None does = ap (λ (s : SeatState). s.caller) does.2
  performs_caller old new seat after (Delete key) None does = absurd does
  performs_caller old new seat after (Swap key expected value) None does = ap (λ (s : SeatState). s.caller) does.2
  performs_caller old new seat after Flush None does = ap (λ (s : SeatState). s.caller) does.1

  pub last_caller : (seat after : SeatState) (request : Request) (answer : Option Answer) → PerformsLast facts trace seat request answer after → after.caller ≡ seat.caller
  last_caller seat after request answer does = performs_caller does.0 does.1 seat after request answer does.2

  pub none_caller : (seat after : SeatState) (request : Request) → FindsNoRoom facts trace seat request after → after.caller ≡ seat.caller
  none_caller seat after request does = performs_caller does.0 does.1 seat after request (Some (Err NoRoom)) does.2

  pub times_caller : (times : ℕ) (seat after : SeatState) (request : Request) → FindsNoRoomTimes facts trace times seat request after → after.caller ≡ seat.caller
  times_caller zero seat after request all = ap (λ (s : SeatState). s.caller) all
  times_caller (suc times) seat after request all = none_caller all.0 after request all.2 ∙ times_caller times seat all.0 request all.1

  pub again_caller : (is_over : Type 0) (seat after : SeatState) (request : Request) (answer : Option Answer) → TriesAgain facts trace is_over seat request answer after
      → after.caller ≡ seat.caller
  again_caller is_over seat after request answer (times, mid, few, tried, inl does) = last_caller mid after request answer does ∙ times_caller times seat mid request tried
  again_caller is_over seat after request answer (times, mid, few, tried, inr none) = none_caller mid after request none.1 ∙ times_caller times seat mid request tried

  pub flush_caller : (old new : DeskState D T) (seat after : SeatState) (answer : Flushed) → Flushes facts trace old new seat after answer → after.caller ≡ seat.caller
  flush_caller old new seat after answer does = serves_caller old new seat after event.Flush (flush_reply does.0) does.2
