-- What a session is told of the calls at the desk.
use Rattle.std.specs.Prelude.{◌≡◌, ℕ, ◌+◌, ◌≤◌, ◌<◌, if◌then◌else◌, IfSome, List, [], ◌∷◌, length, MatchOption, Option, Some, None, slice_get}
use mathlib.Core.List.{IsPrefix}
use Rattle.logbook.specs.Pages.{Book}
use Rattle.silt_event.specs.Events.{PlainReply}
use Rattle.silt_event.specs.declared.event.Event.{Event}
use Rattle.silt_event.specs.declared.event.Event.TheVariants as event
use Rattle.silt_event.specs.declared.refusal.Refusal.TheVariants.{NoMemory, HistoryFull}
use Rattle.silt_event.specs.declared.reply.Reply.TheVariants.{Accepted, Acknowledged, Differs, Refused, Unsettled}
use Rattle.silt_desk.specs.declared.call.Caller.{Caller}
use Rattle.silt_desk.specs.declared.call.RecordedCall.{RecordedCall}
use Rattle.silt_desk.specs.declared.trace.Trace.{Ghosts as TraceOf}
use Rattle.silt_desk.specs.CallLogs.{IsMadeFor, LogsNone, PlaceState, PlacesEvent, PlacesFlush}
use Rattle.silt_desk.specs.History.{call, is_recorded}
use Rattle.silt_store_set.specs.Replies.{swap_reply}
use Rattle.silt_session.specs.Requests.{Answer, asked_event}
use Rattle.silt_session.specs.declared.job.Request.{Request}

-- the number of a session, the first place at which a call of its present events can stand, the first one for the next command among them,
-- the number of the desk's shard and a beginning of its calls, if its trace has a log
pub record ToldState : Type 0 where
  pub session : ℕ
  pub from : ℕ
  pub next : ℕ
  pub shard : Option ℕ
  pub calls : Option (List RecordedCall)

-- all calls are told that a trace logs, or it logs none
pub record TellsAll {T : Type 0} (trace : TraceOf T) (state : T) (told : ToldState) : Type 0 where
  pub from : told.from ≡ 0
  pub next : told.next ≡ 0
  pub calls : MatchOption told.calls (LogsNone (trace.logs state)) (trace.logs state)

-- the place, if there is one, is in the log that is named for its shard
abbrev pub IsInLog : (ℕ → Option Book) → Option PlaceState → Type 0
IsInLog named place = IfSome place (λ p. Some p.book ≡ named p.shard)

-- ---- a request, and its call

-- a result is recorded with its call, which was made for the session, and no other place is known
abbrev pub CallsAt : (ℕ → Option Book) → ℕ → Request → Option Answer → Option PlaceState → Type 0
CallsAt named session request None place = place ≡ None
CallsAt named session request (Some answer) place = PlacesEvent named session (asked_event request) (swap_reply answer) place

-- the place of the last call, if a call with this reply is recorded
abbrev pub reply_place : PlainReply → Option PlaceState → Option PlaceState
reply_place reply last = if is_recorded reply then last else None

-- the place of the last call, if it has this result and is recorded
abbrev pub answer_place : Option Answer → Option PlaceState → Option PlaceState
answer_place None last = None
answer_place (Some answer) last = reply_place (swap_reply answer) last

-- ---- a reply, and the calls that it speaks of

-- The places have what this reply to an event of a session says: an accepted command, and behind it a flush that acknowledged it; a command
-- that no flush settled; a flush; a swap that differs; a refusal.
abbrev pub TellsAt : (ℕ → Option Book) → ℕ → Event → PlainReply → Option PlaceState → Option PlaceState → Type 0
TellsAt named session e (Accepted n) call flush = PlacesEvent named session e (Accepted n) call × ((m : ℕ) × (n ≤ m) × PlacesFlush named (Acknowledged m) flush)
TellsAt named session e (Unsettled n) call flush = PlacesEvent named session e (Accepted n) call
TellsAt named session e Differs call flush = PlacesEvent named session e Differs call
TellsAt named session e (Acknowledged m) call flush = PlacesFlush named (Acknowledged m) flush
TellsAt named session event.Flush (Refused refusal) call flush = PlacesFlush named (Refused refusal) flush
TellsAt named session e (Refused refusal) call flush = PlacesEvent named session e (Refused refusal) call
TellsAt named session e reply call flush = Unit {0}

-- at this place, which is no earlier than the first one, the calls have this event with this reply, made for the session
abbrev pub HasCallAt : ℕ → ℕ → List RecordedCall → ℕ → Event → PlainReply → Type 0
HasCallAt session from calls place e reply =
    (from ≤ place) × ((caller : Caller) × IsMadeFor session e caller × (slice_get calls place ≡ Some (call caller e reply)))

-- The calls have what this reply to an event of a session says, from this place on: an accepted command, and behind it a flush that
-- acknowledged it; a command that no flush settled; a flush; a swap that differs; a refusal, unless it was out of memory or the history was full.
abbrev pub IsTold : ℕ → ℕ → List RecordedCall → Event → PlainReply → Type 0
IsTold session from calls e (Accepted n) =
    (place : ℕ) × HasCallAt session from calls place e (Accepted n)
    × ((behind : ℕ) × (m : ℕ) × (place < behind) × (n ≤ m) × HasCallAt session from calls behind event.Flush (Acknowledged m))
IsTold session from calls e (Unsettled n) = (place : ℕ) × HasCallAt session from calls place e (Accepted n)
IsTold session from calls e Differs = (place : ℕ) × HasCallAt session from calls place e Differs
IsTold session from calls e (Acknowledged m) = (place : ℕ) × HasCallAt session from calls place event.Flush (Acknowledged m)
IsTold session from calls e (Refused NoMemory) = Unit {0}
IsTold session from calls e (Refused HistoryFull) = Unit {0}
IsTold session from calls e (Refused refusal) = (place : ℕ) × HasCallAt session from calls place e (Refused refusal)
IsTold session from calls e reply = Unit {0}

-- the same, if the desk's trace has a log
abbrev pub ToldOf : ToldState → Event → PlainReply → Type 0
ToldOf told e reply = IfSome told.calls (λ calls. IsTold told.session told.from calls e reply)

-- ---- commands in their order

-- the reply with which a command's own call is recorded, by the reply that the command got, if that speaks of such a call
abbrev pub call_reply : PlainReply → Option PlainReply
call_reply (Accepted n) = Some (Accepted n)
call_reply (Unsettled n) = Some (Accepted n)
call_reply Differs = Some Differs
call_reply (Refused NoMemory) = None
call_reply (Refused HistoryFull) = None
call_reply (Refused refusal) = Some (Refused refusal)
call_reply reply = None

-- the same of any event: one that is no command has no call of its own
abbrev pub own_reply : Event → PlainReply → Option PlainReply
own_reply event.Flush reply = None
own_reply (event.Get key) reply = None
own_reply event.Convert reply = None
own_reply event.Merge reply = None
own_reply e reply = call_reply reply

-- an event's own call, if it has one, was made for the session, and stands at a place from the first number on, and before the second
abbrev pub TakesPlace : ℕ → ℕ → List RecordedCall → Event → PlainReply → ℕ → Type 0
TakesPlace session next calls e reply after =
    MatchOption (own_reply e reply) (next ≤ after) (λ made. (place : ℕ) × HasCallAt session next calls place e made × (place < after))

-- the own calls of events stand at rising places, in the order of the events, from the first number on, and before the second
abbrev pub RisesThrough : ℕ → ℕ → List RecordedCall → List Event → List PlainReply → ℕ → Type 0
RisesThrough session next calls [] [] after = next ≤ after
RisesThrough session next calls (e ∷ events) (reply ∷ replies) after =
    (mid : ℕ) × TakesPlace session next calls e reply mid × RisesThrough session mid calls events replies after
RisesThrough session next calls events replies after = ⊥

-- an event's own call is told of, at a place between these numbers, if the desk's trace has a log
abbrev pub IsToldBetween : ToldState → ℕ → Event → PlainReply → ℕ → Type 0
IsToldBetween told next e reply after = IfSome told.calls (λ calls. TakesPlace told.session next calls e reply after)

-- the same of events in their order
abbrev pub AreToldBetween : ToldState → ℕ → List Event → List PlainReply → ℕ → Type 0
AreToldBetween told next events replies after = IfSome told.calls (λ calls. RisesThrough told.session next calls events replies after)

-- the commands among the present events stand at rising places, in their order, before the place for the next one
abbrev pub AreInOrder : ToldState → List Event → List PlainReply → Type 0
AreInOrder told events replies = AreToldBetween told told.from events replies told.next

-- the place is one of these calls, no earlier than the next command of the present events can stand, and the number behind it is this one
abbrev pub IsTakenAt : ToldState → List RecordedCall → PlaceState → ℕ → Type 0
IsTakenAt told calls p after = (told.from ≤ p.number) × (told.next ≤ p.number) × (after ≡ p.number + 1) × (slice_get calls p.number ≡ p.at)

-- ---- more that is told

-- commands of the present events have taken their places
pub record PassesOn (old new : ToldState) : Type 0 where
  pub same : new ≡ record old { next = new.next }
  pub next : old.next ≤ new.next

-- the second list goes on where the first ends, if there are lists
abbrev pub ExtendsCalls : Option (List RecordedCall) → Option (List RecordedCall) → Type 0
ExtendsCalls old new = MatchOption old (new ≡ None) (λ calls. MatchOption new ⊥ (λ more. IsPrefix calls more))

-- more calls are told
pub record IsToldMore (old new : ToldState) : Type 0 where
  pub session : new.session ≡ old.session
  pub from : new.from ≡ old.from
  pub next : old.next ≤ new.next
  pub shard : new.shard ≡ old.shard
  pub calls : ExtendsCalls old.calls new.calls

-- events of the session are asked now: a call of theirs stands behind all that was told
pub record AsksBehind (old new : ToldState) : Type 0 where
  pub session : new.session ≡ old.session
  pub from : IfSome old.calls (λ calls. new.from ≡ length calls)
  pub next : new.from ≤ new.next
  pub shard : new.shard ≡ old.shard
  pub calls : ExtendsCalls old.calls new.calls
