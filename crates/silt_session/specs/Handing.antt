-- What is handed over to the writer, and what is asked so.
use Rattle.std.specs.Prelude.{◌≡◌, Bool, false, IfOk, List, [], ◌++◌, MatchOption, Option, Some, Result}
use Rattle.silt_disk.specs.declared.disk.Disk.{Ghosts}
use Rattle.silt_event.specs.declared.event.Event.{Event}
use Rattle.silt_desk.specs.declared.trace.Trace.{Ghosts as TraceOf}
use Rattle.silt_session.specs.Pipelines.{AnswersSoFar, NothingWaits, flush_if}
use Rattle.silt_session.specs.Requests.{requests_of}
use Rattle.silt_session.specs.Tolds.{AsksBehind, ToldState}
use Rattle.silt_session.specs.Asked.{AskedState}
use Rattle.silt_session.specs.declared.job.Awaited.{Awaited}
use Rattle.silt_session.specs.declared.job.Request.{Request}
use Rattle.silt_session.specs.declared.pipeline.Handed.{Handed}
use Rattle.silt_session.specs.declared.pipeline.Pipeline.{Pipeline}
use Rattle.silt_session.specs.declared.unanswered.Unanswered.{Unanswered}

-- the job that is awaited asks for these requests, or there is none, and nothing is asked for
abbrev pub AwaitsRequests : {D T N F : Type 0} → Option (Awaited D T N F) → List Request → Type 0
AwaitsRequests awaited requests = MatchOption awaited (requests ≡ []) (λ job. job.ticket.asked ≡ Some requests)

-- what waited in a pipeline was handed over, and behind it a flush if it was needed
abbrev pub Hands : {D T N F : Type 0} → Pipeline D T F → Handed D T N F → Type 0
Hands old handed =
    (old.lacks_memory ≡ false) × (handed.has_flush ≡ old.needs_flush)
    × AwaitsRequests handed.awaited (requests_of old.tasks.items ++ flush_if old.needs_flush)

-- nothing waits any more, and each event still has its reply or its place
abbrev pub IsHanded : {D T F : Type 0} → Pipeline D T F → Pipeline D T F → Type 0
IsHanded old new = NothingWaits new × (new.replies ≡ old.replies) × (new.places ≡ old.places) × (new.told ≡ old.told)

-- the same, and what waited was handed over, unless that failed
abbrev pub HasHanded : {D T N F : Type 0} → Pipeline D T F → Pipeline D T F → Result (Handed D T N F) Unanswered → Type 0
HasHanded old new handed = IsHanded old new × IfOk handed (Hands old)

module _ {D F : Type 0} (facts : Ghosts D F) (settles : Bool) {T : Type 0} (trace : TraceOf T) (told : ToldState) where
  -- These events were asked, by a session that was told so much: each has its reply, or its request was handed over, with all that waited in
  -- their pipeline.
  abbrev pub AreAsked : {N : Type 0} → List Event → AskedState D T N F → Type 0
  AreAsked events asked =
      (before : Pipeline D T F) × AnswersSoFar facts settles trace events before × AsksBehind told before.told × HasHanded before asked.pipeline asked.handed
