-- The calls of the desk that a reply comes from.
use Rattle.std.specs.Prelude.{◌≡◌, ◌≢◌, ◌⊎◌, ℕ, IsSomeAnd, length, Option, Some, None, Result}
use Rattle.silt_disk.specs.declared.disk.Disk.{Ghosts}
use Rattle.silt_event.specs.Events.{PlainReply}
use Rattle.silt_event.specs.declared.event.Event.TheVariants as event
use Rattle.silt_event.specs.declared.refusal.Refusal.{Refusal}
use Rattle.silt_store_set.specs.Replies.{change_reply, flush_reply, swap_reply}
use Rattle.silt_desk.specs.DeskState.{DeskState, Serves}
use Rattle.silt_desk.specs.Notes.{plain_answer}
use Rattle.silt_desk.specs.Seats.{SeatState}
use Rattle.silt_desk.specs.Seeing.{seen}
use Rattle.silt_desk.specs.declared.trace.Trace.{Ghosts as TraceOf}
use Rattle.silt_session.specs.Requests.{Answer, Flushed, compared, reply_due}
use Rattle.silt_session.specs.declared.job.Request.{Request}
use Rattle.silt_session.specs.declared.job.Request.TheVariants.{Put, Delete, Swap, Flush}

module _ {D F T : Type 0} (facts : Ghosts D F) (trace : TraceOf T) where
  -- the trace of a desk agrees with its store; that of a server says of which calls the store comes
  abbrev pub AgreesAt : DeskState D T → Type 0
  AgreesAt desk = trace.agrees desk.trace (seen facts desk.core)

  -- the desk does a request with this result
  abbrev pub Performs : DeskState D T → DeskState D T → SeatState → SeatState → Request → Option Answer → Type 0
  Performs old new seat after (Put key value) (Some answer) =
      (reported : Result ℕ (Refusal F)) × (answer ≡ compared (plain_answer reported))
      × Serves facts trace old new seat after (event.Put key value) (change_reply reported) × AgreesAt old
  Performs old new seat after (Delete key) (Some answer) =
      (reported : Result ℕ (Refusal F)) × (answer ≡ compared (plain_answer reported))
      × Serves facts trace old new seat after (event.Delete key) (change_reply reported) × AgreesAt old
  Performs old new seat after (Swap key expected value) (Some answer) =
      (reported : Result (Option ℕ) (Refusal F)) × (answer ≡ plain_answer reported)
      × Serves facts trace old new seat after (event.Swap key expected value) (swap_reply reported) × AgreesAt old
  Performs old new seat after (Put key value) None = (length value ≢ old.core.shape.value_len) × (new ≡ old) × (after ≡ seat)
  Performs old new seat after (Swap key expected value) None =
      (IsSomeAnd expected (λ v. length v ≢ old.core.shape.value_len) ⊎ IsSomeAnd value (λ v. length v ≢ old.core.shape.value_len))
      × (new ≡ old) × (after ≡ seat)
  Performs old new seat after Flush None = (new ≡ old) × (after ≡ seat)
  Performs old new seat after request answer = ⊥

  -- the desk does a flush from this seat with this result
  abbrev pub Flushes : DeskState D T → DeskState D T → SeatState → SeatState → Flushed → Type 0
  Flushes old new seat after answer =
      (reported : Result ℕ (Refusal F)) × (answer ≡ plain_answer reported)
      × Serves facts trace old new seat after event.Flush (flush_reply reported) × AgreesAt old

  -- the desk did this request with this result
  pub record WasDone (request : Request) (answer : Answer) : Type 0 where
    pub before : DeskState D T
    pub then : DeskState D T
    pub seat : SeatState
    pub after : SeatState
    pub done : Performs before then seat after request (Some answer)

  -- the desk flushed with this result
  pub record WasFlushed (flushed : Flushed) : Type 0 where
    pub before : DeskState D T
    pub then : DeskState D T
    pub seat : SeatState
    pub after : SeatState
    pub done : Flushes before then seat after flushed

  -- a request with a result was done with it
  abbrev pub HasDone : Request → Option Answer → Type 0
  HasDone request None = Unit {0}
  HasDone request (Some answer) = WasDone request answer

  -- the reply is the one that is due to this request, by its own result at the desk and that of a flush of the desk
  pub record Origin (request : Request) (reply : PlainReply) : Type 0 where
    pub answer : Option Answer
    pub flushed : Flushed
    pub done : HasDone request answer
    pub flush : WasFlushed flushed
    pub due : reply_due request answer flushed ≡ Some reply

  -- a request with a reply has its origin
  abbrev pub HasOrigin : Request → Option PlainReply → Type 0
  HasOrigin request None = Unit {0}
  HasOrigin request (Some reply) = Origin request reply
