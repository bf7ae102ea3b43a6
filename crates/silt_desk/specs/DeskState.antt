-- What contracts see of a desk, and what its calls do.
use Rattle.std.specs.Prelude.{◌≡◌, ◌⊎◌, ℕ, MatchBool, IfSome, Option}
use Rattle.std.specs.Option.{option_map}
use Rattle.silt_disk.specs.declared.disk.Disk.{Ghosts}
use Rattle.silt_store_set.specs.CoreState.{CoreState, Does}
use Rattle.silt_event.specs.Events.{plain}
use Rattle.silt_event.specs.declared.event.Event.{Event}
use Rattle.silt_event.specs.declared.refusal.Refusal.TheVariants.{NoMemory, HistoryFull}
use Rattle.silt_event.specs.declared.reply.Reply.{Reply}
use Rattle.silt_event.specs.declared.reply.Reply.TheVariants.{Refused}
use Rattle.silt_desk.specs.declared.trace.Trace.{Ghosts as TraceOf}
use Rattle.silt_desk.specs.History.{accepted_by, call, is_recorded}
use Rattle.silt_desk.specs.Seats.{IsSeatedAfter, SeatState, Totals, counted}

-- a store and the trace of its calls
pub record DeskState (D T : Type 0) : Type 0 where
  pub core : CoreState D
  pub trace : T

module _ {D F T : Type 0} (facts : Ghosts D F) (trace : TraceOf T) (old new : DeskState D T) (seat after : SeatState) (event : Event) (reply : Reply F) where
  -- the store did the event and gave the reply, and the trace recorded exactly this call, for the caller at this seat
  pub record Records : Type 0 where
    pub done : Does facts old.core new.core event reply
    pub recorded : trace.extends old.trace (call seat.caller event (plain reply)) new.trace
    pub seated : IsSeatedAfter trace.log seat (call seat.caller event (plain reply)) after

  -- why a call is not recorded: the history is full, or the trace or the store was out of memory
  abbrev pub UnrecordedCause : Reply F → Type 0
  UnrecordedCause (Refused HistoryFull) = trace.is_full old.trace
  UnrecordedCause (Refused NoMemory) = trace.takes_memory old.trace ⊎ Does facts old.core old.core event (Refused NoMemory)
  UnrecordedCause other = ⊥

  -- nothing is done, nothing is recorded, and the seat is as it was
  pub record Refuses : Type 0 where
    pub same : new ≡ old
    pub seated : after ≡ seat
    pub cause : UnrecordedCause reply

  -- what one call at the desk does: the store does it and the trace records it, or nothing happens at all
  abbrev pub Serves : Type 0
  Serves = MatchBool (is_recorded reply) Records Refuses

-- the trace counts the recorded calls, and so do the books, if there are any
abbrev pub CountsCalls : {T : Type 0} → (T → ℕ → ℕ → Type 0) → T → Option Totals → Type 0
CountsCalls counts trace books =
    (calls : ℕ) × (accepted : ℕ) × counts trace calls accepted × IfSome books (λ totals. (totals.calls ≡ calls) × (totals.accepted ≡ accepted))

-- what is noted of one call: it is recorded and counted, or nothing is noted
abbrev pub Notes : {T : Type 0} → TraceOf T → T → T → Option Totals → Option Totals → SeatState → SeatState → Event → Reply (Unit {0}) → Type 0
Notes trace old new books after_books seat after event reply =
    MatchBool (is_recorded reply)
    (trace.extends old (call seat.caller event reply) new × IsSeatedAfter trace.log seat (call seat.caller event reply) after × (after_books ≡ option_map (counted (accepted_by reply)) books))
    ((new ≡ old) × (after_books ≡ books) × (after ≡ seat))
