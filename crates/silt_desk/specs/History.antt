-- Recorded calls, and what they do to a map.
use Rattle.std.specs.Prelude.{◌≡◌, ◌≢◌, ℕ, ◌+◌, ◌==◌, Bool, true, false, List, [], ◌∷◌, ◌++◌, map, if◌then◌else◌, Some, None}
use Rattle.silt_event.specs.Commands.{Command, Map}
use Rattle.silt_event.specs.Events.{Legal, accepted_commands}
use Rattle.silt_event.specs.declared.event.Event.{Event}
use Rattle.silt_event.specs.declared.refusal.Refusal.TheVariants.{NoMemory, HistoryFull}
use Rattle.silt_event.specs.declared.reply.Reply.{Reply}
use Rattle.silt_event.specs.declared.reply.Reply.TheVariants.{Accepted, Refused}
use Rattle.silt_desk.specs.declared.call.Caller.{Caller}
use Rattle.silt_desk.specs.declared.call.RecordedCall.{RecordedCall}

-- a caller at the seat of this number, for no session
abbrev pub caller_alone : ℕ → Caller
caller_alone number = record { seat = number; session = None }

-- a caller at the seat of this number, for a session
abbrev pub caller_for : ℕ → ℕ → Caller
caller_for number session = record { seat = number; session = Some session }

-- a call: its caller, its event and its reply
abbrev pub call : Caller → Event → Reply (Unit {0}) → RecordedCall
call caller event reply = record { caller = caller; event = event; reply = reply }

-- whether a call with this reply is recorded: every call is, unless it was out of memory or the history was full
abbrev pub is_recorded : {F : Type 0} → Reply F → Bool
is_recorded (Refused NoMemory) = false
is_recorded (Refused HistoryFull) = false
is_recorded reply = true

-- how many commands a reply accepts: one or none
abbrev pub accepted_by : {F : Type 0} → Reply F → ℕ
accepted_by (Accepted n) = 1
accepted_by reply = 0

-- how many of these calls are accepted commands
abbrev pub count_accepted : List RecordedCall → ℕ
count_accepted [] = 0
count_accepted (c ∷ calls) = accepted_by c.reply + count_accepted calls

-- the events of these calls, in order
abbrev pub called_events : List RecordedCall → List Event
called_events calls = map (λ (c : RecordedCall). c.event) calls

-- the replies of these calls, in order
abbrev pub replies_of : List RecordedCall → List (Reply (Unit {0}))
replies_of calls = map (λ (c : RecordedCall). c.reply) calls

-- the accepted commands, in order
abbrev pub commands_of : List RecordedCall → List Command
commands_of calls = accepted_commands (called_events calls) (replies_of calls)

-- the calls of one seat, in order
abbrev pub calls_of_seat : ℕ → List RecordedCall → List RecordedCall
calls_of_seat seat [] = []
calls_of_seat seat (c ∷ calls) = if c.caller.seat == seat then c ∷ calls_of_seat seat calls else calls_of_seat seat calls

-- a call of one seat leaves the calls of every other seat as they are
abbrev pub OthersStayLaw : Type 0
OthersStayLaw = (other : ℕ) (calls : List RecordedCall) (c : RecordedCall) → c.caller.seat ≢ other → calls_of_seat other (calls ++ c ∷ []) ≡ calls_of_seat other calls

-- The calls are a history of one thread: a plain map that does them one after the other gives these replies, and goes from the first
-- count and map to the last.
abbrev pub Replays : ℕ → Map → List RecordedCall → ℕ → Map → Type 0
Replays count opening calls end to = Legal count opening (called_events calls) (replies_of calls) end to
