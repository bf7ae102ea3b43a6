-- Batches of events, and what was gathered of the bytes of one read.
use Rattle.std.specs.Prelude.{◌≡◌, ◌≤◌, ◌+◌, ℕ, List, [], ◌∷◌, All, map, Option, Some, None, Result, Ok, Err, vec_capacity, vec_len}
use Rattle.silt_event.specs.declared.event.Event.{Event}
use Rattle.silt_event.specs.Events.{HasValueOf}
use Rattle.silt_event.specs.Queries.{Query, admin, does}
use Rattle.silt_wire.specs.declared.batch.Batch.{Batch}
use Rattle.silt_wire.specs.declared.batch.Tail.{Tail}
use Rattle.silt_wire.specs.declared.batch.Tail.TheVariants.{Admin, Fault}
use Rattle.silt_wire.specs.declared.line.LineFault.{LineFault}

-- the values of the events have this length, and there is room for a reply to each event
pub record IsAnswerable (value_len : ℕ) (batch : Batch) : Type 0 where
  pub values : All (HasValueOf value_len) batch.events.items
  pub none : batch.replies.items ≡ []
  pub room : vec_len batch.replies + vec_len batch.events ≤ vec_capacity batch.replies

-- an event as what a line asks for
abbrev pub event_query : Event → Result Query LineFault
event_query event = Ok (does event)

-- events as what lines ask for
abbrev pub valid : List Event → List (Result Query LineFault)
valid events = map event_query events

abbrev pub requests : Batch → List (Result Query LineFault)
requests batch = valid batch.events.items

-- what a line that ends a batch asks for
abbrev pub tail_asked : Tail → Result Query LineFault
tail_asked (Fault fault) = Err fault
tail_asked (Admin command) = Ok (admin command)

-- the line after the events, if there is one
abbrev pub tail_after : Option Tail → List (Result Query LineFault)
tail_after None = []
tail_after (Some tail) = tail_asked tail ∷ []
