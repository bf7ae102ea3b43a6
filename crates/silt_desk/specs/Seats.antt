-- Seats, as contracts see them.
use Rattle.std.specs.Prelude.{◌≡◌, ℕ, List, ◌+◌, Option, Some, None, sum_by}
use Rattle.std.specs.Option.{option_map, unwrap_or}
use Rattle.logbook.specs.Pages.{Book}
use Rattle.silt_desk.specs.declared.call.Caller.{Caller}
use Rattle.silt_desk.specs.declared.call.RecordedCall.{RecordedCall}
use Rattle.silt_desk.specs.CallLogs.{PlaceState, PlacesCall}
use Rattle.silt_desk.specs.History.{accepted_by, caller_alone, caller_for}

-- how many calls are recorded, and how many of them are accepted commands
pub record Totals : Type 0 where
  pub calls : ℕ
  pub accepted : ℕ

-- a seat: who calls from it, what is counted of its calls, if the desk keeps books, and the place of its last recorded call, if the trace has a log
pub record SeatState : Type 0 where
  pub caller : Caller
  pub counts : Option Totals
  pub last : Option PlaceState

-- what is counted of a seat's calls, or nothing
abbrev pub counts_of : SeatState → Totals
counts_of seat = unwrap_or seat.counts (record { calls = 0; accepted = 0 })

-- the recorded calls of these seats, added up
abbrev pub calls_of : List SeatState → ℕ
calls_of seats = sum_by (λ (seat : SeatState). (counts_of seat).calls) seats

-- the accepted commands of these seats, added up
abbrev pub accepted_of : List SeatState → ℕ
accepted_of seats = sum_by (λ (seat : SeatState). (counts_of seat).accepted) seats

-- the seat, whose calls are made for this session
abbrev pub for_session : ℕ → SeatState → SeatState
for_session session seat = record { caller = caller_for seat.caller.seat session; counts = seat.counts; last = seat.last }

-- the seat of this number before any call
abbrev pub fresh : ℕ → SeatState
fresh number = record { caller = caller_alone number; counts = Some (record { calls = 0; accepted = 0 }); last = None }

-- the seat of this number at a desk without books
abbrev pub unbooked : ℕ → SeatState
unbooked number = record { caller = caller_alone number; counts = None; last = None }

-- the totals after one more recorded call
abbrev pub counted : ℕ → Totals → Totals
counted accepted totals = record { calls = totals.calls + 1; accepted = totals.accepted + accepted }

-- the seat after one more recorded call, which is counted if the desk keeps books
abbrev pub after_call : SeatState → ℕ → SeatState
after_call seat accepted = record { caller = seat.caller; counts = option_map (counted accepted) seat.counts; last = seat.last }

-- the seat after this recorded call: the same one calls from it, it is counted, and the seat has its place in the log that is named for its shard, if there is one
pub record IsSeatedAfter (named : ℕ → Option Book) (seat : SeatState) (c : RecordedCall) (after : SeatState) : Type 0 where
  pub caller : after.caller ≡ seat.caller
  pub counts : after.counts ≡ (after_call seat (accepted_by c.reply)).counts
  pub place : PlacesCall named c after.last
