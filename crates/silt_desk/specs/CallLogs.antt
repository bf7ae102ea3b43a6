-- Logs that only grow, whose word is their length, and places in the log of a desk's calls.
use Rattle.std.specs.Prelude.{◌≡◌, ◌==◌, ◌<◌, ℕ, true, IfSome, List, [], ◌∷◌, ◌++◌, length, MatchBool, MatchOption, Option, Some}
use mathlib.Core.List.{IsPrefix}
use Rattle.logbook.specs.Pages.{Book, Cell, Named, Step, View}
use Rattle.silt_event.specs.Events.{PlainReply}
use Rattle.silt_event.specs.declared.event.Event.{Event}
use Rattle.silt_event.specs.declared.event.Event.TheVariants as event
use Rattle.silt_desk.specs.declared.call.Caller.{Caller}
use Rattle.silt_desk.specs.declared.call.RecordedCall.{RecordedCall}
use Rattle.silt_desk.specs.History.{call}

-- the log's word is its length
pub record CountsLog {E : Type 0} (cells : List Cell) (log : List E) : Type 0 where
  pub words : cells ≡ (length log, true) ∷ (0, true) ∷ []

-- the word of a log
abbrev pub log_word : Book → Named
log_word book = record { tracked = true; key = 0; book = book }

-- the entry was added to all that had been seen; or the log was longer, and was seen
abbrev pub AddsEntry : {E : Type 0} → Step E → View E ℕ → ℕ → View E ℕ → Type 0
AddsEntry step before found after = MatchBool (found == step.old) (after.0 ≡ before.0 ++ step.ask ∷ []) (length after.0 ≡ found)

-- the second list begins with the first, and goes on
abbrev pub IsLonger : {E : Type 0} → List E → List E → Type 0
IsLonger shorter longer = IsPrefix shorter longer × (length shorter < length longer)

-- what contracts see of a beginning of a log of calls: the number of its shard, which log it is, and the calls
pub record CallsSeen : Type 0 where
  pub shard : ℕ
  pub book : Book
  pub calls : List RecordedCall

-- what contracts see of a place in a log of calls: the number of the log's shard, which log it is, the place, and the call there
pub record PlaceState : Type 0 where
  pub shard : ℕ
  pub book : Book
  pub number : ℕ
  pub at : Option RecordedCall

-- the place, if there is one, is in the log that is named for its shard, and has this call
abbrev pub PlacesCall : (ℕ → Option Book) → RecordedCall → Option PlaceState → Type 0
PlacesCall named c place = IfSome place (λ p. (Some p.book ≡ named p.shard) × (p.at ≡ Some c))

-- the call of an event was made for this session, unless it is a flush: that is made for all that wait
abbrev pub IsMadeFor : ℕ → Event → Caller → Type 0
IsMadeFor session event.Flush caller = Unit {0}
IsMadeFor session e caller = caller.session ≡ Some session

-- the place, if there is one, is in the log that is named for its shard, and has a call of this event with this reply, made for the session
abbrev pub PlacesEvent : (ℕ → Option Book) → ℕ → Event → PlainReply → Option PlaceState → Type 0
PlacesEvent named session e reply place =
    IfSome place (λ p. (Some p.book ≡ named p.shard) × ((caller : Caller) × IsMadeFor session e caller × (p.at ≡ Some (call caller e reply))))

-- the place, if there is one, is in the log that is named for its shard, and has a flush with this reply; it is made for all, so for any session
abbrev pub PlacesFlush : (ℕ → Option Book) → PlainReply → Option PlaceState → Type 0
PlacesFlush named reply place = PlacesEvent named 0 event.Flush reply place

-- no calls are logged
abbrev pub LogsNone : (List RecordedCall → Type 0) → Type 0
LogsNone Logs = (calls : List RecordedCall) → Logs calls → ⊥

-- these are the calls of a log, if there is one
abbrev pub HasLogged : Option CallsSeen → List RecordedCall → Type 0
HasLogged log calls = MatchOption log ⊥ (λ seen. calls ≡ seen.calls)

-- the log has this call more, or it is given up
abbrev pub LogsCall : Option CallsSeen → RecordedCall → Option CallsSeen → Type 0
LogsCall old c new = IfSome new (λ seen. MatchOption old ⊥ (λ before. seen.calls ≡ before.calls ++ c ∷ []))
