-- What sessions are told, all together.
use Rattle.std.specs.Prelude.{◌≢◌, ℕ, ◌+◌, ◌≤◌, All, List, [], ◌∷◌, MatchOption, Option, Some, None, sum_by}
use mathlib.Core.List.{IsPrefix}
use Rattle.silt_event.specs.Events.{PlainReply}
use Rattle.silt_event.specs.declared.event.Event.{Event}
use Rattle.silt_desk.specs.declared.call.RecordedCall.{RecordedCall}
use Rattle.silt_desk.specs.History.{accepted_by, count_accepted}
use Rattle.silt_session.specs.Tolds.{AreInOrder, AsksBehind, ToldState, own_reply}

-- one read of a session: what it is told then, its events and their replies
pub record Read : Type 0 where
  pub told : ToldState
  pub events : List Event
  pub replies : List PlainReply

-- Reads of one session, one after the other: the events of each were asked behind all that was told before, the commands among them stand in
-- order, and what is told begins the log.
abbrev pub ReadsOn : List RecordedCall → ToldState → List Read → Type 0
ReadsOn log told [] = Unit {0}
ReadsOn log told (read ∷ reads) =
    AsksBehind told read.told × AreInOrder read.told read.events read.replies
    × MatchOption read.told.calls ⊥ (λ calls. IsPrefix calls log) × ReadsOn log read.told reads

-- a session: what it was told when it began, and its reads
pub record Reader : Type 0 where
  pub told : ToldState
  pub reads : List Read

-- how many commands an event's own call accepts: one or none
abbrev pub own_accepted : Option PlainReply → ℕ
own_accepted None = 0
own_accepted (Some made) = accepted_by made

-- how many of these events are commands whose replies say that they were accepted, settled or not
abbrev pub accepted_among : List Event → List PlainReply → ℕ
accepted_among (e ∷ events) (reply ∷ replies) = own_accepted (own_reply e reply) + accepted_among events replies
accepted_among events replies = 0

-- the same of all reads of a session
abbrev pub accepted_in : List Read → ℕ
accepted_in reads = sum_by (λ (read : Read). accepted_among read.events read.replies) reads

-- no two of these are the same session
abbrev pub AreApart : List Reader → Type 0
AreApart [] = Unit {0}
AreApart (reader ∷ readers) = All (λ (other : Reader). other.told.session ≢ reader.told.session) readers × AreApart readers

-- Sessions with different numbers, whatever they ask, are told of no more accepted commands than their log has.
abbrev pub LedgerLaw : Type 0
LedgerLaw = (log : List RecordedCall) (readers : List Reader) → AreApart readers → All (λ (r : Reader). ReadsOn log r.told r.reads) readers
    → sum_by (λ (r : Reader). accepted_in r.reads) readers ≤ count_accepted log
