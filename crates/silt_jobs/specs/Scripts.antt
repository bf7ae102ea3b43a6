-- The lines of a script, and its output.
use Rattle.std.specs.Prelude.{Vec, ◌≡◌, ◌⊎◌, ◌+◌, ℕ, List, [], ◌∷◌, ◌++◌, All, Option, Some, None, Result, Ok, Err, MatchBool, codes}
use Rattle.std.specs.List.{slice_get}
use Rattle.std.specs.declared.alloc.Global.{Global}
use Rattle.silt_jobs.specs.Common.{empty, Appends, Consumes, IsAtEnd, InLimits, Shape, memory_content, memory_gave, Ghosts, MemDisk, MemFault, LifeReply, Refusal}
use Rattle.silt_jobs.specs.Common.{Reply, Map, HasValueOf, LivesRun, LineFault, asked_by, is_blank, lines_after, BadGeometry, LivesHistory}
use Rattle.silt_device.specs.Memory.{memory_failures, memory_syncs, memory_writes}
use Rattle.silt_device.specs.declared.life.Stop.{Stop as StopOf}
use Rattle.silt_event.specs.declared.event.Event.{Event as EventOf}
use Rattle.silt_event.specs.declared.reply.LifeReply.TheVariants.{NotOpened, Opened}
use Rattle.silt_event.specs.declared.reply.Reply.TheVariants.{Refused as RefusedReply}
use Rattle.silt_wire.specs.Replies.{fault_line, reply_text}
use Rattle.silt_jobs.specs.declared.jobs.transcript.LinePlace.{LinePlace}
use Rattle.silt_jobs.specs.declared.jobs.script_lines.Mark.{Mark}
use Rattle.silt_jobs.specs.declared.jobs.script_lines.Mark.TheVariants.{Event, Refused, Stop}
use Rattle.silt_jobs.specs.declared.jobs.script_lines.Reading.{Reading}
use Rattle.silt_jobs.specs.declared.jobs.script_lines.Script.{Script}
use Rattle.silt_jobs.specs.Stops.{stop_of}
use Rattle.silt_jobs.specs.NewStores.{IsNewStore, NewStoreCause}

-- ---- what the lines are

-- nothing is read yet
pub record HasReadNothing (reading : Reading) : Type 0 where
  pub marks : reading.marks.items ≡ []
  pub lives : reading.lives.items ≡ []
  pub stops : reading.stops.items ≡ []
  pub life : reading.life.items ≡ []

-- a stop line ends the life, and the next life has no events yet
pub record TakesStop (stop : StopOf) (old new : Reading) : Type 0 where
  pub marks : new.marks.items ≡ old.marks.items ++ Stop ∷ []
  pub lives : new.lives.items ≡ old.lives.items ++ old.life ∷ []
  pub stops : new.stops.items ≡ old.stops.items ++ stop ∷ []
  pub life : new.life.items ≡ []

-- a line that asks for an event adds it to the life
pub record TakesEvent (event : EventOf) (old new : Reading) : Type 0 where
  pub marks : new.marks.items ≡ old.marks.items ++ Event ∷ []
  pub lives : new.lives ≡ old.lives
  pub stops : new.stops ≡ old.stops
  pub life : new.life.items ≡ old.life.items ++ event ∷ []

-- a line without a valid request is marked with its fault
pub record TakesFault (fault : LineFault) (old new : Reading) : Type 0 where
  pub marks : new.marks.items ≡ old.marks.items ++ Refused fault ∷ []
  pub lives : new.lives ≡ old.lives
  pub stops : new.stops ≡ old.stops
  pub life : new.life ≡ old.life

abbrev pub TakesAsked : Result EventOf LineFault → Reading → Reading → Type 0
TakesAsked (Ok event) old new = TakesEvent event old new
TakesAsked (Err fault) old new = TakesFault fault old new

-- the stop of a stop line, and else the request of the line
abbrev pub TakesRequest : ℕ → List ℕ → Option StopOf → Reading → Reading → Type 0
TakesRequest value_len line (Some stop) old new = TakesStop stop old new
TakesRequest value_len line None old new = TakesAsked (asked_by value_len line) old new

-- a blank line is skipped
abbrev pub TakesLine : ℕ → List ℕ → Reading → Reading → Type 0
TakesLine value_len line old new = MatchBool (is_blank line) (new ≡ old) (TakesRequest value_len line (stop_of line) old new)

-- one line after the other
abbrev pub TakesLines : ℕ → List (List ℕ) → Reading → Reading → Type 0
TakesLines value_len [] old new = new ≡ old
TakesLines value_len (line ∷ lines) old new = (mid : Reading) × TakesLine value_len line old mid × TakesLines value_len lines mid new

-- the lines that these bytes end, after the pending ones
abbrev pub TakesBytes : ℕ → List ℕ → Reading → List ℕ → Reading → Type 0
TakesBytes value_len pending old bytes new = TakesLines value_len (lines_after pending bytes) old new

-- at the end of the script the last life ends
pub record EndsReading (reading : Reading) (script : Script) : Type 0 where
  pub marks : script.marks.items ≡ reading.marks.items
  pub lives : script.lives.items ≡ reading.lives.items ++ reading.life ∷ []
  pub stops : script.stops.items ≡ reading.stops.items

-- the script of these lines
abbrev pub Reads : ℕ → List (List ℕ) → Script → Type 0
Reads value_len lines script = (first : Reading) × (reading : Reading) × HasReadNothing first × TakesLines value_len lines first reading × EndsReading reading script

-- each value of a put or a swap has this length
pub record Fits (value_len : ℕ) (reading : Reading) : Type 0 where
  pub lives : All (λ life. All (HasValueOf value_len) life.items) reading.lives.items
  pub life : All (HasValueOf value_len) reading.life.items

-- ---- what is written

-- a reply as a line
abbrev pub reply_line : {F : Type 0} → Reply F → List ℕ
reply_line reply = reply_text reply ++ 10 ∷ []

-- the text at the beginning of a life: it is opened, or refused
abbrev pub opening_text : {F : Type 0} → Option (LifeReply F) → List ℕ
opening_text None = []
opening_text (Some (NotOpened refusal)) = reply_line (RefusedReply refusal)
opening_text (Some (Opened replies)) = codes "opened\n"

-- the reply in this place, if there is one
abbrev pub next_text : {F : Type 0} → Option (Reply F) → List ℕ
next_text None = []
next_text (Some reply) = reply_line reply

-- the text of an event's line: the event's reply, or none if its life was not opened
abbrev pub event_text : {F : Type 0} → Option (LifeReply F) → ℕ → List ℕ
event_text None at = []
event_text (Some (NotOpened refusal)) at = []
event_text (Some (Opened replies)) at = next_text (slice_get replies.items at)

-- the text of a line without a valid request: its refusal, or none if its life was not opened
abbrev pub fault_reported : {F : Type 0} → Option (LifeReply F) → LineFault → List ℕ
fault_reported None fault = []
fault_reported (Some (NotOpened refusal)) fault = []
fault_reported (Some (Opened replies)) fault = fault_line fault

-- the text for a line in its place: for a stop line `stopped`, and the beginning of the next life
abbrev pub mark_text : {F : Type 0} → List (LifeReply F) → LinePlace → Mark → List ℕ
mark_text lives place Event = event_text (slice_get lives place.life) place.reply
mark_text lives place (Refused fault) = fault_reported (slice_get lives place.life) fault
mark_text lives place Stop = codes "stopped\n" ++ opening_text (slice_get lives (place.life + 1))

-- the place after a line
abbrev pub place_after : LinePlace → Mark → LinePlace
place_after place Event = record { life = place.life; reply = place.reply + 1 }
place_after place (Refused fault) = place
place_after place Stop = record { life = place.life + 1; reply = 0 }

-- the place after lines
abbrev pub place_past : LinePlace → List Mark → LinePlace
place_past place [] = place
place_past place (mark ∷ marks) = place_past (place_after place mark) marks

-- the texts of the lines, one after the other
abbrev pub marks_text : {F : Type 0} → List (LifeReply F) → LinePlace → List Mark → List ℕ
marks_text lives place [] = []
marks_text lives place (mark ∷ marks) = mark_text lives place mark ++ marks_text lives (place_after place mark) marks

-- before the first line
abbrev pub start : LinePlace
start = record { life = 0; reply = 0 }

-- the output of a script: the beginning of its first life, and then the texts of its lines
abbrev pub script_text : {F : Type 0} → List (LifeReply F) → List Mark → List ℕ
script_text lives marks = opening_text (slice_get lives 0) ++ marks_text lives start marks

-- ---- the whole

-- the facts of a disk in memory
abbrev pub memory_facts : Ghosts MemDisk MemFault
memory_facts = record { content = memory_content; failures = memory_failures; writes = memory_writes; syncs = memory_syncs; gave = memory_gave }

-- The lives and their replies are a history from the empty map. They ran on a new store of this shape, armed with these stops.
abbrev pub RunsLives : Shape → List StopOf → List (Vec EventOf Global) → List (LifeReply MemFault) → Type 0
RunsLives shape stops lives replies =
    ((to : Map) × LivesHistory empty lives replies to)
    × ((disk : MemDisk) × IsNewStore shape stops disk × LivesRun memory_facts shape.value_len lives replies disk)

-- A script that succeeded. The reader was read to its end. The lives of its lines ran on a new store of this shape, from the empty map.
-- Exactly the output of the script was written, with the replies of these lives.
abbrev pub EndsScript : Shape → Option (List ℕ) → Option (List ℕ) → Option (List ℕ) → Option (List ℕ) → Type 0
EndsScript shape remaining left before after =
    (read : List ℕ) × Consumes remaining left read × IsAtEnd left
    × (script : Script) × Reads shape.value_len (lines_after [] read) script
    × (replies : List (LifeReply MemFault)) × RunsLives shape script.stops.items script.lives.items replies
    × Appends before after (script_text replies script.marks.items)

-- why the whole script is refused: a number is out of its limits, or no new store was made
abbrev pub ScriptCause : Shape → Refusal MemFault → Type 0
ScriptCause shape BadGeometry = ¬ InLimits shape
ScriptCause shape refusal = NewStoreCause shape refusal

-- one line was written, which says why the whole script is refused
abbrev pub PrintsRefusal : Shape → Option (List ℕ) → Option (List ℕ) → Type 0
PrintsRefusal shape before after = (refusal : Refusal MemFault) × ScriptCause shape refusal × Appends before after (reply_line (RefusedReply refusal))

-- a script of a store of this shape ended with this status: it was answered, or refused
abbrev pub AnswersScript : Shape → Option (List ℕ) → Option (List ℕ) → Option (List ℕ) → Option (List ℕ) → ℕ → Type 0
AnswersScript shape remaining left before after status =
    ((status ≡ 0) × EndsScript shape remaining left before after) ⊎ ((status ≡ 1) × PrintsRefusal shape before after)
