-- Which replies an event of a kind may have.
use Rattle.std.specs.Prelude.{Bool, true, false}
use Rattle.silt_event.specs.declared.event.Event.{Event}
use Rattle.silt_event.specs.declared.event.Event.TheVariants as event
use Rattle.silt_event.specs.declared.reply.Reply.{Reply}
use Rattle.silt_event.specs.declared.reply.Reply.TheVariants.{Accepted, Acknowledged, Found, Absent, Differs, Progress, Refused, Unsettled}
use Rattle.silt_inbox.specs.declared.answered.EventKind.{EventKind}
use Rattle.silt_inbox.specs.declared.answered.EventKind.TheVariants.{Put, Delete, Swap, Flush, Get, Convert, Merge}

-- an event without its contents
abbrev pub event_kind : Event → EventKind
event_kind (event.Put key value) = Put
event_kind (event.Delete key) = Delete
event_kind (event.Swap key old new) = Swap
event_kind event.Flush = Flush
event_kind (event.Get key) = Get
event_kind event.Convert = Convert
event_kind event.Merge = Merge

-- whether a kind of event may have a reply: a command Accepted or Unsettled, a swap also Differs, a get Found or Absent, and so on, and
-- each kind Refused
abbrev pub is_allowed : {F : Type 0} → EventKind → Reply F → Bool
is_allowed Put (Accepted n) = true
is_allowed Put (Unsettled n) = true
is_allowed Delete (Accepted n) = true
is_allowed Delete (Unsettled n) = true
is_allowed Swap (Accepted n) = true
is_allowed Swap (Unsettled n) = true
is_allowed Swap Differs = true
is_allowed Flush (Acknowledged n) = true
is_allowed Get (Found value) = true
is_allowed Get Absent = true
is_allowed Convert (Progress progress) = true
is_allowed Merge (Progress progress) = true
is_allowed kind (Refused refusal) = true
is_allowed kind reply = false
