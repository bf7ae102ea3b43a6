-- Requests to the writer, and their replies.
use Rattle.std.specs.Prelude.{◌≡◌, ℕ, Bool, true, false, nat_le, if◌then◌else◌, Option, Some, None, Result, Ok, Err, List, map}
use Rattle.silt_frame.specs.declared.key.Key.{Key}
use Rattle.silt_event.specs.Events.{PlainReply}
use Rattle.silt_event.specs.declared.event.Event.{Event}
use Rattle.silt_event.specs.declared.event.Event.TheVariants as event
use Rattle.silt_event.specs.declared.refusal.Refusal.{Refusal}
use Rattle.silt_event.specs.declared.refusal.Refusal.TheVariants as refusal_case
use Rattle.silt_event.specs.declared.reply.Reply.TheVariants.{Accepted, Acknowledged, Differs, Refused, Unsettled}
use Rattle.silt_session.specs.declared.job.Request.{Request}
use Rattle.silt_session.specs.declared.job.Request.TheVariants.{Put, Delete, Swap, Flush}

-- the result of a flush at the desk, without its fault
abbrev pub Flushed : Type 0
Flushed = Result ℕ (Refusal (Unit {0}))

-- the result of a command at the desk, without its fault: the number of an accepted one, or none if a swap's old value differs
abbrev pub Answer : Type 0
Answer = Result (Option ℕ) (Refusal (Unit {0}))

-- a put and a delete compare nothing
abbrev pub compared : Flushed → Answer
compared (Ok n) = Ok (Some n)
compared (Err refusal) = Err refusal

-- the event of a request
abbrev pub asked_event : Request → Event
asked_event (Put key value) = event.Put key value
asked_event (Delete key) = event.Delete key
asked_event (Swap key old new) = event.Swap key old new
asked_event Flush = event.Flush

-- the key that an event may change
abbrev pub changed_key : Event → Option Key
changed_key (event.Put key value) = Some key
changed_key (event.Delete key) = Some key
changed_key (event.Swap key old new) = Some key
changed_key event = None

-- an event that is not for the writer: a look-up or a step
abbrev pub IsNoRequest : Event → Type 0
IsNoRequest (event.Get key) = Unit {0}
IsNoRequest event.Convert = Unit {0}
IsNoRequest event.Merge = Unit {0}
IsNoRequest event = ⊥

-- the refusal says that the device failed, in this call or in an earlier one
abbrev pub is_failure : Refusal (Unit {0}) → Bool
is_failure (refusal_case.Device fault) = true
is_failure refusal_case.Failed = true
is_failure other = false

-- the reply to a flush with this result
abbrev pub acknowledged : Flushed → PlainReply
acknowledged (Ok n) = Acknowledged n
acknowledged (Err refusal) = Refused refusal

-- the reply to a command with this result, after a flush with that one: an accepted command is unsettled if the flush is refused or
-- acknowledges fewer commands, and a swap that differs has that reply whether or not the flush is refused
abbrev pub changed : Answer → Flushed → PlainReply
changed (Err refusal) flushed = Refused refusal
changed (Ok None) flushed = Differs
changed (Ok (Some n)) (Ok m) = if nat_le n m then Accepted n else Unsettled n
changed (Ok (Some n)) (Err refusal) = Unsettled n

-- the reply to a request, by its own result and that of its batch's flush: no reply to a command that was not done
abbrev pub reply_due : Request → Option Answer → Flushed → Option PlainReply
reply_due Flush answer flushed = Some (acknowledged flushed)
reply_due (Put key value) (Some (Ok None)) flushed = None
reply_due (Put key value) (Some answer) flushed = Some (changed answer flushed)
reply_due (Delete key) (Some (Ok None)) flushed = None
reply_due (Delete key) (Some answer) flushed = Some (changed answer flushed)
reply_due (Swap key old new) (Some answer) flushed = Some (changed answer flushed)
reply_due request None flushed = None

-- what contracts see of a task: the number of the session that asks, the request, its result at the desk if it was done, and its reply if there is one
pub record TaskState : Type 0 where
  pub session : ℕ
  pub request : Request
  pub answer : Option Answer
  pub reply : Option PlainReply

-- the requests of tasks, in order
abbrev pub requests_of : List TaskState → List Request
requests_of tasks = map (λ (t : TaskState). t.request) tasks

-- a request for which nothing is done yet
abbrev pub IsNew : Request → TaskState → Type 0
IsNew request task = (task.request ≡ request) × (task.answer ≡ None) × (task.reply ≡ None)
