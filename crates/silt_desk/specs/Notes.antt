-- A call with its result, before the bytes of a value are copied.
use Rattle.std.specs.Prelude.{ℕ, Bool, true, false, List, Option, Some, None, Result, Ok, Err}
use Rattle.silt_event.specs.Events.{plain_refusal}
use Rattle.silt_store_set.specs.Replies.{change_reply, flush_reply, get_reply, progress_reply, swap_reply}
use Rattle.silt_event.specs.declared.event.Event.{Event}
use Rattle.silt_event.specs.declared.event.Event.TheVariants as event
use Rattle.silt_event.specs.declared.refusal.Refusal.{Refusal}
use Rattle.silt_event.specs.declared.reply.Reply.{Reply}
use Rattle.silt_desk.specs.declared.call.Note.{Note}
use Rattle.silt_desk.specs.declared.call.Note.TheVariants.{Put, Delete, Swap, Flush, Get, Convert, Merge}

-- a result without its fault
abbrev pub plain_answer : {A F : Type 0} → Result A (Refusal F) → Result A (Refusal (Unit {0}))
plain_answer (Ok a) = Ok a
plain_answer (Err refusal) = Err (plain_refusal refusal)

-- a value of these bytes, if there is one
abbrev pub given : Bool → List ℕ → Option (List ℕ)
given true value = Some value
given false value = None

-- the event of a call with the bytes of its value and, for a swap, of the new value
abbrev pub noted_event : Note → List ℕ → List ℕ → Event
noted_event (Put key answer) value second = event.Put key value
noted_event (Delete key answer) value second = event.Delete key
noted_event (Swap key has_old has_new answer) value second = event.Swap key (given has_old value) (given has_new second)
noted_event (Flush answer) value second = event.Flush
noted_event (Get key answer) value second = event.Get key
noted_event (Convert answer) value second = event.Convert
noted_event (Merge answer) value second = event.Merge

-- the reply of a call; these are the bytes that a get found
abbrev pub reply_of : Note → List ℕ → Reply (Unit {0})
reply_of (Put key answer) value = change_reply answer
reply_of (Delete key answer) value = change_reply answer
reply_of (Swap key has_old has_new answer) value = swap_reply answer
reply_of (Flush answer) value = flush_reply answer
reply_of (Get key answer) value = get_reply value answer
reply_of (Convert answer) value = progress_reply answer
reply_of (Merge answer) value = progress_reply answer
