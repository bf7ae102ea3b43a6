-- Events that get no reply of the store.
use Rattle.silt_event.specs.Events.{PlainReply}
use Rattle.silt_event.specs.declared.refusal.Refusal.TheVariants as refusal
use Rattle.silt_event.specs.declared.reply.Reply.TheVariants.{Refused, NotServed}
use Rattle.silt_session.specs.declared.unanswered.Unanswered.{Unanswered}
use Rattle.silt_session.specs.declared.unanswered.Unanswered.TheVariants.{Lost, NoMemory}

-- the reply that an event has if it gets none of the store: after a loss it may have been done, and the reply is not sent
abbrev pub reply_without : Unanswered → PlainReply
reply_without Lost = NotServed
reply_without NoMemory = Refused refusal.NoMemory
